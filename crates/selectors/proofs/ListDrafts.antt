-- Drafts of lists.
use Rattle.std.proofs.Common.{append-nil, ◌&&◌, ◌≡◌, ◌∙◌, ap, sym, refl, List, [], ◌∷◌, map, Bool, true, false, inl, inr}
use Rattle.std.proofs.lemmas.Bool.{cases_Bool}
use Rattle.selectors_model.specs.declared.combinator.Combinator.{Combinator}
use Rattle.selectors_model.specs.declared.combinator.Combinator.TheVariants.{Descendant}
use Rattle.selectors_model.specs.Grammar.{Atom, white, comma, combinator, is_comma, with_descendants, between_commas, in_first}
use Rattle.selectors.specs.declared.reading.atoms.Part.{Part}
use Rattle.selectors.specs.declared.reading.atoms.Part.TheVariants.{Dot, Colon, Star, Word, Whole, Function, Other}
use Rattle.selectors.specs.declared.reading.complex.SelectorDraft.{SelectorDraft}
use Rattle.selectors.specs.declared.reading.lists.Gap.{Gap}
use Rattle.selectors.specs.declared.reading.lists.Gap.TheVariants as gap
use Rattle.selectors.specs.declared.reading.lists.ListDraft.{ListDraft}
use Rattle.selectors.specs.declared.reading.lists.Members.{Members}
use Rattle.selectors.specs.Views.{list_of_selectors, selector_view, list_view}
use Rattle.selectors.specs.inner.Atoms.{part_view}
use Rattle.selectors.specs.inner.Drafts.{TakesAtom, TakesInList, EndsMember, HasOutcome, spaced, after_white, members_from, selector_after, no_selector, outcome, outcome_after}

-- ---- white space

spaced-white : (g : Gap) (atoms : List Atom) → spaced (after_white g) atoms ≡ spaced g (white ∷ atoms)
spaced-white gap.None atoms = refl
spaced-white gap.Compound atoms = refl
spaced-white gap.White atoms = refl

spaced-comma : (g : Gap) (atoms : List Atom) → spaced g (comma ∷ atoms) ≡ comma ∷ spaced gap.None atoms
spaced-comma gap.None atoms = refl
spaced-comma gap.Compound atoms = refl
spaced-comma gap.White atoms = refl

spaced-combinator : (g : Gap) (by : Combinator) (atoms : List Atom)
    → spaced g (combinator by ∷ atoms) ≡ combinator by ∷ spaced gap.None atoms
spaced-combinator gap.None by atoms = refl
spaced-combinator gap.Compound by atoms = refl
spaced-combinator gap.White by atoms = refl

descended-part : (p : Part) (b : Bool) (atoms : List Atom)
    → with_descendants b (part_view p ∷ atoms) ≡ part_view p ∷ with_descendants true atoms
descended-part Dot b atoms = refl
descended-part Colon b atoms = refl
descended-part Star b atoms = refl
descended-part (Word name) b atoms = refl
descended-part (Whole s) b atoms = refl
descended-part (Function name s) b atoms = refl
descended-part Other b atoms = refl

spaced-part : (g : Gap) (p : Part) (atoms : List Atom) → (g ≡ gap.White → ⊥)
    → spaced g (part_view p ∷ atoms) ≡ part_view p ∷ spaced gap.Compound atoms
spaced-part gap.None p atoms n = descended-part p false atoms
spaced-part gap.Compound p atoms n = descended-part p true atoms
spaced-part gap.White p atoms n = absurd (n refl)

spaced-descendant : (p : Part) (atoms : List Atom)
    → spaced gap.White (part_view p ∷ atoms) ≡ combinator Descendant ∷ (part_view p ∷ spaced gap.Compound atoms)
spaced-descendant Dot atoms = refl
spaced-descendant Colon atoms = refl
spaced-descendant Star atoms = refl
spaced-descendant (Word name) atoms = refl
spaced-descendant (Whole s) atoms = refl
spaced-descendant (Function name s) atoms = refl
spaced-descendant Other atoms = refl

-- ---- members

-- an atom that was taken belongs to the first member
in_first-taken : (old new : SelectorDraft) (a : Atom) (lists : List (List Atom)) → TakesAtom old a new
    → members_from new lists ≡ members_from old (in_first a lists)
in_first-taken old new a [] t = ap (λ s. s ∷ []) (t.selector [])
in_first-taken old new a (atoms ∷ lists) t =
    ap (λ s. s ∷ map (selector_after (no_selector new.in_function)) lists) (t.selector atoms)
    ∙ ap (λ f. selector_after old (a ∷ atoms) ∷ map (selector_after (no_selector f)) lists) t.place

member-taken : (old new : SelectorDraft) (a : Atom) (atoms : List Atom) → is_comma a ≡ false → TakesAtom old a new
    → members_from new (between_commas atoms) ≡ members_from old (between_commas (a ∷ atoms))
member-taken old new a atoms n t = rw n (in_first-taken old new a (between_commas atoms) t)

part-no-comma : (p : Part) → is_comma (part_view p) ≡ false
part-no-comma Dot = refl
part-no-comma Colon = refl
part-no-comma Star = refl
part-no-comma (Word name) = refl
part-no-comma (Whole s) = refl
part-no-comma (Function name s) = refl
part-no-comma Other = refl

members-none : (f : Bool) (a : Atom) (lists : List (List Atom))
    → members_from (no_selector f) (in_first a lists) ≡ map (selector_after (no_selector f)) (in_first a lists)
members-none f a [] = refl
members-none f a (atoms ∷ lists) = refl

-- where no member was begun, each is read anew
pub members-new : (f : Bool) (atoms : List Atom)
    → members_from (no_selector f) (between_commas atoms) ≡ map (selector_after (no_selector f)) (between_commas atoms)
members-new f [] = refl
members-new f (a ∷ atoms) = elim (cases_Bool (is_comma a)) [
  | inl t ↦ rw t refl
  | inr n ↦ rw n (members-none f a (between_commas atoms))
]

-- ---- what is taken

pub white-taken : (d : ListDraft) (g : Gap) → g ≡ after_white d.gap
    → TakesInList d white (record { members = d.members; are_valid = d.are_valid; gap = g; selector = d.selector })
white-taken d g is = λ atoms.
    ap (λ l. outcome d (members_from d.selector (between_commas l))) (ap (λ h. spaced h atoms) is ∙ spaced-white d.gap atoms)

pub comma-taken : (d ended : ListDraft) → EndsMember d ended
    → TakesInList d comma
    (record { members = ended.members; are_valid = ended.are_valid; gap = gap.None; selector = ended.selector })
comma-taken d ended e = λ atoms.
    let lists : List (List Atom) = between_commas (spaced gap.None atoms) in
    ap (λ s. outcome ended (members_from s lists)) e.selector
    ∙ (ap (outcome ended) (members-new d.selector.in_function (spaced gap.None atoms))
    ∙ (e.members (map (selector_after (no_selector d.selector.in_function)) lists)
    ∙ sym (ap (λ l. outcome d (members_from d.selector (between_commas l))) (spaced-comma d.gap atoms))))

pub combinator-taken : (d : ListDraft) (new : SelectorDraft) (by : Combinator)
    → TakesAtom d.selector (combinator by) new
    → TakesInList d (combinator by)
    (record { members = d.members; are_valid = d.are_valid; gap = gap.None; selector = new })
combinator-taken d new by t = λ atoms.
    ap (outcome d) (member-taken d.selector new (combinator by) (spaced gap.None atoms) refl t)
    ∙ sym (ap (λ l. outcome d (members_from d.selector (between_commas l))) (spaced-combinator d.gap by atoms))

pub part-taken : (d : ListDraft) (new : SelectorDraft) (p : Part) → (d.gap ≡ gap.White → ⊥)
    → TakesAtom d.selector (part_view p) new
    → TakesInList d (part_view p)
    (record { members = d.members; are_valid = d.are_valid; gap = gap.Compound; selector = new })
part-taken d new p n t = λ atoms.
    ap (outcome d) (member-taken d.selector new (part_view p) (spaced gap.Compound atoms) (part-no-comma p) t)
    ∙ sym (ap (λ l. outcome d (members_from d.selector (between_commas l))) (spaced-part d.gap p atoms n))

pub descendant-taken : (d : ListDraft) (mid new : SelectorDraft) (p : Part) → d.gap ≡ gap.White
    → TakesAtom d.selector (combinator Descendant) mid → TakesAtom mid (part_view p) new
    → TakesInList d (part_view p)
    (record { members = d.members; are_valid = d.are_valid; gap = gap.Compound; selector = new })
descendant-taken d mid new p is t u = λ atoms.
    ap (outcome d) (member-taken mid new (part_view p) (spaced gap.Compound atoms) (part-no-comma p) u
    ∙ member-taken d.selector mid (combinator Descendant) (part_view p ∷ spaced gap.Compound atoms) refl t)
    ∙ sym (ap (λ l. outcome d (members_from d.selector (between_commas l)))
    (ap (λ g. spaced g (part_view p ∷ atoms)) is ∙ spaced-descendant p atoms))

-- ---- the end of a list

spaced-end : (g : Gap) → spaced g [] ≡ []
spaced-end gap.None = refl
spaced-end gap.Compound = refl
spaced-end gap.White = refl

pub ended-outcome : (d ended : ListDraft) → EndsMember d ended → outcome ended [] ≡ outcome_after d []
ended-outcome d ended e =
    e.members [] ∙ sym (ap (λ l. outcome d (members_from d.selector (between_commas l))) (spaced-end d.gap))

and-true : (b : Bool) → (b && true) ≡ b
and-true true = refl
and-true false = refl

pub finished : (d ended : ListDraft) (read : Members) → EndsMember d ended
    → list_view read.list ≡ list_of_selectors (map selector_view ended.members) → read.are_valid ≡ ended.are_valid
    → HasOutcome read (outcome_after d [])
finished d ended read e list all =
    let last : outcome ended [] ≡ outcome_after d [] = ended-outcome d ended e in
    record {
      valid = list ∙ (ap list_of_selectors (sym (append-nil (map selector_view ended.members))) ∙ ap (λ o. list_of_selectors o.valid) last);
      are_valid = all ∙ (sym (and-true ended.are_valid) ∙ ap (λ o. o.are_valid) last);
    }
