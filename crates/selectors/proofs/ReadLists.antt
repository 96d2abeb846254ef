-- What is read at last.
use Rattle.std.proofs.Common.{◌≡◌, ◌∙◌, ap, ap₂, sym, refl, ◌&&◌, List, [], ◌∷◌, map, Option, Some, None, option_map, Bool, true, false}
use Rattle.std.specs.Prelude.{if◌then◌else◌}
use Rattle.selectors_model.specs.declared.combinator.Combinator.{Combinator}
use Rattle.selectors_model.specs.Grammar.{Atom, chain_of, compound_of, followed_by, followed_by_all, selector_of_chain, with_descendants, between_commas, in_front_of_list, list_of_all, list_of_valid, compound_has_pseudo_element, has_pseudo_element, in_function}
use Rattle.selectors_model.specs.Selectors as model
use Rattle.selectors.specs.declared.reading.lists.Members.{Members}
use Rattle.selectors.specs.Views.{list_of_selectors, list_view}
use Rattle.selectors.specs.inner.Drafts.{permitted, goes_on, selector_after, no_selector, valid_of, are_valid, Outcome, outcome_after, no_members, HasOutcome, IsRead, members_in}
use Rattle.selectors.proofs.ListDrafts.{members-new}

-- ---- where pseudo-elements may be

permitted-if : (b : Bool) (c : model.Compound) → (if b && false then None else Some c) ≡ Some c
permitted-if true c = refl
permitted-if false c = refl

permitted-outside : (c : Option model.Compound) → permitted false c ≡ c
permitted-outside None = refl
permitted-outside (Some c) = permitted-if (compound_has_pseudo_element c) c

goes_on-outside : (s : Option model.Selector) (links : List (Combinator × List Atom)) → goes_on false s links ≡ followed_by_all s links
goes_on-outside s [] = refl
goes_on-outside s (link ∷ links) =
    ap (λ c. goes_on false (followed_by s link.0 c) links) (permitted-outside (compound_of link.1))
    ∙ goes_on-outside (followed_by s link.0 (compound_of link.1)) links

outside : (atoms : List Atom) → selector_after (no_selector false) atoms ≡ selector_of_chain (chain_of atoms)
outside atoms =
    ap (λ c. goes_on false (option_map (λ d. model.compound d) c) (chain_of atoms).links) (permitted-outside (compound_of (chain_of atoms).first))
    ∙ goes_on-outside (option_map (λ d. model.compound d) (compound_of (chain_of atoms).first)) (chain_of atoms).links

-- ---- where none may be

followed-if : (b c : Bool) (s : model.Selector) (by : Combinator) (d : model.Compound)
    → (if (if c then true else b) then None else Some (model.combined s by d))
    ≡ followed_by (if b then None else Some s) by (if c && true then None else Some d)
followed-if true true s by d = refl
followed-if true false s by d = refl
followed-if false true s by d = refl
followed-if false false s by d = refl

none-if : (b : Bool) (s : model.Selector) (by : Combinator) → None ≡ followed_by (if b then None else Some s) by None
none-if true s by = refl
none-if false s by = refl

followed-in : (s : Option model.Selector) (by : Combinator) (d : Option model.Compound)
    → in_function (followed_by s by d) ≡ followed_by (in_function s) by (permitted true d)
followed-in None by d = refl
followed-in (Some s) by None = none-if (has_pseudo_element s) s by
followed-in (Some s) by (Some d) = followed-if (has_pseudo_element s) (compound_has_pseudo_element d) s by d

goes_on-in : (s : Option model.Selector) (links : List (Combinator × List Atom))
    → goes_on true (in_function s) links ≡ in_function (followed_by_all s links)
goes_on-in s [] = refl
goes_on-in s (link ∷ links) =
    ap (λ t. goes_on true t links) (sym (followed-in s link.0 (compound_of link.1)))
    ∙ goes_on-in (followed_by s link.0 (compound_of link.1)) links

first-if : (b : Bool) (c : model.Compound)
    → option_map (λ d. model.compound d) (if b && true then None else Some c) ≡ (if b then None else Some (model.compound c))
first-if true c = refl
first-if false c = refl

first-in : (c : Option model.Compound)
    → option_map (λ d. model.compound d) (permitted true c) ≡ in_function (option_map (λ d. model.compound d) c)
first-in None = refl
first-in (Some c) = first-if (compound_has_pseudo_element c) c

inside : (atoms : List Atom) → selector_after (no_selector true) atoms ≡ in_function (selector_of_chain (chain_of atoms))
inside atoms =
    ap (λ s. goes_on true s (chain_of atoms).links) (first-in (compound_of (chain_of atoms).first))
    ∙ goes_on-in (option_map (λ d. model.compound d) (compound_of (chain_of atoms).first)) (chain_of atoms).links

-- ---- members

all-outside : (lists : List (List Atom))
    → map (selector_after (no_selector false)) lists ≡ map (λ m. selector_of_chain (chain_of m)) lists
all-outside [] = refl
all-outside (m ∷ lists) = ap₂ (λ s ss. s ∷ ss) (outside m) (all-outside lists)

all-inside : (lists : List (List Atom))
    → map (selector_after (no_selector true)) lists ≡ map in_function (map (λ m. selector_of_chain (chain_of m)) lists)
all-inside [] = refl
all-inside (m ∷ lists) = ap₂ (λ s ss. s ∷ ss) (inside m) (all-inside lists)

members-are : (f : Bool) (atoms : List Atom)
    → map (selector_after (no_selector f)) (between_commas (with_descendants false atoms)) ≡ members_in f atoms
members-are false atoms = all-outside (between_commas (with_descendants false atoms))
members-are true atoms = all-inside (between_commas (with_descendants false atoms))

-- ---- lists

valid-list : (members : List (Option model.Selector)) → list_of_selectors (valid_of members) ≡ list_of_valid members
valid-list [] = refl
valid-list (Some s ∷ members) = ap (model.selector s) (valid-list members)
valid-list (None ∷ members) = valid-list members

front-if : (b : Bool) (s : model.Selector) (list : model.SelectorList)
    → (if b then Some (model.selector s list) else None) ≡ in_front_of_list (Some s) (if b then Some list else None)
front-if true s list = refl
front-if false s list = refl

all-list : (members : List (Option model.Selector))
    → (if are_valid members then Some (list_of_selectors (valid_of members)) else None) ≡ list_of_all members
all-list [] = refl
all-list (Some s ∷ members) =
    front-if (are_valid members) s (list_of_selectors (valid_of members)) ∙ ap (in_front_of_list (Some s)) (all-list members)
all-list (None ∷ members) = refl

-- what was read of all is what the atoms are
pub read-whole : (read : Members) (f : Bool) (atoms : List Atom) (o : Outcome) → HasOutcome read o
    → o ≡ outcome_after (no_members f) atoms → IsRead read (members_in f atoms)
read-whole read f atoms o has is =
    let same = members-new f (with_descendants false atoms) ∙ members-are f atoms in
    let valid : list_view read.list ≡ list_of_selectors (valid_of (members_in f atoms)) =
    has.valid ∙ (ap (λ o. list_of_selectors o.valid) is ∙ ap (λ ms. list_of_selectors (valid_of ms)) same) in
    let all : read.are_valid ≡ are_valid (members_in f atoms) =
    has.are_valid ∙ (ap (λ o. o.are_valid) is ∙ ap are_valid same) in
    record {
      valid = valid ∙ valid-list (members_in f atoms);
      all = ap₂ (λ b l. if b then Some l else None) all valid ∙ all-list (members_in f atoms);
    }
