-- What was read of a selector list, and what the atoms after that make of it.
use Rattle.std.specs.List.{list_all}
use Rattle.std.specs.Option.{is_some}
use Rattle.std.specs.Prelude.{◌≡◌, ◌&&◌, if◌then◌else◌, List, [], ◌∷◌, ◌++◌, map, Option, Some, None, option_map, option_and_then, Bool, true, false}
use Rattle.selectors_model.specs.declared.combinator.Combinator.{Combinator}
use Rattle.selectors_model.specs.Grammar.{Atom, white, dot, colon, in_front, subclasses_of, last_pseudo_element, compound_of, compound_has_pseudo_element, Chain, chain_of, followed_by, with_descendants, between_commas, arguments_of, members_of, list_of_valid, list_of_all}
use Rattle.selectors_model.specs.Selectors as model
use Rattle.selectors.specs.Views.{list_of_selectors, simple_view, selector_view, list_view}
use Rattle.selectors.specs.declared.reading.compounds.Next.{Next}
use Rattle.selectors.specs.declared.reading.compounds.Next.TheVariants as next
use Rattle.selectors.specs.declared.reading.compounds.Step.{Step}
use Rattle.selectors.specs.declared.reading.compounds.CompoundDraft.{CompoundDraft}
use Rattle.selectors.specs.declared.reading.lists.Gap.{Gap}
use Rattle.selectors.specs.declared.reading.lists.Gap.TheVariants as gap
use Rattle.selectors.specs.declared.reading.lists.ListDraft.{ListDraft}
use Rattle.selectors.specs.declared.reading.lists.Members.{Members}
use Rattle.selectors.specs.declared.reading.complex.Left.{Left}
use Rattle.selectors.specs.declared.reading.complex.Left.TheVariants as left
use Rattle.selectors.specs.declared.reading.complex.SelectorDraft.{SelectorDraft}

-- ---- compounds

abbrev pub nothing_after : List Atom → Option model.Compound
nothing_after [] = Some model.no_simples
nothing_after (a ∷ atoms) = None

-- the rest of a compound
abbrev pub rest_of : Next → List Atom → Option model.Compound
rest_of next.Any atoms = compound_of atoms
rest_of next.Subclass atoms = subclasses_of atoms
rest_of next.ClassName atoms = subclasses_of (dot ∷ atoms)
rest_of next.Pseudo atoms = subclasses_of (colon ∷ atoms)
rest_of next.PseudoElement atoms = subclasses_of (colon ∷ colon ∷ atoms)
rest_of next.Nothing atoms = nothing_after atoms
rest_of next.Invalid atoms = None

-- a simple selector in front, if there is one
abbrev pub with_simple : Option model.Simple → Option model.Compound → Option model.Compound
with_simple None c = c
with_simple (Some s) c = in_front (Some s) c

-- what an atom adds to a compound, and what is next
abbrev pub IsStep : Next → Atom → Step → Type 0
IsStep next a step =
    (atoms : List Atom) →
    rest_of next (a ∷ atoms)
    ≡ with_simple (option_map simple_view step.simple) (rest_of step.next atoms)

-- it ends this simple selector, if there is one, after which others may be
abbrev pub EndsSimple : Option model.Simple → Step → Type 0
EndsSimple s step =
    (atoms : List Atom) →
    in_front s (subclasses_of atoms)
    ≡ with_simple (option_map simple_view step.simple) (rest_of step.next atoms)

-- it ends a pseudo-element, if that is known, after which nothing may be
abbrev pub EndsCompound : Bool → Step → Type 0
EndsCompound is_known step =
    (atoms : List Atom) →
    last_pseudo_element is_known atoms
    ≡ with_simple (option_map simple_view step.simple) (rest_of step.next atoms)

-- the compound, if it may stand there: in a function no pseudo-element may
abbrev pub permitted : Bool → Option model.Compound → Option model.Compound
permitted in_function c =
    option_and_then (λ d. if compound_has_pseudo_element d && in_function then None else Some d) c

abbrev pub all_in_front : List model.Simple → Option model.Compound → Option model.Compound
all_in_front [] c = c
all_in_front (s ∷ simples) c = in_front (Some s) (all_in_front simples c)

-- the compound of a draft and the atoms after it
abbrev pub compound_after : Bool → CompoundDraft → List Atom → Option model.Compound
compound_after in_function d atoms =
    all_in_front (map simple_view d.simples) (permitted in_function (rest_of d.next atoms))

-- one more atom was taken into the draft
abbrev pub TakesPart : Bool → CompoundDraft → Atom → CompoundDraft → Type 0
TakesPart in_function old a new =
    (atoms : List Atom) →
    compound_after in_function new atoms ≡ compound_after in_function old (a ∷ atoms)

-- a simple selector was added to the draft
abbrev pub Adds : Bool → CompoundDraft → model.Simple → Next → CompoundDraft → Type 0
Adds in_function old s next new =
    (atoms : List Atom) → compound_after in_function new atoms
    ≡ all_in_front (map simple_view old.simples)
    (permitted in_function (in_front (Some s) (rest_of next atoms)))

-- ---- complex selectors

-- what is on the left of a compound, and the compound
abbrev pub begun : Left → Option model.Compound → Option model.Selector
begun left.Nothing c = option_map (λ d. model.compound d) c
begun (left.Selector s by) c = followed_by (Some (selector_view s)) by c
begun left.Invalid c = None

-- the selector and the combinator are what is on the left of a compound
abbrev pub IsLeft : Option model.Selector → Combinator → Left → Type 0
IsLeft s by left = (c : Option model.Compound) → begun left c ≡ followed_by s by c

-- the selector goes on with combinators, and after each a compound
abbrev pub goes_on : Bool → Option model.Selector → List (Combinator × List Atom)
    → Option model.Selector
goes_on in_function s [] = s
goes_on in_function s (link ∷ links) =
    goes_on in_function (followed_by s link.0 (permitted in_function (compound_of link.1))) links

abbrev pub selector_of_parts : SelectorDraft → Chain → Option model.Selector
selector_of_parts d chain =
    goes_on d.in_function (begun d.left (compound_after d.in_function d.compound chain.first))
    chain.links

-- the selector of a draft and the atoms after it
abbrev pub selector_after : SelectorDraft → List Atom → Option model.Selector
selector_after d atoms = selector_of_parts d (chain_of atoms)

-- one more atom was taken into the draft
pub record TakesAtom (old : SelectorDraft) (a : Atom) (new : SelectorDraft) : Type 0 where
  pub selector : (atoms : List Atom) → selector_after new atoms ≡ selector_after old (a ∷ atoms)
  pub place : new.in_function ≡ old.in_function

-- nothing of a selector was read
abbrev pub no_selector : Bool → SelectorDraft
no_selector in_function = record {
  in_function = in_function;
  left = left.Nothing;
  compound = record { simples = []; next = next.Any };
}

-- ---- lists

-- what is ahead, where white space was left out and it is known what was before it
abbrev pub spaced : Gap → List Atom → List Atom
spaced gap.None atoms = with_descendants false atoms
spaced gap.Compound atoms = with_descendants true atoms
spaced gap.White atoms = with_descendants true (white ∷ atoms)

abbrev pub after_white : Gap → Gap
after_white gap.None = gap.None
after_white gap.Compound = gap.White
after_white gap.White = gap.White

-- the members that lists between commas are, of which the first one was begun
abbrev pub members_from : SelectorDraft → List (List Atom) → List (Option model.Selector)
members_from d [] = selector_after d [] ∷ []
members_from d (atoms ∷ lists) =
    selector_after d atoms ∷ map (selector_after (no_selector d.in_function)) lists

abbrev pub valid_of : List (Option model.Selector) → List model.Selector
valid_of [] = []
valid_of (Some s ∷ members) = s ∷ valid_of members
valid_of (None ∷ members) = valid_of members

abbrev pub are_valid : List (Option model.Selector) → Bool
are_valid members = list_all is_some members

-- the valid members of a list, and whether all are valid
pub record Outcome : Type 0 where
  pub valid : List model.Selector
  pub are_valid : Bool

-- of the members that a draft has, and of these after them
abbrev pub outcome : ListDraft → List (Option model.Selector) → Outcome
outcome d members = record {
  valid = map selector_view d.members ++ valid_of members;
  are_valid = d.are_valid && are_valid members;
}

abbrev pub outcome_after : ListDraft → List Atom → Outcome
outcome_after d atoms = outcome d (members_from d.selector (between_commas (spaced d.gap atoms)))

-- one more atom was taken into the draft
abbrev pub TakesInList : ListDraft → Atom → ListDraft → Type 0
TakesInList old a new =
    (atoms : List Atom) → outcome_after new atoms ≡ outcome_after old (a ∷ atoms)

-- the selector was ended, and is a member of the draft, if it is one
pub record EndsMember (old new : ListDraft) : Type 0 where
  pub selector : new.selector ≡ no_selector old.selector.in_function
  pub members : (members : List (Option model.Selector)) →
      outcome new members ≡ outcome old (selector_after old.selector [] ∷ members)

-- no member was read
abbrev pub no_members : Bool → ListDraft
no_members in_function = record {
  members = [];
  are_valid = true;
  gap = gap.None;
  selector = no_selector in_function;
}

-- ---- what is read at last

-- the members of a list, of which those with a pseudo-element are invalid in a function
abbrev pub members_in : Bool → List Atom → List (Option model.Selector)
members_in in_function atoms = if in_function then arguments_of atoms else members_of atoms

-- these are the valid members, and whether all are valid
pub record IsRead (read : Members) (members : List (Option model.Selector)) : Type 0 where
  pub valid : list_view read.list ≡ list_of_valid members
  pub all : (if read.are_valid then Some (list_view read.list) else None) ≡ list_of_all members

-- what was read has this outcome
pub record HasOutcome (read : Members) (o : Outcome) : Type 0 where
  pub valid : list_view read.list ≡ list_of_selectors o.valid
  pub are_valid : read.are_valid ≡ o.are_valid
