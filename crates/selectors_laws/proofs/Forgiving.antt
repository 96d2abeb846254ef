-- Lists of the members that are valid.
use Rattle.std.proofs.Common.{codes, option_map, ◌≡◌, ◌∙◌, ap, refl, List, [], ◌∷◌, Option, Some, None}
use Rattle.std.proofs.lemmas.Option.{none-some, same_Some}
use Rattle.css_model.specs.declared.token.TokenType.{TokenType}
use Rattle.selectors_model.specs.Grammar.{Atom, arguments_of, functional_pseudo_class, in_front_of_list, list_of_all, list_of_valid}
use Rattle.selectors_model.specs.Selectors.{is_pseudo_class, where_pseudo_class, not_pseudo_class, Selector, SelectorList, no_selectors, selector}
use Rattle.selectors_laws.specs.Lists.{valid_members}

pub all-valid : (members : List (Option Selector)) → list_of_all (valid_members members) ≡ Some (list_of_valid members)
all-valid [] = refl
all-valid (Some s ∷ members) = rw (all-valid members) refl
all-valid (None ∷ members) = all-valid members

in-front : (s : Selector) (rest : Option SelectorList) (valid list : SelectorList)
    → ((l : SelectorList) → rest ≡ Some l → valid ≡ l) → in_front_of_list (Some s) rest ≡ Some list → selector s valid ≡ list
in-front s (Some l) valid list h e = ap (selector s) (h l refl) ∙ same_Some (selector s l) list e
in-front s None valid list h e = absurd (none-some list e)

pub the-same : (members : List (Option Selector)) (list : SelectorList) → list_of_all members ≡ Some list → list_of_valid members ≡ list
the-same [] list e = same_Some no_selectors list e
the-same (Some s ∷ members) list e = in-front s (list_of_all members) (list_of_valid members) list (the-same members) e
the-same (None ∷ members) list e = absurd (none-some list e)

pub is-of : (atoms : List Atom) (types : List TokenType) (list : SelectorList) → list_of_all (arguments_of atoms) ≡ Some list
    → functional_pseudo_class (codes "is") atoms types ≡ Some (is_pseudo_class list)
is-of atoms types list e = ap (λ l. Some (is_pseudo_class l)) (the-same (arguments_of atoms) list e)

pub where-of : (atoms : List Atom) (types : List TokenType) (list : SelectorList) → list_of_all (arguments_of atoms) ≡ Some list
    → functional_pseudo_class (codes "where") atoms types ≡ Some (where_pseudo_class list)
where-of atoms types list e = ap (λ l. Some (where_pseudo_class l)) (the-same (arguments_of atoms) list e)

pub not-of : (atoms : List Atom) (types : List TokenType) (list : SelectorList) → list_of_all (arguments_of atoms) ≡ Some list
    → functional_pseudo_class (codes "not") atoms types ≡ Some (not_pseudo_class list)
not-of atoms types list e = ap (option_map (λ l. not_pseudo_class l)) e
