-- What replaces component values, one after another.
use Rattle.std.proofs.Common.{◌≡◌, ◌∙◌, ap, sym, refl, List, [], ◌∷◌, ◌++◌, true, false, inl, inr, Option, Some, None, option_map, option_and_then}
use Rattle.std.specs.Option.{option_or}
use Rattle.std.proofs.lemmas.Bool.{cases_Bool}
use Rattle.std.proofs.lemmas.Option.{same_Some}
use Rattle.css_model.specs.declared.token.Token.{Token}
use Rattle.css_model.specs.Components.{Components, no_components, component, function_block}
use Rattle.css_model.specs.inner.Nesting.{followed}
use Rattle.css_tokens.specs.declared.component.Component.{Component}
use Rattle.css_tokens.specs.Nested.{component_view, components_view}
use Rattle.custom_model.specs.References.{is_comma, is_var_type}
use Rattle.custom_model.specs.Substitution.{Entries, both_followed, entry_of_reference, one_component, replacement_of, replacement_of_all, replacement_of_fallback}
use Rattle.custom_props.specs.inner.Entries.{var_replacement}
use Rattle.custom_props.specs.inner.Reading.{after_comma, appended}

-- ---- lists

pub view_append : (cs ds : List Component)
    → components_view (cs ++ ds) ≡ followed (components_view cs) (components_view ds)
view_append [] ds = refl
view_append (c ∷ cs) ds = ap (component (component_view c)) (view_append cs ds)

pub followed_followed : (cs ds es : Components) → followed (followed cs ds) es ≡ followed cs (followed ds es)
followed_followed no_components ds es = refl
followed_followed (component c cs) ds es = ap (component c) (followed_followed cs ds es)

pub followed_none : (cs : Components) → followed cs no_components ≡ cs
followed_none no_components = refl
followed_none (component c cs) = ap (component c) (followed_none cs)

-- ---- appended

-- what replaces the first was appended, and what replaces the others comes after it
pub appended_more : (old new : Components) (o p : Option Components)
    → appended true new ≡ option_map (followed old) o
    → option_map (followed new) p ≡ option_map (followed old) (both_followed o p)
appended_more old new None p h = cc
appended_more old new (Some cs) None h = refl
appended_more old new (Some cs) (Some ds) h =
    ap Some (ap (λ es. followed es ds) (same_Some new (followed old cs) h) ∙ followed_followed old cs ds)

pub appended_none : (old new : Components) (o p : Option Components)
    → appended false new ≡ option_map (followed old) o
    → None ≡ option_map (followed old) (both_followed o p)
appended_none old new None p h = refl
appended_none old new (Some cs) p h = cc

-- nothing more
pub appended_all : (new : Components) → appended true new ≡ option_map (followed new) (Some no_components)
appended_all new = ap Some (sym (followed_none new))

-- what was appended to nothing
pub appended_to_none : (o : Option Components) → option_map (followed no_components) o ≡ o
appended_to_none None = refl
appended_to_none (Some cs) = refl

-- ---- one component value

pub fallback_is : (e : Entries) (cs : Components)
    → replacement_of_fallback e cs ≡ option_and_then (replacement_of_all e) (after_comma cs)
fallback_is e no_components = refl
fallback_is e (component c cs) = elim (cases_Bool (is_comma c)) [
  | inl t ↦ rw t refl
  | inr f ↦ rw f (fallback_is e cs)
]

pub var_is : (e : Entries) (head : Token) (contents : Components) (close : Option Token)
    → is_var_type head.token_type ≡ true
    → replacement_of e (function_block head contents close) ≡ var_replacement e contents
var_is e head contents close t = rw t refl

pub function_is : (e : Entries) (head : Token) (contents : Components) (close : Option Token)
    → is_var_type head.token_type ≡ false
    → replacement_of e (function_block head contents close)
    ≡ option_map (λ cs. one_component (function_block head cs close)) (replacement_of_all e contents)
function_is e head contents close f = rw f refl

-- a `var()` with an entry
pub var_entry : (e : Entries) (contents : Components) (value : Components)
    → Some value ≡ entry_of_reference e contents → var_replacement e contents ≡ Some value
var_entry e contents value h = ap (λ o. option_or o (replacement_of_fallback e contents)) (sym h)

-- and one without
pub var_fallback : (e : Entries) (contents : Components)
    → None ≡ entry_of_reference e contents
    → var_replacement e contents ≡ option_and_then (replacement_of_all e) (after_comma contents)
var_fallback e contents h =
    ap (λ o. option_or o (replacement_of_fallback e contents)) (sym h) ∙ fallback_is e contents

pub var_by_fallback : (e : Entries) (contents : Components) (after : Option Components)
    → None ≡ entry_of_reference e contents → after ≡ after_comma contents
    → var_replacement e contents ≡ option_and_then (replacement_of_all e) after
var_by_fallback e contents after h a =
    var_fallback e contents h ∙ ap (option_and_then (replacement_of_all e)) (sym a)
