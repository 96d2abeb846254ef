-- One of a list is not built, one after another.
use Rattle.std.proofs.Common.{◌≡◌, refl, ℕ, suc, ◌+◌, ◌<◌, List, [], ◌∷◌, ◌++◌, Bool, length, map, get_or, ◌||◌, drop, inl, inr, add-one, drop-cons}
use Rattle.std.proofs.lemmas.Bool.{cases_Bool}
use Rattle.std.specs.List.{list_any}
use Rattle.css_model.specs.Components.{all_tokens_of, tokens_of}
use Rattle.css_model.specs.declared.token.Token.{Token}
use Rattle.css_rules.specs.Views.{declaration_view, declarations_view, rule_view, sheet_view}
use Rattle.css_rules.specs.declared.declaration.Declaration.{Declaration}
use Rattle.css_rules.specs.declared.sheet.Sheet.{Sheet}
use Rattle.css_rules.specs.declared.sheet.StyleRule.{StyleRule}
use Rattle.css_tokens.specs.Nested.{component_view, components_view}
use Rattle.css_tokens.specs.declared.component.Component.{Component}
use Rattle.request_model.specs.UnbuiltStyles.{has_unbuilt, is_unbuilt_declaration, is_unbuilt_rule, is_unbuilt_token}
use Rattle.rules_model.specs.Rules as rules

-- one of the rules from a place on
pub any_rule : (lists : List (List rules.Condition)) (rs : List StyleRule) (i : ℕ) (r : StyleRule) → i < length rs → r ≡ get_or rs i r
    → list_any is_unbuilt_rule (map (rule_view lists) (drop i rs))
    ≡ (is_unbuilt_rule (rule_view lists r) || list_any is_unbuilt_rule (map (rule_view lists) (drop (i + 1) rs)))
any_rule lists rs i r h is = rw (drop-cons rs i r h, ← is, add-one) refl

-- one of the declarations from a place on
pub any_declared : (ds : List Declaration) (i : ℕ) (d : Declaration) → i < length ds → d ≡ get_or ds i d
    → has_unbuilt (declarations_view (drop i ds))
    ≡ (is_unbuilt_declaration (declaration_view d) || has_unbuilt (declarations_view (drop (i + 1) ds)))
any_declared ds i d h is = rw (drop-cons ds i d h, ← is, add-one) refl

-- one of the sheets from a place on
pub any_sheet : (ss : List Sheet) (i : ℕ) (s : Sheet) → i < length ss → s ≡ get_or ss i s
    → list_any (list_any is_unbuilt_rule) (map sheet_view (drop i ss))
    ≡ (list_any is_unbuilt_rule (sheet_view s) || list_any (list_any is_unbuilt_rule) (map sheet_view (drop (i + 1) ss)))
any_sheet ss i s h is = rw (drop-cons ss i s h, ← is, add-one) refl

-- ---- tokens

pub any_joined : (p : Token → Bool) (ts us : List Token) → list_any p (ts ++ us) ≡ (list_any p ts || list_any p us)
any_joined p [] us = refl
any_joined p (t ∷ ts) us = elim (cases_Bool (p t)) [
  | inl holds ↦ rw holds refl
  | inr fails ↦ rw fails (any_joined p ts us)
]

-- one of the component values from a place on
pub any_next : (cs : List Component) (i : ℕ) (c : Component) → i < length cs → c ≡ get_or cs i c
    → list_any is_unbuilt_token (all_tokens_of (components_view (drop i cs)))
    ≡ (list_any is_unbuilt_token (tokens_of (component_view c))
    || list_any is_unbuilt_token (all_tokens_of (components_view (drop (i + 1) cs))))
any_next cs i c h is =
    rw (drop-cons cs i c h, ← is, add-one)
    (any_joined is_unbuilt_token (tokens_of (component_view c)) (all_tokens_of (components_view (drop (suc i) cs))))
