-- Each list of component values is a list of rules.
use Rattle.std.proofs.Common.{◌≡◌, ◌∙◌, ap, sym, refl, inl, inr, List, [], ◌∷◌, Bool, true, false}
use Rattle.std.proofs.lemmas.Bool.{cases_Bool}
use Rattle.std.specs.Option.{is_some}
use Rattle.css_model.specs.Components.{Component, Components, no_components, component}
use Rattle.css_model.specs.inner.Nesting.{followed}
use Rattle.rules_model.specs.ComponentLists.{ends_at_rule, at_keyword_of, is_curly_block}
use Rattle.rules_model.specs.Rules.{Condition, is_between_rules}
use Rattle.rules_laws.specs.RuleLists.{RuleItem, between_rules, at_rule, qualified_rule, item_components, items_components, IsItem, IsRuleList}
use Rattle.rules_laws.proofs.Lists.{followed-followed}
use Rattle.rules_laws.proofs.Splits.{Split, split-here, split-later}

-- an item in front of a list
with-item : (around : List Condition) (i : RuleItem) (cs more : Components) → IsItem around i
    → cs ≡ followed (item_components i) more → IsRuleList around more → IsRuleList around cs
with-item around i cs more is j l = record {
  items = i ∷ l.items;
  rest = l.rest;
  joined = j ∙ (ap (followed (item_components i)) l.joined
      ∙ sym (followed-followed (item_components i) (items_components l.items) l.rest));
  are_items = (is, l.are_items);
  unended = l.unended;
}

-- the at-rule that begins with this at-keyword
list-at_rule : (around : List Condition) (c : Component) (cs : Components)
    → is_some (at_keyword_of c) ≡ true
    → Split (IsRuleList around) ends_at_rule cs → IsRuleList around (component c cs)
list-at_rule around c cs k (inl n) = record {
  items = [];
  rest = component c cs;
  joined = refl;
  are_items = tt;
  unended = inr (c, cs, refl, record { is_keyword = k; no_end = n });
}
list-at_rule around c cs k (inr s) =
    with-item around (at_rule c s.part s.end) (component c cs) s.more
    (record { is_keyword = k; no_end = s.none_pass }, s.passes)
    (ap (component c) (s.joined ∙ sym
    (followed-followed s.part (component s.end no_components) s.more)))
    s.holds

-- the qualified rule that begins with this component
list-prelude : (around : List Condition) (c : Component) (cs : Components)
    → is_between_rules around c ≡ false
    → is_some (at_keyword_of c) ≡ false → is_curly_block c ≡ false
    → Split (IsRuleList around) is_curly_block cs → IsRuleList around (component c cs)
list-prelude around c cs b k e (inl n) = record {
  items = [];
  rest = component c cs;
  joined = refl;
  are_items = tt;
  unended = inl (record { begins = (b, k); no_block = (e, n) });
}
list-prelude around c cs b k e (inr s) =
    with-item around (qualified_rule (component c s.part) s.end) (component c cs) s.more
    (record { begins = (b, k); no_block = (e, s.none_pass) }, s.passes)
    (ap (component c) (s.joined ∙ sym
    (followed-followed s.part (component s.end no_components) s.more)))
    s.holds

list-block : (around : List Condition) (c : Component) (cs : Components) → is_curly_block c ≡ true
    → IsRuleList around cs → IsRuleList around (component c cs)
list-block around c cs e l = with-item around (qualified_rule no_components c) (component c cs) cs
    (record { begins = tt; no_block = tt }, e) refl l

mutual
  pub list-of : (around : List Condition) (cs : Components) → IsRuleList around cs
  list-of around no_components = record {
    items = [];
    rest = no_components;
    joined = refl;
    are_items = tt;
    unended = inl (record { begins = tt; no_block = tt });
  }
  list-of around (component c cs) = elim (cases_Bool (is_between_rules around c)) [
    | inl b ↦ with-item around (between_rules c) (component c cs) cs b refl (list-of around cs)
    | inr b ↦ elim (cases_Bool (is_some (at_keyword_of c))) [
      | inl k ↦ list-at_rule around c cs k (split-of around ends_at_rule cs)
      | inr k ↦ elim (cases_Bool (is_curly_block c)) [
        | inl e ↦ list-block around c cs e (list-of around cs)
        | inr e ↦ list-prelude around c cs b k e (split-of around is_curly_block cs)
      ]
    ]
  ]

  split-of : (around : List Condition) (test : Component → Bool) (cs : Components)
      → Split (IsRuleList around) test cs
  split-of around test no_components = inl tt
  split-of around test (component c cs) = elim (cases_Bool (test c)) [
    | inl e ↦ split-here (IsRuleList around) test c cs e (list-of around cs)
    | inr e ↦ split-later (IsRuleList around) test c cs e (split-of around test cs)
  ]
