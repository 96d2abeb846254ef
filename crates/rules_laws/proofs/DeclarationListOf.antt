-- Each list of component values is a list of declarations and at-rules.
use Rattle.std.proofs.Common.{◌≡◌, ◌∙◌, ap, sym, refl, inl, inr, [], ◌∷◌, Bool, true, false}
use Rattle.std.proofs.lemmas.Bool.{cases_Bool}
use Rattle.std.specs.Option.{is_some}
use Rattle.css_model.specs.Components.{Component, Components, no_components, component}
use Rattle.css_model.specs.inner.Nesting.{followed}
use Rattle.rules_model.specs.ComponentLists.{ends_at_rule, at_keyword_of, is_semicolon, is_whitespace}
use Rattle.rules_model.specs.Declarations.{is_between_declarations}
use Rattle.rules_laws.specs.DeclarationLists.{DeclarationItem, between_declarations, at_rule, ended, item_components, items_components, IsItem, nothing, open_at_rule, last, rest_components, IsDeclarationList}
use Rattle.rules_laws.proofs.Booleans.{or-right}
use Rattle.rules_laws.proofs.Lists.{followed-followed}
use Rattle.rules_laws.proofs.Splits.{Split, split-here, split-later}

-- an item in front of a list
with-item : (i : DeclarationItem) (cs more : Components) → IsItem i
    → cs ≡ followed (item_components i) more → IsDeclarationList more → IsDeclarationList cs
with-item i cs more is j l = record {
  items = i ∷ l.items;
  rest = l.rest;
  joined = j ∙ (ap (followed (item_components i)) l.joined
      ∙ sym (followed-followed (item_components i) (items_components l.items)
      (rest_components l.rest)));
  are_items = (is, l.are_items);
  is_rest = l.is_rest;
}

list-at_rule : (c : Component) (cs : Components) → is_some (at_keyword_of c) ≡ true
    → Split IsDeclarationList ends_at_rule cs → IsDeclarationList (component c cs)
list-at_rule c cs k (inl n) = record {
  items = [];
  rest = open_at_rule c cs;
  joined = refl;
  are_items = tt;
  is_rest = record { is_keyword = k; no_end = n };
}
list-at_rule c cs k (inr s) =
    with-item (at_rule c s.part s.end) (component c cs) s.more
    (record { is_keyword = k; no_end = s.none_pass }, s.passes)
    (ap (component c) (s.joined ∙ sym
    (followed-followed s.part (component s.end no_components) s.more)))
    s.holds

list-piece : (c : Component) (cs : Components) → is_between_declarations c ≡ false
    → is_some (at_keyword_of c) ≡ false → is_semicolon c ≡ false
    → Split IsDeclarationList is_semicolon cs → IsDeclarationList (component c cs)
list-piece c cs b k e (inl n) = record {
  items = [];
  rest = last (component c cs);
  joined = refl;
  are_items = tt;
  is_rest = (b, k, (e, n));
}
list-piece c cs b k e (inr s) =
    with-item (ended (component c s.part) s.end) (component c cs) s.more
    ((b, k, (e, s.none_pass)), s.passes)
    (ap (component c) (s.joined ∙ sym
    (followed-followed s.part (component s.end no_components) s.more)))
    s.holds

mutual
  pub list-of : (cs : Components) → IsDeclarationList cs
  list-of no_components = record {
    items = [];
    rest = nothing;
    joined = refl;
    are_items = tt;
    is_rest = tt;
  }
  list-of (component c cs) = elim (cases_Bool (is_between_declarations c)) [
    | inl b ↦ with-item (between_declarations c) (component c cs) cs b refl (list-of cs)
    | inr b ↦ elim (cases_Bool (is_some (at_keyword_of c))) [
      | inl k ↦ list-at_rule c cs k (split-of ends_at_rule cs)
      | inr k ↦ list-piece c cs b k (or-right (is_whitespace c) (is_semicolon c) b)
          (split-of is_semicolon cs)
    ]
  ]

  split-of : (test : Component → Bool) (cs : Components) → Split IsDeclarationList test cs
  split-of test no_components = inl tt
  split-of test (component c cs) = elim (cases_Bool (test c)) [
    | inl e ↦ split-here IsDeclarationList test c cs e (list-of cs)
    | inr e ↦ split-later IsDeclarationList test c cs e (split-of test cs)
  ]
