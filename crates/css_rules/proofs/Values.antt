-- Values of declarations, and lists of declarations.
use Rattle.std.proofs.Common.{◌≡◌, ◌∙◌, ap, sym, refl, inl, inr, ◌≤◌, List, [], ◌∷◌, ◌++◌, Some, None, Bool, true, false, arith, append_assoc}
use Rattle.std.proofs.lemmas.Bool.{cases_Bool}
use Rattle.std.specs.Option.{is_some}
use Rattle.css_model.specs.Components.{Component, preserved, simple_block, function_block, Components, no_components, component}
use Rattle.css_model.specs.declared.token.TokenType.{TokenType}
use Rattle.css_model.specs.declared.token.TokenType.TheVariants.{Whitespace}
use Rattle.css_tokens.specs.declared.component.Component as component_code
use Rattle.css_rules.specs.declared.declaration.Declaration as code
use Rattle.css_rules.specs.Views.{declaration_view, declarations_view}
use Rattle.std.proofs.lemmas.List.{map-append}
use Rattle.css_tokens.specs.Nested.{components_view}
use Rattle.rules_model.specs.ComponentLists.{ends_at_rule, is_token, is_whitespace, is_whitespace_type, is_semicolon, at_keyword_of, before, without_front_whitespace, without_end_whitespace, trimmed}
use Rattle.rules_model.specs.Declarations.{is_exclamation_type, is_important_mark, has_important_mark, before_important_mark, declaration_of, with_declaration, is_between_declarations, declarations_of, declarations_after_at_rule, declarations_after_semicolon}
use Rattle.css_rules.specs.inner.Reading.{count, begins_with, after}
use Rattle.css_rules.proofs.Parts.{front-before, white-semicolon}

-- ---- values

white-exclamation_type : (k : TokenType) → is_whitespace_type k ≡ true
    → is_exclamation_type k ≡ false
white-exclamation_type Whitespace e = refl
white-exclamation_type other e = cc

white-exclamation : (c : Component) → is_whitespace c ≡ true
    → is_token is_exclamation_type c ≡ false
white-exclamation (preserved t) e = white-exclamation_type t.token_type e
white-exclamation (simple_block head contents close) e = refl
white-exclamation (function_block head contents close) e = refl

white-mark : (c : Component) (cs : Components) → is_whitespace c ≡ true
    → is_important_mark (component c cs) ≡ false
white-mark c cs w = rw (white-exclamation c w) refl

pub has-front : (cs : Components)
    → has_important_mark (without_front_whitespace cs) ≡ has_important_mark cs
has-front no_components = refl
has-front (component c cs) = elim (cases_Bool (is_whitespace c)) [
  | inl w ↦ rw (w, white-mark c cs w) (has-front cs)
  | inr w ↦ rw w refl
]

before-begins : (cs : Components) → begins_with is_whitespace cs ≡ false
    → without_front_whitespace (before_important_mark cs) ≡ before_important_mark cs
before-begins no_components b = refl
before-begins (component c cs) b = elim (cases_Bool (is_important_mark (component c cs))) [
  | inl m ↦ rw m refl
  | inr m ↦ rw (m, b) refl
]

before-front : (cs : Components)
    → before_important_mark (without_front_whitespace cs)
    ≡ without_front_whitespace (before_important_mark cs)
before-front no_components = refl
before-front (component c cs) = elim (cases_Bool (is_whitespace c)) [
  | inl w ↦ rw (w, white-mark c cs w, w) (before-front cs)
  | inr w ↦ rw w (sym (before-begins (component c cs) w))
]

pub value-front : (cs : Components)
    → without_end_whitespace (before_important_mark (without_front_whitespace cs))
    ≡ trimmed (before_important_mark cs)
value-front cs = ap without_end_whitespace (before-front cs)

-- a value that was read
pub value-is : (old front : Components) (part value trim : List component_code.Component)
    (important : Bool)
    → front ≡ without_front_whitespace old → components_view part ≡ before is_semicolon front
    → important ≡ has_important_mark (components_view part)
    → components_view value ≡ before_important_mark (components_view part)
    → components_view trim ≡ without_end_whitespace (components_view value)
    → (components_view trim ≡ trimmed (before_important_mark (before is_semicolon old)))
    × (important ≡ has_important_mark (before is_semicolon old))
value-is old front part value trim important f p i v t =
    let all : components_view part ≡ without_front_whitespace (before is_semicolon old) =
    p ∙ (ap (before is_semicolon) f ∙ front-before is_semicolon white-semicolon old) in (
      t ∙ (ap without_end_whitespace (v ∙ ap before_important_mark all)
          ∙ value-front (before is_semicolon old)),
      i ∙ (ap has_important_mark all ∙ has-front (before is_semicolon old)),
    )

-- ---- lists of declarations

pub after-at_rule : (cs : Components)
    → declarations_after_at_rule cs ≡ declarations_of (after ends_at_rule cs)
after-at_rule no_components = refl
after-at_rule (component c cs) = elim (cases_Bool (ends_at_rule c)) [
  | inl e ↦ rw e refl
  | inr e ↦ rw e (after-at_rule cs)
]

after-semicolon : (cs : Components)
    → declarations_after_semicolon cs ≡ declarations_of (after is_semicolon cs)
after-semicolon no_components = refl
after-semicolon (component c cs) = elim (cases_Bool (is_semicolon c)) [
  | inl e ↦ rw e refl
  | inr e ↦ rw e (after-semicolon cs)
]

pub count-after : (test : Component → Bool) (cs : Components) → count (after test cs) ≤ count cs
count-after test no_components = omega arith
count-after test (component c cs) = elim (cases_Bool (test c)) [
  | inl e ↦ rw e (omega arith)
  | inr e ↦ rw e (omega (arith, count-after test cs))
]

pub neither-between : (c : Component) → is_whitespace c ≡ false → is_semicolon c ≡ false
    → is_between_declarations c ≡ false
neither-between c w e = rw (w, e) refl

pub declarations-between : (c : Component) (cs : Components) → is_between_declarations c ≡ true
    → declarations_of (component c cs) ≡ declarations_of cs
declarations-between c cs b = rw b refl

pub declarations-at_rule : (c : Component) (cs : Components) → is_between_declarations c ≡ false
    → is_some (at_keyword_of c) ≡ true
    → declarations_of (component c cs) ≡ declarations_of (after ends_at_rule cs)
declarations-at_rule c cs b k = rw (b, k) (after-at_rule cs)

pub declarations-piece : (c : Component) (cs : Components) → is_between_declarations c ≡ false
    → is_some (at_keyword_of c) ≡ false → is_semicolon c ≡ false
    → declarations_of (component c cs)
    ≡ with_declaration (declaration_of (component c (before is_semicolon cs)))
    (declarations_of (after is_semicolon cs))
declarations-piece c cs b k e =
    rw (b, k, e) (ap (with_declaration (declaration_of (component c (before is_semicolon cs))))
    (after-semicolon cs))

-- ---- what was taken

pub taken-some : (ds more : List code.Declaration) (d : code.Declaration) (c : Component)
    (all rest : Components)
    → is_between_declarations c ≡ false → is_some (at_keyword_of c) ≡ false → is_semicolon c ≡ false
    → Some (declaration_view d) ≡ declaration_of (component c (before is_semicolon all))
    → rest ≡ after is_semicolon all
    → more ≡ ds ++ d ∷ []
    → declarations_view more ++ declarations_of rest
    ≡ declarations_view ds ++ declarations_of (component c all)
taken-some ds more d c all rest b k e is r m =
    let piece : declarations_of (component c all) ≡ declaration_view d ∷ declarations_of rest =
    declarations-piece c all b k e
    ∙ (ap (λ o. with_declaration o (declarations_of (after is_semicolon all))) (sym is)
    ∙ ap (λ cs. declaration_view d ∷ declarations_of cs) (sym r)) in
    ap (λ l. declarations_view l ++ declarations_of rest) m
    ∙ (ap (λ l. l ++ declarations_of rest) (map-append declaration_view ds (d ∷ []))
    ∙ (append_assoc (declarations_view ds) (declaration_view d ∷ []) (declarations_of rest)
    ∙ ap (λ l. declarations_view ds ++ l) (sym piece)))

pub taken-none : (ds : List code.Declaration) (c : Component) (all rest : Components)
    → is_between_declarations c ≡ false → is_some (at_keyword_of c) ≡ false → is_semicolon c ≡ false
    → None ≡ declaration_of (component c (before is_semicolon all)) → rest ≡ after is_semicolon all
    → declarations_view ds ++ declarations_of rest
    ≡ declarations_view ds ++ declarations_of (component c all)
taken-none ds c all rest b k e is r =
    let piece : declarations_of (component c all) ≡ declarations_of rest =
    declarations-piece c all b k e
    ∙ (ap (λ o. with_declaration o (declarations_of (after is_semicolon all))) (sym is)
    ∙ ap declarations_of (sym r)) in
    ap (λ l. declarations_view ds ++ l) (sym piece)
