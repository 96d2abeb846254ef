-- How component values are read from the front.
use Rattle.std.proofs.Common.{◌≡◌, ◌∙◌, ap, sym, refl, inl, inr, ℕ, ◌<◌, ◌+◌, List, [], ◌∷◌, ◌++◌, Option, Some, None, Bool, true, false, length, get_or, drop, drop-cons, add-one, arith}
use Rattle.std.proofs.lemmas.Bool.{cases_Bool, false≢true}
use Rattle.std.proofs.lemmas.List.Sums.{fold_push}
use Rattle.css_model.specs.Components.{Component, preserved, simple_block, function_block, Components, no_components, component}
use Rattle.css_model.specs.inner.Nesting.{followed}
use Rattle.css_model.specs.declared.token.TokenType.{TokenType}
use Rattle.css_model.specs.declared.token.TokenType.TheVariants.{Whitespace, Colon}
use Rattle.css_tokens.specs.declared.component.Component as code
use Rattle.css_tokens.specs.Nested.{component_view, components_view}
use Rattle.rules_model.specs.ComponentLists.{is_whitespace, is_whitespace_type, is_colon, is_colon_type, is_semicolon, is_semicolon_type, before, without_front_whitespace}
use Rattle.rules_model.specs.Declarations.{after_colon}
use Rattle.css_rules.specs.inner.Reading.{stacked, count, begins_with, after, end_of, IsNext}

-- the last of a list goes in front of what is behind it
pub followed-push : (xs : List code.Component) (x : code.Component) (cs : Components)
    → followed (components_view (xs ++ x ∷ [])) cs
    ≡ followed (components_view xs) (component (component_view x) cs)
followed-push [] x cs = refl
followed-push (y ∷ xs) x cs = ap (component (component_view y)) (followed-push xs x cs)

pub followed-end : (cs : Components) → followed cs no_components ≡ cs
followed-end no_components = refl
followed-end (component c cs) = ap (component c) (followed-end cs)

-- the items from a place on
pub view-drop : (cs : List code.Component) (i : ℕ) (c : code.Component) → i < length cs
    → c ≡ get_or cs i c
    → components_view (drop i cs) ≡ component (component_view c) (components_view (drop (i + 1) cs))
view-drop cs i c h is = rw (drop-cons cs i c h, ← is, add-one) refl

-- one that passes was passed over
pub record PassesOne (test : Component → Bool) (all rest : Components) : Type 0 where
  pub c : Component
  pub all_are : all ≡ component c rest
  pub passes : test c ≡ true
  pub less : count rest < count all

pub passes-one : (test : Component → Bool) (o : Option code.Component) (old new : Components)
    → IsNext o old new → begins_with test old ≡ true → PassesOne test old new
passes-one test None old new n b = absurd (false≢true (sym (ap (begins_with test) n.0) ∙ b))
passes-one test (Some c) old new n b = record {
  c = component_view c;
  all_are = n;
  passes = sym (ap (begins_with test) n) ∙ b;
  less = rw n (omega arith);
}

-- ---- white space in front

pub front-passed : (old new : Components) → PassesOne is_whitespace old new
    → without_front_whitespace new ≡ without_front_whitespace old
front-passed old new p = rw (p.all_are, p.passes) refl

pub front-done : (cs : Components) → begins_with is_whitespace cs ≡ false
    → without_front_whitespace cs ≡ cs
front-done no_components b = refl
front-done (component c cs) b = rw b refl

pub front-begins : (cs : Components)
    → begins_with is_whitespace (without_front_whitespace cs) ≡ false
front-begins no_components = refl
front-begins (component c cs) = elim (cases_Bool (is_whitespace c)) [
  | inl w ↦ rw w (front-begins cs)
  | inr w ↦ rw w w
]

white-semicolon_type : (k : TokenType) → is_whitespace_type k ≡ true → is_semicolon_type k ≡ false
white-semicolon_type Whitespace e = refl
white-semicolon_type other e = cc

pub white-semicolon : (c : Component) → is_whitespace c ≡ true → is_semicolon c ≡ false
white-semicolon (preserved t) e = white-semicolon_type t.token_type e
white-semicolon (simple_block head contents close) e = refl
white-semicolon (function_block head contents close) e = refl

colon-semicolon_type : (k : TokenType) → is_colon_type k ≡ true → is_semicolon_type k ≡ false
colon-semicolon_type Colon e = refl
colon-semicolon_type other e = cc

colon-semicolon : (c : Component) → is_colon c ≡ true → is_semicolon c ≡ false
colon-semicolon (preserved t) e = colon-semicolon_type t.token_type e
colon-semicolon (simple_block head contents close) e = refl
colon-semicolon (function_block head contents close) e = refl

-- white space does not end a part
pub front-before : (test : Component → Bool)
    → ((c : Component) → is_whitespace c ≡ true → test c ≡ false)
    → (cs : Components) → before test (without_front_whitespace cs)
    ≡ without_front_whitespace (before test cs)
front-before test none no_components = refl
front-before test none (component c cs) = elim (cases_Bool (is_whitespace c)) [
  | inl w ↦ rw (w, none c w, w) (front-before test none cs)
  | inr w ↦ elim (cases_Bool (test c)) [
    | inl e ↦ rw (w, e) refl
    | inr e ↦ rw (w, e, w) refl
  ]
]

pub front-after : (test : Component → Bool)
    → ((c : Component) → is_whitespace c ≡ true → test c ≡ false)
    → (cs : Components) → after test (without_front_whitespace cs) ≡ after test cs
front-after test none no_components = refl
front-after test none (component c cs) = elim (cases_Bool (is_whitespace c)) [
  | inl w ↦ rw (w, none c w) (front-after test none cs)
  | inr w ↦ rw w refl
]

pub front-end : (test : Component → Bool)
    → ((c : Component) → is_whitespace c ≡ true → test c ≡ false)
    → (cs : Components) → end_of test (without_front_whitespace cs) ≡ end_of test cs
front-end test none no_components = refl
front-end test none (component c cs) = elim (cases_Bool (is_whitespace c)) [
  | inl w ↦ rw (w, none c w) (front-end test none cs)
  | inr w ↦ rw w refl
]

-- ---- `:`

front-colon : (cs : Components) → after_colon (without_front_whitespace cs) ≡ after_colon cs
front-colon no_components = refl
front-colon (component c cs) = elim (cases_Bool (is_whitespace c)) [
  | inl w ↦ rw w (front-colon cs)
  | inr w ↦ rw (w, w) refl
]

no-colon : (cs : Components) → begins_with is_whitespace cs ≡ false
    → begins_with is_colon cs ≡ false
    → after_colon (before is_semicolon cs) ≡ None
no-colon no_components w b = refl
no-colon (component c cs) w b = elim (cases_Bool (is_semicolon c)) [
  | inl e ↦ rw e refl
  | inr e ↦ rw (e, w, b) refl
]

a-colon : (c : Component) (cs : Components) → is_whitespace c ≡ false → is_colon c ≡ true
    → after_colon (before is_semicolon (component c cs)) ≡ Some (before is_semicolon cs)
a-colon c cs w b = rw (colon-semicolon c b, w, b) refl

colon-front : (cs : Components)
    → after_colon (before is_semicolon cs)
    ≡ after_colon (before is_semicolon (without_front_whitespace cs))
colon-front cs =
    sym (ap after_colon (front-before is_semicolon white-semicolon cs)
    ∙ front-colon (before is_semicolon cs))

pub colon-none : (old front : Components) → front ≡ without_front_whitespace old
    → begins_with is_colon front ≡ false
    → after_colon (before is_semicolon old) ≡ None
colon-none old front f b =
    colon-front old ∙ (ap (λ cs. after_colon (before is_semicolon cs)) (sym f)
    ∙ no-colon front (ap (begins_with is_whitespace) f ∙ front-begins old) b)

pub colon-some : (old front new : Components) → front ≡ without_front_whitespace old
    → PassesOne is_colon front new
    → (after_colon (before is_semicolon old) ≡ Some (before is_semicolon new))
    × (after is_semicolon new ≡ after is_semicolon old)
colon-some old front new f p =
    let white : is_whitespace p.c ≡ false =
    sym (ap (begins_with is_whitespace) p.all_are)
    ∙ (ap (begins_with is_whitespace) f ∙ front-begins old) in
    let behind : after is_semicolon (component p.c new) ≡ after is_semicolon new =
    rw (colon-semicolon p.c p.passes) refl in (
      colon-front old ∙ (ap (λ cs. after_colon (before is_semicolon cs)) (sym f ∙ p.all_are)
          ∙ a-colon p.c new white p.passes),
      sym behind ∙ (ap (after is_semicolon) (sym p.all_are ∙ f)
          ∙ front-after is_semicolon white-semicolon old),
    )

-- ---- all that are ahead, and parts that are gathered

-- one more goes ahead
pub moved-one : (xs ys stack more : List code.Component) (x : code.Component) (all : Components)
    → xs ≡ ys ++ x ∷ [] → more ≡ stack ++ x ∷ []
    → followed (components_view xs) (stacked stack) ≡ all
    → followed (components_view ys) (stacked more) ≡ all
moved-one xs ys stack more x all e f w =
    ap (λ s. followed (components_view ys) (stacked s)) f
    ∙ (ap (followed (components_view ys))
    (fold_push (λ cs (c : code.Component). component (component_view c) cs) no_components stack
    x)
    ∙ (sym (followed-push ys x (stacked stack))
    ∙ (ap (λ zs. followed (components_view zs) (stacked stack)) (sym e) ∙ w)))

pub gathered-end : (test : Component → Bool) (part : List code.Component) (x : code.Component)
    (all rest whole : Components)
    → all ≡ component (component_view x) rest → test (component_view x) ≡ true
    → followed (components_view part) (before test all) ≡ whole → components_view part ≡ whole
gathered-end test part x all rest whole e t w =
    let none : before test all ≡ no_components = rw (e, t) refl in
    sym (followed-end (components_view part))
    ∙ (ap (followed (components_view part)) (sym none) ∙ w)

pub gathered-more : (test : Component → Bool) (part more : List code.Component) (x : code.Component)
    (all rest whole : Components)
    → all ≡ component (component_view x) rest → test (component_view x) ≡ false
    → more ≡ part ++ x ∷ []
    → followed (components_view part) (before test all) ≡ whole
    → followed (components_view more) (before test rest) ≡ whole
gathered-more test part more x all rest whole e t f w =
    let one : before test all ≡ component (component_view x) (before test rest) = rw (e, t) refl in
    ap (λ cs. followed (components_view cs) (before test rest)) f
    ∙ (followed-push part x (before test rest)
    ∙ (ap (followed (components_view part)) (sym one) ∙ w))

pub after-more : (test : Component → Bool) (c : Component) (all rest whole : Components)
    → all ≡ component c rest → test c ≡ false → after test all ≡ whole → after test rest ≡ whole
after-more test c all rest whole e t w =
    let one : after test all ≡ after test rest = rw (e, t) refl in sym one ∙ w

pub end-more : (test : Component → Bool) (c : Component) (all rest : Components)
    (whole : Option Component)
    → all ≡ component c rest → test c ≡ false → end_of test all ≡ whole → end_of test rest ≡ whole
end-more test c all rest whole e t w =
    let one : end_of test all ≡ end_of test rest = rw (e, t) refl in sym one ∙ w

pub gathered-all : (test : Component → Bool) (part : List code.Component) (all whole : Components)
    → all ≡ no_components
    → followed (components_view part) (before test all) ≡ whole → components_view part ≡ whole
gathered-all test part all whole e w =
    let none : before test all ≡ no_components = rw e refl in
    sym (followed-end (components_view part))
    ∙ (ap (followed (components_view part)) (sym none) ∙ w)
