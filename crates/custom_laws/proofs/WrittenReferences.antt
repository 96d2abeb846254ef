-- The contents of a `var()` are read as they are written.
use Rattle.std.proofs.Common.{◌≡◌, ◌∙◌, ◌↔◌, ap, sym, subst, refl, List, [], ◌∷◌, append-nil, true, inl, inr, Option, Some, None, filter_map, option_map, option_and_then, unwrap_or}
use Rattle.std.proofs.lemmas.Bool.{cases_Bool}
use Rattle.std.proofs.lemmas.Option.{none-some, same_Some}
use Rattle.css_model.specs.declared.token.Token.{Token}
use Rattle.css_model.specs.Classes.{Text}
use Rattle.css_model.specs.Components.{Component, function_block, Components, no_components, component}
use Rattle.css_model.specs.inner.Nesting.{followed}
use Rattle.page_laws.proofs.Options.{both-true}
use Rattle.rules_model.specs.ComponentLists.{are_whitespace, is_whitespace}
use Rattle.custom_model.specs.References.{Reference, custom_name_of, is_comma, is_declaration_value, is_var_type, names_in, reference_in, reference_to, all_vars_in}
use Rattle.custom_laws.specs.Written.{IsFallback, IsReference}
use Rattle.custom_laws.proofs.CommaTypes.{comma-no-space, comma-no-var, name-no-space, name-no-var, space-no-var}

-- ---- what is read is written so

record AfterName (name : Text) (cs : Components) (r : Reference) : Type 0 where
  behind : Components
  rest : Components
  white : are_whitespace behind ≡ true
  fallback : IsFallback r.fallback rest
  joined : cs ≡ followed behind rest
  named : r.name ≡ name

read-after : (name : Text) (cs : Components) (r : Reference) → reference_to name cs ≡ Some r → AfterName name cs r
read-after name no_components r h =
    let made : Reference = record { name = name; fallback = None } in
    let here : AfterName name no_components made =
    record { behind = no_components; rest = no_components; white = refl; fallback = refl; joined = refl; named = refl } in
    subst (λ (x : Reference). AfterName name no_components x) (same_Some made r h) here
read-after name (component c cs) r h = elim (cases_Bool (is_whitespace c)) [
  | inl t ↦
      let later = read-after name cs r (rw t at h) in
      record {
        behind = component c later.behind;
        rest = later.rest;
        white = rw t later.white;
        fallback = later.fallback;
        joined = ap (component c) later.joined;
        named = later.named;
      }
  | inr f ↦ elim (cases_Bool (is_comma c)) [
    | inl t ↦ elim (cases_Bool (is_declaration_value cs)) [
      | inl u ↦
          let made : Reference = record { name = name; fallback = Some cs } in
          let here : AfterName name (component c cs) made =
          record { behind = no_components; rest = component c cs; white = refl; fallback = (c, t, u, refl); joined = refl; named = refl } in
          subst (λ (x : Reference). AfterName name (component c cs) x) (same_Some made r (rw (f, t, u) at h)) here
      | inr u ↦ absurd (none-some r (rw (f, t, u) at h))
    ]
    | inr u ↦ absurd (none-some r (rw (f, u) at h))
  ]
]

read-name : (o : Option Text) (c : Component) (cs : Components) (r : Reference) → custom_name_of c ≡ o
    → option_and_then (λ name. reference_to name cs) o ≡ Some r → IsReference (component c cs) r
read-name None c cs r n h = absurd (none-some r h)
read-name (Some name) c cs r n h =
    let later = read-after name cs r h in
    record {
      front = no_components;
      word = c;
      behind = later.behind;
      rest = later.rest;
      front_white = refl;
      named = n ∙ ap (λ x. Some x) (sym later.named);
      behind_white = later.white;
      fallback = later.fallback;
      joined = ap (component c) later.joined;
    }

read-written : (contents : Components) (r : Reference) → reference_in contents ≡ Some r → IsReference contents r
read-written no_components r h = absurd (none-some r h)
read-written (component c cs) r h = elim (cases_Bool (is_whitespace c)) [
  | inl t ↦
      let later = read-written cs r (rw t at h) in
      record {
        front = component c later.front;
        word = later.word;
        behind = later.behind;
        rest = later.rest;
        front_white = rw t later.front_white;
        named = later.named;
        behind_white = later.behind_white;
        fallback = later.fallback;
        joined = ap (component c) later.joined;
      }
  | inr f ↦ read-name (custom_name_of c) c cs r refl (rw f at h)
]

-- ---- what is written so is read

written-fallback : (name : Text) (o : Option Components) (rest : Components) → IsFallback o rest
    → reference_to name rest ≡ Some (record { name = name; fallback = o })
written-fallback name None rest h = ap (reference_to name) h
written-fallback name (Some cs) rest h =
    ap (reference_to name) h.3 ∙ rw (comma-no-space h.0 h.1, h.1, h.2) refl

written-after : (name : Text) (o : Option Components) (behind rest : Components) → are_whitespace behind ≡ true → IsFallback o rest
    → reference_to name (followed behind rest) ≡ Some (record { name = name; fallback = o })
written-after name o no_components rest w h = written-fallback name o rest h
written-after name o (component c cs) rest w h =
    let parts = both-true (is_whitespace c) (are_whitespace cs) w in
    rw parts.0 (written-after name o cs rest parts.1 h)

written-front : (front : Components) (word : Component) (cs : Components) (r : Reference) → are_whitespace front ≡ true
    → custom_name_of word ≡ Some r.name → reference_to r.name cs ≡ Some r
    → reference_in (followed front (component word cs)) ≡ Some r
written-front no_components word cs r w n h = rw (name-no-space word r.name n, n) h
written-front (component c front) word cs r w n h =
    let parts = both-true (is_whitespace c) (are_whitespace front) w in
    rw parts.0 (written-front front word cs r parts.1 n h)

written-read : (contents : Components) (r : Reference) → IsReference contents r → reference_in contents ≡ Some r
written-read contents r w =
    ap reference_in w.joined
    ∙ written-front w.front w.word (followed w.behind w.rest) r w.front_white w.named
    (written-after r.name r.fallback w.behind w.rest w.behind_white w.fallback)

pub read-as-written : (contents : Components) (r : Reference) → (reference_in contents ≡ Some r) ↔ IsReference contents r
read-as-written contents r = (read-written contents r, written-read contents r)

-- ---- references in a fallback

abbrev vars_of : Option Components → List Components
vars_of None = []
vars_of (Some cs) = all_vars_in cs

-- white space in front has none
vars-behind-space : (front cs : Components) → are_whitespace front ≡ true → all_vars_in (followed front cs) ≡ all_vars_in cs
vars-behind-space no_components cs w = refl
vars-behind-space (component c front) cs w =
    let parts = both-true (is_whitespace c) (are_whitespace front) w in
    rw (space-no-var c parts.0) (vars-behind-space front cs parts.1)

vars-of-rest : (o : Option Components) (rest : Components) → IsFallback o rest → all_vars_in rest ≡ vars_of o
vars-of-rest None rest h = ap all_vars_in h
vars-of-rest (Some cs) rest h = ap all_vars_in h.3 ∙ rw (comma-no-var h.0 h.1) refl

vars-of-fallback : (contents : Components) (r : Reference) → IsReference contents r → all_vars_in contents ≡ vars_of r.fallback
vars-of-fallback contents r w =
    ap all_vars_in w.joined
    ∙ (vars-behind-space w.front (component w.word (followed w.behind w.rest)) w.front_white
    ∙ rw (name-no-var w.word r.name w.named)
    (vars-behind-space w.behind w.rest w.behind_white ∙ vars-of-rest r.fallback w.rest w.fallback))

-- the name to which the contents of a `var()` refer
abbrev name_of : Components → Option Text
name_of contents = option_map (λ r. r.name) (reference_in contents)

names-of-vars : (o : Option Components) → filter_map name_of (vars_of o) ≡ unwrap_or (option_map names_in o) []
names-of-vars None = refl
names-of-vars (Some cs) = refl

pub names-of-one : (head : Token) (contents : Components) (close : Option Token) (r : Reference)
    → is_var_type head.token_type ≡ true → reference_in contents ≡ Some r
    → names_in (component (function_block head contents close) no_components)
    ≡ r.name ∷ unwrap_or (option_map names_in r.fallback) []
names-of-one head contents close r v h =
    rw (v, append-nil (all_vars_in contents), h)
    (ap (λ ns. r.name ∷ ns)
    (ap (filter_map name_of) (vars-of-fallback contents r (read-written contents r h)) ∙ names-of-vars r.fallback))
