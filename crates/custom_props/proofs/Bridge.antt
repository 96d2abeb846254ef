-- What is reached by places is what is reached by names.
use Rattle.std.proofs.Common.{◌≡◌, ◌∙◌, ap, sym, refl, subst, ℕ, zero, suc, ◌<◌, length, get_or, map, filter_map, arith, List, [], ◌∷◌, ◌++◌, true, inl, inr, Option, Some, None, option_map, option_and_then, unwrap_or}
use Rattle.std.specs.List.{cons_option, list_any}
use Rattle.std.proofs.lemmas.Bool.{cases_Bool, false≢true}
use Rattle.std.proofs.lemmas.Option.{none-some, same_Some}
use Rattle.css_model.specs.Classes.{Text}
use Rattle.css_model.specs.Components.{Component, Components, component}
use Rattle.page_model.specs.Attributes.{is_same_text}
use Rattle.page_laws.proofs.AttributesInOrder.{same-text, text-same}
use Rattle.page_laws.proofs.Options.{true-or, true-or-left, true-or-right}
use Rattle.custom_model.specs.Cycles.{refers, IsReached, directly, through}
use Rattle.custom_model.specs.NamedValues.{NamedValues, value_named, names_of}
use Rattle.custom_model.specs.References.{Reference, all_vars_in, names_in, reference_in, vars_in}
use Rattle.custom_laws.proofs.Reached.{named-among, refers-named}
use Rattle.custom_props.specs.inner.Graphs.{IsIn, IsWithin, Leads, at_once, by_way, graph_of, place_in, places_in, places_of, successors}
use Rattle.custom_props.specs.inner.Places.{place_of}

-- ---- places of names

pub place-some : (name : Text) (names : List Text) → list_any (is_same_text name) names ≡ true
    → (x : ℕ) × (place_of name names ≡ Some x)
place-some name [] h = absurd (false≢true h)
place-some name (n ∷ names) h = elim (cases_Bool (is_same_text name n)) [
  | inl t ↦ (0, rw t refl)
  | inr f ↦
      let rest = place-some name names (rw f at h) in
      (suc rest.0, rw (f, rest.1) refl)
]

pub suc-some : (o : Option ℕ) (x : ℕ) → option_map suc o ≡ Some x → (y : ℕ) × (o ≡ Some y) × (x ≡ suc y)
suc-some None x h = absurd (none-some x h)
suc-some (Some y) x h = (y, refl, sym (same_Some (suc y) x h))

pub place-within : (name : Text) (names : List Text) (x : ℕ) → place_of name names ≡ Some x → x < length names
place-within name [] x h = absurd (none-some x h)
place-within name (n ∷ names) x h = elim (cases_Bool (is_same_text name n)) [
  | inl t ↦ let zero-is : 0 ≡ x = same_Some 0 x (rw t at h) in omega (arith, zero-is)
  | inr f ↦
      let more = suc-some (place_of name names) x (rw f at h) in
      omega (arith, place-within name names more.0 more.1, more.2)
]

-- names in one place are the same
pub place-same : (n m : Text) (names : List Text) (x : ℕ) → place_of n names ≡ Some x → place_of m names ≡ Some x
    → n ≡ m
place-same n m [] x h k = absurd (none-some x h)
place-same n m (p ∷ names) x h k = elim (cases_Bool (is_same_text n p)) [
  | inl t ↦ elim (cases_Bool (is_same_text m p)) [
    | inl u ↦ same-text n p t ∙ sym (same-text m p u)
    | inr g ↦
        let zero-is : 0 ≡ x = same_Some 0 x (rw t at h) in
        let more = suc-some (place_of m names) x (rw g at k) in
        absurd (omega (arith, zero-is, more.2))
  ]
  | inr f ↦
      let first = suc-some (place_of n names) x (rw f at h) in
      elim (cases_Bool (is_same_text m p)) [
        | inl u ↦
            let zero-is : 0 ≡ x = same_Some 0 x (rw u at k) in
            absurd (omega (arith, zero-is, first.2))
        | inr g ↦
            let second = suc-some (place_of m names) x (rw g at k) in
            let same : second.0 ≡ first.0 = omega (arith, first.2, second.2) in
            place-same n m names first.0 first.1 (second.1 ∙ ap Some same)
      ]
]

-- the value in a place
pub value-in-place : (f : Components → List ℕ) (values : NamedValues) (name : Text) (x : ℕ)
    → place_of name (names_of values) ≡ Some x
    → (value : Components) × (value_named values name ≡ Some value)
    × (get_or (map (λ v. f v.1) values) x [] ≡ f value)
value-in-place f [] name x h = absurd (none-some x h)
value-in-place f (v ∷ values) name x h = elim (cases_Bool (is_same_text name v.0)) [
  | inl t ↦
      let zero-is : 0 ≡ x = same_Some 0 x (rw t at h) in
      (v.1, rw t refl, ap (λ i. get_or (map (λ w. f w.1) (v ∷ values)) i []) (sym zero-is))
  | inr g ↦
      let more = suc-some (place_of name (names_of values)) x (rw g at h) in
      let rest = value-in-place f values name more.0 more.1 in
      (rest.0, rw g rest.1, ap (λ i. get_or (map (λ w. f w.1) (v ∷ values)) i []) more.2 ∙ rest.2)
]

-- ---- references

-- the name to which the contents of a `var()` refer
abbrev name_of : Components → Option Text
name_of contents = option_map (λ r. r.name) (reference_in contents)

in-cons : (o : Option ℕ) (y : ℕ) (ps : List ℕ) → IsIn y ps → IsIn y (cons_option o ps)
in-cons None y ps i = i
in-cons (Some x) y ps i = inr i

to-place-step : (names : List Text) (name : Text) (y : ℕ) → place_of name names ≡ Some y → (o : Option Reference)
    (ns : List Text) (ps : List ℕ) → (list_any (is_same_text name) ns ≡ true → IsIn y ps)
    → list_any (is_same_text name) (cons_option (option_map (λ r. r.name) o) ns) ≡ true
    → IsIn y (cons_option (option_and_then (λ r. place_of r.name names) o) ps)
to-place-step names name y p None ns ps rest h = rest h
to-place-step names name y p (Some r) ns ps rest h =
    elim (true-or (is_same_text name r.name) (list_any (is_same_text name) ns) h) [
      | inl t ↦
          subst (λ (o : Option ℕ). IsIn y (cons_option o ps))
          (sym (ap (λ n. place_of n names) (sym (same-text name r.name t)) ∙ p)) (inl refl)
      | inr k ↦ in-cons (place_of r.name names) y ps (rest k)
    ]

-- a reference to a name is one to its place
pub to-place : (names : List Text) (name : Text) (y : ℕ) → place_of name names ≡ Some y → (vars : List Components)
    → list_any (is_same_text name) (filter_map name_of vars) ≡ true → IsIn y (places_in names vars)
to-place names name y p [] h = absurd (false≢true h)
to-place names name y p (contents ∷ vars) h =
    to-place-step names name y p (reference_in contents) (filter_map name_of vars) (places_in names vars)
    (to-place names name y p vars) h

abbrev IsReferredPlace : List Text → ℕ → List Text → Type 0
IsReferredPlace names y ns = (name : Text) × (place_of name names ≡ Some y) × (list_any (is_same_text name) ns ≡ true)

to-name-place : (names : List Text) (y : ℕ) (n : Text) (ns : List Text) (ps : List ℕ) (place : Option ℕ)
    → place_of n names ≡ place → (IsIn y ps → IsReferredPlace names y ns)
    → IsIn y (cons_option place ps) → IsReferredPlace names y (n ∷ ns)
to-name-place names y n ns ps None e rest i =
    let found = rest i in
    (found.0, found.1, true-or-right (is_same_text found.0 n) (list_any (is_same_text found.0) ns) found.2)
to-name-place names y n ns ps (Some z) e rest (inl s) =
    (n, e ∙ ap Some (sym s), true-or-left (is_same_text n n) (list_any (is_same_text n) ns) (text-same n))
to-name-place names y n ns ps (Some z) e rest (inr i) =
    let found = rest i in
    (found.0, found.1, true-or-right (is_same_text found.0 n) (list_any (is_same_text found.0) ns) found.2)

to-name-step : (names : List Text) (y : ℕ) (o : Option Reference) (ns : List Text) (ps : List ℕ)
    → (IsIn y ps → IsReferredPlace names y ns)
    → IsIn y (cons_option (option_and_then (λ r. place_of r.name names) o) ps)
    → IsReferredPlace names y (cons_option (option_map (λ r. r.name) o) ns)
to-name-step names y None ns ps rest i = rest i
to-name-step names y (Some r) ns ps rest i =
    to-name-place names y r.name ns ps (place_of r.name names) refl rest i

-- and a reference to a place is one to the name in it
pub to-name : (names : List Text) (y : ℕ) (vars : List Components) → IsIn y (places_in names vars)
    → IsReferredPlace names y (filter_map name_of vars)
to-name names y [] i = absurd i
to-name names y (contents ∷ vars) i =
    to-name-step names y (reference_in contents) (filter_map name_of vars) (places_in names vars)
    (to-name names y vars) i

-- ---- of declared names

module _ (declared : NamedValues) where
  pub place-named : (name : Text) (value : Components) → value_named declared name ≡ Some value
      → (x : ℕ) × (place_of name (names_of declared) ≡ Some x)
  place-named name value h = place-some name (names_of declared) (named-among declared name value h)

  -- a name in a place refers to one in another place
  successor-refers : (n : Text) (x y : ℕ) → place_of n (names_of declared) ≡ Some x
      → IsIn y (successors (graph_of declared) x)
      → (m : Text) × (place_of m (names_of declared) ≡ Some y) × (refers declared n m ≡ true)
  successor-refers n x y p i =
      let here = value-in-place (places_of (names_of declared)) declared n x p in
      let found = to-name (names_of declared) y (all_vars_in here.0) (subst (IsIn y) here.2 i) in (
        found.0,
        found.1,
        ap (λ o. list_any (is_same_text found.0) (unwrap_or (option_map names_in o) [])) here.1 ∙ found.2,
      )

  pub refers-successor : (n m : Text) (x y : ℕ) → place_of n (names_of declared) ≡ Some x
      → place_of m (names_of declared) ≡ Some y → refers declared n m ≡ true
      → IsIn y (successors (graph_of declared) x)
  refers-successor n m x y p q r =
      let here = value-in-place (places_of (names_of declared)) declared n x p in
      subst (IsIn y) (sym here.2) (to-place (names_of declared) m y q (all_vars_in here.0)
      (sym (ap (λ o. list_any (is_same_text m) (unwrap_or (option_map names_in o) [])) here.1) ∙ r))

  pub leads-reached : (n : Text) (x y : ℕ) → place_of n (names_of declared) ≡ Some x → Leads (graph_of declared) x y
      → (m : Text) × (place_of m (names_of declared) ≡ Some y) × IsReached declared n m
  leads-reached n x y p (at_once i) =
      let next = successor-refers n x y p i in
      (next.0, next.1, directly next.2)
  leads-reached n x y p (by_way z i l) =
      let next = successor-refers n x z p i in
      let rest = leads-reached next.0 z y next.1 l in
      (rest.0, rest.1, through next.0 next.2 rest.2)

  pub reached-leads : (n m : Text) (x y : ℕ) → place_of n (names_of declared) ≡ Some x
      → place_of m (names_of declared) ≡ Some y → IsReached declared n m → Leads (graph_of declared) x y
  reached-leads n m x y p q (directly h) = at_once (refers-successor n m x y p q h)
  reached-leads n m x y p q (through via h r) =
      let named = reached-named via m r in
      let place = place-named via named.0 named.1 in
      by_way place.0 (refers-successor n via x place.0 p place.1 h) (reached-leads via m place.0 y place.1 q r)
    where
      reached-named : (via m : Text) → IsReached declared via m
          → (value : Components) × (value_named declared via ≡ Some value)
      reached-named via m (directly k) = refers-named declared via m k
      reached-named via m (through next k s) = refers-named declared via next k

  -- a place leads back to itself exactly where its name is on a cycle
  pub leads-on-cycle : (n : Text) (x : ℕ) → place_of n (names_of declared) ≡ Some x
      → Leads (graph_of declared) x x → IsReached declared n n
  leads-on-cycle n x p l =
      let end = leads-reached n x x p l in
      subst (IsReached declared n) (place-same end.0 n (names_of declared) x end.1 p) end.2

  pub on-cycle-leads : (n : Text) (x : ℕ) → place_of n (names_of declared) ≡ Some x
      → IsReached declared n n → Leads (graph_of declared) x x
  on-cycle-leads n x p r = reached-leads n n x x p p r

  -- each reference is to a place
  pub graph-within : IsWithin (graph_of declared)
  graph-within x y i = within-places declared x i
    where
      length-map : (values : NamedValues) (f : Text × Components → List ℕ) → length (map f values) ≡ length (names_of values)
      length-map [] f = refl
      length-map (v ∷ values) f = ap suc (length-map values f)

      within-places : (values : NamedValues) (x : ℕ)
          → IsIn y (get_or (map (λ v. places_of (names_of declared) v.1) values) x []) → y < length (graph_of declared)
      within-places [] x i = absurd i
      within-places (v ∷ values) zero i =
          let found = to-name (names_of declared) y (all_vars_in v.1) i in
          omega (
            arith,
            place-within found.0 (names_of declared) y found.1,
            length-map declared (λ v. places_of (names_of declared) v.1),
          )
      within-places (v ∷ values) (suc x) i = within-places values x i

-- ---- one component value after another

cons-append : (o : Option ℕ) (xs ys : List ℕ) → cons_option o (xs ++ ys) ≡ cons_option o xs ++ ys
cons-append None xs ys = refl
cons-append (Some x) xs ys = refl

places-append : (names : List Text) (xs ys : List Components)
    → places_in names (xs ++ ys) ≡ places_in names xs ++ places_in names ys
places-append names [] ys = refl
places-append names (x ∷ xs) ys =
    ap (cons_option (place_in names x)) (places-append names xs ys)
    ∙ cons-append (place_in names x) (places_in names xs) (places_in names ys)

pub places_cons : (names : List Text) (c : Component) (cs : Components)
    → places_of names (component c cs) ≡ places_in names (vars_in c) ++ places_of names cs
places_cons names c cs = places-append names (vars_in c) (all_vars_in cs)
