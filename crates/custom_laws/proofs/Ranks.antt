-- How many declared names are reached from a name: fewer from each name to which it refers, off a cycle.
use Rattle.std.proofs.Common.{◌≡◌, ◌∙◌, ap, sym, refl, ℕ, suc, ◌<◌, ◌≤◌, length, List, [], ◌∷◌, Bool, true, false, if◌then◌else◌, inl, inr, arith}
use Rattle.std.specs.List.{list_any}
use Rattle.std.proofs.lemmas.Bool.{cases_Bool, false≢true}
use Rattle.css_model.specs.Classes.{Text}
use Rattle.page_model.specs.Attributes.{is_same_text}
use Rattle.page_laws.proofs.AttributesInOrder.{same-text}
use Rattle.page_laws.proofs.Options.{true-or}
use Rattle.custom_model.specs.Cycles.{refers, through}
use Rattle.custom_model.specs.NamedValues.{NamedValues, names_of}
use Rattle.custom_model.specs.inner.Finding.{is_reached, is_on_cycle}
use Rattle.custom_laws.proofs.Reached.{found-directly, found-reached, reached-found}

-- how many names pass
abbrev pub count : (Text → Bool) → List Text → ℕ
count test [] = 0
count test (n ∷ names) = if test n then suc (count test names) else count test names

count-at-most : (test : Text → Bool) (names : List Text) → count test names ≤ length names
count-at-most test [] = omega arith
count-at-most test (n ∷ names) =
    let others = count-at-most test names in
    elim (cases_Bool (test n)) [
      | inl t ↦ rw t (omega (arith, others))
      | inr f ↦ rw f (omega (arith, others))
    ]

-- where what passes one test passes the other
count-more : (test other : Text → Bool) (names : List Text) → ((n : Text) → test n ≡ true → other n ≡ true)
    → count test names ≤ count other names
count-more test other [] h = omega arith
count-more test other (n ∷ names) h =
    let others = count-more test other names h in
    elim (cases_Bool (test n)) [
      | inl t ↦ rw (t, h n t) (omega (arith, others))
      | inr f ↦ elim (cases_Bool (other n)) [
        | inl u ↦ rw (f, u) (omega (arith, others))
        | inr u ↦ rw (f, u) others
      ]
    ]

-- and one of the names passes the other one_component
count-less : (test other : Text → Bool) (names : List Text) (m : Text) → ((n : Text) → test n ≡ true → other n ≡ true)
    → list_any (is_same_text m) names ≡ true → test m ≡ false → other m ≡ true
    → count test names < count other names
count-less test other [] m h among lacks has = absurd (false≢true among)
count-less test other (n ∷ names) m h among lacks has = elim (true-or (is_same_text m n) (list_any (is_same_text m) names) among) [
  | inl t ↦
      let same : m ≡ n = same-text m n t in
      let others = count-more test other names h in
      let lacks' : test n ≡ false = ap test (sym same) ∙ lacks in
      let has' : other n ≡ true = ap other (sym same) ∙ has in
      rw (lacks', has') (omega (arith, others))
  | inr t ↦
      let others = count-less test other names m h t lacks has in
      elim (cases_Bool (test n)) [
        | inl u ↦ rw (u, h n u) (omega (arith, others))
        | inr f ↦ elim (cases_Bool (other n)) [
          | inl u ↦ rw (f, u) (omega (arith, others))
          | inr u ↦ rw (f, u) others
        ]
      ]
]

-- how many declared names are reached from a name
abbrev pub rank : NamedValues → Text → ℕ
rank declared name = count (is_reached declared name) (names_of declared)

names-length : (values : NamedValues) → length (names_of values) ≡ length values
names-length [] = refl
names-length (v ∷ values) = ap suc (names-length values)

pub rank-at-most : (declared : NamedValues) (name : Text) → rank declared name ≤ length declared
rank-at-most declared name =
    let most = count-at-most (is_reached declared name) (names_of declared) in
    let same = names-length declared in
    omega (arith, most, same)

pub rank-less : (declared : NamedValues) (from to : Text) → refers declared from to ≡ true
    → list_any (is_same_text to) (names_of declared) ≡ true → is_on_cycle declared to ≡ false
    → rank declared to < rank declared from
rank-less declared from to h among off =
    count-less (is_reached declared to) (is_reached declared from) (names_of declared) to
    (λ n r. reached-found declared from n (through to h (found-reached declared (names_of declared) to n r)))
    among off (found-directly declared (names_of declared) from to h)
