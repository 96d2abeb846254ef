-- Different styles have different lines, and so have different custom properties.
use Rattle.std.proofs.Common.{◌≡◌, ◌∙◌, refl, ap, ap₂, sym, subst, ℕ, ◌<◌, ◌==◌, List, [], ◌∷◌, ◌++◌, append_assoc, get_or, drop, length as count, true, not, arith, codes}
use Rattle.std.specs.Prelude.{flat_map}
use Rattle.std.specs.List.{AllByRecursion}
use Rattle.std.proofs.lemmas.Bool.{and_parts, eqb-true, agree_below_at, not-true, eqb-false}
use Rattle.std.proofs.lemmas.List.{append_cancel_left, get_or_default, same_lists}
use Rattle.std.proofs.lemmas.List.Elements.{All-from_recursion}
use Rattle.css_model.specs.Classes.{Text}
use Rattle.css_model.specs.Components.{Components}
use Rattle.custom_model.specs.NamedValues.{NamedValues}
use Rattle.custom_model.specs.ValueText.{value_text}
use Rattle.cascade_model.specs.Defaulting.{Style, value_in}
use Rattle.value_model.specs.declared.prop.Prop.{Prop}
use Rattle.value_model.specs.declared.prop.Prop.TheVariants.{Display, FontWeight}
use Rattle.value_model.specs.Properties.{property, properties, prop_place}
use Rattle.value_model.specs.Values.{Final}
use Rattle.reply_model.specs.Spelling.{quoted}
use Rattle.reply_model.specs.StyleText.{custom_line, custom_lines, style_lines, value_line}
use Rattle.reply_model.specs.ValueTexts.{final_text}
use Rattle.reply_laws.specs.ValueTexts.{HasShortNumbers, IsComputedStyle, TellsStylesApart, initial_style, named_texts}
use Rattle.value_laws.specs.ComputedForms.{is_computed}
use Rattle.value_laws.proofs.Computed.{initial-computed}
use Rattle.reply_laws.proofs.Quoted.{same-quoted}
use Rattle.reply_laws.proofs.OneLine.{no_newline, text-on_one_line}
use Rattle.reply_laws.proofs.ValuesApart.{values-apart}

-- ---- lines

no-newline-first : (y : ℕ) (ys r q : List ℕ) → no_newline (y ∷ ys) ≡ true
    → 10 ∷ r ≡ (y ∷ ys) ++ 10 ∷ q → ⊥
no-newline-first y ys r q h e =
    let other = (and_parts (not (y == 10)) (no_newline ys) h).0 in
    eqb-false y 10 (not-true (y == 10) other) (sym (ap (λ xs. get_or xs 0 0) e))

-- texts that end at the first newline
same-line : (xs ys r q : List ℕ) → no_newline xs ≡ true → no_newline ys ≡ true
    → xs ++ 10 ∷ r ≡ ys ++ 10 ∷ q → (xs ≡ ys) × (r ≡ q)
same-line [] [] r q h k e = (refl, ap (λ xs. drop 1 xs) e)
same-line [] (y ∷ ys) r q h k e = absurd (no-newline-first y ys r q k e)
same-line (x ∷ xs) [] r q h k e = absurd (no-newline-first x xs q r h (sym e))
same-line (x ∷ xs) (y ∷ ys) r q h k e =
    let first : x ≡ y = ap (λ zs. get_or zs 0 0) e in
    let rest = same-line xs ys r q (and_parts (not (x == 10)) (no_newline xs) h).1
    (and_parts (not (y == 10)) (no_newline ys) k).1 (ap (λ zs. drop 1 zs) e) in
    (cc (first, rest.0), rest.1)

-- ---- the lines of properties

-- behind the name and the colon of a property
line-whole : (p : Prop) (v : Final) (rest : List ℕ)
    → value_line p v ++ rest ≡ ((property p).name ++ codes ": ") ++ (final_text v ++ 10 ∷ rest)
unfolding value_line
line-whole p v rest = simp append_assoc

same-value : (p : Prop) (v w : Final) (r q : List ℕ) → value_line p v ++ r ≡ value_line p w ++ q
    → (final_text v ≡ final_text w) × (r ≡ q)
same-value p v w r q e =
    let name : List ℕ = (property p).name ++ codes ": " in
    let behind : final_text v ++ 10 ∷ r ≡ final_text w ++ 10 ∷ q =
    append_cancel_left name (final_text v ++ 10 ∷ r) (final_text w ++ 10 ∷ q)
    (sym (line-whole p v r) ∙ (e ∙ line-whole p w q)) in
    same-line (final_text v) (final_text w) r q (text-on_one_line v) (text-on_one_line w) behind

same-values : (s t : Style) → IsComputedStyle s → IsComputedStyle t → (ps : List Prop) (r q : List ℕ)
    → flat_map (λ p. value_line p (value_in s p)) ps ++ r ≡ flat_map (λ p. value_line p (value_in t p)) ps ++ q
    → AllByRecursion (λ p. value_in s p ≡ value_in t p) ps × (r ≡ q)
same-values s t cs ct [] r q e = (tt, e)
same-values s t cs ct (p ∷ ps) r q e =
    let of_s : List ℕ = flat_map (λ x. value_line x (value_in s x)) ps in
    let of_t : List ℕ = flat_map (λ x. value_line x (value_in t x)) ps in
    let first = same-value p (value_in s p) (value_in t p) (of_s ++ r) (of_t ++ q)
    (sym (append_assoc (value_line p (value_in s p)) of_s r)
    ∙ (e ∙ append_assoc (value_line p (value_in t p)) of_t q)) in
    let others = same-values s t cs ct ps r q first.1 in (
      (
        values-apart p (value_in s p) (value_in t p) (cs.computed p) (ct.computed p)
            (cs.short p) (ct.short p) first.0,
        others.0,
      ),
      others.1,
    )

-- ---- the lines of custom properties

-- the name in quotes, and what is behind it
custom-whole : (name : Text) (value : Components) (rest : List ℕ) → custom_line name value ++ rest
    ≡ codes "custom " ++ (quoted name ++ (32 ∷ (quoted (value_text value) ++ (10 ∷ rest))))
unfolding custom_line
custom-whole name value rest = simp append_assoc

not-ended : (name : Text) (value : Components) (rest : List ℕ) → [] ≡ custom_line name value ++ rest → ⊥
not-ended name value rest e = absurd (omega (arith, ap count (e ∙ custom-whole name value rest)))

same-customs : (e f : NamedValues) → flat_map (λ v. custom_line v.0 v.1) e ≡ flat_map (λ v. custom_line v.0 v.1) f
    → named_texts e ≡ named_texts f
same-customs [] [] h = refl
same-customs [] (w ∷ ws) h = absurd (not-ended w.0 w.1 (flat_map (λ v. custom_line v.0 v.1) ws) h)
same-customs (v ∷ vs) [] h = absurd (not-ended v.0 v.1 (flat_map (λ w. custom_line w.0 w.1) vs) (sym h))
same-customs (v ∷ vs) (w ∷ ws) h =
    let r : List ℕ = flat_map (λ x. custom_line x.0 x.1) vs in
    let q : List ℕ = flat_map (λ x. custom_line x.0 x.1) ws in
    let behind_v : List ℕ = 32 ∷ (quoted (value_text v.1) ++ (10 ∷ r)) in
    let behind_w : List ℕ = 32 ∷ (quoted (value_text w.1) ++ (10 ∷ q)) in
    let names : quoted v.0 ++ behind_v ≡ quoted w.0 ++ behind_w =
    append_cancel_left (codes "custom ") (quoted v.0 ++ behind_v) (quoted w.0 ++ behind_w)
    (sym (custom-whole v.0 v.1 r) ∙ (h ∙ custom-whole w.0 w.1 q)) in
    let name = same-quoted v.0 w.0 behind_v behind_w names in
    let value = same-quoted (value_text v.1) (value_text w.1) (10 ∷ r) (10 ∷ q) (ap (λ xs. drop 1 xs) name.1) in
    ap₂ (λ x xs. x ∷ xs) (ap₂ (λ n x. (n, x)) name.0 value.0)
    (same-customs vs ws (ap (λ xs. drop 1 xs) value.1))

-- ---- styles

place-of : (k : ℕ) → k < 45 → prop_place (get_or properties k Display) ≡ k
place-of k h = eqb-true (prop_place (get_or properties k Display)) k
    (agree_below_at (λ n. prop_place (get_or properties n Display) == n) (λ n. true) 45 k refl h)

value-at : (s : Style) (k : ℕ) (d : Final) → count s ≡ 45 → k < 45
    → value_in s (get_or properties k Display) ≡ get_or s k d
value-at s k d all h =
    let p : Prop = get_or properties k Display in
    ap (λ n. get_or s n (property p).initial) (place-of k h)
    ∙ get_or_default s k (property p).initial d (omega (arith, all))

same-styles : (s t : Style) → IsComputedStyle s → IsComputedStyle t
    → AllByRecursion (λ p. value_in s p ≡ value_in t p) properties → s ≡ t
same-styles s t cs ct all =
    let values = All-from_recursion (λ p. value_in s p ≡ value_in t p) properties all in
    same_lists s t (cs.complete ∙ sym ct.complete) (λ k d h.
    let below : k < 45 = omega (arith, cs.complete) in
    sym (value-at s k d cs.complete below) ∙ (values k Display below ∙ value-at t k d ct.complete below))

pub styles-apart : TellsStylesApart
unfolding style_lines custom_lines
styles-apart s t cs ct e =
    let both = same-values s.style t.style cs ct properties (custom_lines s.environment) (custom_lines t.environment) e in
    (same-styles s.style t.style cs ct both.0, same-customs s.environment t.environment both.1)

-- ---- initial values

initial-value : (p : Prop) → value_in initial_style p ≡ (property p).initial
initial-value Display = refl
initial-value p = refl

initial-short : (p : Prop) → HasShortNumbers (property p).initial
initial-short FontWeight = omega arith
initial-short p = tt

pub initial-style : IsComputedStyle initial_style
initial-style = record {
  complete = refl;
  computed = λ p. ap (is_computed p) (initial-value p) ∙ initial-computed p;
  short = λ p. subst HasShortNumbers (sym (initial-value p)) (initial-short p);
}
