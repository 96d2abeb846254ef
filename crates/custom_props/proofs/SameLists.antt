-- Lists that are compared one after another.
use Rattle.std.proofs.Common.{◌≡◌, ◌∙◌, ◌↔◌, ap, sym, refl, ℕ, zero, suc, ◌+◌, ◌<◌, ◌≤◌, List, [], ◌∷◌, length, drop, get_or, map, Option, Some, add-one, arith}
use Rattle.std.proofs.lemmas.Option.{same_Some}
use Rattle.std.specs.Prelude.{slice_get}
use Rattle.css_model.specs.Components as model
use Rattle.css_model.specs.declared.token.Token.{Token}
use Rattle.custom_props.specs.Views.{value_view}
use Rattle.custom_props.specs.declared.named_value.NamedValue.{NamedValue}
use Rattle.css_tokens.specs.declared.component.Component.{Component}
use Rattle.css_tokens.specs.Nested.{component_view, components_view, listed}

module _ {X Y : Type 0} (f : X → Y) where
  length-same : (xs : List X) → length (map f xs) ≡ length xs
  length-same [] = refl
  length-same (x ∷ xs) = ap suc (length-same xs)

  pub lengths_of_same : (xs ys : List X) → map f xs ≡ map f ys → length xs ≡ length ys
  lengths_of_same xs ys e = sym (length-same xs) ∙ (ap length e ∙ length-same ys)

  at : (xs : List X) (i : ℕ) (d : X) → i < length xs → slice_get (map f xs) i ≡ Some (f (get_or xs i d))
  at [] i d h = absurd (omega (arith, h))
  at (x ∷ xs) zero d h = refl
  at (x ∷ xs) (suc i) d h = at xs i d (omega (arith, h))

  -- same lists have the same in each place
  pub same_at : (xs ys : List X) (i : ℕ) (d e : X) → i < length xs → i < length ys → map f xs ≡ map f ys
      → f (get_or xs i d) ≡ f (get_or ys i e)
  same_at xs ys i d e h k s =
      same_Some (f (get_or xs i d)) (f (get_or ys i e)) (sym (at xs i d h) ∙ (ap (λ l. slice_get l i) s ∙ at ys i e k))

  drop-map : (xs : List X) (i : ℕ) (d : X) → i < length xs
      → map f (drop i xs) ≡ f (get_or xs i d) ∷ map f (drop (suc i) xs)
  drop-map [] i d h = absurd (omega (arith, h))
  drop-map (x ∷ xs) zero d h = refl
  drop-map (x ∷ xs) (suc i) d h = drop-map xs i d (omega (arith, h))

  -- where the rest is the same if all before it is, one more
  pub same_rest : (xs ys : List X) (i : ℕ) (d e : X) → i < length xs → i < length ys
      → f (get_or xs i d) ≡ f (get_or ys i e)
      → (map f (drop i xs) ≡ map f (drop i ys) → map f xs ≡ map f ys)
      → map f (drop (i + 1) xs) ≡ map f (drop (i + 1) ys) → map f xs ≡ map f ys
  same_rest xs ys i d e h k s rest more =
      rest (drop-map xs i d h
      ∙ ((λ j. s j ∷ (ap (λ n. map f (drop n xs)) (sym (add-one i)) ∙ (more ∙ ap (λ n. map f (drop n ys)) (add-one i))) j)
      ∙ sym (drop-map ys i e k)))

  drop-past : (xs : List X) (i : ℕ) → length xs ≤ i → drop i xs ≡ []
  drop-past [] zero h = refl
  drop-past [] (suc i) h = refl
  drop-past (x ∷ xs) zero h = absurd (omega (arith, h))
  drop-past (x ∷ xs) (suc i) h = drop-past xs i (omega (arith, h))

  pub same_end : (xs ys : List X) (i : ℕ) → length xs ≤ i → length ys ≤ i
      → (map f (drop i xs) ≡ map f (drop i ys) → map f xs ≡ map f ys) → map f xs ≡ map f ys
  same_end xs ys i h k rest = rest (ap (map f) (drop-past xs i h) ∙ sym (ap (map f) (drop-past ys i k)))

-- ---- component values

abbrev items : model.Components → List model.Component
items model.no_components = []
items (model.component c cs) = c ∷ items cs

items-listed : (cs : List model.Component) → items (listed cs) ≡ cs
items-listed [] = refl
items-listed (c ∷ cs) = ap (λ l. c ∷ l) (items-listed cs)

pub same_items : (xs ys : List Component) → components_view xs ≡ components_view ys
    → map component_view xs ≡ map component_view ys
same_items xs ys e =
    sym (items-listed (map component_view xs)) ∙ (ap items e ∙ items-listed (map component_view ys))

abbrev contents_of : model.Component → model.Components
contents_of (model.preserved t) = model.no_components
contents_of (model.simple_block head contents close) = contents
contents_of (model.function_block head contents close) = contents

module _ (head other_head : Token) (contents other_contents seen : List Component) (close other_close : Option Token)
    (b : model.Component) (heads : head ≡ other_head) (closes : close ≡ other_close) (is : seen ≡ other_contents) where
  -- two blocks are the same if their contents are, where their brackets are the same
  pub same_block : b ≡ model.simple_block other_head (components_view other_contents) other_close
      → (map component_view contents ≡ map component_view seen)
      ↔ (model.simple_block head (components_view contents) close ≡ b)
  same_block v = (
    (λ e. (λ j. model.simple_block (heads j) (listed (e j)) (closes j))
        ∙ (ap (λ cs. model.simple_block other_head (components_view cs) other_close) is ∙ sym v)),
    (λ e. same_items contents other_contents (ap contents_of (e ∙ v)) ∙ sym (ap (map component_view) is)),
  )

  pub same_function : b ≡ model.function_block other_head (components_view other_contents) other_close
      → (map component_view contents ≡ map component_view seen)
      ↔ (model.function_block head (components_view contents) close ≡ b)
  same_function v = (
    (λ e. (λ j. model.function_block (heads j) (listed (e j)) (closes j))
        ∙ (ap (λ cs. model.function_block other_head (components_view cs) other_close) is ∙ sym v)),
    (λ e. same_items contents other_contents (ap contents_of (e ∙ v)) ∙ sym (ap (map component_view) is)),
  )

pub same_value : (a b : NamedValue) (xs ys : List Component) → xs ≡ a.value.value → ys ≡ b.value.value → a.name ≡ b.name
    → (map component_view xs ≡ map component_view ys) ↔ (value_view a ≡ value_view b)
same_value a b xs ys x y n = (
  (λ e. λ j. (n j, (ap components_view (sym x) ∙ (ap listed e ∙ ap components_view y)) j)),
  (λ e. ap (map component_view) x
      ∙ (same_items a.value.value b.value.value (ap (λ v. v.1) e) ∙ sym (ap (map component_view) y))),
)
