-- The value of an attribute that is looked up in order.
use Rattle.std.proofs.Common.{List, Some, ap, arith, drop, length, refl, slice_index_or, subst, suc, sym, true, ℕ, ◌+◌, ◌<◌, ◌∙◌, ◌≡◌}
use Rattle.dom_arena.proofs.Lists.{drop-next}
use Rattle.page_laws.proofs.AttributesInOrder.{other-text, text-same}
use Rattle.page_model.specs.Attributes.{is_same_text, value_of}
use Rattle.page_model.specs.Trees.{Attribute, Text}

-- the attribute at the index has the name
pub value-found : (name : Text) (xs : List Attribute) (i : ℕ) (a : Attribute) → i < length xs → a ≡ slice_index_or xs i a → a.0 ≡ name → value_of name (drop i xs) ≡ Some a.1
value-found name xs i a w e same =
    let test : is_same_text name a.0 ≡ true = subst (λ (t : Text). is_same_text name t ≡ true) (sym same) (text-same name) in
    ap (value_of name) (drop-next xs i a w e) ∙ rw test refl

-- it has not
pub value-later : (name : Text) (xs : List Attribute) (i : ℕ) (a : Attribute) → i < length xs → a ≡ slice_index_or xs i a → (a.0 ≡ name → ⊥) → value_of name (drop (i + 1) xs) ≡ value_of name (drop i xs)
value-later name xs i a w e other =
    let test = other-text name a.0 (λ h. other (sym h)) in
    let one : i + 1 ≡ suc i = omega arith in
    ap (λ n. value_of name (drop n xs)) one ∙ sym (ap (value_of name) (drop-next xs i a w e) ∙ rw test refl)
