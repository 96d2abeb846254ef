-- The attributes and texts of a tree after one is set or dropped.
use Rattle.std.proofs.Common.{IsSome, List, None, Option, Some, ap, option_map, refl, ℕ, ◌∙◌, ◌≡◌}
use Rattle.page_laws.proofs.AttributesInOrder.{value-dropped, value-left, value-other, value-set}
use Rattle.page_laws.proofs.Options.{some-is}
use Rattle.page_laws.proofs.TreeAfterChange.{attributes-changed, ids-changed, text-changed}
use Rattle.page_model.specs.Attributes.{value_of, with_attribute, without_attribute}
use Rattle.page_model.specs.Document.{Node, attributes_at, ids, name_at, text_at, value_at}
use Rattle.page_model.specs.Edits.{tree_after_change, tree_after_drop_attr, tree_after_set_attr, tree_after_set_text}
use Rattle.page_model.specs.Trees.{Attribute, Text}

pub value-set-at : (i : ℕ) (name value : Text) (root : Node) → IsSome (name_at i root) → value_at name i (tree_after_set_attr i name value root) ≡ Some value
value-set-at i name value root h =
    ap (value_of name) (attributes-changed i (with_attribute name value) (λ cs. cs) root h) ∙ value-set name value (attributes_at i root)

pub value-other-at : (i : ℕ) (name value other : Text) (root : Node) → IsSome (name_at i root) → (other ≡ name → ⊥) → value_at other i (tree_after_set_attr i name value root) ≡ value_at other i root
value-other-at i name value other root h ne =
    ap (value_of other) (attributes-changed i (with_attribute name value) (λ cs. cs) root h) ∙ value-other name value other (attributes_at i root) ne

pub value-dropped-at : (i : ℕ) (name : Text) (root : Node) → IsSome (name_at i root) → value_at name i (tree_after_drop_attr i name root) ≡ None
value-dropped-at i name root h =
    ap (value_of name) (attributes-changed i (without_attribute name) (λ cs. cs) root h) ∙ value-dropped name (attributes_at i root)

pub value-left-at : (i : ℕ) (name other : Text) (root : Node) → IsSome (name_at i root) → (other ≡ name → ⊥) → value_at other i (tree_after_drop_attr i name root) ≡ value_at other i root
value-left-at i name other root h ne =
    ap (value_of other) (attributes-changed i (without_attribute name) (λ cs. cs) root h) ∙ value-left name other (attributes_at i root) ne

pub ids-kept : (i : ℕ) (a : List Attribute → List Attribute) (c : Text → Text) (root : Node) → ids (tree_after_change i a c root) ≡ ids root
ids-kept i a c root = ids-changed i a c root

-- ---- texts

pub text-set-at : (i : ℕ) (cs : Text) (root : Node) → IsSome (text_at i root) → text_at i (tree_after_set_text i cs root) ≡ Some cs
text-set-at i cs root h =
    let is = some-is (text_at i root) h in
    text-changed i (λ attributes. attributes) (λ _. cs) root ∙ ap (option_map (λ _. cs)) is.1

map-same : (o : Option Text) → option_map (λ cs. cs) o ≡ o
map-same None = refl
map-same (Some cs) = refl

pub text-kept : (i : ℕ) (a : List Attribute → List Attribute) (root : Node) → text_at i (tree_after_change i a (λ cs. cs) root) ≡ text_at i root
text-kept i a root = text-changed i a (λ cs. cs) root ∙ map-same (text_at i root)

pub attributes-kept : (i : ℕ) (cs : Text) (root : Node) → IsSome (name_at i root) → attributes_at i (tree_after_set_text i cs root) ≡ attributes_at i root
attributes-kept i cs root h = attributes-changed i (λ attributes. attributes) (λ _. cs) root h
