-- How attributes are read from an object's members, one after another.
use Rattle.std.proofs.Common.{List, None, Some, ap, ℕ, ◌≡◌}
use Rattle.std.specs.Prelude.{option_and_then}
use Rattle.serde_json.specs.Data.{Data, Members, member}
use Rattle.page_model.specs.Trees.{Attribute}
use Rattle.page_model.specs.Jsonml.{with_member, with_members}

-- one more attribute was read
pub with_members-next : (before after : List Attribute) (name : List ℕ) (d : Data) (ms : Members) → with_member before name d ≡ Some after
    → with_members before (member name d ms) ≡ with_members after ms
with_members-next before after name d ms e = ap (option_and_then (λ more. with_members more ms)) e

-- a member that is no attribute
pub with_members-none : (before : List Attribute) (name : List ℕ) (d : Data) (ms : Members) → with_member before name d ≡ None
    → with_members before (member name d ms) ≡ None
with_members-none before name d ms e = ap (option_and_then (λ more. with_members more ms)) e
