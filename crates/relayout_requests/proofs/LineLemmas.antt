-- What the value of a line is.
use Rattle.std.proofs.Common.{◌≡◌, sym, refl, ℕ, List, Some, None, inl, inr}
use Rattle.std.proofs.lemmas.Bool.{cases_Bool}
use Rattle.std.specs.Str.{IsUtf8, is_utf8}
use Rattle.std.proofs.lemmas.Str.{is_utf8-from_IsUtf8, IsUtf8-from_is_utf8}
use Rattle.serde_json.specs.Data.{Data}
use Rattle.serde_json.specs.Read.{read}
use Rattle.request_model.specs.Requests.{value_of}

pub value_of-some : (line : List ℕ) (d : Data) → IsUtf8 line → read line ≡ Some d → Some d ≡ value_of line
unfolding value_of
value_of-some line d u e = rw (is_utf8-from_IsUtf8 line u) (sym e)

pub value_of-none : (line : List ℕ) → (IsUtf8 line → read line ≡ None) → None ≡ value_of line
unfolding value_of
value_of-none line h = elim (cases_Bool (is_utf8 line)) [
  | inl t ↦ rw t (sym (h (IsUtf8-from_is_utf8 line t)))
  | inr f ↦ rw f refl
]
