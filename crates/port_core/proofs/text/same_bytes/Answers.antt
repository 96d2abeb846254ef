use Rattle.std.proofs.Common.{◌≡◌, ℕ, List, encode_utf8_all, ap, sym, ◌∙◌}
use Rattle.std.proofs.lemmas.Slice.Eq.{bytes_eq-Decides}
use Rattle.std.proofs.lemmas.Str.{encodes-chars}
use Rattle.std.specs.Str.{chars, IsUtf8}
use Rattle.port_core.proofs.text.same_bytes.Goals as goal

-- two texts with the same characters have the same bytes
chars-injective : (xs ys : List ℕ) → IsUtf8 xs → IsUtf8 ys → chars xs ≡ chars ys → xs ≡ ys
chars-injective xs ys u v e = sym (encodes-chars xs u) ∙ (ap encode_utf8_all e ∙ encodes-chars ys v)

pub returns : goal.returns
returns c =
    let a = c.args.a.now in
    let b = c.args.b.now in
    let decides = bytes_eq-Decides a b in
    (λ t. ap chars (decides.0 (sym c.eq.ensures ∙ t)), λ e. c.eq.ensures ∙ decides.1 (chars-injective a b c.utf8.a c.utf8.b e))
