use Rattle.std.proofs.Common.{◌≡◌, ◌∙◌, ap, sym, Some, ◌∷◌, length, drop}
use Rattle.std.specs.Str.{chars}
use Rattle.css_model.specs.Spellings.{single_of}
use Rattle.css_model.specs.TokenList.{piece_text}
use Rattle.css_tokens.specs.inner.Found.{type_of}
use Rattle.css_tokens.proofs.PunctuationPieces.{punctuation-first}
use Rattle.css_tokens.proofs.first_piece.first_piece.Goals as goal

pub returns-in-Some : goal.returns-in-Some
returns-in-Some c =
    let cs = chars c.args.rest.now in
    let found : single_of c.args.c ≡ Some c.in-Some.token_type = sym c.punctuation.ensures ∙ c.in-Some.is in
    let is = punctuation-first c.args.c cs c.in-Some.token_type found in (
      c.token-in-Some.ensures.token_type ∙ sym (ap type_of is),
      ap chars c.token-in-Some.ensures.rest ∙ sym (ap (λ m. drop (length (piece_text m)) (c.args.c ∷ cs)) is),
    )
