use Rattle.std.proofs.Common.{◌≡◌, ◌∙◌, ap, sym, Some, ◌∷◌, length, drop}
use Rattle.std.specs.Str.{chars}
use Rattle.css_model.specs.declared.place.Place.TheVariants.{InString}
use Rattle.css_model.specs.declared.token.TokenType.TheVariants.{String}
use Rattle.css_model.specs.TokenList.{piece_text}
use Rattle.css_model.specs.inner.Fronts.{parts_in, after_parts}
use Rattle.css_tokens.specs.inner.Found.{type_of}
use Rattle.css_tokens.proofs.PieceEnds.{Closed, string-closed}
use Rattle.css_tokens.proofs.strings.consume_string.Goals as goal

pub returns-in_ok-value-in-Some : goal.returns-in_ok-value-in-Some
returns-in_ok-value-in-Some c =
    let quote = c.args.quote in
    let cs = chars c.args.cs.now in
    let rest : after_parts (parts_in (InString quote) cs) cs ≡ c.in-Some.c ∷ chars c.in-Some.after.now = sym c.after_parts-rest.ensures ∙ c.in-Some.ensures in
    let closed : Closed quote cs (chars c.in-Some.after.now) = string-closed quote c.in-Some.c cs (chars c.in-Some.after.now) rest c.if-c-quote.true in (
      c.token-then-c-quote.ensures.token_type ∙ (ap (λ v. Some (String v)) c.in_ok-value-in-Some.ensures ∙ sym (ap type_of closed.is)),
      ap chars c.token-then-c-quote.ensures.rest ∙ (closed.rest_is ∙ sym (ap (λ m. drop (length (piece_text m)) (quote ∷ cs)) closed.is)),
    )
