use Rattle.std.proofs.Common.{◌≡◌, ◌∙◌, ap, sym, Some, ◌++◌, ◌||◌, length, drop, true}
use Rattle.std.specs.Str.{chars}
use Rattle.css_model.specs.Classes.{is_close_round, is_empty, begins}
use Rattle.css_model.specs.declared.place.Place.TheVariants.{InUrl}
use Rattle.css_model.specs.declared.token.TokenType.TheVariants.{Url}
use Rattle.css_model.specs.Parts.{meanings}
use Rattle.css_model.specs.TokenList.{piece_text}
use Rattle.css_model.specs.inner.Fronts.{parts_in, one_in}
use Rattle.css_model.specs.inner.Pieces.{url_parts, after_white, after_url_parts}
use Rattle.css_tokens.specs.inner.Found.{type_of}
use Rattle.css_tokens.proofs.PieceEnds.{url-ends, url-rest}
use Rattle.css_tokens.proofs.urls.consume_url.Goals as goal

pub returns-in_ok-value : goal.returns-in_ok-value
returns-in_ok-value c = λ h.
    let inside = chars c.args.inside.now in
    let left : chars c.after_white-rest.result.now ≡ (url_parts inside).left =
    c.after_white-rest.ensures ∙ ap after_white (c.after_parts.ensures ∙ ap after_url_parts c.after_white-value.ensures) in
    let ends : (is_empty (url_parts inside).left || begins is_close_round (url_parts inside).left) ≡ true =
    ap (λ l. is_empty l || begins is_close_round l) (sym left) ∙ (sym c.ends.ensures ∙ c.if-ends.true) in
    let is = url-ends h inside ends in
    let value : c.in_ok-value.value ≡ meanings InUrl (url_parts inside).parts =
    c.in_ok-value.ensures ∙ ap (λ l. meanings InUrl (parts_in InUrl l)) c.after_white-value.ensures in (
      c.token.ensures.token_type ∙ (ap (λ v. Some (Url v)) value ∙ sym (ap type_of is)),
      ap chars c.token.ensures.rest ∙ (c.one.ensures.rest ∙ (ap (λ l. drop (length (one_in is_close_round l)) l) left
          ∙ (url-rest h inside ∙ sym (ap (λ m. drop (length (piece_text m)) (h ++ inside)) is)))),
    )
