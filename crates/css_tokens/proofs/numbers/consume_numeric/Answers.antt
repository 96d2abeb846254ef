use Rattle.std.proofs.Common.{◌≡◌, ◌∙◌, ap, refl, sym, subst, Some, length, drop, false}
use Rattle.std.specs.Prelude.{codes}
use Rattle.std.specs.Str.{chars}
use Rattle.css_model.specs.declared.place.Place.TheVariants.{InName}
use Rattle.css_model.specs.declared.token.TokenType.TheVariants.{Percentage}
use Rattle.css_model.specs.Numerals.{numeral_text}
use Rattle.css_model.specs.Parts.{would_start_ident}
use Rattle.css_model.specs.TokenList.{piece_text}
use Rattle.css_model.specs.inner.Fronts.{parts_in, numeral_in}
use Rattle.css_tokens.specs.inner.Found.{type_of}
use Rattle.css_tokens.specs.inner.Texts.{IsAfter}
use Rattle.css_tokens.proofs.PieceEnds.{numeric-percent, percent-rest}
use Rattle.css_tokens.proofs.numbers.consume_numeric.Goals as goal

pub returns-in-Some : goal.returns-in-Some
returns-in-Some c =
    let all = chars c.args.cs.now in
    let w = numeral_in all in
    let cs = drop (length (numeral_text w)) all in
    let rest = chars c.in-Some.rest.now in
    let read = c.read_number-number.ensures.rest in
    let none : would_start_ident (parts_in InName cs) ≡ false =
    ap (λ l. would_start_ident (parts_in InName l)) (sym read) ∙ (sym c.would_start_ident.ensures ∙ c.if-would_start_ident.false) in
    let after : IsAfter (codes "%") cs rest = subst (λ l. IsAfter (codes "%") l rest) read c.in-Some.ensures in
    let is = numeric-percent w cs rest none after in (
      c.token-in-Some.ensures.token_type ∙ (ap (λ n. Some (Percentage n)) c.read_number-number.ensures.number ∙ sym (ap type_of is)),
      ap chars c.token-in-Some.ensures.rest ∙ (percent-rest w all cs rest refl after ∙ sym (ap (λ m. drop (length (piece_text m)) all) is)),
    )
