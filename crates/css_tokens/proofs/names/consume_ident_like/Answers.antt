use Rattle.std.proofs.Common.{◌≡◌, ◌∙◌, ◌&&◌, ap, sym, subst, drop, length, not, true, false}
use Rattle.std.specs.Prelude.{IfOk}
use Rattle.std.specs.Str.{chars}
use Rattle.css_model.specs.Spellings.{is_url_name, quote_follows}
use Rattle.css_model.specs.TokenList.{piece_text}
use Rattle.css_model.specs.inner.Pieces.{consume_url}
use Rattle.css_tokens.specs.inner.Found.{IsFound, type_of}
use Rattle.css_tokens.proofs.PieceEnds.{Called, head_of, head-joins, head-rest, read-url, read-function}
use Rattle.css_tokens.proofs.names.consume_ident_like.Goals as goal

pub returns-then-begins_url : goal.returns-then-begins_url
returns-then-begins_url c =
    let cs = chars c.args.cs.now in
    let inside = chars c.in-Some.inside.now in
    let name = c.in_ok-name.name in
    let called : Called cs name inside =
    record { c = c.in-Some.c; named = c.in_ok-name.ensures; after = sym c.after_parts-rest.ensures ∙ c.in-Some.ensures; opens = c.if-c-ne40.false } in
    let test : (is_url_name name && not (quote_follows inside)) ≡ true = sym c.begins_url.ensures ∙ c.if-begins_url.true in
    subst (λ piece. IfOk c.consume_url.result (λ p. IsFound p piece cs)) (sym (read-url cs name inside called test))
    (subst (λ text. IfOk c.consume_url.result (λ p. IsFound p (consume_url (head_of cs) inside) text)) (head-joins cs name inside called) (c.consume_url.ensures (head_of cs)))

pub returns : goal.returns
returns c =
    let cs = chars c.args.cs.now in
    let inside = chars c.in-Some.inside.now in
    let name = c.in_ok-name.name in
    let called : Called cs name inside =
    record { c = c.in-Some.c; named = c.in_ok-name.ensures; after = sym c.after_parts-rest.ensures ∙ c.in-Some.ensures; opens = c.if-c-ne40.false } in
    let test : (is_url_name name && not (quote_follows inside)) ≡ false = sym c.begins_url.ensures ∙ c.if-begins_url.false in
    let is = read-function cs name inside called test in (
      c.token-else-begins_url.ensures.token_type ∙ sym (ap type_of is),
      ap chars c.token-else-begins_url.ensures.rest ∙ (head-rest cs name inside called ∙ sym (ap (λ m. drop (length (piece_text m)) cs) is)),
    )
