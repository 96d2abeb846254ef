use Rattle.std.proofs.Common.{◌∙◌, ap, sym, drop, length}
use Rattle.std.specs.Str.{chars}
use Rattle.css_model.specs.inner.Pieces.{comment_inside, comment_end}
use Rattle.css_tokens.proofs.CommentSteps.{inside-ends}
use Rattle.css_tokens.proofs.PartSteps.{drop-append}
use Rattle.css_tokens.proofs.comments.consume_comment.Goals as goal

pub after_end-requires : goal.after_end-requires
after_end-requires c = ap comment_inside c.after_inside.ensures ∙ inside-ends (chars c.args.cs.now)

pub returns : goal.returns
returns c =
    let cs = chars c.args.cs.now in
    let inside = comment_inside cs in (
      c.comment.ensures.token_type,
      ap chars c.comment.ensures.rest ∙ (c.after_end.ensures ∙ (ap (λ xs. drop (length (comment_end xs)) xs) c.after_inside.ensures
          ∙ sym (drop-append inside (comment_end (drop (length inside) cs)) cs))),
    )
