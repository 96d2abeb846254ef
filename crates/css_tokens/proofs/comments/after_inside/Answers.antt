use Rattle.std.proofs.Common.{◌∙◌, ap, length}
use Rattle.std.specs.Str.{chars}
use Rattle.css_model.specs.inner.Pieces.{comment_inside}
use Rattle.css_tokens.proofs.CommentSteps.{inside-cut}
use Rattle.css_tokens.proofs.comments.after_inside.Goals as goal

pub split_at-requires : goal.split_at-requires
split_at-requires c =
    (inside-cut c.args.cs.now c.inside_length.result c.utf8.cs (c.inside_length.ensures.inside ∙ ap (λ bs. length (comment_inside bs)) c.as_bytes.ensures.value)).boundary

pub returns : goal.returns
returns c =
    ap chars c.split_at.ensures.back
    ∙ (inside-cut c.args.cs.now c.inside_length.result c.utf8.cs (c.inside_length.ensures.inside ∙ ap (λ bs. length (comment_inside bs)) c.as_bytes.ensures.value)).rest
