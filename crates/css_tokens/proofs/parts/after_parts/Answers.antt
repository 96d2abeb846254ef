use Rattle.std.proofs.Common.{◌≡◌, ◌∙◌, ap, sym, drop, length, false}
use Rattle.std.specs.Str.{chars}
use Rattle.css_model.specs.Classes.{begins}
use Rattle.css_model.specs.inner.Fronts.{run_in}
use Rattle.css_tokens.specs.inner.Parts.{is_plain, is_backslash}
use Rattle.css_tokens.proofs.PartSteps.{plain-after}
use Rattle.css_tokens.proofs.parts.after_parts.Goals as goal

pub returns-else-begins_escape : goal.returns-else-begins_escape
returns-else-begins_escape c =
    let ends : begins is_backslash (drop (length (run_in (is_plain c.args.place) (chars c.args.cs.now))) (chars c.args.cs.now)) ≡ false =
    ap (begins is_backslash) (sym c.plain_parts.ensures.rest) ∙ (sym c.begins_escape.ensures ∙ c.if-begins_escape.false) in
    c.plain_parts.ensures.rest ∙ plain-after c.args.place (chars c.args.cs.now) ends
