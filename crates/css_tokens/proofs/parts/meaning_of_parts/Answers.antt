use Rattle.std.proofs.Common.{◌≡◌, ◌∙◌, ap, sym, subst, drop, length, false, ℕ, List}
use Rattle.std.specs.Prelude.{IfOk}
use Rattle.std.specs.Str.{chars}
use Rattle.css_model.specs.Classes.{begins}
use Rattle.css_model.specs.inner.Fronts.{run_in}
use Rattle.css_tokens.specs.inner.Parts.{is_plain, is_backslash}
use Rattle.css_tokens.proofs.PartSteps.{plain-means}
use Rattle.css_tokens.proofs.parts.meaning_of_parts.Goals as goal

pub returns : goal.returns
returns c =
    let ends : begins is_backslash (drop (length (run_in (is_plain c.args.place) (chars c.args.cs.now))) (chars c.args.cs.now)) ≡ false =
    ap (begins is_backslash) (sym c.plain_parts.ensures.rest) ∙ (sym c.begins_escape.ensures ∙ c.if-begins_escape.false) in
    subst (λ (xs : List ℕ). IfOk c.new.result (λ t. t ≡ xs)) (c.plain_parts.ensures.front ∙ plain-means c.args.place (chars c.args.cs.now) ends) c.new.ensures
