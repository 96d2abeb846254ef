use Rattle.std.proofs.Common.{rules, ◌∙◌, sym, ◌<◌, length}
use Rattle.std.proofs.lemmas.Bool.{false≢true}
use Rattle.prop_table.proofs.StyleView.{value-same}
use Rattle.prop_table.proofs.style.are_same.Goals as goal

pub returns-then-not-same : goal.returns-then-not-same
returns-then-not-same c = (
  λ f. absurd (false≢true f),
  λ same.
      let within : c.loop-i.i < length c.args.these.now = search rules in
      let alike = value-same c.args.these.now c.args.those.now c.loop-i.i c.index-as_slice-i.result
      c.index-as_slice-i-in-loop-i.result within (search rules) (search rules) (search rules) same in
      sym c.if-not-same.true ∙ c.same.ensures.1 alike,
)
