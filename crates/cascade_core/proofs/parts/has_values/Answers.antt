use Rattle.std.proofs.Common.{rules, ◌∙◌, ◌<◌, get_or, length, sym}
use Rattle.std.proofs.lemmas.Bool.{false≢true}
use Rattle.std.proofs.lemmas.List.{get_or_default}
use Rattle.value_model.specs.declared.prop.Prop.{Prop}
use Rattle.value_model.specs.declared.prop.Prop.TheVariants.{Display}
use Rattle.cascade_core.specs.Givens.{given_view}
use Rattle.cascade_core.proofs.PartValues.{value-there}
use Rattle.cascade_core.proofs.parts.has_values.Goals as goal

pub returns-then-not-same : goal.returns-then-not-same
returns-then-not-same c = (
  λ f. absurd (false≢true f),
  λ are.
      let within : c.loop-i.i < length c.args.part.now = search rules in
      let prop : Prop = get_or c.args.props.now c.loop-i.i Display in
      let alike = value-there (given_view c.args.g.now) c.args.part.now c.args.props.now c.loop-i.i
      c.index-as_slice-i.result prop within c.loop-i-test.true (search rules)
      (get_or_default c.args.props.now c.loop-i.i Display prop c.loop-i-test.true) are in
      sym c.if-not-same.true ∙ c.same.ensures.1 (alike ∙ sym c.in_ok-value.ensures),
)
