use Rattle.std.proofs.Common.{IfOk, subst, sym, ◌≡◌, ◌∙◌}
use Rattle.value_model.specs.declared.length_unit.Bases.{Bases}
use Rattle.cascade_model.specs.Defaulting.{value_of_property}
use Rattle.prop_table.specs.Views.{final_view}
use Rattle.cascade_core.specs.Givens.{given_view}
use Rattle.cascade_core.proofs.BasesOf.{other_bases}
use Rattle.cascade_core.proofs.resolving.own_value.Goals as goal

pub returns-in_default : goal.returns-in_default
returns-in_default c =
    subst (λ (b : Bases). IfOk c.value_of-in_default.result (λ f. final_view f
    ≡ value_of_property (given_view c.args.g.now).winners (given_view c.args.g.now).parent b c.args.g.now.bases.em c.args.prop))
    (c.requires ∙ sym (other_bases (given_view c.args.g.now) c.args.prop c.in_default.not-FontSize))
    c.value_of-in_default.ensures
