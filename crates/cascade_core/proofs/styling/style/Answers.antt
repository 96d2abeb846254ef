use Rattle.std.proofs.Common.{◌≡◌, ◌∙◌, ◌-◌, ap, subst, length, List, map, take, drop}
use Rattle.value_model.specs.declared.prop.Prop.{Prop}
use Rattle.cascade_model.specs.StyleEquation.{final_value}
use Rattle.prop_table.specs.Styles.{style_view}
use Rattle.cascade_core.specs.Givens.{given_view}
use Rattle.cascade_core.proofs.StyleParts.{parts_joined}
use Rattle.cascade_core.proofs.styling.style.Goals as goal

pub returns : goal.returns
returns c =
    let value = final_value (given_view c.args.g.now) in
    ap style_view c.of_parts.ensures
    ∙ parts_joined (given_view c.args.g.now) c.in_ok-boxes.boxes.value c.in_ok-borders.borders.value
    c.in_ok-rest.rest.value
    (subst (λ (ps : List Prop). style_view c.in_ok-boxes.boxes.value ≡ map value (take 15 ps))
    c.all_props.ensures c.in_ok-boxes.ensures.values)
    (subst (λ (ps : List Prop). style_view c.in_ok-borders.borders.value ≡ map value (take 12 (drop 15 ps)))
    c.all_props-2.ensures c.in_ok-borders.ensures.values)
    (subst (λ (ps : List Prop). style_view c.in_ok-rest.rest.value ≡ map value (take (length ps - 27) (drop 27 ps)))
    c.all_props-3.ensures c.in_ok-rest.ensures.values)
