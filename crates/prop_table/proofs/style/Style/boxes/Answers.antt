use Rattle.std.proofs.Common.{◌∙◌, ap}
use Rattle.prop_table.specs.Styles.{boxes_of}
use Rattle.prop_table.proofs.AreParts.{boxes-are}
use Rattle.prop_table.proofs.style.Style.boxes.Goals as goal

pub returns : goal.returns
returns c =
    boxes-are c.self.inside.boxes.value c.self.inside.borders.value c.self.inside.rest.value
    c.self.invariant
    ∙ ap boxes_of c.self.view_is
