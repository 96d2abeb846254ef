use Rattle.std.proofs.Common.{◌∙◌, ap}
use Rattle.prop_table.specs.Styles.{rest_of}
use Rattle.prop_table.proofs.AreParts.{rest-is}
use Rattle.prop_table.proofs.style.Style.rest.Goals as goal

pub returns : goal.returns
returns c =
    rest-is c.self.inside.boxes.value c.self.inside.borders.value c.self.inside.rest.value
    c.self.invariant
    ∙ ap rest_of c.self.view_is
