use Rattle.std.proofs.Common.{◌∙◌, ap}
use Rattle.prop_table.specs.Styles.{borders_of}
use Rattle.prop_table.proofs.AreParts.{borders-are}
use Rattle.prop_table.proofs.style.Style.borders.Goals as goal

pub returns : goal.returns
returns c =
    borders-are c.self.inside.boxes.value c.self.inside.borders.value c.self.inside.rest.value
    c.self.invariant
    ∙ ap borders_of c.self.view_is
