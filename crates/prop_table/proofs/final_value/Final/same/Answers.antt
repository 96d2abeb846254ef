use Rattle.prop_table.proofs.FinalValues.{containment-same}
use Rattle.prop_table.proofs.final_value.Final.same.Goals as goal

pub returns-in-Containment-Containment : goal.returns-in-Containment-Containment
returns-in-Containment-Containment c =
    rw (c.in-Containment-Containment.is-0, c.in-Containment-Containment.is-1)
    (containment-same c.eq-in-Containment-Containment.result c.in-Containment-Containment.a c.in-Containment-Containment.b c.eq-in-Containment-Containment.ensures)
