use Rattle.value_parts.proofs.reading.length_of_type.Goals as goal

pub returns-in-Dimension : goal.returns-in-Dimension
returns-in-Dimension c = rw c.in-Dimension.is c.dimension_of.ensures
