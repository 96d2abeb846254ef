use Rattle.std.proofs.Common.{rules}
use Rattle.std.specs.Fmt.{digits}
use Rattle.css_model.specs.inner.Nesting.{levels_of}
use Rattle.css_model.specs.inner.Pieces.{pieces_after}
use Rattle.css_model.specs.inner.Fronts.{parts_after}
use Rattle.value_model.proofs.examples.calculations.trees.Goals as goal

pub returns : goal.returns
unfolding digits levels_of pieces_after parts_after
returns c = search rules
