-- What is found for a box.
use Rattle.flow_model.specs.Offsets.{Placement}
use Rattle.margin_flow.specs.declared.placed.Placed.{Placed}

abbrev pub placed_view : {L : Type 0} → Placed L → Placement
placed_view p = record {
  offsets = p.offsets;
  auto_height = p.auto_height;
  top = p.top;
  bottom = p.bottom;
  through = p.through;
  baseline = p.baseline;
}
