-- The box that a frame stands for: one without borders and paddings.
use Rattle.std.specs.Prelude.{pos}
use Rattle.layout_model.specs.Boxes.{Box}
use Rattle.relayout_cli.specs.declared.boxes.Frame.{Frame}

abbrev pub frame_view : Frame → Box
frame_view f = record {
  left = f.left;
  top = f.top;
  width = f.width;
  height = f.height;
  content_left = pos 0;
  content_top = pos 0;
  content_width = f.content_width;
  content_height = f.content_height;
}
