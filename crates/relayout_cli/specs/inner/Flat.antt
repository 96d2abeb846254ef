-- The boxes of a page of plain blocks.
use Rattle.std.specs.Prelude.{ℤ, pos, is_some, Some, None, if◌then◌else◌}
use Rattle.page_model.specs.Document.{Node, name_at}
use Rattle.layout_model.specs.Boxes.{Box}
use Rattle.layout_model.specs.Consistent.{Assignment}

-- a block of this width without height, at the corner of its containing block
abbrev pub flat_box : ℤ → Box
flat_box width = record {
  left = pos 0;
  top = pos 0;
  width = width;
  height = pos 0;
  content_left = pos 0;
  content_top = pos 0;
  content_width = width;
  content_height = pos 0;
}

-- each id is given such a box
abbrev pub all_flat : ℤ → Assignment
all_flat width = λ _. Some (record { box = flat_box width })

-- each element of a document is given such a box, and nothing else is
abbrev pub flat_in : ℤ → Node → Assignment
flat_in width root = λ i. if is_some (name_at i root) then Some (record { box = flat_box width }) else None
