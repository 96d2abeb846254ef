-- The box of an element. Lengths are integers in units; a unit is 1/64 of a pixel.
use Rattle.std.specs.Prelude.{◌≡◌, ℕ, ◌*◌, ℤ, pos}
use Rattle.page_model.specs.declared.viewport.Viewport.{Viewport}

-- the number of units of some pixels
abbrev pub units_of_pixels : ℕ → ℤ
units_of_pixels n = pos (64 * n)

-- An element's box. `left` and `top` lead from the content edge of its containing block to its border edge, and
-- `content_left` and `content_top` from there to its content edge; the sizes are those of the border box and of the
-- content box (CSS 2.1 section 8.1).
pub record Box : Type 0 where
  pub left : ℤ
  pub top : ℤ
  pub width : ℤ
  pub height : ℤ
  pub content_left : ℤ
  pub content_top : ℤ
  pub content_width : ℤ
  pub content_height : ℤ

-- what a box is laid into: the width of its containing block (CSS 2.1 section 10.1)
pub record Containing : Type 0 where
  pub width : ℤ

-- the containing block of the root is the viewport
abbrev pub viewport_block : Viewport → Containing
viewport_block v = record { width = units_of_pixels v.width }

-- the containing block of what is in a block is its content box
abbrev pub content_block : Box → Containing
content_block box = record { width = box.content_width }

-- A block without margins, borders and paddings, with nothing but such blocks in it: it fills its containing block from
-- edge to edge (CSS 2.1 section 10.3.3), is as high as what is in it, which has no height (section 10.6.3), and stands
-- at the top of its containing block, as everything before it has no height either (section 9.4.1).
pub record IsFlatBlock (around : Containing) (box : Box) : Type 0 where
  pub left : box.left ≡ pos 0
  pub top : box.top ≡ pos 0
  pub width : box.width ≡ around.width
  pub height : box.height ≡ pos 0
  pub content_left : box.content_left ≡ pos 0
  pub content_top : box.content_top ≡ pos 0
  pub content_width : box.content_width ≡ box.width
  pub content_height : box.content_height ≡ box.height
