-- The equations of an element: each part of what it is given follows from what is above it and from its contents.
use Rattle.std.specs.Prelude.{◌≡◌, Option, Some, None, List, Bool, true, false}
use Rattle.cascade_model.specs.Styling.{Styling}
use Rattle.flow_model.specs.declared.containing.Containing.{Containing}
use Rattle.flow_model.specs.declared.effects.Effects.{Effects}
use Rattle.flow_model.specs.Heights.{height_of, used_values}
use Rattle.flow_model.specs.Kinds.{is_boxed}
use Rattle.flow_model.specs.Offsets.{placement}
use Rattle.flow_model.specs.PreferredWidths.{inner_pair, pair_of_contents}
use Rattle.flow_model.specs.UsedLengths.{Values}
use Rattle.layout_model.specs.Above.{Above, effects_below, kind_below, laid_as, values_of}
use Rattle.layout_model.specs.Contents.{BlockBox, items_of, outer_pairs_of}
use Rattle.layout_model.specs.Entries.{BoxResults, Entry}

-- The results of a box: its preferred widths come from its contents (CSS 2.1, section 10.3.5), its used values from its
-- containing block, its style and these widths (sections 10.2 to 10.7), and its height and where its items stand from all
-- of it (sections 8.3.1, 9.4.1 and 10.6.3).
pub record IsBox (around : Containing) (fx : Effects) (values : Values) (contents : List BlockBox) (box : BoxResults) : Type 0 where
  pub inner : box.inner ≡ inner_pair fx (pair_of_contents (outer_pairs_of contents))
  pub used : box.used ≡ used_values around fx box.inner values
  pub placement : box.placement ≡ placement box.used (items_of contents)
  pub height : box.height ≡ height_of box.used box.placement.auto_height

-- an element that is boxed has a box, which is such; any other has none
abbrev pub HasBox : (boxed : Bool) → (BoxResults → Type 0) → Option BoxResults → Type 0
HasBox true IsSuch box = (b : BoxResults) × (box ≡ Some b) × IsSuch b
HasBox false IsSuch box = box ≡ None

-- what an element below these is given, where the cascade gives it this style
pub record IsEntry (above : Above) (around : Containing) (cascaded : Styling) (contents : List BlockBox) (e : Entry) : Type 0 where
  pub style : e.style ≡ cascaded
  pub kind : e.kind ≡ kind_below above e.style
  pub box : HasBox (is_boxed e.kind)
      (IsBox (laid_as e.kind around) (effects_below above e.style) (values_of e.style) contents) e.box
