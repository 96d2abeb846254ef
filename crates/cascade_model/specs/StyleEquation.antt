-- The style of an element: its font size first, and then all properties (CSS Cascade 4, section 4.4;
-- CSS Values 4, section 6.1).
use Rattle.std.specs.Prelude.{ℤ, if◌then◌else◌, map, is_none, Option, option_map}
use Rattle.value_model.specs.declared.length_unit.Bases.{Bases}
use Rattle.value_model.specs.declared.prop.Prop.{Prop}
use Rattle.value_model.specs.declared.prop.Prop.TheVariants.{FontSize}
use Rattle.value_model.specs.Properties.{properties}
use Rattle.value_model.specs.Values.{Final}
use Rattle.cascade_model.specs.Defaulting.{Style, Winners, value_of_property, style_of_border, width_beside, root_value, units_of_final}

-- what an element's style is made of: the values that win, the style of its parent, and what lengths
-- refer to, `em` being the font size of the parent and, for the root, `em` and `rem` the initial one
pub record Given : Type 0 where
  pub winners : Winners
  pub parent : Option Style
  pub bases : Bases

-- in `font-size`, `em` is the font size of the parent and `rem` that of the root; at the root both are the
-- initial one
abbrev pub font_size : Given → ℤ
font_size g = units_of_final (value_of_property g.winners g.parent g.bases g.bases.em FontSize)

-- in all other properties `em` is the element's font size, and `rem` the root's
abbrev pub own_bases : Given → Bases
own_bases g = record {
  em = font_size g;
  rem = if is_none g.parent then font_size g else g.bases.rem;
  vw = g.bases.vw;
  vh = g.bases.vh;
  cqw = g.bases.cqw;
  cqh = g.bases.cqh;
}

-- the bases of a property
abbrev pub bases_of : Given → Prop → Bases
bases_of g FontSize = g.bases
bases_of g p = own_bases g

-- the value of a property by itself
abbrev pub own_value : Given → Prop → Final
own_value g p = value_of_property g.winners g.parent (bases_of g p) g.bases.em p

-- the width of a border beside its style
abbrev pub bordered_value : Given → Prop → Final
bordered_value g p = width_beside (option_map (own_value g) (style_of_border p)) (own_value g p)

-- the same for an element that may be the root
abbrev pub final_value : Given → Prop → Final
final_value g p = if is_none g.parent then root_value p (bordered_value g p) else bordered_value g p

-- the style of an element
abbrev pub style_of : Given → Style
style_of g = map (final_value g) properties
