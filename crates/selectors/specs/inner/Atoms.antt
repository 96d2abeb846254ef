-- Which atoms of the definition these are.
use Rattle.std.specs.Prelude.{List, option_map}
use Rattle.css_tokens.specs.declared.component.Component.{Component}
use Rattle.css_tokens.specs.Nested.{components_view}
use Rattle.selectors_model.specs.Grammar as model
use Rattle.selectors.specs.Views.{simple_view}
use Rattle.selectors.specs.declared.reading.atoms.Atom.{Atom}
use Rattle.selectors.specs.declared.reading.atoms.Atom.TheVariants as atom
use Rattle.selectors.specs.declared.reading.atoms.Part.{Part}
use Rattle.selectors.specs.declared.reading.atoms.Part.TheVariants as part

abbrev pub part_view : Part → model.Atom
part_view part.Dot = model.dot
part_view part.Colon = model.colon
part_view part.Star = model.star
part_view (part.Word name) = model.word name.now
part_view (part.Whole s) = model.whole (simple_view s)
part_view (part.Function name s) = model.function name.now (option_map simple_view s)
part_view part.Other = model.other

abbrev pub atom_view : Atom → model.Atom
atom_view atom.White = model.white
atom_view atom.Comma = model.comma
atom_view (atom.Combinator by) = model.combinator by
atom_view (atom.Part p) = part_view p

-- what component values are in a selector
abbrev pub atoms : List Component → List model.Atom
atoms cs = model.atoms_of (components_view cs)
