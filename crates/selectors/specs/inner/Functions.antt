-- Functions and blocks in selectors.
use Rattle.std.specs.Prelude.{if◌then◌else◌, List, Option, option_map, option_and_then}
use Rattle.css_model.specs.Classes.{Text}
use Rattle.css_model.specs.declared.token.TokenType.{TokenType}
use Rattle.selectors_model.specs.AnPlusBs.{an_plus_b_of}
use Rattle.selectors_model.specs.AttributeSelectors.{attribute_of}
use Rattle.selectors_model.specs.Grammar.{Atom, other, whole_if, is_square_type}
use Rattle.selectors_model.specs.PseudoNames.{named, nth_pseudo_classes}
use Rattle.selectors_model.specs.Selectors.{Simple, nth_pseudo_class}

-- what a simple block is
abbrev pub block_atom : TokenType → List TokenType → Atom
block_atom head types = if is_square_type head then whole_if (attribute_of types) else other

-- the pseudo-class that counts siblings, with this name and these contents
abbrev pub nth_selector : Text → List TokenType → Option Simple
nth_selector name types =
    option_and_then (λ nth. option_map (λ at. nth_pseudo_class nth at) (an_plus_b_of types))
    (named nth_pseudo_classes name)
