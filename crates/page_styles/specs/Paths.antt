-- The way from an element up to the root.
use Rattle.std.specs.Prelude.{◌≡◌, ℕ, List, [], ◌∷◌, ◌++◌, Some, None}
use Rattle.page_model.specs.Document.{Node, parent_of}
use Rattle.stream_model.specs.Ledger.{Log}
use Rattle.stream_model.specs.declared.kind.Kind.TheVariants.{Match, Style as styling}
use Rattle.cascade_laws.specs.Styles.{root_font_size}
use Rattle.cascade_model.specs.DocumentStyles.{Page, child_style, root_style}
use Rattle.cascade_model.specs.Styling.{Styling}

-- the elements above a node, the nearest first
abbrev pub IsPathAbove : Node → ℕ → List ℕ → Type 0
IsPathAbove root i [] = parent_of i root ≡ None
IsPathAbove root i (p ∷ above) = (parent_of i root ≡ Some p) × IsPathAbove root p above

-- the style of an element below these, and its environment
abbrev pub style_below : Page → ℕ → List ℕ → Styling
style_below page i [] = root_style page i
style_below page i (p ∷ above) = child_style page (style_below page p above) (root_font_size page page.root) i

-- what computing it logs, from the root down
abbrev pub log_below : ℕ → List ℕ → Log
log_below i [] = (Match, i) ∷ (styling, i) ∷ []
log_below i (p ∷ above) = log_below p above ++ (Match, i) ∷ (styling, i) ∷ []
