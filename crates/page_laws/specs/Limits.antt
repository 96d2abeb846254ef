-- The limits that a document breaks.
use Rattle.std.specs.Prelude.{length, ℕ, [], false, nat_lt, ◌++◌, ◌||◌, ◌∷◌, ◌≡◌, ◌≤◌}
use Rattle.page_model.specs.Document.{element, text, Document, Node, height, node_count, without_ids}
use Rattle.page_model.specs.Refusals.{Causes}
use Rattle.page_model.specs.Trees.{value_size, has_bad_name, has_long_text, has_many_attributes, text_size}
use Rattle.page_model.specs.declared.limits.TheConstants.{MAX_DEPTH, MAX_IDS, MAX_NODES, MAX_TEXTS}
use Rattle.page_model.specs.declared.cause.Cause.TheVariants.{BadName, AttrLimit, TextLimit, DepthLimit, NodeLimit, IdLimit}

-- a name is not in the grammar of names, an element has too many attributes, or a text is or all of them are too long
abbrev pub broken_grammar : Document → Causes
broken_grammar d =
    (has_bad_name (without_ids d.root), BadName)
    ∷ (has_many_attributes (without_ids d.root), AttrLimit)
    ∷ (has_long_text (without_ids d.root) || nat_lt MAX_TEXTS (text_size (without_ids d.root)), TextLimit)
    ∷ []

-- a node stands too deep, there are too many nodes, or too many ids were given
abbrev pub broken_sizes : Document → Causes
broken_sizes d =
    (nat_lt MAX_DEPTH (height d.root), DepthLimit)
    ∷ (nat_lt MAX_NODES (node_count d.root), NodeLimit)
    ∷ (nat_lt MAX_IDS d.next_id, IdLimit)
    ∷ []

-- the limits that a document breaks, in the order in which they are asked
abbrev pub broken_limits : Document → Causes
broken_limits d = broken_grammar d ++ broken_sizes d

-- each name is in the grammar of names, no element has too many attributes, and no text is too long
pub record KeepsGrammar (root : Node) : Type 0 where
  pub names : has_bad_name (without_ids root) ≡ false
  pub attributes : has_many_attributes (without_ids root) ≡ false
  pub texts : has_long_text (without_ids root) ≡ false

-- a document breaks no limit
pub record KeepsLimits (d : Document) : Type 0 where
  pub grammar : KeepsGrammar d.root
  pub code_points : text_size (without_ids d.root) ≤ MAX_TEXTS
  pub low : height d.root ≤ MAX_DEPTH
  pub few : node_count d.root ≤ MAX_NODES
  pub given : d.next_id ≤ MAX_IDS

-- how many code points a node has by itself
abbrev pub own_text_size : Node → ℕ
own_text_size (element id name attributes children) = value_size attributes
own_text_size (text id cs) = length cs
