use Rattle.std.proofs.Common.{◌≡◌, drop, map, false, true}
use Rattle.page_model.specs.Trees.{have_node, trees_of}
use Rattle.dom_arena.specs.Shape.{shape}
use Rattle.relayout_cli.proofs.plain.+texts.Given as goal

-- so far none had a text
abbrev pub invariant-have_text-loop-kid : goal.invariant-have_text-loop-kid
invariant-have_text-loop-kid l =
    have_node (λ _ _. false) (λ _. true) (trees_of (map shape (drop l.kid-index l.kids)))
    ≡ have_node (λ _ _. false) (λ _. true) (trees_of (map shape l.kids))
