-- A child more is one more in front of what is left, and at the end nothing is left.
use Rattle.std.proofs.Common.{rules, ◌≡◌, ◌∷◌, [], ◌++◌, sym, ◌∙◌}
use Rattle.std.proofs.lemmas.List.{drop_all}
use Rattle.jsonml_reader.proofs.TreesOfItems.{trees_then-step, trees_then-end}
use Rattle.jsonml_reader.proofs.trees.+reading.Goals as goal

pub children_from-loop-i-preserved : goal.children_from-loop-i-preserved
children_from-loop-i-preserved t c =
    let step = trees_then-step c.loop-i.trees c.in_ok-tree_from.field-0 c.args.items.now c.loop-i.i c.index-items-i.result c.loop-i-test.true c.index-items-i.is c.in_ok-tree_from.ensures in
    let pushed : c.push.new.self ≡ c.loop-i.trees ++ c.in_ok-tree_from.field-0 ∷ [] = search rules in
    rw pushed (sym step ∙ c.loop-i.invariant)

pub children_from-returns : goal.children_from-returns
children_from-returns t c =
    sym c.loop-i.invariant ∙ trees_then-end c.loop-i.trees _ (drop_all c.loop-i.i c.args.items.now c.loop-i-test.false)
