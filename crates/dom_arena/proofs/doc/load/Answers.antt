use Rattle.std.proofs.Common.{◌≡◌, ap, arith}
use Rattle.page_model.specs.Trees as model
use Rattle.page_model.specs.Trees.{text_size}
use Rattle.page_model.specs.Document.{with_ids, without_ids}
use Rattle.page_laws.proofs.WithIds.{height-with_ids, node_count-with_ids, without-with_ids}
use Rattle.dom_arena.specs.Shape.{shape}
use Rattle.dom_arena.specs.Stores.{Kept}
use Rattle.dom_arena.specs.Views.{kept}
use Rattle.dom_arena.proofs.Loads.{loaded}
use Rattle.dom_arena.proofs.doc.load.Goals as goal

pub build-requires-clause-nodes : goal.build-requires-clause-nodes
build-requires-clause-nodes c =
    let t : model.Tree = shape c.args.tree.now in
    let none : c.new-store.result.live ≡ 0 = ap (λ (k : Kept). k.live) c.new-store.ensures in
    omega (arith, none, node_count-with_ids 0 t, c.requires.limits.few)

pub build-requires-clause-code_points : goal.build-requires-clause-code_points
build-requires-clause-code_points c =
    let t : model.Tree = shape c.args.tree.now in
    let none : c.new-store.result.code_points ≡ 0 = ap (λ (k : Kept). k.code_points) c.new-store.ensures in
    let same : text_size (without_ids (with_ids 0 t)) ≡ text_size t = ap text_size (without-with_ids 0 t) in
    omega (arith, none, same, c.requires.limits.code_points)

pub build-requires-clause-low : goal.build-requires-clause-low
build-requires-clause-low c =
    let t : model.Tree = shape c.args.tree.now in
    omega (arith, height-with_ids 0 t, c.requires.limits.low)

pub invariant_of-result : goal.invariant_of-result
invariant_of-result c =
    (loaded (kept c.new-store.result) (kept c.build.new.store) (shape c.args.tree.now) c.in_ok-root.root c.new-store.ensures c.in_ok-root.ensures.built c.requires.element c.requires.limits).1

pub returns : goal.returns
returns c =
    (loaded (kept c.new-store.result) (kept c.build.new.store) (shape c.args.tree.now) c.in_ok-root.root c.new-store.ensures c.in_ok-root.ensures.built c.requires.element c.requires.limits).0
