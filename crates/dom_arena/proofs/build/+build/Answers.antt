use Rattle.std.proofs.Common.{rules, ◌≡◌, ◌≤◌, ◌+◌, ◌++◌, ◌∷◌, [], List, ℕ, suc, length, take, drop, map, slice_get, ap, sym, subst, ◌∙◌, arith}
use Rattle.std.specs.Vec.{with_items}
use Rattle.std.proofs.lemmas.List.{with_items_is}
use Rattle.page_model.specs.Trees as model
use Rattle.page_model.specs.Trees.{elem, trees_of, size, text_size, depth}
use Rattle.page_model.specs.declared.limits.TheConstants.{MAX_NODES, MAX_IDS, MAX_TEXTS, MAX_DEPTH}
use Rattle.dom_arena.specs.declared.tree.Tree.{Tree}
use Rattle.dom_arena.specs.declared.slot.Slot.{Slot}
use Rattle.dom_arena.specs.Slots.{last_link}
use Rattle.dom_arena.specs.Stores.{Kept, no_link}
use Rattle.dom_arena.specs.Writes.{attached}
use Rattle.dom_arena.specs.Built.{Built}
use Rattle.dom_arena.specs.Shape.{shape}
use Rattle.dom_arena.specs.Views.{kept}
use Rattle.dom_arena.proofs.Shapes.{shapes-cut, shapes-next}
use Rattle.dom_arena.proofs.Builds.{child-fits, built-child, restored-released, depths-behind, sizes-append}
use Rattle.dom_arena.proofs.build.+build.Goals as goal

pub build_element-build-requires : goal.build_element-build-requires
build_element-build-requires t c =
    let ts : List Tree = c.args.children.now in
    let i : ℕ = c.loop-i.i in
    let child : Tree = c.index-children-i.result in
    let cut : map shape ts ≡ map shape (take i ts) ++ shape child ∷ map shape (drop (suc i) ts) = shapes-cut ts i child c.loop-i-test.true c.index-children-i.is in
    let k : Kept = kept c.args.store.now in
    let all : size (elem c.args.name.now c.args.attributes.now (trees_of (map shape ts))) ≡ size (elem c.args.name.now c.args.attributes.now (trees_of (map shape (take i ts) ++ shape child ∷ map shape (drop (suc i) ts)))) =
    ap (λ zs. size (elem c.args.name.now c.args.attributes.now (trees_of zs))) cut in (
      omega (arith, all, sizes-append (map shape (take i ts)) (shape child) (map shape (drop (suc i) ts))),
      child-fits k (kept c.loop-i.store) c.args.name.now c.args.attributes.now (map shape (take i ts)) (shape child) (map shape (drop (suc i) ts)) c.in_ok-at.at c.loop-i.invariant
          (subst (λ (zs : List model.Tree). k.live + size (elem c.args.name.now c.args.attributes.now (trees_of zs)) ≤ MAX_NODES) cut c.requires.nodes)
          (subst (λ (zs : List model.Tree). length k.table + size (elem c.args.name.now c.args.attributes.now (trees_of zs)) ≤ MAX_IDS) cut c.requires.ids)
          (subst (λ (zs : List model.Tree). k.code_points + text_size (elem c.args.name.now c.args.attributes.now (trees_of zs)) ≤ MAX_TEXTS) cut c.requires.code_points)
          (subst (λ (zs : List model.Tree). depth (elem c.args.name.now c.args.attributes.now (trees_of zs)) ≤ MAX_DEPTH) cut c.requires.low),
    )

pub build_element-returns-in-Err-clause-restored : goal.build_element-returns-in-Err-clause-restored
build_element-returns-in-Err-clause-restored t c =
    let ts : List Tree = c.args.children.now in
    let i : ℕ = c.loop-i.i in
    let child : Tree = c.index-children-i.result in
    let cut : map shape ts ≡ map shape (take i ts) ++ shape child ∷ map shape (drop (suc i) ts) = shapes-cut ts i child c.loop-i-test.true c.index-children-i.is in
    let deep = depths-behind (map shape (take i ts)) (shape child) (map shape (drop (suc i) ts)) in
    let whole : depth (elem c.args.name.now c.args.attributes.now (trees_of (map shape (take i ts) ++ shape child ∷ map shape (drop (suc i) ts)))) ≤ MAX_DEPTH =
    subst (λ (zs : List model.Tree). depth (elem c.args.name.now c.args.attributes.now (trees_of zs)) ≤ MAX_DEPTH) cut c.requires.low in
    restored-released (kept c.args.store.now) (kept c.loop-i.store) (kept c.build.new.store) (kept c.release_tree.new.store)
    (elem c.args.name.now c.args.attributes.now (trees_of (map shape (take i ts)))) c.in_ok-at.at MAX_DEPTH c.loop-i.invariant c.in-Err.ensures.restored
    (omega (arith, deep.1, whole)) c.release_tree.ensures

pub build_element-loop-i-preserved : goal.build_element-loop-i-preserved
build_element-loop-i-preserved t c =
    let ts : List Tree = c.args.children.now in
    let i : ℕ = c.loop-i.i in
    let child : Tree = c.index-children-i.result in
    let p : ℕ = c.in_ok-at.at in
    let k : Kept = kept c.args.store.now in
    let now : Kept = kept c.build.new.store in
    let next : map shape (take (i + 1) ts) ≡ map shape (take i ts) ++ shape child ∷ [] = shapes-next ts i child c.loop-i-test.true c.index-children-i.is in
    let hung : c.attach_last.new.slots ≡ attached p c.in-Ok.child (last_link (slice_get now.slots p)) no_link now.slots =
    c.attach_last.ensures ∙ ap (λ slots. attached p c.in-Ok.child (last_link (slice_get slots p)) no_link slots) c.as_mut_slice.ensures.value in
    let written : (with_items c.build.new.store.slots c.attach_last.new.slots).items ≡ c.attach_last.new.slots = with_items_is c.build.new.store.slots c.attach_last.new.slots (search rules) in
    subst (λ (zs : List model.Tree). Built k (record now { slots = (with_items c.build.new.store.slots c.attach_last.new.slots).items }) (elem c.args.name.now c.args.attributes.now (trees_of zs)) p) (sym next)
    (subst (λ (slots : List Slot). Built k (record now { slots = slots }) (elem c.args.name.now c.args.attributes.now (trees_of (map shape (take i ts) ++ shape child ∷ []))) p) (sym (written ∙ hung))
    (built-child k (kept c.loop-i.store) now c.args.name.now c.args.attributes.now (map shape (take i ts)) (shape child) p c.in-Ok.child c.loop-i.invariant c.in-Ok.ensures.built))
