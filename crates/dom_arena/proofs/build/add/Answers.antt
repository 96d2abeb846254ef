use Rattle.std.proofs.Common.{rules, ◌≡◌, sym, subst}
use Rattle.dom_arena.specs.Slots.{tree_of_content, target}
use Rattle.dom_arena.specs.Stores.{Kept, kept_with, spot}
use Rattle.dom_arena.specs.Built.{Built}
use Rattle.dom_arena.specs.Views.{kept}
use Rattle.dom_arena.proofs.Kept.{free-within}
use Rattle.dom_arena.proofs.Builds.{built-leaf, restored-same}
use Rattle.dom_arena.proofs.build.add.Goals as goal

pub fresh-requires-clause-inside : goal.fresh-requires-clause-inside
fresh-requires-clause-inside c = λ x e. free-within (kept c.args.store.now) x c.requires.store e

pub returns-in-Ok-clause-built : goal.returns-in-Ok-clause-built
returns-in-Ok-clause-built c =
    let k : Kept = kept c.args.store.now in
    let at : c.in-Ok.at ≡ spot k.slots (target k.free) = search rules in
    let done : kept c.fresh.new.self ≡ kept_with k c.args.content c.args.size = search rules in
    subst (λ (n : Kept). Built k n (tree_of_content c.args.content) c.in-Ok.at) (sym done)
    (subst (λ (x : _). Built k (kept_with k c.args.content c.args.size) (tree_of_content c.args.content) x) (sym at)
    (built-leaf k c.args.content c.args.size c.requires.store c.requires.node c.requires.size c.requires.nodes))

pub returns-in-Err-clause-restored : goal.returns-in-Err-clause-restored
returns-in-Err-clause-restored c =
    let done : kept c.fresh.new.self ≡ kept c.args.store.now = search rules in
    restored-same (kept c.args.store.now) (kept c.fresh.new.self) c.requires.store done
