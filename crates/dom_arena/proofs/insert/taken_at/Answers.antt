use Rattle.std.proofs.Common.{Some, arith, length, rules, ◌∙◌, ◌≡◌}
use Rattle.page_model.specs.Edits.{level}
use Rattle.dom_arena.specs.Reading.{tree_in}
use Rattle.dom_arena.specs.Stores.{Kept}
use Rattle.dom_arena.specs.Views.{kept}
use Rattle.dom_arena.proofs.Inserts.{taken-there}
use Rattle.dom_arena.proofs.insert.taken_at.Goals as goal

pub overflow_cast-result : goal.overflow_cast-result
overflow_cast-result c = omega (arith, c.requires.1.limits.given, c.len.ensures)

pub returns : goal.returns
returns c = λ root id d e.
    let k : Kept = kept c.args.store.now in
    let at = d.tree.store.found id c.args.at e in
    let deep : level c.args.at (tree_in k.slots root) ≡ Some c.level.result = c.level.ensures root d at.0 in
    let ids : c.len.result ≡ length k.table = search rules in
    (λ j. record { level = c.level.result; nodes = k.live; ids = ids j; code_points = k.code_points }) ∙ taken-there k root id c.args.at c.level.result d e deep
