use Rattle.std.proofs.Common.{ap, arith, length, rules, subst, ◌∙◌, ◌≡◌, ◌≤◌}
use Rattle.page_model.specs.Document.{ids, node_count}
use Rattle.dom_arena.specs.Docs.{Seen, document_in}
use Rattle.dom_arena.specs.Reading.{tree_in}
use Rattle.dom_arena.specs.Slots.{id_at}
use Rattle.dom_arena.specs.Stores.{Kept}
use Rattle.dom_arena.specs.Views.{kept}
use Rattle.dom_arena.proofs.Builds.{map-length}
use Rattle.dom_arena.proofs.Renamed.{ids-renamed}
use Rattle.dom_arena.proofs.doc.Doc.slots.Goals as goal

pub returns-clause-live : goal.returns-clause-live
returns-clause-live c =
    let k : Kept = kept c.self.inside.store in
    let root = c.self.inside.root in
    let n = tree_in k.slots root in
    let nodes : node_count (document_in k root).root ≡ length (ids n) = ap length (ids-renamed (id_at k.slots) n) ∙ map-length (id_at k.slots) (ids n) in
    let few : node_count (document_in k root).root ≤ length k.slots = omega (arith, nodes, c.self.invariant.tree.live, c.self.invariant.tree.store.count) in
    let seen : node_count c.args.self.now.document.root ≤ length k.slots = subst (λ (s : Seen). node_count s.document.root ≤ length k.slots) c.self.view_is few in
    let made : c.len.result ≡ length k.slots = search rules in
    omega (arith, seen, made)
