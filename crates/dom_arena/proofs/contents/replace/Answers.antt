use Rattle.std.proofs.Common.{rules, ◌≡◌, ◌+◌, ◌-◌, ◌∙◌, ℕ, Option, Some, slice_get, ap, sym}
use Rattle.std.specs.Vec.{with_items}
use Rattle.std.proofs.lemmas.List.{with_items_is}
use Rattle.dom_arena.specs.Contents.{kept_after, with_content}
use Rattle.dom_arena.specs.Slots.{table_at}
use Rattle.dom_arena.specs.Stores.{Kept, size_in}
use Rattle.dom_arena.specs.Views.{kept}
use Rattle.dom_arena.specs.Writes.{changed}
use Rattle.dom_arena.proofs.contents.replace.Goals as goal

pub returns : goal.returns
returns c =
    let k : Kept = kept c.args.store.now in
    let x : ℕ = c.in-Some.at in
    let at : table_at k.table c.args.id ≡ Some x = search rules in
    let rest : c.saturating_sub.result ≡ k.code_points - size_in (slice_get k.slots x) = search rules in
    let put : c.put.new.slots ≡ changed x (with_content (λ _. c.args.content) c.args.size) k.slots = search rules in
    let written : (with_items c.args.store.now.slots c.put.new.slots).items ≡ c.put.new.slots = with_items_is c.args.store.now.slots c.put.new.slots (search rules) in
    (λ j. record k { slots = (written ∙ put) j; code_points = rest j + c.args.size }) ∙ ap (λ (o : Option ℕ). kept_after k o (λ _. c.args.content) c.args.size) (sym at)
