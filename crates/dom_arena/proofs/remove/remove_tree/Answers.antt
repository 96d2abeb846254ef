use Rattle.std.proofs.Common.{◌≡◌, List, ap, rules, subst, sym, ◌∙◌}
use Rattle.std.specs.Vec.{with_items}
use Rattle.std.proofs.lemmas.List.{with_items_is}
use Rattle.page_model.specs.Trees.{text_size}
use Rattle.page_model.specs.Document.{ids, without_ids}
use Rattle.page_model.specs.declared.limits.TheConstants.{MAX_DEPTH}
use Rattle.dom_arena.specs.Built.{IsBranch, Released}
use Rattle.dom_arena.specs.Stores.{Kept}
use Rattle.dom_arena.specs.Taking.{taken_out}
use Rattle.dom_arena.specs.Views.{kept}
use Rattle.dom_arena.specs.declared.slot.Slot.{Slot}
use Rattle.dom_arena.proofs.Removed.{doc-removed}
use Rattle.dom_arena.proofs.remove.remove_tree.Goals as goal

pub returns : goal.returns
returns c = λ root d live other.
    let k : Kept = kept c.args.store.now in
    let cut : c.take_out.new.slots ≡ taken_out c.args.at k.slots = c.take_out.ensures ∙ ap (taken_out c.args.at) c.as_mut_slice.ensures.value in
    let written : (with_items c.args.store.now.slots c.take_out.new.slots).items ≡ taken_out c.args.at k.slots = with_items_is c.args.store.now.slots c.take_out.new.slots (search rules) ∙ cut in
    doc-removed k (kept c.release_tree.new.store) root c.args.at d live other (λ m b.
    subst (λ (slots : List Slot). Released (record k { slots = slots }) (kept c.release_tree.new.store) (ids m) (text_size (without_ids m))) written
    (c.release_tree.ensures m (subst (λ (slots : List Slot). IsBranch (record k { slots = slots }) c.args.at MAX_DEPTH m) (sym written) b)))
