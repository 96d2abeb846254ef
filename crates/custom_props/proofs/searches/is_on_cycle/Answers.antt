use Rattle.std.proofs.Common.{◌≡◌, ◌↔◌, IsTrue, rules, sym, subst, List, [], ◌∷◌, ◌++◌, ℕ, Bool, ◌<◌}
use Rattle.custom_props.specs.inner.Graphs.{IsIn, Leads, Marks, Searches}
use Rattle.custom_props.proofs.Marking.{searches_end, searches_step}
use Rattle.custom_props.proofs.searches.is_on_cycle.Goals as goal

pub mark_all-requires : goal.mark_all-requires
mark_all-requires c = λ y i.
    subst (λ (n : ℕ). y < n) (sym c.loop-place.invariant.same_length)
    (c.requires.within c.in-Some.place y (subst (λ (ps : List ℕ). IsIn y ps) c.successors.ensures i))

pub loop-place-preserved : goal.loop-place-preserved
loop-place-preserved c =
    let split : c.loop-place.pending ≡ c.pop.new.self ++ c.in-Some.place ∷ [] = search rules in
    searches_step c.args.graph.now c.args.start c.in-Some.place c.loop-place.marks c.mark_all.new.marks c.loop-place.pending
    c.pop.new.self c.mark_all.new.pending split c.loop-place.invariant
    (subst (λ (ps : List ℕ). Marks ps c.loop-place.marks c.pop.new.self c.mark_all.new.marks c.mark_all.new.pending)
    c.successors.ensures c.in_ok-mark_all.ensures)

pub returns : goal.returns
returns c =
    let none : c.loop-place.pending ≡ [] = search rules in
    subst (λ (b : Bool). IsTrue b ↔ Leads c.args.graph.now c.args.start c.args.start) (sym c.is_marked.ensures)
    (searches_end c.args.graph.now c.args.start c.loop-place.marks
    (subst (λ (ps : List ℕ). Searches c.args.graph.now c.args.start c.loop-place.marks ps) none c.loop-place.invariant))
