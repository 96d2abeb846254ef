use Rattle.std.proofs.Common.{rules, ◌≡◌, ◌∙◌, ◌+◌, ◌<◌, ap, sym, subst, length, drop, get_or, [], arith, ℕ}
use Rattle.std.specs.Prelude.{is_some}
use Rattle.std.proofs.lemmas.Bool.{false≢true}
use Rattle.std.proofs.lemmas.List.{drop_all, get_or_default}
use Rattle.conditions_model.specs.declared.tri.Tri.TheVariants.{Yes}
use Rattle.std.proofs.lemmas.Option.{get_or_from_slice_get, slice_get-get_or}
use Rattle.selectors_model.specs.declared.spec.Spec.{Spec}
use Rattle.selectors_model.specs.Specificity.{spec}
use Rattle.cascade_core.specs.declared.winners.BothTables.{BothTables}
use Rattle.cascade_core.specs.inner.BothTables.{Reaches}
use Rattle.cascade_core.specs.inner.Matches.{applied_at, applied_at_all}
use Rattle.cascade_core.proofs.AreWinners.{reaches-further, reaches-end}
use Rattle.cascade_core.proofs.Matches.{applied-from, nothing-applied, view-length}
use Rattle.cascade_core.proofs.cascading.take_matched.Goals as goal
use Rattle.cascade_core.proofs.cascading.take_matched.Goals.{in-Some+in_ok-take_rule-in-Some, in-None}

pub take_rule-requires : goal.take_rule-requires
take_rule-requires g c =
    let within : c.loop-i.i < length c.args.matched.now.pairs = omega (arith, c.loop-i-test.true, c.requires.answered) in
    let is : get_or c.args.matched.now.pairs c.loop-i.i c.in-Some.pair ≡ c.in-Some.pair =
    get_or_from_slice_get c.args.matched.now.pairs c.loop-i.i c.in-Some.pair c.in-Some.pair (sym c.get.ensures ∙ c.in-Some.is) in
    let count = view-length c.args.book.now.rules c.args.book.now.bodies c.args.book.now.paired in
    subst (λ (q : ℕ × Spec). q.0 < length c.args.book.now.bodies) is
    (subst (λ n. (get_or c.args.matched.now.pairs c.loop-i.i c.in-Some.pair).0 < n) count
    (c.requires.numbers c.loop-i.i c.in-Some.pair within))

pub loop-i-preserved : goal.loop-i-preserved
loop-i-preserved g c = elim c.match-get.branch [
  | in-Some+in_ok-take_rule-in-Some w ↦
      let within : c.loop-i.i < length c.args.matched.now.pairs = omega (arith, c.loop-i-test.true, c.requires.answered) in
      let is : c.match-get.tables ≡ w.take_rule.new.tables = search rules in
      let pair-is : get_or c.args.matched.now.pairs c.loop-i.i w.in-Some.pair ≡ w.in-Some.pair =
      get_or_from_slice_get c.args.matched.now.pairs c.loop-i.i w.in-Some.pair w.in-Some.pair (sym c.get.ensures ∙ w.in-Some.is) in
      let further = reaches-further c.args.tables.now c.loop-i.tables w.take_rule.new.tables
      (applied_at_all c.args.book.now.bodies c.args.matched.now.pairs c.args.answers.now)
      (applied_at_all c.args.book.now.bodies (drop c.loop-i.i c.args.matched.now.pairs) (drop c.loop-i.i c.args.answers.now))
      (applied_at_all c.args.book.now.bodies (drop (c.loop-i.i + 1) c.args.matched.now.pairs) (drop (c.loop-i.i + 1) c.args.answers.now))
      (applied_at c.args.book.now.bodies w.in-Some.pair.0 w.in-Some.pair.1 (get_or c.args.answers.now c.loop-i.i Yes))
      c.loop-i.invariant w.in_ok-take_rule-in-Some.ensures
      (applied-from c.args.book.now.bodies c.args.matched.now.pairs c.args.answers.now c.loop-i.i w.in-Some.pair
      (get_or c.args.answers.now c.loop-i.i Yes) within (sym pair-is) c.loop-i-test.true
      (get_or_default c.args.answers.now c.loop-i.i Yes (get_or c.args.answers.now c.loop-i.i Yes) c.loop-i-test.true)) in
      subst (λ (t : BothTables). Reaches c.args.tables.now t
      (applied_at_all c.args.book.now.bodies c.args.matched.now.pairs c.args.answers.now)
      (applied_at_all c.args.book.now.bodies (drop (c.loop-i.i + 1) c.args.matched.now.pairs) (drop (c.loop-i.i + 1) c.args.answers.now)))
      (sym is) further
  | in-None w ↦
      let within : c.loop-i.i < length c.args.matched.now.pairs = omega (arith, c.loop-i-test.true, c.requires.answered) in
      absurd (false≢true (ap is_some (sym (sym c.get.ensures ∙ w.in-None.is)
      ∙ slice_get-get_or c.args.matched.now.pairs c.loop-i.i (0, spec 0 0 0) within)))
]

pub returns : goal.returns
returns g c =
    let no-answers : drop c.loop-i.i c.args.answers.now ≡ [] = drop_all c.loop-i.i c.args.answers.now c.loop-i-test.false in
    let none : applied_at_all c.args.book.now.bodies (drop c.loop-i.i c.args.matched.now.pairs) (drop c.loop-i.i c.args.answers.now) ≡ [] =
    ap (applied_at_all c.args.book.now.bodies (drop c.loop-i.i c.args.matched.now.pairs)) no-answers
    ∙ nothing-applied c.args.book.now.bodies (drop c.loop-i.i c.args.matched.now.pairs) in
    reaches-end c.args.tables.now c.loop-i.tables
    (applied_at_all c.args.book.now.bodies c.args.matched.now.pairs c.args.answers.now)
    (subst (Reaches c.args.tables.now c.loop-i.tables
    (applied_at_all c.args.book.now.bodies c.args.matched.now.pairs c.args.answers.now)) none c.loop-i.invariant)
