use Rattle.std.proofs.Common.{◌≡◌, ◌∙◌, ap, sym, length, Some, None, arith}
use Rattle.std.specs.List.{slice_get}
use Rattle.cascade_core.proofs.AnswersAt.{answers-all, answers-are, answers-count, answers-more, count-more, in-bodies, some-within}
use Rattle.cascade_core.proofs.answering.answers.Goals as goal

pub answer_of_rule-requires-clause-in_book : goal.answer_of_rule-requires-clause-in_book
answer_of_rule-requires-clause-in_book g c =
    let there : slice_get c.args.matched.now.pairs c.len.result ≡ Some c.in-Some.pair = sym c.get.ensures ∙ c.in-Some.is in
    in-bodies c.args.book.now.rules c.args.book.now.bodies c.args.matched.now.pairs c.len.result c.in-Some.pair
    c.args.book.now.paired c.requires.numbers there

pub loop-pair-smaller : goal.loop-pair-smaller
loop-pair-smaller g c =
    let there : slice_get c.args.matched.now.pairs c.len.result ≡ Some c.in-Some.pair = sym c.get.ensures ∙ c.in-Some.is in
    let within = some-within c.args.matched.now.pairs c.len.result c.in-Some.pair there in
    let count = count-more c.loop-pair.answers c.push.new.self c.answer_of_rule.result c.in_ok-push.ensures.ok in
    omega (arith, within, count, c.len.ensures)

pub loop-pair-preserved : goal.loop-pair-preserved
loop-pair-preserved g c =
    let there : slice_get c.args.matched.now.pairs c.len.result ≡ Some c.in-Some.pair = sym c.get.ensures ∙ c.in-Some.is in
    let within = some-within c.args.matched.now.pairs c.len.result c.in-Some.pair there in
    let count = count-more c.loop-pair.answers c.push.new.self c.answer_of_rule.result c.in_ok-push.ensures.ok in
    record {
      all =
          answers-more c.args.v c.args.book.now.bodies c.args.matched.now.pairs c.loop-pair.answers c.push.new.self
          c.in-Some.pair c.answer_of_rule.result (ap (slice_get c.args.matched.now.pairs) (sym c.len.ensures) ∙ there)
          c.answer_of_rule.ensures c.in_ok-push.ensures.ok c.loop-pair.invariant.all;
      within = omega (arith, within, count, c.len.ensures);
    }

pub returns-clause-answers : goal.returns-clause-answers
returns-clause-answers g c =
    let none : slice_get c.args.matched.now.pairs (length c.loop-pair.answers) ≡ None =
    ap (slice_get c.args.matched.now.pairs) (sym c.len.ensures) ∙ (sym c.get.ensures ∙ c.in_default.is) in
    answers-all c.args.v c.args.book.now.bodies c.args.matched.now.pairs c.loop-pair.answers none c.loop-pair.invariant.all
    ∙ answers-are c.args.v c.args.book.now.rules c.args.book.now.bodies c.args.matched.now.pairs
    c.args.book.now.paired c.requires.numbers

pub returns-clause-count : goal.returns-clause-count
returns-clause-count g c =
    let none : slice_get c.args.matched.now.pairs (length c.loop-pair.answers) ≡ None =
    ap (slice_get c.args.matched.now.pairs) (sym c.len.ensures) ∙ (sym c.get.ensures ∙ c.in_default.is) in
    ap length (answers-all c.args.v c.args.book.now.bodies c.args.matched.now.pairs c.loop-pair.answers none c.loop-pair.invariant.all)
    ∙ answers-count c.args.v c.args.book.now.bodies c.args.matched.now.pairs
