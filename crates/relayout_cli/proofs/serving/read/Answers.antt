use Rattle.std.proofs.Common.{inl, inr, ◌≡◌}
use Rattle.port_core.specs.declared.reader.Line.TheVariants.{End, TooLong, Whole}
use Rattle.port_core.specs.Reader.{ahead}
use Rattle.relayout_cli.proofs.ServeLemmas.{asks-too_long, at-none, at-some, NothingLeft-too_long, counts-too_long, counts-whole, Fronts-whole}
use Rattle.relayout_cli.proofs.serving.read.Goals as goal

-- A long line is answered like any other; a reader that has come to the end gives none.
pub returns-in-TooLong-clause-comes : goal.returns-in-TooLong-clause-comes
returns-in-TooLong-clause-comes g c =
    let new = c.next.new.self in
    let ahead_old = ahead c.args.reader.now.pending (g.I.Source.seen c.args.source.now).left in
    let ahead_new = ahead new.pending (g.I.Source.seen c.next.new.source).left in
    elim c.requires.going [
      | inl fresh ↦ let lines = at-none _ _ fresh c.in-TooLong.ensures.lines in record {
        going = fresh;
        line = asks-too_long ahead_old ahead_new new.line new.stopped lines;
        goes_on = c.in-TooLong.ensures.stops;
        ended = NothingLeft-too_long ahead_old ahead_new new.line new.stopped lines;
        worked = c.in-TooLong.ensures.work;
        faults = counts-too_long c.args.reader.now.stopped _ _ c.in-TooLong.ensures.faults;
      }
      | inr ended ↦ let other : TooLong ≡ End = at-some c.args.reader.now.stopped End (λ answer. TooLong ≡ answer) ended c.in-TooLong.ensures.again in absurd (cc)
    ]

-- There was no memory for what a whole line asks for.
pub returns-in-Err-clause-comes : goal.returns-in-Err-clause-comes
returns-in-Err-clause-comes g c =
    let new = c.next.new.self in
    let ahead_old = ahead c.args.reader.now.pending (g.I.Source.seen c.args.source.now).left in
    let ahead_new = ahead new.pending (g.I.Source.seen c.next.new.source).left in
    elim c.requires.going [
      | inl fresh ↦ (
        Fronts-whole ahead_old ahead_new new.line new.stopped (at-none _ _ fresh c.in-Whole.ensures.lines),
        counts-whole c.args.reader.now.stopped _ _ c.in-Whole.ensures.faults,
      )
      | inr ended ↦ let other : Whole ≡ End = at-some c.args.reader.now.stopped End (λ answer. Whole ≡ answer) ended c.in-Whole.ensures.again in absurd (cc)
    ]
