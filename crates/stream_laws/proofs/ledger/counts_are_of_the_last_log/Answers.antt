use Rattle.stream_laws.proofs.CountsLemmas.{count_since_mark-after, count_since_mark-pairs}
use Rattle.stream_laws.proofs.ledger.counts_are_of_the_last_log.Goals as goal

pub returns-clause-after_a_mark : goal.returns-clause-after_a_mark
returns-clause-after_a_mark c = λ kind es log. count_since_mark-after kind es log

pub returns-clause-no_mark : goal.returns-clause-no_mark
returns-clause-no_mark c = λ kind log. count_since_mark-pairs kind log
