use Rattle.std.proofs.Common.{inl, refl}
use Rattle.std.proofs.lemmas.Bool.{false≢true}
use Rattle.stream_model.specs.declared.kind.Kind.TheVariants.{Match, Measure, Size, Place}
use Rattle.reply_model.proofs.style_examples.examples_of_style_logs.Goals as goal

pub returns-clause-a_text : goal.returns-clause-a_text
returns-clause-a_text c = λ viewport log. false≢true (log.1 (Match, 2) (inl refl)).1

pub returns-clause-measured : goal.returns-clause-measured
returns-clause-measured c = λ page log. false≢true (log.1 (Measure, 0) (inl refl)).0

pub returns-clause-sized : goal.returns-clause-sized
returns-clause-sized c = λ page log. false≢true (log.1 (Size, 0) (inl refl)).0

pub returns-clause-placed : goal.returns-clause-placed
returns-clause-placed c = λ page log. false≢true (log.1 (Place, 0) (inl refl)).0

pub returns-clause-nothing_loaded : goal.returns-clause-nothing_loaded
returns-clause-nothing_loaded c = λ log. false≢true (log.1 (Match, 0) (inl refl)).1
