use Rattle.std.proofs.Common.{refl, [], ◌∷◌}
use Rattle.stream_model.specs.declared.kind.Kind.TheVariants.{Match}
use Rattle.relayout_cli.proofs.examples.examples_of_logs.Goals as goal

pub returns-clause-marked : goal.returns-clause-marked
returns-clause-marked c = (((Match, 1) ∷ []) ∷ [], (((λ a. a), tt), tt), refl)
