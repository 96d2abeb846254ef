use Rattle.value_model.specs.Grammar.{value_of}
use Rattle.value_laws.specs.ComputedForms.{Computes}
use Rattle.value_laws.proofs.Computed.{computes-forms, initial-computed}
use Rattle.value_laws.proofs.Found.{from-if}
use Rattle.value_laws.proofs.Values.{of-value}
use Rattle.value_laws.proofs.computing.takes_what_the_grammar_takes.Goals as goal

pub returns : goal.returns
returns c = λ p cs v b parent_font taken.
    from-if (Computes b parent_font p) (value_of p cs) v taken
    (of-value p cs (Computes b parent_font p) (λ w _. initial-computed p)
    (computes-forms p b parent_font))
