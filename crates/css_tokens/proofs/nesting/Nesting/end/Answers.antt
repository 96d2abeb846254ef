-- The open_bracket that was taken off is the one that ends.
use Rattle.std.proofs.Common.{rules}
use Rattle.css_tokens.proofs.nesting.Nesting.end.Goals as goal

pub returns-in_ok-add-in-Some : goal.returns-in_ok-add-in-Some
returns-in_ok-add-in-Some c = record { open_bracket = c.in-Some.field-0; open_brackets = search rules; contents = search rules }
