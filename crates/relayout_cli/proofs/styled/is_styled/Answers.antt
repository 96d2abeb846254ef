use Rattle.std.proofs.Common.{Bor, List, ℕ}
use Rattle.std.specs.Str.{chars}
use Rattle.relayout_cli.proofs.IsStyled.{styled-by-attribute}
use Rattle.relayout_cli.proofs.styled.is_styled.Goals as goal

pub returns-else-not-is_div : goal.returns-else-not-is_div
unfolding chars
returns-else-not-is_div c =
    styled-by-attribute (λ (s : Bor (List ℕ)). s.now) c.args.doc.now.document.root c.args.id c.attr.result c.is_div.result c.is_some.result c.is_div.ensures c.if-not-is_div.false c.attr.ensures c.is_some.ensures
