use Rattle.std.proofs.Common.{refl, codes}
use Rattle.std.proofs.Math.Utf8.{encode}
use Rattle.page_model.specs.Document.{name_at}
use Rattle.relayout_cli.proofs.IsStyled.{name-is}
use Rattle.relayout_cli.proofs.styled.is_div.Goals as goal

pub returns-in-Some : goal.returns-in-Some
unfolding encode
returns-in-Some c = name-is (name_at c.args.id c.args.doc.now.document.root) c.in-Some.tag.now (codes "div") (codes "div") c.eq.result c.eq.ensures refl c.in-Some.ensures
