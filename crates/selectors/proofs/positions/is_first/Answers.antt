use Rattle.std.proofs.Common.{◌∙◌, sym}
use Rattle.selectors.proofs.PositionOf.{first-from, none-of}
use Rattle.selectors.proofs.positions.is_first.Goals as goal

pub returns : goal.returns
returns c =
    none-of c.nearest.result c.is_none.result (sym c.is_none.ensures)
    ∙ first-from c.args.nth c.args.id c.args.doc.now.document.root c.side_of.result c.alike_of.result c.nearest.result
    c.requires.document.ids.0 c.requires.element c.side_of.ensures c.alike_of.ensures c.nearest.ensures
