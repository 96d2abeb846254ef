use Rattle.selectors.proofs.PositionOf.{position-from}
use Rattle.selectors.proofs.positions.position.Goals as goal

pub returns : goal.returns
returns c =
    position-from c.args.nth c.args.id c.args.doc.now.document.root c.side_of.result c.alike_of.result c.count.result
    c.requires.document.ids.0 c.requires.element c.side_of.ensures c.alike_of.ensures c.count.ensures.count
