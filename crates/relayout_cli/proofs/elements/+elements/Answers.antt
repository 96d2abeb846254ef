use Rattle.std.proofs.Common.{rules, Bor, List, ℕ}
use Rattle.relayout_cli.proofs.WalkLemmas.{AllReach-kids}
use Rattle.relayout_cli.proofs.ElementsOf.{OnOk-elements}
use Rattle.relayout_cli.proofs.elements.+elements.Goals as goal

pub push_elements-push_elements_among-requires : goal.push_elements-push_elements_among-requires
push_elements-push_elements_among-requires t c =
    (search rules, rw c.children.ensures.children (AllReach-kids c.args.levels c.args.id c.args.doc.now.document.root c.requires c.children.ensures.found))

pub push_elements-returns : goal.push_elements-returns
push_elements-returns t c =
    OnOk-elements (λ (s : Bor (List ℕ)). s.now) c.push_elements_among.result _ _ _ c.args.id c.args.doc.now.document.root _ c.is_none.result c.children.result c.push_elements_among.ensures c.children.ensures.children c.in_ok-push.ensures.ok
    c.requires.number c.children.ensures.found c.is_none.ensures c.if-is_none.false c.tag.ensures
