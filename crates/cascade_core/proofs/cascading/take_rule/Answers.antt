use Rattle.std.proofs.Common.{◌≡◌, OnOk, List, get_or, subst, sym}
use Rattle.cascade_model.specs.Applied as model
use Rattle.cascade_core.specs.declared.rule_body.RuleBody.{RuleBody}
use Rattle.cascade_core.specs.inner.BothTables.{Takes}
use Rattle.cascade_core.proofs.Matches.{applied_yes}
use Rattle.cascade_core.proofs.cascading.take_rule.Goals as goal

pub returns-in-Yes : goal.returns-in-Yes
returns-in-Yes c =
    let body : RuleBody = c.index-as_slice-pair.result in
    let is : body ≡ get_or c.args.book.now.bodies c.args.pair.0 body =
    subst (λ (bodies : List RuleBody). body ≡ get_or bodies c.args.pair.0 body) c.as_slice.ensures
    c.index-as_slice-pair.is in
    subst (λ (added : List model.Applied). OnOk c.take_body.result (Takes c.args.tables.now c.take_body.new.tables added))
    (sym (applied_yes c.args.book.now.bodies c.args.pair.0 c.args.pair.1 c.args.answer body c.in-Yes.is c.requires is))
    c.take_body.ensures
