use Rattle.std.proofs.Common.{refl}
use Rattle.selectors_model.specs.Selectors as model
use Rattle.selectors.specs.declared.selector.Simple.TheFolds.{fold-roll-SelectorList}
use Rattle.selectors.specs.Views.{SeenLink, simple_step, link_step, selector_step, list_step}
use Rattle.selectors.proofs.ListDrafts.{finished}
use Rattle.selectors.proofs.reading.lists.ListDraft.finish.Goals as goal

pub returns : goal.returns
returns c =
    finished c.args.self c.end_member.new.self _ c.in_ok-end_member.ensures
    (fold-roll-SelectorList model.Simple SeenLink model.Selector model.SelectorList simple_step link_step selector_step list_step
    (record { members = c.end_member.new.self.members })) refl
