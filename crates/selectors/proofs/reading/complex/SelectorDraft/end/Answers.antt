use Rattle.std.proofs.Common.{◌∙◌, ap, sym, None, option_map}
use Rattle.selectors.specs.Views.{compound_view}
use Rattle.selectors.proofs.SelectorDrafts.{ended-joined, begun-none}
use Rattle.selectors.proofs.reading.complex.SelectorDraft.end.Goals as goal

pub returns-in-None-clause-selector : goal.returns-in-None-clause-selector
returns-in-None-clause-selector c =
    ended-joined c.args.self.now c.replace-left.result None None c.replace-left.ensures.value
    (ap (option_map compound_view) (sym c.in-None.is) ∙ c.end.ensures.compound c.args.self.now.in_function)
    (sym (begun-none c.replace-left.result))
