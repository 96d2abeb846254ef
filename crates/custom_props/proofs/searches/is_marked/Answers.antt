use Rattle.std.proofs.Common.{◌∙◌, ap, sym}
use Rattle.std.specs.Option.{option_copied}
use Rattle.custom_props.proofs.Marking.{unmarked_past}
use Rattle.custom_props.proofs.searches.is_marked.Goals as goal

pub returns-in-None : goal.returns-in-None
returns-in-None c =
    unmarked_past c.args.marks.now c.args.place (ap option_copied (sym c.in-None.is) ∙ c.get.ensures.value)
