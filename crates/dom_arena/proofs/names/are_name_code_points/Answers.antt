use Rattle.std.proofs.Common.{◌∙◌, ap, map-id, sym}
use Rattle.std.specs.List.{list_all}
use Rattle.std.proofs.lemmas.Iterator.{YieldsList-from_chars}
use Rattle.std.proofs.lemmas.Iterator.Consumers.{YieldsList-end}
use Rattle.page_model.specs.Names.{is_name_code_point}
use Rattle.dom_arena.proofs.names.are_name_code_points.Goals as goal

pub returns : goal.returns
returns c =
    let end = YieldsList-end (YieldsList-from_chars c.args.name.now c.utf8.name cc) c.loop-c.yielded _ c.loop-c.yielded_by _ _ c.in-None.is c.next.ensures.steps in
    c.loop-c.invariant ∙ ap (list_all is_name_code_point) (sym (map-id c.loop-c.yielded) ∙ end.0)
