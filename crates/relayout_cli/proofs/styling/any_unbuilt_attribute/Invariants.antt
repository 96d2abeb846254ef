use Rattle.std.proofs.Common.{◌≡◌, drop}
use Rattle.std.specs.List.{list_any}
use Rattle.request_model.specs.UnbuiltStyles.{has_unbuilt_attribute}
use Rattle.relayout_cli.proofs.styling.any_unbuilt_attribute.Given as goal

-- so far none was
abbrev pub invariant-loop-id : goal.invariant-loop-id
invariant-loop-id l =
    list_any (has_unbuilt_attribute l.doc.document.root) (drop l.id-index l.ids) ≡ list_any (has_unbuilt_attribute l.doc.document.root) l.ids
