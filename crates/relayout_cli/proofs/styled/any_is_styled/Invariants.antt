use Rattle.std.proofs.Common.{◌≡◌, drop}
use Rattle.std.specs.List.{list_any}
use Rattle.request_model.specs.States.{is_styled}
use Rattle.relayout_cli.proofs.styled.any_is_styled.Given as goal

-- so far none was
abbrev pub invariant-loop-id : goal.invariant-loop-id
invariant-loop-id l = list_any (is_styled l.doc.document.root) (drop l.id-index l.ids) ≡ list_any (is_styled l.doc.document.root) l.ids
