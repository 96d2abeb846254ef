use Rattle.std.proofs.Common.{◌∙◌, sym}
use Rattle.request_model.specs.Requests.{edit}
use Rattle.relayout_requests.specs.Views.{edit_view}
use Rattle.relayout_cli.specs.Pages.{state_view}
use Rattle.request_model.specs.States.{edit_causes}
use Rattle.relayout_cli.proofs.ResponseLemmas.{built-root, OnOk-edit, OnOk-refused, refused-cause}
use Rattle.relayout_cli.proofs.respond.respond_edit.Goals as goal

pub apply-requires : goal.apply-requires
apply-requires c = record { root = built-root (edit_view c.args.edit) c.requires.built }

pub returns-in-Ok-clause-response : goal.returns-in-Ok-clause-response
returns-in-Ok-clause-response c =
    OnOk-edit c.push_accepted.result c.args.state.now c.apply.new.state (edit_view c.args.edit) c.brings_tree-brings_tree.result c.in-Ok.accepted _ _
    c.push_accepted.ensures.line (c.in_ok-reserve.ensures.bytes ∙ c.requires.empty) c.brings_tree-brings_tree.ensures c.in-Ok.ensures.accepted c.requires.built c.in-Ok.ensures.allowed c.in-Ok.ensures.state

pub returns-in-Some-clause-response : goal.returns-in-Some-clause-response
returns-in-Some-clause-response c =
    rw c.in-Err.ensures.kept (OnOk-refused c.push_error.result c.args.state.now (edit (edit_view c.args.edit)) c.in-Some.cause _ _
    c.push_error.ensures.line (c.in_ok-reserve.ensures.bytes ∙ c.requires.empty) c.requires.built
    (refused-cause (edit_causes (state_view c.args.state.now) (edit_view c.args.edit)) c.in-Err.refusal c.in-Some.cause c.in-Err.ensures.refused (sym c.in-Some.ensures)))
