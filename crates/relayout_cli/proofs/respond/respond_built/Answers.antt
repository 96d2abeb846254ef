use Rattle.request_model.specs.Requests.{edit, request}
use Rattle.relayout_requests.specs.Views.{edit_view}
use Rattle.relayout_cli.proofs.ResponseLemmas.{OnErr-none, OnOk-carried}
use Rattle.relayout_cli.proofs.respond.respond_built.Goals as goal

pub returns-in-Edit-clause-response : goal.returns-in-Edit-clause-response
returns-in-Edit-clause-response g c =
    rw c.in-Edit.is (OnOk-carried c.respond_edit.result (request (edit (edit_view c.in-Edit.edit))) _ c.args.state.now c.respond_edit.new.state c.args.steps.now
    c.respond_edit.ensures.response)

pub returns-in-Edit-clause-begun : goal.returns-in-Edit-clause-begun
returns-in-Edit-clause-begun g c = OnErr-none c.respond_edit.result _ c.args.steps.now

pub returns-in-Query-clause-response : goal.returns-in-Query-clause-response
returns-in-Query-clause-response g c = rw c.in-Query.is c.respond_query.ensures.response

pub returns-in-Query-clause-begun : goal.returns-in-Query-clause-begun
returns-in-Query-clause-begun g c = rw c.in-Query.is c.respond_query.ensures.begun
