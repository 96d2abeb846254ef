use Rattle.std.proofs.Common.{◌∙◌, sym}
use Rattle.request_model.specs.Requests.{broken, nothing, request}
use Rattle.relayout_requests.specs.Views.{request_view}
use Rattle.relayout_cli.proofs.ResponseLemmas.{OnErr-none, OnOk-carried, OnOk-not_built, OnOk-broken, carries-none, response-silent}
use Rattle.relayout_cli.proofs.respond.respond.Goals as goal

pub returns-then-not-is_built-clause-response : goal.returns-then-not-is_built-clause-response
returns-then-not-is_built-clause-response g c =
    rw c.in-Request.is (OnOk-carried c.push_error-then-not-is_built.result (request (request_view c.in-Request.request)) _ c.args.state.now c.args.state.now c.args.steps.now
    (OnOk-not_built c.push_error-then-not-is_built.result c.args.state.now (request_view c.in-Request.request) _ _
    c.push_error-then-not-is_built.ensures.line c.requires.empty (sym c.is_built.ensures ∙ c.if-not-is_built.true)))

pub returns-then-not-is_built-clause-begun : goal.returns-then-not-is_built-clause-begun
returns-then-not-is_built-clause-begun g c = OnErr-none c.push_error-then-not-is_built.result _ c.args.steps.now

pub returns-in-Nothing-clause-response : goal.returns-in-Nothing-clause-response
returns-in-Nothing-clause-response g c =
    rw c.in-Nothing.is (carries-none nothing _ c.args.state.now c.args.state.now c.args.steps.now (response-silent c.args.state.now _ c.requires.empty))

pub returns-in-Broken-clause-response : goal.returns-in-Broken-clause-response
returns-in-Broken-clause-response g c =
    rw c.in-Broken.is (OnOk-carried c.push_error.result (broken c.in-Broken.cause) _ c.args.state.now c.args.state.now c.args.steps.now
    (OnOk-broken c.push_error.result c.args.state.now c.in-Broken.cause _ _ c.push_error.ensures.line c.requires.empty))

pub returns-in-Broken-clause-begun : goal.returns-in-Broken-clause-begun
returns-in-Broken-clause-begun g c = OnErr-none c.push_error.result _ c.args.steps.now

pub returns-else-not-is_built-clause-response : goal.returns-else-not-is_built-clause-response
returns-else-not-is_built-clause-response g c = rw c.in-Request.is c.respond_built.ensures.response

pub returns-else-not-is_built-clause-begun : goal.returns-else-not-is_built-clause-begun
returns-else-not-is_built-clause-begun g c = rw c.in-Request.is c.respond_built.ensures.begun
