use Rattle.std.proofs.Common.{refl}
use Rattle.request_model.specs.Requests.{query, request}
use Rattle.request_model.specs.declared.query.Query.TheVariants.{Dump, Match, Rules}
use Rattle.page_model.specs.declared.cause.Cause.TheVariants.{NotLoaded}
use Rattle.relayout_cli.proofs.ResponseLemmas.{OnErr-none, OnErr-styled, OnOk-carried, OnOk-dumped, OnOk-matched, OnOk-rules, OnOk-refused, OnOk-styled, query-not_loaded}
use Rattle.relayout_cli.proofs.respond.respond_query.Goals as goal

pub returns-in-Dump : goal.returns-in-Dump
returns-in-Dump g c = record {
  response = rw c.in-Dump.is (OnOk-carried c.respond_dump.result (request (query Dump)) _ c.args.state.now c.args.state.now c.args.steps.now
      (OnOk-dumped c.respond_dump.result c.args.state.now c.in-Some.page _ c.in-Some.is c.respond_dump.ensures));
  begun = OnErr-none c.respond_dump.result _ c.args.steps.now;
}

pub returns-in-Rules : goal.returns-in-Rules
returns-in-Rules g c = record {
  response = rw c.in-Rules.is (OnOk-carried c.push_rules.result (request (query Rules)) _ c.args.state.now c.args.state.now c.args.steps.now
      (OnOk-rules c.push_rules.result c.args.state.now c.in-Some.page _ _ c.in-Some.is c.push_rules.ensures c.requires.empty));
  begun = OnErr-none c.push_rules.result _ c.args.steps.now;
}

pub returns-in-Match : goal.returns-in-Match
returns-in-Match g c = record {
  response = rw c.in-Match.is (OnOk-carried c.respond_match.result (request (query (Match c.in-Match.selector))) _ c.args.state.now c.args.state.now c.args.steps.now
      (OnOk-matched c.respond_match.result c.args.state.now c.in-Some.page c.in-Match.selector _ c.in-Some.is c.respond_match.ensures));
  begun = OnErr-none c.respond_match.result _ c.args.steps.now;
}

pub returns-in-Style : goal.returns-in-Style
returns-in-Style g c = record {
  response = rw c.in-Style.is (OnOk-styled c.respond_style.result c.args.state.now c.in-Some.page c.in-Style.id _ _ _ c.in-Some.is c.respond_style.ensures.answer);
  begun = rw c.in-Style.is (OnErr-styled c.respond_style.result c.in-Some.page c.in-Style.id _ _ c.respond_style.ensures.begun);
}

pub returns-in-None : goal.returns-in-None
returns-in-None g c = record {
  response = OnOk-carried c.push_error.result (request (query c.args.query)) _ c.args.state.now c.args.state.now c.args.steps.now
      (OnOk-refused c.push_error.result c.args.state.now (query c.args.query) NotLoaded _ _ c.push_error.ensures.line c.requires.empty refl (query-not_loaded c.args.state.now c.args.query c.in-None.is));
  begun = OnErr-none c.push_error.result _ c.args.steps.now;
}
