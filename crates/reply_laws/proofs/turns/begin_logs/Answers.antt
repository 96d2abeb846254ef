use Rattle.std.proofs.Common.{refl}
use Rattle.reply_laws.proofs.IsAnswered.{length-turn, turn-no-logs}
use Rattle.reply_laws.proofs.turns.begin_logs.Goals as goal
use Rattle.request_model.specs.Requests.{broken, edit, nothing, query, request}
use Rattle.request_model.specs.declared.query.Query.TheVariants.{Dump, Match, Rules, Style}

pub returns : goal.returns
returns c = record {
  each = length-turn;
  edits = λ setting from to e own reply h. length-turn setting from to (request (edit e)) own reply h;
  dumps = λ setting from to own reply h. length-turn setting from to (request (query Dump)) own reply h;
  styles = λ setting from to i own reply h. length-turn setting from to (request (query (Style i))) own reply h;
  rules = λ setting from to own reply h. turn-no-logs setting from to (request (query Rules)) own reply refl h;
  matches = λ setting from to selector own reply h. turn-no-logs setting from to (request (query (Match selector))) own reply refl h;
  broken_lines = λ setting from to cause own reply h. turn-no-logs setting from to (broken cause) own reply refl h;
  blank_lines = λ setting from to own reply h. turn-no-logs setting from to nothing own reply refl h;
}
