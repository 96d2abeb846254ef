use Rattle.std.proofs.Common.{◌∙◌, ap, sym, ◌++◌, flat_map, string_bytes, map-id}
use Rattle.std.proofs.lemmas.Iterator.{YieldsList-from_chars}
use Rattle.std.proofs.lemmas.Iterator.Consumers.{YieldsList-end}
use Rattle.std.proofs.lemmas.List.{flat_map_more}
use Rattle.reply_model.specs.Spelling.{in_quotes}
use Rattle.reply_texts.proofs.quotes.push_in_quotes.Goals as goal

pub loop-c-preserved : goal.loop-c-preserved
loop-c-preserved c =
    c.in_ok-push_char_in_quotes.ensures ∙ (ap (λ l. l ++ in_quotes c.in-Some.c) c.loop-c.invariant ∙ flat_map_more in_quotes _ c.loop-c.yielded c.in-Some.c)

pub returns : goal.returns
returns c =
    let end = YieldsList-end (YieldsList-from_chars c.args.text.now c.utf8.text cc) c.loop-c.yielded _ c.loop-c.yielded_by _ _ c.in-None.is c.next.ensures.steps in
    c.loop-c.invariant ∙ ap (λ cs. string_bytes c.args.reply.now ++ flat_map in_quotes cs) (sym (map-id c.loop-c.yielded) ∙ end.0)
