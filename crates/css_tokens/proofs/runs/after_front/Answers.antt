use Rattle.std.proofs.Common.{◌∙◌, ◌≡◌, ap, sym, ◌++◌, true}
use Rattle.std.specs.Str.{chars}
use Rattle.css_model.specs.Classes.{has_front}
use Rattle.css_tokens.proofs.Utf8Fronts.{front-joins, front-ascii, bytes-front}
use Rattle.css_tokens.proofs.runs.after_front.Goals as goal

pub split_ascii-requires-clause-within : goal.split_ascii-requires-clause-within
split_ascii-requires-clause-within c =
    let found : has_front c.args.front.now c.args.cs.now ≡ true = (ap (has_front c.args.front.now) (sym c.as_bytes.ensures.value) ∙ (sym c.begins_with.ensures ∙ c.if-begins_with.true)) in
    (front-joins c.args.front.now c.args.cs.now found).within

pub split_ascii-requires-clause-ascii : goal.split_ascii-requires-clause-ascii
split_ascii-requires-clause-ascii c =
    let found : has_front c.args.front.now c.args.cs.now ≡ true = (ap (has_front c.args.front.now) (sym c.as_bytes.ensures.value) ∙ (sym c.begins_with.ensures ∙ c.if-begins_with.true)) in
    front-ascii c.args.front.now c.args.cs.now c.requires found

pub returns-then-begins_with : goal.returns-then-begins_with
returns-then-begins_with c =
    let found : has_front c.args.front.now c.args.cs.now ≡ true = (ap (has_front c.args.front.now) (sym c.as_bytes.ensures.value) ∙ (sym c.begins_with.ensures ∙ c.if-begins_with.true)) in
    let there : has_front c.args.front.now (chars c.args.cs.now) ≡ true = sym (bytes-front c.args.front.now c.args.cs.now c.utf8.cs c.requires) ∙ found in
    (there, (front-joins c.args.front.now (chars c.args.cs.now) there).joins ∙ ap (λ l. c.args.front.now ++ l) (sym c.split_ascii.ensures.rest))

pub returns-else-begins_with : goal.returns-else-begins_with
returns-else-begins_with c =
    sym (bytes-front c.args.front.now c.args.cs.now c.utf8.cs c.requires)
    ∙ (ap (has_front c.args.front.now) (sym c.as_bytes.ensures.value) ∙ (sym c.begins_with.ensures ∙ c.if-begins_with.false))
