use Rattle.std.proofs.Common.{rules, arith, ◌≡◌, ◌∙◌, ap, sym, ◌<◌, ◌^◌, [], ◌++◌, length, append-nil}
use Rattle.std.proofs.lemmas.Str.{length-le-encodes, encodes-chars}
use Rattle.std.specs.Str.{chars}
use Rattle.css_model.specs.TokenList.{tokens_from}
use Rattle.css_model.specs.inner.Pieces.{pieces}
use Rattle.css_model.proofs.Laws.{pieces-nil}
use Rattle.css_tokens.specs.inner.Left.{tokens_left}
use Rattle.css_tokens.proofs.tokenizer.tokens_of.Goals as goal

pub loop-c-init : goal.loop-c-init
loop-c-init c =
    let short : length c.args.cs.now < 2 ^ 64 = search rules in
    record {
      utf8 = c.utf8.cs;
      room = omega (arith, length-le-encodes (chars c.args.cs.now), ap length (encodes-chars c.args.cs.now c.utf8.cs), short);
      same = ap (λ ts. ts ++ tokens_from 0 (pieces (chars c.args.cs.now))) c.new-tokens.ensures;
    }

pub returns : goal.returns
returns c =
    let none : tokens_left c.loop-c.left ≡ [] = ap (λ l. tokens_from c.loop-c.left.start (pieces l)) c.in_default.ensures ∙ ap (tokens_from c.loop-c.left.start) pieces-nil in
    sym (append-nil c.loop-c.tokens) ∙ (ap (λ ts. c.loop-c.tokens ++ ts) (sym none) ∙ c.loop-c.invariant.same)
