use Rattle.std.proofs.Common.{◌∙◌, ap, sym}
use Rattle.std.specs.Str.{chars}
use Rattle.css_tokens.proofs.FoundPieces.{token-list}
use Rattle.css_tokens.proofs.tokenizer.tokenize.Goals as goal

pub returns-then-is_preprocessed : goal.returns-then-is_preprocessed
returns-then-is_preprocessed c = record {
  tokens = token-list c.tokens_of.result c.args.text.now (chars c.args.text.now) (sym (c.is_preprocessed.ensures c.if-is_preprocessed.true)) c.tokens_of.ensures;
}

pub returns-in_ok-preprocess : goal.returns-in_ok-preprocess
returns-in_ok-preprocess c = record {
  tokens = token-list c.tokens_of-else-is_preprocessed.result c.args.text.now (chars c.as_str.result.now) (ap chars c.as_str.ensures.value ∙ c.in_ok-preprocess.ensures) c.tokens_of-else-is_preprocessed.ensures;
}
