use Rattle.std.proofs.Common.{◌≡◌, ◌++◌, flat_map, string_bytes}
use Rattle.reply_model.specs.Spelling.{in_quotes}
use Rattle.reply_texts.proofs.quotes.push_in_quotes.Given as goal

-- what came so far was appended
abbrev pub invariant-loop-c : goal.invariant-loop-c
invariant-loop-c l = string_bytes l.reply ≡ string_bytes l.fn.reply ++ flat_map in_quotes l.yielded
