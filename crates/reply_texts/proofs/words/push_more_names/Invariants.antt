use Rattle.std.proofs.Common.{◌≡◌, ◌++◌, drop, flat_map, map, string_bytes}
use Rattle.reply_model.specs.Spelling.{field, quoted}
use Rattle.reply_texts.proofs.words.push_more_names.Given as goal

-- what was appended so far and the rest are all
abbrev pub invariant-loop-name : goal.invariant-loop-name
invariant-loop-name l =
    string_bytes l.reply ++ flat_map field (map quoted (drop l.name-index l.names))
    ≡ string_bytes l.fn.reply ++ flat_map field (map quoted l.names)
