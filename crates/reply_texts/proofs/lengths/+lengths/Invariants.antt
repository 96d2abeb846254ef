use Rattle.std.proofs.Common.{◌≡◌, ◌++◌, drop, flat_map, string_bytes}
use Rattle.query_units.specs.Views.{all_computed_view}
use Rattle.reply_texts.specs.Words.{after_comma}
use Rattle.value_model.specs.Calculations.{length_texts}
use Rattle.reply_texts.proofs.lengths.+lengths.Given as goal

-- what was appended so far and the rest are all
abbrev pub invariant-push_others-loop-other : goal.invariant-push_others-loop-other
invariant-push_others-loop-other l =
    string_bytes l.reply ++ flat_map after_comma (length_texts (all_computed_view (drop l.other-index l.other-items)))
    ≡ string_bytes l.fn.reply ++ flat_map after_comma (length_texts (all_computed_view l.fn.others))
