use Rattle.std.proofs.Common.{◌≡◌, ◌++◌, drop, flat_map, string_bytes}
use Rattle.cascade_model.specs.Defaulting.{value_in}
use Rattle.prop_table.specs.Styles.{style_view}
use Rattle.reply_model.specs.StyleText.{value_line}
use Rattle.reply_texts.proofs.styles.push_properties.Given as goal

-- what was appended so far and the lines of the rest are all
abbrev pub invariant-loop-prop : goal.invariant-loop-prop
invariant-loop-prop l =
    string_bytes l.reply ++ flat_map (λ p. value_line p (value_in (style_view l.style) p)) (drop l.prop-index l.prop-items)
    ≡ string_bytes l.fn.reply ++ flat_map (λ p. value_line p (value_in (style_view l.style) p)) l.prop-items
