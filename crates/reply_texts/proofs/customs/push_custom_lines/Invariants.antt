use Rattle.std.proofs.Common.{◌≡◌, ◌++◌, drop, flat_map, string_bytes}
use Rattle.custom_props.specs.EnvView.{env_view}
use Rattle.reply_model.specs.StyleText.{custom_line}
use Rattle.reply_texts.proofs.customs.push_custom_lines.Given as goal

-- what was appended so far and the lines of the rest are all
abbrev pub invariant-loop-place : goal.invariant-loop-place
invariant-loop-place l =
    string_bytes l.reply ++ flat_map (λ e. custom_line e.0 e.1) (drop l.place (env_view l.env))
    ≡ string_bytes l.fn.reply ++ flat_map (λ e. custom_line e.0 e.1) (env_view l.env)
