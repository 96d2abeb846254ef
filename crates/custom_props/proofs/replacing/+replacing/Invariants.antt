use Rattle.std.proofs.Common.{◌≡◌, drop, option_map}
use Rattle.css_model.specs.inner.Nesting.{followed}
use Rattle.css_tokens.specs.Nested.{components_view}
use Rattle.custom_model.specs.Substitution.{replacement_of_all}
use Rattle.custom_props.specs.inner.Entries.{entries_of}
use Rattle.custom_props.proofs.replacing.+replacing.Given as goal

-- what was appended, and what replaces the rest
abbrev pub invariant-append_from-loop-place : goal.invariant-append_from-loop-place
invariant-append_from-loop-place l =
    option_map (followed (components_view l.new))
    (replacement_of_all (entries_of l.known) (components_view (drop l.place l.components)))
    ≡ option_map (followed (components_view l.fn.new))
    (replacement_of_all (entries_of l.known) (components_view (drop l.start l.components)))
