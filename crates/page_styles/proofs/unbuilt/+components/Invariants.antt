use Rattle.std.proofs.Common.{◌≡◌, drop}
use Rattle.std.specs.List.{list_any}
use Rattle.css_model.specs.Components.{all_tokens_of}
use Rattle.css_tokens.specs.Nested.{components_view}
use Rattle.request_model.specs.UnbuiltStyles.{is_unbuilt_token}
use Rattle.page_styles.proofs.unbuilt.+components.Given as goal

-- so far none was
abbrev pub invariant-any_unbuilt-loop-component : goal.invariant-any_unbuilt-loop-component
invariant-any_unbuilt-loop-component l =
    list_any is_unbuilt_token (all_tokens_of (components_view (drop l.component-index l.components)))
    ≡ list_any is_unbuilt_token (all_tokens_of (components_view l.components))
