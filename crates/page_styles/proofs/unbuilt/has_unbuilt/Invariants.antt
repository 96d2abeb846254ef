use Rattle.std.proofs.Common.{◌≡◌, drop}
use Rattle.css_rules.specs.Views.{declarations_view}
use Rattle.request_model.specs.UnbuiltStyles.{has_unbuilt}
use Rattle.page_styles.proofs.unbuilt.has_unbuilt.Given as goal

-- so far none was
abbrev pub invariant-loop-declaration : goal.invariant-loop-declaration
invariant-loop-declaration l =
    has_unbuilt (declarations_view (drop l.declaration-index l.declarations)) ≡ has_unbuilt (declarations_view l.declarations)
