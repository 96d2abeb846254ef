use Rattle.std.proofs.Common.{◌≡◌, ◌∙◌, ap, sym, true, false}
use Rattle.css_tokens.specs.Nested.{components_view}
use Rattle.rules_model.specs.ComponentLists.{is_whitespace}
use Rattle.css_rules.specs.inner.Reading.{ends_with}
use Rattle.css_rules.proofs.Ends.{end-passed, end-done}
use Rattle.css_rules.proofs.lists.trim_end.Goals as goal

pub loop-components-preserved : goal.loop-components-preserved
loop-components-preserved c =
    let white : ends_with is_whitespace (components_view c.loop-components.components) ≡ true =
    ap (λ cs. ends_with is_whitespace (components_view cs)) (sym c.as_slice.ensures)
    ∙ (sym c.ends_with_whitespace.ensures ∙ c.loop-components-test.true) in
    (end-passed c.drop_last.ensures.0 c.loop-components.components c.drop_last.new.components
    c.drop_last.ensures.1 white).0 ∙ c.loop-components.invariant

pub returns : goal.returns
returns c =
    let done : ends_with is_whitespace (components_view c.loop-components.components) ≡ false =
    ap (λ cs. ends_with is_whitespace (components_view cs)) (sym c.as_slice.ensures)
    ∙ (sym c.ends_with_whitespace.ensures ∙ c.loop-components-test.false) in
    sym (end-done (components_view c.loop-components.components) done) ∙ c.loop-components.invariant
