use Rattle.std.proofs.Common.{◌∙◌, ◌+◌, ◌≤◌, ap, refl, subst, sym, take}
use Rattle.css_tokens.specs.Nested.{component_view, components_view}
use Rattle.rules_model.specs.ComponentLists.{is_whitespace}
use Rattle.size_features.proofs.Trimmed.{end-step, trim-step}
use Rattle.size_features.proofs.white_space.trim_end.Goals as goal

pub loop-place-preserved : goal.loop-place-preserved
loop-place-preserved c =
    let cs = c.args.components.now in
    let at = c.loop-place.place in
    let one = c.index-components-place.result in
    record {
      passed = subst (λ n. n ≤ at + 1) (sym c.end_after-end.ensures)
          (end-step at c.loop-place.end (is_whitespace (component_view one)) c.loop-place.invariant.passed);
      same = trim-step cs at c.loop-place.end one c.loop-place-test.true c.index-components-place.is
          c.loop-place.invariant.same (is_whitespace (component_view one)) refl
          ∙ ap (λ n. components_view (take n cs)) (sym c.end_after-end.ensures);
    }
