use Rattle.std.proofs.Common.{◌∙◌, refl}
use Rattle.std.proofs.lemmas.Result.{on_ok_weaker}
use Rattle.css_tokens.specs.Nested.{component_view}
use Rattle.css_rules.specs.declared.rules.Found.{Found}
use Rattle.css_rules.specs.declared.sheet.StyleRule.{StyleRule}
use Rattle.rules_model.specs.Declarations.{declarations_of}
use Rattle.std.proofs.Common.{ap}
use Rattle.css_rules.proofs.FoundRules.{rule-kept}
use Rattle.css_rules.proofs.rules.keep_rule.Goals as goal

pub returns : goal.returns
returns c =
    let after : Found =
    record { conditions = c.args.found.now.conditions; rules = c.push.new.self } in
    let rule : StyleRule =
    record {
      prelude = c.args.prelude;
      around = c.args.around;
      declarations =
          c.in_ok-declarations.declarations;
    } in
    on_ok_weaker c.push.result
    (λ pushed. rule-kept c.args.found.now after rule (component_view c.args.block) c.requires refl
    pushed
    (c.in_ok-declarations.ensures ∙ ap declarations_of c.into_contents.ensures))
    c.push.ensures.ok
