-- A token alone stands in front of what follows.
use Rattle.std.proofs.Common.{◌∙◌, ap}
use Rattle.css_model.specs.Components.{component, no_components}
use Rattle.css_model.specs.inner.Nesting.{followed}
use Rattle.css_tokens.specs.Nested.{components_view}
use Rattle.css_tokens.proofs.OpenBrackets.{view-one, rest-alone, within-alone}
use Rattle.css_tokens.proofs.nesting.Nesting.take_alone.Goals as goal

pub returns : goal.returns
returns c =
    let contents = c.in_ok-add.ensures.contents ∙ ap (λ a. followed (components_view c.args.self.now.contents) (component a no_components)) (view-one c.args.token) in
    record {
      within = within-alone c.args.self.now c.add.new.self c.args.token c.add.ensures.open_brackets contents;
      rest = λ rest. rest-alone c.args.self.now c.add.new.self c.args.token rest c.requires.opens c.requires.closes c.add.ensures.open_brackets contents;
    }
