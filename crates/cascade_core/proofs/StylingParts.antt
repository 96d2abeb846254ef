-- A style by an environment.
use Rattle.std.proofs.Common.{◌≡◌, ◌∙◌, ap}
use Rattle.std.specs.Prelude.{Option, option_map}
use Rattle.custom_model.specs.NamedValues.{NamedValues, value_named}
use Rattle.value_model.specs.declared.length_unit.Bases.{Bases}
use Rattle.cascade_model.specs.Defaulting.{Style, Winners}
use Rattle.cascade_model.specs.StyleEquation.{style_of}
use Rattle.cascade_model.specs.Styling.{Styling, environment, styling_of}
use Rattle.cascade_model.specs.Substituting.{winners_of}
use Rattle.cascade_core.specs.Tables.{entry}
use Rattle.cascade_core.specs.WinnersView.{cascaded_view}
use Rattle.cascade_core.specs.declared.given.Made.{Made}
use Rattle.cascade_core.specs.declared.winners.Winners.{Winners as CodeWinners}
use Rattle.cascade_core.specs.inner.Mades.{AreMade, made_value}

-- the winners after substitution
winners-after : (values : NamedValues) (w : CodeWinners) (made : Made)
    → AreMade (value_named values) w.all made.all → AreMade (value_named values) w.user_agent made.user_agent
    → record {
      of_all = λ p. made_value made.all p (entry w.all p);
      of_user_agent = λ p. made_value made.user_agent p (entry w.user_agent p);
    } ≡ winners_of (value_named values) (cascaded_view w)
winners-after values w made all user_agent = λ j. record {
  of_all = λ p. all p j;
  of_user_agent = λ p. user_agent p j;
}

pub styling-is : (w : CodeWinners) (made : Made) (parent : Option Styling) (above : Option Style) (b : Bases)
    (values : NamedValues) (style : Style)
    → values ≡ environment (record { cascaded = cascaded_view w; parent = parent; bases = b })
    → above ≡ option_map (λ s. s.style) parent
    → AreMade (value_named values) w.all made.all → AreMade (value_named values) w.user_agent made.user_agent
    → style ≡ style_of (record {
      winners = record {
        of_all = λ p. made_value made.all p (entry w.all p);
        of_user_agent = λ p. made_value made.user_agent p (entry w.user_agent p);
      };
      parent = above;
      bases = b;
    })
    → record { style = style; environment = values }
    ≡ styling_of (record { cascaded = cascaded_view w; parent = parent; bases = b })
styling-is w made parent above b values style env-is above-is all user_agent style-is =
    let whole : style ≡ style_of (record {
      winners = winners_of (value_named (environment (record { cascaded = cascaded_view w; parent = parent; bases = b }))) (cascaded_view w);
      parent = option_map (λ s. s.style) parent;
      bases = b;
    }) =
    style-is
    ∙ (ap (λ (x : Winners). style_of (record { winners = x; parent = above; bases = b })) (winners-after values w made all user_agent)
    ∙ (ap (λ (x : NamedValues). style_of (record { winners = winners_of (value_named x) (cascaded_view w); parent = above; bases = b })) env-is
    ∙ ap (λ (x : Option Style). style_of (record {
      winners = winners_of (value_named (environment (record { cascaded = cascaded_view w; parent = parent; bases = b }))) (cascaded_view w);
      parent = x;
      bases = b;
    })) above-is)) in
    λ j. record { style = whole j; environment = env-is j }
