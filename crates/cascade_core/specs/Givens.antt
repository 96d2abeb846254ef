-- What a style is made of.
use Rattle.std.specs.Option.{option_copied}
use Rattle.std.specs.Prelude.{option_map}
use Rattle.cascade_model.specs.StyleEquation as model
use Rattle.prop_table.specs.Styles.{style_view}
use Rattle.cascade_core.specs.Tables.{entry}
use Rattle.cascade_core.specs.declared.given.Given.{Given}
use Rattle.cascade_core.specs.inner.Mades.{made_value}

abbrev pub given_view : Given → model.Given
given_view g = record {
  winners = record {
    of_all = λ p. made_value g.made.now.all p (entry g.winners.now.all p);
    of_user_agent = λ p. made_value g.made.now.user_agent p (entry g.winners.now.user_agent p);
  };
  parent = option_map style_view (option_copied g.parent);
  bases = g.bases;
}
