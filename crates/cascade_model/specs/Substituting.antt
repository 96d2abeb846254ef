-- What values that were kept whole give to properties after substitution (CSS Custom Properties 1, section 3).
use Rattle.std.specs.Prelude.{Option, Some, option_and_then}
use Rattle.std.specs.Map.{lookup}
use Rattle.css_model.specs.Classes.{Text}
use Rattle.css_model.specs.Components.{Components}
use Rattle.custom_model.specs.Substitution.{Entries, substituted}
use Rattle.value_model.specs.declared.prop.Prop.{Prop}
use Rattle.value_model.specs.Properties.{is_same_prop}
use Rattle.value_model.specs.Values.{Value}
use Rattle.cascade_model.specs.Cascaded.{Cascaded}
use Rattle.cascade_model.specs.Defaulting.{Winners}
use Rattle.cascade_model.specs.Kept.{KeptValue, read, whole, longhands_of}

-- the value that component values under a name give to a property, if they are right
abbrev pub value_under : Text → Components → Prop → Option Value
value_under name value p = option_and_then (λ ls. lookup (is_same_prop p) ls) (longhands_of name value)

-- the value of a property after substitution, where these are the entries of custom properties; without one
-- it is invalid at computed-value time, and the property is as one without a declaration (section 3.1)
abbrev pub substituted_value : Entries → Prop → KeptValue → Option Value
substituted_value entries p (read v) = Some v
substituted_value entries p (whole name value) =
    option_and_then (λ cs. value_under name cs p) (substituted entries value)

-- the values that win after substitution
abbrev pub winners_of : Entries → Cascaded → Winners
winners_of entries c = record {
  of_all = λ p. option_and_then (substituted_value entries p) (c.of_all p);
  of_user_agent = λ p. option_and_then (substituted_value entries p) (c.of_user_agent p);
}
