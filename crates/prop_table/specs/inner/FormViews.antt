-- Which forms of the definitions these are.
use Rattle.std.specs.Prelude.{List, map}
use Rattle.value_model.specs.Forms as forms
use Rattle.prop_table.specs.declared.form.Form.{Form}
use Rattle.prop_table.specs.declared.form.Form.TheVariants as form

abbrev pub form_view : Form → forms.Form
form_view (form.OneOf keywords) = forms.one_of keywords.now
form_view form.Length = forms.a_length
form_view form.LengthOrPercentage = forms.a_length_or_percentage
form_view form.AnyLengthOrPercentage = forms.any_length_or_percentage
form_view form.Number = forms.a_number
form_view form.AnyNumber = forms.any_number
form_view (form.IntegerBetween least greatest) = forms.an_integer_between least greatest
form_view form.AnyInteger = forms.any_integer
form_view form.Color = forms.a_color
form_view form.Containment = forms.a_containment
form_view form.ContainerNames = forms.container_names

abbrev pub forms_view : List Form → List forms.Form
forms_view fs = map form_view fs
