-- What the rest of the forms has is what all have.
use Rattle.std.proofs.Common.{◌≡◌, drop}
use Rattle.css_tokens.specs.Nested.{components_view}
use Rattle.value_model.specs.Grammar.{value_of_forms}
use Rattle.value_model.specs.Words.{words_of}
use Rattle.prop_table.specs.inner.FormViews.{forms_view}
use Rattle.prop_table.proofs.reading.value_of_forms.Given as goal

abbrev pub invariant-loop-form : goal.invariant-loop-form
invariant-loop-form l =
    value_of_forms (forms_view (drop l.form-index l.forms)) (words_of (components_view l.fn.components))
    ≡ value_of_forms (forms_view l.fn.forms) (words_of (components_view l.fn.components))
