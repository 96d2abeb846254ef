-- The components of a text, and the limits of sheets.
use Rattle.std.proofs.Common.{◌≡◌, sym, refl, inl, inr, ◌↔◌, nat_lt, None}
use Rattle.std.proofs.lemmas.Bool.{cases_Bool, ltb-false, le-ltb}
use Rattle.std.proofs.lemmas.Option.{none-some}
use Rattle.css_model.specs.declared.token.TheConstants.{MAX_NESTING}
use Rattle.css_model.specs.Classes.{Text}
use Rattle.css_model.specs.inner.Pieces.{tokens}
use Rattle.css_model.proofs.Nesting.{nesting-is}
use Rattle.css_model.proofs.NumberPieces.{tokens-are-tokens}
use Rattle.rules_model.specs.declared.limits.TheConstants.{MAX_SHEET_BYTES, MAX_STYLE_RULES}
use Rattle.rules_model.specs.declared.sheet_limit.SheetLimit.TheVariants.{TooDeep, TooLarge, TooManyRules}
use Rattle.rules_model.specs.Sheets.{SheetSize, components_of, first_limit, sheet_limits, limit_of_sheet, size_of_sheet}
use Rattle.rules_laws.specs.Accepted.{IsWithin}
use Rattle.rules_laws.specs.Texts.{AreComponentsOf}

pub components-text : (text : Text) → AreComponentsOf text (components_of text)
components-text text = record {
  tokens = tokens text;
  are_tokens = tokens-are-tokens text;
  are_components = nesting-is (tokens text);
}

over-within : (size : SheetSize) → first_limit (sheet_limits size) ≡ None → IsWithin size
over-within size e = elim (cases_Bool (nat_lt MAX_SHEET_BYTES size.bytes)) [
  | inl b ↦ absurd (none-some TooLarge (sym (rw b at e)))
  | inr b ↦ elim (cases_Bool (nat_lt MAX_NESTING size.levels)) [
    | inl l ↦ absurd (none-some TooDeep (sym (rw (b, l) at e)))
    | inr l ↦ elim (cases_Bool (nat_lt MAX_STYLE_RULES size.rules)) [
      | inl r ↦ absurd (none-some TooManyRules (sym (rw (b, l, r) at e)))
      | inr r ↦ record {
        bytes = ltb-false MAX_SHEET_BYTES size.bytes b;
        levels = ltb-false MAX_NESTING size.levels l;
        rules = ltb-false MAX_STYLE_RULES size.rules r;
      }
    ]
  ]
]

within-over : (size : SheetSize) → IsWithin size → first_limit (sheet_limits size) ≡ None
within-over size w = rw (
  le-ltb MAX_SHEET_BYTES size.bytes w.bytes,
  le-ltb MAX_NESTING size.levels w.levels,
  le-ltb MAX_STYLE_RULES size.rules w.rules,
) refl

pub within : (size : SheetSize) → (first_limit (sheet_limits size) ≡ None) ↔ IsWithin size
within size = (over-within size, within-over size)

pub within-text : (text : Text) → (limit_of_sheet text ≡ None) ↔ IsWithin (size_of_sheet text)
within-text text = within (size_of_sheet text)
