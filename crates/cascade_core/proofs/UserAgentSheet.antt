-- The sheet of the user agent is above no limit.
use Rattle.std.proofs.Common.{◌≡◌, ◌∙◌, ap, sym, refl, ℕ, ◌≤◌, length, arith}
use Rattle.std.proofs.lemmas.Bool.{false≢true}
use Rattle.std.proofs.lemmas.Bool.Decides.{nat_tests}
use Rattle.std.proofs.lemmas.List.{length-map}
use Rattle.std.specs.Prelude.{None, is_some, nat_lt, false, Err}
use Rattle.std.specs.Str.{chars}
use lib.Utf8.{encode}
use Rattle.css_model.specs.inner.Fronts.{parts_after}
use Rattle.css_model.specs.inner.Nesting.{levels_of}
use Rattle.css_model.specs.inner.Pieces.{pieces_after}
use Rattle.rules_model.specs.Sheets.{limit_of_sheet, style_rules_of}
use Rattle.rules_model.specs.declared.limits.TheConstants.{MAX_STYLE_RULES}
use Rattle.css_model.specs.Classes.{Text}
use Rattle.css_rules.specs.Faults.{IsLimited}
use Rattle.css_rules.specs.Views.{sheet_view, rule_view, condition_lists}
use Rattle.css_rules.specs.declared.fault.SheetFault.{SheetFault}
use Rattle.css_rules.specs.declared.fault.SheetFault.TheVariants as faults
use Rattle.css_rules.specs.declared.sheet.Sheet.{Sheet}
use Rattle.cascade_model.specs.declared.user_agent.TheConstants.{USER_AGENT_SHEET}

pub not-limited : limit_of_sheet (chars USER_AGENT_SHEET.now) ≡ None
unfolding levels_of pieces_after parts_after chars encode
not-limited = refl

pub few-rules : nat_lt MAX_STYLE_RULES (length (style_rules_of (chars USER_AGENT_SHEET.now))) ≡ false
unfolding levels_of pieces_after parts_after chars
few-rules = refl

-- ---- faults

-- of a text that is above no limit the fault is want of memory
pub fault-is : (X : Type 0) (fault : SheetFault) (text : Text) → limit_of_sheet text ≡ None
    → IsLimited {X = X} (Err fault) text → fault ≡ faults.NoMemory
fault-is X faults.NoMemory text none limited = refl
fault-is X faults.TooLarge text none limited = absurd (false≢true (sym (ap is_some none) ∙ ap is_some limited))
fault-is X faults.TooDeep text none limited = absurd (false≢true (sym (ap is_some none) ∙ ap is_some limited))
fault-is X faults.TooManyRules text none limited = absurd (false≢true (sym (ap is_some none) ∙ ap is_some limited))

-- a sheet has as many rules as are seen of it
pub as-many : (sheet : Sheet) → sheet_view sheet ≡ style_rules_of (chars USER_AGENT_SHEET.now)
    → length sheet.rules ≤ MAX_STYLE_RULES
as-many sheet seen =
    let count : length sheet.rules ≡ length (style_rules_of (chars USER_AGENT_SHEET.now)) =
    sym (length-map sheet.rules (rule_view (condition_lists sheet.conditions))) ∙ ap length seen in
    within (length sheet.rules) (ap (nat_lt MAX_STYLE_RULES) count ∙ few-rules)
  where
    within : (n : ℕ) → nat_lt MAX_STYLE_RULES n ≡ false → n ≤ MAX_STYLE_RULES
    within n e = grind (arith, nat_tests, e)
