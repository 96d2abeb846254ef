-- Which rules of the definitions a book has, and which of them a match numbers.
use Rattle.std.specs.Prelude.{◌≡◌, ℕ, ◌≤◌, ◌<◌, List, [], ◌∷◌, length, map, Option, Some, None}
use Rattle.std.specs.List.{All, slice_get}
use Rattle.css_rules.specs.declared.sheet.Sheet.{Sheet}
use Rattle.rules_model.specs.declared.limits.TheConstants.{MAX_SHEETS, MAX_STYLE_RULES}
use Rattle.selectors_model.specs.declared.spec.Spec.{Spec}
use Rattle.selectors.specs.Views.{list_view}
use Rattle.selectors.specs.declared.rules.Rule.{Rule}
use Rattle.cascade_model.specs.Applied.{MatchedRule}
use Rattle.cascade_model.specs.Books.{BookRule}
use Rattle.cascade_core.specs.Numbers.{AreNumbered}
use Rattle.cascade_core.specs.Views.{rules_view}
use Rattle.cascade_core.specs.declared.rule_book.RuleBook.{RuleBook}

abbrev pub book_view : RuleBook → List BookRule
book_view book = rules_view book.rules book.bodies

-- sheets that a page may have
pub record AreFew (sheets : List Sheet) : Type 0 where
  pub count : length sheets ≤ MAX_SHEETS
  pub rules : All (λ (s : Sheet). length s.rules ≤ MAX_STYLE_RULES) sheets

-- the numbers and selectors of a book's rules: each number is the place in the book
pub record AreRulesOf (rules : List Rule) (book : List BookRule) : Type 0 where
  pub numbered : AreNumbered rules
  pub selectors : map (λ r. list_view r.list) rules ≡ map (λ r. r.selectors) book

-- ---- matches

-- a rule that matched, in front of those after it
abbrev pub with_specificity : Option BookRule → Spec → List MatchedRule → List MatchedRule
with_specificity None spec matched = matched
with_specificity (Some r) spec matched = record { rule = r; specificity = spec } ∷ matched

-- the rules of these numbers, each with its specificity
abbrev pub rules_at : List BookRule → List (ℕ × Spec) → List MatchedRule
rules_at book [] = []
rules_at book (pair ∷ pairs) = with_specificity (slice_get book pair.0) pair.1 (rules_at book pairs)

-- each number is in the book's list
abbrev pub AreInBook : List (ℕ × Spec) → List BookRule → Type 0
AreInBook pairs book = All (λ (pair : ℕ × Spec). pair.0 < length book) pairs
