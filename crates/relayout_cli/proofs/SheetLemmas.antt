-- The style sheets of a page, by their texts and by their rules.
use Rattle.std.proofs.Common.{◌≡◌, ◌∙◌, ap, sym, subst, refl, ℕ, zero, suc, ◌<◌, ◌≤◌, ◌==◌, List, [], ◌∷◌, ◌++◌, Bool, true, false, not, length, map, take, drop, get_or, slice_set, arith, eqb-true, inl, inr, encode_utf8_all, ltb-false, nat_lt, Option, Some, None, is_some, Result, Ok, Err, OnOk, OnErr}
use Rattle.std.proofs.lemmas.Bool.{cases_Bool, false≢true}
use Rattle.std.proofs.lemmas.List.Elements.{All-cons}
use Rattle.std.specs.List.{All}
use Rattle.cascade_core.specs.Books.{AreFew}
use Rattle.css_model.specs.declared.token.TheConstants.{MAX_NESTING}
use Rattle.css_model.specs.Components.{depths}
use Rattle.css_rules.specs.Views.{condition_lists, rule_view}
use Rattle.page_laws.proofs.Options.{or-false}
use Rattle.page_model.specs.Refusals.{first_of}
use Rattle.page_model.specs.Trees.{Text}
use Rattle.reply_laws.proofs.SheetLimits.{kept-with, kept-without}
use Rattle.rules_model.specs.declared.limits.TheConstants.{MAX_SHEETS, MAX_SHEET_BYTES, MAX_STYLE_RULES}
use Rattle.rules_model.specs.declared.sheet_limit.SheetLimit.TheVariants.{TooLarge, TooDeep, TooManyRules}
use Rattle.std.specs.List.{list_any, remove}
use Rattle.std.proofs.lemmas.List.{length-map, map-append, take-map, drop-map}
use Rattle.rules_model.specs.Rules.{StyleRule}
use Rattle.rules_model.specs.Sheets.{components_of, first_limit, style_rules_of}
use Rattle.request_model.specs.States.{are_over_sheet_limits, is_empty, is_over_sheet_limit, sheet_causes, sheets_after, sheets_with, sheets_without}
use Rattle.css_rules.specs.declared.sheet.Sheet.{Sheet}
use Rattle.css_rules.specs.Views.{sheet_view}
use Rattle.reply_model.specs.RulesText.{sheet_lines, rule_lines}
use Rattle.relayout_cli.specs.Sheets.{texts_of, kept_rules, text_rules, has_rules, AreParsed}
use Rattle.relayout_cli.specs.inner.RuleLines.{lines_of_all}

-- ---- lists

-- without the item at a place
map-without : {X Y : Type 0} (f : X → Y) (xs : List X) (at : ℕ) → map f (remove xs at) ≡ take at (map f xs) ++ drop (suc at) (map f xs)
map-without f xs at = map-append f (take at xs) (drop (suc at) xs) ∙ rw (take-map f at xs, drop-map f (suc at) xs) refl

-- with another item at a place
map-with : {X Y : Type 0} (f : X → Y) (xs : List X) (at : ℕ) (x : X) → at < length xs → map f (slice_set xs at x) ≡ take at (map f xs) ++ f x ∷ drop (suc at) (map f xs)
map-with f [] at x h = absurd (omega (arith, h))
map-with f (y ∷ xs) zero x h = refl
map-with f (y ∷ xs) (suc at) x h = ap (λ ys. f y ∷ ys) (map-with f xs at x (omega (arith, h)))

-- with an item behind all
map-behind : {X Y : Type 0} (f : X → Y) (xs : List X) (x : X) → map f (xs ++ x ∷ []) ≡ take (length xs) (map f xs) ++ f x ∷ drop (suc (length xs)) (map f xs)
map-behind f [] x = refl
map-behind f (y ∷ xs) x = ap (λ ys. f y ∷ ys) (map-behind f xs x)

-- ---- texts

pub texts-set : (sheets : List Sheet) (at : ℕ) (s : Sheet) → at < length sheets → texts_of (slice_set sheets at s) ≡ sheets_with at s.text (texts_of sheets)
texts-set sheets at s h = map-with (λ (s : Sheet). s.text) sheets at s h

pub texts-push : (sheets : List Sheet) (at : ℕ) (s : Sheet) → at ≡ length sheets → texts_of (sheets ++ s ∷ []) ≡ sheets_with at s.text (texts_of sheets)
texts-push sheets at s h = rw h (map-behind (λ (s : Sheet). s.text) sheets s)

pub texts-remove : (sheets : List Sheet) (at : ℕ) → texts_of (remove sheets at) ≡ sheets_without at (texts_of sheets)
texts-remove sheets at = map-without (λ (s : Sheet). s.text) sheets at

-- ---- rules

pub parsed-set : (sheets : List Sheet) (at : ℕ) (s : Sheet) → at < length sheets → sheet_view s ≡ style_rules_of s.text → AreParsed sheets → AreParsed (slice_set sheets at s)
parsed-set sheets at s h is parsed = λ print.
    ap print (map-with sheet_view sheets at s h)
    ∙ (parsed (λ all. print (take at all ++ sheet_view s ∷ drop (suc at) all))
    ∙ (ap (λ rules. print (take at (text_rules sheets) ++ rules ∷ drop (suc at) (text_rules sheets))) is
    ∙ sym (ap print (map-with (λ (s : Sheet). style_rules_of s.text) sheets at s h))))

pub parsed-push : (sheets : List Sheet) (s : Sheet) → sheet_view s ≡ style_rules_of s.text → AreParsed sheets → AreParsed (sheets ++ s ∷ [])
parsed-push sheets s is parsed = λ print.
    ap print (map-append sheet_view sheets (s ∷ []))
    ∙ (parsed (λ all. print (all ++ sheet_view s ∷ []))
    ∙ (ap (λ rules. print (text_rules sheets ++ rules ∷ [])) is
    ∙ sym (ap print (map-append (λ (s : Sheet). style_rules_of s.text) sheets (s ∷ [])))))

pub parsed-remove : (sheets : List Sheet) (at : ℕ) → AreParsed sheets → AreParsed (remove sheets at)
parsed-remove sheets at parsed = λ print.
    ap print (map-without sheet_view sheets at)
    ∙ (parsed (λ all. print (take at all ++ drop (suc at) all))
    ∙ sym (ap print (map-without (λ (s : Sheet). style_rules_of s.text) sheets at)))

-- one more sheet is read
pub rules-push : (sheets : List Sheet) (s : Sheet) → kept_rules sheets ≡ text_rules sheets → sheet_view s ≡ style_rules_of s.text → kept_rules (sheets ++ s ∷ []) ≡ text_rules (sheets ++ s ∷ [])
rules-push sheets s are is =
    map-append sheet_view sheets (s ∷ [])
    ∙ (ap (λ all. all ++ sheet_view s ∷ []) are
    ∙ (ap (λ rules. text_rules sheets ++ rules ∷ []) is
    ∙ sym (map-append (λ (s : Sheet). style_rules_of s.text) sheets (s ∷ []))))

-- ---- whether there is a rule

pub has-mapped : {X : Type 0} (f : X → StyleRule) (xs : List X) → not (length xs == 0) ≡ has_rules (map f xs)
has-mapped f [] = refl
has-mapped f (x ∷ xs) = elim (cases_Bool (suc (length xs) == 0)) [
  | inl w ↦ absurd (omega (arith, eqb-true _ _ w))
  | inr w ↦ rw w refl
]

marks : Bool → List ℕ
marks true = 0 ∷ []
marks false = []

marked : (b : Bool) → not (is_empty (marks b)) ≡ b
unfolding marks
marked true = refl
marked false = refl

any-texts : (P : List StyleRule → Bool) (sheets : List Sheet)
    → list_any P (text_rules sheets) ≡ list_any (λ css. P (style_rules_of css)) (texts_of sheets)
any-texts P [] = refl
any-texts P (s ∷ sheets) = rw (any-texts P sheets) refl

-- what holds of the rules that are kept of a sheet holds of those of a text
pub any-parsed : (P : List StyleRule → Bool) (sheets : List Sheet) → AreParsed sheets
    → list_any P (kept_rules sheets) ≡ list_any (λ css. P (style_rules_of css)) (texts_of sheets)
any-parsed P sheets parsed =
    sym (marked (list_any P (kept_rules sheets)))
    ∙ (ap (λ (l : List ℕ). not (is_empty l)) (parsed (λ all. marks (list_any P all)))
    ∙ (marked (list_any P (text_rules sheets)) ∙ any-texts P sheets))

-- ---- limits

-- a text within the limits has few rules
few-by : (large deep many : Bool)
    → is_some (first_limit ((large, TooLarge) ∷ (deep, TooDeep) ∷ (many, TooManyRules) ∷ [])) ≡ false → many ≡ false
few-by true deep many h = absurd (false≢true (sym h))
few-by false true many h = absurd (false≢true (sym h))
few-by false false true h = absurd (false≢true (sym h))
few-by false false false h = refl

few-in-text : (css : Text) → is_over_sheet_limit css ≡ false → length (style_rules_of css) ≤ MAX_STYLE_RULES
few-in-text css h =
    ltb-false MAX_STYLE_RULES (length (style_rules_of css))
    (few-by (nat_lt MAX_SHEET_BYTES (length (encode_utf8_all css))) (nat_lt MAX_NESTING (depths (components_of css)))
    (nat_lt MAX_STYLE_RULES (length (style_rules_of css))) h)

few-rules : (sheets : List Sheet) → map (length {A = StyleRule}) (kept_rules sheets) ≡ map (length {A = StyleRule}) (text_rules sheets)
    → list_any is_over_sheet_limit (texts_of sheets) ≡ false → All (λ (s : Sheet). length s.rules ≤ MAX_STYLE_RULES) sheets
few-rules [] same none = λ k d lt. absurd (omega (arith, lt))
few-rules (s ∷ sheets) same none =
    let parts = or-false (is_over_sheet_limit s.text) (list_any is_over_sheet_limit (texts_of sheets)) none in
    let count : length s.rules ≡ length (style_rules_of s.text) =
    sym (length-map s.rules (rule_view (condition_lists s.conditions))) ∙ ap (λ (ns : List ℕ). get_or ns 0 0) same in
    All-cons (λ (s : Sheet). length s.rules ≤ MAX_STYLE_RULES) s sheets (subst (λ n. n ≤ MAX_STYLE_RULES) (sym count) (few-in-text s.text parts.0))
    (few-rules sheets (ap (drop 1) same) parts.1)

pub few-parsed : (sheets : List Sheet) → AreParsed sheets → are_over_sheet_limits (texts_of sheets) ≡ false → AreFew sheets
few-parsed sheets parsed within =
    let parts = or-false (nat_lt MAX_SHEETS (length (texts_of sheets))) (list_any is_over_sheet_limit (texts_of sheets)) within in
    record {
      count = subst (λ n. n ≤ MAX_SHEETS) (length-map sheets (λ (s : Sheet). s.text)) (ltb-false MAX_SHEETS (length (texts_of sheets)) parts.0);
      rules = few-rules sheets (parsed (map (length {A = StyleRule}))) parts.1;
    }

-- an edit of the sheets that is allowed keeps them within the limits
after-within : (at : ℕ) (css : Option Text) (sheets : List Text) → are_over_sheet_limits sheets ≡ false
    → first_of (sheet_causes at css sheets) ≡ None → are_over_sheet_limits (sheets_after at css sheets) ≡ false
after-within at None sheets h none = kept-without at sheets h
after-within at (Some css) sheets h none = kept-with at css sheets h none

pub within-after : {T E : Type 0} (r : Result T E) (at : ℕ) (css : Option Text) (old new : List Sheet)
    → OnOk r (texts_of new ≡ sheets_after at css (texts_of old))
    → OnOk r (first_of (sheet_causes at css (texts_of old)) ≡ None) → OnErr r (new ≡ old)
    → are_over_sheet_limits (texts_of old) ≡ false → are_over_sheet_limits (texts_of new) ≡ false
within-after (Ok x) at css old new after allowed kept h =
    ap are_over_sheet_limits after ∙ after-within at css (texts_of old) h allowed
within-after (Err e) at css old new after allowed kept h = ap (λ (sheets : List Sheet). are_over_sheet_limits (texts_of sheets)) kept ∙ h

-- ---- lines

lines-texts : (number : ℕ) (sheets : List Sheet) → lines_of_all number (text_rules sheets) ≡ sheet_lines number (texts_of sheets)
lines-texts number [] = refl
lines-texts number (s ∷ sheets) = ap (λ lines. rule_lines number 0 (style_rules_of s.text) ++ lines) (lines-texts (suc number) sheets)

pub lines-parsed : (sheets : List Sheet) → AreParsed sheets → lines_of_all 0 (kept_rules sheets) ≡ sheet_lines 0 (texts_of sheets)
lines-parsed sheets parsed = parsed (lines_of_all 0) ∙ lines-texts 0 sheets
