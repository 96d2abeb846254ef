-- How the lines of rules are put together.
use Rattle.std.proofs.Common.{◌≡◌, ◌∙◌, ap, sym, refl, ℕ, zero, suc, ◌<◌, ◌≤◌, ◌+◌, List, [], ◌∷◌, ◌++◌, Option, Some, None, length, map, drop, flat_map, get_or, drop-cons, add-one, arith, append_assoc, take}
use Rattle.std.proofs.lemmas.Grind.{flat_map-append}
use Rattle.std.proofs.lemmas.List.{map-append, take_more}
use Rattle.std.proofs.lemmas.List.Sums.{fold_push}
use Rattle.std.proofs.Math.ListN.{get_or-map}
use Rattle.css_model.specs.declared.token.Token.{Token}
use Rattle.css_model.specs.Components.{tokens_of, all_tokens_of}
use Rattle.css_tokens.specs.declared.component.Component.{Component}
use Rattle.css_tokens.specs.Nested.{component_view, components_view}
use Rattle.rules_model.specs.PreludeText.{token_text}
use Rattle.rules_model.specs.Rules as model
use Rattle.css_rules.specs.declared.sheet.Condition.{Condition}
use Rattle.css_rules.specs.declared.sheet.StyleRule.{StyleRule}
use Rattle.css_rules.specs.declared.sheet.Sheet.{Sheet}
use Rattle.css_rules.specs.Views.{declaration_view, condition_view, conditions_at, with_condition, condition_lists, rule_view, sheet_view}
use Rattle.reply_model.specs.Spelling.{in_quotes}
use Rattle.reply_model.specs.RulesText.{rule_line, rule_lines}
use Rattle.relayout_cli.specs.Sheets.{kept_rules}
use Rattle.relayout_cli.specs.inner.RuleLines.{tokens_in_quotes, component_in_quotes, components_in_quotes, condition_counts, count_at, kept_line, lines_of_all, AreAtMost}

-- ---- tokens

pub tokens-joined : (ts us : List Token) → tokens_in_quotes (ts ++ us) ≡ tokens_in_quotes ts ++ tokens_in_quotes us
tokens-joined ts us = ap (flat_map in_quotes) (flat_map-append token_text ts us) ∙ flat_map-append in_quotes (flat_map token_text ts) (flat_map token_text us)

pub components-next : (cs : List Component) (i : ℕ) (c : Component) → i < length cs → c ≡ get_or cs i c
    → components_in_quotes (drop i cs) ≡ component_in_quotes c ++ components_in_quotes (drop (i + 1) cs)
components-next cs i c h is =
    rw (drop-cons cs i c h, ← is, add-one) (tokens-joined (tokens_of (component_view c)) (all_tokens_of (components_view (drop (suc i) cs))))

-- ---- conditions

count-get : (lists : List (List model.Condition)) (place : Option ℕ) → count_at (map (length {A = model.Condition}) lists) place ≡ length (conditions_at lists place)
count-get lists None = refl
count-get lists (Some place) = get_or-map (length {A = model.Condition}) lists place []

length-more : {X : Type 0} (xs : List X) (x : X) → length (xs ++ x ∷ []) ≡ length xs + 1
length-more [] x = refl
length-more (y ∷ xs) x = ap suc (length-more xs x) ∙ omega arith

-- one more condition
pub counts-push : (conditions : List Condition) (c : Condition) → condition_counts (conditions ++ c ∷ []) ≡ condition_counts conditions ++ (count_at (condition_counts conditions) c.around + 1) ∷ []
counts-push conditions c =
    ap (map (length {A = model.Condition})) (fold_push with_condition [] conditions c)
    ∙ (map-append (length {A = model.Condition}) (condition_lists conditions) ((conditions_at (condition_lists conditions) c.around ++ (condition_view c ∷ [])) ∷ [])
    ∙ ap (λ n. condition_counts conditions ++ n ∷ []) (length-more (conditions_at (condition_lists conditions) c.around) (condition_view c)
    ∙ ap (λ n. n + 1) (sym (count-get (condition_lists conditions) c.around))))

more-at-most : (n m : ℕ) (counts : List ℕ) → n ≤ m → AreAtMost n counts → AreAtMost m counts
more-at-most n m [] h a = tt
more-at-most n m (x ∷ counts) h a = (omega (arith, h, a.0), more-at-most n m counts h a.1)

-- no count is above the number of conditions
pub at-most-push : (n : ℕ) (counts : List ℕ) (m : ℕ) → AreAtMost n counts → m ≤ n + 1 → AreAtMost (n + 1) (counts ++ m ∷ [])
at-most-push n [] m a h = (h, tt)
at-most-push n (x ∷ counts) m a h = (omega (arith, a.0), at-most-push n counts m a.1 h)

get-at-most : (n : ℕ) (counts : List ℕ) (place : ℕ) → AreAtMost n counts → get_or counts place 0 ≤ n
get-at-most n [] place a = omega arith
get-at-most n (x ∷ counts) zero a = a.0
get-at-most n (x ∷ counts) (suc place) a = get-at-most n counts place a.1

pub count-at-most : (n : ℕ) (counts : List ℕ) (place : Option ℕ) → AreAtMost n counts → count_at counts place ≤ n
count-at-most n counts None a = omega arith
count-at-most n counts (Some place) a = get-at-most n counts place a

pub counts-next : (conditions : List Condition) (i : ℕ) (c : Condition) (counts new : List ℕ) (n : ℕ) → i < length conditions → c ≡ get_or conditions i c
    → counts ≡ condition_counts (take i conditions) → n ≡ count_at counts c.around → new ≡ counts ++ (n + 1) ∷ [] → new ≡ condition_counts (take (i + 1) conditions)
counts-next conditions i c counts new n h is are n-is new-is =
    new-is ∙ (ap (λ m. counts ++ (m + 1) ∷ []) n-is ∙ (ap (λ (cs : List ℕ). cs ++ (count_at cs c.around + 1) ∷ []) are
    ∙ sym (ap condition_counts (take_more conditions i c h ∙ ap (λ d. take i conditions ++ d ∷ []) (sym is)) ∙ counts-push (take i conditions) c)))

-- ---- lines

length-mapped : {X Y : Type 0} (f : X → Y) (xs : List X) → length (map f xs) ≡ length xs
length-mapped f [] = refl
length-mapped f (x ∷ xs) = ap suc (length-mapped f xs)

-- the line of a rule, with the conditions around it
line-kept : (sheet place : ℕ) (conditions : List Condition) (rule : StyleRule)
    → kept_line sheet place (count_at (condition_counts conditions) rule.around) rule ≡ rule_line sheet place (rule_view (condition_lists conditions) rule)
unfolding rule_line
line-kept sheet place conditions rule = rw (count-get (condition_lists conditions) rule.around, length-mapped declaration_view rule.declarations) refl

pub rules-next : (sheet place : ℕ) (conditions : List Condition) (rules : List StyleRule) (rule : StyleRule) → place < length rules → rule ≡ get_or rules place rule
    → rule_lines sheet place (map (rule_view (condition_lists conditions)) (drop place rules))
    ≡ kept_line sheet place (count_at (condition_counts conditions) rule.around) rule ++ rule_lines sheet (place + 1) (map (rule_view (condition_lists conditions)) (drop (place + 1) rules))
rules-next sheet place conditions rules rule h is =
    rw (drop-cons rules place rule h, ← is, add-one)
    (ap (λ line. line ++ rule_lines sheet (suc place) (map (rule_view (condition_lists conditions)) (drop (suc place) rules))) (sym (line-kept sheet place conditions rule)))

pub sheets-next : (sheets : List Sheet) (number : ℕ) (s : Sheet) → number < length sheets → s ≡ get_or sheets number s
    → lines_of_all number (kept_rules (drop number sheets)) ≡ rule_lines number 0 (sheet_view s) ++ lines_of_all (number + 1) (kept_rules (drop (number + 1) sheets))
sheets-next sheets number s h is = rw (drop-cons sheets number s h, ← is, add-one) refl

-- ---- what was appended so far, and what is to come

-- one part more was appended
pub told-next : (new old part rest all first : List ℕ) → new ≡ old ++ part → old ++ all ≡ first → all ≡ part ++ rest → new ++ rest ≡ first
told-next new old part rest all first e told is = rw (e) (append_assoc old part rest ∙ (ap (λ l. old ++ l) (sym is) ∙ told))
