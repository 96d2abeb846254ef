-- The rules that match, by their numbers and as rules of the book.
use Rattle.std.proofs.Common.{◌≡◌, ◌∙◌, ap, ap₂, sym, refl, subst, ℕ, suc, ◌+◌, ◌<◌, length, drop, get_or, List, [], ◌∷◌, map, Some, None, arith}
use Rattle.std.specs.Prelude.{Option}
use Rattle.std.specs.List.{All, slice_get}
use Rattle.std.proofs.lemmas.List.{length-map}
use Rattle.std.proofs.lemmas.List.Elements.{All-cons}
use Rattle.page_model.specs.Document.{Node}
use Rattle.page_model.specs.declared.viewport.Viewport.{Viewport}
use Rattle.conditions_model.specs.declared.tri.Tri.{Tri}
use Rattle.selectors_model.specs.Selectors.{SelectorList}
use Rattle.selectors_model.specs.declared.spec.Spec.{Spec}
use Rattle.selectors_model.specs.Specificity.{matching_specificity}
use Rattle.selectors.specs.Rules.{matched_rules, with_match}
use Rattle.selectors.specs.Views.{list_view}
use Rattle.selectors.specs.declared.rules.Rule.{Rule}
use Rattle.cascade_model.specs.Answers.{answers_to}
use Rattle.cascade_model.specs.Applied as model
use Rattle.cascade_model.specs.Books.{BookRule}
use Rattle.cascade_model.specs.DocumentStyles.{applied_to, inline_declarations}
use Rattle.cascade_model.specs.Kept.{Kept}
use Rattle.cascade_core.specs.Books.{AreInBook, AreRulesOf, rules_at, with_specificity}

-- the same selectors
abbrev Same : List Rule → List BookRule → Type 0
Same rules book = map (λ (r : Rule). list_view r.list) rules ≡ map (λ (b : BookRule). b.selectors) book

same-first : (r : Rule) (rules : List Rule) (b : BookRule) (book : List BookRule) → Same (r ∷ rules) (b ∷ book)
    → list_view r.list ≡ b.selectors
same-first r rules b book same = ap (λ (l : List SelectorList). get_or l 0 b.selectors) same

same-rest : (r : Rule) (rules : List Rule) (b : BookRule) (book : List BookRule) → Same (r ∷ rules) (b ∷ book)
    → Same rules book
same-rest r rules b book same = ap (λ (l : List SelectorList). drop 1 l) same

as-many : (rules : List Rule) (book : List BookRule) → Same rules book → length rules ≡ length book
as-many rules book same =
    sym (length-map rules (λ (r : Rule). list_view r.list))
    ∙ (ap length same ∙ length-map book (λ (b : BookRule). b.selectors))

-- a book has as many rules as there are numbers and selectors
pub lengths-are : (rules : List Rule) (book : List BookRule) → AreRulesOf rules book → length rules ≡ length book
lengths-are rules book are = as-many rules book are.selectors

-- ---- the rules

first-matched : (whole : List BookRule) (n : ℕ) (b : BookRule) (spec : Option Spec) (pairs : List (ℕ × Spec))
    (matched : List model.MatchedRule) → slice_get whole n ≡ Some b → rules_at whole pairs ≡ matched
    → rules_at whole (with_match n spec pairs) ≡ model.in_front_of_matched b spec matched
first-matched whole n b None pairs matched there behind = behind
first-matched whole n b (Some spec) pairs matched there behind =
    ap₂ (λ r m. with_specificity r spec m) there behind

-- of the rules from one place on
matched-from : (root : Node) (i : ℕ) (whole : List BookRule) (k : ℕ) (rules : List Rule) (book : List BookRule)
    → ((j : ℕ) (b : BookRule) → slice_get book j ≡ Some b → slice_get whole (k + j) ≡ Some b)
    → ((j : ℕ) (d : Rule) → j < length rules → (get_or rules j d).number ≡ k + j) → Same rules book
    → rules_at whole (matched_rules root rules i) ≡ model.matched_rules root i book
matched-from root i whole k [] [] there numbered same = refl
matched-from root i whole k [] (b ∷ book) there numbered same =
    absurd (omega (arith, as-many [] (b ∷ book) same))
matched-from root i whole k (r ∷ rules) [] there numbered same =
    absurd (omega (arith, as-many (r ∷ rules) [] same))
matched-from root i whole k (r ∷ rules) (b ∷ book) there numbered same =
    let number : k + 0 ≡ r.number = sym (numbered 0 r (omega arith)) in
    let further : (j : ℕ) → k + suc j ≡ suc k + j = λ j. omega arith in
    let behind = matched-from root i whole (suc k) rules book
    (λ j c is. subst (λ n. slice_get whole n ≡ Some c) (further j) (there (suc j) c is))
    (λ j d within. numbered (suc j) d (omega (arith, within)) ∙ further j)
    (same-rest r rules b book same) in
    first-matched whole r.number b (matching_specificity root (list_view r.list) i) (matched_rules root rules i)
    (model.matched_rules root i book) (subst (λ n. slice_get whole n ≡ Some b) number (there 0 b refl)) behind
    ∙ ap (λ l. model.in_front_of_matched b (matching_specificity root l i) (model.matched_rules root i book))
    (same-first r rules b book same)

-- what the numbers of a match stand for are the rules of the book that match
pub matched-are : (root : Node) (i : ℕ) (rules : List Rule) (book : List BookRule) → AreRulesOf rules book
    → rules_at book (matched_rules root rules i) ≡ model.matched_rules root i book
matched-are root i rules book are =
    let from-first : (j : ℕ) → j ≡ 0 + j = λ j. omega arith in
    matched-from root i book 0 rules book (λ j b is. subst (λ n. slice_get book n ≡ Some b) (from-first j) is)
    (λ j d within. are.numbered j d within ∙ from-first j) are.selectors

-- ---- the numbers

first-in : (n count : ℕ) (spec : Option Spec) (pairs : List (ℕ × Spec)) → n < count
    → All (λ (pair : ℕ × Spec). pair.0 < count) pairs
    → All (λ (pair : ℕ × Spec). pair.0 < count) (with_match n spec pairs)
first-in n count None pairs within behind = behind
first-in n count (Some spec) pairs within behind =
    All-cons (λ (pair : ℕ × Spec). pair.0 < count) (n, spec) pairs within behind

numbers-below : (root : Node) (i : ℕ) (count : ℕ) (rules : List Rule)
    → ((j : ℕ) (d : Rule) → j < length rules → (get_or rules j d).number < count)
    → All (λ (pair : ℕ × Spec). pair.0 < count) (matched_rules root rules i)
numbers-below root i count [] below = λ k d within. absurd (omega (arith, within))
numbers-below root i count (r ∷ rules) below =
    first-in r.number count (matching_specificity root (list_view r.list) i) (matched_rules root rules i)
    (below 0 r (omega arith))
    (numbers-below root i count rules (λ j d within. below (suc j) d (omega (arith, within))))

-- each number of a match is in the book
pub numbers-are : (root : Node) (i : ℕ) (rules : List Rule) (book : List BookRule) → AreRulesOf rules book
    → AreInBook (matched_rules root rules i) book
numbers-are root i rules book are =
    numbers-below root i (length book) rules
    (λ j d within. omega (arith, are.numbered j d within, within, lengths-are rules book are))

-- ---- the declarations

-- those that apply to an element
pub applied-to : (v : Viewport) (root : Node) (i : ℕ) (rules : List Rule) (book : List BookRule)
    (pairs : List (ℕ × Spec)) (answers : List Tri) (inline : List Kept) → AreRulesOf rules book
    → pairs ≡ matched_rules root rules i → answers ≡ answers_to v (rules_at book pairs)
    → inline ≡ inline_declarations root i
    → model.applied_of (rules_at book pairs) answers inline ≡ applied_to book v root i
applied-to v root i rules book pairs answers inline are matched answered declared =
    let here : rules_at book pairs ≡ model.matched_rules root i book =
    ap (rules_at book) matched ∙ matched-are root i rules book are in
    ap₂ (λ ms ts. model.applied_of ms ts inline) here (answered ∙ ap (answers_to v) here)
    ∙ ap (model.applied_of (model.matched_rules root i book) (answers_to v (model.matched_rules root i book))) declared
