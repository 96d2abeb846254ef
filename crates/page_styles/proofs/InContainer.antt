-- From a place, the conditions outwards.
use Rattle.std.proofs.Common.{◌≡◌, ◌∙◌, ap, sym, refl, inl, inr, ℕ, zero, suc, ◌+◌, ◌<◌, ◌≤◌, List, [], ◌∷◌, ◌++◌, Option, Some, Bool, true, false, length, fold, take, get_or, ◌||◌, arith}
use Rattle.std.proofs.Math.Seq.{get_or-append_seam, take-suc}
use Rattle.std.proofs.lemmas.Bool.{cases_lt}
use Rattle.std.proofs.lemmas.List.{get_or_append_left, length-append, length-take-le}
use Rattle.std.proofs.lemmas.List.Sums.{fold_push}
use Rattle.css_rules.specs.Views.{conditions_at, condition_view, condition_lists, with_condition}
use Rattle.css_rules.specs.declared.sheet.Condition.{Condition}
use Rattle.request_model.specs.UnbuiltStyles.{any_container, is_container}
use Rattle.rules_model.specs.Rules as rules

-- with one condition more
one-more : (cs : List Condition) (n : ℕ) (d : Condition) → n < length cs
    → condition_lists (take (suc n) cs) ≡ with_condition (condition_lists (take n cs)) (get_or cs n d)
one-more cs n d within =
    ap condition_lists (take-suc cs n d within) ∙ fold_push with_condition [] (take n cs) (get_or cs n d)

lists-length : (lists : List (List rules.Condition)) (cs : List Condition)
    → length (fold with_condition lists cs) ≡ length lists + length cs
lists-length lists [] = omega arith
lists-length lists (c ∷ cs) =
    let one : length (with_condition lists c) ≡ length lists + 1 =
    length-append lists ((conditions_at lists c.around ++ (condition_view c ∷ [])) ∷ []) in
    omega (arith, lists-length (with_condition lists c) cs, one)

length-lists : (cs : List Condition) (n : ℕ) → n ≤ length cs → length (condition_lists (take n cs)) ≡ n
length-lists cs n within = omega (arith, lists-length [] (take n cs), length-take-le n cs within)

-- those in a place are those around its condition, and then itself
at-place : (cs : List Condition) (p n : ℕ) (c : Condition) → p < n → n ≤ length cs → c ≡ get_or cs p c
    → get_or (condition_lists (take n cs)) p []
    ≡ conditions_at (condition_lists (take p cs)) c.around ++ (condition_view c ∷ [])
at-place cs p zero c less within is = absurd (omega (arith, less))
at-place cs p (suc n) c less within is =
    let lists : List (List rules.Condition) = condition_lists (take n cs) in
    let last : Condition = get_or cs n c in
    let list : List rules.Condition = conditions_at lists last.around ++ (condition_view last ∷ []) in
    let count : length lists ≡ n = length-lists cs n (omega (arith, within)) in
    let all : get_or (condition_lists (take (suc n) cs)) p [] ≡ get_or (lists ++ list ∷ []) p [] =
    ap (λ ls. get_or ls p []) (one-more cs n c (omega (arith, within))) in
    elim (cases_lt p n) [
      | inl before ↦ all
          ∙ (get_or_append_left lists (list ∷ []) [] p (omega (arith, before, count))
          ∙ at-place cs p n c before (omega (arith, within)) is)
      | inr past ↦
          let here : p ≡ n = omega (arith, less, past) in
          let same : last ≡ c = ap (λ k. get_or cs k c) (sym here) ∙ sym is in
          all
          ∙ (ap (λ k. get_or (lists ++ list ∷ []) k []) (here ∙ sym count)
          ∙ (get_or-append_seam lists list [] []
          ∙ (ap (λ (d : Condition). conditions_at lists d.around ++ (condition_view d ∷ [])) same
          ∙ ap (λ k. conditions_at (condition_lists (take k cs)) c.around ++ (condition_view c ∷ [])) (sym here))))
    ]

exchanged : (a b c : Bool) → (a || (b || c)) ≡ (b || (a || c))
exchanged true true c = refl
exchanged true false c = refl
exchanged false true c = refl
exchanged false false c = refl

any-last : (ds : List rules.Condition) (d : rules.Condition)
    → any_container (ds ++ d ∷ []) ≡ (is_container d.at_rule || any_container ds)
any-last [] d = refl
any-last (c ∷ ds) d =
    ap (λ b. is_container c.at_rule || b) (any-last ds d)
    ∙ exchanged (is_container c.at_rule) (is_container d.at_rule) (any_container ds)

get_or-past : (lists : List (List rules.Condition)) (p : ℕ) → length lists ≤ p → get_or lists p [] ≡ []
get_or-past [] p past = refl
get_or-past (l ∷ lists) zero past = absurd (omega (arith, past))
get_or-past (l ∷ lists) (suc p) past = get_or-past lists p (omega (arith, past))

-- the answer at a place, where `answer` is that for a place among the first conditions
abbrev IsAnswer : List Condition → ℕ → Option ℕ → Bool → Type 0
IsAnswer cs n place answer = any_container (conditions_at (condition_lists (take n cs)) place) ≡ answer

-- past the end there is none
pub past-all : (cs : List Condition) (n p : ℕ) (next : Option ℕ) (answer : Bool) → next ≡ Some p → n ≤ p
    → n ≤ length cs → IsAnswer cs n next answer → false ≡ answer
past-all cs n p next answer is past within same =
    sym (ap any_container (get_or-past (condition_lists (take n cs)) p (omega (arith, past, length-lists cs n within))))
    ∙ (ap (λ o. any_container (conditions_at (condition_lists (take n cs)) o)) (sym is) ∙ same)

-- the condition in the place is of a container, or one of those around it
outwards : (cs : List Condition) (n p : ℕ) (next : Option ℕ) (answer : Bool) (c : Condition) → next ≡ Some p
    → p < n → n ≤ length cs → c ≡ get_or cs p c → IsAnswer cs n next answer
    → (is_container c.at_rule || any_container (conditions_at (condition_lists (take p cs)) c.around)) ≡ answer
outwards cs n p next answer c is less within there same =
    sym (any-last (conditions_at (condition_lists (take p cs)) c.around) (condition_view c))
    ∙ (sym (ap any_container (at-place cs p n c less within there))
    ∙ (ap (λ o. any_container (conditions_at (condition_lists (take n cs)) o)) (sym is) ∙ same))

pub of-container : (cs : List Condition) (n p : ℕ) (next : Option ℕ) (answer : Bool) (c : Condition)
    → next ≡ Some p → p < n → n ≤ length cs → c ≡ get_or cs p c → IsAnswer cs n next answer
    → is_container c.at_rule ≡ true → true ≡ answer
of-container cs n p next answer c is less within there same holds =
    ap (λ b. b || any_container (conditions_at (condition_lists (take p cs)) c.around)) (sym holds)
    ∙ outwards cs n p next answer c is less within there same

pub of-those-around : (cs : List Condition) (n p : ℕ) (next : Option ℕ) (answer : Bool) (c : Condition)
    → next ≡ Some p → p < n → n ≤ length cs → c ≡ get_or cs p c → IsAnswer cs n next answer
    → is_container c.at_rule ≡ false → IsAnswer cs p c.around answer
of-those-around cs n p next answer c is less within there same fails =
    ap (λ b. b || any_container (conditions_at (condition_lists (take p cs)) c.around)) (sym fails)
    ∙ outwards cs n p next answer c is less within there same
