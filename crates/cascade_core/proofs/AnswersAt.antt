-- Answers to the conditions of rules, one after another.
use Rattle.std.proofs.Common.{◌≡◌, ◌∙◌, ap, ap₂, sym, subst, refl, ℕ, zero, suc, ◌<◌, ◌≤◌, length, drop, get_or, List, [], ◌∷◌, ◌++◌, arith}
use Rattle.std.specs.Prelude.{Some, None}
use Rattle.std.specs.List.{slice_get}
use Rattle.std.proofs.lemmas.List.{append_assoc, append-nil, drop_all, length-append, length-map}
use Rattle.std.proofs.lemmas.Option.{get_or_from_slice_get}
use Rattle.page_model.specs.declared.viewport.Viewport.{Viewport}
use Rattle.conditions_model.specs.declared.tri.Tri.{Tri}
use Rattle.selectors.specs.declared.rules.Rule.{Rule}
use Rattle.selectors_model.specs.declared.spec.Spec.{Spec}
use Rattle.cascade_model.specs.Answers as model
use Rattle.cascade_core.specs.Books.{AreInBook, rules_at, with_specificity}
use Rattle.cascade_core.specs.Views.{rule_view, rules_view}
use Rattle.cascade_core.specs.declared.rule_body.RuleBody.{RuleBody}
use Rattle.cascade_core.specs.inner.Answers.{answer_at, answer_of_body, answers_at}
use Rattle.cascade_core.proofs.Matches.{found, view-length}

pub some-within : (pairs : List (ℕ × Spec)) (n : ℕ) (pair : ℕ × Spec) → slice_get pairs n ≡ Some pair
    → n < length pairs
some-within [] n pair some = absurd (cc)
some-within (p ∷ pairs) zero pair some = omega arith
some-within (p ∷ pairs) (suc n) pair some = let behind = some-within pairs n pair some in omega (arith, behind)

-- a rule of a match has a body
pub in-bodies : (rules : List Rule) (bodies : List RuleBody) (pairs : List (ℕ × Spec)) (n : ℕ) (pair : ℕ × Spec)
    → length rules ≡ length bodies → AreInBook pairs (rules_view rules bodies) → slice_get pairs n ≡ Some pair
    → pair.0 < length bodies
in-bodies rules bodies pairs n pair paired in_book there =
    let within : n < length pairs = some-within pairs n pair there in
    let is : get_or pairs n pair ≡ pair = get_or_from_slice_get pairs n pair pair there in
    subst (λ (q : ℕ × Spec). q.0 < length bodies) is
    (subst (λ k. (get_or pairs n pair).0 < k) (view-length rules bodies paired) (in_book n pair within))

none-past : (pairs : List (ℕ × Spec)) (n : ℕ) → slice_get pairs n ≡ None → length pairs ≤ n
none-past [] n none = omega arith
none-past (p ∷ pairs) zero none = absurd (cc)
none-past (p ∷ pairs) (suc n) none = let behind = none-past pairs n none in omega (arith, behind)

some-same : (p q : ℕ × Spec) → Some p ≡ Some q → p ≡ q
some-same p q e = cc

answers-from : (v : Viewport) (bodies : List RuleBody) (pairs : List (ℕ × Spec)) (n : ℕ) (pair : ℕ × Spec)
    → slice_get pairs n ≡ Some pair
    → answers_at v bodies (drop n pairs)
    ≡ answer_at v bodies pair.0 ∷ answers_at v bodies (drop (suc n) pairs)
answers-from v bodies [] n pair some = absurd (cc)
answers-from v bodies (p ∷ pairs) zero pair some =
    ap (λ (q : ℕ × Spec). answer_at v bodies q.0 ∷ answers_at v bodies pairs) (some-same p pair some)
answers-from v bodies (p ∷ pairs) (suc n) pair some = answers-from v bodies pairs n pair some

pub count-more : (answers new : List Tri) (answer : Tri) → new ≡ answers ++ answer ∷ []
    → length new ≡ suc (length answers)
count-more answers new answer is = ap length is ∙ (length-append answers (answer ∷ []) ∙ omega arith)

-- one answer more
pub answers-more : (v : Viewport) (bodies : List RuleBody) (pairs : List (ℕ × Spec)) (answers new : List Tri)
    (pair : ℕ × Spec) (answer : Tri) → slice_get pairs (length answers) ≡ Some pair
    → answer ≡ answer_at v bodies pair.0 → new ≡ answers ++ answer ∷ []
    → answers ++ answers_at v bodies (drop (length answers) pairs) ≡ answers_at v bodies pairs
    → new ++ answers_at v bodies (drop (length new) pairs) ≡ answers_at v bodies pairs
answers-more v bodies pairs answers new pair answer some answered is so-far =
    ap₂ (λ ts n. ts ++ answers_at v bodies (drop n pairs)) is (count-more answers new answer is)
    ∙ (append_assoc answers (answer ∷ []) (answers_at v bodies (drop (suc (length answers)) pairs))
    ∙ (ap (λ a. answers ++ a ∷ answers_at v bodies (drop (suc (length answers)) pairs)) answered
    ∙ (ap (λ l. answers ++ l) (sym (answers-from v bodies pairs (length answers) pair some)) ∙ so-far)))

-- no pair is left
pub answers-all : (v : Viewport) (bodies : List RuleBody) (pairs : List (ℕ × Spec)) (answers : List Tri)
    → slice_get pairs (length answers) ≡ None
    → answers ++ answers_at v bodies (drop (length answers) pairs) ≡ answers_at v bodies pairs
    → answers ≡ answers_at v bodies pairs
answers-all v bodies pairs answers none so-far =
    sym (append-nil answers)
    ∙ (ap (λ l. answers ++ answers_at v bodies l)
    (sym (drop_all (length answers) pairs (none-past pairs (length answers) none))) ∙ so-far)

pub answers-count : (v : Viewport) (bodies : List RuleBody) (pairs : List (ℕ × Spec))
    → length (answers_at v bodies pairs) ≡ length pairs
answers-count v bodies pairs = length-map pairs (λ pair. answer_at v bodies pair.0)

-- ---- by their numbers and as rules of the book

pub answers-are : (v : Viewport) (rules : List Rule) (bodies : List RuleBody) (pairs : List (ℕ × Spec))
    → length rules ≡ length bodies → AreInBook pairs (rules_view rules bodies)
    → answers_at v bodies pairs ≡ model.answers_to v (rules_at (rules_view rules bodies) pairs)
answers-are v rules bodies [] paired in_book = refl
answers-are v rules bodies (pair ∷ pairs) paired in_book =
    let here = found rules bodies pair.0 paired
    (omega (arith, view-length rules bodies paired, in_book 0 pair (omega arith))) in
    let behind = answers-are v rules bodies pairs paired
    (λ k d within. in_book (suc k) d (omega (arith, within))) in
    first here.rule here.body here.in_book here.in_bodies behind
  where
    first : (r : Rule) (body : RuleBody)
        → slice_get (rules_view rules bodies) pair.0 ≡ Some (rule_view r body)
        → slice_get bodies pair.0 ≡ Some body
        → answers_at v bodies pairs ≡ model.answers_to v (rules_at (rules_view rules bodies) pairs)
        → answers_at v bodies (pair ∷ pairs)
        ≡ model.answers_to v (with_specificity (slice_get (rules_view rules bodies) pair.0) pair.1
        (rules_at (rules_view rules bodies) pairs))
    first r body a b behind =
        rw (a, b) (ap (λ (l : List Tri). answer_of_body v (Some body) ∷ l) behind)
