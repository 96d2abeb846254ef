-- The declarations of rules that match, one rule after another.
use Rattle.std.proofs.Common.{◌≡◌, ap, ap₂, refl, ℕ, zero, suc, ◌+◌, ◌<◌, length, drop, get_or, List, [], ◌∷◌, ◌++◌, arith}
use Rattle.std.specs.Prelude.{Some}
use Rattle.std.specs.List.{slice_get}
use Rattle.std.proofs.lemmas.Option.{slice_get_read}
use Rattle.conditions_model.specs.declared.tri.Tri.{Tri}
use Rattle.conditions_model.specs.declared.tri.Tri.TheVariants.{Yes, No, Unknown}
use Rattle.selectors.specs.declared.rules.Rule.{Rule}
use Rattle.selectors_model.specs.declared.spec.Spec.{Spec}
use Rattle.cascade_model.specs.Applied.{answered, applied_in_rules}
use Rattle.cascade_core.specs.AppliedViews.{all_placed}
use Rattle.cascade_core.specs.Books.{AreInBook, rules_at, with_specificity}
use Rattle.cascade_core.specs.Views.{rule_view, rules_view, all_kept_view}
use Rattle.cascade_core.specs.declared.rule_body.RuleBody.{RuleBody}
use Rattle.cascade_core.specs.inner.Matches.{applied_at, applied_at_all, applied_of_body, place_of}
use Rattle.cascade_core.proofs.KeptDeclarations.{from-here}

-- a rule of a book, in a place
pub record FoundRule (rules : List Rule) (bodies : List RuleBody) (n : ℕ) : Type 0 where
  pub rule : Rule
  pub body : RuleBody
  pub in_book : slice_get (rules_view rules bodies) n ≡ Some (rule_view rule body)
  pub in_bodies : slice_get bodies n ≡ Some body

pub found : (rules : List Rule) (bodies : List RuleBody) (n : ℕ) → length rules ≡ length bodies
    → n < length bodies → FoundRule rules bodies n
found [] [] n paired within = absurd (omega (arith, within))
found [] (b ∷ bodies) n paired within = absurd (omega (arith, paired))
found (r ∷ rules) [] n paired within = absurd (omega (arith, within))
found (r ∷ rules) (b ∷ bodies) zero paired within =
    record { rule = r; body = b; in_book = refl; in_bodies = refl }
found (r ∷ rules) (b ∷ bodies) (suc n) paired within =
    let behind = found rules bodies n (omega (arith, paired)) (omega (arith, within)) in
    record { rule = behind.rule; body = behind.body; in_book = behind.in_book; in_bodies = behind.in_bodies }

pub view-length : (rules : List Rule) (bodies : List RuleBody) → length rules ≡ length bodies
    → length (rules_view rules bodies) ≡ length bodies
view-length [] [] paired = refl
view-length [] (b ∷ bodies) paired = absurd (omega (arith, paired))
view-length (r ∷ rules) [] paired = absurd (omega (arith, paired))
view-length (r ∷ rules) (b ∷ bodies) paired = ap suc (view-length rules bodies (omega (arith, paired)))

pub applied-are : (rules : List Rule) (bodies : List RuleBody) (pairs : List (ℕ × Spec)) (answers : List Tri)
    → length rules ≡ length bodies → AreInBook pairs (rules_view rules bodies)
    → applied_in_rules (answered (rules_at (rules_view rules bodies) pairs) answers)
    ≡ applied_at_all bodies pairs answers
applied-are rules bodies [] answers paired in_book = refl
applied-are rules bodies (pair ∷ pairs) answers paired in_book =
    let here = found rules bodies pair.0 paired
    (omega (arith, view-length rules bodies paired, in_book 0 pair (omega arith))) in
    let behind = λ (more : List Tri). applied-are rules bodies pairs more paired
    (λ k d within. in_book (suc k) d (omega (arith, within))) in
    first here.rule here.body pair.1 answers here.in_book here.in_bodies behind
  where
    first : (r : Rule) (body : RuleBody) (spec : Spec) (answers : List Tri)
        → slice_get (rules_view rules bodies) pair.0 ≡ Some (rule_view r body)
        → slice_get bodies pair.0 ≡ Some body
        → ((more : List Tri) → applied_in_rules (answered (rules_at (rules_view rules bodies) pairs) more)
        ≡ applied_at_all bodies pairs more)
        → applied_in_rules (answered (with_specificity (slice_get (rules_view rules bodies) pair.0) spec
        (rules_at (rules_view rules bodies) pairs)) answers)
        ≡ applied_at_all bodies ((pair.0, spec) ∷ pairs) answers
    first r body spec [] a b behind = rw a refl
    first r body spec (Yes ∷ answers) a b behind =
        rw (a, b) (ap (λ l. all_placed (place_of body spec) (all_kept_view body.declarations) ++ l) (behind answers))
    first r body spec (No ∷ answers) a b behind = rw (a, b) (behind answers)
    first r body spec (Unknown ∷ answers) a b behind = rw (a, b) (behind answers)

-- from one place on
pub applied-from : (bodies : List RuleBody) (pairs : List (ℕ × Spec)) (answers : List Tri) (i : ℕ)
    (pair : ℕ × Spec) (answer : Tri) → i < length pairs → pair ≡ get_or pairs i pair
    → i < length answers → answer ≡ get_or answers i answer
    → applied_at_all bodies (drop i pairs) (drop i answers)
    ≡ applied_at bodies pair.0 pair.1 answer
    ++ applied_at_all bodies (drop (i + 1) pairs) (drop (i + 1) answers)
applied-from bodies pairs answers i pair answer in-pairs pair-is in-answers answer-is =
    ap₂ (applied_at_all bodies) (from-here pairs i pair in-pairs pair-is)
    (from-here answers i answer in-answers answer-is)

-- of one whose answer is Yes
pub applied_yes : (bodies : List RuleBody) (n : ℕ) (spec : Spec) (answer : Tri) (body : RuleBody)
    → answer ≡ Yes → n < length bodies → body ≡ get_or bodies n body
    → applied_at bodies n spec answer ≡ all_placed (place_of body spec) (all_kept_view body.declarations)
applied_yes bodies n spec answer body answered within is =
    ap₂ (λ o a. applied_of_body o spec a) (slice_get_read bodies (length bodies) n body refl within is) answered

-- without answers
pub nothing-applied : (bodies : List RuleBody) (pairs : List (ℕ × Spec)) → applied_at_all bodies pairs [] ≡ []
nothing-applied bodies [] = refl
nothing-applied bodies (pair ∷ pairs) = refl
