-- Which rules of the definitions rules and their bodies are.
use Rattle.std.proofs.Common.{◌≡◌, ap, refl, length, List, [], ◌∷◌, ◌++◌, map, arith}
use Rattle.cascade_core.specs.Views.{rule_view, rules_view}
use Rattle.cascade_core.specs.declared.rule_body.RuleBody.{RuleBody}
use Rattle.selectors.specs.Views.{list_view}
use Rattle.selectors.specs.declared.rules.Rule.{Rule}

-- with one more
pub view-more : (rules : List Rule) (bodies : List RuleBody) (r : Rule) (body : RuleBody)
    → length rules ≡ length bodies
    → rules_view (rules ++ r ∷ []) (bodies ++ body ∷ [])
    ≡ rules_view rules bodies ++ rule_view r body ∷ []
view-more [] [] r body paired = refl
view-more [] (b ∷ bodies) r body paired = absurd (omega (arith, paired))
view-more (q ∷ rules) [] r body paired = absurd (omega (arith, paired))
view-more (q ∷ rules) (b ∷ bodies) r body paired =
    ap (λ seen. rule_view q b ∷ seen) (view-more rules bodies r body (omega (arith, paired)))

-- the selectors of each
pub selectors-are : (rules : List Rule) (bodies : List RuleBody) → length rules ≡ length bodies
    → map (λ r. list_view r.list) rules ≡ map (λ r. r.selectors) (rules_view rules bodies)
selectors-are [] [] paired = refl
selectors-are [] (b ∷ bodies) paired = absurd (omega (arith, paired))
selectors-are (q ∷ rules) [] paired = absurd (omega (arith, paired))
selectors-are (q ∷ rules) (b ∷ bodies) paired =
    ap (λ lists. list_view q.list ∷ lists) (selectors-are rules bodies (omega (arith, paired)))
