-- Numbers of rules.
use Rattle.std.proofs.Common.{◌≡◌, ◌∙◌, ap, sym, length, get_or, List, [], ◌∷◌, ◌++◌, inl, inr, arith}
use Rattle.std.proofs.Math.Seq.{get_or-append_seam}
use Rattle.std.proofs.lemmas.Bool.{cases_lt}
use Rattle.std.proofs.lemmas.List.{get_or_append_left, length-append}
use Rattle.selectors.specs.declared.rules.Rule.{Rule}
use Rattle.selectors.specs.Rules.{IsAfterAll}
use Rattle.cascade_core.specs.Numbers.{AreNumbered}

-- with one more, which has the next number
pub numbered-more : (rules : List Rule) (r : Rule) → AreNumbered rules → r.number ≡ length rules
    → AreNumbered (rules ++ r ∷ [])
numbered-more rules r are is k d within = elim (cases_lt k (length rules)) [
  | inl before ↦ ap (λ (q : Rule). q.number) (get_or_append_left rules (r ∷ []) d k before) ∙ are k d before
  | inr past ↦
      let last : k ≡ length rules = omega (arith, past, within, length-append rules (r ∷ [])) in
      ap (λ j. (get_or (rules ++ r ∷ []) j d).number) last
      ∙ (ap (λ (q : Rule). q.number) (get_or-append_seam rules r [] d) ∙ (is ∙ sym last))
]

-- the next number is greater than all
pub after-numbered : (rules : List Rule) → AreNumbered rules → IsAfterAll (length rules) rules
after-numbered rules are k d within = omega (arith, are k d within, within)
