-- Numbers that rise.
use Rattle.std.proofs.Common.{◌≡◌, ◌<◌, ◌++◌, List, [], ◌∷◌, Result, Ok, Err, OnErr, OnOk, sym, subst}
use Rattle.std.proofs.lemmas.List.Quantifiers.{all_pairs_push}
use Rattle.selectors.specs.declared.rules.Rule.{Rule}
use Rattle.selectors.specs.Rules.{AreAscending, IsAfterAll}

-- after a push that may have failed
pub ascending-after : {E : Type 0} (pushed : Result Unit E) (rules rules' : List Rule) (r : Rule) → AreAscending rules → IsAfterAll r.number rules
    → OnOk pushed (rules' ≡ rules ++ r ∷ []) → OnErr pushed (rules' ≡ rules) → AreAscending rules'
ascending-after (Ok u) rules rules' r h later ok err =
    subst AreAscending (sym ok) (all_pairs_push (λ (q s : Rule). q.number < s.number) rules r h later)
ascending-after (Err e) rules rules' r h later ok err = subst AreAscending (sym err) h
