-- Rules that are added to a book, while it is read.
use Rattle.std.proofs.Common.{◌≡◌, ◌∙◌, ap, ap₂, sym, refl, subst, ℕ, zero, suc, ◌+◌, ◌<◌, length, take, get_or, List, [], ◌∷◌, ◌++◌, Some, None, arith}
use Rattle.std.specs.Prelude.{Option}
use Rattle.std.proofs.Math.Numerals.{add-one}
use Rattle.std.proofs.lemmas.List.{append_assoc, append-nil, length-append}
use Rattle.cascade_model.specs.declared.origin.Origin.{Origin}
use Rattle.cascade_model.specs.Books.{BookRule, in_front_if}
use Rattle.css_rules.specs.declared.sheet.StyleRule.{StyleRule}
use Rattle.selectors.specs.declared.rules.Rule.{Rule}
use Rattle.cascade_core.specs.Numbers.{AreNumbered}
use Rattle.cascade_core.specs.Views.{rule_view, rules_view}
use Rattle.cascade_core.specs.declared.draft.Draft.{Draft}
use Rattle.cascade_core.specs.declared.rule_body.RuleBody.{RuleBody}
use Rattle.cascade_core.specs.inner.Drafts.{Adds, IsDraft, draft_view, book_rule_of, book_rules_of}
use Rattle.cascade_core.specs.inner.Media.{MediaPlaces}
use Rattle.cascade_core.proofs.Numbers.{numbered-more}
use Rattle.cascade_core.proofs.RulesView.{view-more}

-- a rule and its body were appended
pub rule-added : (old new : Draft) (r : Rule) (body : RuleBody) → IsDraft old
    → r.number ≡ length old.rules → new.rules ≡ old.rules ++ r ∷ []
    → new.bodies ≡ old.bodies ++ body ∷ [] → Adds old new (rule_view r body ∷ []) 1
rule-added old new r body is number rules bodies =
    let count : length new.rules ≡ length old.rules + 1 =
    ap length rules ∙ length-append old.rules (r ∷ []) in
    let body_count : length new.bodies ≡ length old.bodies + 1 =
    ap length bodies ∙ length-append old.bodies (body ∷ []) in
    record {
      sound = record {
        numbered = subst AreNumbered (sym rules) (numbered-more old.rules r is.numbered number);
        paired = omega (arith, count, body_count, is.paired);
      };
      book = ap₂ rules_view rules bodies ∙ view-more old.rules old.bodies r body is.paired;
      count = omega (arith, count);
    }

-- nothing was
pub none-added : (old : Draft) (most : ℕ) → IsDraft old → Adds old old [] most
none-added old most is = record {
  sound = is;
  book = sym (append-nil (draft_view old));
  count = omega arith;
}

-- one after another
pub both-added : (old between new : Draft) (these those : List BookRule) (few more : ℕ)
    → Adds old between these few → Adds between new those more
    → Adds old new (these ++ those) (few + more)
both-added old between new these those few more a b = record {
  sound = b.sound;
  book =
      b.book ∙ (ap (λ seen. seen ++ those) a.book ∙ append_assoc (draft_view old) these those);
  count = omega (arith, a.count, b.count);
}

-- ---- the rules of a sheet

in-front : (o : Option BookRule) (rules : List BookRule) → in_front_if o rules ≡ in_front_if o [] ++ rules
in-front None rules = refl
in-front (Some r) rules = refl

-- the rules up to one and then that one, which was added
pub one-more : (old between new : Draft) (origin : Origin) (places : MediaPlaces) (rules : List StyleRule) (i : ℕ) (r : StyleRule)
    → i < length rules → r ≡ get_or rules i r
    → Adds old between (book_rules_of origin places (take i rules)) i
    → Adds between new (in_front_if (book_rule_of origin places r) []) 1
    → Adds old new (book_rules_of origin places (take (i + 1) rules)) (i + 1)
one-more old between new origin places rules i r within is a b =
    subst (λ added. Adds old new added (i + 1)) (joined rules i r within is ∙ ap (λ k. book_rules_of origin places (take k rules)) (sym (add-one i)))
    (both-added old between new (book_rules_of origin places (take i rules)) (in_front_if (book_rule_of origin places r) []) i 1 a b)
  where
    joined : (rules : List StyleRule) (i : ℕ) (r : StyleRule) → i < length rules → r ≡ get_or rules i r
        → book_rules_of origin places (take i rules) ++ in_front_if (book_rule_of origin places r) []
        ≡ book_rules_of origin places (take (suc i) rules)
    joined [] i r within is = absurd (omega (arith, within))
    joined (q ∷ rules) zero r within is = ap (λ x. in_front_if (book_rule_of origin places x) []) is
    joined (q ∷ rules) (suc i) r within is =
        ap (λ seen. seen ++ in_front_if (book_rule_of origin places r) []) (in-front (book_rule_of origin places q) (book_rules_of origin places (take i rules)))
        ∙ (append_assoc (in_front_if (book_rule_of origin places q) []) (book_rules_of origin places (take i rules)) (in_front_if (book_rule_of origin places r) [])
        ∙ (ap (λ seen. in_front_if (book_rule_of origin places q) [] ++ seen) (joined rules i r (omega (arith, within)) is)
        ∙ sym (in-front (book_rule_of origin places q) (book_rules_of origin places (take (suc i) rules)))))
