-- Chains of siblings that are cut and joined.
use Rattle.std.proofs.Common.{List, None, Option, Some, [], ap, inl, inr, option_map, refl, subst, sym, ℕ, ◌++◌, ◌∙◌, ◌∷◌, ◌≡◌}
use Rattle.std.proofs.lemmas.Option.{none-some, same_Some}
use Rattle.dom_arena.specs.Cells.{AreChained, Hooks, Place, Unhooks, final, front, with_after, with_before}
use Rattle.page_laws.proofs.IsAmong.{among-left, among-right, distinct-apart, distinct-left, distinct-right}
use Rattle.page_model.specs.Document.{AreDistinct, IsAmong, first}

pub chain-same : (old new : ℕ → Option Place) (up : ℕ) (last : Option ℕ) (xs : List ℕ) (next : Option ℕ) → ((j : ℕ) → IsAmong j xs → new j ≡ old j) → AreChained old up last xs next → AreChained new up last xs next
chain-same old new up last [] next same h = tt
chain-same old new up last (x ∷ xs) next same h = (same x (inl refl) ∙ h.0, chain-same old new up (Some x) xs next (λ j a. same j (inr a)) h.1)

front-append : (xs ys : List ℕ) (next : Option ℕ) → front (xs ++ ys) next ≡ front xs (front ys next)
front-append [] ys next = refl
front-append (x ∷ xs) ys next = refl

pub chain-cut : (place : ℕ → Option Place) (up : ℕ) (last : Option ℕ) (xs ys : List ℕ) (next : Option ℕ) → AreChained place up last (xs ++ ys) next
    → AreChained place up last xs (front ys next) × AreChained place up (final last xs) ys next
chain-cut place up last [] ys next h = (tt, h)
chain-cut place up last (x ∷ xs) ys next h =
    let rest = chain-cut place up (Some x) xs ys next h.1 in
    ((h.0 ∙ ap (λ o. Some (record { up = Some up; before = last; after = o })) (front-append xs ys next), rest.0), rest.1)

pub chain-join : (place : ℕ → Option Place) (up : ℕ) (last : Option ℕ) (xs ys : List ℕ) (next : Option ℕ) → AreChained place up last xs (front ys next) → AreChained place up (final last xs) ys next
    → AreChained place up last (xs ++ ys) next
chain-join place up last [] ys next h k = k
chain-join place up last (x ∷ xs) ys next h k =
    (h.0 ∙ ap (λ o. Some (record { up = Some up; before = last; after = o })) (sym (front-append xs ys next)), chain-join place up (Some x) xs ys next h.1 k)

-- ---- the ends

final-among : (x j : ℕ) (xs : List ℕ) → final (Some x) xs ≡ Some j → IsAmong j (x ∷ xs)
final-among x j [] e = inl (sym (same_Some x j e))
final-among x j (y ∷ ys) e = inr (final-among y j ys e)

pub end-among : (j : ℕ) (xs : List ℕ) → final None xs ≡ Some j → IsAmong j xs
end-among j [] e = absurd (none-some j e)
end-among j (x ∷ xs) e = final-among x j xs e

pub front-among : (j : ℕ) (xs : List ℕ) → front xs None ≡ Some j → IsAmong j xs
front-among j [] e = absurd (none-some j e)
front-among j (x ∷ xs) e = inl (sym (same_Some x j e))

-- another one behind these
chain-next : (old new : ℕ → Option Place) (up : ℕ) (last : Option ℕ) (xs : List ℕ) (next next' : Option ℕ) → AreDistinct xs
    → ((j : ℕ) → final None xs ≡ Some j → new j ≡ option_map (with_after next') (old j)) → ((j : ℕ) → IsAmong j xs → (final None xs ≡ Some j → ⊥) → new j ≡ old j)
    → AreChained old up last xs next → AreChained new up last xs next'
chain-next old new up last [] next next' d end others h = tt
chain-next old new up last (x ∷ []) next next' d end others h = (end x refl ∙ ap (option_map (with_after next')) h.0, tt)
chain-next old new up last (x ∷ y ∷ ys) next next' d end others h = (
  others x (inl refl) (λ e. d.0 (final-among y x ys e)) ∙ h.0,
  chain-next old new up (Some x) (y ∷ ys) next next' d.1 end (λ j a. others j (inr a)) h.1,
)

-- another one before these
chain-last : (old new : ℕ → Option Place) (up : ℕ) (last last' : Option ℕ) (xs : List ℕ) (next : Option ℕ) → AreDistinct xs
    → ((j : ℕ) → front xs None ≡ Some j → new j ≡ option_map (with_before last') (old j)) → ((j : ℕ) → IsAmong j xs → (front xs None ≡ Some j → ⊥) → new j ≡ old j)
    → AreChained old up last xs next → AreChained new up last' xs next
chain-last old new up last last' [] next d first others h = tt
chain-last old new up last last' (x ∷ xs) next d first others h = (
  first x refl ∙ ap (option_map (with_before last')) h.0,
  chain-same old new up (Some x) xs next (λ j a. others j (inr a) (λ e. d.0 (subst (λ (k : ℕ). IsAmong k xs) (sym (same_Some x j e)) a))) h.1,
)

-- ---- one more, and one fewer

pub chain-attached : (old new : ℕ → Option Place) (up t : ℕ) (xs ys : List ℕ) → AreDistinct (xs ++ ys) → (IsAmong t (xs ++ ys) → ⊥) → Hooks old new up t (final None xs) (front ys None)
    → AreChained old up None (xs ++ ys) None → AreChained new up None (xs ++ t ∷ ys) None
chain-attached old new up t xs ys d out k h =
    let cut = chain-cut old up None xs ys None h in
    let apart : (j : ℕ) → IsAmong j xs → IsAmong j ys → ⊥ = λ j. distinct-apart j xs ys d in
    let not : (j : ℕ) → IsAmong j (xs ++ ys) → j ≡ t → ⊥ = λ j a e. out (subst (λ (i : ℕ). IsAmong i (xs ++ ys)) e a) in
    chain-join new up None xs (t ∷ ys) None
    (chain-next old new up None xs (front ys None) (Some t) (distinct-left xs ys d) k.before (λ j a e. k.others j (not j (among-left j xs ys a)) e (λ f. apart j a (front-among j ys f))) cut.0)
    (k.here, chain-last old new up (final None xs) (Some t) ys None (distinct-right xs ys d) k.after (λ j a e. k.others j (not j (among-right j xs ys a)) (λ f. apart j (end-among j xs f) a) e) cut.1)

pub chain-detached : (old new : ℕ → Option Place) (up i : ℕ) (xs ys : List ℕ) → AreDistinct (xs ++ i ∷ ys) → Unhooks old new i (final None xs) (front ys None)
    → AreChained old up None (xs ++ i ∷ ys) None → AreChained new up None (xs ++ ys) None
chain-detached old new up i xs ys d k h =
    let cut = chain-cut old up None xs (i ∷ ys) None h in
    let right = distinct-right xs (i ∷ ys) d in
    let apart : (j : ℕ) → IsAmong j xs → IsAmong j (i ∷ ys) → ⊥ = λ j. distinct-apart j xs (i ∷ ys) d in
    chain-join new up None xs ys None
    (chain-next old new up None xs (Some i) (front ys None) (distinct-left xs (i ∷ ys) d) k.before (λ j a e. k.others j (λ f. apart j a (inl f)) e (λ f. apart j a (inr (front-among j ys f)))) cut.0)
    (chain-last old new up (Some i) (final None xs) ys None right.1 k.after
    (λ j a e. k.others j (λ f. right.0 (subst (λ (m : ℕ). IsAmong m ys) f a)) (λ f. apart j (end-among j xs f) (inr a)) e) cut.1.1)
