-- What a call answers by the causes of its refusal.
use Rattle.std.proofs.Common.{Bool, IsSome, None, Option, Some, false, inl, inr, is_none, is_some, refl, subst, sym, true, ℕ, ◌∙◌, ◌∷◌, ◌≡◌}
use Rattle.std.proofs.lemmas.Bool.{false≢true}
use Rattle.std.proofs.lemmas.Option.{none-some}
use Rattle.page_model.specs.Document.{Document}
use Rattle.page_model.specs.Refusals.{Causes, first_of}
use Rattle.page_model.specs.declared.cause.Cause.{Cause}
use Rattle.dom_arena.specs.Docs.{IsDoc, document_in}
use Rattle.dom_arena.specs.Faults.{AnswersBy}
use Rattle.dom_arena.specs.Stores.{Kept}
use Rattle.dom_arena.specs.declared.fault.DocFault.{DocFault}
use Rattle.std.specs.Prelude.{Result, Ok, Err, OnOk, OnErr}

pub answers-same : {X : Type 0} (cs cs' : Causes) (r : Result X DocFault) → first_of cs ≡ first_of cs' → AnswersBy cs r → AnswersBy cs' r
answers-same cs cs' (Ok x) e h = sym e ∙ h
answers-same cs cs' (Err fault) e (inl h) = inl h
answers-same cs cs' (Err fault) e (inr h) = inr (sym e ∙ h)

-- what a call leaves and answers, where its causes by slots are those by the document; `P` is what it does
pub answered : {X : Type 0} (P : Type 0) (k k' : Kept) (x : ℕ) (d' : Document) (cs cs' : Causes) (r : Result X DocFault) → IsDoc k x → first_of cs ≡ first_of cs'
    → (first_of cs' ≡ None → P → (document_in k' x ≡ d') × IsDoc k' x) → OnOk r P → AnswersBy cs r → OnErr r (k' ≡ k)
    → IsDoc k' x × OnOk r (document_in k' x ≡ d') × AnswersBy cs' r
answered P k k' x d' cs cs' (Ok u) d e done did causes same = let is = done (sym e ∙ causes) did in (is.1, is.0, sym e ∙ causes)
answered {X} P k k' x d' cs cs' (Err fault) d e done did causes same =
    (subst (λ (q : Kept). IsDoc q x) (sym same) d, did, answers-same {X = X} cs cs' (Err fault) e causes)

-- a cause that holds in both lists or in neither, before others
pub cause-same : (b b' : Bool) (r : Cause) (rest rest' : Causes) → b ≡ b' → (b' ≡ false → first_of rest ≡ first_of rest') → first_of ((b, r) ∷ rest) ≡ first_of ((b', r) ∷ rest')
cause-same b true r rest rest' e h = rw e refl
cause-same b false r rest rest' e h = rw e (h refl)

-- no cause holds
pub none-holds : (b : Bool) (r : Cause) (rest : Causes) → first_of ((b, r) ∷ rest) ≡ None → (b ≡ false) × (first_of rest ≡ None)
none-holds true r rest h = absurd (none-some r (sym h))
none-holds false r rest h = (refl, h)

pub none-same : {X Y : Type 0} (o : Option X) (p : Option Y) → is_some o ≡ is_some p → is_none o ≡ is_none p
none-same None None h = refl
none-same (Some x) (Some y) h = refl
none-same None (Some y) h = absurd (false≢true h)
none-same (Some x) None h = absurd (false≢true (sym h))

pub is-none : {X : Type 0} (o : Option X) → is_some o ≡ false → o ≡ None
is-none None h = refl
is-none (Some x) h = absurd (false≢true (sym h))

pub named-by : {X : Type 0} (o : Option X) → is_none o ≡ false → IsSome o
named-by None h = absurd (false≢true (sym h))
named-by (Some x) h = refl

pub ok-both : {X E : Type 0} (P Q : Type 0) (r : Result X E) → OnOk r P → OnOk r Q → OnOk r (P × Q)
ok-both P Q (Ok x) p q = (p, q)
ok-both P Q (Err e) p q = tt
