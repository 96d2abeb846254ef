-- What matches: members, compounds and chains.
use Rattle.std.proofs.Common.{◌≡◌, ◌∙◌, ap, sym, subst, refl, inl, inr, ℕ, ◌&&◌, ◌||◌, not, List, [], ◌∷◌, Bool, true, false}
use Rattle.std.proofs.lemmas.Bool.{cases_Bool}
use Rattle.std.specs.List.{list_any}
use Rattle.page_model.specs.Document.{Node, IsAmong}
use Rattle.selectors_model.specs.Elements.{left_of}
use Rattle.selectors_model.specs.Matching.{simple_matches, compound_matches, matches, list_matches}
use Rattle.selectors_model.specs.Selectors.{Simple, not_pseudo_class, Compound, no_simples, simple, Selector, compound, combined, SelectorList, no_selectors, selector}
use Rattle.selectors_laws.specs.Chains.{IsMatch, IsIn, IsCompoundOf}
use Rattle.selectors_laws.specs.Lists.{compounds_joined}
use Rattle.selectors_laws.specs.Members.{IsMember, OneMatches}

-- ---- truth values

pub and-left : (b c : Bool) → b && c ≡ true → b ≡ true
and-left true c e = refl
and-left false c e = cc

pub and-right : (b c : Bool) → b && c ≡ true → c ≡ true
and-right true c e = e
and-right false c e = cc

pub and-both : (b c : Bool) → b ≡ true → c ≡ true → b && c ≡ true
and-both true c d e = e
and-both false c d e = cc

and-false : (b c : Bool) → c ≡ false → b && c ≡ false
and-false true c e = e
and-false false c e = refl

and-false-left : (b c : Bool) → b ≡ false → b && c ≡ false
and-false-left true c e = cc
and-false-left false c e = refl

or-first : (b c : Bool) → b ≡ true → b || c ≡ true
or-first true c e = refl
or-first false c e = cc

or-second : (b c : Bool) → c ≡ true → b || c ≡ true
or-second true c e = refl
or-second false c e = e

or-rest : (b c : Bool) → b ≡ false → b || c ≡ true → c ≡ true
or-rest true c d e = cc
or-rest false c d e = e

or-false : (b c : Bool) → b ≡ false → c ≡ false → b || c ≡ false
or-false true c d e = cc
or-false false c d e = e

or-false-left : (b c : Bool) → b || c ≡ false → b ≡ false
or-false-left true c e = cc
or-false-left false c e = refl

or-false-right : (b c : Bool) → b || c ≡ false → c ≡ false
or-false-right true c e = cc
or-false-right false c e = e

not-true : (b : Bool) → not b ≡ true → b ≡ false
not-true true e = cc
not-true false e = refl

not-false : (b : Bool) → b ≡ false → not b ≡ true
not-false true e = cc
not-false false e = refl

and-and : (a b c : Bool) → (a && b) && c ≡ a && (b && c)
and-and true b c = refl
and-and false b c = refl

-- ---- lists

pub member-matches : (root : Node) (list : SelectorList) (i : ℕ) → list_matches root list i ≡ true → OneMatches root list i
member-matches root no_selectors i e = cc
member-matches root (selector s list) i e = elim (cases_Bool (matches root s i)) [
  | inl m ↦ (s, inl refl, m)
  | inr m ↦ let rest : list_matches root list i ≡ true = or-rest (matches root s i) (list_matches root list i) m e in
      let found = member-matches root list i rest in
      (found.0, inr found.1, found.2)
]

pub list-matches : (root : Node) (list : SelectorList) (i : ℕ) (s : Selector) → IsMember s list → matches root s i ≡ true
    → list_matches root list i ≡ true
list-matches root no_selectors i s m e = absurd m
list-matches root (selector t list) i s m e = elim m [
  | inl same ↦ or-first (matches root t i) (list_matches root list i) (subst (λ (r : Selector). matches root r i ≡ true) same e)
  | inr below ↦ or-second (matches root t i) (list_matches root list i) (list-matches root list i s below e)
]

pub no-member : (root : Node) (list : SelectorList) (i : ℕ) (s : Selector) → IsMember s list → list_matches root list i ≡ false
    → matches root s i ≡ false
no-member root no_selectors i s m e = absurd m
no-member root (selector t list) i s m e = elim m [
  | inl same ↦ subst (λ (r : Selector). matches root r i ≡ false) (sym same) (or-false-left (matches root t i) (list_matches root list i) e)
  | inr below ↦ no-member root list i s below (or-false-right (matches root t i) (list_matches root list i) e)
]

pub none-match : (root : Node) (list : SelectorList) (i : ℕ) → ((s : Selector) → IsMember s list → matches root s i ≡ false)
    → list_matches root list i ≡ false
none-match root no_selectors i h = refl
none-match root (selector t list) i h =
    or-false (matches root t i) (list_matches root list i) (h t (inl refl)) (none-match root list i (λ s m. h s (inr m)))

pub negated : (root : Node) (list : SelectorList) (i : ℕ) (s : Selector)
    → simple_matches root (not_pseudo_class list) i ≡ true → IsMember s list → matches root s i ≡ false
negated root list i s e m = no-member root list i s m (not-true (list_matches root list i) e)

pub negates : (root : Node) (list : SelectorList) (i : ℕ) → ((s : Selector) → IsMember s list → matches root s i ≡ false)
    → simple_matches root (not_pseudo_class list) i ≡ true
negates root list i h = not-false (list_matches root list i) (none-match root list i h)

-- ---- compounds

pub simple-matches : (root : Node) (c : Compound) (i : ℕ) (s : Simple) → compound_matches root c i ≡ true → IsIn s c
    → simple_matches root s i ≡ true
simple-matches root no_simples i s e m = absurd m
simple-matches root (simple t c) i s e m = elim m [
  | inl same ↦ subst (λ (r : Simple). simple_matches root r i ≡ true) (sym same) (and-left (simple_matches root t i) (compound_matches root c i) e)
  | inr below ↦ simple-matches root c i s (and-right (simple_matches root t i) (compound_matches root c i) e) below
]

pub all-match : (root : Node) (c : Compound) (i : ℕ) → ((s : Simple) → IsIn s c → simple_matches root s i ≡ true)
    → compound_matches root c i ≡ true
all-match root no_simples i h = refl
all-match root (simple t c) i h =
    and-both (simple_matches root t i) (compound_matches root c i) (h t (inl refl)) (all-match root c i (λ s m. h s (inr m)))

pub joined-matches : (root : Node) (c d : Compound) (i : ℕ)
    → compound_matches root (compounds_joined c d) i ≡ compound_matches root c i && compound_matches root d i
joined-matches root no_simples d i = refl
joined-matches root (simple s c) d i =
    ap (λ b. simple_matches root s i && b) (joined-matches root c d i)
    ∙ sym (and-and (simple_matches root s i) (compound_matches root c i) (compound_matches root d i))

never-compound : (root : Node) (c : Compound) (never : Simple) → IsIn never c
    → ((e : ℕ) → simple_matches root never e ≡ false) → (i : ℕ) → compound_matches root c i ≡ false
never-compound root no_simples never m h i = absurd m
never-compound root (simple t c) never m h i = elim m [
  | inl same ↦ and-false-left (simple_matches root t i) (compound_matches root c i)
      (subst (λ (r : Simple). simple_matches root r i ≡ false) same (h i))
  | inr below ↦ and-false (simple_matches root t i) (compound_matches root c i) (never-compound root c never below h i)
]

-- ---- selectors

any-found : (test : ℕ → Bool) (js : List ℕ) → list_any test js ≡ true → (e : ℕ) × IsAmong e js × (test e ≡ true)
any-found test [] e = cc
any-found test (j ∷ js) e = elim (cases_Bool (test j)) [
  | inl t ↦ (j, inl refl, t)
  | inr t ↦ let rest : list_any test js ≡ true = or-rest (test j) (list_any test js) t e in
      let found = any-found test js rest in
      (found.0, inr found.1, found.2)
]

any-from : (test : ℕ → Bool) (js : List ℕ) (e : ℕ) → IsAmong e js → test e ≡ true → list_any test js ≡ true
any-from test [] e m t = absurd m
any-from test (j ∷ js) e m t = elim m [
  | inl same ↦ or-first (test j) (list_any test js) (subst (λ (r : ℕ). test r ≡ true) same t)
  | inr below ↦ or-second (test j) (list_any test js) (any-from test js e below t)
]

any-none : (test : ℕ → Bool) (js : List ℕ) → ((e : ℕ) → test e ≡ false) → list_any test js ≡ false
any-none test [] h = refl
any-none test (j ∷ js) h = or-false (test j) (list_any test js) (h j) (any-none test js h)

pub chain-from : (root : Node) (s : Selector) (i : ℕ) → matches root s i ≡ true → IsMatch root s i
chain-from root (compound c) i e = e
chain-from root (combined s b c) i e =
    let found = any-found (matches root s) (left_of b i root)
    (and-right (compound_matches root c i) (list_any (matches root s) (left_of b i root)) e) in (
      and-left (compound_matches root c i) (list_any (matches root s) (left_of b i root)) e,
      found.0,
      found.1,
      chain-from root s found.0 found.2,
    )

pub from-chain : (root : Node) (s : Selector) (i : ℕ) → IsMatch root s i → matches root s i ≡ true
from-chain root (compound c) i e = e
from-chain root (combined s b c) i m =
    and-both (compound_matches root c i) (list_any (matches root s) (left_of b i root)) m.0
    (any-from (matches root s) (left_of b i root) m.1 m.2 (from-chain root s m.1 m.3))

pub never-matches : (root : Node) (s : Selector) (c : Compound) (never : Simple) → IsCompoundOf c s → IsIn never c
    → ((e : ℕ) → simple_matches root never e ≡ false) → (i : ℕ) → matches root s i ≡ false
never-matches root (compound d) c never o m h i =
    subst (λ (r : Compound). compound_matches root r i ≡ false) o (never-compound root c never m h i)
never-matches root (combined s b d) c never o m h i = elim o [
  | inl same ↦ and-false-left (compound_matches root d i) (list_any (matches root s) (left_of b i root))
      (subst (λ (r : Compound). compound_matches root r i ≡ false) same (never-compound root c never m h i))
  | inr below ↦ and-false (compound_matches root d i) (list_any (matches root s) (left_of b i root))
      (any-none (matches root s) (left_of b i root) (never-matches root s c never below m h))
]
