-- The ids of a tree that gets ids, and its height.
use Rattle.std.proofs.Common.{IsSome, List, ap, ap₂, arith, inl, inr, length, max, refl, subst, suc, sym, true, zero, ℕ, ◌++◌, ◌+◌, ◌<◌, ◌∙◌, ◌∷◌, ◌≡◌, ◌≤◌}
use Rattle.std.proofs.lemmas.Bool.{false≢true}
use Rattle.page_laws.specs.Ids.{count_up}
use Rattle.page_model.specs.Document.{AreDistinct, IsAmong, all_ids, all_with_ids, all_without_ids, height, heights, id_of, ids, name_of, with_ids, without_ids}
use Rattle.page_model.specs.Trees.{Tree, Trees, characters, depth, depths, elem, is_elem, no_trees, size, sizes, tree}

pub among-count_up : (x n k : ℕ) → IsAmong x (count_up n k) → (n ≤ x) × (x < n + k)
among-count_up x n zero h = absurd h
among-count_up x n (suc k) (inl e) = (omega (arith, e), omega (arith, e))
among-count_up x n (suc k) (inr h) = let r = among-count_up x (suc n) k h in (omega (arith, r.0), omega (arith, r.1))

pub count_up-distinct : (n k : ℕ) → AreDistinct (count_up n k)
count_up-distinct n zero = tt
count_up-distinct n (suc k) = (λ h. let r = among-count_up n (suc n) k h in omega (arith, r.0), count_up-distinct (suc n) k)

pub count_up-length : (n k : ℕ) → length (count_up n k) ≡ k
count_up-length n zero = refl
count_up-length n (suc k) = ap suc (count_up-length (suc n) k)

pub count_up-append : (n a b : ℕ) → count_up n (a + b) ≡ count_up n a ++ count_up (n + a) b
count_up-append n zero b = let e : zero + b ≡ b = omega arith in let f : n + zero ≡ n = omega arith in rw (e, f) refl
count_up-append n (suc a) b =
    let e : suc a + b ≡ suc (a + b) = omega arith in let f : n + suc a ≡ suc n + a = omega arith in
    rw (e, f) (ap (λ (xs : List ℕ). n ∷ xs) (count_up-append (suc n) a b))

mutual
  pub ids-with_ids : (n : ℕ) (t : Tree) → ids (with_ids n t) ≡ count_up n (size t)
  ids-with_ids n (elem name attributes children) = ap (λ (xs : List ℕ). n ∷ xs) (all_ids-with_ids (suc n) children)
  ids-with_ids n (characters cs) = refl

  pub all_ids-with_ids : (n : ℕ) (ts : Trees) → all_ids (all_with_ids n ts) ≡ count_up n (sizes ts)
  all_ids-with_ids n no_trees = refl
  all_ids-with_ids n (tree t ts) = ap₂ (λ (xs ys : List ℕ). xs ++ ys) (ids-with_ids n t) (all_ids-with_ids (n + size t) ts) ∙ sym (count_up-append n (size t) (sizes ts))

pub distinct-with_ids : (n : ℕ) (t : Tree) → AreDistinct (ids (with_ids n t))
distinct-with_ids n t = subst AreDistinct (sym (ids-with_ids n t)) (count_up-distinct n (size t))

pub within-with_ids : (t : Tree) (i : ℕ) → IsAmong i (ids (with_ids 0 t)) → i < size t
within-with_ids t i h =
    let w : (0 ≤ i) × (i < 0 + size t) = among-count_up i 0 (size t) (subst (IsAmong i) (ids-with_ids 0 t) h) in omega arith

pub node_count-with_ids : (n : ℕ) (t : Tree) → length (ids (with_ids n t)) ≡ size t
node_count-with_ids n t = ap length (ids-with_ids n t) ∙ count_up-length n (size t)

mutual
  pub height-with_ids : (n : ℕ) (t : Tree) → height (with_ids n t) ≡ depth t
  height-with_ids n (elem name attributes children) = ap suc (heights-with_ids (suc n) children)
  height-with_ids n (characters cs) = refl

  pub heights-with_ids : (n : ℕ) (ts : Trees) → heights (all_with_ids n ts) ≡ depths ts
  heights-with_ids n no_trees = refl
  heights-with_ids n (tree t ts) =
      ap (λ k. max k (heights (all_with_ids (n + size t) ts))) (height-with_ids n t) ∙ ap (λ k. max (depth t) k) (heights-with_ids (n + size t) ts)

pub element-with_ids : (n : ℕ) (t : Tree) → is_elem t ≡ true → IsSome (name_of (with_ids n t))
element-with_ids n (elem name attributes children) e = refl
element-with_ids n (characters cs) e = absurd (false≢true e)

pub id_of-with_ids : (n : ℕ) (t : Tree) → id_of (with_ids n t) ≡ n
id_of-with_ids n (elem name attributes children) = refl
id_of-with_ids n (characters cs) = refl

-- ---- the ids are all that a tree gets

mutual
  pub without-with_ids : (n : ℕ) (t : Tree) → without_ids (with_ids n t) ≡ t
  without-with_ids n (elem name attributes children) = ap (elem name attributes) (all_without-with_ids (suc n) children)
  without-with_ids n (characters cs) = refl

  all_without-with_ids : (n : ℕ) (ts : Trees) → all_without_ids (all_with_ids n ts) ≡ ts
  all_without-with_ids n no_trees = refl
  all_without-with_ids n (tree t ts) = λ j. tree (without-with_ids n t j) (all_without-with_ids (n + size t) ts j)
