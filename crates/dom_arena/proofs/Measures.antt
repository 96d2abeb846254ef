-- What trees have together, and what an element has.
use Rattle.std.proofs.Common.{Bool, List, [], ap, arith, false, length, max, min, nat_lt, refl, sym, true, ◌++◌, ◌+◌, ◌-◌, ◌^◌, ◌||◌, ◌∙◌, ◌∷◌, ◌≡◌}
use Rattle.std.specs.List.{list_any}
use Rattle.dom_arena.proofs.Builds.{points-append, sizes-append}
use Rattle.dom_arena.specs.Measures.{joined, measure_of, measures_of, with_element}
use Rattle.page_model.specs.Trees.{Attribute, Text, Tree, Trees, depth, depths, elem, has_bad_name, has_long_text, has_many_attributes, has_node, have_node, is_badly_named, is_long, size, sizes, text_size, text_sizes, trees_of, value_size}
use Rattle.page_model.specs.declared.limits.TheConstants.{MAX_ATTRIBUTES}

or-nothing : (b : Bool) → (b || false) ≡ b
or-nothing true = refl
or-nothing false = refl

or-later : (a b c : Bool) → (a || (b || c)) ≡ ((a || b) || c)
or-later true b c = refl
or-later false b c = refl

depths-append : (xs : List Tree) (y : Tree) → depths (trees_of (xs ++ y ∷ [])) ≡ max (depths (trees_of xs)) (depth y)
depths-append [] y = omega arith
depths-append (x ∷ xs) y = let rest = depths-append xs y in omega (arith, rest)

have-append : (p : Text → List Attribute → Bool) (q : Text → Bool) (xs : List Tree) (y : Tree) → have_node p q (trees_of (xs ++ y ∷ [])) ≡ (have_node p q (trees_of xs) || has_node p q y)
have-append p q [] y = or-nothing (has_node p q y)
have-append p q (x ∷ xs) y = ap (λ b. has_node p q x || b) (have-append p q xs y) ∙ or-later (has_node p q x) (have_node p q (trees_of xs)) (has_node p q y)

-- one tree more
pub measured-next : (xs : List Tree) (y : Tree) → joined (measures_of (trees_of xs)) (measure_of y) ≡ measures_of (trees_of (xs ++ y ∷ []))
measured-next xs y =
    let ts : Trees = trees_of (xs ++ y ∷ []) in
    let l : max (min (depths (trees_of xs)) (2 ^ 32 - 1)) (min (depth y) (2 ^ 32 - 1)) ≡ min (depths ts) (2 ^ 32 - 1) = omega (arith, depths-append xs y) in
    let n : min (min (sizes (trees_of xs)) (2 ^ 32 - 1) + min (size y) (2 ^ 32 - 1)) (2 ^ 32 - 1) ≡ min (sizes ts) (2 ^ 32 - 1) = omega (arith, sizes-append xs y []) in
    let c : min (min (text_sizes (trees_of xs)) (2 ^ 64 - 1) + min (text_size y) (2 ^ 64 - 1)) (2 ^ 64 - 1) ≡ min (text_sizes ts) (2 ^ 64 - 1) = omega (arith, points-append xs y []) in
    λ j. record {
      levels = l j;
      nodes = n j;
      code_points = c j;
      bad_name = sym (have-append is_badly_named (λ _. false) xs y) j;
      many_attributes = sym (have-append (λ _ attributes. nat_lt MAX_ATTRIBUTES (length attributes)) (λ _. false) xs y) j;
      long_text = sym (have-append (λ _ attributes. list_any (λ (a : Attribute). is_long a.1) attributes) is_long xs y) j;
    }

pub measured-element : (name : Text) (attributes : List Attribute) (ts : Trees) → with_element name attributes (measures_of ts) ≡ measure_of (elem name attributes ts)
measured-element name attributes ts =
    let l : min (max 0 (min (depths ts) (2 ^ 32 - 1)) + 1) (2 ^ 32 - 1) ≡ min (depth (elem name attributes ts)) (2 ^ 32 - 1) = omega arith in
    let n : min (1 + min (sizes ts) (2 ^ 32 - 1)) (2 ^ 32 - 1) ≡ min (size (elem name attributes ts)) (2 ^ 32 - 1) = omega arith in
    let c : min (min (value_size attributes) (2 ^ 64 - 1) + min (text_sizes ts) (2 ^ 64 - 1)) (2 ^ 64 - 1) ≡ min (text_size (elem name attributes ts)) (2 ^ 64 - 1) = omega arith in
    λ j. record {
      levels = l j;
      nodes = n j;
      code_points = c j;
      bad_name = has_bad_name (elem name attributes ts);
      many_attributes = has_many_attributes (elem name attributes ts);
      long_text = has_long_text (elem name attributes ts);
    }
