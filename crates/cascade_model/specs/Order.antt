-- The order of declarations, and the one that wins (CSS Cascade 4, section 6.1).
use Rattle.std.specs.Prelude.{ℕ, nat_lt, ◌==◌, ◌≡◌, if◌then◌else◌, List, [], ◌∷◌, Option, Some, None, Bool, true, false}
use Rattle.std.specs.Bool.{beq}
use Rattle.std.specs.List.{slice_get}
use Rattle.selectors_model.specs.Specificity.{is_less_spec}
use Rattle.cascade_model.specs.declared.origin.Origin.{Origin}
use Rattle.cascade_model.specs.declared.origin.Origin.TheVariants.{UserAgent, Author}
use Rattle.cascade_model.specs.Applied.{Applied}
use Rattle.cascade_model.specs.Kept.{Target, is_same_target}

-- origin and importance, from the weakest
abbrev pub level : Origin → Bool → ℕ
level UserAgent false = 0
level Author false = 1
level Author true = 2
level UserAgent true = 3

abbrev pub level_of : Applied → ℕ
level_of a = level a.origin a.important

-- a `style` attribute before rules, and then the specificity
abbrev pub is_more_specific : Applied → Applied → Bool
is_more_specific a b =
    if beq a.in_attribute b.in_attribute then is_less_spec b.specificity a.specificity
    else a.in_attribute

-- stronger than another wherever each of them stands
abbrev pub is_stronger : Applied → Applied → Bool
is_stronger a b =
    if level_of a == level_of b then is_more_specific a b else nat_lt (level_of b) (level_of a)

-- a declaration outranks another if it is stronger, or if neither is and it appears later; each stands
-- beside the number of those that appear before it
abbrev pub outranks : Applied → ℕ → Applied → ℕ → Bool
outranks a m b n = if is_stronger a b then true else if is_stronger b a then false else nat_lt n m

-- this declaration of the list is of the property, and no other of the property outranks it; the property
-- may be a custom one
pub record IsWinner (ds : List Applied) (t : Target) (place : ℕ) (d : Applied) : Type 0 where
  pub stands : slice_get ds place ≡ Some d
  pub of_target : d.target ≡ t
  pub not_outranked : (n : ℕ) (e : Applied) → slice_get ds n ≡ Some e → e.target ≡ t
      → outranks e n d place ≡ false

-- ---- the same, found

-- the one that wins of a declaration and of the winner of those after it
abbrev pub stronger_of : Applied → Option Applied → Option Applied
stronger_of d None = Some d
stronger_of d (Some e) = if is_stronger d e then Some d else Some e

-- the declaration of a property that wins
abbrev pub winner : Target → List Applied → Option Applied
winner t [] = None
winner t (d ∷ ds) = if is_same_target t d.target then stronger_of d (winner t ds) else winner t ds
