-- References between declared names by their places: of each place, the places to which it refers.
use Rattle.std.specs.Prelude.{◌≡◌, ◌⊎◌, ℕ, ◌+◌, ◌<◌, suc, List, [], ◌∷◌, length, map, get_or, filter_map, Option, option_and_then, Bool, true, false}
use Rattle.css_model.specs.Classes.{Text}
use Rattle.css_model.specs.Components.{Components}
use Rattle.custom_model.specs.NamedValues.{NamedValues, names_of}
use Rattle.custom_model.specs.References.{all_vars_in, reference_in}
use Rattle.custom_props.specs.inner.Places.{place_of}

abbrev pub Graph : Type 0
Graph = List (List ℕ)

-- ---- of declared names

-- the place of the name to which the contents of a `var()` refer
abbrev pub place_in : List Text → Components → Option ℕ
place_in names contents = option_and_then (λ r. place_of r.name names) (reference_in contents)

-- the places of these references
abbrev pub places_in : List Text → List Components → List ℕ
places_in names vars = filter_map (place_in names) vars

-- the places to which a value refers
abbrev pub places_of : List Text → Components → List ℕ
places_of names value = places_in names (all_vars_in value)

abbrev pub graph_of : NamedValues → Graph
graph_of declared = map (λ v. places_of (names_of declared) v.1) declared

-- ---- what is reached

abbrev pub successors : Graph → ℕ → List ℕ
successors graph x = get_or graph x []

-- a place is in a list
abbrev pub IsIn : ℕ → List ℕ → Type 0
IsIn x [] = ⊥
IsIn x (y ∷ ys) = (x ≡ y) ⊎ IsIn x ys

-- one place leads to another by one reference or more
pub data Leads (graph : Graph) : ℕ → ℕ → Type 0 where
  at_once : {x y : ℕ} → IsIn y (successors graph x) → Leads graph x y
  by_way : {x y : ℕ} → (z : ℕ) → IsIn z (successors graph x) → Leads graph z y → Leads graph x y

-- ---- marks

-- a place is marked
abbrev pub is_marked : List Bool → ℕ → Bool
is_marked marks x = get_or marks x false

-- how many are not marked
abbrev pub unmarked : List Bool → ℕ
unmarked [] = 0
unmarked (true ∷ marks) = unmarked marks
unmarked (false ∷ marks) = suc (unmarked marks)

-- ---- a search for what is reached

-- what is marked and what is still to be looked at, before and after these places were marked
pub record Marks (places : List ℕ) (marks : List Bool) (waiting : List ℕ) (marks' : List Bool)
    (waiting' : List ℕ) : Type 0 where
  pub same_length : length marks' ≡ length marks
  pub kept : (y : ℕ) → is_marked marks y ≡ true → is_marked marks' y ≡ true
  pub all : (y : ℕ) → IsIn y places → is_marked marks' y ≡ true
  pub only : (y : ℕ) → is_marked marks' y ≡ true
      → (is_marked marks y ≡ true) ⊎ (IsIn y places × IsIn y waiting')
  pub still : (y : ℕ) → IsIn y waiting → IsIn y waiting'
  pub more : (y : ℕ) → IsIn y waiting' → IsIn y waiting ⊎ (is_marked marks' y ≡ true)
  pub fewer : length waiting' + unmarked marks' ≡ length waiting + unmarked marks

-- while what is reached from a place is searched
pub record Searches (graph : Graph) (start : ℕ) (marks : List Bool) (waiting : List ℕ) : Type 0 where
  pub same_length : length marks ≡ length graph
  pub reached : (y : ℕ) → is_marked marks y ≡ true → Leads graph start y
  pub still : (x : ℕ) → IsIn x waiting → (x ≡ start) ⊎ (is_marked marks x ≡ true)
  pub looked_at : (x : ℕ) → (x ≡ start) ⊎ (is_marked marks x ≡ true)
      → IsIn x waiting ⊎ ((y : ℕ) → IsIn y (successors graph x) → is_marked marks y ≡ true)

-- ---- an order

-- whether each place stands after those to which it refers, but for those that lead back to it
abbrev pub AreOrdered : Graph → List ℕ → List ℕ → Type 0
AreOrdered graph front [] = Unit {0}
AreOrdered graph front (x ∷ xs) =
    ((y : ℕ) → IsIn y (successors graph x) → IsIn y front ⊎ Leads graph y x)
    × AreOrdered graph (x ∷ front) xs

-- all places in such an order
pub record IsOrder (graph : Graph) (order : List ℕ) : Type 0 where
  pub ordered : AreOrdered graph [] order
  pub all : (x : ℕ) → x < length graph → IsIn x order

-- each reference is to a place
abbrev pub IsWithin : Graph → Type 0
IsWithin graph = (x y : ℕ) → IsIn y (successors graph x) → y < length graph
