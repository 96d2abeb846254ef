-- What is still to be done while places are put in order.
use Rattle.std.specs.Prelude.{◌≡◌, ◌⊎◌, ℕ, ◌+◌, ◌<◌, suc, List, [], ◌∷◌, ◌++◌, length, map, slice_set, Bool, true, false}
use Rattle.custom_props.specs.inner.Graphs.{AreOrdered, Graph, IsIn, Leads, is_marked, successors}
use Rattle.custom_props.specs.declared.orders.Task.{Task}
use Rattle.custom_props.specs.declared.orders.Task.TheVariants.{Enter, Leave}

-- ---- tasks, the next one last

abbrev pub place_of_task : Task → ℕ
place_of_task (Enter x) = x
place_of_task (Leave x) = x

-- these places are to be entered
abbrev pub entered : List ℕ → List Task
entered places = map (λ x. Enter x) places

-- a place is to be entered
abbrev pub IsEntered : ℕ → List Task → Type 0
IsEntered x [] = ⊥
IsEntered x (Enter y ∷ tasks) = (x ≡ y) ⊎ IsEntered x tasks
IsEntered x (Leave y ∷ tasks) = IsEntered x tasks

-- a place is to be left
abbrev pub IsLeft : ℕ → List Task → Type 0
IsLeft x [] = ⊥
IsLeft x (Enter y ∷ tasks) = IsLeft x tasks
IsLeft x (Leave y ∷ tasks) = (x ≡ y) ⊎ IsLeft x tasks

-- a place leads to those of all these tasks
abbrev pub LeadsToAll : Graph → ℕ → List Task → Type 0
LeadsToAll graph x [] = Unit {0}
LeadsToAll graph x (t ∷ tasks) = Leads graph x (place_of_task t) × LeadsToAll graph x tasks

-- a place that is to be left leads to those of the tasks before it, and each place to which it refers
-- was entered, or is entered before it
abbrev pub AreNested : Graph → List Bool → List Task → Type 0
AreNested graph marks [] = Unit {0}
AreNested graph marks (Enter x ∷ tasks) = AreNested graph marks tasks
AreNested graph marks (Leave x ∷ tasks) =
    LeadsToAll graph x tasks
    × ((y : ℕ) → IsIn y (successors graph x) → (is_marked marks y ≡ true) ⊎ IsEntered y tasks)
    × AreNested graph marks tasks

-- ---- while places are put in order

pub record Orders (graph : Graph) (marks : List Bool) (tasks : List Task) (order : List ℕ) : Type 0 where
  pub same_length : length marks ≡ length graph
  pub nested : AreNested graph marks tasks
  pub done : (x : ℕ) → is_marked marks x ≡ true → IsIn x order ⊎ IsLeft x tasks
  pub ordered : AreOrdered graph [] order
  pub all : (x : ℕ) → x < length graph → (is_marked marks x ≡ true) ⊎ IsEntered x tasks

-- how many tasks there may be for places that were not entered
abbrev pub tasks_ahead : Graph → List Bool → ℕ
tasks_ahead [] marks = 0
tasks_ahead (places ∷ graph) [] = 0
tasks_ahead (places ∷ graph) (true ∷ marks) = tasks_ahead graph marks
tasks_ahead (places ∷ graph) (false ∷ marks) = suc (length places) + tasks_ahead graph marks

-- what a task of entering a place does
abbrev pub Enters : Graph → ℕ → List Bool → List Task → List Bool → List Task → Type 0
Enters graph x marks tasks marks' tasks' =
    ((x < length graph → is_marked marks x ≡ true) × (marks' ≡ marks) × (tasks' ≡ tasks))
    ⊎ ((x < length graph) × (is_marked marks x ≡ false) × (marks' ≡ slice_set marks x true)
    × (tasks' ≡ tasks ++ Leave x ∷ entered (successors graph x)))

-- so many places are to be entered, and no more is to be done
abbrev pub AreAllEntered : ℕ → List Task → Type 0
AreAllEntered count tasks =
    (places : List ℕ) × (tasks ≡ entered places) × ((x : ℕ) → x < count → IsIn x places)
