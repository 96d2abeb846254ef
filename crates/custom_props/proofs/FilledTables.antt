-- A table of entries, filled place by place.
use Rattle.std.proofs.Common.{◌≡◌, ◌∙◌, ◌⊎◌, ap, sym, refl, subst, ℕ, zero, suc, ◌+◌, ◌<◌, ◌≤◌, ◌==◌, List, [], ◌∷◌, ◌++◌, length, map, take, Bool, true, false, inl, inr, Option, Some, None, option_map, option_and_then, eqb-true, arith}
use Rattle.std.specs.Prelude.{slice_get, slice_set, replicate}
use Rattle.std.specs.List.{list_all, list_any}
use Rattle.std.proofs.lemmas.Bool.{cases_Bool, eqb-false}
use Rattle.std.proofs.lemmas.Option.{none-some, same_Some}
use Rattle.css_model.specs.Classes.{Text}
use Rattle.css_model.specs.Components.{Components}
use Rattle.css_tokens.specs.Nested.{components_view}
use Rattle.page_model.specs.Attributes.{is_same_text}
use Rattle.page_laws.proofs.AttributesInOrder.{same-text}
use Rattle.page_laws.proofs.Options.{both-true}
use Rattle.custom_model.specs.Environments.{EnvironmentGiven, entry_of_declared}
use Rattle.custom_model.specs.NamedValues.{NamedValues, names_of, value_named}
use Rattle.custom_model.specs.References.{names_in}
use Rattle.custom_laws.proofs.Entries.{refers-in, same-declared}
use Rattle.custom_props.specs.inner.Entries.{entries_among, entry_at}
use Rattle.custom_props.specs.inner.EntryViews.{entry_in, entry_view}
use Rattle.custom_props.specs.inner.Graphs.{AreOrdered, Graph, IsIn, IsOrder, Leads, at_once, by_way, graph_of, is_marked, places_of, successors}
use Rattle.custom_props.specs.inner.Places.{place_of}
use Rattle.custom_props.specs.inner.Tables.{Fills, IsEntryAt, IsFilled, IsFilling, IsTable, LeadsBack}
use Rattle.custom_props.specs.Views.{values_view}
use Rattle.custom_props.specs.declared.entry.Entry.{Entry}
use Rattle.custom_props.specs.declared.named_value.NamedValue.{NamedValue}
use Rattle.custom_props.specs.declared.table.Table.{Table}
use Rattle.custom_props.proofs.Bridge.{place-within, refers-successor, suc-some, value-in-place}
use Rattle.custom_props.proofs.EntriesByPlace.{name-at, value-at}
use Rattle.custom_props.proofs.Marking.{in-split, leads-then, none-marked, repeat-length, set-length, set-only}

-- ---- places off every cycle

pub all-marked : (marks : List Bool) (places : List ℕ) → list_all (is_marked marks) places ≡ true → (y : ℕ) → IsIn y places
    → is_marked marks y ≡ true
all-marked marks [] h y i = absurd i
all-marked marks (x ∷ places) h y (inl e) =
    ap (is_marked marks) e ∙ (both-true (is_marked marks x) (list_all (is_marked marks) places) h).0
all-marked marks (x ∷ places) h y (inr i) =
    all-marked marks places (both-true (is_marked marks x) (list_all (is_marked marks) places) h).1 y i

-- a place is off every cycle if all to which it refers are
pub off_by_successors : (graph : Graph) (marks : List Bool) (x : ℕ)
    → ((y : ℕ) → is_marked marks y ≡ true → Leads graph y y → ⊥)
    → list_all (is_marked marks) (successors graph x) ≡ true → Leads graph x x → ⊥
off_by_successors graph marks x off h (at_once i) = off x (all-marked marks (successors graph x) h x i) (at_once i)
off_by_successors graph marks x off h (by_way z i l) =
    off z (all-marked marks (successors graph x) h z i) (leads-then graph z x z l (at_once i))

-- ---- one entry more

set-length-of : (table : List Entry) (x : ℕ) (entry : Entry) → length (slice_set table x entry) ≡ length table
set-length-of [] x entry = refl
set-length-of (e ∷ table) zero entry = refl
set-length-of (e ∷ table) (suc x) entry = ap suc (set-length-of table x entry)

entry-set : (table : List Entry) (x : ℕ) (entry : Entry) → x < length table
    → entry_in (slice_set table x entry) x ≡ entry_view entry
entry-set [] x entry l = absurd (omega (arith, l))
entry-set (e ∷ table) zero entry l = refl
entry-set (e ∷ table) (suc x) entry l = entry-set table x entry (omega (arith, l))

entry-other : (table : List Entry) (x y : ℕ) (entry : Entry) → (y ≡ x → ⊥)
    → entry_in (slice_set table x entry) y ≡ entry_in table y
entry-other [] x y entry d = refl
entry-other (e ∷ table) zero zero entry d = absurd (d refl)
entry-other (e ∷ table) zero (suc y) entry d = refl
entry-other (e ∷ table) (suc x) zero entry d = refl
entry-other (e ∷ table) (suc x) (suc y) entry d = entry-other table x y entry (λ s. d (ap suc s))

same-or-other : (x y : ℕ) → (x ≡ y) ⊎ (x ≡ y → ⊥)
same-or-other x y = elim (cases_Bool (x == y)) [
  | inl t ↦ inl (eqb-true x y t)
  | inr f ↦ inr (eqb-false x y f)
]

pub names-length : (values : NamedValues) → length (names_of values) ≡ length values
names-length [] = refl
names-length (v ∷ values) = ap suc (names-length values)

-- ---- a name whose references are all known

module _ (g : EnvironmentGiven) where
  -- entries that are the same for all to which a name refers
  same-among : (entries others : List Entry) (name : Text) (x : ℕ) (value : Components)
      → place_of name (names_of g.declared) ≡ Some x → value_named g.declared name ≡ Some value
      → ((m : Text) (y : ℕ) → place_of m (names_of g.declared) ≡ Some y → IsIn y (successors (graph_of g.declared) x)
      → entry_in entries y ≡ entry_in others y)
      → entry_of_declared (entries_among g entries) (value_named g.inherited name) value
      ≡ entry_of_declared (entries_among g others) (value_named g.inherited name) value
  same-among entries others name x value p d same =
      same-declared (entries_among g entries) (entries_among g others) (value_named g.inherited name) value
      (λ m h. by-place m h (place_of m (names_of g.declared)) refl)
    where
      by-place : (m : Text) → list_any (is_same_text m) (names_in value) ≡ true → (place : Option ℕ)
          → place_of m (names_of g.declared) ≡ place
          → entry_at g.inherited entries m place ≡ entry_at g.inherited others m place
      by-place m h None q = refl
      by-place m h (Some y) q =
          same m y q (refers-successor g.declared name m x y p q (refers-in g.declared name m value d h))

  module _ (front : List ℕ) (x : ℕ)
      (closed : (z y : ℕ) → IsIn z front → (LeadsBack g z → ⊥) → IsIn y (successors (graph_of g.declared) z) → IsIn y front) where
    module _ (entries : List Entry) (old : IsFilled g front entries) where
      -- nothing is put
      filled-skip : (length g.declared ≤ x) ⊎ LeadsBack g x → IsFilled g (front ++ x ∷ []) entries
      filled-skip why = record {
        same_length = old.same_length;
        on_cycle = old.on_cycle;
        off_cycle = λ name z value p i d off. elim (in-split z front (x ∷ []) i) [
          | inl a ↦ old.off_cycle name z value p a d off
          | inr b ↦ elim b [
            | inl s ↦ absurd (not-here name z p off s why)
            | inr n ↦ absurd n
          ]
        ];
      }
        where
          not-here : (name : Text) (z : ℕ) → place_of name (names_of g.declared) ≡ Some z → (LeadsBack g z → ⊥) → z ≡ x
              → (length g.declared ≤ x) ⊎ LeadsBack g x → ⊥
          not-here name z p off s (inl l) =
              let within : z < length (names_of g.declared) = place-within name (names_of g.declared) z p in
              let all = names-length g.declared in
              absurd (omega (arith, within, all, l, s))
          not-here name z p off s (inr b) = off (subst (LeadsBack g) (sym s) b)

      module _ (entry : Entry) (within : x < length g.declared) (off-x : LeadsBack g x → ⊥)
          (right : IsEntryAt g entries x entry) where
        abbrev new : List Entry
        new = slice_set entries x entry

        put : entry_in new x ≡ entry_view entry
        put = entry-set entries x entry (omega (arith, within, old.same_length))

        -- the entries of the front stay
        kept : (name : Text) (y : ℕ) → place_of name (names_of g.declared) ≡ Some y → IsIn y front
            → entry_in new y ≡ entry_in entries y
        kept name y p i = elim (same-or-other y x) [
          | inl e ↦
              let here = value-in-place (λ v. []) g.declared name y p in
              let at-x : place_of name (names_of g.declared) ≡ Some x = p ∙ ap Some e in
              ap (entry_in new) e
              ∙ (put
              ∙ (right name here.0 at-x here.1
              ∙ sym (old.off_cycle name y here.0 p i here.1 (λ b. off-x (subst (LeadsBack g) e b)))))
          | inr d ↦ entry-other entries x y entry d
        ]

        filled-put : IsFilled g (front ++ x ∷ []) new
        filled-put = record {
          same_length = set-length-of entries x entry ∙ old.same_length;
          on_cycle = λ name z p b.
              entry-other entries x z entry (λ e. off-x (subst (LeadsBack g) e b)) ∙ old.on_cycle name z p b;
          off_cycle = λ name z value p i d off. elim (in-split z front (x ∷ []) i) [
            | inl a ↦
                kept name z p a
                ∙ (old.off_cycle name z value p a d off
                ∙ same-among entries new name z value p d
                (λ m y q j. sym (kept m y q (closed z y a off j))))
            | inr b ↦ elim b [
              | inl s ↦ at-new name z value p d off s
              | inr n ↦ absurd n
            ]
          ];
        }
          where
            at-new : (name : Text) (z : ℕ) (value : Components) → place_of name (names_of g.declared) ≡ Some z
                → value_named g.declared name ≡ Some value → (LeadsBack g z → ⊥) → z ≡ x
                → entry_in new z ≡ entry_of_declared (entries_among g new) (value_named g.inherited name) value
            at-new name z value p d off s =
                ap (entry_in new) s
                ∙ (put
                ∙ (right name value (p ∙ ap Some s) d
                ∙ same-among entries new name z value p d
                (λ m y q j. sym (entry-other entries x y entry
                (λ e. off (at_once (subst (λ w. IsIn w (successors (graph_of g.declared) z)) (e ∙ sym s) j)))))))

    pub filling-step : (table table' : Table) → IsFilling g front table → Fills g x table table'
        → IsFilling g (front ++ x ∷ []) table'
    filling-step table table' old (inl e) =
        subst (λ (t : Table). IsFilling g (front ++ x ∷ []) t) (sym e.1)
        (record {
          filled = filled-skip table.entries old.filled e.0;
          same_length = old.same_length;
          marked = old.marked;
        })
    filling-step table table' old (inr e) = record {
      filled =
          subst (λ (t : List Entry). IsFilled g (front ++ x ∷ []) t) (sym e.4)
          (filled-put table.entries old.filled e.2 e.0 e.1 e.3);
      same_length = ap length e.5 ∙ (set-length table.off_cycles x ∙ old.same_length);
      marked = λ y h. elim (set-only table.off_cycles x y (ap (λ m. is_marked m y) (sym e.5) ∙ h)) [
        | inl k ↦ old.marked y k
        | inr s ↦ λ b. e.1 (subst (LeadsBack g) s b)
      ];
    }

-- ---- places in order

-- what a place off every cycle refers to stands before it
closed-front : (graph : Graph) (front order : List ℕ) (i z y : ℕ) → AreOrdered graph front order → IsIn z (take i order)
    → (Leads graph z z → ⊥) → IsIn y (successors graph z) → IsIn y (take i order) ⊎ IsIn y front
closed-front graph front order zero z y o a off j = absurd a
closed-front graph front [] (suc i) z y o a off j = absurd a
closed-front graph front (w ∷ order) (suc i) z y o (inl e) off j =
    elim (o.0 y (subst (λ q. IsIn y (successors graph q)) e j)) [
      | inl k ↦ inr k
      | inr l ↦ absurd (off (by_way y j (subst (λ q. Leads graph y q) (sym e) l)))
    ]
closed-front graph front (w ∷ order) (suc i) z y o (inr a) off j =
    elim (closed-front graph (w ∷ front) order i z y o.1 a off j) [
      | inl k ↦ inl (inr k)
      | inr k ↦ elim k [
        | inl e ↦ inl (inl e)
        | inr m ↦ inr m
      ]
    ]

pub filling_next : (g : EnvironmentGiven) (graph : Graph) (order : List ℕ) (i x : ℕ) (table table' : Table)
    → graph ≡ graph_of g.declared → IsOrder graph order → take (i + 1) order ≡ take i order ++ x ∷ []
    → IsFilling g (take i order) table → Fills g x table table' → IsFilling g (take (i + 1) order) table'
filling_next g graph order i x table table' s o e old fills =
    subst (λ (front : List ℕ). IsFilling g front table') (sym e)
    (filling-step g (take i order) x closed table table' old fills)
  where
    closed : (z y : ℕ) → IsIn z (take i order) → (LeadsBack g z → ⊥) → IsIn y (successors (graph_of g.declared) z)
        → IsIn y (take i order)
    closed z y a off j =
        elim (closed-front (graph_of g.declared) [] order i z y
        (subst (λ (h : Graph). AreOrdered h [] order) s o.ordered) a off j) [
          | inl k ↦ k
          | inr k ↦ absurd k
        ]

take-all : (xs : List ℕ) (i : ℕ) → length xs ≤ i → take i xs ≡ xs
take-all [] zero h = refl
take-all [] (suc i) h = refl
take-all (x ∷ xs) zero h = absurd (omega (arith, h))
take-all (x ∷ xs) (suc i) h = ap (λ l. x ∷ l) (take-all xs i (omega (arith, h)))

pub filling_end : (g : EnvironmentGiven) (order : List ℕ) (i : ℕ) (table : Table) → length order ≤ i
    → IsFilling g (take i order) table → IsFilling g order table
filling_end g order i table h f = subst (λ (front : List ℕ). IsFilling g front table) (take-all order i h) f

-- ---- the first table

get-map : (table : List Entry) (x : ℕ) → slice_get (map entry_view table) x ≡ option_map entry_view (slice_get table x)
get-map [] x = refl
get-map (e ∷ table) zero = refl
get-map (e ∷ table) (suc x) = get-map table x

abbrev joined : Option (Option Components) → Option Components
joined o = option_and_then (λ x. x) o

joined-map : (o : Option Entry) → option_and_then entry_view o ≡ joined (option_map entry_view o)
joined-map None = refl
joined-map (Some e) = refl

parent-at : (inherited : NamedValues) (values : NamedValues) (name : Text) (x : ℕ)
    → place_of name (names_of values) ≡ Some x
    → joined (slice_get (map (λ v. value_named inherited v.0) values) x) ≡ value_named inherited name
parent-at inherited [] name x p = absurd (none-some x p)
parent-at inherited (v ∷ values) name x p = elim (cases_Bool (is_same_text name v.0)) [
  | inl t ↦
      let zero-is : 0 ≡ x = same_Some 0 x (rw t at p) in
      ap (λ i. joined (slice_get (map (λ w. value_named inherited w.0) (v ∷ values)) i)) (sym zero-is)
      ∙ ap (value_named inherited) (sym (same-text name v.0 t))
  | inr f ↦
      let more = suc-some (place_of name (names_of values)) x (rw f at p) in
      ap (λ i. joined (slice_get (map (λ w. value_named inherited w.0) (v ∷ values)) i)) more.2
      ∙ parent-at inherited values name more.0 more.1
]

pub filling_start : (g : EnvironmentGiven) (table : Table)
    → map entry_view table.entries ≡ map (λ v. value_named g.inherited v.0) g.declared
    → table.off_cycles ≡ replicate (length g.declared) false → IsFilling g [] table
filling_start g table e m = record {
  filled = record {
    same_length = sym (map-length entry_view table.entries) ∙ (ap length e ∙ map-length (λ v. value_named g.inherited v.0) g.declared);
    on_cycle = λ name x p b.
        joined-map (slice_get table.entries x)
        ∙ (ap joined (sym (get-map table.entries x) ∙ ap (λ l. slice_get l x) e)
        ∙ parent-at g.inherited g.declared name x p);
    off_cycle = λ name x value p i. absurd i;
  };
  same_length = ap length m ∙ repeat-length (length g.declared);
  marked = λ x h. absurd (none-marked (length g.declared) x (ap (λ l. is_marked l x) (sym m) ∙ h));
}
  where
    map-length : {X Y : Type 0} (f : X → Y) (xs : List X) → length (map f xs) ≡ length xs
    map-length f [] = refl
    map-length f (x ∷ xs) = ap suc (map-length f xs)

-- ---- the entry that is put

-- a name stands in its place
name-in-place : (name : Text) (names : List Text) (x : ℕ) → place_of name names ≡ Some x → slice_get names x ≡ Some name
name-in-place name [] x p = absurd (none-some x p)
name-in-place name (n ∷ names) x p = elim (cases_Bool (is_same_text name n)) [
  | inl t ↦
      let zero-is : 0 ≡ x = same_Some 0 x (rw t at p) in
      ap (slice_get (n ∷ names)) (sym zero-is) ∙ ap Some (sym (same-text name n t))
  | inr f ↦
      let more = suc-some (place_of name names) x (rw f at p) in
      ap (slice_get (n ∷ names)) more.2 ∙ name-in-place name names more.0 more.1
]

pub entry_of_place : (g : EnvironmentGiven) (declared : List NamedValue) (table : List Entry) (x : ℕ) (v : NamedValue)
    (entry : Entry) → g.declared ≡ values_view declared → slice_get declared x ≡ Some v
    → entry_view entry ≡ entry_of_declared (entries_among g table) (value_named g.inherited v.name) (components_view v.value.value)
    → IsEntryAt g table x entry
entry_of_place g declared table x v entry s h e = λ name value p d.
    let place : place_of name (names_of (values_view declared)) ≡ Some x =
    sym (ap (λ vs. place_of name (names_of vs)) s) ∙ p in
    let same : v.name ≡ name =
    same_Some v.name name (name-at declared x v (sym h) ∙ name-in-place name (names_of (values_view declared)) x place) in
    let is : components_view v.value.value ≡ value =
    same_Some (components_view v.value.value) value
    (value-at declared name x v (sym place) h ∙ (sym (ap (λ vs. value_named vs name) s) ∙ d)) in
    e
    ∙ (ap (λ n. entry_of_declared (entries_among g table) (value_named g.inherited n) (components_view v.value.value)) same
    ∙ ap (entry_of_declared (entries_among g table) (value_named g.inherited name)) is)

-- the same entry by lists that are the same
pub entry_by_same : (declared seen inherited parents : List NamedValue) (table entries : List Entry) (entry : Option Components)
    (name : Text) (value : Components) → seen ≡ declared → entries ≡ table → parents ≡ inherited
    → entry ≡ entry_of_declared (entries_among (record { declared = values_view seen; inherited = values_view parents }) entries)
    (value_named (values_view parents) name) value
    → entry ≡ entry_of_declared (entries_among (record { declared = values_view declared; inherited = values_view inherited }) table)
    (value_named (values_view inherited) name) value
entry_by_same declared seen inherited parents table entries entry name value d t i e =
    e
    ∙ (ap (λ l. entry_of_declared (entries_among (record { declared = values_view l; inherited = values_view parents }) entries) (value_named (values_view parents) name) value) d
    ∙ (ap (λ l. entry_of_declared (entries_among (record { declared = values_view declared; inherited = values_view parents }) l) (value_named (values_view parents) name) value) t
    ∙ ap (λ l. entry_of_declared (entries_among (record { declared = values_view declared; inherited = values_view l }) table) (value_named (values_view l) name) value) i))

pub view-length : (values : List NamedValue) → length (values_view values) ≡ length values
view-length [] = refl
view-length (v ∷ values) = ap suc (view-length values)

pub graph-length : (declared : NamedValues) → length (graph_of declared) ≡ length declared
graph-length declared = each (λ v. places_of (names_of declared) v.1) declared
  where
    each : (f : Text × Components → List ℕ) (values : NamedValues) → length (map f values) ≡ length values
    each f [] = refl
    each f (v ∷ values) = ap suc (each f values)

-- all are filled
pub table_filled : (g : EnvironmentGiven) (graph : Graph) (order : List ℕ) (table : Table) → graph ≡ graph_of g.declared
    → IsOrder graph order → IsFilling g order table → IsTable g table.entries
table_filled g graph order table s o f = (
  order,
  (λ x l. o.all x (omega (arith, l, ap length s, graph-length g.declared))),
  f.filled,
)
