-- What is given by an assignment whose equations hold is what is laid, and the other way round.
use Rattle.std.proofs.Common.{List, Some, ap, refl, subst, sym, ℕ, ◌++◌, ◌∙◌, ◌≡◌}
use Rattle.std.specs.Prelude.{[], ◌∷◌, ℤ}
use Rattle.cascade_model.specs.Styling.{Styling}
use Rattle.flow_model.specs.declared.containing.Containing.{Containing}
use Rattle.layout_laws.proofs.EntryEquations.{containing-same, entry-laid, entry-same}
use Rattle.layout_laws.proofs.PairsOfContents.{boxes_of-pairs}
use Rattle.layout_model.specs.Above.{Above, Cascade, above_children, containing_children, kind_below}
use Rattle.layout_model.specs.Assignments.{AllHold, Holds}
use Rattle.layout_model.specs.Contents.{BlockBox, contents_from, contents_of, given_by, outer_pairs_of}
use Rattle.layout_model.specs.Entries.{Assignment, Entry}
use Rattle.layout_model.specs.Equations.{IsEntry}
use Rattle.layout_model.specs.Laid.{Says, all_laid, below_element, boxes_from, boxes_of, containing_below, entry_of, laid, laid_entry, pairs_of}
use Rattle.page_model.specs.Document.{Node, Nodes, element, no_nodes, node, text}

-- ---- what an assignment says of two lists

pub says-append : (a : Assignment) (xs ys : List (ℕ × Entry)) → Says a xs → Says a ys → Says a (xs ++ ys)
says-append a [] ys h k = k
says-append a (x ∷ xs) ys h k = (h.0, says-append a xs ys h.1 k)

pub says-left : (a : Assignment) (xs ys : List (ℕ × Entry)) → Says a (xs ++ ys) → Says a xs
says-left a [] ys h = tt
says-left a (x ∷ xs) ys h = (h.0, says-left a xs ys h.1)

pub says-right : (a : Assignment) (xs ys : List (ℕ × Entry)) → Says a (xs ++ ys) → Says a ys
says-right a [] ys h = h
says-right a (x ∷ xs) ys h = says-right a xs ys h.1

-- ---- where the equations hold

-- what the contents are and what is given
abbrev pub IsLaid : Cascade → Assignment → Above → Containing → Node → Type 0
IsLaid styling a above around n =
    (contents_from a n ≡ boxes_from styling above around n) × Says a (laid styling above around n)

abbrev pub AllLaid : Cascade → Assignment → Above → Containing → Nodes → Type 0
AllLaid styling a above around ns =
    (contents_of a ns ≡ boxes_of styling above around ns) × Says a (all_laid styling above around ns)

mutual
  pub holds-laid : (styling : Cascade) (a : Assignment) (above : Above) (around : Containing) (n : Node) → Holds styling a above around n → IsLaid styling a above around n
  holds-laid styling a above around (element id name attributes children) h =
      let e : Entry = h.0 in
      let style : Styling = styling above id in
      let down : Above = below_element styling above id in
      let pairs : List (ℤ × ℤ) = pairs_of styling down children in
      let kind : e.kind ≡ kind_below above style = h.2.kind ∙ ap (λ (s : Styling). kind_below above s) h.2.style in
      let same_above : above_children above e.style e.kind ≡ down = λ j. above_children above (h.2.style j) (kind j) in
      let below : AllHold styling a down (containing_children around e.box) children =
      subst (λ (x : Above). AllHold styling a x (containing_children around e.box) children) same_above h.3 in
      let inside = all-hold-laid styling a down (containing_children around e.box) children below in
      let outer : outer_pairs_of (contents_of a children) ≡ pairs =
      ap outer_pairs_of inside.0 ∙ boxes_of-pairs styling down (containing_children around e.box) children in
      let is : e ≡ entry_of above around style pairs (contents_of a children) = entry-same above around style (contents_of a children) pairs outer e h.2 in
      let same_block : containing_children around e.box ≡ containing_below styling above around id children =
      ap (λ (x : Entry). containing_children around x.box) is ∙ containing-same above around style (contents_of a children) pairs in
      let all : AllLaid styling a down (containing_below styling above around id children) children =
      subst (λ (c : Containing). AllLaid styling a down c children) same_block inside in
      let entry : e ≡ laid_entry styling above around id children = is ∙ ap (λ (bs : List BlockBox). entry_of above around style pairs bs) all.0 in
      let given : a id ≡ Some (laid_entry styling above around id children) = h.1 ∙ ap (λ (x : Entry). Some x) entry in
      (λ j. given_by id (given j) (all.0 j), (given, all.1))
  holds-laid styling a above around (text id cs) h = (refl, tt)

  pub all-hold-laid : (styling : Cascade) (a : Assignment) (above : Above) (around : Containing) (ns : Nodes) → AllHold styling a above around ns → AllLaid styling a above around ns
  all-hold-laid styling a above around no_nodes h = (refl, tt)
  all-hold-laid styling a above around (node n ns) h =
      let first = holds-laid styling a above around n h.0 in
      let rest = all-hold-laid styling a above around ns h.1 in
      (λ j. first.0 j ++ rest.0 j, says-append a (laid styling above around n) (all_laid styling above around ns) first.1 rest.1)

-- ---- where an assignment says what is laid

mutual
  pub laid-holds : (styling : Cascade) (a : Assignment) (above : Above) (around : Containing) (n : Node) → Says a (laid styling above around n)
      → (contents_from a n ≡ boxes_from styling above around n) × Holds styling a above around n
  laid-holds styling a above around (element id name attributes children) h =
      let style : Styling = styling above id in
      let down : Above = below_element styling above id in
      let block : Containing = containing_below styling above around id children in
      let pairs : List (ℤ × ℤ) = pairs_of styling down children in
      let boxes : List BlockBox = boxes_of styling down block children in
      let inside = all-laid-hold styling a down block children h.1 in
      let right = entry-laid above around style boxes pairs (boxes_of-pairs styling down block children) in (
        λ j. given_by id (h.0 j) (inside.0 j),
        (
          laid_entry styling above around id children,
          h.0,
          subst (λ (bs : List BlockBox). IsEntry above around style bs (laid_entry styling above around id children)) (sym inside.0) right,
          subst (λ (c : Containing). AllHold styling a down c children) (sym (containing-same above around style boxes pairs)) inside.1,
        ),
      )
  laid-holds styling a above around (text id cs) h = (refl, tt)

  pub all-laid-hold : (styling : Cascade) (a : Assignment) (above : Above) (around : Containing) (ns : Nodes) → Says a (all_laid styling above around ns)
      → (contents_of a ns ≡ boxes_of styling above around ns) × AllHold styling a above around ns
  all-laid-hold styling a above around no_nodes h = (refl, tt)
  all-laid-hold styling a above around (node n ns) h =
      let first = laid-holds styling a above around n (says-left a (laid styling above around n) (all_laid styling above around ns) h) in
      let rest = all-laid-hold styling a above around ns (says-right a (laid styling above around n) (all_laid styling above around ns) h) in
      (λ j. first.0 j ++ rest.0 j, (first.1, rest.1))
