-- What is shown of a page on which the equations hold.
use Rattle.std.proofs.Common.{Option, ap, map, refl, ℕ, ◌++◌, ◌∙◌, ◌≡◌}
use Rattle.std.specs.Prelude.{[], ◌∷◌}
use Rattle.std.proofs.lemmas.List.{map-append}
use Rattle.flow_model.specs.declared.containing.Containing.{Containing}
use Rattle.layout_laws.proofs.ConsistentPages.{page-same}
use Rattle.layout_model.specs.Above.{Above, Cascade, above_children, above_root, containing_children, viewport_containing}
use Rattle.layout_model.specs.Assignments.{AllHold, Holds, IsConsistent, styling_of}
use Rattle.layout_model.specs.Contents.{contents_of}
use Rattle.layout_model.specs.Entries.{Assignment, Entry}
use Rattle.layout_model.specs.Positions.{Place, Shown, all_shown, place_below, place_of_root, shown, shown_element, shown_in}
use Rattle.layout_model.specs.Setting.{Setting}
use Rattle.page_model.specs.Document.{Node, Nodes, element, no_nodes, node, text}
use Rattle.page_model.specs.Pages.{Page}
use Rattle.selectors_model.specs.Matching.{elements_among, elements_of}

abbrev pub shown_id : Shown → ℕ
shown_id s = s.id

-- each element is shown once, in document order
mutual
  shown-ids : (styling : Cascade) (a : Assignment) (above : Above) (around : Containing) (place : Place) (n : Node) → Holds styling a above around n → map shown_id (shown_in a place n) ≡ elements_of n
  shown-ids styling a above around place (element id name attributes children) h =
      let e : Entry = h.0 in
      let down : Place = place_below place id (contents_of a children) (a id) in
      let here : map shown_id (shown_element place id name (a id)) ≡ id ∷ [] = ap (λ (o : Option Entry). map shown_id (shown_element place id name o)) h.1 in
      let rest : map shown_id (all_shown a down children) ≡ elements_among children =
      all-shown-ids styling a (above_children above e.style e.kind) (containing_children around e.box) down children h.3 in
      map-append shown_id (shown_element place id name (a id)) (all_shown a down children) ∙ (λ j. here j ++ rest j)
  shown-ids styling a above around place (text id cs) h = refl

  all-shown-ids : (styling : Cascade) (a : Assignment) (above : Above) (around : Containing) (place : Place) (ns : Nodes) → AllHold styling a above around ns → map shown_id (all_shown a place ns) ≡ elements_among ns
  all-shown-ids styling a above around place no_nodes h = refl
  all-shown-ids styling a above around place (node n ns) h =
      let first : map shown_id (shown_in a place n) ≡ elements_of n = shown-ids styling a above around place n h.0 in
      let rest : map shown_id (all_shown a place ns) ≡ elements_among ns = all-shown-ids styling a above around place ns h.1 in
      map-append shown_id (shown_in a place n) (all_shown a place ns) ∙ (λ j. first j ++ rest j)

pub page-shown : (setting : Setting) (page : Page) (a : Assignment) → IsConsistent setting page a → map shown_id (shown a page.document.root) ≡ elements_of page.document.root
page-shown setting page a h =
    shown-ids (styling_of page) a above_root (viewport_containing page.viewport) (place_of_root a page.document.root) page.document.root h.holds

pub shown-same : (setting : Setting) (page : Page) (a b : Assignment) → IsConsistent setting page a → IsConsistent setting page b → shown a page.document.root ≡ shown b page.document.root
shown-same setting page a b h k = λ j. shown (λ i. page-same setting page a b h k i j) page.document.root
