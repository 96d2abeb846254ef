-- The flat boxes are consistent, and their lines are the dump.
use Rattle.std.proofs.Common.{eq-eqb, ◌≡◌, ◌∙◌, ap, sym, ap₂, refl, ℕ, List, [], ◌++◌, Some, is_some, true, Result, Ok, Err, OnOk, encode_utf8_all}
use Rattle.std.specs.Prelude.{ℤ, pos}
use Rattle.page_model.specs.Document.{Node, element, text, Nodes, no_nodes, node, id_of, find, name_at, AreDistinct, ids}
use Rattle.page_model.specs.Pages.{Page}
use Rattle.layout_model.specs.Setting.{Setting}
use Rattle.layout_model.specs.Boxes.{units_of_pixels}
use Rattle.layout_model.specs.Consistent.{Holds, AllHold, Consistent}
use Rattle.reply_model.specs.DumpText.{box_line, box_lines, all_box_lines}
use Rattle.reply_model.specs.Spelling.{ok_line}
use Rattle.dom_arena.specs.Found.{AreFound}
use Rattle.dom_arena.proofs.Found.{find-children}
use Rattle.relayout_cli.specs.inner.Flat.{flat_box, all_flat, flat_in}
use Rattle.relayout_cli.specs.inner.Walk.{node_at}
use Rattle.relayout_cli.specs.inner.Dumps.{IsDumpOf}

-- an element that is found has a flat box
flat-at : (width : ℤ) (root n : Node) (id : ℕ) → find id root ≡ Some n → is_some (name_at id root) ≡ true → flat_in width root id ≡ Some (record { box = flat_box width })
flat-at width root n id f named = rw named refl

-- the equations hold of flat boxes at each node that is found, and their lines are those of flat boxes everywhere
mutual
  holds-flat : (width : ℤ) (root n : Node) → AreDistinct (ids root) → find (id_of n) root ≡ Some n → Holds (flat_in width root) (record { width = width }) n
  holds-flat width root (element id name attributes kids) d f = (
    record { box = flat_box width },
    rw f refl,
    record { left = refl; top = refl; width = refl; height = refl; content_left = refl; content_top = refl; content_width = refl; content_height = refl },
    all-hold-flat width root kids d (find-children id root (element id name attributes kids) d f),
  )
  holds-flat width root (text id cs) d f = tt

  all-hold-flat : (width : ℤ) (root : Node) (ns : Nodes) → AreDistinct (ids root) → AreFound root ns → AllHold (flat_in width root) (record { width = width }) ns
  all-hold-flat width root no_nodes d f = tt
  all-hold-flat width root (node n ns) d f = (holds-flat width root n d f.0, all-hold-flat width root ns d f.1)

mutual
  lines-flat : (width : ℤ) (root n : Node) → AreDistinct (ids root) → find (id_of n) root ≡ Some n → box_lines (flat_in width root) (pos 0) (pos 0) n ≡ box_lines (all_flat width) (pos 0) (pos 0) n
  lines-flat width root (element id name attributes kids) d f =
      rw f (ap (λ (lines : List ℕ). box_line id (encode_utf8_all name) (pos 0) (pos 0) (flat_box width) ++ lines)
      (all-lines-flat width root kids d (find-children id root (element id name attributes kids) d f)))
  lines-flat width root (text id cs) d f = refl

  all-lines-flat : (width : ℤ) (root : Node) (ns : Nodes) → AreDistinct (ids root) → AreFound root ns → all_box_lines (flat_in width root) (pos 0) (pos 0) ns ≡ all_box_lines (all_flat width) (pos 0) (pos 0) ns
  all-lines-flat width root no_nodes d f = refl
  all-lines-flat width root (node n ns) d f =
      ap₂ (λ (x y : List ℕ). x ++ y) (lines-flat width root n d f.0) (all-lines-flat width root ns d f.1)

-- the root is found by its id
pub find-root : (root : Node) → find (id_of root) root ≡ Some root
find-root (element id name attributes kids) = rw (eq-eqb id id refl) refl
find-root (text id cs) = rw (eq-eqb id id refl) refl

pub flat-consistent : (setting : Setting) (page : Page) → AreDistinct (ids page.document.root) → Consistent setting page (flat_in (units_of_pixels page.viewport.width) page.document.root)
flat-consistent setting page d = record {
  holds = holds-flat (units_of_pixels page.viewport.width) page.document.root page.document.root d (find-root page.document.root);
  no_other = λ i none. rw none refl;
}

-- the boxes' lines and then the ok line were appended to nothing
pub OnOk-dump : {E : Type 0} (r : Result (Unit {0}) E) (new mid old : List ℕ) (page : Page) (width : ℤ) (i : ℕ)
    → OnOk r (new ≡ mid ++ ok_line) → mid ≡ old ++ box_lines (all_flat width) (pos 0) (pos 0) (node_at i page.document.root) → old ≡ []
    → i ≡ id_of page.document.root → AreDistinct (ids page.document.root) → width ≡ units_of_pixels page.viewport.width
    → OnOk r ((setting : Setting) → IsDumpOf setting page new)
OnOk-dump (Ok x) new mid old page width i h e n is d wide = λ setting. (
  flat_in (units_of_pixels page.viewport.width) page.document.root,
  flat-consistent setting page d,
  h ∙ ap (λ (lines : List ℕ). lines ++ ok_line)
      (e ∙ (rw (n, is, wide, find-root page.document.root) refl ∙ sym (lines-flat (units_of_pixels page.viewport.width) page.document.root page.document.root d (find-root page.document.root)))),
)
OnOk-dump (Err x) new mid old page width i h e n is d wide = tt
