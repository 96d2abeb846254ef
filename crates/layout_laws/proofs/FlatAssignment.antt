-- The assignment of flat blocks is consistent.
use Rattle.std.proofs.Common.{Option, ap, inl, option_and_then, option_map, refl, ◌∙◌}
use Rattle.std.specs.Prelude.{pos, ℤ}
use Rattle.layout_laws.proofs.FindsAll.{Finds, FindsAll, finds-children, finds-head, finds-rest}
use Rattle.layout_model.specs.Boxes.{units_of_pixels}
use Rattle.layout_model.specs.Consistent.{AllHold, Assignment, Consistent, Entry, Holds}
use Rattle.layout_model.specs.Setting.{Setting}
use Rattle.page_laws.proofs.Find.{find-top}
use Rattle.page_laws.proofs.IsAmong.{distinct-left, distinct-right}
use Rattle.page_laws.specs.Ids.{HasGivenIds}
use Rattle.page_model.specs.Document.{AreDistinct, Node, Nodes, all_ids, element, ids, name_at, name_of, no_nodes, node, text}
use Rattle.page_model.specs.Pages.{Page}

-- a flat block in a containing block of this width
abbrev pub flat_entry : ℤ → Entry
flat_entry width = record {
  box = record {
    left = pos 0;
    top = pos 0;
    width = width;
    height = pos 0;
    content_left = pos 0;
    content_top = pos 0;
    content_width = width;
    content_height = pos 0;
  };
}

-- each element of the tree is given the same flat block
abbrev pub flat_assignment : ℤ → Node → Assignment
flat_assignment width root i = option_map (λ _. flat_entry width) (name_at i root)

mutual
  pub holds-flat : (width : ℤ) (root n : Node) → AreDistinct (ids n) → Finds root n → Holds (flat_assignment width root) (record { width = width }) n
  holds-flat width root (element id name attributes children) d f = (
    flat_entry width,
    ap (λ (o : Option Node). option_map (λ _. flat_entry width) (option_and_then name_of o)) (f id (inl refl) ∙ find-top (element id name attributes children)),
    record { left = refl; top = refl; width = refl; height = refl; content_left = refl; content_top = refl; content_width = refl; content_height = refl },
    all-hold-flat width root children d.1 (finds-children root id name attributes children d f),
  )
  holds-flat width root (text id cs) d f = tt

  all-hold-flat : (width : ℤ) (root : Node) (ns : Nodes) → AreDistinct (all_ids ns) → FindsAll root ns → AllHold (flat_assignment width root) (record { width = width }) ns
  all-hold-flat width root no_nodes d f = tt
  all-hold-flat width root (node n ns) d f = (
    holds-flat width root n (distinct-left (ids n) (all_ids ns) d) (finds-head root n ns f),
    all-hold-flat width root ns (distinct-right (ids n) (all_ids ns) d) (finds-rest root n ns d f),
  )

pub some-consistent : (setting : Setting) (page : Page) → HasGivenIds page.document → (a : Assignment) × Consistent setting page a
some-consistent setting page given =
    let width : ℤ = units_of_pixels page.viewport.width in
    let root : Node = page.document.root in (
      flat_assignment width root,
      record {
        holds = holds-flat width root root given.0 (λ i h. refl);
        no_other = λ i none. rw none refl;
      },
    )
