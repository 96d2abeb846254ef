-- The document after a remove.
use Rattle.std.proofs.Common.{None, arith, sym, ℕ, ◌<◌, ◌≡◌}
use Rattle.page_laws.proofs.Find.{absent-none, unfound-absent}
use Rattle.page_laws.proofs.TreeAfterRemove.{among-kept, distinct-removed, removed-inserted}
use Rattle.page_laws.proofs.WithIds.{id_of-with_ids}
use Rattle.page_laws.specs.Ids.{HasGivenIds}
use Rattle.page_model.specs.Document.{Document, find, with_ids}
use Rattle.page_model.specs.Edits.{document_after_insert, document_after_remove}
use Rattle.page_model.specs.Trees.{Tree}

pub well-removed : (i : ℕ) (d : Document) → HasGivenIds d → HasGivenIds (document_after_remove i d)
well-removed i d w = (distinct-removed i d.root w.0, λ j h. w.1 j (among-kept i j d.root h))

pub dead-removed : (i : ℕ) (d : Document) (j : ℕ) → HasGivenIds d → find j d.root ≡ None → find j (document_after_remove i d).root ≡ None
dead-removed i d j w none =
    absent-none j (document_after_remove i d).root (λ h. unfound-absent j d.root none (among-kept i j d.root h))

pub document-undone : (parent index : ℕ) (t : Tree) (d : Document) → HasGivenIds d → (document_after_remove d.next_id (document_after_insert parent index t d)).root ≡ d.root
document-undone parent index t d w =
    removed-inserted d.next_id parent index (with_ids d.next_id t) d.root (sym (id_of-with_ids d.next_id t)) (λ h. let low : d.next_id < d.next_id = w.1 d.next_id h in omega (arith, low))
