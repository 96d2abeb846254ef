-- What an insert asks of a document, and what it does to the slots.
use Rattle.std.specs.Prelude.{◌≡◌, ℕ, ◌+◌, ◌≤◌, ◌∷◌, [], length, Some, None, is_none}
use Rattle.page_model.specs.Document.{Document, find, name_at}
use Rattle.page_model.specs.Edits.{document_after_insert, insert_causes}
use Rattle.page_model.specs.Refusals.{Causes, first_of}
use Rattle.page_model.specs.Trees.{Tree, depth, size, text_size}
use Rattle.page_model.specs.declared.cause.Cause.TheVariants.{NoNode, NotElement}
use Rattle.page_model.specs.declared.limits.TheConstants.{MAX_DEPTH, MAX_IDS, MAX_NODES, MAX_TEXTS}
use Rattle.dom_arena.specs.Docs.{IsDoc, document_in}
use Rattle.dom_arena.specs.Slots.{table_at}
use Rattle.dom_arena.specs.Stores.{IsStore, Kept}
use Rattle.dom_arena.specs.Taking.{IsDocOf}

-- the node `i` is not there, or no element
abbrev pub element_causes : ℕ → Document → Causes
element_causes i d = (is_none (find i d.root), NoNode) ∷ (is_none (name_at i d.root), NotElement) ∷ []

-- a tree can be built beside what is kept
pub record HasRoom (k : Kept) (t : Tree) : Type 0 where
  pub store : IsStore k
  pub nodes : k.live + size t ≤ MAX_NODES
  pub ids : length k.table + size t ≤ MAX_IDS
  pub code_points : k.code_points + text_size t ≤ MAX_TEXTS
  pub low : depth t ≤ MAX_DEPTH

-- a document is as after an insert of this tree below the node in the slot `at`, where no cause refuses it
abbrev pub Inserts : Kept → Kept → ℕ → ℕ → Tree → Type 0
Inserts old new at index t = (root parent : ℕ) → IsDoc old root → table_at old.table parent ≡ Some at
    → first_of (insert_causes parent index t (document_in old root)) ≡ None
    → IsDocOf new root (document_after_insert parent index t (document_in old root))
