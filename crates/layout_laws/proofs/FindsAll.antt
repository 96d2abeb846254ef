-- Where no id stands twice, a part of a tree has the same nodes by their ids as the whole.
use Rattle.std.proofs.Common.{List, false, inr, refl, ℕ, ◌++◌, ◌==◌, ◌∙◌, ◌≡◌}
use Rattle.page_laws.proofs.Find.{among-find, find-among}
use Rattle.page_laws.proofs.IsAmong.{among-left, among-other, among-right, distinct-apart}
use Rattle.page_laws.proofs.Options.{or-first, or-second}
use Rattle.page_model.specs.Document.{AreDistinct, IsAmong, Node, Nodes, all_ids, element, find, find_in, ids, node}
use Rattle.page_model.specs.Trees.{Attribute, Text}

-- an id of this tree is that of the same node in `root`
abbrev pub Finds : Node → Node → Type 0
Finds root n = (i : ℕ) → IsAmong i (ids n) → find i root ≡ find i n

-- the same of these trees
abbrev pub FindsAll : Node → Nodes → Type 0
FindsAll root ns = (i : ℕ) → IsAmong i (all_ids ns) → find i root ≡ find_in i ns

pub finds-children : (root : Node) (id : ℕ) (name : Text) (attributes : List Attribute) (children : Nodes) → AreDistinct (ids (element id name attributes children))
    → Finds root (element id name attributes children) → FindsAll root children
finds-children root id name attributes children d f = λ i h.
    let other : (i == id) ≡ false = among-other i id (all_ids children) d h in
    let here : find i (element id name attributes children) ≡ find_in i children = rw other refl in
    f i (inr h) ∙ here

pub finds-head : (root n : Node) (ns : Nodes) → FindsAll root (node n ns) → Finds root n
finds-head root n ns f = λ i h.
    f i (among-left i (ids n) (all_ids ns) h) ∙ or-first (find i n) (find_in i ns) (among-find i n h)

pub finds-rest : (root n : Node) (ns : Nodes) → AreDistinct (ids n ++ all_ids ns) → FindsAll root (node n ns) → FindsAll root ns
finds-rest root n ns d f = λ i h.
    f i (among-right i (ids n) (all_ids ns) h)
    ∙ or-second (find i n) (find_in i ns) (λ k. distinct-apart i (ids n) (all_ids ns) d (find-among i n k) h)
