-- How a document is gone over by numbers.
use Rattle.std.proofs.Common.{◌≡◌, ◌∙◌, ap, refl, ℕ, ◌-◌, ◌≤◌, List, [], ◌++◌, Option, Some, None, option_map, option_and_then, unwrap_or, encode_utf8_all, Result, OnOk, arith}
use Rattle.std.specs.Prelude.{ℤ, pos}
use Rattle.page_model.specs.Document.{Node, element, text, Nodes, no_nodes, node, id_of, ids_of, children_of, name_of, find, height, heights}
use Rattle.page_model.specs.Document.{child_ids}
use Rattle.dom_arena.specs.Found.{AreFound}
use Rattle.layout_model.specs.Boxes.{Box}
use Rattle.relayout_cli.proofs.ReplyLemmas.{OnOk-after}
use Rattle.reply_model.specs.DumpText.{box_line, box_lines, all_box_lines}
use Rattle.relayout_cli.specs.inner.Flat.{flat_box, all_flat}
use Rattle.relayout_cli.specs.inner.Walk.{node_at, nodes_at, Reaches, AllReach}

reach-found : (levels : ℕ) (ns : Nodes) (root : Node) → AreFound root ns → heights ns ≤ levels → AllReach levels (ids_of ns) root
reach-found levels no_nodes root f h = tt
reach-found levels (node n ns) root f h =
    (record { live = rw f.0 refl; number = rw f.0 refl; low = rw f.0 (omega arith) }, reach-found levels ns root f.1 (omega arith))

reach-at : (levels i : ℕ) (root : Node) (o : Option Node) → find i root ≡ o → ((n : Node) → find i root ≡ Some n → AreFound root (children_of n)) → height (unwrap_or o (text i [])) ≤ levels
    → AllReach (levels - 1) (unwrap_or (option_map (λ n. ids_of (children_of n)) o) []) root
reach-at levels i root None e found h = tt
reach-at levels i root (Some (element id name attributes kids)) e found h =
    reach-found (levels - 1) kids root (found (element id name attributes kids) e) (omega arith)
reach-at levels i root (Some (text id cs)) e found h = tt

-- the children of a node do not reach as deep
pub AllReach-kids : (levels i : ℕ) (root : Node) → Reaches levels i root → ((n : Node) → find i root ≡ Some n → AreFound root (children_of n)) → AllReach (levels - 1) (child_ids i root) root
AllReach-kids levels i root r found = reach-at levels i root (find i root) refl found r.low

pub nodes-found : (ns : Nodes) (root : Node) → AreFound root ns → nodes_at (ids_of ns) root ≡ ns
nodes-found no_nodes root f = refl
nodes-found (node n ns) root f = rw f.0 (ap (node n) (nodes-found ns root f.1))

lines-at : (width : ℤ) (i : ℕ) (root : Node) (tag : List ℕ) (o : Option Node) → find i root ≡ o → id_of (unwrap_or o (text i [])) ≡ i → ((n : Node) → find i root ≡ Some n → AreFound root (children_of n))
    → Some tag ≡ option_map encode_utf8_all (option_and_then name_of o)
    → box_line i tag (pos 0) (pos 0) (flat_box width) ++ all_box_lines (all_flat width) (pos 0) (pos 0) (nodes_at (unwrap_or (option_map (λ n. ids_of (children_of n)) o) []) root)
    ≡ box_lines (all_flat width) (pos 0) (pos 0) (unwrap_or o (text i []))
lines-at width i root tag None e number found t = absurd (cc)
lines-at width i root tag (Some (element id name attributes kids)) e number found t =
    let kids_are : nodes_at (ids_of kids) root ≡ kids = nodes-found kids root (found (element id name attributes kids) e) in
    let named : tag ≡ encode_utf8_all name = cc in
    rw (kids_are, number, named) refl
lines-at width i root tag (Some (text id cs)) e number found t = absurd (cc)

-- an element's line and then those of its children were appended
pub OnOk-node : {T E : Type 0} (r : Result T E) (new mid old : List ℕ) (width : ℤ) (levels i : ℕ) (root : Node) (tag : List ℕ) (box : Box) (kids : List ℕ)
    → OnOk r (new ≡ mid ++ all_box_lines (all_flat width) (pos 0) (pos 0) (nodes_at kids root)) → kids ≡ child_ids i root
    → mid ≡ old ++ box_line i tag box.left box.top box → box ≡ flat_box width
    → Reaches levels i root → ((n : Node) → find i root ≡ Some n → AreFound root (children_of n)) → Some tag ≡ option_map encode_utf8_all (option_and_then name_of (find i root))
    → OnOk r (new ≡ old ++ box_lines (all_flat width) (pos 0) (pos 0) (node_at i root))
OnOk-node r new mid old width levels i root tag box kids h are e f reach found t =
    let lower : List ℕ = all_box_lines (all_flat width) (pos 0) (pos 0) (nodes_at kids root) in
    OnOk-after r new mid old (box_line i tag box.left box.top box) lower (box_lines (all_flat width) (pos 0) (pos 0) (node_at i root)) h e
    (ap (λ (b : Box). box_line i tag b.left b.top b ++ lower) f
    ∙ (ap (λ (ids : List ℕ). box_line i tag (pos 0) (pos 0) (flat_box width) ++ all_box_lines (all_flat width) (pos 0) (pos 0) (nodes_at ids root)) are
    ∙ lines-at width i root tag (find i root) refl reach.number found t))
