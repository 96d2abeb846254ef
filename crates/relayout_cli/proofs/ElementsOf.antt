-- The elements of a tree are found by their ids, and gathered by them.
use Rattle.std.proofs.Common.{◌≡◌, ◌∙◌, ap, refl, append_assoc, ℕ, List, [], ◌∷◌, ◌++◌, Option, Some, None, option_map, option_and_then, unwrap_or, encode_utf8_all, Result, Ok, Err, OnOk, Bool, is_some, not, false}
use Rattle.std.specs.List.{All}
use Rattle.std.proofs.lemmas.List.Elements.{All-append, All-cons, All-nil}
use Rattle.page_model.specs.Document.{Node, element, text, Nodes, no_nodes, node, id_of, ids_of, ids, AreDistinct, children_of, name_of, find, child_ids}
use Rattle.dom_arena.specs.Found.{AreFound}
use Rattle.dom_arena.proofs.Found.{find-children}
use Rattle.selectors_model.specs.Matching.{elements_of, elements_among}
use Rattle.relayout_cli.specs.inner.Walk.{node_at, nodes_at}
use Rattle.relayout_cli.specs.inner.Elements.{IsElement}
use Rattle.relayout_cli.proofs.WalkLemmas.{nodes-found}

mutual
  pub are-elements : (root n : Node) → AreDistinct (ids root) → find (id_of n) root ≡ Some n → All (IsElement root) (elements_of n)
  are-elements root (element id name attributes kids) d f =
      All-cons (IsElement root) id (elements_among kids) (rw f refl)
      (are-elements-among root kids d (find-children id root (element id name attributes kids) d f))
  are-elements root (text id cs) d f = All-nil (IsElement root)

  are-elements-among : (root : Node) (ns : Nodes) → AreDistinct (ids root) → AreFound root ns → All (IsElement root) (elements_among ns)
  are-elements-among root no_nodes d f = All-nil (IsElement root)
  are-elements-among root (node n ns) d f =
      All-append (IsElement root) (elements_of n) (elements_among ns) (are-elements root n d f.0) (are-elements-among root ns d f.1)

elements-at : (i : ℕ) (root : Node) (tag : List ℕ) (o : Option Node) → find i root ≡ o → id_of (unwrap_or o (text i [])) ≡ i → ((n : Node) → find i root ≡ Some n → AreFound root (children_of n))
    → Some tag ≡ option_map encode_utf8_all (option_and_then name_of o)
    → i ∷ elements_among (nodes_at (unwrap_or (option_map (λ n. ids_of (children_of n)) o) []) root) ≡ elements_of (unwrap_or o (text i []))
elements-at i root tag None e number found t = absurd (cc)
elements-at i root tag (Some (element id name attributes kids)) e number found t =
    let kids_are : nodes_at (ids_of kids) root ≡ kids = nodes-found kids root (found (element id name attributes kids) e) in
    rw (kids_are, number) refl
elements-at i root tag (Some (text id cs)) e number found t = absurd (cc)

none-at : (i : ℕ) (o : Option Node) → None ≡ option_map encode_utf8_all (option_and_then name_of o) → elements_of (unwrap_or o (text i [])) ≡ []
none-at i None t = refl
none-at i (Some (element id name attributes kids)) t = absurd (cc)
none-at i (Some (text id cs)) t = refl

-- an element's id and then those of the elements below it were appended
pub OnOk-elements : {T E X : Type 0} (f : X → List ℕ) (r : Result T E) (new mid old : List ℕ) (i : ℕ) (root : Node) (tag : Option X) (none : Bool) (kids : List ℕ)
    → OnOk r (new ≡ mid ++ elements_among (nodes_at kids root)) → kids ≡ child_ids i root → mid ≡ old ++ i ∷ []
    → id_of (node_at i root) ≡ i → ((n : Node) → find i root ≡ Some n → AreFound root (children_of n)) → is_some tag ≡ not none → none ≡ false → option_map f tag ≡ option_map encode_utf8_all (option_and_then name_of (find i root))
    → OnOk r (new ≡ old ++ elements_of (node_at i root))
OnOk-elements f (Ok x) new mid old i root None none kids h are e number found is not t = absurd (cc)
OnOk-elements f (Ok x) new mid old i root (Some tag) none kids h are e number found is not t =
    h ∙ (ap (λ front. front ++ elements_among (nodes_at kids root)) e
    ∙ (append_assoc old (i ∷ []) (elements_among (nodes_at kids root))
    ∙ ap (λ rest. old ++ rest) (ap (λ ids. i ∷ elements_among (nodes_at ids root)) are ∙ elements-at i root (f tag) (find i root) refl number found t)))
OnOk-elements f (Err x) new mid old i root tag none kids h are e number found is not t = tt
