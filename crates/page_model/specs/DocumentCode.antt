-- A document is stored as the starts and ends of its nodes in order.
use Rattle.std.specs.Prelude.{◌≡◌, ◌⊎◌, ℕ, List, [], ◌∷◌, Option, Some, None, refl}
use Rattle.std.proofs.Common.{◌∙◌, ap, inl, inr}
use Rattle.std.specs.Coded.{Coded, code_by, coded_ℕ, coded_list, coded_option, coded×, coded⊎}
use Rattle.page_model.specs.Trees.{Text, Attribute}
use Rattle.page_model.specs.Document.{Node, element, text, Nodes, no_nodes, node, Document}

-- an end, or the start of an element or a text
abbrev pub Start : Type 0
Start = Option ((ℕ × (Text × List Attribute)) ⊎ (ℕ × Text))

-- the starts and ends of the nodes, and then more
abbrev pub starts : Nodes → List Start → List Start
starts no_nodes more = None ∷ more
starts (node (element id name attributes children) ns) more = Some (inl (id, (name, attributes)))
    ∷ starts children (starts ns more)
starts (node (text id cs) ns) more = Some (inr (id, cs)) ∷ starts ns more

abbrev pub joined : (ℕ × (Text × List Attribute)) ⊎ (ℕ × Text) → List Nodes → List Nodes
joined (inl e) (children ∷ ns ∷ more) = node (element e.0 e.1.0 e.1.1 children) ns ∷ more
joined (inl e) (children ∷ []) = []
joined (inl e) [] = []
joined (inr t) (ns ∷ more) = node (text t.0 t.1) ns ∷ more
joined (inr t) [] = []

-- read from the right onto a stack
abbrev pub read_starts : List Start → List Nodes
read_starts [] = []
read_starts (None ∷ more) = no_nodes ∷ read_starts more
read_starts (Some s ∷ more) = joined s (read_starts more)

abbrev pub top : List Nodes → Node
top (node n ns ∷ more) = n
top (no_nodes ∷ more) = text 0 []
top [] = text 0 []

pub read_starts-starts : (ns : Nodes) (more : List Start)
    → read_starts (starts ns more) ≡ ns ∷ read_starts more
read_starts-starts no_nodes more = refl
read_starts-starts (node (element id name attributes children) ns) more =
    ap (joined (inl (id, (name, attributes)))) (read_starts-starts children (starts ns more) ∙ ap
    (λ (st : List Nodes). children ∷ st) (read_starts-starts ns more))
read_starts-starts (node (text id cs) ns) more = ap (joined (inr (id, cs))) (read_starts-starts ns more)

abbrev pub coded_start : Coded Start
coded_start = coded_option (coded⊎ (coded× coded_ℕ (coded× (coded_list coded_ℕ)
    (coded_list (coded× (coded_list coded_ℕ) (coded_list coded_ℕ)))))
    (coded× coded_ℕ (coded_list coded_ℕ)))

abbrev pub coded_node : Coded Node
coded_node =
    code_by (List Start) (coded_list coded_start) (λ n. starts (node n no_nodes) [])
    (λ ss. top (read_starts ss)) (λ n. ap top (read_starts-starts (node n no_nodes) []))

abbrev pub coded_document : Coded Document
coded_document =
    code_by (Node × ℕ) (coded× coded_node coded_ℕ) (λ d. (d.root, d.next_id))
    (λ p. record { root = p.0; next_id = p.1 }) (λ _. refl)
