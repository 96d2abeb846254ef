-- Documents of the examples.
use Rattle.std.specs.Prelude.{[], ◌∷◌, codes}
use Rattle.page_model.specs.Document.{Node, element, text, no_nodes, node}

-- `ul` with three `li`
abbrev pub list_items : Node
list_items = element 0 (codes "ul") []
    (node (element 1 (codes "li") [] no_nodes)
    (node (element 2 (codes "li") [] no_nodes)
    (node (element 3 (codes "li") [] no_nodes) no_nodes)))

-- `div` with `p` of two classes, `p` and `q`
abbrev pub paragraphs : Node
paragraphs = element 0 (codes "div") []
    (node (element 1 (codes "p") ((codes "class", codes "a b") ∷ []) no_nodes)
    (node (element 2 (codes "p") [] no_nodes)
    (node (element 3 (codes "q") [] no_nodes) no_nodes)))

-- `a` and `b` in one another, and texts between
abbrev pub tree : Node
tree = element 0 (codes "a") []
    (node (text 1 (codes "x"))
    (node (element 2 (codes "b") []
    (node (element 3 (codes "a") []
    (node (element 4 (codes "b") [] no_nodes) no_nodes)) no_nodes))
    (node (text 5 (codes "y"))
    (node (element 6 (codes "a") [] no_nodes)
    (node (element 7 (codes "b") [] no_nodes) no_nodes)))))

-- classes and ids
abbrev pub classes : Node
classes = element 0 (codes "a") []
    (node (element 1 (codes "b") ((codes "class", codes "x y") ∷ (codes "id", codes "x y") ∷ []) no_nodes)
    (node (element 2 (codes "b") ((codes "class", codes "xy") ∷ (codes "id", codes "x") ∷ []) no_nodes)
    (node (element 3 (codes "b") ((codes "class", codes "x\tz") ∷ []) no_nodes)
    (node (element 4 (codes "b") ((codes "class", 120 ∷ 160 ∷ 121 ∷ []) ∷ []) no_nodes)
    (node (element 5 (codes "b") ((codes "class", codes "") ∷ (codes "id", codes "") ∷ []) no_nodes) no_nodes)))))

-- two words with one code point between
abbrev pub spaced : Node
spaced = element 0 (codes "r") []
    (node (element 1 (codes "b") ((codes "a", 120 ∷ 10 ∷ 121 ∷ []) ∷ []) no_nodes)
    (node (element 2 (codes "b") ((codes "a", 120 ∷ 12 ∷ 121 ∷ []) ∷ []) no_nodes)
    (node (element 3 (codes "b") ((codes "a", 120 ∷ 13 ∷ 121 ∷ []) ∷ []) no_nodes)
    (node (element 4 (codes "b") ((codes "a", 120 ∷ 32 ∷ 121 ∷ []) ∷ []) no_nodes)
    (node (element 5 (codes "b") ((codes "a", 120 ∷ 11 ∷ 121 ∷ []) ∷ []) no_nodes) no_nodes)))))

-- values of an attribute
abbrev pub values : Node
values = element 0 (codes "r") []
    (node (element 1 (codes "b") ((codes "v", codes "") ∷ []) no_nodes)
    (node (element 2 (codes "b") ((codes "v", codes "a") ∷ []) no_nodes)
    (node (element 3 (codes "b") ((codes "v", codes "a-b") ∷ []) no_nodes)
    (node (element 4 (codes "b") ((codes "v", codes "ab") ∷ []) no_nodes)
    (node (element 5 (codes "b") ((codes "v", codes "a b") ∷ []) no_nodes)
    (node (element 6 (codes "b") ((codes "v", codes "-b") ∷ []) no_nodes)
    (node (element 7 (codes "b") ((codes "v", codes "b a") ∷ []) no_nodes) no_nodes)))))))
