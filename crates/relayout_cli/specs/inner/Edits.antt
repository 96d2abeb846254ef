-- What carrying out a request answers.
use Rattle.std.specs.Prelude.{◌≡◌, true}
use Rattle.page_model.specs.Trees.{is_elem}
use Rattle.request_model.specs.Requests.{Edit, load, insert, remove, sheet}

-- the document of a load is an element
abbrev pub HasRoot : Edit → Type 0
HasRoot (load width height doc sheets) = is_elem doc ≡ true
HasRoot (insert parent index new) = Unit {0}
HasRoot (remove id) = Unit {0}
HasRoot (sheet at css) = Unit {0}
