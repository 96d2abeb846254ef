-- What the steps of a combinator lead to (Selectors 4, section 15).
use Rattle.std.specs.Prelude.{ℕ}
use Rattle.page_model.specs.Document.{Node, IsAmong}
use Rattle.selectors_model.specs.declared.combinator.Combinator.{Combinator}
use Rattle.selectors_model.specs.Elements.{left_of}

-- one or more steps lead from the element `i` to this one, each of them to an element on the left
-- of
-- the combinator
pub data IsReached (root : Node) (combinator : Combinator) (i : ℕ) : ℕ → Type 0 where
  one_step : (e : ℕ) → IsAmong e (left_of combinator i root) → IsReached root combinator i e
  next_step : (d e : ℕ) → IsReached root combinator i d → IsAmong e (left_of combinator d root)
      → IsReached root combinator i e
