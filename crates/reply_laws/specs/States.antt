-- States by what is loaded.
use Rattle.std.specs.Prelude.{List, None, Some, [], false, ℕ, ◌≡◌, ◌≤◌}
use Rattle.page_laws.specs.Ids.{HasGivenIds, count_up}
use Rattle.page_laws.specs.Limits.{KeepsLimits}
use Rattle.page_model.specs.Document.{ids}
use Rattle.page_model.specs.Pages.{Page, State}
use Rattle.page_model.specs.declared.limits.TheConstants.{MAX_SIDE}
use Rattle.request_model.specs.States.{are_over_sheet_limits}
use Rattle.request_model.specs.declared.accepted.Accepted.{Accepted}

-- no id stands twice on what is loaded, and each is below the one that the next new node gets
abbrev pub StateHasGivenIds : State → Type 0
StateHasGivenIds None = Unit {0}
StateHasGivenIds (Some page) = HasGivenIds page.document

-- a page breaks no limit
pub record PageKeepsLimits (page : Page) : Type 0 where
  pub document : KeepsLimits page.document
  pub width : page.viewport.width ≤ MAX_SIDE
  pub height : page.viewport.height ≤ MAX_SIDE
  pub sheets : are_over_sheet_limits page.sheets ≡ false

-- what is loaded breaks no limit
abbrev pub StateKeepsLimits : State → Type 0
StateKeepsLimits None = Unit {0}
StateKeepsLimits (Some page) = PageKeepsLimits page

-- the ids of what is loaded, in document order
abbrev pub ids_of_state : State → List ℕ
ids_of_state None = []
ids_of_state (Some page) = ids page.document.root

-- the ids that an edit's reply says of its new nodes
abbrev pub new_ids : Accepted → List ℕ
new_ids new = count_up new.first new.count
