-- The ids of the new nodes of an edit.
use Rattle.std.proofs.Common.{List, None, Option, Some, [], sym, true, ℕ, ◌∷◌, ◌≡◌}
use Rattle.std.proofs.lemmas.Bool.{false≢true}
use Rattle.page_laws.proofs.DocumentAfterInsert.{document-order}
use Rattle.page_laws.proofs.WithIds.{ids-with_ids}
use Rattle.page_laws.specs.Ids.{HasRun}
use Rattle.page_model.specs.Edits.{insert_causes}
use Rattle.page_model.specs.Pages.{State}
use Rattle.page_model.specs.Trees.{Text, Tree}
use Rattle.page_model.specs.declared.cause.Cause.TheVariants.{NotBuilt, NotLoaded}
use Rattle.page_laws.proofs.FirstOf.{first-false}
use Rattle.page_laws.proofs.KeptLimits.{place-of_insert}
use Rattle.reply_laws.specs.States.{StateHasGivenIds, ids_of_state, new_ids}
use Rattle.request_model.specs.Requests.{edit, insert, load}
use Rattle.request_model.specs.States.{accepted_by, has_text, refusal_of, state_after_edit}

pub ids-loaded : (s : State) (width height : ℕ) (doc : Tree) (sheets : Option (List Text))
    → ids_of_state (state_after_edit s (load width height doc sheets)) ≡ new_ids (accepted_by s (load width height doc sheets))
ids-loaded s width height doc sheets = ids-with_ids 0 doc

pub ids-inserted : (s : State) (parent index : ℕ) (new : Tree) → StateHasGivenIds s → refusal_of s (edit (insert parent index new)) ≡ None
    → HasRun (ids_of_state (state_after_edit s (insert parent index new))) (new_ids (accepted_by s (insert parent index new))) (ids_of_state s)
unfolding refusal_of
ids-inserted None parent index new given none =
    let a = first-false (has_text new) NotBuilt ((true, NotLoaded) ∷ []) none in
    absurd (false≢true (sym (first-false true NotLoaded [] a.1).0))
ids-inserted (Some page) parent index new given none =
    let a = first-false (has_text new) NotBuilt (insert_causes parent index new page.document) none in
    document-order parent index new page.document (place-of_insert parent index new page.document given a.1).0
