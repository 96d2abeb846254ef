-- The ids of what is loaded after a turn.
use Rattle.std.proofs.Common.{List, None, Some, subst, sym, ℕ, ◌≡◌}
use Rattle.layout_model.specs.Setting.{Setting}
use Rattle.page_laws.proofs.DocumentAfterInsert.{well-inserted, well-loaded}
use Rattle.page_laws.proofs.DocumentAfterRemove.{well-removed}
use Rattle.page_model.specs.Pages.{State}
use Rattle.reply_laws.specs.States.{StateHasGivenIds}
use Rattle.reply_model.specs.Replies.{Course, IsAnswered, IsTurn}
use Rattle.request_model.specs.Requests.{Asked, Edit, edit, insert, load, query, remove, sheet}
use Rattle.request_model.specs.States.{Answer, accepted, answer_to, refused, silent, state_after_edit}
use Rattle.stream_model.specs.Ledger.{Log}

given-after_edit : (s : State) (e : Edit) → StateHasGivenIds s → StateHasGivenIds (state_after_edit s e)
given-after_edit s (load width height doc sheets) given = well-loaded doc
given-after_edit None (insert parent index new) given = tt
given-after_edit (Some page) (insert parent index new) given = well-inserted parent index new page.document given
given-after_edit None (remove id) given = tt
given-after_edit (Some page) (remove id) given = well-removed id page.document given
given-after_edit None (sheet at css) given = tt
given-after_edit (Some page) (sheet at css) given = given

given-same : (from to : Course) → to ≡ from → StateHasGivenIds from.state → StateHasGivenIds to.state
given-same from to e given = subst (λ (c : Course). StateHasGivenIds c.state) (sym e) given

given-answered : (answer : Answer) (setting : Setting) (from to : Course) (asked : Asked) (own : List Log) (reply : List ℕ)
    → StateHasGivenIds from.state → IsAnswered answer setting from asked own reply to → StateHasGivenIds to.state
given-answered silent setting from to asked own reply given h = given-same from to h.2 given
given-answered (refused c) setting from to asked own reply given h = given-same from to h.2 given
given-answered (accepted (edit e)) setting from to asked own reply given h =
    subst StateHasGivenIds (sym h.state) (given-after_edit from.state e given)
given-answered (accepted (query q)) setting from to asked own reply given h = given-same from to h.1 given

pub given-turn : (setting : Setting) (from to : Course) (asked : Asked) (own : List Log) (reply : List ℕ)
    → StateHasGivenIds from.state → IsTurn setting from asked own reply to → StateHasGivenIds to.state
unfolding IsTurn
given-turn setting from to asked own reply given h = given-answered (answer_to from.state asked) setting from to asked own reply given h
