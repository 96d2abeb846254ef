-- The limits of what is loaded after a turn.
use Rattle.std.proofs.Common.{List, None, Option, Some, ltb-false, nat_lt, refl, subst, sym, ℕ, ◌||◌, ◌∷◌, ◌≡◌, unwrap_or, []}
use Rattle.layout_model.specs.Setting.{Setting}
use Rattle.page_laws.proofs.Options.{or-false}
use Rattle.page_model.specs.Edits.{insert_causes, load_causes}
use Rattle.page_model.specs.Pages.{State}
use Rattle.page_model.specs.Refusals.{Causes}
use Rattle.page_model.specs.declared.limits.TheConstants.{MAX_SIDE}
use Rattle.page_model.specs.declared.cause.Cause.{Cause}
use Rattle.page_model.specs.declared.cause.Cause.TheVariants.{NotBuilt, SheetLimit, ViewportRange}
use Rattle.page_laws.proofs.FirstOf.{first-false}
use Rattle.page_laws.proofs.KeptLimits.{kept-inserted, kept-loaded, kept-removed}
use Rattle.page_model.specs.Trees.{Text}
use Rattle.reply_laws.proofs.SheetLimits.{kept-with, kept-without}
use Rattle.reply_laws.specs.States.{StateHasGivenIds, StateKeepsLimits}
use Rattle.reply_model.specs.Replies.{Course, IsAnswered, IsTurn}
use Rattle.request_model.specs.Requests.{Asked, Edit, Request, broken, edit, insert, load, nothing, query, remove, request, sheet}
use Rattle.request_model.specs.States.{answer_by, are_over_sheet_limits, edit_causes, has_text, refusal_of, state_after_edit}
use Rattle.stream_model.specs.Ledger.{Log}

kept-after_edit : (s : State) (e : Edit) → StateHasGivenIds s → StateKeepsLimits s → refusal_of s (edit e) ≡ None → StateKeepsLimits (state_after_edit s e)
unfolding refusal_of
kept-after_edit s (load width height doc sheets) given keeps none =
    let sides : Causes = edit_causes s (load width height doc sheets) in
    let b = first-false (has_text doc) NotBuilt sides none in
    let texts : List Text = unwrap_or sheets [] in
    let c = first-false (nat_lt MAX_SIDE width || nat_lt MAX_SIDE height) ViewportRange ((are_over_sheet_limits texts, SheetLimit) ∷ load_causes doc) b.1 in
    let few = first-false (are_over_sheet_limits texts) SheetLimit (load_causes doc) c.1 in
    let side = or-false (nat_lt MAX_SIDE width) (nat_lt MAX_SIDE height) c.0 in
    record {
      document = kept-loaded doc few.1;
      width = ltb-false MAX_SIDE width side.0;
      height = ltb-false MAX_SIDE height side.1;
      sheets = few.0;
    }
kept-after_edit None (insert parent index new) given keeps none = tt
kept-after_edit (Some page) (insert parent index new) given keeps none =
    let a = first-false (has_text new) NotBuilt (insert_causes parent index new page.document) none in
    record {
      document = kept-inserted parent index new page.document given keeps.document a.1;
      width = keeps.width;
      height = keeps.height;
      sheets = keeps.sheets;
    }
kept-after_edit None (remove id) given keeps none = tt
kept-after_edit (Some page) (remove id) given keeps none = record {
  document = kept-removed id page.document keeps.document;
  width = keeps.width;
  height = keeps.height;
  sheets = keeps.sheets;
}
kept-after_edit None (sheet at css) given keeps none = tt
kept-after_edit (Some page) (sheet at (Some css)) given keeps none = record {
  document = keeps.document;
  width = keeps.width;
  height = keeps.height;
  sheets = kept-with at css page.sheets keeps.sheets none;
}
kept-after_edit (Some page) (sheet at None) given keeps none = record {
  document = keeps.document;
  width = keeps.width;
  height = keeps.height;
  sheets = kept-without at page.sheets keeps.sheets;
}

kept-same : (from to : Course) → to ≡ from → StateKeepsLimits from.state → StateKeepsLimits to.state
kept-same from to e keeps = subst (λ (c : Course). StateKeepsLimits c.state) (sym e) keeps

kept-by : (cause : Option Cause) (setting : Setting) (from to : Course) (q : Request) (own : List Log) (reply : List ℕ)
    → refusal_of from.state q ≡ cause → StateHasGivenIds from.state → StateKeepsLimits from.state
    → IsAnswered (answer_by q cause) setting from (request q) own reply to → StateKeepsLimits to.state
kept-by (Some c) setting from to q own reply is given keeps h = kept-same from to h.2 keeps
kept-by None setting from to (query q) own reply is given keeps h = kept-same from to h.1 keeps
kept-by None setting from to (edit e) own reply is given keeps h =
    subst StateKeepsLimits (sym h.state) (kept-after_edit from.state e given keeps is)

pub kept-turn : (setting : Setting) (from to : Course) (asked : Asked) (own : List Log) (reply : List ℕ)
    → StateHasGivenIds from.state → StateKeepsLimits from.state → IsTurn setting from asked own reply to → StateKeepsLimits to.state
unfolding IsTurn
kept-turn setting from to nothing own reply given keeps h = kept-same from to h.2 keeps
kept-turn setting from to (broken c) own reply given keeps h = kept-same from to h.2 keeps
kept-turn setting from to (request q) own reply given keeps h = kept-by (refusal_of from.state q) setting from to q own reply refl given keeps h
