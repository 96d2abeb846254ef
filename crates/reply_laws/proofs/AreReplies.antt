-- A script has replies, and by its logs there is one text of them.
use Rattle.std.proofs.Common.{Bool, List, None, Some, [], ap, ap₂, append-nil, cond, false, length, true, refl, subst, sym, ℕ, ◌++◌, ◌∷◌, ◌∙◌, ◌≡◌}
use Rattle.layout_model.specs.Setting.{Setting}
use Rattle.page_model.specs.Pages.{State}
use Rattle.page_model.specs.declared.cause.Cause.{Cause}
use Rattle.reply_laws.proofs.AreLogs.{cut-same}
use Rattle.reply_laws.proofs.IsAnswered.{length-turn, turn-accepted, turn-dump, turn-one, turn-some}
use Rattle.reply_laws.proofs.StateHasGivenIds.{given-turn}
use Rattle.reply_laws.specs.Scripts.{IsEditThenDump}
use Rattle.reply_laws.specs.States.{StateHasGivenIds}
use Rattle.reply_model.specs.Replies.{AreReplies, Course, IsEditReply, IsQueryReply, IsTurn, Step}
use Rattle.request_model.specs.Requests.{Edit, asked_of_line, edit, query, request}
use Rattle.request_model.specs.States.{refusal_of, state_after_edit}
use Rattle.request_model.specs.declared.query.Query.TheVariants.{Dump}
use Rattle.stream_model.specs.Ledger.{Log}

pub replies-some : (setting : Setting) (lines : List (List ℕ)) (from : Course) → StateHasGivenIds from.state
    → (logs : List Log) × ((text : List ℕ) × AreReplies setting from lines logs text)
unfolding AreReplies
replies-some setting [] from given = ([], ([], (refl, refl)))
replies-some setting (line ∷ lines) from given =
    let turn = turn-some setting from (asked_of_line line) given in
    let rest = replies-some setting lines turn.1.1.0 (given-turn setting from turn.1.1.0 (asked_of_line line) turn.0 turn.1.0 given turn.1.1.1) in (
      turn.0 ++ rest.0,
      (
        turn.1.0 ++ rest.1.0,
        (
          record {
            own = turn.0;
            later = rest.0;
            reply = turn.1.0;
            others = rest.1.0;
            to = turn.1.1.0;
            logs_are = refl;
            text_is = refl;
            turn = turn.1.1.1;
          },
          rest.1.1,
        ),
      ),
    )

pub replies-one : (setting : Setting) (lines : List (List ℕ)) (from : Course) (logs : List Log) (text text' : List ℕ)
    → AreReplies setting from lines logs text → AreReplies setting from lines logs text' → text ≡ text'
unfolding AreReplies
replies-one setting [] from logs text text' p q = p.1 ∙ sym q.1
replies-one setting (line ∷ lines) from logs text text' p q =
    let s : Step setting from line logs text = p.0 in
    let t : Step setting from line logs text' = q.0 in
    let count : length s.own ≡ length t.own =
    length-turn setting from s.to (asked_of_line line) s.own s.reply s.turn ∙ sym (length-turn setting from t.to (asked_of_line line) t.own t.reply t.turn) in
    let cut : (s.own ≡ t.own) × (s.later ≡ t.later) = cut-same s.own s.later t.own t.later count (sym s.logs_are ∙ t.logs_are) in
    let turn : IsTurn setting from (asked_of_line line) t.own s.reply s.to =
    subst (λ (own : List Log). IsTurn setting from (asked_of_line line) own s.reply s.to) cut.0 s.turn in
    let same : (s.reply ≡ t.reply) × (s.to ≡ t.to) = turn-one setting from s.to t.to (asked_of_line line) t.own s.reply t.reply turn t.turn in
    let later : AreReplies setting s.to lines t.later s.others =
    subst (λ (logs : List Log). AreReplies setting s.to lines logs s.others) cut.1 p.1 in
    let there : AreReplies setting t.to lines t.later s.others =
    subst (λ (to : Course). AreReplies setting to lines t.later s.others) same.1 later in
    let others : s.others ≡ t.others = replies-one setting lines t.to t.later s.others t.others there q.1 in
    s.text_is ∙ (ap₂ (λ (x y : List ℕ). x ++ y) same.0 others ∙ sym t.text_is)

-- ---- a dump after an edit

some-cause : (b : Bool) (c d : Cause) → cond b (Some c) (Some d) ≡ None → ⊥
some-cause true c d h = cc
some-cause false c d h = cc

pub edit-then-dump : (setting : Setting) (from : Course) (first second : List ℕ) (e : Edit) (logs : List Log) (text : List ℕ)
    → asked_of_line first ≡ request (edit e) → asked_of_line second ≡ request (query Dump)
    → refusal_of from.state (edit e) ≡ None → refusal_of (state_after_edit from.state e) (query Dump) ≡ None
    → AreReplies setting from (first ∷ second ∷ []) logs text
    → IsEditThenDump setting from e logs text
unfolding AreReplies
edit-then-dump setting from first second e logs text one two none dumps p =
    let s : Step setting from first logs text = p.0 in
    let t : Step setting s.to second s.later s.others = p.1.0 in
    let edit_turn : IsTurn setting from (request (edit e)) s.own s.reply s.to =
    subst (λ asked. IsTurn setting from asked s.own s.reply s.to) one s.turn in
    let dump_turn : IsTurn setting s.to (request (query Dump)) t.own t.reply t.to =
    subst (λ asked. IsTurn setting s.to asked t.own t.reply t.to) two t.turn in
    let edited : IsEditReply setting from e s.own s.reply s.to = turn-accepted setting from s.to (edit e) s.own s.reply none edit_turn in
    let after : refusal_of s.to.state (query Dump) ≡ None = subst (λ (s : State). refusal_of s (query Dump) ≡ None) (sym edited.state) dumps in
    record {
      to = s.to;
      edit_logs = s.own;
      dump_logs = t.own;
      edit_reply = s.reply;
      dump_reply = t.reply;
      logs_are = s.logs_are ∙ ap (λ (rest : List Log). s.own ++ rest) (t.logs_are ∙ (ap (λ (rest : List Log). t.own ++ rest) p.1.1.0 ∙ append-nil t.own));
      text_is = s.text_is ∙ ap (λ (rest : List ℕ). s.reply ++ rest) (t.text_is ∙ (ap (λ (rest : List ℕ). t.reply ++ rest) p.1.1.1 ∙ append-nil t.reply));
      edited = edited;
      dumped = subst (λ (state : State). IsQueryReply state setting s.to Dump t.own t.reply) edited.state (turn-dump setting s.to t.to t.own t.reply after dump_turn);
    }
