-- How what a line asks for is answered.
use Rattle.std.proofs.Common.{◌≡◌, ◌∙◌, sym, ap, subst, refl, ℕ, zero, suc, List, [], ◌∷◌, ◌++◌, Bool, true, false, inl, inr, Option, Some, None, Result, Ok, Err, OnOk, OnErr, append-nil, is_none}
use Rattle.std.proofs.lemmas.Bool.{false≢true}
use Rattle.stream_model.specs.Ledger.{Event, Log}
use Rattle.page_model.specs.Pages.{State}
use Rattle.page_model.specs.Trees.{Tree, elem, characters, is_elem}
use Rattle.page_model.specs.Refusals.{Causes, first_of, cause_of, IsFirstCause, IsRefusedBy}
use Rattle.page_model.specs.declared.cause.Cause.{Cause}
use Rattle.page_model.specs.declared.cause.Cause.TheVariants.{BadSelector, NotBuilt, NotLoaded}
use Rattle.page_model.specs.declared.refusal.Refusal.{Refusal}
use Rattle.request_model.specs.declared.query.Query.{Query}
use Rattle.request_model.specs.declared.query.Query.TheVariants.{Dump, Match, Rules, Style}
use Rattle.request_model.specs.declared.accepted.Accepted.{Accepted}
use Rattle.request_model.specs.Requests.{Edit, load, insert, remove, sheet, Request, edit, query, Asked, nothing, broken, request}
use Rattle.request_model.specs.States.{Answer, silent, refused, accepted, answer_to, answer_by, refusal_of, form_causes, style_causes, request_causes, edit_causes, state_after_edit, accepted_by, brings_tree, logs_of_asked, logs_of_asked, has_text, is_styled_page}
use Rattle.layout_model.specs.Setting.{Setting}
use Rattle.reply_model.specs.Spelling.{error_line, ok_line}
use Rattle.page_model.specs.Pages.{Page}
use Rattle.page_model.specs.Trees.{Text}
use Rattle.selectors_model.specs.SelectorTexts.{selector_list_of_text}
use Rattle.selectors_model.specs.Selectors.{SelectorList}
use Rattle.reply_model.specs.MatchText.{match_lines, match_text_by}
use Rattle.reply_model.specs.RulesText.{rules_text}
use Rattle.reply_model.specs.Replies.{Course, IsTurn, IsAnswered, IsQueryReply, IsStyleLog, AreLogs, edit_text}
use Rattle.dom_arena.specs.Faults.{AnswersBy, refusal_of_fault, cause_in}
use Rattle.dom_arena.specs.declared.fault.DocFault.{DocFault}
use Rattle.relayout_cli.specs.Pages.{page_view, state_view}
use Rattle.relayout_cli.specs.declared.page.Page.{Page as KeptPage}
use Rattle.relayout_cli.specs.inner.Turns.{CarriesOut, IsResponse, SetsOut, empty_logs, logs_with}
use Rattle.relayout_cli.specs.inner.Dumps.{IsDumpOf, IsDumpBy, IsDumpReply}
use Rattle.relayout_cli.specs.inner.MatchReplies.{IsMatchBy, IsMatchReply}
use Rattle.relayout_cli.specs.inner.StyleReplies.{AnswersStyle, AnswersStyleBy}
use Rattle.page_styles.specs.Styles.{LogsStyling}
use Rattle.relayout_cli.specs.inner.Edits.{HasRoot}

-- ---- causes

first_of-before : (cs ds : Causes) (c : Cause) → first_of cs ≡ Some c → first_of (cs ++ ds) ≡ Some c
first_of-before [] ds c h = absurd (cc)
first_of-before ((true, d) ∷ cs) ds c h = h
first_of-before ((false, d) ∷ cs) ds c h = first_of-before cs ds c h

first_of-after : (cs ds : Causes) → first_of cs ≡ None → first_of (cs ++ ds) ≡ first_of ds
first_of-after [] ds h = refl
first_of-after ((true, d) ∷ cs) ds h = absurd (cc)
first_of-after ((false, d) ∷ cs) ds h = first_of-after cs ds h

-- a form that is not built is refused as such
one-not_built : (a : Bool) → is_none (first_of ((a, NotBuilt) ∷ [])) ≡ false → first_of ((a, NotBuilt) ∷ []) ≡ Some NotBuilt
one-not_built true h = refl
one-not_built false h = absurd (false≢true (sym h))

forms-not_built : (q : Request) → is_none (first_of (form_causes q)) ≡ false → first_of (form_causes q) ≡ Some NotBuilt
forms-not_built (edit (load width height doc sheets)) h = one-not_built _ h
forms-not_built (edit (insert parent index new)) h = one-not_built _ h
forms-not_built (edit (remove id)) h = absurd (false≢true (sym h))
forms-not_built (edit (sheet at css)) h = absurd (false≢true (sym h))
forms-not_built (query q) h = absurd (false≢true (sym h))

pub refusal-not_built : (s : State) (q : Request) → is_none (first_of (form_causes q)) ≡ false → refusal_of s q ≡ Some NotBuilt
unfolding refusal_of
refusal-not_built s q h = first_of-before (form_causes q) (request_causes s q) NotBuilt (forms-not_built q h)

refusal-built : (s : State) (q : Request) → first_of (form_causes q) ≡ None → refusal_of s q ≡ first_of (request_causes s q)
unfolding refusal_of
refusal-built s q h = first_of-after (form_causes q) (request_causes s q) h

none-is_none : (o : Option Cause) → is_none o ≡ true → o ≡ None
none-is_none None h = refl
none-is_none (Some c) h = absurd (false≢true h)

pub forms-built : (q : Request) → is_none (first_of (form_causes q)) ≡ true → first_of (form_causes q) ≡ None
forms-built q h = none-is_none (first_of (form_causes q)) h

-- the document of a load whose form is built is an element
textless-root : (doc : Tree) → first_of ((has_text doc, NotBuilt) ∷ []) ≡ None → is_elem doc ≡ true
textless-root (elem name attributes kids) h = refl
textless-root (characters text) h = absurd (cc)

pub built-root : (e : Edit) → first_of (form_causes (edit e)) ≡ None → HasRoot e
built-root (load width height doc sheets) h = textless-root doc h
built-root (insert parent index new) h = tt
built-root (remove id) h = tt
built-root (sheet at css) h = tt

-- a document's fault is a refusal by the causes of its call
by-cause : (causes : Causes) (o : Option Cause) → first_of causes ≡ o → IsFirstCause causes o
by-cause causes None h = tt
by-cause causes (Some c) h = h

pub refused-fault : {X : Type 0} (causes : Causes) (r : Result X DocFault) (e : DocFault) → AnswersBy causes r → r ≡ Err e → IsRefusedBy causes (refusal_of_fault e)
refused-fault causes r e h is = elim (subst (λ (q : Result _ DocFault). AnswersBy causes q) is h) [
  | inl memory ↦ rw memory tt
  | inr cause ↦ by-cause causes (cause_in e) cause
]

-- ---- turns

at-turn : (setting : Setting) (from to : Course) (s : State) (asked : Asked) (own : List Log) (reply : List ℕ) (a : Answer)
    → from.state ≡ s → answer_to s asked ≡ a → IsAnswered a setting from asked own reply to → IsTurn setting from asked own reply to
unfolding IsTurn
at-turn setting from to s asked own reply a at is h =
    subst (λ (b : Answer). IsAnswered b setting from asked own reply to) (sym (ap (λ (t : State). answer_to t asked) at ∙ is)) h

pub empty-are : (n : ℕ) → AreLogs n (λ log. log ≡ []) (empty_logs n)
empty-are zero = refl
empty-are (suc n) = ([], refl, (empty_logs n, empty-are n, refl))

pub response-silent : (page : Option KeptPage) (reply : List ℕ) → reply ≡ [] → IsResponse nothing [] reply page page
response-silent page reply e = λ setting from at. (from, at-turn setting from from (state_view page) nothing [] reply silent at refl (refl, e, refl), at)

pub response-refused : (page : Option KeptPage) (asked : Asked) (c : Cause) (reply : List ℕ) → answer_to (state_view page) asked ≡ refused c → reply ≡ error_line c
    → IsResponse asked (empty_logs (logs_of_asked asked)) reply page page
response-refused page asked c reply is e = λ setting from at.
    (from, at-turn setting from from (state_view page) asked (empty_logs (logs_of_asked asked)) reply (refused c) at is (empty-are (logs_of_asked asked), e, refl), at)

-- a request that is refused for its form, or for what is loaded
pub response-not_built : (page : Option KeptPage) (q : Request) (reply : List ℕ) → is_none (first_of (form_causes q)) ≡ false → reply ≡ error_line NotBuilt
    → IsResponse (request q) (empty_logs (logs_of_asked (request q))) reply page page
response-not_built page q reply h e = response-refused page (request q) NotBuilt reply (ap (answer_by q) (refusal-not_built (state_view page) q h)) e

pub response-cause : (page : Option KeptPage) (q : Request) (c : Cause) (reply : List ℕ) → first_of (form_causes q) ≡ None → first_of (request_causes (state_view page) q) ≡ Some c → reply ≡ error_line c
    → IsResponse (request q) (empty_logs (logs_of_asked (request q))) reply page page
response-cause page q c reply built h e = response-refused page (request q) c reply (ap (answer_by q) (refusal-built (state_view page) q built ∙ h)) e

pub response-edit : (page page' : Option KeptPage) (e : Edit) (reply : List ℕ) → first_of (form_causes (edit e)) ≡ None → first_of (edit_causes (state_view page) e) ≡ None
    → state_view page' ≡ state_after_edit (state_view page) e → reply ≡ edit_text (brings_tree e) (accepted_by (state_view page) e)
    → IsResponse (request (edit e)) (empty_logs (logs_of_asked (request (edit e)))) reply page page'
response-edit page page' e reply built allowed after told = λ setting from at. (
  record { state = state_view page'; last = [] },
  at-turn setting from (record { state = state_view page'; last = [] }) (state_view page) (request (edit e)) ([] ∷ []) reply (accepted (edit e)) at
      (ap (answer_by (edit e)) (refusal-built (state_view page) (edit e) built ∙ allowed)) (record {
        logs = ([], refl, ([], refl, refl));
        text = told ∙ ap (λ (s : State). edit_text (brings_tree e) (accepted_by s e)) (sym at);
        state = after ∙ ap (λ (s : State). state_after_edit s e) (sym at);
        last = refl;
      }),
  refl,
)

-- one cause alone
one-holds : (b : Bool) (c : Cause) → b ≡ true → first_of ((b, c) ∷ []) ≡ Some c
one-holds b c h = rw h refl

one-fails : (b : Bool) (c : Cause) → b ≡ false → first_of ((b, c) ∷ []) ≡ None
one-fails b c h = rw h refl

-- a dump, by whether a box may be another than that of a plain block
response-dump : (page : KeptPage) (reply : List ℕ) (b : Bool) → is_styled_page (page_view page) ≡ b → IsDumpBy b (page_view page) reply
    → IsResponse (request (query Dump)) (empty_logs (logs_of_asked (request (query Dump)))) reply (Some page) (Some page)
response-dump page reply true is h = response-cause (Some page) (query Dump) NotBuilt reply refl (one-holds _ NotBuilt is) h
response-dump page reply false is h = λ setting from at. (
  from,
  at-turn setting from from (Some (page_view page)) (request (query Dump)) ([] ∷ []) reply (accepted (query Dump)) at
      (ap (answer_by (query Dump)) (refusal-built (Some (page_view page)) (query Dump) refl ∙ one-fails _ NotBuilt is))
      (subst (λ (s : State). IsQueryReply s setting from Dump ([] ∷ []) reply) (sym at) ((h setting).0, (h setting).1, ([], refl, ([], refl, refl)), (h setting).2), refl),
  at,
)

response-rules : (page : KeptPage) (reply : List ℕ) → reply ≡ rules_text ((page_view page).sheets) ++ ok_line
    → IsResponse (request (query Rules)) (empty_logs (logs_of_asked (request (query Rules)))) reply (Some page) (Some page)
response-rules page reply told = λ setting from at. (
  from,
  at-turn setting from from (Some (page_view page)) (request (query Rules)) [] reply (accepted (query Rules)) at
      (ap (answer_by (query Rules)) (refusal-built (Some (page_view page)) (query Rules) refl))
      (subst (λ (s : State). IsQueryReply s setting from Rules [] reply) (sym at) (refl, told), refl),
  at,
)

-- a match, by the selector list that its text is, if it is one
response-match : (page : KeptPage) (selector : Text) (reply : List ℕ) (list : Option SelectorList) → selector_list_of_text selector ≡ list → IsMatchBy list (page_view page) reply
    → IsResponse (request (query (Match selector))) (empty_logs (logs_of_asked (request (query (Match selector))))) reply (Some page) (Some page)
response-match page selector reply None is h = response-cause (Some page) (query (Match selector)) BadSelector reply refl (one-holds _ BadSelector (ap is_none is)) h
response-match page selector reply (Some list) is h = λ setting from at. (
  from,
  at-turn setting from from (Some (page_view page)) (request (query (Match selector))) [] reply (accepted (query (Match selector))) at
      (ap (answer_by (query (Match selector))) (refusal-built (Some (page_view page)) (query (Match selector)) refl ∙ one-fails _ BadSelector (ap is_none is))) (
        subst (λ (s : State). IsQueryReply s setting from (Match selector) [] reply) (sym at)
            (refl, h ∙ ap (λ (l : Option SelectorList). match_text_by l (page_view page).document.root ++ ok_line) (sym is)),
        refl,
      ),
  at,
)

-- ---- replies that were appended to nothing

pub OnOk-edit : {T E : Type 0} (r : Result T E) (page page' : Option KeptPage) (e : Edit) (b : Bool) (a : Accepted) (old new : List ℕ)
    → OnOk r (new ≡ old ++ edit_text b a) → old ≡ [] → b ≡ brings_tree e → a ≡ accepted_by (state_view page) e
    → first_of (form_causes (edit e)) ≡ None → first_of (edit_causes (state_view page) e) ≡ None → state_view page' ≡ state_after_edit (state_view page) e
    → OnOk r (IsResponse (request (edit e)) (empty_logs (logs_of_asked (request (edit e)))) new page page')
OnOk-edit (Ok x) page page' e b a old new line empty brings is built allowed after =
    response-edit page page' e new built allowed after (line ∙ rw (empty, brings, is) refl)
OnOk-edit (Err x) page page' e b a old new line empty brings is built allowed after = tt

pub OnOk-refused : {T E : Type 0} (r : Result T E) (page : Option KeptPage) (q : Request) (c : Cause) (old new : List ℕ)
    → OnOk r (new ≡ old ++ error_line c) → old ≡ [] → first_of (form_causes q) ≡ None → first_of (request_causes (state_view page) q) ≡ Some c
    → OnOk r (IsResponse (request q) (empty_logs (logs_of_asked (request q))) new page page)
OnOk-refused (Ok x) page q c old new line empty built h = response-cause page q c new built h (line ∙ ap (λ (front : List ℕ). front ++ error_line c) empty)
OnOk-refused (Err x) page q c old new line empty built h = tt

pub OnOk-not_built : {T E : Type 0} (r : Result T E) (page : Option KeptPage) (q : Request) (old new : List ℕ)
    → OnOk r (new ≡ old ++ error_line NotBuilt) → old ≡ [] → is_none (first_of (form_causes q)) ≡ false
    → OnOk r (IsResponse (request q) (empty_logs (logs_of_asked (request q))) new page page)
OnOk-not_built (Ok x) page q old new line empty h = response-not_built page q new h (line ∙ ap (λ (front : List ℕ). front ++ error_line NotBuilt) empty)
OnOk-not_built (Err x) page q old new line empty h = tt

pub OnOk-broken : {T E : Type 0} (r : Result T E) (page : Option KeptPage) (c : Cause) (old new : List ℕ) → OnOk r (new ≡ old ++ error_line c) → old ≡ [] → OnOk r (IsResponse (broken c) [] new page page)
OnOk-broken (Ok x) page c old new line empty = response-refused page (broken c) c new refl (line ∙ ap (λ (front : List ℕ). front ++ error_line c) empty)
OnOk-broken (Err x) page c old new line empty = tt

pub OnOk-dumped : {T E : Type 0} (r : Result T E) (state : Option KeptPage) (page : KeptPage) (new : List ℕ) → state ≡ Some page
    → OnOk r (IsDumpReply (page_view page) new) → OnOk r (IsResponse (request (query Dump)) (empty_logs (logs_of_asked (request (query Dump)))) new state state)
OnOk-dumped (Ok x) state page new is dump = subst (λ (s : Option KeptPage). IsResponse (request (query Dump)) ([] ∷ []) new s s) (sym is) (response-dump page new _ refl dump)
OnOk-dumped (Err x) state page new is dump = tt

pub OnOk-rules : {T E : Type 0} (r : Result T E) (state : Option KeptPage) (page : KeptPage) (old new : List ℕ) → state ≡ Some page
    → OnOk r (new ≡ old ++ (rules_text ((page_view page).sheets) ++ ok_line)) → old ≡ []
    → OnOk r (IsResponse (request (query Rules)) (empty_logs (logs_of_asked (request (query Rules)))) new state state)
OnOk-rules (Ok x) state page old new is told empty =
    subst (λ (s : Option KeptPage). IsResponse (request (query Rules)) [] new s s) (sym is)
    (response-rules page new (told ∙ ap (λ (front : List ℕ). front ++ (rules_text ((page_view page).sheets) ++ ok_line)) empty))
OnOk-rules (Err x) state page old new is told empty = tt

-- the same, as the code asks it
pub OnOk-refused_dump : {T E : Type 0} (r : Result T E) (page : KeptPage) (b : Bool) (old new : List ℕ) → b ≡ is_styled_page (page_view page) → b ≡ true
    → OnOk r (new ≡ old ++ error_line NotBuilt) → old ≡ [] → OnOk r (IsDumpReply (page_view page) new)
OnOk-refused_dump (Ok x) page b old new is holds line empty =
    subst (λ (b : Bool). IsDumpBy b (page_view page) new) (sym holds ∙ is) (line ∙ ap (λ (front : List ℕ). front ++ error_line NotBuilt) empty)
OnOk-refused_dump (Err x) page b old new is holds line empty = tt

pub OnOk-built_dump : {T E : Type 0} (r : Result T E) (page : KeptPage) (b : Bool) (new : List ℕ) → b ≡ is_styled_page (page_view page) → b ≡ false
    → OnOk r ((setting : Setting) → IsDumpOf setting (page_view page) new) → OnOk r (IsDumpReply (page_view page) new)
OnOk-built_dump (Ok x) page b new is fails dump = subst (λ (b : Bool). IsDumpBy b (page_view page) new) (sym fails ∙ is) dump
OnOk-built_dump (Err x) page b new is fails dump = tt

pub OnOk-matched : {T E : Type 0} (r : Result T E) (state : Option KeptPage) (page : KeptPage) (selector : Text) (new : List ℕ) → state ≡ Some page
    → OnOk r (IsMatchReply selector (page_view page) new)
    → OnOk r (IsResponse (request (query (Match selector))) (empty_logs (logs_of_asked (request (query (Match selector))))) new state state)
OnOk-matched (Ok x) state page selector new is h =
    subst (λ (s : Option KeptPage). IsResponse (request (query (Match selector))) [] new s s) (sym is) (response-match page selector new _ refl h)
OnOk-matched (Err x) state page selector new is h = tt

-- a match, by the list that the code reads
pub OnOk-some_list : {T E : Type 0} (r : Result T E) (page : Page) (selector : Text) (list : SelectorList) (old new : List ℕ)
    → OnOk r (new ≡ old ++ (match_lines list page.document.root ++ ok_line)) → old ≡ [] → Some list ≡ selector_list_of_text selector
    → OnOk r (IsMatchReply selector page new)
OnOk-some_list (Ok x) page selector list old new line empty is =
    subst (λ (l : Option SelectorList). IsMatchBy l page new) is (line ∙ ap (λ (front : List ℕ). front ++ (match_lines list page.document.root ++ ok_line)) empty)
OnOk-some_list (Err x) page selector list old new line empty is = tt

pub OnOk-no_list : {T E : Type 0} (r : Result T E) (page : Page) (selector : Text) (old new : List ℕ)
    → OnOk r (new ≡ old ++ error_line BadSelector) → old ≡ [] → None ≡ selector_list_of_text selector
    → OnOk r (IsMatchReply selector page new)
OnOk-no_list (Ok x) page selector old new line empty is =
    subst (λ (l : Option SelectorList). IsMatchBy l page new) is (line ∙ ap (λ (front : List ℕ). front ++ error_line BadSelector) empty)
OnOk-no_list (Err x) page selector old new line empty is = tt

-- a query needs a page
pub query-not_loaded : (state : Option KeptPage) (q : Query) → state ≡ None → first_of (request_causes (state_view state) (query q)) ≡ Some NotLoaded
query-not_loaded state Dump is = rw is refl
query-not_loaded state Rules is = rw is refl
query-not_loaded state (Match selector) is = rw is refl
query-not_loaded state (Style i) is = rw is refl

-- a refusal with a cause is by the first that holds
pub refused-cause : (causes : Causes) (r : Refusal) (c : Cause) → IsRefusedBy causes r → cause_of r ≡ Some c → first_of causes ≡ Some c
refused-cause causes r c h is = subst (λ (o : Option Cause). IsFirstCause causes o) is h

-- ---- work

logs-none : (n : ℕ) → logs_with [] n ≡ empty_logs n
logs-none zero = refl
logs-none (suc n) = refl

pub carries-none : (asked : Asked) (reply : List ℕ) (page page' : Option KeptPage) (es : List Event)
    → IsResponse asked (empty_logs (logs_of_asked asked)) reply page page' → CarriesOut asked reply page page' es es
carries-none asked reply page page' es h = record {
  work = [];
  response = subst (λ own. IsResponse asked own reply page page') (sym (logs-none (logs_of_asked asked))) h;
  works = record { once = tt; within = λ _. refl; logged = sym (append-nil es) };
}

-- without work, the ledger stays
pub OnOk-carried : {T E : Type 0} (r : Result T E) (asked : Asked) (reply : List ℕ) (page page' : Option KeptPage) (es : List Event)
    → OnOk r (IsResponse asked (empty_logs (logs_of_asked asked)) reply page page') → OnOk r (CarriesOut asked reply page page' es es)
OnOk-carried (Ok x) asked reply page page' es h = carries-none asked reply page page' es h
OnOk-carried (Err x) asked reply page page' es h = tt

pub sets-none : (asked : Asked) (es : List Event) → SetsOut asked es es
sets-none asked es = ([], record { once = tt; within = λ _. refl; logged = sym (append-nil es) })

pub OnErr-none : {T E : Type 0} (r : Result T E) (asked : Asked) (es : List Event) → OnErr r (SetsOut asked es es)
OnErr-none (Ok x) asked es = tt
OnErr-none (Err x) asked es = sets-none asked es

-- ---- styles

response-style : (page : KeptPage) (i : ℕ) (reply : List ℕ) (old new : List Event) (o : Option Cause)
    → first_of (style_causes i (page_view page)) ≡ o → AnswersStyleBy o i (page_view page) reply old new
    → CarriesOut (request (query (Style i))) reply (Some page) (Some page) old new
response-style page i reply old new (Some c) is h = record {
  work = [];
  response = response-cause (Some page) (query (Style i)) c reply refl is h.0;
  works = record { once = tt; within = λ _. refl; logged = h.1 ∙ sym (append-nil old) };
}
response-style page i reply old new None is h =
    let log : Log = h.1.0 in
    let styling : IsStyleLog (Some (page_view page)) log = h.1.1 in
    record {
      work = log;
      response = λ setting from at. (
        from,
        at-turn setting from from (Some (page_view page)) (request (query (Style i))) (log ∷ []) reply (accepted (query (Style i))) at
            (ap (answer_by (query (Style i))) (refusal-built (Some (page_view page)) (query (Style i)) refl ∙ is)) (
              subst (λ (s : State). IsQueryReply s setting from (Style i) (log ∷ []) reply) (sym at)
                  (h.0.0, h.0.1, (log, subst (λ (s : State). IsStyleLog s log) (sym at) styling, ([], refl, refl)), h.0.2),
              refl,
            ),
        at,
      );
      works = record { once = h.1.1.0; within = λ e. absurd (cc); logged = h.1.2 };
    }

pub OnOk-styled : {T E : Type 0} (r : Result T E) (state : Option KeptPage) (page : KeptPage) (i : ℕ) (reply : List ℕ) (old new : List Event)
    → state ≡ Some page → OnOk r (AnswersStyle i (page_view page) reply old new)
    → OnOk r (CarriesOut (request (query (Style i))) reply state state old new)
OnOk-styled (Ok x) state page i reply old new is h =
    subst (λ (s : Option KeptPage). CarriesOut (request (query (Style i))) reply s s old new) (sym is)
    (response-style page i reply old new (first_of (style_causes i (page_view page))) refl h)
OnOk-styled (Err x) state page i reply old new is h = tt

pub OnErr-styled : {T E : Type 0} (r : Result T E) (page : KeptPage) (i : ℕ) (old new : List Event)
    → OnErr r (LogsStyling page.document.document.root old new) → OnErr r (SetsOut (request (query (Style i))) old new)
OnErr-styled (Ok x) page i old new h = tt
OnErr-styled (Err x) page i old new h = (h.0, record { once = h.1.0; within = λ e. absurd (cc); logged = h.2 })
