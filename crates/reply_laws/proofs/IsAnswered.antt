-- What a line asks for has an answer, and by its logs there is one.
use Rattle.std.proofs.Common.{IsSome, List, None, Option, Some, [], ap, false, is_none, length, refl, subst, sym, ℕ, ◌++◌, ◌∷◌, ◌∙◌, ◌≡◌}
use Rattle.cascade_laws.proofs.AreStyled.{element-same, element-some}
use Rattle.cascade_laws.proofs.TreeStyles.{some-styled}
use Rattle.cascade_model.specs.DocumentStyles.{Styles}
use Rattle.layout_laws.proofs.FlatAssignment.{some-consistent}
use Rattle.layout_laws.proofs.Holds.{consistent-same}
use Rattle.layout_model.specs.Consistent.{Assignment, Consistent}
use Rattle.layout_model.specs.Setting.{Setting}
use Rattle.page_laws.proofs.FirstOf.{first-false}
use Rattle.page_model.specs.Document.{find, name_at}
use Rattle.page_model.specs.Pages.{Page, State}
use Rattle.page_model.specs.Refusals.{first_of}
use Rattle.page_model.specs.declared.cause.Cause.{Cause}
use Rattle.page_model.specs.declared.cause.Cause.TheVariants.{NoNode, NotBuilt, NotElement}
use Rattle.reply_laws.proofs.AreLogs.{all-logs, distinct-logs_of, empty-distinct, length-logs, length-logs_of, some-logs, some-logs_of}
use Rattle.reply_laws.specs.Logs.{AreAllDistinct}
use Rattle.reply_laws.specs.States.{StateHasGivenIds}
use Rattle.reply_model.specs.DumpText.{dump_text}
use Rattle.reply_model.specs.Replies.{Course, IsAnswered, IsQueryReply, IsReplyOn, IsTurn, dump_causes, edit_text, newest, text_unless}
use Rattle.reply_model.specs.MatchText.{match_text}
use Rattle.reply_model.specs.RulesText.{rules_text}
use Rattle.reply_model.specs.Spelling.{error_line, ok_line}
use Rattle.reply_model.specs.StyleText.{AreStylesOf, style_text, styled_page}
use Rattle.request_model.specs.Requests.{Asked, Request, broken, edit, nothing, query, request}
use Rattle.request_model.specs.States.{Answer, accepted, accepted_by, answer_by, answer_to, brings_tree, logs_of, logs_of_asked, refusal_of, refused, silent, state_after_edit}
use Rattle.request_model.specs.UnbuiltStyles.{has_unbuilt_styles}
use Rattle.request_model.specs.declared.query.Query.{Query}
use Rattle.request_model.specs.declared.query.Query.TheVariants.{Dump, Match, Rules, Style}
use Rattle.stream_model.specs.Ledger.{Log}
use Rattle.stream_model.specs.Lists.{AreDistinct}

-- ---- the number of logs

length-query : (s : State) (setting : Setting) (from : Course) (q : Query) (own : List Log) (reply : List ℕ)
    → IsQueryReply s setting from q own reply → length own ≡ logs_of (query q)
length-query None setting from q own reply h = absurd h
length-query (Some page) setting from Dump own reply h = length-logs_of setting from (query Dump) (Some h.0) own h.2
length-query (Some page) setting from Rules own reply h = length-logs_of setting from (query Rules) None own h.0
length-query (Some page) setting from (Match selector) own reply h = length-logs_of setting from (query (Match selector)) None own h.0
length-query (Some page) setting from (Style i) own reply h = length-logs_of setting from (query (Style i)) None own h.2

length-by : (cause : Option Cause) (setting : Setting) (from to : Course) (q : Request) (own : List Log) (reply : List ℕ)
    → IsAnswered (answer_by q cause) setting from (request q) own reply to → length own ≡ logs_of q
length-by None setting from to (edit e) own reply h = length-logs_of setting from (edit e) None own h.logs
length-by None setting from to (query q) own reply h = length-query from.state setting from q own reply h.0
length-by (Some c) setting from to q own reply h = length-logs (logs_of q) (λ log. log ≡ []) own h.0

pub length-turn : (setting : Setting) (from to : Course) (asked : Asked) (own : List Log) (reply : List ℕ)
    → IsTurn setting from asked own reply to → length own ≡ logs_of_asked asked
unfolding IsTurn
length-turn setting from to nothing own reply h = ap length h.0
length-turn setting from to (broken c) own reply h = length-logs 0 (λ log. log ≡ []) own h.0
length-turn setting from to (request q) own reply h = length-by (refusal_of from.state q) setting from to q own reply h

-- ---- styles of a page

none-some : {X : Type 0} (x : Option X) → is_none x ≡ false → IsSome x
none-some None h = absurd (cc)
none-some (Some x) h = refl

-- a style that is not refused is asked of an element
style-element : (page : Page) (i : ℕ) → refusal_of (Some page) (query (Style i)) ≡ None → IsSome (name_at i page.document.root)
unfolding refusal_of
style-element page i none =
    let a = first-false (is_none (find i page.document.root)) NoNode
    ((is_none (name_at i page.document.root), NotElement) ∷ (has_unbuilt_styles page, NotBuilt) ∷ []) none in
    let b = first-false (is_none (name_at i page.document.root)) NotElement ((has_unbuilt_styles page, NotBuilt) ∷ []) a.1 in
    none-some (name_at i page.document.root) b.0

pub element-style : (page : Page) (i : ℕ) (styles : Styles) → refusal_of (Some page) (query (Style i)) ≡ None
    → AreStylesOf page styles → IsSome (styles i)
element-style page i styles none h = element-some (styled_page page) styles page.document.root h i (style-element page i none)

-- the reply to a style under styles
abbrev style_reply : Styles → ℕ → List ℕ
style_reply styles i = style_text (styles i) ++ ok_line

style_reply-same : (page : Page) (i : ℕ) (a b : Styles) → refusal_of (Some page) (query (Style i)) ≡ None
    → AreStylesOf page a → AreStylesOf page b → style_reply a i ≡ style_reply b i
style_reply-same page i a b none h k =
    ap (λ style. style_text style ++ ok_line)
    (element-same (styled_page page) a b page.document.root h k i (style-element page i none))

-- ---- there is one answer

-- the reply to a dump under an assignment
abbrev dump_reply : Page → Assignment → List ℕ
dump_reply page a = text_unless (first_of (dump_causes page a)) (dump_text page.document.root a ++ ok_line)

query-one : (s : State) (setting : Setting) (from : Course) (q : Query) (own : List Log) (reply reply' : List ℕ) → refusal_of s (query q) ≡ None
    → IsQueryReply s setting from q own reply → IsQueryReply s setting from q own reply' → reply ≡ reply'
query-one None setting from q own reply reply' none h k = absurd h
query-one (Some page) setting from Dump own reply reply' none h k =
    let same : h.0 ≡ k.0 = λ j i. consistent-same setting page h.0 k.0 h.1 k.1 i j in
    h.3 ∙ (ap (dump_reply page) same ∙ sym k.3)
query-one (Some page) setting from Rules own reply reply' none h k = h.1 ∙ sym k.1
query-one (Some page) setting from (Match selector) own reply reply' none h k = h.1 ∙ sym k.1
query-one (Some page) setting from (Style i) own reply reply' none h k =
    h.3 ∙ (style_reply-same page i h.0 k.0 none h.1 k.1 ∙ sym k.3)

accepted-one : (setting : Setting) (from to to' : Course) (q : Request) (own : List Log) (reply reply' : List ℕ) → refusal_of from.state q ≡ None
    → IsAnswered (accepted q) setting from (request q) own reply to → IsAnswered (accepted q) setting from (request q) own reply' to'
    → (reply ≡ reply') × (to ≡ to')
accepted-one setting from to to' (edit e) own reply reply' none h k = (
  h.text ∙ sym k.text,
  λ j. record { state = (h.state ∙ sym k.state) j; last = (h.last ∙ sym k.last) j },
)
accepted-one setting from to to' (query q) own reply reply' none h k =
    (query-one from.state setting from q own reply reply' none h.0 k.0, h.1 ∙ sym k.1)

one-by : (cause : Option Cause) (setting : Setting) (from to to' : Course) (q : Request) (own : List Log) (reply reply' : List ℕ)
    → refusal_of from.state q ≡ cause
    → IsAnswered (answer_by q cause) setting from (request q) own reply to → IsAnswered (answer_by q cause) setting from (request q) own reply' to'
    → (reply ≡ reply') × (to ≡ to')
one-by None setting from to to' q own reply reply' is h k = accepted-one setting from to to' q own reply reply' is h k
one-by (Some c) setting from to to' q own reply reply' is h k = (h.1 ∙ sym k.1, h.2 ∙ sym k.2)

pub turn-one : (setting : Setting) (from to to' : Course) (asked : Asked) (own : List Log) (reply reply' : List ℕ)
    → IsTurn setting from asked own reply to → IsTurn setting from asked own reply' to' → (reply ≡ reply') × (to ≡ to')
unfolding IsTurn
turn-one setting from to to' nothing own reply reply' h k = (h.1 ∙ sym k.1, h.2 ∙ sym k.2)
turn-one setting from to to' (broken c) own reply reply' h k = (h.1 ∙ sym k.1, h.2 ∙ sym k.2)
turn-one setting from to to' (request q) own reply reply' h k =
    one-by (refusal_of from.state q) setting from to to' q own reply reply' refl h k

-- ---- there is an answer

pub record SomeAnswer (answer : Answer) (setting : Setting) (from : Course) (asked : Asked) : Type 0 where
  pub own : List Log
  pub reply : List ℕ
  pub to : Course
  pub answered : IsAnswered answer setting from asked own reply to

query-some : (s : State) (setting : Setting) (from : Course) (q : Query) → StateHasGivenIds s → refusal_of s (query q) ≡ None
    → (own : List Log) × ((reply : List ℕ) × IsQueryReply s setting from q own reply)
unfolding refusal_of
query-some None setting from Dump given none = absurd (cc)
query-some None setting from Rules given none = absurd (cc)
query-some None setting from (Match selector) given none = absurd (cc)
query-some None setting from (Style i) given none = absurd (cc)
query-some (Some page) setting from Dump given none =
    let a = some-consistent setting page given in
    let logs = some-logs_of setting from (query Dump) (Some a.0) in
    (logs.0, (dump_reply page a.0, (a.0, a.1, logs.1, refl)))
query-some (Some page) setting from Rules given none =
    let logs = some-logs_of setting from (query Rules) None in
    (logs.0, (rules_text page.sheets ++ ok_line, (logs.1, refl)))
query-some (Some page) setting from (Match selector) given none =
    let logs = some-logs_of setting from (query (Match selector)) None in
    (logs.0, (match_text selector page.document.root ++ ok_line, (logs.1, refl)))
query-some (Some page) setting from (Style i) given none =
    let styles = some-styled (styled_page page) page.document.root given.0 in
    let logs = some-logs_of setting from (query (Style i)) None in
    (logs.0, (style_reply styles.0 i, (styles.0, styles.1, logs.1, refl)))

accepted-some : (setting : Setting) (from : Course) (asked : Asked) (q : Request) → StateHasGivenIds from.state → refusal_of from.state q ≡ None
    → SomeAnswer (accepted q) setting from asked
accepted-some setting from asked (edit e) given none =
    let logs = some-logs_of setting from (edit e) None in
    record {
      own = logs.0;
      reply = edit_text (brings_tree e) (accepted_by from.state e);
      to = record { state = state_after_edit from.state e; last = newest logs.0 from.last };
      answered = record { logs = logs.1; text = refl; state = refl; last = refl };
    }
accepted-some setting from asked (query q) given none =
    let some = query-some from.state setting from q given none in
    record { own = some.0; reply = some.1.0; to = from; answered = (some.1.1, refl) }

refused-some : (setting : Setting) (from : Course) (asked : Asked) (c : Cause) → SomeAnswer (refused c) setting from asked
refused-some setting from asked c =
    let logs = some-logs (logs_of_asked asked) (λ log. log ≡ []) [] refl in
    record { own = logs.0; reply = error_line c; to = from; answered = (logs.1, refl, refl) }

answer_by-some : (setting : Setting) (from : Course) (asked : Asked) (q : Request) (cause : Option Cause) → StateHasGivenIds from.state
    → refusal_of from.state q ≡ cause → SomeAnswer (answer_by q cause) setting from asked
answer_by-some setting from asked q None given is = accepted-some setting from asked q given is
answer_by-some setting from asked q (Some c) given is = refused-some setting from asked c

answer_to-some : (setting : Setting) (from : Course) (asked : Asked) → StateHasGivenIds from.state → SomeAnswer (answer_to from.state asked) setting from asked
answer_to-some setting from nothing given = record { own = []; reply = []; to = from; answered = (refl, refl, refl) }
answer_to-some setting from (broken c) given = refused-some setting from (broken c) c
answer_to-some setting from (request q) given = answer_by-some setting from (request q) q (refusal_of from.state q) given refl

pub turn-some : (setting : Setting) (from : Course) (asked : Asked) → StateHasGivenIds from.state
    → (own : List Log) × ((reply : List ℕ) × ((to : Course) × IsTurn setting from asked own reply to))
unfolding IsTurn
turn-some setting from asked given =
    let some = answer_to-some setting from asked given in
    (some.own, (some.reply, (some.to, some.answered)))

-- ---- what an answer changes

pub turn-refused : (setting : Setting) (from to : Course) (asked : Asked) (own : List Log) (reply : List ℕ) (c : Cause)
    → answer_to from.state asked ≡ refused c → IsTurn setting from asked own reply to → (reply ≡ error_line c) × (to ≡ from)
unfolding IsTurn
turn-refused setting from to asked own reply c is h =
    let answered : IsAnswered (refused c) setting from asked own reply to =
    subst (λ (answer : Answer). IsAnswered answer setting from asked own reply to) is h in
    (answered.1, answered.2)

query-stays : (cause : Option Cause) (setting : Setting) (from to : Course) (q : Query) (own : List Log) (reply : List ℕ)
    → IsAnswered (answer_by (query q) cause) setting from (request (query q)) own reply to → to ≡ from
query-stays None setting from to q own reply h = h.1
query-stays (Some c) setting from to q own reply h = h.2

pub turn-query : (setting : Setting) (from to : Course) (q : Query) (own : List Log) (reply : List ℕ)
    → IsTurn setting from (request (query q)) own reply to → to ≡ from
unfolding IsTurn
turn-query setting from to q own reply h = query-stays (refusal_of from.state (query q)) setting from to q own reply h

-- the turn of a request that is not refused
pub turn-accepted : (setting : Setting) (from to : Course) (q : Request) (own : List Log) (reply : List ℕ)
    → refusal_of from.state q ≡ None → IsTurn setting from (request q) own reply to
    → IsAnswered (accepted q) setting from (request q) own reply to
unfolding IsTurn
turn-accepted setting from to q own reply none h =
    subst (λ (cause : Option Cause). IsAnswered (answer_by q cause) setting from (request q) own reply to) none h

pub turn-dump : (setting : Setting) (from to : Course) (own : List Log) (reply : List ℕ) → refusal_of from.state (query Dump) ≡ None
    → IsTurn setting from (request (query Dump)) own reply to → IsQueryReply from.state setting from Dump own reply
turn-dump setting from to own reply none turn = (turn-accepted setting from to (query Dump) own reply none turn).0

pub turn-dump-text : (setting : Setting) (from to : Course) (page : Page) (a : Assignment) (own : List Log) (reply : List ℕ)
    → from.state ≡ Some page → refusal_of from.state (query Dump) ≡ None → Consistent setting page a → IsTurn setting from (request (query Dump)) own reply to
    → reply ≡ dump_reply page a
turn-dump-text setting from to page a own reply is none consistent turn =
    let reply_is : IsReplyOn page setting from Dump own reply =
    subst (λ (s : State). IsQueryReply s setting from Dump own reply) is (turn-dump setting from to own reply none turn) in
    let same : reply_is.0 ≡ a = λ j i. consistent-same setting page reply_is.0 a reply_is.1 consistent i j in
    reply_is.3 ∙ ap (dump_reply page) same

pub turn-style-text : (setting : Setting) (from to : Course) (page : Page) (i : ℕ) (styles : Styles) (own : List Log) (reply : List ℕ)
    → from.state ≡ Some page → refusal_of from.state (query (Style i)) ≡ None → AreStylesOf page styles → IsTurn setting from (request (query (Style i))) own reply to
    → reply ≡ style_text (styles i) ++ ok_line
turn-style-text setting from to page i styles own reply is none are_styles turn =
    let reply_is : IsReplyOn page setting from (Style i) own reply =
    subst (λ (s : State). IsQueryReply s setting from (Style i) own reply) is (turn-accepted setting from to (query (Style i)) own reply none turn).0 in
    let built : refusal_of (Some page) (query (Style i)) ≡ None = subst (λ (s : State). refusal_of s (query (Style i)) ≡ None) is none in
    reply_is.3 ∙ style_reply-same page i reply_is.0 styles built reply_is.1 are_styles

-- ---- the logs of a line

length-none : (own : List Log) → length own ≡ 0 → own ≡ []
length-none [] h = refl
length-none (log ∷ own) h = absurd (cc)

-- what begins no log has none
pub turn-no-logs : (setting : Setting) (from to : Course) (asked : Asked) (own : List Log) (reply : List ℕ) → logs_of_asked asked ≡ 0
    → IsTurn setting from asked own reply to → own ≡ []
turn-no-logs setting from to asked own reply none h = length-none own (length-turn setting from to asked own reply h ∙ none)

distinct-query : (s : State) (setting : Setting) (from : Course) (q : Query) (own : List Log) (reply : List ℕ)
    → IsQueryReply s setting from q own reply → AreAllDistinct own
distinct-query None setting from q own reply h = absurd h
distinct-query (Some page) setting from Dump own reply h = distinct-logs_of setting from (query Dump) (Some h.0) own h.2
distinct-query (Some page) setting from Rules own reply h = distinct-logs_of setting from (query Rules) None own h.0
distinct-query (Some page) setting from (Match selector) own reply h = distinct-logs_of setting from (query (Match selector)) None own h.0
distinct-query (Some page) setting from (Style i) own reply h = distinct-logs_of setting from (query (Style i)) None own h.2

distinct-answered : (answer : Answer) (setting : Setting) (from to : Course) (asked : Asked) (own : List Log) (reply : List ℕ)
    → IsAnswered answer setting from asked own reply to → AreAllDistinct own
distinct-answered silent setting from to asked own reply h = subst AreAllDistinct (sym h.0) (λ log among. absurd among)
distinct-answered (refused c) setting from to asked own reply h =
    all-logs (logs_of_asked asked) (λ log. log ≡ []) AreDistinct empty-distinct own h.0
distinct-answered (accepted (edit e)) setting from to asked own reply h = distinct-logs_of setting from (edit e) None own h.logs
distinct-answered (accepted (query q)) setting from to asked own reply h = distinct-query from.state setting from q own reply h.0

pub distinct-turn : (setting : Setting) (from to : Course) (asked : Asked) (own : List Log) (reply : List ℕ)
    → IsTurn setting from asked own reply to → AreAllDistinct own
unfolding IsTurn
distinct-turn setting from to asked own reply h = distinct-answered (answer_to from.state asked) setting from to asked own reply h
