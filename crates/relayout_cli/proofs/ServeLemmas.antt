-- How a script is answered line by line.
use Rattle.std.proofs.Common.{◌≤◌, ◌⊎◌, take, length-append, inl, inr, ◌≡◌, ◌∙◌, sym, ap, refl, subst, ℕ, zero, suc, ◌<◌, ◌+◌, ◌-◌, List, [], ◌∷◌, ◌++◌, length, Option, Some, None, IfNone, IfSome, append_assoc, append-nil, arith}
use Rattle.std.proofs.lemmas.Bool.{lt-ltb}
use Rattle.stream_model.specs.Streams.{SourceState, SinkState, FromTo, Appends, AppendsPart, CountsFault, Grew, TakesCount, NothingLeft}
use Rattle.stream_model.specs.Lines.{newline, lines, whole_lines, IsUnbroken}
use Rattle.stream_model.specs.Ledger.{Event, Log, pairs, events, mark}
use Rattle.stream_model.specs.declared.limits.TheConstants.{MAX_LINE, MAX_TAKEN}
use Rattle.page_model.specs.declared.cause.Cause.TheVariants.{LineTooLong}
use Rattle.request_model.specs.Requests.{Asked, nothing, broken, request, edit, query, asked_of_line}
use Rattle.request_model.specs.declared.query.Query.TheVariants.{Dump, Match, Rules, Style}
use Rattle.stream_model.specs.Lists.{AreDistinct}
use Rattle.request_model.specs.States.{logs_of_asked}
use Rattle.layout_model.specs.Setting.{Setting}
use Rattle.reply_model.specs.Replies.{Course, start, AreReplies, IsTurn}
use Rattle.port_core.specs.Reader.{Reader, ahead, Gives, CountsFaults, IsFirstLine, EndsLine, HasNotFailed, new_reader}
use Rattle.port_core.specs.declared.reader.Line.{Line}
use Rattle.port_core.specs.declared.reader.Line.TheVariants.{Whole, TooLong, End}
use Rattle.port_core.proofs.StreamLemmas.{FromTo-joins, FromTo-weaker, Grew-joins, TakesCount-joins, TakesCount-none}
use Rattle.relayout_cli.specs.Pages.{IsAt}
use Rattle.relayout_cli.specs.Runs.{Outside, Run, AnswersLines, Served, ServedWhole, BreaksOff, IsWritten, most_of_first, HasBegunBy, BeginsReplies, Wrote, LogsOnce, AllOnce, FaultsBy, CountBy, TakenBy, IsUntroubled, HasFewer, IsDoneButForMemory, Serves}
use Rattle.relayout_cli.specs.declared.status.Status.{Status}
use Rattle.relayout_cli.specs.declared.status.Status.TheVariants.{Done, BadWords, ReadFault, WriteFault, NoMemory, InputSpent}
use Rattle.relayout_cli.specs.declared.page.Page.{Page}
use Rattle.relayout_cli.specs.inner.Coming.{IsAtEnd, TakesPart, AsksNext, ReadsOn}
use Rattle.relayout_cli.specs.declared.serving.Turn.{Turn}
use Rattle.relayout_cli.specs.declared.serving.Turn.TheVariants as turn
use Rattle.relayout_cli.specs.inner.Turns.{empty_logs, logs_with, IsResponse, CarriesOut, SetsOut, Responds, BeginsLogs, Turns, Tells}
use Rattle.relayout_cli.proofs.CutLemmas.{AreWhole, AreWhole-none, AreWhole-more, AreWhole-part}

-- ---- ledgers

events-append : (a b : List Log) → events (a ++ b) ≡ events a ++ events b
events-append [] b = refl
events-append (log ∷ a) b = ap (λ (es : List Event). mark ∷ es) (ap (λ (es : List Event). pairs log ++ es) (events-append a b) ∙ sym (append_assoc (pairs log) (events a) (events b)))

AllOnce-append : (a b : List Log) → AllOnce a → AllOnce b → AllOnce (a ++ b)
AllOnce-append [] b p q = q
AllOnce-append (log ∷ a) b p q = (p.0, AllOnce-append a b p.1 q)

pub AllOnce-empty : (n : ℕ) → AllOnce (empty_logs n)
AllOnce-empty zero = tt
AllOnce-empty (suc n) = (tt, AllOnce-empty n)

-- more logs were added to a ledger that had these
logged-more : (es es1 es2 : List Event) (logs own : List Log) → es1 ≡ es ++ events logs → es2 ≡ es1 ++ events own → es2 ≡ es ++ events (logs ++ own)
logged-more es es1 es2 logs own e f =
    f ∙ (ap (λ (x : List Event). x ++ events own) e ∙ (append_assoc es (events logs) (events own) ∙ ap (λ (x : List Event). es ++ x) (sym (events-append logs own))))

pub LogsOnce-none : (es : List Event) → LogsOnce es es
LogsOnce-none es = ([], tt, sym (append-nil es))

pub LogsOnce-more : (es es1 es2 : List Event) (own : List Log) → LogsOnce es es1 → AllOnce own → es2 ≡ es1 ++ events own → LogsOnce es es2
LogsOnce-more es es1 es2 own l once e = (l.0 ++ own, AllOnce-append l.0 own l.1 once, logged-more es es1 es2 l.0 own l.2 e)

-- ---- lines answered so far

-- Of the lines of all bytes some were answered, and those of the rest are still to be: what was appended and logged so far, with any replies and logs of later lines after it, is what those lines and the later ones have.
pub record Answered (setting : Setting) (all rest old new : List ℕ) (es es' : List Event) (at : Course) (stopped : Option Line) : Type 0 where
  pub before : List ℕ
  pub done : List (List ℕ)
  pub logs : List Log
  pub text : List ℕ
  pub joins : all ≡ before ++ rest
  pub whole : stopped ≡ None → AreWhole before done
  pub within : (front more : List ℕ) → rest ≡ front ++ more → (later : List (List ℕ)) × (lines (before ++ front) ≡ done ++ later)
  pub cut : lines all ≡ done ++ lines rest
  pub goes_on : (later : List (List ℕ)) (logs' : List Log) (text' : List ℕ) → AreReplies setting at later logs' text' → AreReplies setting start (done ++ later) (logs ++ logs') (text ++ text')
  pub appended : new ≡ old ++ text
  pub logged : es' ≡ es ++ events logs

pub Answered-start : (setting : Setting) (all old : List ℕ) (es : List Event) → Answered setting all all old old es es start None
Answered-start setting all old es = record {
  before = [];
  done = [];
  logs = [];
  text = [];
  joins = refl;
  whole = λ _. AreWhole-none;
  within = λ front more e. (lines front, refl);
  cut = refl;
  goes_on = λ later logs' text' h. h;
  appended = sym (append-nil old);
  logged = sym (append-nil es);
}

-- a turn in front of later lines
turn-first : (setting : Setting) (from to : Course) (line reply : List ℕ) (own : List Log) → IsTurn setting from (asked_of_line line) own reply to
    → (later : List (List ℕ)) (logs' : List Log) (text' : List ℕ) → AreReplies setting to later logs' text' → AreReplies setting from (line ∷ later) (own ++ logs') (reply ++ text')
unfolding AreReplies
turn-first setting from to line reply own turn later logs' text' h = (
  record { own = own; later = logs'; reply = reply; others = text'; to = to; logs_are = refl; text_is = refl; turn = turn },
  h,
)

-- what ends a line, where the source goes on
abbrev pub line_end : Option Line → List ℕ
line_end None = newline ∷ []
line_end (Some stop) = []

line-is : (line mid rest : List ℕ) (stopped : Option Line) → EndsLine line stopped mid rest → mid ≡ (line ++ line_end stopped) ++ rest
line-is line mid rest None ends = ends ∙ sym (append_assoc line (newline ∷ []) rest)
line-is line mid rest (Some stop) ends = ends.2 ∙ rw (ends.3, append-nil line, append-nil line) refl

joins-more : (all before mid line rest : List ℕ) (stopped : Option Line) → all ≡ before ++ mid → EndsLine line stopped mid rest → all ≡ (before ++ (line ++ line_end stopped)) ++ rest
joins-more all before mid line rest stopped e ends =
    e ∙ (ap (λ (x : List ℕ). before ++ x) (line-is line mid rest stopped ends) ∙ sym (append_assoc before (line ++ line_end stopped) rest))

whole-more : (before line : List ℕ) (done : List (List ℕ)) (stopped : Option Line) → AreWhole before done → IsUnbroken line → stopped ≡ None → AreWhole (before ++ (line ++ line_end stopped)) (done ++ line ∷ [])
whole-more before line done None w u e = AreWhole-more before line done w u
whole-more before line done (Some stop) w u e = absurd (cc)

append-empty : (xs ys : List ℕ) → [] ≡ xs ++ ys → xs ≡ []
append-empty [] ys e = refl
append-empty (x ∷ xs) ys e = absurd (cc)

within-more : (before line mid rest : List ℕ) (done : List (List ℕ)) (stopped : Option Line) → AreWhole before done → IsFirstLine line stopped mid rest
    → (front more : List ℕ) → rest ≡ front ++ more → (later : List (List ℕ)) × (lines ((before ++ (line ++ line_end stopped)) ++ front) ≡ (done ++ line ∷ []) ++ later)
within-more before line mid rest done None w first front more e = (lines front, (AreWhole-more before line done w first.unbroken front).1)
within-more before line mid rest done (Some stop) w first front more e =
    let none : front ≡ [] = append-empty front more (sym first.ends.3 ∙ e) in
    let alone : lines line ≡ line ∷ [] = ap lines (sym first.ends.2) ∙ (first.first ∙ ap (λ (x : List ℕ). line ∷ lines x) first.ends.3) in
    ([], rw (none, append-nil line, append-nil (before ++ line), append-nil (done ++ line ∷ []), ← append-nil line) (rw (append-nil line) ((w line).1 ∙ ap (λ (ls : List (List ℕ)). done ++ ls) alone)))

cut-more : (all mid line rest : List ℕ) (done : List (List ℕ)) (stopped : Option Line) → lines all ≡ done ++ lines mid → IsFirstLine line stopped mid rest → lines all ≡ (done ++ line ∷ []) ++ lines rest
cut-more all mid line rest done stopped e first = e ∙ (ap (λ (ls : List (List ℕ)). done ++ ls) first.first ∙ sym (append_assoc done (line ∷ []) (lines rest)))

goes-more : (setting : Setting) (from to : Course) (line reply text : List ℕ) (own logs : List Log) (done : List (List ℕ)) → IsTurn setting from (asked_of_line line) own reply to
    → ((later : List (List ℕ)) (logs' : List Log) (text' : List ℕ) → AreReplies setting from later logs' text' → AreReplies setting start (done ++ later) (logs ++ logs') (text ++ text'))
    → (later : List (List ℕ)) (logs' : List Log) (text' : List ℕ) → AreReplies setting to later logs' text' → AreReplies setting start ((done ++ line ∷ []) ++ later) ((logs ++ own) ++ logs') ((text ++ reply) ++ text')
goes-more setting from to line reply text own logs done turn goes later logs' text' h =
    rw (append_assoc done (line ∷ []) later, append_assoc logs own logs', append_assoc text reply text')
    (goes (line ∷ later) (own ++ logs') (reply ++ text') (turn-first setting from to line reply own turn later logs' text' h))

-- one more line was answered
Answered-more : (setting : Setting) (all mid rest old new new' : List ℕ) (es es1 es2 : List Event) (from to : Course) (stopped stopped' : Option Line) (line reply : List ℕ) (own : List Log)
    → Answered setting all mid old new es es1 from stopped → stopped ≡ None → IsFirstLine line stopped' mid rest → IsTurn setting from (asked_of_line line) own reply to
    → new' ≡ new ++ reply → es2 ≡ es1 ++ events own → Answered setting all rest old new' es es2 to stopped'
Answered-more setting all mid rest old new new' es es1 es2 from to stopped stopped' line reply own a going first turn push log = record {
  before = a.before ++ (line ++ line_end stopped');
  done = a.done ++ line ∷ [];
  logs = a.logs ++ own;
  text = a.text ++ reply;
  joins = joins-more all a.before mid line rest stopped' a.joins first.ends;
  whole = whole-more a.before line a.done stopped' (a.whole going) first.unbroken;
  within = within-more a.before line mid rest a.done stopped' (a.whole going) first;
  cut = cut-more all mid line rest a.done stopped' a.cut first;
  goes_on = goes-more setting from to line reply a.text own a.logs a.done turn a.goes_on;
  appended = push ∙ (ap (λ (x : List ℕ). x ++ reply) a.appended ∙ append_assoc old a.text reply);
  logged = logged-more es es1 es2 a.logs own a.logged log;
}

AreReplies-none : (setting : Setting) (from : Course) → AreReplies setting from [] [] []
unfolding AreReplies
AreReplies-none setting from = (refl, refl)

replies-of : (setting : Setting) (at : Course) (done : List (List ℕ)) (logs : List Log) (text : List ℕ)
    → ((later : List (List ℕ)) (logs' : List Log) (text' : List ℕ) → AreReplies setting at later logs' text' → AreReplies setting start (done ++ later) (logs ++ logs') (text ++ text'))
    → AreReplies setting start done logs text
replies-of setting at done logs text goes = rw (← append-nil done, ← append-nil logs, ← append-nil text) (goes [] [] [] (AreReplies-none setting at))

replies-done : (setting : Setting) (all rest old new : List ℕ) (es es' : List Event) (at : Course) (stopped : Option Line) (a : Answered setting all rest old new es es' at stopped) → AreReplies setting start a.done a.logs a.text
replies-done setting all rest old new es es' at stopped a = replies-of setting at a.done a.logs a.text a.goes_on

-- ---- streams

FromTo-self : (a : Option (List ℕ)) (R : List ℕ → List ℕ → Type 0) → ((x : List ℕ) → R x x) → FromTo a a R
FromTo-self None R f = tt
FromTo-self (Some x) R f = f x

abbrev pub run_of : Outside → Outside → Run
run_of b n = record { before = b; after = n }

-- what is kept stands for a place up to which the lines were answered
abbrev pub Here : Setting → Option Page → Option Line → List Event → List Event → List ℕ → List ℕ → List ℕ → List ℕ → Type 0
Here setting page stopped es es' all rest old new = (at : Course) × IsAt page at × Answered setting all rest old new es es' at stopped

-- the lines of what the source had and is no longer ahead were answered to the sink
abbrev pub Told : Setting → Outside → Outside → Option (List ℕ) → Option Page → Option Line → Type 0
Told setting b n ahead page stopped =
    FromTo b.source.left ahead (λ all rest. FromTo b.sink.held n.sink.held (Here setting page stopped b.ledger n.ledger all rest))

told-start : (setting : Setting) (left held : Option (List ℕ)) (es : List Event) → FromTo left (ahead [] left) (λ all rest. FromTo held held (Here setting None None es es all rest))
told-start setting None held es = tt
told-start setting (Some all) held es = FromTo-self held (Here setting None None es es all all) (λ old. (start, refl, Answered-start setting all old es))

pub Told-start : (setting : Setting) (b : Outside) → Told setting b b (ahead [] b.source.left) None None
Told-start setting b = told-start setting b.source.left b.sink.held b.ledger

-- one more line was answered
here-more : (setting : Setting) (all mid rest : List ℕ) (line reply : List ℕ) (own : List Log) (page page' : Option Page) (stopped stopped' : Option Line) (es es1 es2 : List Event)
    → stopped ≡ None → IsFirstLine line stopped' mid rest → IsResponse (asked_of_line line) own reply page page' → es2 ≡ es1 ++ events own
    → (old new new' : List ℕ) → Here setting page stopped es es1 all mid old new → new' ≡ new ++ reply → Here setting page' stopped' es es2 all rest old new'
here-more setting all mid rest line reply own page page' stopped stopped' es es1 es2 going first response log old new new' h push =
    let to = response setting h.0 h.1 in
    (to.0, to.2, Answered-more setting all mid rest old new new' es es1 es2 h.0 to.0 stopped stopped' line reply own h.2 going first to.1 push log)

pub Told-more : (setting : Setting) (b n n' : Outside) (mid left' : Option (List ℕ)) (page page' : Option Page) (stopped stopped' : Option Line) (asked : Asked) (own : List Log) (reply : List ℕ)
    → Told setting b n mid page stopped → stopped ≡ None → FromTo mid left' (λ all rest. (line : List ℕ) × IsFirstLine line stopped' all rest × (asked_of_line line ≡ asked))
    → IsResponse asked own reply page page' → Appends n.sink.held n'.sink.held reply → n'.ledger ≡ n.ledger ++ events own → Told setting b n' left' page' stopped'
Told-more setting b n n' mid left' page page' stopped stopped' asked own reply told going read response push log =
    FromTo-joins b.source.left mid left' (λ all rest. FromTo b.sink.held n.sink.held (Here setting page stopped b.ledger n.ledger all rest))
    (λ all rest. (line : List ℕ) × IsFirstLine line stopped' all rest × (asked_of_line line ≡ asked))
    (λ all rest. FromTo b.sink.held n'.sink.held (Here setting page' stopped' b.ledger n'.ledger all rest))
    (λ all middle rest answered first. FromTo-joins b.sink.held n.sink.held n'.sink.held (Here setting page stopped b.ledger n.ledger all middle) (λ old new. new ≡ old ++ reply) (Here setting page' stopped' b.ledger n'.ledger all rest)
    (here-more setting all middle rest first.0 reply own page page' stopped stopped' b.ledger n.ledger n'.ledger going first.1 (subst (λ (a : Asked). IsResponse a own reply page page') (sym first.2) response) log) answered push) told read

-- all lines were answered
answers-all : (setting : Setting) (b n : Outside) (all mid : List ℕ) (page : Option Page) (stopped : Option Line) → mid ≡ [] → (old new : List ℕ) → Here setting page stopped b.ledger n.ledger all mid old new → AnswersLines setting (run_of b n) (lines all) old new
answers-all setting b n all mid page stopped e old new h =
    let done : h.2.done ≡ lines all = sym (h.2.cut ∙ (ap (λ (bytes : List ℕ). h.2.done ++ lines bytes) e ∙ append-nil h.2.done)) in
    record {
      logs = h.2.logs;
      text = h.2.text;
      replies = subst (λ (ls : List (List ℕ)). AreReplies setting start ls h.2.logs h.2.text) done (replies-done setting all mid old new b.ledger n.ledger h.0 stopped h.2);
      appended = h.2.appended;
      logged = h.2.logged;
    }

pub Told-all : (setting : Setting) (b n : Outside) (mid : Option (List ℕ)) (page : Option Page) (stopped : Option Line) → Told setting b n mid page stopped
    → FromTo mid n.source.left (λ all rest. (all ≡ []) × (rest ≡ [])) → Served setting (run_of b n)
Told-all setting b n mid page stopped told end =
    FromTo-joins b.source.left mid n.source.left (λ all rest. FromTo b.sink.held n.sink.held (Here setting page stopped b.ledger n.ledger all rest)) (λ all rest. (all ≡ []) × (rest ≡ []))
    (λ all rest. (rest ≡ []) × FromTo b.sink.held n.sink.held (AnswersLines setting (run_of b n) (lines all)))
    (λ all middle rest answered nothing. (nothing.1, FromTo-weaker b.sink.held n.sink.held (Here setting page stopped b.ledger n.ledger all middle) (AnswersLines setting (run_of b n) (lines all)) (answers-all setting b n all middle page stopped nothing.0) answered)) told end

-- the whole lines before an unbroken part were answered
answers-whole : (setting : Setting) (b n : Outside) (all mid rest part : List ℕ) (page : Option Page) (stopped : Option Line) → stopped ≡ None → IsUnbroken part → mid ≡ part ++ rest
    → (old new : List ℕ) → Here setting page stopped b.ledger n.ledger all mid old new → (taken : List ℕ) × (all ≡ taken ++ rest) × AnswersLines setting (run_of b n) (whole_lines taken) old new
answers-whole setting b n all mid rest part page stopped going u e old new h = (
  h.2.before ++ part,
  h.2.joins ∙ (ap (λ (x : List ℕ). h.2.before ++ x) e ∙ sym (append_assoc h.2.before part rest)),
  record {
    logs = h.2.logs;
    text = h.2.text;
    replies = subst (λ (ls : List (List ℕ)). AreReplies setting start ls h.2.logs h.2.text) (sym (AreWhole-part h.2.before part h.2.done (h.2.whole going) u)) (replies-done setting all mid old new b.ledger n.ledger h.0 stopped h.2);
    appended = h.2.appended;
    logged = h.2.logged;
  },
)

-- every whole line that was taken was answered
pub Told-whole : (setting : Setting) (b n : Outside) (mid : Option (List ℕ)) (page : Option Page) (stopped : Option Line) → Told setting b n mid page stopped → stopped ≡ None
    → FromTo mid n.source.left (λ all rest. (part : List ℕ) × IsUnbroken part × (all ≡ part ++ rest)) → ServedWhole setting (run_of b n)
Told-whole setting b n mid page stopped told going off =
    FromTo-joins b.source.left mid n.source.left (λ all rest. FromTo b.sink.held n.sink.held (Here setting page stopped b.ledger n.ledger all rest)) (λ all rest. (part : List ℕ) × IsUnbroken part × (all ≡ part ++ rest))
    (λ all rest. FromTo b.sink.held n.sink.held (λ old new. (taken : List ℕ) × (all ≡ taken ++ rest) × AnswersLines setting (run_of b n) (whole_lines taken) old new))
    (λ all middle rest answered broken. FromTo-weaker b.sink.held n.sink.held (Here setting page stopped b.ledger n.ledger all middle) (λ old new. (taken : List ℕ) × (all ≡ taken ++ rest) × AnswersLines setting (run_of b n) (whole_lines taken) old new)
    (answers-whole setting b n all middle rest broken.0 page stopped going broken.1 broken.2) answered) told off

-- ---- long lines

too-long : (line : List ℕ) → MAX_LINE < length line → asked_of_line line ≡ broken LineTooLong
unfolding asked_of_line
too-long line h = rw (lt-ltb MAX_LINE (length line) h) refl

-- a line that is too long is asked nothing of
pub asks-too_long : (ahead ahead' : Option (List ℕ)) (kept : List ℕ) (stopped : Option Line)
    → FromTo ahead ahead' (Gives TooLong kept stopped) → FromTo ahead ahead' (λ all rest. (line : List ℕ) × IsFirstLine line stopped all rest × (asked_of_line line ≡ broken LineTooLong))
asks-too_long ahead ahead' kept stopped f =
    FromTo-weaker ahead ahead' (Gives TooLong kept stopped) (λ all rest. (line : List ℕ) × IsFirstLine line stopped all rest × (asked_of_line line ≡ broken LineTooLong))
    (λ all rest g. (g.0, g.1, too-long g.0 g.2)) f

-- a fact of a reader that has not stopped
pub at-none : (o : Option Line) (P : Type 0) → o ≡ None → IfNone o P → P
at-none None P e p = p
at-none (Some x) P e p = absurd (cc)

pub at-some : (o : Option Line) (x : Line) (P : Line → Type 0) → o ≡ Some x → IfSome o P → P x
at-some None x P e p = absurd (cc)
at-some (Some y) x P e p = let is : y ≡ x = cc in subst P is p

-- a reader that stopped in reading a long line has nothing ahead
pub NothingLeft-too_long : (ahead ahead' : Option (List ℕ)) (kept : List ℕ) (stopped : Option Line) → FromTo ahead ahead' (Gives TooLong kept stopped) → stopped ≡ Some End → NothingLeft ahead'
NothingLeft-too_long None None kept stopped f e = tt
NothingLeft-too_long (Some x) (Some y) kept None f e = absurd (cc)
NothingLeft-too_long (Some x) (Some y) kept (Some s) f e = f.1.ends.3
NothingLeft-too_long None (Some y) kept stopped f e = absurd f
NothingLeft-too_long (Some x) None kept stopped f e = absurd f

pub counts-too_long : (o : Option Line) (old new : SourceState) → CountsFaults o TooLong old new → new.faults ≡ old.faults
counts-too_long None old new e = e
counts-too_long (Some x) old new e = e

-- ---- what was written however a run ends

-- bytes were taken up to these
abbrev pub Fronts : Option (List ℕ) → Option (List ℕ) → Type 0
Fronts mid left = FromTo mid left (λ all rest. (front : List ℕ) × (all ≡ front ++ rest))

pub Fronts-line : (mid left : Option (List ℕ)) (p : List ℕ) (stopped : Option Line) (asked : Asked)
    → FromTo mid (ahead p left) (λ all rest. (line : List ℕ) × IsFirstLine line stopped all rest × (asked_of_line line ≡ asked)) → Fronts mid left
Fronts-line None None p stopped asked f = tt
Fronts-line (Some x) (Some y) p stopped asked f =
    ((f.0 ++ line_end stopped) ++ p, line-is f.0 x (p ++ y) stopped f.1.ends ∙ sym (append_assoc (f.0 ++ line_end stopped) p y))
Fronts-line None (Some y) p stopped asked f = absurd f
Fronts-line (Some x) None p stopped asked f = absurd f

pub Fronts-ahead : (mid left : Option (List ℕ)) (p : List ℕ) → Fronts mid (ahead p left) → Fronts mid left
Fronts-ahead None None p f = tt
Fronts-ahead (Some x) (Some y) p f = (f.0 ++ p, f.1 ∙ sym (append_assoc f.0 p y))
Fronts-ahead None (Some y) p f = absurd f
Fronts-ahead (Some x) None p f = absurd f

pub Fronts-end : (mid left : Option (List ℕ)) → FromTo mid left (λ all rest. (all ≡ []) × (rest ≡ [])) → Fronts mid left
Fronts-end mid left f = FromTo-weaker mid left (λ all rest. (all ≡ []) × (rest ≡ [])) (λ all rest. (front : List ℕ) × (all ≡ front ++ rest)) (λ x y e. ([], e.0 ∙ sym e.1)) f

pub Fronts-part : (mid left : Option (List ℕ)) → FromTo mid left (λ all rest. (part : List ℕ) × IsUnbroken part × (all ≡ part ++ rest)) → Fronts mid left
Fronts-part mid left f = FromTo-weaker mid left (λ all rest. (part : List ℕ) × IsUnbroken part × (all ≡ part ++ rest)) (λ all rest. (front : List ℕ) × (all ≡ front ++ rest)) (λ x y e. (e.0, e.2)) f

pub Fronts-fresh : (left : Option (List ℕ)) → Fronts (ahead [] left) left
Fronts-fresh None = tt
Fronts-fresh (Some x) = ([], refl)

-- what a line asks for that is the first of those ahead
pub first-asks : (mid left' : Option (List ℕ)) (stopped' : Option Line) (asked : Asked) (rest : List ℕ) → FromTo mid left' (λ all r. (line : List ℕ) × IsFirstLine line stopped' all r × (asked_of_line line ≡ asked))
    → mid ≡ Some rest → most_of_first (lines rest) ≡ logs_of_asked asked
first-asks None left' stopped' asked rest f e = absurd (cc)
first-asks (Some x) None stopped' asked rest f e = absurd f
first-asks (Some x) (Some y) stopped' asked rest f e =
    let same : x ≡ rest = cc in
    subst (λ (z : List ℕ). most_of_first (lines z) ≡ logs_of_asked asked) same (ap most_of_first f.1.first ∙ ap logs_of_asked f.2)

-- whole replies were written
begins-replies : (setting : Setting) (status : Status) (b n n' : Outside) (all mid rest front : List ℕ) (page : Option Page) (stopped : Option Line) (begun : List Log)
    → ((first : List (List ℕ)) (text : List ℕ) → IsWritten setting status first text text) → mid ≡ front ++ rest → n'.ledger ≡ n.ledger ++ events begun → HasBegunBy status (lines mid) begun
    → (old new : List ℕ) → Here setting page stopped b.ledger n.ledger all mid old new → BeginsReplies setting status (run_of b n') all rest old new
begins-replies setting status b n n' all mid rest front page stopped begun whole e log has old new h = record {
  first = h.2.done;
  others = lines mid;
  taken = h.2.before ++ front;
  later = (h.2.within front rest e).0;
  logs = h.2.logs;
  begun = begun;
  text = h.2.text;
  written = h.2.text;
  cut = h.2.cut;
  parted = h.2.joins ∙ (ap (λ (x : List ℕ). h.2.before ++ x) e ∙ sym (append_assoc h.2.before front rest));
  within = (h.2.within front rest e).1;
  replies = replies-done setting all mid old new b.ledger n.ledger h.0 stopped h.2;
  appended = h.2.appended;
  part = whole h.2.done h.2.text;
  has_begun = has;
  logged = logged-more b.ledger n.ledger n'.ledger h.2.logs begun h.2.logged log;
}

wrote-told : (setting : Setting) (status : Status) (b n n' : Outside) (left mid left' : Option (List ℕ)) (page : Option Page) (stopped : Option Line) (begun : List Log)
    → ((first : List (List ℕ)) (text : List ℕ) → IsWritten setting status first text text) → n'.ledger ≡ n.ledger ++ events begun → ((rest : List ℕ) → mid ≡ Some rest → HasBegunBy status (lines rest) begun)
    → FromTo left mid (λ all rest. FromTo b.sink.held n.sink.held (Here setting page stopped b.ledger n.ledger all rest)) → Fronts mid left'
    → FromTo left left' (λ all rest. FromTo b.sink.held n.sink.held (BeginsReplies setting status (run_of b n') all rest))
wrote-told setting status b n n' None None None page stopped begun whole log has told f = tt
wrote-told setting status b n n' (Some all) (Some mid) (Some rest) page stopped begun whole log has told f =
    FromTo-weaker b.sink.held n.sink.held (Here setting page stopped b.ledger n.ledger all mid) (BeginsReplies setting status (run_of b n') all rest)
    (begins-replies setting status b n n' all mid rest f.0 page stopped begun whole f.1 log (has mid refl)) told
wrote-told setting status b n n' None (Some mid) left' page stopped begun whole log has told f = absurd told
wrote-told setting status b n n' (Some all) None left' page stopped begun whole log has told f = absurd told
wrote-told setting status b n n' None None (Some rest) page stopped begun whole log has told f = absurd f
wrote-told setting status b n n' (Some all) (Some mid) None page stopped begun whole log has told f = absurd f

pub Wrote-told : (setting : Setting) (status : Status) (b n n' : Outside) (mid : Option (List ℕ)) (page : Option Page) (stopped : Option Line) (begun : List Log)
    → ((first : List (List ℕ)) (text : List ℕ) → IsWritten setting status first text text) → n'.sink ≡ n.sink → n'.ledger ≡ n.ledger ++ events begun → ((rest : List ℕ) → mid ≡ Some rest → HasBegunBy status (lines rest) begun)
    → Told setting b n mid page stopped → Fronts mid n'.source.left → Wrote setting status (run_of b n')
Wrote-told setting status b n n' mid page stopped begun whole same log has told f =
    subst (λ (s : SinkState). FromTo b.source.left n'.source.left (λ all rest. FromTo b.sink.held s.held (BeginsReplies setting status (run_of b n') all rest))) (sym same)
    (wrote-told setting status b n n' b.source.left mid n'.source.left page stopped begun whole log has told f)

-- a prefix of the last reply was written
begins-cut : (setting : Setting) (b n n' : Outside) (all mid rest p line reply : List ℕ) (own : List Log) (page page' : Option Page) (stopped stopped' : Option Line)
    → stopped ≡ None → IsFirstLine line stopped' mid (p ++ rest) → IsResponse (asked_of_line line) own reply page page' → n'.ledger ≡ n.ledger ++ events own
    → (old new new' : List ℕ) → Here setting page stopped b.ledger n.ledger all mid old new → (k : ℕ) × (k ≤ length reply) × (new' ≡ new ++ take k reply) → BeginsReplies setting WriteFault (run_of b n') all rest old new'
begins-cut setting b n n' all mid rest p line reply own page page' stopped stopped' going first response log old new new' h push =
    let a = h.2 in
    let to = response setting h.0 h.1 in
    let more = within-more a.before line mid (p ++ rest) a.done stopped' (a.whole going) first p rest refl in
    record {
      first = a.done ++ line ∷ [];
      others = lines (p ++ rest);
      taken = (a.before ++ (line ++ line_end stopped')) ++ p;
      later = more.0;
      logs = a.logs ++ own;
      begun = [];
      text = a.text ++ reply;
      written = a.text ++ take push.0 reply;
      cut = cut-more all mid line (p ++ rest) a.done stopped' a.cut first;
      parted = joins-more all a.before mid line (p ++ rest) stopped' a.joins first.ends ∙ sym (append_assoc (a.before ++ (line ++ line_end stopped')) p rest);
      within = more.1;
      replies = replies-of setting to.0 (a.done ++ line ∷ []) (a.logs ++ own) (a.text ++ reply) (goes-more setting h.0 to.0 line reply a.text own a.logs a.done to.1 a.goes_on);
      appended = push.2 ∙ (ap (λ (x : List ℕ). x ++ take push.0 reply) a.appended ∙ append_assoc old a.text (take push.0 reply));
      part = record {
        answered = a.done;
        last = line;
        logs = a.logs;
        before = a.text;
        reply = reply;
        part = push.0;
        lines_are = refl;
        replies = replies-done setting all mid old new b.ledger n.ledger h.0 stopped a;
        text_is = refl;
        within = push.1;
        written = refl;
      };
      has_begun = refl;
      logged = logged-more b.ledger n.ledger n'.ledger a.logs own a.logged log ∙ ap (λ (x : List Log). b.ledger ++ events x) (sym (append-nil (a.logs ++ own)));
    }

wrote-cut : (setting : Setting) (b n n' : Outside) (left mid left' : Option (List ℕ)) (p : List ℕ) (page page' : Option Page) (stopped stopped' : Option Line) (asked : Asked) (own : List Log) (reply : List ℕ)
    → FromTo left mid (λ all rest. FromTo b.sink.held n.sink.held (Here setting page stopped b.ledger n.ledger all rest)) → stopped ≡ None
    → FromTo mid (ahead p left') (λ all rest. (line : List ℕ) × IsFirstLine line stopped' all rest × (asked_of_line line ≡ asked))
    → IsResponse asked own reply page page' → AppendsPart n.sink.held n'.sink.held reply → n'.ledger ≡ n.ledger ++ events own
    → FromTo left left' (λ all rest. FromTo b.sink.held n'.sink.held (BeginsReplies setting WriteFault (run_of b n') all rest))
wrote-cut setting b n n' None None None p page page' stopped stopped' asked own reply told going read response push log = tt
wrote-cut setting b n n' (Some all) (Some mid) (Some rest) p page page' stopped stopped' asked own reply told going read response push log =
    FromTo-joins b.sink.held n.sink.held n'.sink.held (Here setting page stopped b.ledger n.ledger all mid) (λ old new. (k : ℕ) × (k ≤ length reply) × (new ≡ old ++ take k reply)) (BeginsReplies setting WriteFault (run_of b n') all rest)
    (begins-cut setting b n n' all mid rest p read.0 reply own page page' stopped stopped' going read.1 (subst (λ (a : Asked). IsResponse a own reply page page') (sym read.2) response) log) told push
wrote-cut setting b n n' None (Some mid) left' p page page' stopped stopped' asked own reply told going read response push log = absurd told
wrote-cut setting b n n' (Some all) None left' p page page' stopped stopped' asked own reply told going read response push log = absurd told
wrote-cut setting b n n' None None (Some rest) p page page' stopped stopped' asked own reply told going read response push log = absurd read
wrote-cut setting b n n' (Some all) (Some mid) None p page page' stopped stopped' asked own reply told going read response push log = absurd read

-- ---- bytes taken

-- while a script is served: what was answered so far, what was taken, and that nothing failed
pub record Serving (setting : Setting) (b n : Outside) (reader : Reader) (page : Option Page) : Type 0 where
  pub going : HasNotFailed reader
  pub ended : IsAtEnd reader n.source
  pub told : Told setting b n (ahead reader.pending n.source.left) page reader.stopped
  pub once : LogsOnce b.ledger n.ledger
  pub grew : Grew b.source.taken reader.taken n.source.taken
  pub took : TakesCount b.source.left n.source.left reader.taken
  pub bounded : reader.taken ≤ MAX_TAKEN
  pub source : n.source.faults ≡ b.source.faults
  pub sink : n.sink.faults ≡ b.sink.faults

pub Serving-start : (setting : Setting) (b : Outside) → Serving setting b b new_reader None
Serving-start setting b = record {
  going = inl refl;
  ended = λ e. absurd (cc);
  told = Told-start setting b;
  once = LogsOnce-none b.ledger;
  grew = omega arith;
  took = TakesCount-none b.source.left 0 refl;
  bounded = omega arith;
  source = refl;
  sink = refl;
}

grew-on : (b n n' : Outside) (old new : Reader) → Grew b.source.taken old.taken n.source.taken → ReadsOn old new n.source n'.source → Grew b.source.taken new.taken n'.source.taken
grew-on b n n' old new grew a =
    let sum : old.taken + (new.taken - old.taken) ≡ new.taken = omega (arith, a.forward) in
    Grew-joins b.source.taken n.source.taken n'.source.taken old.taken (new.taken - old.taken) new.taken sum grew a.grew

took-on : (b n n' : Outside) (old new : Reader) → TakesCount b.source.left n.source.left old.taken → ReadsOn old new n.source n'.source → TakesCount b.source.left n'.source.left new.taken
took-on b n n' old new took a =
    let sum : old.taken + (new.taken - old.taken) ≡ new.taken = omega (arith, a.forward) in
    TakesCount-joins b.source.left n.source.left n'.source.left old.taken (new.taken - old.taken) new.taken sum took a.told

-- what a run took before and takes now
taken-by : (setting : Setting) (status : Status) (b n n' : Outside) (old new : Reader) (page : Option Page) → Serving setting b n old page → ReadsOn old new n.source n'.source → CountBy status new.taken → TakenBy status (run_of b n')
taken-by setting status b n n' old new page s a count = (new.taken, count, grew-on b n n' old new s.grew a, took-on b n n' old new s.took a)

-- a line was answered
pub Serving-more : (setting : Setting) (b n n' : Outside) (old new : Reader) (page page' : Option Page) (asked : Asked) → Serving setting b n old page → AsksNext asked old new n.source n'.source → ReadsOn old new n.source n'.source
    → (r : Responds asked page page' (record { sink = n.sink; ledger = n.ledger }) (record { sink = n'.sink; ledger = n'.ledger })) × Appends n.sink.held n'.sink.held r.reply × (n'.sink.faults ≡ n.sink.faults)
    → Serving setting b n' new page'
Serving-more setting b n n' old new page page' asked s next a turn = record {
  going = next.goes_on;
  ended = next.ended;
  told = Told-more setting b n n' (ahead old.pending n.source.left) (ahead new.pending n'.source.left) page page' old.stopped new.stopped asked turn.0.own turn.0.reply s.told next.going next.line turn.0.response turn.1 turn.0.logged;
  once = LogsOnce-more b.ledger n.ledger n'.ledger turn.0.own s.once turn.0.once turn.0.logged;
  grew = grew-on b n n' old new s.grew a;
  took = took-on b n n' old new s.took a;
  bounded = a.bounded;
  source = next.faults ∙ s.source;
  sink = turn.2 ∙ s.sink;
}

-- ---- completeness

complete-at : (status : Status) (run : Run) (left left' : Option (List ℕ)) → FaultsBy status run
    → (n : ℕ) × CountBy status n × Grew run.before.source.taken n run.after.source.taken × TakesCount left left' n → (status ≡ BadWords → ⊥)
    → IsUntroubled run → HasFewer left run.before.source.taken run.after.source.taken → IsDoneButForMemory status
complete-at Done run left left' faults taken words calm few = inl refl
complete-at NoMemory run left left' faults taken words calm few = inr refl
complete-at BadWords run left left' faults taken words calm few = absurd (words refl)
complete-at ReadFault run left left' faults taken words calm few = absurd (omega (arith, faults.0.0, faults.0.1, calm.source, calm.source_counts))
complete-at WriteFault run left left' faults taken words calm few = absurd (omega (arith, faults.1.0, faults.1.1, calm.sink, calm.sink_counts))
complete-at InputSpent run None left' faults taken words calm few = absurd (omega (arith, taken.1, taken.2, few.0, few.1))
complete-at InputSpent run (Some x) (Some y) faults taken words calm few = absurd (omega (arith, taken.1, taken.3.2, few, ap length taken.3.1, length-append taken.3.0 y))
complete-at InputSpent run (Some x) None faults taken words calm few = absurd taken.3

complete-by : (status : Status) (run : Run) → FaultsBy status run → TakenBy status run → (status ≡ BadWords → ⊥)
    → IsUntroubled run → HasFewer run.before.source.left run.before.source.taken run.after.source.taken → IsDoneButForMemory status
complete-by status run faults taken words calm few = complete-at status run run.before.source.left run.after.source.left faults taken words calm few

-- ---- how a run ends

-- the whole statement, of its parts
ends : (setting : Setting) (status : Status) (run : Run) → (status ≡ BadWords → ⊥) → (status ≡ Done → Served setting run) → BreaksOff setting status run → Wrote setting status run
    → LogsOnce run.before.ledger run.after.ledger → FaultsBy status run → TakenBy status run → Serves setting status run
ends setting status run words done off wrote once faults taken = record {
  done = done;
  broken_off = off;
  wrote = wrote;
  once = once;
  faults = faults;
  taken = taken;
  complete = complete-by status run faults taken words;
  words = words;
}

-- there was no memory for a reader
pub ends-new : (setting : Setting) (b : Outside) → Serves setting NoMemory (run_of b b)
ends-new setting b =
    ends setting NoMemory (run_of b b) (λ e. absurd (cc)) (λ e. absurd (cc)) tt
    (Wrote-told setting NoMemory b b b (ahead [] b.source.left) None None [] (λ first text. refl) refl (sym (append-nil b.ledger)) (λ rest e. omega arith) (Told-start setting b) (Fronts-fresh b.source.left))
    (LogsOnce-none b.ledger) (refl, refl) (0, omega arith, omega arith, TakesCount-none b.source.left 0 refl)

abbrev pub with_source : Outside → SourceState → Outside
with_source n s = record { source = s; sink = n.sink; ledger = n.ledger }

pub ends-done : (setting : Setting) (b n : Outside) (s' : SourceState) (old new : Reader) (page : Option Page) → Serving setting b n old page → ReadsOn old new n.source s'
    → FromTo (ahead old.pending n.source.left) s'.left (λ all rest. (all ≡ []) × (rest ≡ [])) × (new.taken < MAX_TAKEN) × (s'.faults ≡ n.source.faults) → Serves setting Done (run_of b (with_source n s'))
ends-done setting b n s' old new page s a end =
    ends setting Done (run_of b (with_source n s')) (λ e. absurd (cc)) (λ _. Told-all setting b (with_source n s') (ahead old.pending n.source.left) page old.stopped s.told end.0) tt
    (Wrote-told setting Done b n (with_source n s') (ahead old.pending n.source.left) page old.stopped [] (λ first text. refl) refl (sym (append-nil n.ledger)) (λ rest e. refl) s.told (Fronts-end (ahead old.pending n.source.left) s'.left end.0))
    s.once (end.2 ∙ s.source, s.sink) (taken-by setting Done b n (with_source n s') old new page s a end.1)

pub ends-failed : (setting : Setting) (b n : Outside) (s' : SourceState) (old new : Reader) (page : Option Page) → Serving setting b n old page → ReadsOn old new n.source s'
    → (new.taken < MAX_TAKEN) × TakesPart old n.source s' × CountsFault n.source.faults s'.faults → Serves setting ReadFault (run_of b (with_source n s'))
ends-failed setting b n s' old new page s a end =
    ends setting ReadFault (run_of b (with_source n s')) (λ e. absurd (cc)) (λ e. absurd (cc)) (Told-whole setting b (with_source n s') (ahead old.pending n.source.left) page old.stopped s.told end.1.0 end.1.1)
    (Wrote-told setting ReadFault b n (with_source n s') (ahead old.pending n.source.left) page old.stopped [] (λ first text. refl) refl (sym (append-nil n.ledger)) (λ rest e. refl) s.told (Fronts-part (ahead old.pending n.source.left) s'.left end.1.1))
    s.once (subst (λ (k : ℕ). CountsFault k s'.faults) s.source end.2, s.sink) (taken-by setting ReadFault b n (with_source n s') old new page s a end.0)

pub ends-spent : (setting : Setting) (b n : Outside) (s' : SourceState) (old new : Reader) (page : Option Page) → Serving setting b n old page → ReadsOn old new n.source s'
    → (new.taken ≡ MAX_TAKEN) × TakesPart old n.source s' × (s'.faults ≡ n.source.faults) → Serves setting InputSpent (run_of b (with_source n s'))
ends-spent setting b n s' old new page s a end =
    ends setting InputSpent (run_of b (with_source n s')) (λ e. absurd (cc)) (λ e. absurd (cc)) (Told-whole setting b (with_source n s') (ahead old.pending n.source.left) page old.stopped s.told end.1.0 end.1.1)
    (Wrote-told setting InputSpent b n (with_source n s') (ahead old.pending n.source.left) page old.stopped [] (λ first text. refl) refl (sym (append-nil n.ledger)) (λ rest e. refl) s.told (Fronts-part (ahead old.pending n.source.left) s'.left end.1.1))
    s.once (end.2 ∙ s.source, s.sink) (taken-by setting InputSpent b n (with_source n s') old new page s a end.0)

-- there was no memory for what a line asks for
pub ends-unread : (setting : Setting) (b n : Outside) (s' : SourceState) (old new : Reader) (page : Option Page) → Serving setting b n old page → ReadsOn old new n.source s'
    → Fronts (ahead old.pending n.source.left) (ahead new.pending s'.left) × (s'.faults ≡ n.source.faults) → Serves setting NoMemory (run_of b (with_source n s'))
ends-unread setting b n s' old new page s a end =
    ends setting NoMemory (run_of b (with_source n s')) (λ e. absurd (cc)) (λ e. absurd (cc)) tt
    (Wrote-told setting NoMemory b n (with_source n s') (ahead old.pending n.source.left) page old.stopped [] (λ first text. refl) refl (sym (append-nil n.ledger)) (λ rest e. omega arith) s.told (Fronts-ahead (ahead old.pending n.source.left) s'.left new.pending end.0))
    s.once (end.1 ∙ s.source, s.sink) (taken-by setting NoMemory b n (with_source n s') old new page s a a.bounded)

-- the sink failed at a reply
pub ends-cut : (setting : Setting) (b n n' : Outside) (old new : Reader) (page page' : Option Page) (asked : Asked) → Serving setting b n old page → AsksNext asked old new n.source n'.source → ReadsOn old new n.source n'.source
    → (r : Responds asked page page' (record { sink = n.sink; ledger = n.ledger }) (record { sink = n'.sink; ledger = n'.ledger })) × AppendsPart n.sink.held n'.sink.held r.reply × CountsFault n.sink.faults n'.sink.faults
    → Serves setting WriteFault (run_of b n')
ends-cut setting b n n' old new page page' asked s next a turn =
    ends setting WriteFault (run_of b n') (λ e. absurd (cc)) (λ e. absurd (cc)) tt
    (wrote-cut setting b n n' b.source.left (ahead old.pending n.source.left) n'.source.left new.pending page page' old.stopped new.stopped asked turn.0.own turn.0.reply s.told next.going next.line turn.0.response turn.1 turn.0.logged)
    (LogsOnce-more b.ledger n.ledger n'.ledger turn.0.own s.once turn.0.once turn.0.logged)
    (next.faults ∙ s.source, subst (λ (k : ℕ). CountsFault k n'.sink.faults) s.sink turn.2) (taken-by setting WriteFault b n n' old new page s a a.bounded)

-- there was no memory for a reply
pub ends-unanswered : (setting : Setting) (b n n' : Outside) (old new : Reader) (page : Option Page) (asked : Asked) → Serving setting b n old page → AsksNext asked old new n.source n'.source → ReadsOn old new n.source n'.source
    → BeginsLogs asked n.ledger n'.ledger × (n'.sink ≡ n.sink) → Serves setting NoMemory (run_of b n')
ends-unanswered setting b n n' old new page asked s next a turn =
    ends setting NoMemory (run_of b n') (λ e. absurd (cc)) (λ e. absurd (cc)) tt
    (Wrote-told setting NoMemory b n n' (ahead old.pending n.source.left) page old.stopped turn.0.begun (λ first text. refl) turn.1 turn.0.logged
    (λ rest e. rw (first-asks (ahead old.pending n.source.left) (ahead new.pending n'.source.left) new.stopped asked rest next.line e) turn.0.few) s.told (Fronts-line (ahead old.pending n.source.left) n'.source.left new.pending new.stopped asked next.line))
    (LogsOnce-more b.ledger n.ledger n'.ledger turn.0.begun s.once turn.0.once turn.0.logged)
    (next.faults ∙ s.source, ap (λ (k : SinkState). k.faults) turn.1 ∙ s.sink) (taken-by setting NoMemory b n n' old new page s a a.bounded)

-- ---- one turn

-- a reply was told, or cut short
pub turns-told : (t : Turn) (asked : Asked) (page page' : Option Page) (sink sink' : SinkState) (es es' : List Event) (reply : List ℕ) (own : List Log)
    → Tells t reply sink sink' → IsResponse asked own reply page page' → AllOnce own → es' ≡ es ++ events own
    → Turns t asked page page' (record { sink = sink; ledger = es }) (record { sink = sink'; ledger = es' })
turns-told turn.Answered asked page page' sink sink' es es' reply own told response once log = (record { own = own; reply = reply; response = response; once = once; logged = log }, told.0, told.1)
turns-told turn.Failed asked page page' sink sink' es es' reply own told response once log = (record { own = own; reply = reply; response = response; once = once; logged = log }, told.0, told.1)
turns-told turn.NoMemory asked page page' sink sink' es es' reply own told response once log = absurd told

-- a line begins one log or none
one-or-none : (asked : Asked) → (logs_of_asked asked ≡ 0) ⊎ (logs_of_asked asked ≡ 1)
one-or-none nothing = inl refl
one-or-none (broken c) = inl refl
one-or-none (request (edit e)) = inr refl
one-or-none (request (query Dump)) = inr refl
one-or-none (request (query Rules)) = inl refl
one-or-none (request (query (Match selector))) = inl refl
one-or-none (request (query (Style i))) = inr refl

-- the work after the marks
logged-after : (work : Log) (n : ℕ) → (n ≡ 0) ⊎ (n ≡ 1) → (n ≡ 0 → work ≡ []) → (es es1 es2 : List Event)
    → es1 ≡ es ++ events (empty_logs n) → es2 ≡ es1 ++ pairs work → es2 ≡ es ++ events (logs_with work n)
logged-after work zero one none es es1 es2 e f =
    f ∙ (ap (λ w. es1 ++ pairs w) (none refl) ∙ (append-nil es1 ∙ e))
logged-after work (suc zero) one none es es1 es2 e f =
    f ∙ (ap (λ x. x ++ pairs work) e
    ∙ (append_assoc es (mark ∷ []) (pairs work) ∙ ap (λ x. es ++ mark ∷ x) (sym (append-nil (pairs work)))))
logged-after work (suc (suc n)) (inl h) none es es1 es2 e f = absurd (cc)
logged-after work (suc (suc n)) (inr h) none es es1 es2 e f = absurd (cc)

once-after : (work : Log) (n : ℕ) → AreDistinct work → AllOnce (logs_with work n)
once-after work zero d = tt
once-after work (suc n) d = (d, AllOnce-empty n)

few-empty : (n : ℕ) → length (empty_logs n) ≤ n
few-empty zero = omega arith
few-empty (suc n) = let rest = few-empty n in omega (arith, rest)

few-after : (work : Log) (n : ℕ) → length (logs_with work n) ≤ n
few-after work zero = omega arith
few-after work (suc n) = let rest = few-empty n in omega (arith, rest)

-- a turn whose logs were begun and which was then carried out and told
pub turns-carried : (t : Turn) (asked : Asked) (page page' : Option Page) (sink sink' : SinkState) (es es1 es2 : List Event) (reply : List ℕ)
    → Tells t reply sink sink' → es1 ≡ es ++ events (empty_logs (logs_of_asked asked)) → CarriesOut asked reply page page' es1 es2
    → Turns t asked page page' (record { sink = sink; ledger = es }) (record { sink = sink'; ledger = es2 })
turns-carried t asked page page' sink sink' es es1 es2 reply told marks c =
    turns-told t asked page page' sink sink' es es2 reply (logs_with c.work (logs_of_asked asked)) told c.response
    (once-after c.work (logs_of_asked asked) c.works.once)
    (logged-after c.work (logs_of_asked asked) (one-or-none asked) c.works.within es es1 es2 marks c.works.logged)

pub turns-begun : (asked : Asked) (es es1 es2 : List Event) → es1 ≡ es ++ events (empty_logs (logs_of_asked asked)) → SetsOut asked es1 es2
    → BeginsLogs asked es es2
turns-begun asked es es1 es2 marks s = record {
  begun = logs_with s.0 (logs_of_asked asked);
  few = few-after s.0 (logs_of_asked asked);
  once = once-after s.0 (logs_of_asked asked) s.1.once;
  logged = logged-after s.0 (logs_of_asked asked) (one-or-none asked) s.1.within es es1 es2 marks s.1.logged;
}

-- a line was read that is kept whole
pub Fronts-whole : (a b : Option (List ℕ)) (kept : List ℕ) (stopped : Option Line) → FromTo a b (Gives Whole kept stopped) → FromTo a b (λ all rest. (front : List ℕ) × (all ≡ front ++ rest))
Fronts-whole a b kept stopped f =
    FromTo-weaker a b (Gives Whole kept stopped) (λ all rest. (front : List ℕ) × (all ≡ front ++ rest)) (λ x y g. (kept ++ line_end stopped, line-is kept x y stopped g.0.ends)) f

pub counts-whole : (o : Option Line) (old new : SourceState) → CountsFaults o Whole old new → new.faults ≡ old.faults
counts-whole None old new e = e
counts-whole (Some x) old new e = e
