-- The number of logs, and what is in them.
use Rattle.std.proofs.Common.{List, [], inl, inr, subst, ap, ap₂, drop, length, refl, suc, sym, take, zero, Option, ℕ, ◌++◌, ◌∷◌, ◌∙◌, ◌≡◌}
use Rattle.std.proofs.Math.Seq.{drop-append_seam, take-append_seam}
use Rattle.layout_model.specs.Consistent.{Assignment}
use Rattle.layout_model.specs.Setting.{Setting}
use Rattle.reply_model.specs.Replies.{AreLogs, AreLogsOf, Course, IsLogOf}
use Rattle.reply_laws.specs.Logs.{AreAllDistinct}
use Rattle.request_model.specs.Requests.{Request, edit, query}
use Rattle.request_model.specs.States.{logs_of}
use Rattle.request_model.specs.declared.query.Query.TheVariants.{Dump, Match, Rules, Style}
use Rattle.stream_model.specs.Ledger.{Log}
use Rattle.stream_model.specs.Lists.{AreDistinct, IsAmong}

pub length-logs : (n : ℕ) (P : Log → Type 0) (own : List Log) → AreLogs n P own → length own ≡ n
length-logs zero P own h = ap length h
length-logs (suc n) P own h = ap length h.2.2 ∙ ap suc (length-logs n P h.2.0 h.2.1)

pub length-logs_of : (setting : Setting) (from : Course) (q : Request) (a : Option Assignment) (own : List Log)
    → AreLogsOf setting from q a own → length own ≡ logs_of q
length-logs_of setting from q a own h = length-logs (logs_of q) (IsLogOf setting from q a) own h

pub some-logs : (n : ℕ) (P : Log → Type 0) (log : Log) → P log → (own : List Log) × AreLogs n P own
some-logs zero P log p = ([], refl)
some-logs (suc n) P log p =
    let others = some-logs n P log p in
    (log ∷ others.0, (log, p, (others.0, others.1, refl)))

-- whatever is asked, nothing may be logged
empty-log : (setting : Setting) (from : Course) (q : Request) (a : Option Assignment) → IsLogOf setting from q a []
empty-log setting from (edit e) a = refl
empty-log setting from (query Dump) a = refl
empty-log setting from (query Rules) a = refl
empty-log setting from (query (Match selector)) a = refl
empty-log setting from (query (Style i)) a = (tt, λ work among. absurd among)

pub some-logs_of : (setting : Setting) (from : Course) (q : Request) (a : Option Assignment) → (own : List Log) × AreLogsOf setting from q a own
some-logs_of setting from q a = some-logs (logs_of q) (IsLogOf setting from q a) [] (empty-log setting from q a)

-- ---- what is in each

-- what each of n logs meets, each log among them meets
pub all-logs : (n : ℕ) (P Q : Log → Type 0) → ((log : Log) → P log → Q log) → (own : List Log) → AreLogs n P own
    → (log : Log) → IsAmong log own → Q log
all-logs zero P Q meets own h log among = absurd (subst (λ (logs : List Log). IsAmong log logs) h among)
all-logs (suc n) P Q meets own h log among =
    elim (subst (λ (logs : List Log). IsAmong log logs) h.2.2 among) [
      | inl e ↦ subst Q (sym e) (meets h.0 h.1)
      | inr rest ↦ all-logs n P Q meets h.2.0 h.2.1 log rest
    ]

pub empty-distinct : (log : Log) → log ≡ [] → AreDistinct log
empty-distinct log h = subst (λ (log : Log). AreDistinct log) (sym h) tt

log-distinct : (setting : Setting) (from : Course) (q : Request) (a : Option Assignment) (log : Log) → IsLogOf setting from q a log → AreDistinct log
log-distinct setting from (edit e) a log h = empty-distinct log h
log-distinct setting from (query Dump) a log h = empty-distinct log h
log-distinct setting from (query Rules) a log h = empty-distinct log h
log-distinct setting from (query (Match selector)) a log h = empty-distinct log h
log-distinct setting from (query (Style i)) a log h = h.0

pub distinct-logs_of : (setting : Setting) (from : Course) (q : Request) (a : Option Assignment) (own : List Log)
    → AreLogsOf setting from q a own → AreAllDistinct own
distinct-logs_of setting from q a own h =
    all-logs (logs_of q) (IsLogOf setting from q a) AreDistinct (log-distinct setting from q a) own h

-- ---- one after another

-- a list is cut in one way where the length of the front is known
pub cut-same : {X : Type 0} (front back front' back' : List X) → length front ≡ length front' → front ++ back ≡ front' ++ back'
    → (front ≡ front') × (back ≡ back')
cut-same front back front' back' n e = (
  sym (take-append_seam front back) ∙ (ap₂ take n e ∙ take-append_seam front' back'),
  sym (drop-append_seam front back) ∙ (ap₂ drop n e ∙ drop-append_seam front' back'),
)
