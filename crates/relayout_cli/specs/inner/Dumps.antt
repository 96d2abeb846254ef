-- The dump of a page.
use Rattle.std.specs.Prelude.{◌≡◌, ℕ, List, ◌++◌, Bool, true, false}
use Rattle.page_model.specs.Pages.{Page}
use Rattle.layout_model.specs.Setting.{Setting}
use Rattle.layout_model.specs.Consistent.{Assignment, Consistent}
use Rattle.page_model.specs.declared.cause.Cause.TheVariants.{NotBuilt}
use Rattle.request_model.specs.States.{is_styled_page}
use Rattle.reply_model.specs.Spelling.{ok_line, error_line}
use Rattle.reply_model.specs.DumpText.{dump_text}

-- the dump by an assignment that is consistent
abbrev pub IsDumpOf : Setting → Page → List ℕ → Type 0
IsDumpOf setting page reply = (a : Assignment) × Consistent setting page a
    × (reply ≡ dump_text page.document.root a ++ ok_line)

-- the reply to a dump, by whether a box may be another than that of a plain block
abbrev pub IsDumpBy : Bool → Page → List ℕ → Type 0
IsDumpBy true page reply = reply ≡ error_line NotBuilt
IsDumpBy false page reply = (setting : Setting) → IsDumpOf setting page reply

abbrev pub IsDumpReply : Page → List ℕ → Type 0
IsDumpReply page reply = IsDumpBy (is_styled_page page) page reply
