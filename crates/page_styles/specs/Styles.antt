-- The style of an element, and what computing it logs.
use Rattle.std.specs.Prelude.{◌≡◌, ℕ, List, ◌++◌, ◌≤◌, IsSome, true}
use Rattle.page_model.specs.Document.{Node, name_at}
use Rattle.stream_model.specs.Ledger.{Event, Log, pairs}
use Rattle.stream_model.specs.Lists.{AreDistinct, IsAmong}
use Rattle.stream_model.specs.declared.kind.Kind.{Kind}
use Rattle.reply_model.specs.Replies.{is_for_styles}
use Rattle.cascade_core.specs.Books.{book_view}
use Rattle.cascade_core.specs.declared.rule_book.RuleBook.{RuleBook}
use Rattle.cascade_model.specs.DocumentStyles.{Page}
use Rattle.cascade_model.specs.Styling.{Styling}
use Rattle.page_model.specs.declared.limits.TheConstants.{MAX_SIDE}
use Rattle.page_model.specs.declared.viewport.Viewport.{Viewport}
use Rattle.page_styles.specs.Paths.{IsPathAbove, style_below}

-- what styles are made from
abbrev pub page_of : RuleBook → Viewport → Node → Page
page_of book viewport root = record { book = book_view book; viewport = viewport; root = root }

-- this is the style of the element and its environment, by those of the elements above it
abbrev pub IsStyleAt : Page → ℕ → Styling → Type 0
IsStyleAt page i style = (above : List ℕ) × IsPathAbove page.root i above × (style ≡ style_below page i above)

-- elements of a document are matched and styled, each at most once
abbrev pub IsStyling : Node → Log → Type 0
IsStyling root log = AreDistinct log
    × ((work : Kind × ℕ) → IsAmong work log → (is_for_styles work.0 ≡ true) × IsSome (name_at work.1 root))

-- such work was logged
abbrev pub LogsStyling : Node → List Event → List Event → Type 0
LogsStyling root old new = (log : Log) × IsStyling root log × (new ≡ old ++ pairs log)

-- a first part of a log was logged
pub record IsBegun (whole : Log) (old new : List Event) : Type 0 where
  pub own : Log
  pub rest : Log
  pub parted : whole ≡ own ++ rest
  pub logged : new ≡ old ++ pairs own

-- the sides of a viewport are within the limit
pub record IsNarrow (viewport : Viewport) : Type 0 where
  pub width : viewport.width ≤ MAX_SIDE
  pub height : viewport.height ≤ MAX_SIDE
