-- How a count changes with each event.
use Rattle.std.proofs.Common.{◌≡◌, ℕ, ◌+◌, min, List, [], ◌∷◌, ◌++◌, Bool, true, false, cond, refl, ap, arith, zero-add}
use Rattle.stream_model.specs.Streams.{last_count}
use Rattle.stream_model.specs.Ledger.{Event, pair, mark, is_same, has_mark, count_since_mark}
use Rattle.stream_model.specs.declared.kind.Kind.{Kind}
use Rattle.stream_model.specs.declared.kind.Kind.TheVariants.{Match, Style, Measure, Size, Place}
use Rattle.port_core.specs.declared.steps.Counts.{Counts}
use Rattle.port_core.specs.inner.Past.{count_of, one_more, counts_after_pair, CountsSinceMark}

has_mark-mark : (es : List Event) → has_mark (es ++ mark ∷ []) ≡ true
has_mark-mark [] = refl
has_mark-mark (mark ∷ es) = refl
has_mark-mark (pair kind id ∷ es) = has_mark-mark es

has_mark-pair : (es : List Event) (kind : Kind) (id : ℕ)
    → has_mark (es ++ pair kind id ∷ []) ≡ has_mark es
has_mark-pair [] kind id = refl
has_mark-pair (mark ∷ es) kind id = refl
has_mark-pair (pair k i ∷ es) kind id = has_mark-pair es kind id

-- after a mark there is nothing to count
count_since_mark-mark : (kind : Kind) (es : List Event) → count_since_mark kind (es ++ mark ∷ []) ≡ 0
count_since_mark-mark kind [] = refl
count_since_mark-mark kind (mark ∷ es) = count_since_mark-mark kind es
count_since_mark-mark kind (pair k i ∷ es) = rw (has_mark-mark es, zero-add) (count_since_mark-mark kind es)

-- a pair adds one to the count of its kind
count_since_mark-pair : (kind k : Kind) (id : ℕ) (es : List Event)
    → count_since_mark kind (es ++ pair k id ∷ [])
    ≡ count_since_mark kind es + cond (is_same kind k) 1 0
count_since_mark-pair kind k id [] = omega arith
count_since_mark-pair kind k id (mark ∷ es) = count_since_mark-pair kind k id es
count_since_mark-pair kind k id (pair k' i ∷ es) =
    rw (has_mark-pair es k id) (omega (arith, count_since_mark-pair kind k id es))

-- what raising the counts does to each of them
count_of-counts_after_pair : (c : Counts) (kind k : Kind)
    → count_of (counts_after_pair c k) kind
    ≡ cond (is_same kind k) (one_more (count_of c kind)) (count_of c kind)
count_of-counts_after_pair c Match Match = refl
count_of-counts_after_pair c Style Style = refl
count_of-counts_after_pair c Measure Measure = refl
count_of-counts_after_pair c Size Size = refl
count_of-counts_after_pair c Place Place = refl
count_of-counts_after_pair c kind k = refl

one_more-min : (b : Bool) (n m : ℕ) → n ≡ min m last_count
    → cond b (one_more n) n ≡ min (m + cond b 1 0) last_count
one_more-min true n m e = omega arith
one_more-min false n m e = omega arith

-- the counts after one more pair
pub CountsSinceMark-pair : (c : Counts) (es : List Event) (k : Kind) (id : ℕ) → CountsSinceMark c es
    → CountsSinceMark (counts_after_pair c k) (es ++ pair k id ∷ [])
CountsSinceMark-pair c es k id counts kind =
    rw (count_of-counts_after_pair c kind k, count_since_mark-pair kind k id es)
    (one_more-min (is_same kind k) (count_of c kind) (count_since_mark kind es) (counts kind))

count_of-none : (c : Counts) (kind : Kind)
    → c ≡ record { matches = 0; styles = 0; measures = 0; sizes = 0; places = 0 }
    → count_of c kind ≡ 0
count_of-none c Match e = ap (λ (d : Counts). d.matches) e
count_of-none c Style e = ap (λ (d : Counts). d.styles) e
count_of-none c Measure e = ap (λ (d : Counts). d.measures) e
count_of-none c Size e = ap (λ (d : Counts). d.sizes) e
count_of-none c Place e = ap (λ (d : Counts). d.places) e

-- the counts after a mark
pub CountsSinceMark-mark : (c : Counts) (es : List Event)
    → c ≡ record { matches = 0; styles = 0; measures = 0; sizes = 0; places = 0 }
    → CountsSinceMark c (es ++ mark ∷ [])
CountsSinceMark-mark c es e kind = rw (count_of-none c kind e, count_since_mark-mark kind es) refl
