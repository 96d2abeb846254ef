-- How a line is collected, piece by piece.
use Rattle.std.proofs.Common.{◌≡◌, ℕ, ◌+◌, ◌-◌, ◌<◌, ◌≤◌, List, [], ◌∷◌, ◌++◌, length, Option, Some, None, inl, inr, refl, ap, sym, ◌∙◌, subst, arith, append_assoc, length-append}
use Rattle.stream_model.specs.Streams.{SourceState, FromTo, Grew, Takes, TakesCount}
use Rattle.stream_model.specs.Lines.{newline}
use Rattle.stream_model.specs.declared.limits.TheConstants.{MAX_TAKEN}
use Rattle.port_core.specs.inner.Draft.{IsDraftOf, Absorbs}
use Rattle.port_core.specs.Reader.{ahead}
use Rattle.port_core.specs.inner.Window.{Intake, CutsLine, CutsPart, Fills, Rests, Advances, TakesUp, TakesUpLine, Collecting, CollectsLine, Halts}
use Rattle.port_core.proofs.LinesLemmas.{IsUnbroken-append}
use Rattle.port_core.proofs.StreamLemmas.{TakesCount-none, TakesCount-takes, TakesCount-joins, Grew-joins}

-- a draft that takes up a piece
pub IsDraftOf-absorbs : (draft draft' piece front : List ℕ) → IsDraftOf draft front
    → Absorbs draft piece draft' → IsDraftOf draft' (front ++ piece)
IsDraftOf-absorbs draft draft' piece front (inl e) (inl f) = inl (f ∙ ap (λ d. d ++ piece) e)
IsDraftOf-absorbs draft draft' piece front (inl e) (inr f) = inr (f.0, omega (arith, f.1, ap length e, length-append front piece))
IsDraftOf-absorbs draft draft' piece front (inr e) (inl f) =
    let longer : length draft' ≡ length draft + length piece = ap length f ∙ length-append draft piece in
    inr (omega (arith, e.0), omega (arith, e.1, length-append front piece))
IsDraftOf-absorbs draft draft' piece front (inr e) (inr f) = inr (f.0, omega (arith, e.1, f.1, length-append front piece))

Intake-same : (v w : Intake) → v.pending ≡ w.pending → v.taken ≡ w.taken → v ≡ w
Intake-same v w e f =
    ap (λ (p : List ℕ). let x : Intake = record { pending = p; taken = v.taken } in x) e
    ∙ ap (λ (t : ℕ). let x : Intake = record { pending = w.pending; taken = t } in x) f

Advances-none : (w : Intake) (s : SourceState) → w.taken ≤ MAX_TAKEN → Advances w w s s
Advances-none w s small = record {
  forward = omega arith;
  bounded = small;
  grew = omega arith;
  told = TakesCount-none s.left (w.taken - w.taken) (omega arith);
  effort_falls = omega arith;
}

pub Advances-joins : (u v w : Intake) (r s t : SourceState) → Advances u v r s → Advances v w s t
    → Advances u w r t
Advances-joins u v w r s t m n =
    let sums : (v.taken - u.taken) + (w.taken - v.taken) ≡ w.taken - u.taken = omega (arith, m.forward, n.forward) in
    record {
      forward = omega (arith, m.forward, n.forward);
      bounded = n.bounded;
      grew = Grew-joins r.taken s.taken t.taken (v.taken - u.taken) (w.taken - v.taken) (w.taken - u.taken) sums m.grew n.grew;
      told = TakesCount-joins r.left s.left t.left (v.taken - u.taken) (w.taken - v.taken) (w.taken - u.taken) sums m.told n.told;
      effort_falls = omega (arith, m.effort_falls, n.effort_falls);
    }

-- pending bytes were taken out, and none of the source
pub Advances-cut : (v w : Intake) (s : SourceState) → v.taken ≤ MAX_TAKEN → w.taken ≡ v.taken
    → length w.pending ≤ length v.pending → Advances v w s s
Advances-cut v w s small e less = record {
  forward = omega arith;
  bounded = omega arith;
  grew = omega arith;
  told = TakesCount-none s.left (w.taken - v.taken) (omega arith);
  effort_falls = omega arith;
}

Advances-fills : (v w : Intake) (s t : SourceState) → Fills v w s t → Advances v w s t
Advances-fills v w s t f =
    let same : length w.pending ≡ w.taken - v.taken = omega (arith, f.count) in
    record {
      forward = omega (arith, f.count);
      bounded = f.bounded;
      grew = subst (λ (n : ℕ). Grew s.taken n t.taken) same f.grew;
      told = subst (λ (n : ℕ). TakesCount s.left t.left n) same (TakesCount-takes s.left t.left w.pending f.takes);
      effort_falls = omega (arith, f.count, f.bounded);
    }

Advances-rests : (v w : Intake) (s t : SourceState) → v.taken ≤ MAX_TAKEN → v.pending ≡ []
    → Rests v w s t → Advances v w s t
Advances-rests v w s t small e r = record {
  forward = omega (arith, r.count);
  bounded = omega (arith, r.count);
  grew = omega (arith, r.count, r.taken_same);
  told = rw r.left_same (TakesCount-none s.left (w.taken - v.taken) (omega (arith, r.count)));
  effort_falls = omega (arith, r.count, ap length r.empty);
}

-- before anything was read
bytes_at_start : (pending draft : List ℕ) (a : Option (List ℕ)) → draft ≡ []
    → FromTo (ahead pending a) (ahead pending a) (TakesUp draft)
bytes_at_start pending draft None e = tt
bytes_at_start pending draft (Some x) e = record { front = []; unbroken = tt; same = refl; kept = inl e }

pub Collecting-none : (w : Intake) (draft : List ℕ) (s : SourceState) → draft ≡ []
    → w.taken ≤ MAX_TAKEN → Collecting w w draft s s
Collecting-none w draft s e small = record { bytes = bytes_at_start w.pending draft s.left e; moves = Advances-none w s small }

bytes_after_part : (u v w : Intake) (draft draft' : List ℕ) (a b : Option (List ℕ))
    → CutsPart v w draft draft'
    → FromTo (ahead u.pending a) (ahead v.pending b) (TakesUp draft)
    → FromTo (ahead u.pending a) (ahead w.pending b) (TakesUp draft')
bytes_after_part u v w draft draft' None None c r = tt
bytes_after_part u v w draft draft' None (Some y) c r = absurd r
bytes_after_part u v w draft draft' (Some x) None c r = absurd r
bytes_after_part u v w draft draft' (Some x) (Some y) c r = record {
  front = r.front ++ v.pending;
  unbroken = IsUnbroken-append r.front v.pending r.unbroken c.unbroken;
  same = r.same ∙ (sym (append_assoc r.front v.pending y) ∙ ap (λ p. (r.front ++ v.pending) ++ (p ++ y)) (sym c.empty));
  kept = IsDraftOf-absorbs draft draft' v.pending r.front r.kept c.absorbed;
}

-- all that was pending belongs to the line
pub Collecting-part : (u v w : Intake) (draft draft' : List ℕ) (r s : SourceState)
    → CutsPart v w draft draft'
    → Collecting u v draft r s → Collecting u w draft' r s
Collecting-part u v w draft draft' r s c so = record {
  bytes = bytes_after_part u v w draft draft' r.left s.left c so.bytes;
  moves = Advances-joins u v w r s s so.moves (Advances-cut v w s so.moves.bounded c.count (omega (arith, ap length c.empty)));
}

bytes_after_more : (u v w : Intake) (draft : List ℕ) (a b d : Option (List ℕ)) → v.pending ≡ []
    → Takes b d w.pending
    → FromTo (ahead u.pending a) (ahead v.pending b) (TakesUp draft)
    → FromTo (ahead u.pending a) (ahead w.pending d) (TakesUp draft)
bytes_after_more u v w draft None None None e t r = tt
bytes_after_more u v w draft None None (Some z) e t r = t
bytes_after_more u v w draft None (Some y) d e t r = absurd r
bytes_after_more u v w draft (Some x) None d e t r = absurd r
bytes_after_more u v w draft (Some x) (Some y) None e t r = absurd t
bytes_after_more u v w draft (Some x) (Some y) (Some z) e t r = record {
  front = r.front;
  unbroken = r.unbroken;
  same = r.same ∙ ap (λ p. r.front ++ (p ++ y)) e ∙ ap (λ p. r.front ++ p) t;
  kept = r.kept;
}

-- more was pulled
pub Collecting-more : (u v w : Intake) (draft : List ℕ) (r s t : SourceState) → v.pending ≡ []
    → Fills v w s t
    → Collecting u v draft r s → Collecting u w draft r t
Collecting-more u v w draft r s t e f so = record {
  bytes = bytes_after_more u v w draft r.left s.left t.left e f.takes so.bytes;
  moves = Advances-joins u v w r s t so.moves (Advances-fills v w s t f);
}

-- nothing was pulled
pub Collecting-rests : (u v w : Intake) (draft : List ℕ) (r s t : SourceState) → v.pending ≡ []
    → Rests v w s t
    → Collecting u v draft r s → Collecting u w draft r t
Collecting-rests u v w draft r s t e rests so = record {
  bytes = rw rests.left_same (subst (λ (p : List ℕ). FromTo (ahead u.pending r.left) (ahead p s.left) (TakesUp draft)) (e ∙ sym rests.empty) so.bytes);
  moves = Advances-joins u v w r s t so.moves (Advances-rests v w s t so.moves.bounded e rests);
}

-- the newline was found
pub bytes_after_line : (u v w : Intake) (draft draft' : List ℕ) (a b : Option (List ℕ))
    → CutsLine v w draft draft'
    → FromTo (ahead u.pending a) (ahead v.pending b) (TakesUp draft)
    → FromTo (ahead u.pending a) (ahead w.pending b) (TakesUpLine draft')
bytes_after_line u v w draft draft' None None c r = tt
bytes_after_line u v w draft draft' None (Some y) c r = absurd r
bytes_after_line u v w draft draft' (Some x) None c r = absurd r
bytes_after_line u v w draft draft' (Some x) (Some y) c r =
    let piece = c.piece in
    record {
      front = r.front ++ piece;
      unbroken = IsUnbroken-append r.front piece r.unbroken c.unbroken;
      same = r.same ∙ (ap (λ p. r.front ++ (p ++ y)) c.parted ∙ (ap (λ p. r.front ++ p) (append_assoc piece (newline ∷ w.pending) y) ∙ sym (append_assoc r.front piece (newline ∷ (w.pending ++ y)))));
      kept = IsDraftOf-absorbs draft draft' piece r.front r.kept c.absorbed;
    }

-- a cut at a newline takes at least that out
pub CutsLine-shorter : (v w : Intake) (draft draft' : List ℕ) → CutsLine v w draft draft'
    → length w.pending < length v.pending
CutsLine-shorter v w draft draft' c = omega (arith, ap length c.parted, length-append c.piece (newline ∷ w.pending))

-- the line is collected
pub CollectsLine-cut : (u v w : Intake) (draft draft' : List ℕ) (r s : SourceState)
    → CutsLine v w draft draft'
    → s.faults ≡ r.faults → Collecting u v draft r s → CollectsLine u w draft' r s
CollectsLine-cut u v w draft draft' r s c same so =
    let shorter : length w.pending < length v.pending = CutsLine-shorter v w draft draft' c in
    record {
      bytes = bytes_after_line u v w draft draft' r.left s.left c so.bytes;
      moves = Advances-joins u v w r s s so.moves (Advances-cut v w s so.moves.bounded c.count (omega arith));
      effort_less = omega (arith, so.moves.effort_falls, c.count);
      faults = same;
    }

-- the line ends where nothing more was pulled
pub Halts-rests : (u v w x : Intake) (draft draft' : List ℕ) (r s t : SourceState)
    → CutsPart v w draft draft' → Rests w x s t
    → Collecting u v draft r s → Halts u x draft' r t
Halts-rests u v w x draft draft' r s t c rests so = record {
  so_far = Collecting-rests u w x draft' r s t c.empty rests (Collecting-part u v w draft draft' r s c so);
  empty = rests.empty;
}
