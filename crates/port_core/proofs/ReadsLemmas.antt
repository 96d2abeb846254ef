-- What a reader gives of a line that it has collected.
use Rattle.std.proofs.Common.{◌≡◌, ℕ, ◌<◌, ◌≤◌, List, [], ◌∷◌, ◌++◌, length, Option, Some, None, inl, inr, refl, ap, sym, ◌∙◌, subst, arith, append-nil}
use Rattle.stream_model.specs.Streams.{SourceState, FromTo, NothingLeft}
use Rattle.stream_model.specs.Lines.{newline, lines, IsUnbroken}
use Rattle.stream_model.specs.declared.limits.TheConstants.{MAX_LINE}
use Rattle.port_core.specs.inner.Draft.{IsDraftOf, Settles}
use Rattle.port_core.specs.Reader.{Reader, ahead, IsFirstLine, Gives}
use Rattle.port_core.specs.inner.Reads.{Reads}
use Rattle.port_core.specs.inner.Window.{Intake, TakesUp, TakesUpLine, CollectsLine, CollectsLast}
use Rattle.port_core.specs.declared.reader.Line.{Line}
use Rattle.port_core.specs.declared.reader.Line.TheVariants.{Whole, TooLong, End, Failed, Spent}
use Rattle.port_core.proofs.LinesLemmas.{lines-newline, lines-last}
use Rattle.port_core.proofs.StreamLemmas.{FromTo-weaker}

-- a draft that is no longer than a line may be is the whole front
whole_front : (draft front : List ℕ) → IsDraftOf draft front → length draft ≤ MAX_LINE → front ≡ draft
whole_front draft front (inl e) short = sym e
whole_front draft front (inr e) short = absurd (omega (arith, e.0))

-- a draft that is longer is one of a line that is too long
long_front : (draft front : List ℕ) → IsDraftOf draft front → MAX_LINE < length draft
    → MAX_LINE < length front
long_front draft front (inl e) long = omega (arith, ap length e)
long_front draft front (inr e) long = omega (arith, e.0, e.1)

some_front : (draft front : List ℕ) → IsDraftOf draft front → (draft ≡ [] → ⊥) → 0 < length front
some_front draft (b ∷ front) d some = omega arith
some_front draft [] (inl e) some = absurd (some e)
some_front draft [] (inr e) some = absurd (omega (arith, e.0, e.1))

newline_first : (front all rest : List ℕ) → IsUnbroken front → all ≡ front ++ newline ∷ rest
    → IsFirstLine front None all rest
newline_first front all rest u e = record {
  first = ap lines e ∙ lines-newline front rest u;
  unbroken = u;
  ends = e;
}

last_first : (front all rest : List ℕ) → IsUnbroken front → 0 < length front → all ≡ front ++ rest
    → rest ≡ [] → IsFirstLine front (Some End) all rest
last_first front all rest u some e none =
    let same : all ≡ front = e ∙ (ap (λ r. front ++ r) none ∙ append-nil front) in
    record {
      first = ap lines same ∙ (lines-last front u some ∙ ap (λ r. front ∷ lines r) (sym none));
      unbroken = u;
      ends = (refl, some, same, none);
    }

line_given : (answer : Line) (draft draft' all rest : List ℕ) → Settles answer draft draft'
    → TakesUpLine draft all rest → Gives answer draft' None all rest
line_given Whole draft draft' all rest s t =
    let same : t.front ≡ draft' = whole_front draft t.front t.kept s.1 ∙ sym s.0 in
    (subst (λ (line : List ℕ). IsFirstLine line None all rest) same (newline_first t.front all rest t.unbroken t.same), omega (arith, s.1, ap length s.0))
line_given TooLong draft draft' all rest s t =
    (t.front, newline_first t.front all rest t.unbroken t.same, long_front draft t.front t.kept s.1)
line_given End draft draft' all rest s t = absurd s
line_given Failed draft draft' all rest s t = absurd s
line_given Spent draft draft' all rest s t = absurd s

last_given : (answer : Line) (draft draft' all rest : List ℕ) → Settles answer draft draft'
    → (draft ≡ [] → ⊥) → rest ≡ [] → TakesUp draft all rest → Gives answer draft' (Some End) all rest
last_given Whole draft draft' all rest s some none t =
    let same : t.front ≡ draft' = whole_front draft t.front t.kept s.1 ∙ sym s.0 in
    let first = last_first t.front all rest t.unbroken (some_front draft t.front t.kept some) t.same none in
    (subst (λ (line : List ℕ). IsFirstLine line (Some End) all rest) same first, omega (arith, s.1, ap length s.0))
last_given TooLong draft draft' all rest s some none t =
    let first = last_first t.front all rest t.unbroken (some_front draft t.front t.kept some) t.same none in
    (t.front, first, long_front draft t.front t.kept s.1)
last_given End draft draft' all rest s some none t = absurd s
last_given Failed draft draft' all rest s some none t = absurd s
last_given Spent draft draft' all rest s some none t = absurd s

last_bytes : (answer : Line) (u w : Intake) (draft draft' : List ℕ) (a b : Option (List ℕ))
    → w.pending ≡ [] → NothingLeft b → (draft ≡ [] → ⊥) → Settles answer draft draft'
    → FromTo (ahead u.pending a) (ahead w.pending b) (TakesUp draft)
    → FromTo (ahead u.pending a) (ahead w.pending b) (Gives answer draft' (Some End))
last_bytes answer u w draft draft' None None e n some s r = tt
last_bytes answer u w draft draft' None (Some y) e n some s r = absurd r
last_bytes answer u w draft draft' (Some x) None e n some s r = absurd r
last_bytes answer u w draft draft' (Some x) (Some y) e n some s r =
    last_given answer draft draft' (u.pending ++ x) (w.pending ++ y) s some (ap (λ p. p ++ y) e ∙ n) r

-- a reader with this window and this line
abbrev reader : Intake → List ℕ → Option Line → Reader
reader w line stopped = record { pending = w.pending; taken = w.taken; line = line; stopped = stopped }

-- a line with its newline was read
pub Reads-line : (answer : Line) (u w : Intake) (draft draft' line : List ℕ)
    (r t : SourceState) (stopped : Option Line) → stopped ≡ None
    → CollectsLine u w draft r t → Settles answer draft draft'
    → Reads answer (reader u line stopped) (reader w draft' stopped) r t
Reads-line Whole u w draft draft' line r t stopped e c s = rw e record {
  lines = FromTo-weaker (ahead u.pending r.left) (ahead w.pending t.left) (TakesUpLine draft) (Gives Whole draft' None) (λ x y p. line_given Whole draft draft' x y s p) c.bytes;
  told = c.moves.told;
  kept = omega (arith, s.1, ap length s.0);
  stops = inl refl;
  forward = c.moves.forward;
  bounded = c.moves.bounded;
  counted = c.moves.grew;
  spent = λ h. cc;
  work = omega (arith, c.effort_less);
  faults_counted = c.faults;
}
Reads-line TooLong u w draft draft' line r t stopped e c s = rw e record {
  lines = FromTo-weaker (ahead u.pending r.left) (ahead w.pending t.left) (TakesUpLine draft) (Gives TooLong draft' None) (λ x y p. line_given TooLong draft draft' x y s p) c.bytes;
  told = c.moves.told;
  kept = s.0;
  stops = inl refl;
  forward = c.moves.forward;
  bounded = c.moves.bounded;
  counted = c.moves.grew;
  spent = λ h. cc;
  work = omega (arith, c.effort_less);
  faults_counted = c.faults;
}
Reads-line End u w draft draft' line r t stopped e c s = absurd s
Reads-line Failed u w draft draft' line r t stopped e c s = absurd s
Reads-line Spent u w draft draft' line r t stopped e c s = absurd s

-- the last line was read, which has no newline
pub Reads-last : (answer : Line) (u w : Intake) (draft draft' line : List ℕ)
    (r t : SourceState) (stopped : Option Line) → stopped ≡ None → (draft ≡ [] → ⊥)
    → CollectsLast u w draft r t → Settles answer draft draft'
    → Reads answer (reader u line stopped) (reader w draft' (Some End)) r t
Reads-last Whole u w draft draft' line r t stopped e some c s = rw e record {
  lines = last_bytes Whole u w draft draft' r.left t.left c.halts.empty c.nothing some s c.halts.so_far.bytes;
  told = c.halts.so_far.moves.told;
  kept = omega (arith, s.1, ap length s.0);
  stops = inr refl;
  forward = c.halts.so_far.moves.forward;
  bounded = c.halts.so_far.moves.bounded;
  counted = c.halts.so_far.moves.grew;
  spent = λ _. c.early;
  work = omega (arith, c.halts.so_far.moves.effort_falls);
  faults_counted = c.faults;
}
Reads-last TooLong u w draft draft' line r t stopped e some c s = rw e record {
  lines = last_bytes TooLong u w draft draft' r.left t.left c.halts.empty c.nothing some s c.halts.so_far.bytes;
  told = c.halts.so_far.moves.told;
  kept = s.0;
  stops = inr refl;
  forward = c.halts.so_far.moves.forward;
  bounded = c.halts.so_far.moves.bounded;
  counted = c.halts.so_far.moves.grew;
  spent = λ _. c.early;
  work = omega (arith, c.halts.so_far.moves.effort_falls);
  faults_counted = c.faults;
}
Reads-last End u w draft draft' line r t stopped e some c s = absurd s
Reads-last Failed u w draft draft' line r t stopped e some c s = absurd s
Reads-last Spent u w draft draft' line r t stopped e some c s = absurd s
