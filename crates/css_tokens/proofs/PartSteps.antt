-- Parts in front of a text, one after another.
use Rattle.std.proofs.Common.{◌≡◌, ◌∙◌, sym, ap, refl, subst, ℕ, zero, suc, pred, ◌<◌, ◌≤◌, ◌==◌, ◌||◌, ◌&&◌, not, Bool, List, [], ◌∷◌, ◌++◌, length, map, drop, drop-drop, length-drop, length-append, append_assoc, append-nil, Option, Some, None, true, false, eqb-true, arith, inl, inr}
use Rattle.std.proofs.lemmas.Bool.{cases_Bool}
use Rattle.std.proofs.lemmas.Bool.Decides.{nat_tests}
use Rattle.std.specs.Prelude.{unwrap_or, option_map, is_some}
use Rattle.css_model.specs.declared.place.Place.{Place}
use Rattle.css_model.specs.declared.place.Place.TheVariants.{InName, InString, InUrl, InBadUrl}
use Rattle.css_model.specs.Classes.{Text, begins, is_empty, hyphen, backslash, is_digit, is_ident_start, is_ident_char}
use Rattle.css_model.specs.Parts.{Part, itself, escaped, hex_escape, escaped_newline, escape_at_end, part_text, parts_text, is_allowed, may_stand, meaning, meanings, starts_name, is_hyphen, follows_hyphen, would_start_ident}
use Rattle.css_model.specs.inner.Fronts.{escape_in, part_in, parts_in, run_in, after_parts}
use Rattle.css_model.proofs.PartLemmas.{parts_in-cons, parts_in-stop, parts_in-nil}
use Rattle.css_model.proofs.Tests.{pick-true, pick-false, and-left, and-right, not-true}
use Rattle.css_tokens.specs.inner.Parts.{front_part, is_plain, is_backslash, HasAsciiQuote}

-- ---- the part in front

part-some : (p : Part) → 1 ≤ length (part_text p)
part-some (itself c) = omega arith
part-some (escaped c) = omega arith
part-some (hex_escape digits blank) = omega arith
part-some escaped_newline = omega arith
part-some escape_at_end = omega arith

some-text : (p : Part) (cs : Text) → not (is_empty (part_text p ++ cs)) ≡ true
some-text (itself c) cs = refl
some-text (escaped c) cs = refl
some-text (hex_escape digits blank) cs = refl
some-text escaped_newline cs = refl
some-text escape_at_end cs = refl

drop-pred : (n c : ℕ) (cs : Text) → 1 ≤ n → drop (pred n) cs ≡ drop n (c ∷ cs)
drop-pred zero c cs h = absurd (omega (arith, h))
drop-pred (suc n) c cs h = refl

-- the part in front is the first one of the parts in front
front-some : (place : Place) (cs : Text) (p : Part) → front_part place cs ≡ Some p
    → parts_in place cs ≡ p ∷ parts_in place (drop (length (part_text p)) cs)
front-some place [] p e = cc
front-some place (c ∷ cs) p e = elim (cases_Bool (may_stand place (part_in c cs))) [
  | inl t ↦
      let q : Part = part_in c cs in
      let found : Some q ≡ Some p = sym (pick-true (may_stand place q) (Some q) None t) ∙ e in
      let is : q ≡ p = ap (λ o. unwrap_or o p) found in
      subst (λ r. parts_in place (c ∷ cs) ≡ r ∷ parts_in place (drop (length (part_text r)) (c ∷ cs))) is
      (parts_in-cons place c cs t ∙ ap (λ xs. q ∷ parts_in place xs) (drop-pred (length (part_text q)) c cs (part-some q)))
  | inr f ↦
      let none : None ≡ Some p = sym (pick-false (may_stand place (part_in c cs)) (Some (part_in c cs)) None f) ∙ e in
      cc
]

front-none : (place : Place) (cs : Text) → front_part place cs ≡ None → parts_in place cs ≡ []
front-none place [] e = parts_in-nil place
front-none place (c ∷ cs) e = elim (cases_Bool (may_stand place (part_in c cs))) [
  | inl t ↦
      let found : Some (part_in c cs) ≡ None = sym (pick-true (may_stand place (part_in c cs)) (Some (part_in c cs)) None t) ∙ e in
      cc
  | inr f ↦ parts_in-stop place c cs f
]

-- ---- all parts in front

-- what comes after two texts
pub drop-append : (xs ys cs : Text) → drop (length (xs ++ ys)) cs ≡ drop (length ys) (drop (length xs) cs)
drop-append xs ys cs = ap (λ n. drop n cs) (length-append xs ys) ∙ (ap (λ n. drop n cs) (omega arith) ∙ sym (drop-drop (length ys) (length xs) cs))

front-shorter : (place : Place) (cs : Text) (p : Part) → front_part place cs ≡ Some p → length (drop (length (part_text p)) cs) < length cs
front-shorter place [] p e = cc
front-shorter place (c ∷ cs) p e = omega (arith, length-drop (length (part_text p)) (c ∷ cs), part-some p)

-- one part more was read, before this rest
pub record PartStep (place : Place) (cs rest : Text) (p : Part) : Type 0 where
  pub shorter : length rest < length cs
  pub after : after_parts (parts_in place rest) rest ≡ after_parts (parts_in place cs) cs
  pub means : meanings place (parts_in place cs) ≡ meaning place p ++ meanings place (parts_in place rest)

pub part-step : (place : Place) (cs rest : Text) (p : Part) → front_part place cs ≡ Some p → rest ≡ drop (length (part_text p)) cs → PartStep place cs rest p
part-step place cs rest p e there =
    let parts : parts_in place cs ≡ p ∷ parts_in place rest = front-some place cs p e ∙ ap (λ xs. p ∷ parts_in place xs) (sym there) in
    record {
      shorter = omega (arith, ap length there, front-shorter place cs p e);
      after = ap (drop (length (parts_text (parts_in place rest)))) there
          ∙ (sym (drop-append (part_text p) (parts_text (parts_in place rest)) cs) ∙ ap (λ ps. after_parts ps cs) (sym parts));
      means = ap (meanings place) parts;
    }

pub part-end : (place : Place) (cs : Text) → front_part place cs ≡ None → after_parts (parts_in place cs) cs ≡ cs
part-end place cs e = ap (λ ps. after_parts ps cs) (front-none place cs e)

pub meaning-end : (place : Place) (cs : Text) → front_part place cs ≡ None → meanings place (parts_in place cs) ≡ []
meaning-end place cs e = ap (meanings place) (front-none place cs e)

begins-some : (place : Place) (cs : Text) (p : Part) → front_part place cs ≡ Some p → not (is_empty (parts_text (parts_in place cs))) ≡ true
begins-some place cs p e = ap (λ ps. not (is_empty (parts_text ps))) (front-some place cs p e) ∙ some-text p (parts_text (parts_in place (drop (length (part_text p)) cs)))

begins-none : (place : Place) (cs : Text) → front_part place cs ≡ None → not (is_empty (parts_text (parts_in place cs))) ≡ false
begins-none place cs e = ap (λ ps. not (is_empty (parts_text ps))) (front-none place cs e)

pub begins-is : {X : Type 0} (view : X → Part) (place : Place) (cs : Text) (o : Option X) → option_map view o ≡ front_part place cs
    → is_some o ≡ not (is_empty (parts_text (parts_in place cs)))
begins-is view place cs None e = sym (begins-none place cs (sym e))
begins-is view place cs (Some x) e = sym (begins-some place cs (view x) (sym e))

-- ---- identifiers

pub ident-first : (cs : Text) (p : Part) → front_part InName cs ≡ Some p → starts_name p ≡ true → would_start_ident (parts_in InName cs) ≡ true
ident-first cs p e t =
    let rest : List Part = parts_in InName (drop (length (part_text p)) cs) in
    ap would_start_ident (front-some InName cs p e) ∙ ap (λ b. b || (is_hyphen p && follows_hyphen rest)) t

pub ident-hyphen : (cs rest : Text) (p : Part) → front_part InName cs ≡ Some p → rest ≡ drop (length (part_text p)) cs → starts_name p ≡ false → is_hyphen p ≡ true
    → would_start_ident (parts_in InName cs) ≡ follows_hyphen (parts_in InName rest)
ident-hyphen cs rest p e there s h =
    ap would_start_ident (front-some InName cs p e ∙ ap (λ xs. p ∷ parts_in InName xs) (sym there))
    ∙ (ap (λ b. b || (is_hyphen p && follows_hyphen (parts_in InName rest))) s ∙ ap (λ b. b && follows_hyphen (parts_in InName rest)) h)

pub ident-other : (cs : Text) (p : Part) → front_part InName cs ≡ Some p → starts_name p ≡ false → is_hyphen p ≡ false → would_start_ident (parts_in InName cs) ≡ false
ident-other cs p e s h =
    let rest : List Part = parts_in InName (drop (length (part_text p)) cs) in
    ap would_start_ident (front-some InName cs p e)
    ∙ (ap (λ b. b || (is_hyphen p && follows_hyphen rest)) s ∙ ap (λ b. b && follows_hyphen rest) h)

pub ident-none : (cs : Text) → front_part InName cs ≡ None → would_start_ident (parts_in InName cs) ≡ false
ident-none cs e = ap would_start_ident (front-none InName cs e)

pub follows-some : (cs : Text) (p : Part) → front_part InName cs ≡ Some p → follows_hyphen (parts_in InName cs) ≡ (starts_name p || is_hyphen p)
follows-some cs p e = ap follows_hyphen (front-some InName cs p e)

pub follows-none : (cs : Text) → front_part InName cs ≡ None → follows_hyphen (parts_in InName cs) ≡ false
follows-none cs e = ap follows_hyphen (front-none InName cs e)

pub unequal : (a b : ℕ) → (a ≡ b → ⊥) → (a == b) ≡ false
unequal a b n = elim (cases_Bool (a == b)) [
  | inl t ↦ absurd (n (eqb-true a b t))
  | inr f ↦ f
]

or-false : (b : Bool) → (b || false) ≡ b
or-false true = refl
or-false false = refl

or-left : (a b : Bool) → (a || b) ≡ false → a ≡ false
or-left true b e = e
or-left false b e = refl

-- what is no `-` and no backslash starts an identifier by itself or not at all
pub start-other : (c : ℕ) (cs : Text) → (c == hyphen) ≡ false → (c == backslash) ≡ false → is_ident_start c ≡ would_start_ident (parts_in InName (c ∷ cs))
start-other c cs h b =
    let here : part_in c cs ≡ itself c = pick-false (c == backslash) (escape_in cs) (itself c) b in
    elim (cases_Bool (is_ident_char c)) [
      | inl t ↦
          let parts : parts_in InName (c ∷ cs) ≡ part_in c cs ∷ parts_in InName (drop (pred (length (part_text (part_in c cs)))) cs) =
          parts_in-cons InName c cs (ap (may_stand InName) here ∙ t) in
          let rest : List Part = parts_in InName (drop (pred (length (part_text (part_in c cs)))) cs) in
          sym (ap would_start_ident parts ∙ (ap (λ p. starts_name p || (is_hyphen p && follows_hyphen rest)) here
          ∙ (ap (λ x. is_ident_start c || (x && follows_hyphen rest)) h ∙ or-false (is_ident_start c))))
      | inr f ↦
          let none : parts_in InName (c ∷ cs) ≡ [] = parts_in-stop InName c cs (ap (may_stand InName) here ∙ f) in
          or-left (is_ident_start c) (is_digit c || (c == hyphen)) f ∙ sym (ap would_start_ident none)
    ]

-- ---- code points that are parts by themselves

plain_text : (cs : Text) → parts_text (map itself cs) ≡ cs
plain_text [] = refl
plain_text (c ∷ cs) = ap (λ xs. c ∷ xs) (plain_text cs)

plain_means : (place : Place) (cs : Text) → meanings place (map itself cs) ≡ cs
plain_means place [] = refl
plain_means place (c ∷ cs) = ap (λ xs. c ∷ xs) (plain_means place cs)

-- where no escape stops the plain code points in front, they are the parts in front
plain-parts : (place : Place) (cs : Text) → begins is_backslash (drop (length (run_in (is_plain place) cs)) cs) ≡ false
    → parts_in place cs ≡ map itself (run_in (is_plain place) cs)
plain-parts place [] e = parts_in-nil place
plain-parts place (c ∷ cs) e = elim (cases_Bool (is_plain place c)) [
  | inl t ↦
      let run : run_in (is_plain place) (c ∷ cs) ≡ c ∷ run_in (is_plain place) cs = pick-true (is_plain place c) (c ∷ run_in (is_plain place) cs) [] t in
      let plain : is_backslash c ≡ false = not-true (is_backslash c) (and-left (not (is_backslash c)) (is_allowed place c) t) in
      let here : part_in c cs ≡ itself c = pick-false (is_backslash c) (escape_in cs) (itself c) plain in
      let stands : may_stand place (part_in c cs) ≡ true = ap (may_stand place) here ∙ and-right (not (is_backslash c)) (is_allowed place c) t in
      let rest : parts_in place cs ≡ map itself (run_in (is_plain place) cs) =
      plain-parts place cs (sym (ap (λ xs. begins is_backslash (drop (length xs) (c ∷ cs))) run) ∙ e) in
      parts_in-cons place c cs stands
      ∙ (ap (λ p. p ∷ parts_in place (drop (pred (length (part_text p))) cs)) here
      ∙ (ap (λ ps. itself c ∷ ps) rest ∙ sym (ap (map itself) run)))
  | inr f ↦
      let run : run_in (is_plain place) (c ∷ cs) ≡ [] = pick-false (is_plain place c) (c ∷ run_in (is_plain place) cs) [] f in
      let plain : is_backslash c ≡ false = sym (ap (λ xs. begins is_backslash (drop (length xs) (c ∷ cs))) run) ∙ e in
      let here : part_in c cs ≡ itself c = pick-false (is_backslash c) (escape_in cs) (itself c) plain in
      let none : is_allowed place c ≡ false = sym (ap (λ b. not b && is_allowed place c) plain) ∙ f in
      parts_in-stop place c cs (ap (may_stand place) here ∙ none) ∙ sym (ap (map itself) run)
]

-- then what is after them is what is after the plain code points, and these are what they mean
pub plain-after : (place : Place) (cs : Text) → begins is_backslash (drop (length (run_in (is_plain place) cs)) cs) ≡ false
    → drop (length (run_in (is_plain place) cs)) cs ≡ after_parts (parts_in place cs) cs
plain-after place cs e =
    let plain : Text = run_in (is_plain place) cs in
    ap (λ xs. drop (length xs) cs) (sym (ap parts_text (plain-parts place cs e) ∙ plain_text plain))

pub plain-means : (place : Place) (cs : Text) → begins is_backslash (drop (length (run_in (is_plain place) cs)) cs) ≡ false
    → run_in (is_plain place) cs ≡ meanings place (parts_in place cs)
plain-means place cs e =
    sym (ap (meanings place) (plain-parts place cs e) ∙ plain_means place (run_in (is_plain place) cs))

-- all past ASCII is plain
pub plain-high : (place : Place) → HasAsciiQuote place → (c : ℕ) → 128 ≤ c → is_plain place c ≡ true
plain-high InName q c h = grind (arith, nat_tests)
plain-high (InString quote) q c h = grind (arith, nat_tests)
plain-high InUrl q c h = grind (arith, nat_tests)
plain-high InBadUrl q c h = grind (arith, nat_tests)

-- ---- what was read, and what is still to be read

pub read-step : (w w' m k x y all : Text) → w' ≡ w ++ m → m ≡ k → x ≡ k ++ y → w ++ x ≡ all → w' ++ y ≡ all
read-step w w' m k x y all a b d e =
    ap (λ v. v ++ y) (a ∙ ap (λ n. w ++ n) b) ∙ (append_assoc w k y ∙ (ap (λ v. w ++ v) (sym d) ∙ e))

pub read-all : (w t x all : Text) → t ≡ w → x ≡ [] → w ++ x ≡ all → t ≡ all
read-all w t x all a b e = a ∙ (sym (append-nil w) ∙ (ap (λ v. w ++ v) (sym b) ∙ e))
