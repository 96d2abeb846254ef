-- The first piece of a text that begins with `<!--`, `#`, `@` or a single code point.
use Rattle.std.proofs.Common.{◌≡◌, ◌⊎◌, ◌∙◌, sym, ap, refl, subst, ℕ, suc, pred, ◌≤◌, ◌==◌, List, [], ◌∷◌, ◌++◌, length, drop, Bool, true, false, ◌&&◌, ◌||◌, not, arith, eqb-true, inl, inr}
use Rattle.std.proofs.lemmas.Bool.{cases_Bool, true≢false, false≢true, cond_both}
use Rattle.std.specs.Prelude.{codes, if◌then◌else◌}
use Rattle.css_model.specs.Classes.{Text, full_stop, hyphen, backslash, is_digit, is_ident_start, is_sign, is_whitespace, is_quote, begins, is_empty, has_front}
use Rattle.css_model.specs.declared.token.TokenType.TheVariants.{Hash, AtKeyword, Delim, Cdo}
use Rattle.css_model.specs.declared.place.Place.TheVariants.{InName}
use Rattle.css_model.specs.Parts.{Part, itself, parts_text, part_text, meanings, would_start_ident, follows_hyphen, may_stand}
use Rattle.std.specs.Option.{is_some, unwrap_or}
use Rattle.std.specs.Prelude.{Option, Some, None}
use Rattle.css_model.specs.declared.token.TokenType.{TokenType}
use Rattle.css_model.specs.Spellings.{IsName, Spells, single_of, begins_other}
use Rattle.css_model.specs.TokenList.{Piece, token}
use Rattle.css_model.specs.inner.Fronts.{escape_in, part_in, parts_in, after_parts, begins_unsigned, would_start_number}
use Rattle.css_model.specs.inner.Pieces.{marked_piece, single_piece, single_type}
use Rattle.css_model.proofs.Tests.{and-left, and-right, or-left, not-true, pick-false}
use Rattle.css_model.proofs.Singles.{singles-spell}
use Rattle.css_model.proofs.PartLemmas.{parts_in-cons, Fronts, fronts}
use Rattle.css_model.proofs.NumeralLemmas.{digit-no_sign}
use Rattle.css_model.proofs.Demands.{begins_name, name-demands}
use Rattle.css_model.proofs.Laws.{IsFirst}
use Rattle.css_model.proofs.Longest.{comments, whites, quotes, numbers, names, cdcs, cdos, hashes, ats, Bound, Bounds, longest}
use Rattle.css_model.proofs.FirstStrings.{parts-within}
use Rattle.css_model.proofs.FirstComments.{front-is}

-- no whitespace, quote, comment, number, `-->` or name is in front
pub record Others (cs : Text) : Type 0 where
  pub comment : has_front (codes "/*") cs ≡ false
  pub white : begins is_whitespace cs ≡ false
  pub quote : begins is_quote cs ≡ false
  pub number : would_start_number cs ≡ false
  pub name : begins_name cs ≡ false
  pub cdc : has_front (codes "-->") cs ≡ false

bounds-others : (cs : Text) (k : ℕ) → Others cs → (has_front (codes "<!--") cs ≡ false) ⊎ Bound cdos cs k
    → (begins (λ c. c == 35) cs ≡ false) ⊎ Bound hashes cs k
    → (begins (λ c. c == 64) cs ≡ false) ⊎ Bound ats cs k → Bounds cs k
bounds-others cs k o d h a comments = inl o.comment
bounds-others cs k o d h a whites = inl o.white
bounds-others cs k o d h a quotes = inl o.quote
bounds-others cs k o d h a numbers = inl o.number
bounds-others cs k o d h a names = inl o.name
bounds-others cs k o d h a cdcs = inl o.cdc
bounds-others cs k o d h a cdos = d
bounds-others cs k o d h a hashes = h
bounds-others cs k o d h a ats = a

-- a code point is not two
not-both : (c d e : ℕ) → d == e ≡ false → c == d ≡ true → c == e ≡ false
not-both c d e n t = subst (λ x. x == e ≡ false) (sym (eqb-true c d t)) n

-- ---- `<!--`

pub cdo-first : (c : ℕ) (cs : Text) → Others (c ∷ cs) → has_front (codes "<!--") (c ∷ cs) ≡ true
    → IsFirst (token Cdo (codes "<!--")) (c ∷ cs)
cdo-first c cs o t =
    let here : c == 60 ≡ true = and-left (c == 60) (has_front (codes "!--") cs) t in
    record {
      rest = drop 4 (c ∷ cs);
      joins = front-is (codes "<!--") (c ∷ cs) t;
      some = omega arith;
      is = refl;
      longest = longest (c ∷ cs) 4 (omega arith) (bounds-others (c ∷ cs) 4 o
          (inr (λ s behind e i. subst (λ xs. length xs ≤ 4) (sym i) (omega arith)))
          (inl (not-both c 60 35 refl here)) (inl (not-both c 60 64 refl here)));
    }

-- ---- `#` and `@`

-- a name after a mark
marked-within : (mark name s tail behind cs : Text) (c : ℕ) (is_id : Bool) (d : ℕ) → s ≡ (d ∷ []) ++ tail
    → s ++ behind ≡ c ∷ cs → IsName name is_id tail behind
    → length s ≤ suc (length (parts_text (parts_in InName cs)))
marked-within mark name s tail behind cs c is_id d spelling e i =
    let left : tail ++ behind ≡ cs = ap (drop 1) (ap (λ xs. xs ++ behind) (sym spelling) ∙ e) in
    let front : parts_text i.parts ++ behind ≡ cs = ap (λ xs. xs ++ behind) (sym i.spelling) ∙ left in
    let within : length (parts_text i.parts) ≤ length (parts_text (parts_in InName cs)) =
    subst (λ xs. length (parts_text i.parts) ≤ length (parts_text (parts_in InName xs))) front
    (parts-within InName i.parts behind i.are_parts) in
    let mine : length s ≡ suc (length (parts_text i.parts)) =
    ap length (spelling ∙ ap (λ xs. d ∷ xs) i.spelling) in
    omega (arith, within, mine)

hash-bound : (c : ℕ) (cs : Text) → Bound hashes (c ∷ cs) (suc (length (parts_text (parts_in InName cs))))
hash-bound c cs name is_id s behind e i = marked-within [] name s i.0 behind cs c is_id 35 i.1 e i.3

at-bound : (c : ℕ) (cs : Text) → Bound ats (c ∷ cs) (suc (length (parts_text (parts_in InName cs))))
at-bound c cs name s behind e i = marked-within [] name s i.0 behind cs c true 64 i.1 e i.2

hash-first : (c : ℕ) (cs : Text) → Others (c ∷ cs) → has_front (codes "<!--") (c ∷ cs) ≡ false
    → c == 35 ≡ true → is_empty (parts_text (parts_in InName cs)) ≡ false
    → IsFirst (token (Hash (meanings InName (parts_in InName cs)) (would_start_ident (parts_in InName cs)))
    (codes "#" ++ parts_text (parts_in InName cs))) (c ∷ cs)
hash-first c cs o d t n =
    let f : Fronts InName cs = fronts InName cs in
    record {
      rest = after_parts (parts_in InName cs) cs;
      joins = ap (λ xs. 35 ∷ xs) f.joins ∙ ap (λ x. x ∷ cs) (sym (eqb-true c 35 t));
      some = omega arith;
      is = (
        parts_text (parts_in InName cs),
        refl,
        n,
        record {
          parts = parts_in InName cs;
          spelling = refl;
          are_parts = f.are;
          means = refl;
          identifier = refl;
        },
      );
      longest = longest (c ∷ cs) (suc (length (parts_text (parts_in InName cs)))) (omega arith)
          (bounds-others (c ∷ cs) (suc (length (parts_text (parts_in InName cs)))) o (inl d)
          (inr (hash-bound c cs)) (inl (not-both c 35 64 refl t)));
    }

at-first : (c : ℕ) (cs : Text) → Others (c ∷ cs) → has_front (codes "<!--") (c ∷ cs) ≡ false
    → c == 64 ≡ true → begins_name cs ≡ true
    → IsFirst (token (AtKeyword (meanings InName (parts_in InName cs)))
    (codes "@" ++ parts_text (parts_in InName cs))) (c ∷ cs)
at-first c cs o d t n =
    let f : Fronts InName cs = fronts InName cs in
    record {
      rest = after_parts (parts_in InName cs) cs;
      joins = ap (λ xs. 64 ∷ xs) f.joins ∙ ap (λ x. x ∷ cs) (sym (eqb-true c 64 t));
      some = omega arith;
      is = (
        parts_text (parts_in InName cs),
        refl,
        record {
          parts = parts_in InName cs;
          spelling = refl;
          are_parts = f.are;
          means = refl;
          identifier = n;
        },
      );
      longest = longest (c ∷ cs) (suc (length (parts_text (parts_in InName cs)))) (omega arith)
          (bounds-others (c ∷ cs) (suc (length (parts_text (parts_in InName cs)))) o (inl d)
          (inl (not-both c 64 35 refl t)) (inr (at-bound c cs)));
    }

-- ---- a single code point

no-digit : (c : ℕ) (cs : Text) → would_start_number (c ∷ cs) ≡ false → is_digit c ≡ false
no-digit c cs n = elim (cases_Bool (is_digit c)) [
  | inl t ↦ absurd
      (true≢false (sym
      (ap begins_unsigned (pick-false (is_sign c) cs (c ∷ cs) (digit-no_sign c t))
      ∙ or-left (is_digit c) ((c == full_stop) && begins is_digit cs) t) ∙ n))
  | inr f ↦ f
]

no-start : (c : ℕ) (cs : Text) → begins_name (c ∷ cs) ≡ false → is_ident_start c ≡ false
no-start c cs n = elim (cases_Bool (is_ident_start c)) [
  | inl t ↦
      let plain : c == backslash ≡ false =
      elim (cases_Bool (c == backslash)) [
        | inl u ↦
            absurd (false≢true (subst (λ x. is_ident_start x ≡ true) (eqb-true c backslash u) t))
        | inr f ↦
            f
      ] in
      let part : part_in c cs ≡ itself c = pick-false (c == backslash) (escape_in cs) (itself c) plain in
      let front : parts_in InName (c ∷ cs)
      ≡ part_in c cs ∷ parts_in InName (drop (pred (length (part_text (part_in c cs)))) cs) =
      parts_in-cons InName c cs
      (ap (may_stand InName) part ∙ or-left (is_ident_start c) (is_digit c || (c == hyphen)) t) in
      let parts : List Part = parts_in InName (drop (pred (length (part_text (part_in c cs)))) cs) in
      absurd (true≢false
      (sym (ap would_start_ident front
      ∙ (ap (λ p. would_start_ident (p ∷ parts)) part
      ∙ or-left (is_ident_start c) ((c == hyphen) && follows_hyphen parts) t)) ∙ n))
  | inr f ↦ f
]

last-escape : (cs : Text) → is_empty cs ≡ true → begins_name (backslash ∷ cs) ≡ true
last-escape [] e = ap would_start_ident (parts_in-cons InName backslash [] refl)
last-escape (c ∷ cs) e = absurd (false≢true e)

no-escape : (c : ℕ) (cs : Text) → begins_name (c ∷ cs) ≡ false → (c == backslash) && is_empty cs ≡ false
no-escape c cs n = elim (cases_Bool ((c == backslash) && is_empty cs)) [
  | inl t ↦ absurd
      (true≢false (sym
      (subst (λ x. begins_name (x ∷ cs) ≡ true)
      (sym (eqb-true c backslash (and-left (c == backslash) (is_empty cs) t)))
      (last-escape cs (and-right (c == backslash) (is_empty cs) t))) ∙ n))
  | inr f ↦ f
]

single-cases : (c : ℕ) (cs : Text) (found : Option TokenType) → single_of c ≡ found
    → begins_other c ≡ is_some found → (c == backslash) && is_empty cs ≡ false
    → Spells (unwrap_or found (Delim c)) (c ∷ []) cs
single-cases c cs None i o e = record { spelling = refl; other = o; no_escape = e }
single-cases c cs (Some token_type) i o e = singles-spell c token_type cs i

-- a code point with which no longer type begins is a token by itself
single-spells : (c : ℕ) (cs : Text) → is_whitespace c ≡ false → is_quote c ≡ false → is_digit c ≡ false
    → is_ident_start c ≡ false → (c == backslash) && is_empty cs ≡ false
    → Spells (single_type c) (c ∷ []) cs
single-spells c cs w q d s e = single-cases c cs (single_of c) refl (rw w (rw q (rw d (rw s refl)))) e

empty-length : (cs : Text) → is_empty cs ≡ true → length cs ≡ 0
empty-length [] e = refl
empty-length (c ∷ cs) e = absurd (false≢true e)

single-first : (c : ℕ) (cs : Text) → Others (c ∷ cs) → has_front (codes "<!--") (c ∷ cs) ≡ false
    → (c == 35) && not (is_empty (parts_text (parts_in InName cs))) ≡ false
    → (c == 64) && would_start_ident (parts_in InName cs) ≡ false → IsFirst (single_piece c) (c ∷ cs)
single-first c cs o d h a = record {
  rest = cs;
  joins = refl;
  some = omega arith;
  is = single-spells c cs o.white o.quote (no-digit c cs o.number) (no-start c cs o.name)
      (no-escape c cs o.name);
  longest = longest (c ∷ cs) 1 (omega arith) (bounds-others (c ∷ cs) 1 o (inl d)
      (elim (cases_Bool (c == 35)) [
        | inr f ↦ inl f
        | inl t ↦ inr (λ name is_id s behind e i.
            let none : is_empty (parts_text (parts_in InName cs)) ≡ true =
            elim (cases_Bool (is_empty (parts_text (parts_in InName cs)))) [
              | inl t1 ↦ t1
              | inr f1 ↦ absurd (true≢false (sym (rw t (rw f1 refl)) ∙ h))
            ] in
            let l : length s ≤ suc (length (parts_text (parts_in InName cs))) =
            hash-bound c cs name is_id s behind e i in
            let z : length (parts_text (parts_in InName cs)) ≡ 0 =
            empty-length (parts_text (parts_in InName cs)) none in
            omega (arith, l, z))
      ])
      (elim (cases_Bool (c == 64)) [
        | inr f ↦ inl f
        | inl t ↦ inr (λ name s behind e i.
            let left : i.0 ++ behind ≡ cs = ap (drop 1) (ap (λ xs. xs ++ behind) (sym i.1) ∙ e) in
            let named : begins_name cs ≡ true = ap begins_name (sym left)
            ∙ name-demands name i.0 behind i.2 in
            absurd (true≢false (sym (rw t named) ∙ a)))
      ]));
}

-- ---- all of them

pub marked-first : (c : ℕ) (cs : Text) → Others (c ∷ cs) → has_front (codes "<!--") (c ∷ cs) ≡ false
    → IsFirst (marked_piece c (parts_in InName cs)) (c ∷ cs)
marked-first c cs o d =
    let parts : List Part = parts_in InName cs in
    let as_hash : Piece =
    token (Hash (meanings InName parts) (would_start_ident parts)) (codes "#" ++ parts_text parts) in
    let as_at : Piece = token (AtKeyword (meanings InName parts)) (codes "@" ++ parts_text parts) in
    cond_both ((c == 35) && not (is_empty (parts_text parts))) as_hash
    (if (c == 64) && would_start_ident parts then as_at else single_piece c) (λ p. IsFirst p (c ∷ cs))
    (λ t. hash-first c cs o d (and-left (c == 35) (not (is_empty (parts_text parts))) t)
    (not-true (is_empty (parts_text parts))
    (and-right (c == 35) (not (is_empty (parts_text parts))) t)))
    (λ n. cond_both ((c == 64) && would_start_ident parts) as_at (single_piece c) (λ p. IsFirst p (c ∷ cs))
    (λ t. at-first c cs o d (and-left (c == 64) (would_start_ident parts) t)
    (and-right (c == 64) (would_start_ident parts) t))
    (λ m. single-first c cs o d n m))
