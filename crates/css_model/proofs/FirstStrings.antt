-- The first piece where a text begins with whitespace, a quote or a comment.
use Rattle.std.proofs.Common.{◌≡◌, ◌∙◌, sym, ap, refl, subst, ℕ, suc, pred, ◌≤◌, ◌==◌, List, [], ◌∷◌, ◌++◌, length, drop, true, false, ◌||◌, arith, append_assoc, length-append, eqb-true, inl, inr}
use Rattle.std.proofs.lemmas.Bool.{cases_Bool, true≢false, eq-eqb}
use Rattle.std.proofs.lemmas.List.{append-nil}
use Rattle.std.proofs.Math.Seq.{drop-append_seam}
use Rattle.std.specs.Prelude.{if◌then◌else◌}
use Rattle.css_model.specs.declared.place.Place.{Place}
use Rattle.css_model.specs.Classes.{Text, tab, newline, space, double_quote, single_quote, backslash, is_newline, is_hex_digit, is_whitespace, is_quote, is_empty}
use Rattle.css_model.specs.declared.token.TokenType.TheVariants.{String, BadString, Whitespace}
use Rattle.css_model.specs.declared.place.Place.TheVariants.{InString}
use Rattle.css_model.specs.Parts.{Part, itself, escaped, escaped_newline, part_text, parts_text, AreParts, meanings, may_stand}
use Rattle.css_model.specs.Spellings.{IsEnd}
use Rattle.css_model.specs.TokenList.{Piece, token, piece_text}
use Rattle.css_model.specs.inner.Fronts.{one_in, run_in, hex_escape_in, escape_in, part_in, parts_in, after_parts}
use Rattle.css_model.specs.inner.Pieces.{string_of_parts, consume_string}
use Rattle.css_model.proofs.Tests.{or-cases, pick-true, pick-false}
use Rattle.css_model.proofs.Runs.{run_in-longest, Runs, runs}
use Rattle.css_model.proofs.PartLemmas.{parts_in-cons, parts_in-stop, parts_in-nil, parts_in-are, Fronts, fronts}
use Rattle.css_model.proofs.Laws.{IsFirst}
use Rattle.css_model.proofs.Longest.{whites, quotes, Bound, only_begins, bounds-only, longest}

-- ---- code points with which one group alone begins

white-only : (c : ℕ) → is_whitespace c ≡ true → only_begins whites c ≡ true
white-only c h = elim (or-cases (is_newline c) ((c == tab) || (c == space)) h) [
  | inl t ↦ subst (λ x. only_begins whites x ≡ true) (sym (eqb-true c newline t)) refl
  | inr t ↦ elim (or-cases (c == tab) (c == space) t) [
    | inl u ↦ subst (λ x. only_begins whites x ≡ true) (sym (eqb-true c tab u)) refl
    | inr u ↦ subst (λ x. only_begins whites x ≡ true) (sym (eqb-true c space u)) refl
  ]
]

quote-only : (c : ℕ) → is_quote c ≡ true → only_begins quotes c ≡ true
quote-only c h = elim (or-cases (c == double_quote) (c == single_quote) h) [
  | inl t ↦ subst (λ x. only_begins quotes x ≡ true) (sym (eqb-true c double_quote t)) refl
  | inr t ↦ subst (λ x. only_begins quotes x ≡ true) (sym (eqb-true c single_quote t)) refl
]

-- ---- whitespace

pub white-first : (c : ℕ) (cs : Text) → is_whitespace c ≡ true
    → IsFirst (token Whitespace (run_in is_whitespace (c ∷ cs))) (c ∷ cs)
white-first c cs h =
    let run : Runs is_whitespace (c ∷ cs) = runs is_whitespace (c ∷ cs) in
    let is : run_in is_whitespace (c ∷ cs) ≡ c ∷ run_in is_whitespace cs =
    pick-true (is_whitespace c) (c ∷ run_in is_whitespace cs) [] h in
    let some : 1 ≤ length (run_in is_whitespace (c ∷ cs)) =
    subst (λ xs. 1 ≤ length xs) (sym is) (omega arith) in
    record {
      rest = drop (length (run_in is_whitespace (c ∷ cs))) (c ∷ cs);
      joins = run.joins;
      some = some;
      is = (run.passes, ap is_empty is);
      longest = longest (c ∷ cs) (length (run_in is_whitespace (c ∷ cs))) some
          (bounds-only whites c cs (length (run_in is_whitespace (c ∷ cs))) (white-only c h)
          (λ s behind e i. subst (λ xs. length s ≤ length (run_in is_whitespace xs)) e
          (run_in-longest is_whitespace s behind i.0)));
    }

-- ---- parts up to a mark

-- parts, and the mark after them if it is there
abbrev pub closed_text : Place → ℕ → Text → Text
closed_text place m cs =
    parts_text (parts_in place cs) ++ one_in (λ d. d == m) (after_parts (parts_in place cs) cs)

end-is : (m : ℕ) (end rest : Text) → IsEnd (m ∷ []) end rest → one_in (λ d. d == m) (end ++ rest) ≡ end
end-is m end rest (inl e) =
    subst (λ xs. one_in (λ d. d == m) (xs ++ rest) ≡ xs) (sym e)
    (pick-true (m == m) (m ∷ []) [] (eq-eqb m m refl))
end-is m end rest (inr e) =
    subst (λ xs. one_in (λ d. d == m) (xs ++ rest) ≡ xs) (sym e.0)
    (subst (λ xs. one_in (λ d. d == m) xs ≡ []) (sym e.1) refl)

pub stops-at-end : (place : Place) (m : ℕ) → ((xs : Text) → parts_in place (m ∷ xs) ≡ [])
    → (end rest : Text) → IsEnd (m ∷ []) end rest → parts_in place (end ++ rest) ≡ []
stops-at-end place m stop end rest (inl e) = ap (λ xs. parts_in place (xs ++ rest)) e ∙ stop rest
stops-at-end place m stop end rest (inr e) = ap (λ xs. parts_in place (xs ++ rest)) e.0
    ∙ (ap (parts_in place) e.1 ∙ parts_in-nil place)

-- parts before what no part begins
pub parts-stopped : (place : Place) (parts : List Part) (behind : Text) → AreParts place parts behind
    → parts_in place behind ≡ [] → parts_in place (parts_text parts ++ behind) ≡ parts
parts-stopped place parts behind h none = parts_in-are place parts behind h
    ∙ (ap (λ ps. parts ++ ps) none ∙ append-nil parts)

pub closed-is : (place : Place) (m : ℕ) → ((xs : Text) → parts_in place (m ∷ xs) ≡ [])
    → (parts : List Part) (end rest : Text) → AreParts place parts (end ++ rest) → IsEnd (m ∷ []) end rest
    → closed_text place m (parts_text parts ++ (end ++ rest)) ≡ parts_text parts ++ end
closed-is place m stop parts end rest h e =
    let cs : Text = parts_text parts ++ (end ++ rest) in
    let are : parts_in place cs ≡ parts =
    parts-stopped place parts (end ++ rest) h (stops-at-end place m stop end rest e) in
    ap (λ ps. parts_text ps ++ one_in (λ d. d == m) (after_parts ps cs)) are
    ∙ ap (λ xs. parts_text parts ++ xs)
    (ap (one_in (λ d. d == m)) (drop-append_seam (parts_text parts) (end ++ rest))
    ∙ end-is m end rest e)

pub parts_text-append : (xs ys : List Part) → parts_text (xs ++ ys) ≡ parts_text xs ++ parts_text ys
parts_text-append [] ys = refl
parts_text-append (p ∷ xs) ys = ap (λ cs. part_text p ++ cs) (parts_text-append xs ys)
    ∙ sym (append_assoc (part_text p) (parts_text xs) (parts_text ys))

-- parts of the definition are no longer than those in front
pub parts-within : (place : Place) (parts : List Part) (behind : Text) → AreParts place parts behind
    → length (parts_text parts) ≤ length (parts_text (parts_in place (parts_text parts ++ behind)))
parts-within place parts behind h =
    let more : List Part = parts_in place behind in
    subst (λ ps. length (parts_text parts) ≤ length (parts_text ps))
    (sym (parts_in-are place parts behind h))
    (rw (parts_text-append parts more)
    (rw (length-append (parts_text parts) (parts_text more)) (omega arith)))

-- ---- strings

pub string-stop : (quote : ℕ) → is_quote quote ≡ true → (xs : Text)
    → parts_in (InString quote) (quote ∷ xs) ≡ []
string-stop quote h xs = elim (or-cases (quote == 34) (quote == 39) h) [
  | inl u ↦ subst (λ x. parts_in (InString x) (x ∷ xs) ≡ []) (sym (eqb-true quote 34 u))
      (parts_in-stop (InString 34) 34 xs refl)
  | inr u ↦ subst (λ x. parts_in (InString x) (x ∷ xs) ≡ []) (sym (eqb-true quote 39 u))
      (parts_in-stop (InString 39) 39 xs refl)
]

abbrev pub first_or : Text → ℕ
first_or [] = 0
first_or (c ∷ cs) = c

-- both begin with the same quote
pub quote-same : (q quote : ℕ) (s cs : Text) → q ∷ s ≡ quote ∷ cs → q ≡ quote
quote-same q quote s cs e = ap (λ xs. first_or xs) e

string-bound : (quote : ℕ) (cs : Text) → is_quote quote ≡ true
    → Bound quotes (quote ∷ cs) (suc (length (closed_text (InString quote) quote cs)))
string-bound quote cs h = (
  (λ value s behind e i.
      let all : i.quote ∷ ((parts_text i.parts ++ i.end) ++ behind) ≡ quote ∷ cs =
      ap (λ xs. xs ++ behind) (sym i.spelling) ∙ e in
      let same : i.quote ≡ quote =
      quote-same i.quote quote ((parts_text i.parts ++ i.end) ++ behind) cs all in
      let tail : parts_text i.parts ++ (i.end ++ behind) ≡ cs =
      sym (append_assoc (parts_text i.parts) i.end behind) ∙ ap (drop 1) all in
      let closed : closed_text (InString quote) quote cs ≡ parts_text i.parts ++ i.end =
      ap (closed_text (InString quote) quote) (sym tail)
      ∙ closed-is (InString quote) quote (string-stop quote h) i.parts i.end behind
      (subst (λ x. AreParts (InString x) i.parts (i.end ++ behind)) same i.are_parts)
      (subst (λ x. IsEnd (x ∷ []) i.end behind) same i.ends) in
      subst (λ xs. length s ≤ suc (length xs)) (sym closed) (rw i.spelling (omega arith))),
  (λ s behind e i.
      let all : i.quote ∷ (parts_text i.parts ++ behind) ≡ quote ∷ cs =
      ap (λ xs. xs ++ behind) (sym i.spelling) ∙ e in
      let same : i.quote ≡ quote = quote-same i.quote quote (parts_text i.parts ++ behind) cs all in
      let tail : parts_text i.parts ++ behind ≡ cs = ap (drop 1) all in
      let within : length (parts_text i.parts) ≤ length (parts_text (parts_in (InString quote) cs)) =
      subst (λ xs. length (parts_text i.parts) ≤ length (parts_text (parts_in (InString quote) xs))) tail
      (parts-within (InString quote) i.parts behind
      (subst (λ x. AreParts (InString x) i.parts behind) same i.are_parts)) in
      let whole : length s ≡ suc (length (parts_text i.parts)) = ap length i.spelling in
      rw (length-append (parts_text (parts_in (InString quote) cs))
      (one_in (λ d. d == quote) (after_parts (parts_in (InString quote) cs) cs)))
      (omega (arith, within, whole))),
)

escape-in-string : (quote : ℕ) (cs : Text) → may_stand (InString quote) (escape_in cs) ≡ true
escape-in-string quote [] = refl
escape-in-string quote (d ∷ cs) = elim (cases_Bool (is_newline d)) [
  | inl t ↦ ap (may_stand (InString quote))
      (pick-true (is_newline d) escaped_newline
      (if is_hex_digit d then hex_escape_in (d ∷ cs) else escaped d) t)
  | inr f ↦ ap (may_stand (InString quote))
      (pick-false (is_newline d) escaped_newline
      (if is_hex_digit d then hex_escape_in (d ∷ cs) else escaped d) f)
      ∙ elim (cases_Bool (is_hex_digit d)) [
        | inl t ↦ ap (may_stand (InString quote))
            (pick-true (is_hex_digit d) (hex_escape_in (d ∷ cs)) (escaped d) t)
        | inr n ↦ ap (may_stand (InString quote))
            (pick-false (is_hex_digit d) (hex_escape_in (d ∷ cs)) (escaped d) n)
      ]
]

-- what stops the parts may not stand here
pub stop-allowed : (place : Place) (d : ℕ) (ds : Text) → parts_in place (d ∷ ds) ≡ []
    → may_stand place (part_in d ds) ≡ false
stop-allowed place d ds none = elim (cases_Bool (may_stand place (part_in d ds))) [
  | inl t ↦ let e : length (parts_in place (d ∷ ds)) ≡ 0 = ap length none in
      let f : length (parts_in place (d ∷ ds))
      ≡ suc (length (parts_in place (drop (pred (length (part_text (part_in d ds)))) ds))) =
      ap length (parts_in-cons place d ds t) in
      absurd (omega (arith, e, f))
  | inr f ↦ f
]

-- what stops a string and is not a quote is a newline
string-stopped : (quote d : ℕ) (ds : Text) → parts_in (InString quote) (d ∷ ds) ≡ [] → d == quote ≡ false
    → is_newline d ≡ true
string-stopped quote d ds none f =
    let no : may_stand (InString quote) (part_in d ds) ≡ false = stop-allowed (InString quote) d ds none in
    elim (cases_Bool (d == backslash)) [
      | inl t ↦ absurd
          (true≢false (sym
          (ap (may_stand (InString quote)) (pick-true (d == backslash) (escape_in ds) (itself d) t)
          ∙ escape-in-string quote ds) ∙ no))
      | inr g ↦ elim (cases_Bool (is_newline d)) [
        | inl t ↦ t
        | inr n ↦ absurd
            (true≢false (sym
            (ap (may_stand (InString quote)) (pick-false (d == backslash) (escape_in ds) (itself d) g)
            ∙ rw f (rw n refl)) ∙ no))
      ]
    ]

string-at : (quote : ℕ) (cs behind : Text) → is_quote quote ≡ true
    → after_parts (parts_in (InString quote) cs) cs ≡ behind
    → IsFirst (string_of_parts quote (parts_in (InString quote) cs) behind) (quote ∷ cs)
string-at quote cs [] h e =
    let parts : List Part = parts_in (InString quote) cs in
    let f : Fronts (InString quote) cs = fronts (InString quote) cs in
    let closed : closed_text (InString quote) quote cs ≡ parts_text parts ++ [] =
    ap (λ xs. parts_text parts ++ one_in (λ d. d == quote) xs) e in
    record {
      rest = [];
      joins = append-nil (quote ∷ (parts_text parts ++ []))
          ∙ ap (λ xs. quote ∷ xs) (ap (λ xs. parts_text parts ++ xs) (sym e) ∙ f.joins);
      some = omega arith;
      is = record {
        quote = quote;
        parts = parts;
        end = [];
        spelling = refl;
        is_quoted = h;
        are_parts = subst (AreParts (InString quote) parts) e f.are;
        means = refl;
        ends = inr (refl, refl);
      };
      longest = λ q more j i. subst (λ xs. length (piece_text q) ≤ suc (length xs)) closed
          (longest (quote ∷ cs) (suc (length (closed_text (InString quote) quote cs))) (omega arith)
          (bounds-only quotes quote cs (suc (length (closed_text (InString quote) quote cs)))
          (quote-only quote h) (string-bound quote cs h)) q more j i);
    }
string-at quote cs (d ∷ ds) h e =
    let parts : List Part = parts_in (InString quote) cs in
    let f : Fronts (InString quote) cs = fronts (InString quote) cs in
    let value : Text = meanings (InString quote) parts in
    let yes : Piece = token (String value) (quote ∷ (parts_text parts ++ (quote ∷ []))) in
    let no : Piece = token BadString (quote ∷ parts_text parts) in
    let whole : parts_text parts ++ (d ∷ ds) ≡ cs = ap (λ xs. parts_text parts ++ xs) (sym e) ∙ f.joins in
    let closed : closed_text (InString quote) quote cs
    ≡ parts_text parts ++ (if d == quote then d ∷ [] else []) =
    ap (λ xs. parts_text parts ++ one_in (λ d. d == quote) xs) e in
    elim (cases_Bool (d == quote)) [
      | inl t ↦
          let same : d ≡ quote = eqb-true d quote t in
          subst (λ p. IsFirst p (quote ∷ cs)) (sym (pick-true (d == quote) yes no t)) (record {
            rest = ds;
            joins = ap (λ xs. quote ∷ xs)
                (append_assoc (parts_text parts) (quote ∷ []) ds
                ∙ (ap (λ x. parts_text parts ++ (x ∷ ds)) (sym same) ∙ whole));
            some = omega arith;
            is = record {
              quote = quote;
              parts = parts;
              end = quote ∷ [];
              spelling = refl;
              is_quoted = h;
              are_parts = subst (λ x. AreParts (InString quote) parts (x ∷ ds)) same
                  (subst (AreParts (InString quote) parts) e f.are);
              means = refl;
              ends = inl refl;
            };
            longest = λ q more j i. subst (λ xs. length (piece_text q) ≤ suc (length xs))
                (closed ∙ ap (λ xs. parts_text parts ++ xs)
                (pick-true (d == quote) (d ∷ []) [] t ∙ ap (λ x. x ∷ []) same))
                (longest (quote ∷ cs) (suc (length (closed_text (InString quote) quote cs))) (omega arith)
                (bounds-only quotes quote cs (suc (length (closed_text (InString quote) quote cs)))
                (quote-only quote h) (string-bound quote cs h)) q more j i);
          })
      | inr n ↦
          subst (λ p. IsFirst p (quote ∷ cs)) (sym (pick-false (d == quote) yes no n)) (record {
            rest = d ∷ ds;
            joins = ap (λ xs. quote ∷ xs) whole;
            some = omega arith;
            is = record {
              quote = quote;
              parts = parts;
              spelling = refl;
              is_quoted = h;
              are_parts = subst (AreParts (InString quote) parts) e f.are;
              before_newline =
                  string-stopped quote d ds (ap (parts_in (InString quote)) (sym e) ∙ f.ends) n;
            };
            longest = λ q more j i. subst (λ xs. length (piece_text q) ≤ suc (length xs))
                (closed ∙ (ap (λ xs. parts_text parts ++ xs) (pick-false (d == quote) (d ∷ []) [] n)
                ∙ append-nil (parts_text parts)))
                (longest (quote ∷ cs) (suc (length (closed_text (InString quote) quote cs))) (omega arith)
                (bounds-only quotes quote cs (suc (length (closed_text (InString quote) quote cs)))
                (quote-only quote h) (string-bound quote cs h)) q more j i);
          })
    ]

pub string-first : (quote : ℕ) (cs : Text) → is_quote quote ≡ true
    → IsFirst (consume_string quote cs) (quote ∷ cs)
string-first quote cs h = string-at quote cs (after_parts (parts_in (InString quote) cs) cs) h refl
