-- Urls and bad urls, after their head.
use Rattle.std.proofs.Common.{◌≡◌, ◌∙◌, sym, ap, refl, subst, ℕ, ◌==◌, List, [], ◌∷◌, ◌++◌, map, length, drop, Bool, true, false, ◌||◌, append_assoc, eqb-true, inl, inr}
use Rattle.std.proofs.lemmas.Bool.{cases_Bool, true≢false, false≢true}
use Rattle.std.proofs.Math.Seq.{drop-append_seam}
use Rattle.std.specs.Prelude.{codes}
use Rattle.std.specs.List.{list_all}
use Rattle.css_model.specs.declared.place.Place.{Place}
use Rattle.css_model.specs.Classes.{Text, backslash, open_round, close_round, is_newline, is_non_printable, is_whitespace, is_quote, begins, is_empty, is_close_round}
use Rattle.css_model.specs.declared.place.Place.TheVariants.{InUrl, InBadUrl}
use Rattle.css_model.specs.Parts.{Part, itself, escaped, hex_escape, escaped_newline, escape_at_end, parts_text, IsPart, AreParts, may_stand}
use Rattle.css_model.specs.Spellings.{IsEnd}
use Rattle.css_model.specs.inner.Fronts.{escape_in, part_in, parts_in, after_parts}
use Rattle.css_model.specs.inner.Pieces.{after_white, after_url_parts}
use Rattle.css_model.proofs.Tests.{and-left, and-right, or-cases, or-false-left, or-false-right, not-true, not-false, both, pick-false}
use Rattle.css_model.proofs.Runs.{run_in-is}
use Rattle.css_model.proofs.PartLemmas.{parts_in-stop}
use Rattle.css_model.proofs.FirstStrings.{closed_text, closed-is, parts-stopped, parts_text-append, stops-at-end}

-- ---- every url is what a bad url could be

white-plain : (w : ℕ) → is_whitespace w ≡ true → (w == close_round ≡ false) × (w == backslash ≡ false)
white-plain w h = elim (or-cases (is_newline w) ((w == 9) || (w == 32)) h) [
  | inl t ↦ subst (λ x. (x == close_round ≡ false) × (x == backslash ≡ false)) (sym (eqb-true w 10 t))
      (refl, refl)
  | inr t ↦ elim (or-cases (w == 9) (w == 32) t) [
    | inl u ↦ subst (λ x. (x == close_round ≡ false) × (x == backslash ≡ false)) (sym (eqb-true w 9 u))
        (refl, refl)
    | inr u ↦ subst (λ x. (x == close_round ≡ false) × (x == backslash ≡ false)) (sym (eqb-true w 32 u))
        (refl, refl)
  ]
]

white-parts : (ws behind : Text) → list_all is_whitespace ws ≡ true
    → AreParts InBadUrl (map itself ws) behind
white-parts [] behind a = tt
white-parts (w ∷ ws) behind a =
    let plain : (w == close_round ≡ false) × (w == backslash ≡ false) =
    white-plain w (and-left (is_whitespace w) (list_all is_whitespace ws) a) in (
      not-false (w == close_round) plain.0,
      plain.1,
      white-parts ws behind (and-right (is_whitespace w) (list_all is_whitespace ws) a),
    )

white-text : (ws : Text) → parts_text (map itself ws) ≡ ws
white-text [] = refl
white-text (w ∷ ws) = ap (λ xs. w ∷ xs) (white-text ws)

abbrev closes_or_white : ℕ → Bool
closes_or_white c = (c == close_round) || (is_whitespace c || is_non_printable c)

abbrev no_url_char : ℕ → Bool
no_url_char c = is_quote c || ((c == open_round) || closes_or_white c)

-- a code point of a url is neither `)` nor whitespace
record UrlChar (c : ℕ) : Type 0 where
  close : c == close_round ≡ false
  white : is_whitespace c ≡ false

url-char : (c : ℕ) → may_stand InUrl (itself c) ≡ true → UrlChar c
url-char c h =
    let others : (c == open_round) || closes_or_white c ≡ false =
    or-false-right (is_quote c) ((c == open_round) || closes_or_white c) (not-true (no_url_char c) h) in
    let tests : closes_or_white c ≡ false = or-false-right (c == open_round) (closes_or_white c) others in
    let white : is_whitespace c || is_non_printable c ≡ false =
    or-false-right (c == close_round) (is_whitespace c || is_non_printable c) tests in
    record {
      close = or-false-left (c == close_round) (is_whitespace c || is_non_printable c) tests;
      white = or-false-left (is_whitespace c) (is_non_printable c) white;
    }

widened : (parts : List Part) (behind : Text) → AreParts InUrl parts behind → AreParts InBadUrl parts behind
widened [] behind h = tt
widened (itself c ∷ parts) behind h =
    (not-false (c == close_round) (url-char c h.0).close, h.1, widened parts behind h.2)
widened (escaped c ∷ parts) behind h = (refl, h.1, widened parts behind h.2)
widened (hex_escape digits blank ∷ parts) behind h = (refl, h.1, widened parts behind h.2)
widened (escaped_newline ∷ parts) behind h = absurd (false≢true h.0)
widened (escape_at_end ∷ parts) behind h = (refl, h.1, widened parts behind h.2)

are-append : (place : Place) (xs ys : List Part) (behind : Text)
    → AreParts place xs (parts_text ys ++ behind) → AreParts place ys behind
    → AreParts place (xs ++ ys) behind
are-append place [] ys behind h k = k
are-append place (x ∷ xs) ys behind h k =
    let same : parts_text xs ++ (parts_text ys ++ behind) ≡ parts_text (xs ++ ys) ++ behind =
    sym (ap (λ cs. cs ++ behind) (parts_text-append xs ys)
    ∙ append_assoc (parts_text xs) (parts_text ys) behind) in
    (h.0, subst (IsPart x) same h.1, are-append place xs ys behind h.2 k)

bad_url-stop : (xs : Text) → parts_in InBadUrl (close_round ∷ xs) ≡ []
bad_url-stop xs = parts_in-stop InBadUrl close_round xs refl

-- what is after the head of a url would be after that of a bad url
pub url-closed : (before after end rest : Text) (parts : List Part) → list_all is_whitespace before ≡ true
    → AreParts InUrl parts (after ++ (end ++ rest)) → list_all is_whitespace after ≡ true
    → IsEnd (codes ")") end rest
    → closed_text InBadUrl close_round (before ++ (parts_text parts ++ (after ++ (end ++ rest))))
    ≡ before ++ (parts_text parts ++ (after ++ end))
url-closed before after end rest parts b p a e =
    let behind : List Part = parts ++ map itself after in
    let all : List Part = map itself before ++ behind in
    let behind_text : parts_text behind ≡ parts_text parts ++ after =
    parts_text-append parts (map itself after) ∙ ap (λ xs. parts_text parts ++ xs) (white-text after) in
    let all_text : parts_text all ≡ before ++ (parts_text parts ++ after) =
    parts_text-append (map itself before) behind
    ∙ (ap (λ xs. xs ++ parts_text behind) (white-text before) ∙ ap (λ xs. before ++ xs) behind_text) in
    let are : AreParts InBadUrl all (end ++ rest) =
    are-append InBadUrl (map itself before) behind (end ++ rest)
    (white-parts before (parts_text behind ++ (end ++ rest)) b)
    (are-append InBadUrl parts (map itself after) (end ++ rest)
    (subst (λ xs. AreParts InBadUrl parts (xs ++ (end ++ rest))) (sym (white-text after))
    (widened parts (after ++ (end ++ rest)) p))
    (white-parts after (end ++ rest) a)) in
    let joined_text : (xs : Text) → parts_text all ++ xs ≡ before ++ (parts_text parts ++ (after ++ xs)) =
    λ xs. ap (λ cs. cs ++ xs) all_text
    ∙ (append_assoc before (parts_text parts ++ after) xs
    ∙ ap (λ cs. before ++ cs) (append_assoc (parts_text parts) after xs)) in
    ap (closed_text InBadUrl close_round) (sym (joined_text (end ++ rest)))
    ∙ (closed-is InBadUrl close_round bad_url-stop all end rest are e ∙ joined_text end)

pub bad_url-closed : (end rest : Text) (parts : List Part) → AreParts InBadUrl parts (end ++ rest)
    → IsEnd (codes ")") end rest
    → closed_text InBadUrl close_round (parts_text parts ++ (end ++ rest)) ≡ parts_text parts ++ end
bad_url-closed end rest parts p e = closed-is InBadUrl close_round bad_url-stop parts end rest p e

-- ---- what is a url by the computation

abbrev pub is_closed : Text → Bool
is_closed cs = is_empty cs || begins is_close_round cs

after_white-is : (ws cs : Text) → list_all is_whitespace ws ≡ true → begins is_whitespace cs ≡ false
    → after_white (ws ++ cs) ≡ cs
after_white-is ws cs a b = ap (λ xs. drop (length xs) (ws ++ cs)) (run_in-is is_whitespace ws cs a b)
    ∙ drop-append_seam ws cs

after_url_parts-is : (parts : List Part) (cs : Text) → AreParts InUrl parts cs → parts_in InUrl cs ≡ []
    → after_url_parts (parts_text parts ++ cs) ≡ cs
after_url_parts-is parts cs p none =
    ap (λ ps. after_parts ps (parts_text parts ++ cs)) (parts-stopped InUrl parts cs p none)
    ∙ drop-append_seam (parts_text parts) cs

end-no_white : (end rest : Text) → IsEnd (codes ")") end rest → begins is_whitespace (end ++ rest) ≡ false
end-no_white end rest (inl e) = ap (λ xs. begins is_whitespace (xs ++ rest)) e
end-no_white end rest (inr e) = ap (λ xs. begins is_whitespace (xs ++ rest)) e.0
    ∙ ap (begins is_whitespace) e.1

end-closed : (end rest : Text) → IsEnd (codes ")") end rest → is_closed (end ++ rest) ≡ true
end-closed end rest (inl e) = ap (λ xs. is_closed (xs ++ rest)) e
end-closed end rest (inr e) = ap (λ xs. is_closed (xs ++ rest)) e.0 ∙ ap is_closed e.1

url-stop : (xs : Text) → parts_in InUrl (close_round ∷ xs) ≡ []
url-stop xs = parts_in-stop InUrl close_round xs refl

white-stop : (after cs : Text) → list_all is_whitespace after ≡ true → parts_in InUrl cs ≡ []
    → parts_in InUrl (after ++ cs) ≡ []
white-stop [] cs a none = none
white-stop (w ∷ after) cs a none =
    let white : is_whitespace w ≡ true = and-left (is_whitespace w) (list_all is_whitespace after) a in
    let part : part_in w (after ++ cs) ≡ itself w =
    pick-false (w == backslash) (escape_in (after ++ cs)) (itself w) ((white-plain w white).1) in
    let no : may_stand InUrl (itself w) ≡ false =
    elim (cases_Bool (may_stand InUrl (itself w))) [
      | inl t ↦
          absurd (true≢false (sym white ∙ (url-char w t).white))
      | inr f ↦ f
    ] in
    parts_in-stop InUrl w (after ++ cs) (ap (may_stand InUrl) part ∙ no)

parts-no_white : (p : Part) (parts : List Part) (cs : Text) → AreParts InUrl (p ∷ parts) cs
    → begins is_whitespace (parts_text (p ∷ parts) ++ cs) ≡ false
parts-no_white (itself c) parts cs h = (url-char c h.0).white
parts-no_white (escaped c) parts cs h = refl
parts-no_white (hex_escape digits blank) parts cs h = refl
parts-no_white escaped_newline parts cs h = refl
parts-no_white escape_at_end parts cs h = refl

list_all-both : (xs ys : Text) → list_all is_whitespace xs ≡ true → list_all is_whitespace ys ≡ true
    → list_all is_whitespace (xs ++ ys) ≡ true
list_all-both [] ys a b = b
list_all-both (x ∷ xs) ys a b =
    both (is_whitespace x) (list_all is_whitespace (xs ++ ys))
    (and-left (is_whitespace x) (list_all is_whitespace xs) a)
    (list_all-both xs ys (and-right (is_whitespace x) (list_all is_whitespace xs) a) b)

-- a url of the definition is one by the computation
pub url-computed : (before after end rest : Text) (parts : List Part) → list_all is_whitespace before ≡ true
    → AreParts InUrl parts (after ++ (end ++ rest)) → list_all is_whitespace after ≡ true
    → IsEnd (codes ")") end rest
    → is_closed (after_white
    (after_url_parts (after_white (before ++ (parts_text parts ++ (after ++ (end ++ rest))))))) ≡ true
url-computed before after end rest [] b p a e =
    let cs : Text = end ++ rest in
    let none : parts_in InUrl cs ≡ [] = stops-at-end InUrl close_round url-stop end rest e in
    let first : after_white (before ++ (after ++ cs)) ≡ cs =
    ap after_white (sym (append_assoc before after cs))
    ∙ after_white-is (before ++ after) cs (list_all-both before after b a) (end-no_white end rest e) in
    ap (λ xs. is_closed (after_white (after_url_parts xs))) first
    ∙ (ap (λ xs. is_closed (after_white xs)) (after_url_parts-is [] cs tt none)
    ∙ (ap is_closed (after_white-is [] cs refl (end-no_white end rest e)) ∙ end-closed end rest e))
url-computed before after end rest (q ∷ parts) b p a e =
    let cs : Text = end ++ rest in
    let none : parts_in InUrl (after ++ cs) ≡ [] =
    white-stop after cs a (stops-at-end InUrl close_round url-stop end rest e) in
    ap (λ xs. is_closed (after_white (after_url_parts xs)))
    (after_white-is before (parts_text (q ∷ parts) ++ (after ++ cs)) b
    (parts-no_white q parts (after ++ cs) p))
    ∙ (ap (λ xs. is_closed (after_white xs)) (after_url_parts-is (q ∷ parts) (after ++ cs) p none)
    ∙ (ap is_closed (after_white-is after cs a (end-no_white end rest e)) ∙ end-closed end rest e))

-- the parts of a url of the definition are those after the first whitespace
pub url-parts : (before after end rest : Text) (parts : List Part) → list_all is_whitespace before ≡ true
    → AreParts InUrl parts (after ++ (end ++ rest)) → list_all is_whitespace after ≡ true
    → IsEnd (codes ")") end rest
    → parts_in InUrl (after_white (before ++ (parts_text parts ++ (after ++ (end ++ rest))))) ≡ parts
url-parts before after end rest [] b p a e =
    let cs : Text = end ++ rest in
    let first : after_white (before ++ (after ++ cs)) ≡ cs =
    ap after_white (sym (append_assoc before after cs))
    ∙ after_white-is (before ++ after) cs (list_all-both before after b a) (end-no_white end rest e) in
    ap (parts_in InUrl) first ∙ stops-at-end InUrl close_round url-stop end rest e
url-parts before after end rest (q ∷ parts) b p a e =
    let cs : Text = end ++ rest in
    ap (parts_in InUrl)
    (after_white-is before (parts_text (q ∷ parts) ++ (after ++ cs)) b
    (parts-no_white q parts (after ++ cs) p))
    ∙ parts-stopped InUrl (q ∷ parts) (after ++ cs) p
    (white-stop after cs a (stops-at-end InUrl close_round url-stop end rest e))
