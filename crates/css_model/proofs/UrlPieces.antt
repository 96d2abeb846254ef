-- A url or bad url after its head.
use Rattle.std.proofs.Common.{◌≡◌, ◌∙◌, sym, ap, refl, subst, ◌+◌, ◌==◌, List, [], ◌∷◌, ◌++◌, length, drop, true, false, append_assoc, length-append, eqb-true, inl, inr}
use Rattle.std.proofs.lemmas.Bool.{cases_Bool, true≢false, cond_both}
use Rattle.std.proofs.Math.Seq.{drop-append_seam}
use Rattle.std.specs.Prelude.{codes, if◌then◌else◌}
use Rattle.css_model.specs.Classes.{Text, backslash, open_round, close_round, is_hex_digit, is_newline, is_whitespace, is_close_round}
use Rattle.css_model.specs.declared.token.TokenType.TheVariants.{Url}
use Rattle.css_model.specs.declared.place.Place.TheVariants.{InName, InUrl, InBadUrl}
use Rattle.css_model.specs.Parts.{Part, itself, escaped, escaped_newline, parts_text, meanings, AreParts, may_stand}
use Rattle.css_model.specs.Spellings.{is_url_name, IsEnd, IsName, IsUrlHead}
use Rattle.css_model.specs.TokenList.{Piece, token, piece_text, IsPiece}
use Rattle.css_model.specs.inner.Fronts.{one_in, run_in, hex_escape_in, escape_in, part_in, parts_in, after_parts}
use Rattle.css_model.specs.inner.Pieces.{after_white, after_url_parts, consume_bad_url_remnants, consume_url}
use Rattle.css_model.proofs.Tests.{not-false, pick-true, pick-false}
use Rattle.css_model.proofs.Runs.{Runs, runs}
use Rattle.css_model.proofs.PartLemmas.{one_in-joins, parts_in-stop, Fronts, fronts}
use Rattle.css_model.proofs.FirstStrings.{closed_text, parts-stopped, stop-allowed}
use Rattle.css_model.proofs.Urls.{url-closed, is_closed, url-computed}

-- ---- heads

-- the parts of a name before `(`, and what is after it
pub record Headed (parts : List Part) (inside cs : Text) : Type 0 where
  pub are : parts_in InName cs ≡ parts
  pub behind : after_parts (parts_in InName cs) cs ≡ open_round ∷ inside

pub headed : (name head inside cs : Text) (i : IsName name true head (codes "(" ++ inside))
    → head ++ (codes "(" ++ inside) ≡ cs → Headed i.parts inside cs
headed name head inside cs i e =
    let front : parts_text i.parts ++ (open_round ∷ inside) ≡ cs =
    ap (λ xs. xs ++ (open_round ∷ inside)) (sym i.spelling) ∙ e in
    let are : parts_in InName cs ≡ i.parts = ap (parts_in InName) (sym front)
    ∙ parts-stopped InName i.parts (open_round ∷ inside) i.are_parts
    (parts_in-stop InName open_round inside refl) in
    record {
      are = are;
      behind = ap (λ ps. after_parts ps cs) are
          ∙ (ap (after_parts i.parts) (sym front)
          ∙ drop-append_seam (parts_text i.parts) (open_round ∷ inside));
    }

-- a url's head in front of a text
pub record UrlHeaded (head inside cs : Text) : Type 0 where
  pub behind : after_parts (parts_in InName cs) cs ≡ open_round ∷ inside
  pub url_name : is_url_name (meanings InName (parts_in InName cs)) ≡ true
  pub is : head ≡ parts_text (parts_in InName cs) ++ codes "("

pub url_headed : (head inside cs : Text) → IsUrlHead head inside → head ++ inside ≡ cs
    → UrlHeaded head inside cs
url_headed head inside cs h e =
    let front : h.head ++ (codes "(" ++ inside) ≡ cs = sym (append_assoc h.head (codes "(") inside)
    ∙ (ap (λ xs. xs ++ inside) (sym h.spelling) ∙ e) in
    let it : Headed h.is_name.parts inside cs = headed h.name h.head inside cs h.is_name front in
    record {
      behind = it.behind;
      url_name = ap (λ ps. is_url_name (meanings InName ps)) it.are
          ∙ (ap is_url_name h.is_name.means ∙ h.url_name);
      is = h.spelling ∙ ap (λ xs. xs ++ codes "(") (h.is_name.spelling ∙ ap parts_text (sym it.are));
    }

-- ---- urls

-- the url or bad url of a head, as the computation has it
pub record UrlPiece (p : Piece) (head inside : Text) : Type 0 where
  pub rest : Text
  pub joins : piece_text p ++ rest ≡ head ++ inside
  pub is : IsPiece p rest
  pub size : length (piece_text p) ≡ length head + length (closed_text InBadUrl close_round inside)

closed-end : (cs : Text) → is_closed cs ≡ true
    → IsEnd (codes ")") (one_in is_close_round cs) (drop (length (one_in is_close_round cs)) cs)
closed-end [] h = inr (refl, refl)
closed-end (c ∷ cs) h =
    inl (pick-true (is_close_round c) (c ∷ []) [] h ∙ ap (λ x. x ∷ []) (eqb-true c close_round h))

escape-in-bad_url : (cs : Text) → may_stand InBadUrl (escape_in cs) ≡ true
escape-in-bad_url [] = refl
escape-in-bad_url (d ∷ cs) =
    cond_both (is_newline d) escaped_newline (if is_hex_digit d then hex_escape_in (d ∷ cs) else escaped d)
    (λ p. may_stand InBadUrl p ≡ true) (λ t. refl)
    (λ f. cond_both (is_hex_digit d) (hex_escape_in (d ∷ cs)) (escaped d) (λ p. may_stand InBadUrl p ≡ true)
    (λ t. refl) (λ n. refl))

bad_url-stopped : (cs : Text) → parts_in InBadUrl cs ≡ [] → is_closed cs ≡ true
bad_url-stopped [] none = refl
bad_url-stopped (d ∷ ds) none =
    let no : may_stand InBadUrl (part_in d ds) ≡ false = stop-allowed InBadUrl d ds none in
    elim (cases_Bool (d == backslash)) [
      | inl t ↦ absurd
          (true≢false (sym
          (ap (may_stand InBadUrl) (pick-true (d == backslash) (escape_in ds) (itself d) t)
          ∙ escape-in-bad_url ds) ∙ no))
      | inr g ↦ elim (cases_Bool (d == close_round)) [
        | inl t ↦ t
        | inr n ↦ absurd
            (true≢false (sym
            (ap (may_stand InBadUrl) (pick-false (d == backslash) (escape_in ds) (itself d) g)
            ∙ not-false (d == close_round) n) ∙ no))
      ]
    ]

-- a url
url-yes : (head inside : Text) → IsUrlHead head inside
    → is_closed (after_white (after_url_parts (after_white inside))) ≡ true
    → UrlPiece (token (Url (meanings InUrl (parts_in InUrl (after_white inside))))
    (head ++ (run_in is_whitespace
    inside ++ (parts_text
    (parts_in InUrl (after_white inside)) ++ (run_in is_whitespace
    (after_url_parts (after_white inside)) ++ one_in is_close_round
    (after_white (after_url_parts (after_white inside)))))))) head inside
url-yes head inside h t =
    let before : Text = run_in is_whitespace inside in
    let i1 : Text = after_white inside in
    let parts : List Part = parts_in InUrl i1 in
    let b1 : Text = after_url_parts i1 in
    let after : Text = run_in is_whitespace b1 in
    let b2 : Text = after_white b1 in
    let end : Text = one_in is_close_round b2 in
    let rest : Text = drop (length end) b2 in
    let r1 : Runs is_whitespace inside = runs is_whitespace inside in
    let f : Fronts InUrl i1 = fronts InUrl i1 in
    let r2 : Runs is_whitespace b1 = runs is_whitespace b1 in
    let e2 : after ++ (end ++ rest) ≡ b1 = ap (λ xs. after ++ xs) (one_in-joins is_close_round b2)
    ∙ r2.joins in
    let e1 : parts_text parts ++ (after ++ (end ++ rest)) ≡ i1 = ap (λ xs. parts_text parts ++ xs) e2
    ∙ f.joins in
    let e0 : before ++ (parts_text parts ++ (after ++ (end ++ rest))) ≡ inside = ap (λ xs. before ++ xs) e1
    ∙ r1.joins in
    let are : AreParts InUrl parts (after ++ (end ++ rest)) = subst (AreParts InUrl parts) (sym e2) f.are in
    let ends : IsEnd (codes ")") end rest = closed-end b2 t in
    let closed : closed_text InBadUrl close_round inside ≡ before ++ (parts_text parts ++ (after ++ end)) =
    ap (closed_text InBadUrl close_round) (sym e0)
    ∙ url-closed before after end rest parts r1.passes are r2.passes ends in
    record {
      rest = rest;
      joins = append_assoc head (before ++ (parts_text parts ++ (after ++ end))) rest
          ∙ ap (λ xs. head ++ xs) (append_assoc before (parts_text parts ++ (after ++ end)) rest
          ∙ (ap (λ xs. before ++ xs)
          (append_assoc (parts_text parts) (after ++ end) rest
          ∙ ap (λ xs. parts_text parts ++ xs) (append_assoc after end rest)) ∙ e0));
      is = record {
        head = head;
        before = before;
        parts = parts;
        after = after;
        end = end;
        spelling = refl;
        is_head = subst (IsUrlHead head) (sym e0) h;
        whitespace_before = r1.passes;
        are_parts = are;
        whitespace_after = r2.passes;
        means = refl;
        ends = ends;
      };
      size = length-append head (before ++ (parts_text parts ++ (after ++ end)))
          ∙ ap (λ xs. length head + length xs) (sym closed);
    }

-- a bad url
url-no : (head inside : Text) → IsUrlHead head inside
    → is_closed (after_white (after_url_parts (after_white inside))) ≡ false
    → UrlPiece (consume_bad_url_remnants head inside) head inside
url-no head inside h t =
    let parts : List Part = parts_in InBadUrl inside in
    let b : Text = after_parts parts inside in
    let end : Text = one_in is_close_round b in
    let rest : Text = drop (length end) b in
    let f : Fronts InBadUrl inside = fronts InBadUrl inside in
    let e1 : end ++ rest ≡ b = one_in-joins is_close_round b in
    let e0 : parts_text parts ++ (end ++ rest) ≡ inside = ap (λ xs. parts_text parts ++ xs) e1 ∙ f.joins in
    let whole : (head ++ (parts_text parts ++ end)) ++ rest ≡ head ++ inside =
    append_assoc head (parts_text parts ++ end) rest
    ∙ ap (λ xs. head ++ xs) (append_assoc (parts_text parts) end rest ∙ e0) in
    let mine : UrlHeaded head inside (head ++ inside) = url_headed head inside (head ++ inside) h refl in
    record {
      rest = rest;
      joins = whole;
      is = record {
        head = head;
        parts = parts;
        end = end;
        spelling = refl;
        is_head = subst (IsUrlHead head) (sym e0) h;
        are_parts = subst (AreParts InBadUrl parts) (sym e1) f.are;
        ends = closed-end b (bad_url-stopped b f.ends);
        no_url = λ value i.
            let it : Text = i.before ++ (parts_text i.parts ++ (i.after ++ (i.end ++ rest))) in
            let front : i.head ++ it ≡ head ++ inside =
            sym (append_assoc i.head (i.before ++ (parts_text i.parts ++ (i.after ++ i.end))) rest
            ∙ ap (λ xs. i.head ++ xs) (append_assoc i.before (parts_text i.parts ++ (i.after ++ i.end)) rest
            ∙ ap (λ xs. i.before ++ xs)
            (append_assoc (parts_text i.parts) (i.after ++ i.end) rest
            ∙ ap (λ xs. parts_text i.parts ++ xs) (append_assoc i.after i.end rest))))
            ∙ (ap (λ xs. xs ++ rest) (sym i.spelling) ∙ whole) in
            let theirs : UrlHeaded i.head it (head ++ inside) =
            url_headed i.head it (head ++ inside) i.is_head front in
            let same : it ≡ inside = ap (drop 1) (sym theirs.behind ∙ mine.behind) in
            absurd (true≢false
            (sym (ap (λ xs. is_closed (after_white (after_url_parts (after_white xs)))) (sym same)
            ∙ url-computed i.before i.after i.end rest i.parts i.whitespace_before i.are_parts
            i.whitespace_after i.ends) ∙ t));
      };
      size = length-append head (parts_text parts ++ end);
    }

pub url-either : (head inside : Text) → IsUrlHead head inside
    → UrlPiece (consume_url head inside) head inside
url-either head inside h = cond_both (is_closed (after_white (after_url_parts (after_white inside))))
    (token (Url (meanings InUrl (parts_in InUrl (after_white inside))))
    (head ++ (run_in is_whitespace
    inside ++ (parts_text
    (parts_in InUrl (after_white inside)) ++ (run_in is_whitespace
    (after_url_parts (after_white inside)) ++ one_in is_close_round
    (after_white (after_url_parts (after_white inside))))))))
    (consume_bad_url_remnants head inside) (λ p. UrlPiece p head inside) (url-yes head inside h)
    (url-no head inside h)
