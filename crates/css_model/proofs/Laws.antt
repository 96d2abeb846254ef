-- The computed tokens of a text are its token list, where each first piece is the one of the
-- definition.
use Rattle.std.proofs.Common.{◌≡◌, ◌∙◌, sym, ap, refl, subst, ℕ, zero, suc, pred, ◌≤◌, List, [], ◌∷◌, ◌++◌, length, drop, arith, length-drop}
use Rattle.std.proofs.Math.Seq.{drop-append_seam}
use Rattle.css_model.specs.Classes.{Text}
use Rattle.css_model.specs.Preprocessing.{preprocessed}
use Rattle.css_model.specs.TokenList.{Piece, piece_text, pieces_text, IsPiece, ArePieces, IsTokenList}
use Rattle.css_model.specs.inner.Pieces.{first_piece, pieces_after, pieces, tokens}

-- a piece by the definition is in front of a text, and no longer one is
pub record IsFirst (p : Piece) (cs : Text) : Type 0 where
  pub rest : Text
  pub joins : piece_text p ++ rest ≡ cs
  pub some : 1 ≤ length (piece_text p)
  pub is : IsPiece p rest
  pub longest : (q : Piece) (behind : Text) → piece_text q ++ behind ≡ cs → IsPiece q behind
      → length (piece_text q) ≤ length (piece_text p)

-- ---- all pieces

pieces_after-drop : (n : ℕ) (cs : Text) → pieces_after n cs ≡ pieces (drop n cs)
unfolding pieces_after
pieces_after-drop zero [] = refl
pieces_after-drop (suc n) [] = refl
pieces_after-drop zero (c ∷ cs) = refl
pieces_after-drop (suc n) (c ∷ cs) = pieces_after-drop n cs

pub pieces-nil : pieces [] ≡ []
unfolding pieces_after
pieces-nil = refl

pub pieces-cons : (c : ℕ) (cs : Text)
    → pieces (c ∷ cs) ≡ first_piece c cs ∷ pieces (drop (pred (length (piece_text (first_piece c cs)))) cs)
unfolding pieces_after
pieces-cons c cs =
    ap (λ ps. first_piece c cs ∷ ps) (pieces_after-drop (pred (length (piece_text (first_piece c cs)))) cs)

-- pieces of the definition that make up a text
pub record Cut (ps : List Piece) (cs : Text) : Type 0 where
  pub joins : pieces_text ps ≡ cs
  pub are : ArePieces ps

-- after a first piece is what is left of the text
pub behind-first : (s rest : Text) (c : ℕ) (cs : Text) → s ++ rest ≡ c ∷ cs → 1 ≤ length s
    → drop (pred (length s)) cs ≡ rest
behind-first [] rest c cs e l = absurd (omega (arith, l))
behind-first (d ∷ s) rest c cs e l = ap (drop (length s)) (sym (ap (drop 1) e)) ∙ drop-append_seam s rest

cut-cons : (p : Piece) (ps : List Piece) (cs : Text) → (first : IsFirst p cs) → Cut ps first.rest
    → Cut (p ∷ ps) cs
cut-cons p ps cs first more = record {
  joins = ap (λ xs. piece_text p ++ xs) more.joins ∙ first.joins;
  are = (
    subst (IsPiece p) (sym more.joins) first.is,
    (λ q behind e h. first.longest q behind
        (sym e ∙ (ap (λ xs. piece_text p ++ xs) more.joins ∙ first.joins)) h),
    more.are,
  );
}

-- by the length of the text
cut-within : ((c : ℕ) (cs : Text) → IsFirst (first_piece c cs) (c ∷ cs)) → (n : ℕ) (cs : Text)
    → length cs ≤ n → Cut (pieces cs) cs
cut-within law n [] l = subst (λ ps. Cut ps []) (sym pieces-nil) (record { joins = refl; are = tt })
cut-within law zero (c ∷ cs) l = absurd (omega (arith, l))
cut-within law (suc n) (c ∷ cs) l =
    let first : IsFirst (first_piece c cs) (c ∷ cs) = law c cs in
    let k : ℕ = pred (length (piece_text (first_piece c cs))) in
    let left : drop k cs ≡ first.rest =
    behind-first (piece_text (first_piece c cs)) first.rest c cs first.joins first.some in
    let shorter : length (drop k cs) ≤ length cs = rw (length-drop k cs) (omega arith) in
    let more : Cut (pieces (drop k cs)) (drop k cs) =
    cut-within law n (drop k cs) (omega (arith, l, shorter)) in
    subst (λ ps. Cut ps (c ∷ cs)) (sym (pieces-cons c cs))
    (cut-cons (first_piece c cs) (pieces (drop k cs)) (c ∷ cs) first
    (subst (Cut (pieces (drop k cs))) left more))

pub tokens-are : ((c : ℕ) (cs : Text) → IsFirst (first_piece c cs) (c ∷ cs)) → (text : Text)
    → IsTokenList text (tokens text)
tokens-are law text =
    let cut : Cut (pieces (preprocessed text)) (preprocessed text) =
    cut-within law (length (preprocessed text)) (preprocessed text) (omega arith) in
    record {
      pieces = pieces (preprocessed text);
      joined = cut.joins;
      are_pieces = cut.are;
      tokens_are = refl;
    }
