-- The computed component values of tokens are component values of them.
use Rattle.std.proofs.Common.{◌≡◌, ◌∙◌, sym, ap, refl, subst, inl, inr, List, [], ◌∷◌, ◌++◌, drop, Option, Some, None, true, false, append_assoc, append-nil}
use Rattle.std.proofs.lemmas.Bool.{cases_Bool}
use Rattle.std.specs.Option.{is_some}
use Rattle.css_model.specs.Classes.{Text}
use Rattle.css_model.specs.declared.token.Bracket.{Bracket}
use Rattle.css_model.specs.declared.token.Bracket.TheVariants.{Round, Square, Curly}
use Rattle.css_model.specs.declared.token.Token.{Token}
use Rattle.css_model.specs.declared.token.TokenType.{TokenType}
use Rattle.css_model.specs.declared.token.TokenType.TheVariants.{Function, Opening, Closing}
use Rattle.css_model.specs.Components.{preserved, simple_block, function_block, Components, no_components, component, tokens_of, all_tokens_of, close_tokens, opened_by, is_same_bracket, closes, IsClosed, IsNested, AreNested, IsComponents}
use Rattle.css_model.specs.inner.Nesting.{is_function, bracketed, innermost, Levels, levels, contents_of, alone, closed, enclosed, levels_of, nesting, followed, onto}

-- ---- one token in front

pub levels-opening : (heads : List Token) (t : Token) (ts : List Token)
    → is_some (opened_by t.token_type) ≡ true
    → levels_of heads (t ∷ ts) ≡ enclosed t (levels_of (t ∷ heads) ts)
unfolding levels_of
levels-opening heads t ts e = rw e refl

pub levels-closing : (heads : List Token) (t : Token) (ts : List Token)
    → is_some (opened_by t.token_type) ≡ false → closes (innermost heads) t.token_type ≡ true
    → levels_of heads (t ∷ ts) ≡ closed t (levels_of (drop 1 heads) ts)
unfolding levels_of
levels-closing heads t ts e c = rw (e, c) refl

pub levels-alone : (heads : List Token) (t : Token) (ts : List Token)
    → is_some (opened_by t.token_type) ≡ false → closes (innermost heads) t.token_type ≡ false
    → levels_of heads (t ∷ ts) ≡ alone t (levels_of heads ts)
unfolding levels_of
levels-alone heads t ts e c = rw (e, c) refl

pub levels-end : (heads : List Token) → levels_of heads [] ≡ levels no_components []
unfolding levels_of
levels-end heads = refl

-- ---- brackets

is_same_bracket-is : (b d : Bracket) → is_same_bracket b d ≡ true → d ≡ b
is_same_bracket-is Round Round e = refl
is_same_bracket-is Square Square e = refl
is_same_bracket-is Curly Curly e = refl
is_same_bracket-is Round Square e = cc
is_same_bracket-is Round Curly e = cc
is_same_bracket-is Square Round e = cc
is_same_bracket-is Square Curly e = cc
is_same_bracket-is Curly Round e = cc
is_same_bracket-is Curly Square e = cc

closes-is : (b : Bracket) (k : TokenType) → closes (Some b) k ≡ true → k ≡ Closing b
closes-is b (Closing d) e = ap Closing (is_same_bracket-is b d e)
closes-is b other e = cc

none-of : (o : Option Bracket) → is_some o ≡ false → o ≡ None
none-of None e = refl
none-of (Some b) e = cc

-- ---- the tokens of levels

abbrev outside_tokens : List (Token × Components) → List Token
outside_tokens [] = []
outside_tokens (level ∷ outside) = level.0 ∷ (all_tokens_of level.1 ++ outside_tokens outside)

abbrev tokens_in : Levels → List Token
tokens_in (levels contents outside) = all_tokens_of contents ++ outside_tokens outside

alone-tokens : (t : Token) (l : Levels) → tokens_in (alone t l) ≡ t ∷ tokens_in l
alone-tokens t (levels contents outside) = refl

closed-tokens : (t : Token) (l : Levels) → tokens_in (closed t l) ≡ t ∷ tokens_in l
closed-tokens t (levels contents outside) = refl

bracketed-tokens : (head : Token) (contents : Components) (close : Option Token)
    → tokens_of (bracketed head contents close) ≡ head ∷ (all_tokens_of contents ++ close_tokens close)
bracketed-tokens head contents close = elim (cases_Bool (is_function head.token_type)) [
  | inl t ↦ rw t refl
  | inr f ↦ rw f refl
]

enclosed-tokens : (head : Token) (l : Levels) → tokens_in (enclosed head l) ≡ head ∷ tokens_in l
enclosed-tokens head (levels contents []) =
    let inside : List Token = all_tokens_of contents ++ [] in
    rw (bracketed-tokens head contents None)
    (append-nil ((head ∷ inside) ++ []) ∙ append-nil (head ∷ inside))
enclosed-tokens head (levels contents (level ∷ outside)) =
    rw (bracketed-tokens head contents (Some level.0)) (simp append_assoc refl)

levels-joined : (heads ts : List Token) → tokens_in (levels_of heads ts) ≡ ts
levels-joined heads [] = rw (levels-end heads) refl
levels-joined heads (t ∷ ts) = elim (cases_Bool (is_some (opened_by t.token_type))) [
  | inl o ↦ rw (levels-opening heads t ts o, enclosed-tokens)
      (ap (λ xs. t ∷ xs) (levels-joined (t ∷ heads) ts))
  | inr o ↦ elim (cases_Bool (closes (innermost heads) t.token_type)) [
    | inl c ↦ rw (levels-closing heads t ts o c, closed-tokens)
        (ap (λ xs. t ∷ xs) (levels-joined (drop 1 heads) ts))
    | inr c ↦ rw (levels-alone heads t ts o c, alone-tokens) (ap (λ xs. t ∷ xs) (levels-joined heads ts))
  ]
]

-- ---- the nesting of levels

-- each of these closes its bracket, and is followed by what is nested rightly in the bracket around
-- that
abbrev OutsideNested : List Token → List (Token × Components) → Type 0
OutsideNested heads [] = Unit {0}
OutsideNested [] (level ∷ outside) = ⊥
OutsideNested (head ∷ heads) (level ∷ outside) =
    (closes (opened_by head.token_type) level.0.token_type ≡ true)
    × AreNested (innermost heads) level.1 (outside_tokens outside) × OutsideNested heads outside

abbrev LevelsNested : List Token → Levels → Type 0
LevelsNested heads (levels contents outside) =
    AreNested (innermost heads) contents (outside_tokens outside) × OutsideNested heads outside

pub bracketed-function_block : (head : Token) (contents : Components) (close : Option Token) (name : Text)
    → head.token_type ≡ Function name → bracketed head contents close ≡ function_block head contents close
bracketed-function_block head contents close name e =
    let is : is_function head.token_type ≡ true = rw e refl in
    rw is refl

pub bracketed-simple_block : (head : Token) (contents : Components) (close : Option Token) (b : Bracket)
    → head.token_type ≡ Opening b → bracketed head contents close ≡ simple_block head contents close
bracketed-simple_block head contents close b e =
    let is : is_function head.token_type ≡ false = rw e refl in
    rw is refl

bracketed-type : (around : Option Bracket) (head : Token) (contents : Components) (close : Option
    Token) (behind : List Token) (b : Bracket) (k : TokenType) → head.token_type ≡ k → opened_by k ≡ Some b
    → AreNested (Some b) contents (close_tokens close ++ behind) → IsClosed b close behind
    → IsNested around (bracketed head contents close) behind
bracketed-type around head contents close behind b (Function name) e o n c =
    let is : Round ≡ b = cc in
    rw (bracketed-function_block head contents close name e) (
      name,
      e,
      subst (λ (d : Bracket). AreNested (Some d) contents (close_tokens close ++ behind))
          (sym is) n,
      subst (λ (d : Bracket). IsClosed d close behind) (sym is) c,
    )
bracketed-type around head contents close behind b (Opening d) e o n c =
    let is : d ≡ b = cc in
    rw (bracketed-simple_block head contents close d e) (b, e ∙ ap Opening is, n, c)
bracketed-type around head contents close behind b other e o n c = cc

bracketed-nested : (around : Option Bracket) (head : Token) (contents : Components) (close : Option
    Token) (behind : List Token) (b : Bracket) → opened_by head.token_type ≡ Some b
    → AreNested (Some b) contents (close_tokens close ++ behind) → IsClosed b close behind
    → IsNested around (bracketed head contents close) behind
bracketed-nested around head contents close behind b o n c =
    bracketed-type around head contents close behind b head.token_type refl o n c

alone-nested : (heads : List Token) (t : Token) (l : Levels) → opened_by t.token_type ≡ None
    → closes (innermost heads) t.token_type ≡ false → LevelsNested heads l → LevelsNested heads (alone t l)
alone-nested heads t (levels contents outside) o c n = (((o, c), n.0), n.1)

closed-nested : (heads : List Token) (t : Token) (l : Levels) → closes (innermost heads) t.token_type ≡ true
    → LevelsNested (drop 1 heads) l → LevelsNested heads (closed t l)
closed-nested [] t (levels contents outside) c n = cc
closed-nested (head ∷ heads) t (levels contents outside) c n = (tt, (c, n.0, n.1))

enclosed-nested : (heads : List Token) (head : Token) (l : Levels) (b : Bracket)
    → opened_by head.token_type ≡ Some b → LevelsNested (head ∷ heads) l
    → LevelsNested heads (enclosed head l)
enclosed-nested heads head (levels contents []) b o n = (
  (
    bracketed-nested (innermost heads) head contents None [] b o
        (subst (λ (a : Option Bracket). AreNested a contents []) o n.0) refl,
    tt,
  ),
  tt,
)
enclosed-nested heads head (levels contents (level ∷ outside)) b o n =
    let inside = subst
    (λ (a : Option Bracket). AreNested a contents
    (level.0 ∷ (all_tokens_of level.1 ++ outside_tokens outside))) o n.0 in
    let close : level.0.token_type ≡ Closing b =
    closes-is b level.0.token_type (ap (λ a. closes a level.0.token_type) (sym o) ∙ n.1.0) in (
      (
        bracketed-nested (innermost heads) head contents (Some level.0)
            (all_tokens_of level.1 ++ outside_tokens outside) b o inside close,
        n.1.1,
      ),
      n.1.2,
    )

some-of : (o : Option Bracket) → is_some o ≡ true → (b : Bracket) × (o ≡ Some b)
some-of None e = cc
some-of (Some b) e = (b, refl)

levels-nested : (heads ts : List Token) → LevelsNested heads (levels_of heads ts)
levels-nested heads [] = rw (levels-end heads) (tt, tt)
levels-nested heads (t ∷ ts) = elim (cases_Bool (is_some (opened_by t.token_type))) [
  | inl o ↦ let b = some-of (opened_by t.token_type) o in
      rw (levels-opening heads t ts o)
      (enclosed-nested heads t (levels_of (t ∷ heads) ts) b.0 b.1 (levels-nested (t ∷ heads) ts))
  | inr o ↦ elim (cases_Bool (closes (innermost heads) t.token_type)) [
    | inl c ↦ rw (levels-closing heads t ts o c)
        (closed-nested heads t (levels_of (drop 1 heads) ts) c (levels-nested (drop 1 heads) ts))
    | inr c ↦ rw (levels-alone heads t ts o c)
        (alone-nested heads t (levels_of heads ts) (none-of (opened_by t.token_type) o) c
        (levels-nested heads ts))
  ]
]

nested-contents : (l : Levels) → LevelsNested [] l
    → (tokens_in l ≡ all_tokens_of (contents_of l)) × AreNested None (contents_of l) []
nested-contents (levels contents []) n = (append-nil (all_tokens_of contents), n.0)
nested-contents (levels contents (level ∷ outside)) n = absurd n.1

-- the computed components are components
pub nesting-is : (tokens : List Token) → IsComponents tokens (nesting tokens)
nesting-is tokens =
    let both = nested-contents (levels_of [] tokens) (levels-nested [] tokens) in
    record { joined = sym both.0 ∙ levels-joined [] tokens; nested = both.1 }

-- ---- components in front of levels

pub followed-nothing : (cs : Components) → followed cs no_components ≡ cs
followed-nothing no_components = refl
followed-nothing (component c cs) = ap (component c) (followed-nothing cs)

pub onto-nothing : (l : Levels) → onto no_components l ≡ l
onto-nothing (levels contents outside) = refl

pub alone-onto : (t : Token) (l : Levels) → alone t l ≡ onto (component (preserved t) no_components) l
alone-onto t (levels contents outside) = refl

pub enclosed-closed : (head t : Token) (contents : Components) (l : Levels)
    → enclosed head (onto contents (closed t l))
    ≡ onto (component (bracketed head contents (Some t)) no_components) l
enclosed-closed head t contents (levels behind outside) = rw (followed-nothing contents) refl

pub enclosed-end : (head : Token) (contents : Components)
    → enclosed head (onto contents (levels no_components []))
    ≡ onto (component (bracketed head contents None) no_components) (levels no_components [])
enclosed-end head contents = rw (followed-nothing contents) refl
