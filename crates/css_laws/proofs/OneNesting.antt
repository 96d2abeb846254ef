-- Tokens have no other component values than the computed ones.
use Rattle.std.proofs.Common.{◌≡◌, ◌∙◌, sym, ap, refl, subst, List, [], ◌∷◌, ◌++◌, Option, Some, None, true, false, append_assoc, append-nil}
use Rattle.std.specs.Option.{is_some}
use Rattle.css_model.specs.declared.token.Bracket.{Bracket}
use Rattle.css_model.specs.declared.token.Bracket.TheVariants.{Round, Square, Curly}
use Rattle.css_model.specs.declared.token.Token.{Token}
use Rattle.css_model.specs.Components.{Component, preserved, simple_block, function_block, Components, no_components, component, tokens_of, all_tokens_of, close_tokens, opened_by, is_same_bracket, closes, IsClosed, IsNested, AreNested, IsComponents}
use Rattle.css_model.specs.inner.Nesting.{bracketed, innermost, Levels, levels, contents_of, enclosed, levels_of, nesting, onto}
use Rattle.css_model.proofs.Nesting.{levels-opening, levels-closing, levels-alone, levels-end, bracketed-function_block, bracketed-simple_block, followed-nothing, onto-nothing, alone-onto, enclosed-closed, enclosed-end}

is_same_bracket-refl : (b : Bracket) → is_same_bracket b b ≡ true
is_same_bracket-refl Round = refl
is_same_bracket-refl Square = refl
is_same_bracket-refl Curly = refl

onto-onto : (c : Component) (cs : Components) (l : Levels)
    → onto (component c no_components) (onto cs l) ≡ onto (component c cs) l
onto-onto c cs (levels contents outside) = refl

-- the end of a bracket
enclosed-close : (heads : List Token) (head : Token) (contents : Components) (close : Option
    Token) (behind : List Token) (b : Bracket) → opened_by head.token_type ≡ Some b
    → IsClosed b close behind
    → enclosed head (onto contents (levels_of (head ∷ heads) (close_tokens close ++ behind)))
    ≡ onto (component (bracketed head contents close) no_components) (levels_of heads behind)
enclosed-close heads head contents None behind b o c =
    rw (c, levels-end (head ∷ heads), levels-end heads) (enclosed-end head contents)
enclosed-close heads head contents (Some t) behind b o c =
    let alone : is_some (opened_by t.token_type) ≡ false = rw c refl in
    let match : closes (innermost (head ∷ heads)) t.token_type ≡ true =
    rw (o, c) (is_same_bracket-refl b) in
    rw (levels-closing (head ∷ heads) t behind alone match)
    (enclosed-closed head t contents (levels_of heads behind))

-- a bracket, with its contents and its end
levels-bracket : (heads : List Token) (head : Token) (contents : Components) (close : Option
    Token) (behind : List Token) (b : Bracket) → opened_by head.token_type ≡ Some b
    → IsClosed b close behind
    → levels_of (head ∷ heads) (all_tokens_of contents ++ (close_tokens close ++ behind))
    ≡ onto contents (levels_of (head ∷ heads) (close_tokens close ++ behind))
    → levels_of heads (head ∷ ((all_tokens_of contents ++ close_tokens close) ++ behind))
    ≡ onto (component (bracketed head contents close) no_components) (levels_of heads behind)
levels-bracket heads head contents close behind b o c inside =
    let opens : is_some (opened_by head.token_type) ≡ true = rw o refl in
    rw (
      append_assoc,
      levels-opening heads head (all_tokens_of contents ++ (close_tokens close ++ behind)) opens,
      inside,
    )
    (enclosed-close heads head contents close behind b o c)

mutual
  levels-component : (heads : List Token) (c : Component) (behind : List Token)
      → IsNested (innermost heads) c behind
      → levels_of heads (tokens_of c ++ behind) ≡ onto (component c no_components) (levels_of heads behind)
  levels-component heads (preserved t) behind n =
      let alone : is_some (opened_by t.token_type) ≡ false = rw n.0 refl in
      levels-alone heads t behind alone n.1 ∙ alone-onto t (levels_of heads behind)
  levels-component heads (simple_block head contents close) behind n =
      let opened : opened_by head.token_type ≡ Some n.0 = rw n.1 refl in
      let nested = subst (λ (a : Option Bracket). AreNested a contents (close_tokens close ++ behind))
      (sym opened) n.2 in
      let inside = levels-components (head ∷ heads) contents (close_tokens close ++ behind) nested in
      levels-bracket heads head contents close behind n.0 opened n.3 inside
      ∙ ap (λ c. onto (component c no_components) (levels_of heads behind))
      (bracketed-simple_block head contents close n.0 n.1)
  levels-component heads (function_block head contents close) behind n =
      let opened : opened_by head.token_type ≡ Some Round = rw n.1 refl in
      let nested = subst (λ (a : Option Bracket). AreNested a contents (close_tokens close ++ behind))
      (sym opened) n.2 in
      let inside = levels-components (head ∷ heads) contents (close_tokens close ++ behind) nested in
      levels-bracket heads head contents close behind Round opened n.3 inside
      ∙ ap (λ c. onto (component c no_components) (levels_of heads behind))
      (bracketed-function_block head contents close n.0 n.1)

  levels-components : (heads : List Token) (cs : Components) (behind : List Token)
      → AreNested (innermost heads) cs behind
      → levels_of heads (all_tokens_of cs ++ behind) ≡ onto cs (levels_of heads behind)
  levels-components heads no_components behind n = sym (onto-nothing (levels_of heads behind))
  levels-components heads (component c cs) behind n =
      let first = levels-component heads c (all_tokens_of cs ++ behind) n.0 in
      let others = levels-components heads cs behind n.1 in
      rw append_assoc (first
      ∙ (ap (onto (component c no_components)) others ∙ onto-onto c cs (levels_of heads behind)))

-- components of tokens are the computed ones
pub components-are : (tokens : List Token) (cs : Components) → IsComponents tokens cs → cs ≡ nesting tokens
components-are tokens cs is =
    let all : levels_of [] (all_tokens_of cs ++ []) ≡ onto cs (levels_of [] []) =
    levels-components [] cs [] is.nested in
    let joined : all_tokens_of cs ++ [] ≡ tokens = append-nil (all_tokens_of cs) ∙ is.joined in
    let end : onto cs (levels_of [] []) ≡ levels cs [] = rw (levels-end [], followed-nothing cs) refl in
    sym (ap contents_of (ap (levels_of []) (sym joined) ∙ (all ∙ end)))

pub one-nesting : (tokens : List Token) (cs ds : Components) → IsComponents tokens cs
    → IsComponents tokens ds → cs ≡ ds
one-nesting tokens cs ds c d = components-are tokens cs c ∙ sym (components-are tokens ds d)
