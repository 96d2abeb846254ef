-- Brackets that are open while components are made of tokens.
use Rattle.std.specs.Prelude.{◌≡◌, ◌+◌, ◌≤◌, ◌<◌, Result, Ok, Err, ℕ, suc, List, [], ◌∷◌, ◌++◌, length, fold, Option}
use Rattle.css_model.specs.declared.token.Token.{Token}
use Rattle.css_model.specs.declared.token.TheConstants.{MAX_NESTING}
use Rattle.css_model.specs.Components.{Components, no_components, component, depths}
use Rattle.css_model.specs.inner.Nesting.{bracketed, Levels, contents_of, onto, followed, enclosed, levels_of, nesting}
use Rattle.css_tokens.specs.declared.component.Component.{Component}
use Rattle.css_tokens.specs.declared.fault.TokenFault.{TokenFault}
use Rattle.css_tokens.specs.declared.fault.TokenFault.TheVariants as fault
use Rattle.css_tokens.specs.declared.nesting.OpenBracket.{OpenBracket}
use Rattle.css_tokens.specs.declared.nesting.Nesting.{Nesting}
use Rattle.css_tokens.specs.Nested.{components_view}

-- the tokens that opened these brackets, the last one first
abbrev pub heads_of : List OpenBracket → List Token
heads_of open_brackets = fold (λ heads (f : OpenBracket). f.head ∷ heads) [] open_brackets

-- what stands before and in open brackets, where the innermost one goes on with these levels
abbrev pub around : List OpenBracket → Levels → Levels
around [] l = l
around (f ∷ open_brackets) l = onto (components_view f.before) (enclosed f.head (around open_brackets l))

-- all components, where these tokens follow
abbrev pub with_rest : Nesting → List Token → Components
with_rest n rest = contents_of (around n.open_brackets (onto (components_view n.contents) (levels_of (heads_of n.open_brackets) rest)))

-- what stands before each of these brackets is within the limit, where so many brackets are open around them
abbrev pub AreWithin : ℕ → List OpenBracket → Type 0
AreWithin outside [] = Unit {0}
AreWithin outside (f ∷ open_brackets) = (outside + depths (components_view f.before) ≤ MAX_NESTING) × AreWithin (suc outside) open_brackets

-- brackets nest within the limit so far
pub record IsWithin (n : Nesting) : Type 0 where
  pub open_brackets : AreWithin 0 n.open_brackets
  pub contents : length n.open_brackets + depths (components_view n.contents) ≤ MAX_NESTING

-- the innermost bracket ends
pub record Ends (before : Nesting) (close : Option Token) (after : Nesting) : Type 0 where
  pub open_bracket : OpenBracket
  pub open_brackets : before.open_brackets ≡ after.open_brackets ++ open_bracket ∷ []
  pub contents : components_view after.contents
      ≡ followed (components_view open_bracket.before) (component (bracketed open_bracket.head (components_view before.contents) close) no_components)

-- a token was taken up: brackets are still within the limit, and the components are those of what followed before
pub record Takes (before : Nesting) (t : Token) (after : Nesting) : Type 0 where
  pub within : IsWithin before → IsWithin after
  pub rest : (rest : List Token) → with_rest after rest ≡ with_rest before (t ∷ rest)

-- what taking up a token answers, unless memory ran out
abbrev pub Taken : {X : Type 0} → Result X TokenFault → Nesting → Token → Nesting → Type 0
Taken (Ok x) before t after = Takes before t after
Taken (Err fault.TooDeep) before t after = (rest : List Token) → MAX_NESTING < depths (with_rest before (t ∷ rest))
Taken (Err fault.NoMemory) before t after = Unit {0}

-- what is answered for tokens, unless memory ran out
abbrev pub Nests : Result (List Component) TokenFault → List Token → Type 0
Nests (Ok cs) tokens = (components_view cs ≡ nesting tokens) × (depths (components_view cs) ≤ MAX_NESTING)
Nests (Err fault.TooDeep) tokens = MAX_NESTING < depths (nesting tokens)
Nests (Err fault.NoMemory) tokens = Unit {0}
