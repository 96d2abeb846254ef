-- The condition that component values are, for features of any kind (Media Queries 4, section 3).
use Rattle.std.specs.Prelude.{if◌then◌else◌, List, [], ◌∷◌, Option, option_map, Bool, true, false}
use Rattle.std.specs.Option.{unwrap_or}
use Rattle.css_model.specs.declared.token.Bracket.TheVariants.{Round}
use Rattle.css_model.specs.declared.token.TokenType.{TokenType}
use Rattle.css_model.specs.declared.token.TokenType.TheVariants.{Ident, Opening, Whitespace}
use Rattle.css_model.specs.Components.{Component, preserved, simple_block, function_block, Components, no_components, component}
use Rattle.conditions_model.specs.ConditionTrees.{ConditionTree, feature, enclosed}
use Rattle.conditions_model.specs.ConditionWords.{Word, part, ident, other_word, condition_of_words}

-- `(`
abbrev pub is_round_type : TokenType → Bool
is_round_type (Opening Round) = true
is_round_type other = false

-- a preserved token as words; white space is none
abbrev pub token_words : {Q : Type 0} → TokenType → List (Word Q)
token_words (Ident name) = ident name ∷ []
token_words Whitespace = []
token_words other = other_word ∷ []

-- a feature, or else `<general-enclosed>`
abbrev pub feature_or_enclosed : {Q : Type 0} → Option Q → ConditionTree Q
feature_or_enclosed q = unwrap_or (option_map feature q) enclosed

-- `<media-in-parens>`: a condition, a feature, or `<general-enclosed>`
abbrev pub in_parens : {Q : Type 0} → Option (ConditionTree Q) → Option Q → ConditionTree Q
in_parens c q = unwrap_or c (feature_or_enclosed q)

-- the words in front of others
abbrev pub words_before : {Q : Type 0} → List (Word Q) → List (Word Q) → List (Word Q)
words_before [] ws = ws
words_before (v ∷ vs) ws = v ∷ words_before vs ws

-- the words of component values, where `reader` says which of them is which feature; it is asked for
-- functions, and for pairs of round brackets without a condition in them
abbrev mutual
  pub words_of : {Q : Type 0} → (Component → Option Q) → Component → List (Word Q)
  words_of reader (preserved t) = token_words t.token_type
  words_of reader (simple_block head contents close) =
      if is_round_type head.token_type
      then part (in_parens (condition_of_words (all_words_of reader contents)) (reader (simple_block head contents close))) ∷ []
      else other_word ∷ []
  words_of reader (function_block head contents close) =
      part (feature_or_enclosed (reader (function_block head contents close))) ∷ []

  pub all_words_of : {Q : Type 0} → (Component → Option Q) → Components → List (Word Q)
  all_words_of reader no_components = []
  all_words_of reader (component c cs) = words_before (words_of reader c) (all_words_of reader cs)

-- the condition that component values are, if they are one
abbrev pub condition_of : {Q : Type 0} → (Component → Option Q) → Components → Option (ConditionTree Q)
condition_of reader cs = condition_of_words (all_words_of reader cs)
