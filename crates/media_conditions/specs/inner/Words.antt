-- The words of media queries.
use Rattle.std.specs.Prelude.{◌≡◌, List, [], ◌∷◌, codes, Bool, true, false, IsTrue, Option, Some, None}
use Rattle.css_model.specs.Classes.{Text}
use Rattle.css_model.specs.Components.{Component, Components}
use Rattle.css_tokens.specs.Nested.{components_view}
use Rattle.conditions_model.specs.ConditionTrees.{ConditionTree}
use Rattle.conditions_model.specs.ConditionWords.{Word, part, ident, other_word, is_keyword}
use Rattle.conditions_model.specs.Conditions.{words_of, all_words_of}
use Rattle.conditions_model.specs.MediaQueries.{media_names}
use Rattle.conditions_model.specs.SizeFeatures.{SizeFeature, size_feature}
use Rattle.tri_conditions.specs.Views.{condition_view}
use Rattle.media_conditions.specs.declared.typed.AfterType.{AfterType}
use Rattle.media_conditions.specs.declared.typed.AfterType.TheVariants.{Alone, Also, Invalid}
use Rattle.media_conditions.specs.declared.words.Front.{Front}
use Rattle.media_conditions.specs.declared.words.Front.TheVariants.{Nothing, Name, Another}
use Rattle.media_conditions.specs.declared.words.Kind.{Kind}
use Rattle.media_conditions.specs.declared.words.Kind.TheVariants.{Space, Ident, Other}

abbrev pub MediaWord : Type 0
MediaWord = Word SizeFeature

-- the words of a component value
abbrev pub media_words_of : Component → List MediaWord
media_words_of c = words_of (size_feature media_names) c

-- the words of component values
abbrev pub media_words : Components → List MediaWord
media_words cs = all_words_of (size_feature media_names) cs

-- ---- a word

-- one word, and no identifier
abbrev pub is_one_other : List MediaWord → Bool
is_one_other (part c ∷ []) = true
is_one_other (other_word ∷ []) = true
is_one_other other = false

-- the words of a component value are of this kind
abbrev pub IsKind : Kind → List MediaWord → Type 0
IsKind Space ws = ws ≡ []
IsKind (Ident name) ws = ws ≡ ident name.now ∷ []
IsKind Other ws = IsTrue (is_one_other ws)

-- ---- the first word

pub data FirstWord : Type 0 where
  no_word : FirstWord
  first_name : Text → List MediaWord → FirstWord
  another_word : FirstWord

-- the first word, and the ones after it if it is an identifier
abbrev pub first_of : List MediaWord → FirstWord
first_of [] = no_word
first_of (ident name ∷ ws) = first_name name ws
first_of (w ∷ ws) = another_word

abbrev pub front_view : Front → FirstWord
front_view Nothing = no_word
front_view (Name name rest) = first_name name.now (media_words (components_view rest.now))
front_view Another = another_word

-- ---- `or`

abbrev pub is_or : MediaWord → Bool
is_or (ident name) = is_keyword (codes "or") name
is_or other = false

-- ---- after a type

-- nothing, a condition, or what is neither
abbrev pub after_view : AfterType → Option (Option (ConditionTree SizeFeature))
after_view Alone = Some None
after_view (Also c) = Some (Some (condition_view c))
after_view Invalid = None
