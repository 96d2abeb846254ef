-- Component values without the white space between them, and tables by names.
use Rattle.std.specs.Prelude.{List, [], ◌∷◌, Option, Some, None}
use Rattle.css_model.specs.Components.{Component as ModelComponent}
use Rattle.css_tokens.specs.Nested.{component_view, components_view}
use Rattle.value_model.specs.Words.{words_of}
use Rattle.value_parts.specs.declared.words.FirstWord.{FirstWord}

-- the component values of a first one and what is after it, without white space
abbrev pub words_seen : Option FirstWord → List ModelComponent
words_seen None = []
words_seen (Some f) = component_view f.word.now ∷ words_of (components_view f.rest.now)
