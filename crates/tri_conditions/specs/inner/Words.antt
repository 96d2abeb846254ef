-- Which words of the definition a component value is.
use Rattle.std.specs.Prelude.{List, [], ◌∷◌}
use Rattle.conditions_model.specs.ConditionWords as model
use Rattle.tri_conditions.specs.Views.{condition_view}
use Rattle.tri_conditions.specs.declared.words.Word.{Word}
use Rattle.tri_conditions.specs.declared.words.Word.TheVariants.{Space, Part, Ident, Other}

-- none, for white space, or one
abbrev pub words_seen : {Q : Type 0} → Word Q → List (model.Word Q)
words_seen Space = []
words_seen (Part c) = model.part (condition_view c) ∷ []
words_seen (Ident name) = model.ident name.now ∷ []
words_seen Other = model.other_word ∷ []
