-- Component values that are read from the front, and their parts.
use Rattle.std.specs.Prelude.{◌≡◌, ℕ, suc, ◌+◌, ◌&&◌, if◌then◌else◌, List, [], ◌∷◌, ◌++◌, fold, take, Option, Some, None, Bool, true, false}
use Rattle.std.specs.Option.{MatchOption}
use Rattle.css_model.specs.Components.{Component, preserved, simple_block, function_block, Components, no_components, component}
use Rattle.css_tokens.specs.declared.component.Component as code
use Rattle.css_tokens.specs.Nested.{component_view, components_view}
use Rattle.rules_model.specs.ComponentLists.{ends_at_rule, is_token, is_semicolon, is_curly_block, are_whitespace}
use Rattle.rules_model.specs.Declarations.{is_important_type, has_important_mark, before_important_mark}
use Rattle.css_rules.specs.declared.ahead.Ahead.{Ahead}
use Rattle.css_rules.specs.declared.ahead.End.{End}
use Rattle.css_rules.specs.declared.ahead.End.TheVariants as end

-- what is left to be read, of which the last item is the next one
abbrev pub stacked : List code.Component → Components
stacked stack = fold (λ cs c. component (component_view c) cs) no_components stack

abbrev pub left_of : Ahead → Components
left_of a = stacked a.stack

-- how many component values these are
abbrev pub count : Components → ℕ
count no_components = 0
count (component c cs) = suc (count cs)

-- how many tokens, blocks and functions these are, with those in blocks and functions
abbrev mutual
  pub size : Component → ℕ
  size (preserved t) = 1
  size (simple_block head contents close) = suc (total contents)
  size (function_block head contents close) = suc (total contents)

  pub total : Components → ℕ
  total no_components = 0
  total (component c cs) = size c + total cs

-- what the next one, if there is one, tells of all that were ahead
abbrev pub IsNext : Option code.Component → Components → Components → Type 0
IsNext o old new =
    MatchOption o ((old ≡ no_components) × (new ≡ no_components))
    (λ c. old ≡ component (component_view c) new)

-- what the last one, if there is one, tells of all
abbrev pub IsLast : Option code.Component → List code.Component → List code.Component → Type 0
IsLast o old new = MatchOption o ((old ≡ []) × (new ≡ [])) (λ c. old ≡ new ++ c ∷ [])

-- one less is ahead, if there was one
abbrev pub Passes : Components → Components → Type 0
Passes old new = (next : Option code.Component) × IsNext next old new

-- one less is in the list, if there was one
abbrev pub DropsLast : List code.Component → List code.Component → Type 0
DropsLast old new = (last : Option code.Component) × IsLast last old new

-- the first one passes
abbrev pub begins_with : (Component → Bool) → Components → Bool
begins_with test no_components = false
begins_with test (component c cs) = test c

-- the last one passes
abbrev pub ends_with : (Component → Bool) → Components → Bool
ends_with test no_components = false
ends_with test (component c no_components) = test c
ends_with test (component c (component d cs)) = ends_with test (component d cs)

-- ---- parts

-- a part ends at this component
abbrev pub ends : End → Component → Bool
ends end.Semicolon c = is_semicolon c
ends end.Block c = is_curly_block c
ends end.AtRule c = ends_at_rule c

-- what is after the first that passes
abbrev pub after : (Component → Bool) → Components → Components
after test no_components = no_components
after test (component c cs) = if test c then cs else after test cs

-- the first that passes
abbrev pub end_of : (Component → Bool) → Components → Option Component
end_of test no_components = None
end_of test (component c cs) = if test c then Some c else end_of test cs

-- ---- `! important`

-- `important`, and then white space
abbrev pub is_word_before_whitespace : Components → Bool
is_word_before_whitespace no_components = false
is_word_before_whitespace (component c cs) = is_token is_important_type c && are_whitespace cs

-- so many are before the mark, if there is one
abbrev pub IsMarkPlace : Option ℕ → List code.Component → Type 0
IsMarkPlace None cs =
    (has_important_mark (components_view cs) ≡ false)
    × (before_important_mark (components_view cs) ≡ components_view cs)
IsMarkPlace (Some place) cs =
    (has_important_mark (components_view cs) ≡ true)
    × (before_important_mark (components_view cs) ≡ components_view (take place cs))
