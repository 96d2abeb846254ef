-- Rules of a book, while it is read.
use Rattle.std.specs.Prelude.{◌≡◌, ℕ, ◌≤◌, ◌+◌, List, [], ◌∷◌, ◌++◌, length, Option, option_map}
use Rattle.cascade_model.specs.declared.origin.Origin.{Origin}
use Rattle.cascade_model.specs.Books.{BookRule, in_front_if}
use Rattle.cascade_model.specs.Kept.{kept_declarations}
use Rattle.css_rules.specs.declared.sheet.StyleRule.{StyleRule}
use Rattle.css_rules.specs.Views.{declarations_view}
use Rattle.css_tokens.specs.Nested.{components_view}
use Rattle.selectors_model.specs.Grammar.{selector_list_of}
use Rattle.selectors_model.specs.Selectors.{SelectorList}
use Rattle.cascade_core.specs.Numbers.{AreNumbered}
use Rattle.cascade_core.specs.Views.{rules_view}
use Rattle.cascade_core.specs.inner.Media.{MediaPlaces, media_at}
use Rattle.cascade_core.specs.declared.draft.Draft.{Draft}

abbrev pub draft_view : Draft → List BookRule
draft_view d = rules_view d.rules d.bodies

-- the rules are numbered, and each has a body
pub record IsDraft (d : Draft) : Type 0 where
  pub numbered : AreNumbered d.rules
  pub paired : length d.rules ≡ length d.bodies

-- these rules were added, at most so many
pub record Adds (old new : Draft) (added : List BookRule) (most : ℕ) : Type 0 where
  pub sound : IsDraft new
  pub book : draft_view new ≡ draft_view old ++ added
  pub count : length new.rules ≤ length old.rules + most

-- ---- the rules of a sheet, where these are the media queries up to each of its conditions

abbrev pub rule_with_selectors : Origin → MediaPlaces → StyleRule → SelectorList → BookRule
rule_with_selectors origin places r selectors = record {
  origin = origin;
  selectors = selectors;
  media = media_at places r.around;
  declarations = kept_declarations (declarations_view r.declarations);
}

-- the rule, if its prelude is a selector list
abbrev pub book_rule_of : Origin → MediaPlaces → StyleRule → Option BookRule
book_rule_of origin places r =
    option_map (rule_with_selectors origin places r) (selector_list_of (components_view r.prelude))

abbrev pub book_rules_of : Origin → MediaPlaces → List StyleRule → List BookRule
book_rules_of origin places [] = []
book_rules_of origin places (r ∷ rules) =
    in_front_if (book_rule_of origin places r) (book_rules_of origin places rules)
