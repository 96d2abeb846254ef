-- The answers to the conditions of rules (CSS Conditional 3, section 2; Media Queries 4, section 2).
use Rattle.std.specs.Prelude.{List, [], ◌∷◌, map}
use Rattle.page_model.specs.declared.viewport.Viewport.{Viewport}
use Rattle.conditions_model.specs.declared.tri.Tri.{Tri}
use Rattle.conditions_model.specs.declared.tri.Tri.TheVariants.{Yes}
use Rattle.conditions_model.specs.MediaQueries.{MediaQuery, media_matches}
use Rattle.conditions_model.specs.TriTables.{tri, tri_and}
use Rattle.cascade_model.specs.Applied.{MatchedRule}

-- the answer to the media queries around a rule: what stands in several blocks applies where all of
-- them match
abbrev pub answer_to : Viewport → List (List MediaQuery) → Tri
answer_to v [] = Yes
answer_to v (queries ∷ media) = tri_and (tri (media_matches v queries)) (answer_to v media)

-- the answer to the conditions of each rule that matches
abbrev pub answers_to : Viewport → List MatchedRule → List Tri
answers_to v matched = map (λ m. answer_to v m.rule.media) matched
