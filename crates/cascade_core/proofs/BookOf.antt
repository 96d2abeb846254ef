-- The rules of the user agent, and then those of each sheet.
use Rattle.std.proofs.Common.{◌≡◌, ◌∙◌, ap, ap₂, sym, refl, ℕ, ◌+◌, ◌<◌, length, drop, get_or, List, [], ◌∷◌, ◌++◌, map}
use Rattle.std.specs.Prelude.{option_map}
use Rattle.std.proofs.lemmas.List.{append_assoc}
use Rattle.std.specs.Str.{chars}
use Rattle.css_tokens.specs.Nested.{components_view}
use Rattle.rules_model.specs.Rules as rules
use Rattle.rules_model.specs.Sheets.{style_rules_of}
use Rattle.css_rules.specs.Views.{rule_view, sheet_view, condition_lists, declarations_view}
use Rattle.css_rules.specs.declared.sheet.Sheet.{Sheet}
use Rattle.css_rules.specs.declared.sheet.StyleRule.{StyleRule}
use Rattle.selectors_model.specs.Grammar.{selector_list_of}
use Rattle.cascade_model.specs.declared.origin.Origin.{Origin}
use Rattle.cascade_model.specs.declared.origin.Origin.TheVariants.{UserAgent, Author}
use Rattle.cascade_model.specs.declared.user_agent.TheConstants.{USER_AGENT_SHEET}
use Rattle.cascade_model.specs.Books.{BookRule, book_of, book_rules, author_rules, in_front_if, media_among, rule_with}
use Rattle.cascade_model.specs.Kept.{kept_declarations}
use Rattle.cascade_core.specs.declared.draft.Draft.{Draft}
use Rattle.cascade_core.specs.inner.Drafts.{draft_view, book_rule_of, book_rules_of}
use Rattle.cascade_core.specs.inner.Media.{MediaPlaces}
use Rattle.cascade_core.proofs.KeptDeclarations.{from-here}
use Rattle.cascade_core.proofs.MediaPlaces.{among-at}

-- a rule with the media queries up to its condition
rule-seen : (origin : Origin) (lists : List (List rules.Condition)) (r : StyleRule)
    → book_rule_of origin (map media_among lists) r
    ≡ option_map (rule_with origin (rule_view lists r)) (selector_list_of (components_view r.prelude))
rule-seen origin lists r =
    ap (λ media. option_map (λ selectors. record {
      origin = origin;
      selectors = selectors;
      media = media;
      declarations = kept_declarations (declarations_view r.declarations);
    }) (selector_list_of (components_view r.prelude))) (among-at lists r.around)

rules-seen : (origin : Origin) (lists : List (List rules.Condition)) (found : List StyleRule)
    → book_rules_of origin (map media_among lists) found ≡ book_rules origin (map (rule_view lists) found)
rules-seen origin lists [] = refl
rules-seen origin lists (r ∷ found) = ap₂ in_front_if (rule-seen origin lists r) (rules-seen origin lists found)

-- the rules of a sheet
pub sheet-seen : (origin : Origin) (s : Sheet) (places : MediaPlaces)
    → places ≡ map media_among (condition_lists s.conditions)
    → book_rules_of origin places s.rules ≡ book_rules origin (sheet_view s)
sheet-seen origin s places are =
    ap (λ m. book_rules_of origin m s.rules) are ∙ rules-seen origin (condition_lists s.conditions) s.rules

-- the rules of the user agent were added
pub user_agent-first : (old new : Draft) (ua : Sheet) (sheets : List Sheet) → draft_view old ≡ []
    → sheet_view ua ≡ style_rules_of (chars USER_AGENT_SHEET.now)
    → draft_view new ≡ draft_view old ++ book_rules UserAgent (sheet_view ua)
    → book_of (map sheet_view sheets) ≡ draft_view new ++ author_rules (map sheet_view sheets)
user_agent-first old new ua sheets empty read added =
    let seen : draft_view new ≡ book_rules UserAgent (style_rules_of (chars USER_AGENT_SHEET.now)) =
    added
    ∙ (ap (λ l. l ++ book_rules UserAgent (sheet_view ua)) empty ∙ ap (book_rules UserAgent) read) in
    sym (ap (λ l. l ++ author_rules (map sheet_view sheets)) seen)

-- the rules of one sheet more were
pub sheet-next : (old new : Draft) (sheets : List Sheet) (i : ℕ) (s : Sheet) → i < length sheets
    → s ≡ get_or sheets i s → draft_view new ≡ draft_view old ++ book_rules Author (sheet_view s)
    → draft_view old ++ author_rules (map sheet_view (drop i sheets))
    ≡ draft_view new ++ author_rules (map sheet_view (drop (i + 1) sheets))
sheet-next old new sheets i s within is added =
    let rest : List BookRule = author_rules (map sheet_view (drop (i + 1) sheets)) in
    ap (λ l. draft_view old ++ author_rules (map sheet_view l)) (from-here sheets i s within is)
    ∙ (sym (append_assoc (draft_view old) (book_rules Author (sheet_view s)) rest)
    ∙ ap (λ l. l ++ rest) (sym added))
