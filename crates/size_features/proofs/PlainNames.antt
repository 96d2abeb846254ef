-- Names in the plain form: a table of all of them.
use Rattle.std.proofs.Common.{◌≡◌, ◌∙◌, ap, refl, ◌&&◌, if◌then◌else◌, List, [], ◌∷◌, ◌++◌, length, take, drop, codes, Option, Some, None, option_map, Bool, true, false, inl, inr}
use Rattle.std.proofs.lemmas.Bool.{cases_Bool}
use Rattle.std.specs.Char.{to_ascii_lowercase}
use Rattle.std.specs.Map.{lookup}
use Rattle.std.specs.Option.{option_or}
use Rattle.std.specs.Prelude.{nat_eq}
use Rattle.css_model.specs.Classes.{Text}
use Rattle.conditions_model.specs.declared.comparison.Comparison.{Comparison}
use Rattle.conditions_model.specs.declared.comparison.Comparison.TheVariants.{AtMost, EqualTo, AtLeast}
use Rattle.conditions_model.specs.declared.feature_name.FeatureName.{FeatureName}
use Rattle.conditions_model.specs.ConditionWords.{is_keyword}
use Rattle.conditions_model.specs.MediaQueries.{media_names}
use Rattle.conditions_model.specs.SizeFeatures.{Names, named, plain_name, with_comparison}
use Rattle.size_features.specs.Views.{names_of}
use Rattle.size_features.specs.declared.names.FeatureNames.{FeatureNames}
use Rattle.size_features.specs.declared.names.FeatureNames.TheVariants.{Media}

abbrev Rows : Type 0
Rows = List (Text × (Comparison × FeatureName))

-- names behind a prefix, with the comparison that it stands for
abbrev pub prefixed : Text → Comparison → Names → Rows
prefixed p comparison [] = []
prefixed p comparison (row ∷ rows) = (p ++ row.0, (comparison, row.1)) ∷ prefixed p comparison rows

keyword-append : (p w name : Text)
    → is_keyword (p ++ w) name
    ≡ is_keyword p (take (length p) name) && is_keyword w (drop (length p) name)
keyword-append [] w name = refl
keyword-append (a ∷ p) w [] = refl
keyword-append (a ∷ p) w (c ∷ name) =
    elim (cases_Bool (nat_eq (to_ascii_lowercase c) (to_ascii_lowercase a))) [
      | inl t ↦ rw t (keyword-append p w name)
      | inr f ↦ rw f refl
    ]

-- what a table of names behind a prefix has
abbrev found : Text → Comparison → Names → Text → Option (Comparison × FeatureName)
found p comparison names name =
    if is_keyword p (take (length p) name)
    then option_map (λ f. (comparison, f)) (named names (drop (length p) name)) else None

lookup-prefixed : (p : Text) (comparison : Comparison) (names : Names) (name : Text)
    → lookup (λ w. is_keyword w name) (prefixed p comparison names) ≡ found p comparison names name
lookup-prefixed p comparison [] name =
    elim (cases_Bool (is_keyword p (take (length p) name))) [
      | inl t ↦ rw t refl
      | inr f ↦ rw f refl
    ]
lookup-prefixed p comparison (row ∷ names) name =
    elim (cases_Bool (is_keyword p (take (length p) name))) [
      | inl t ↦ elim (cases_Bool (is_keyword row.0 (drop (length p) name))) [
        | inl u ↦ rw (keyword-append p row.0 name, t, u) refl
        | inr g ↦ rw (keyword-append p row.0 name, t, g) (lookup-prefixed p comparison names name ∙ rw t refl)
      ]
      | inr f ↦ rw (keyword-append p row.0 name, f) (lookup-prefixed p comparison names name ∙ rw f refl)
    ]

lookup-append : (name : Text) (xs ys : Rows)
    → lookup (λ w. is_keyword w name) (xs ++ ys)
    ≡ option_or (lookup (λ w. is_keyword w name) xs) (lookup (λ w. is_keyword w name) ys)
lookup-append name [] ys = refl
lookup-append name (row ∷ xs) ys = elim (cases_Bool (is_keyword row.0 name)) [
  | inl t ↦ rw t refl
  | inr f ↦ rw f (lookup-append name xs ys)
]

in-order : (plain behind : Option FeatureName) (is_min is_max : Bool)
    → option_or (option_map (λ f. (EqualTo, f)) plain)
    (option_or (if is_min then option_map (λ f. (AtLeast, f)) behind else None)
    (if is_max then option_map (λ f. (AtMost, f)) behind else None))
    ≡ option_or (with_comparison (Some EqualTo) plain)
    (with_comparison (if is_min then Some AtLeast else if is_max then Some AtMost else None) behind)
in-order (Some f) behind is_min is_max = refl
in-order None None true true = refl
in-order None None true false = refl
in-order None None false true = refl
in-order None None false false = refl
in-order None (Some f) true true = refl
in-order None (Some f) true false = refl
in-order None (Some f) false true = refl
in-order None (Some f) false false = refl

-- the table of all names in the plain form
abbrev pub plain_names : Names → Rows
plain_names names =
    prefixed [] EqualTo names
    ++ (prefixed (codes "min-") AtLeast names ++ prefixed (codes "max-") AtMost names)

pub plain-found : (names : Names) (name : Text)
    → lookup (λ w. is_keyword w name) (plain_names names) ≡ plain_name names name
plain-found names name =
    let min_rows : Rows = prefixed (codes "min-") AtLeast names in
    let max_rows : Rows = prefixed (codes "max-") AtMost names in
    lookup-append name (prefixed [] EqualTo names) (min_rows ++ max_rows)
    ∙ (ap (λ x. option_or x (lookup (λ w. is_keyword w name) (min_rows ++ max_rows)))
    (lookup-prefixed [] EqualTo names name)
    ∙ (ap (λ x. option_or (option_map (λ f. (EqualTo, f)) (named names name)) x)
    (lookup-append name min_rows max_rows
    ∙ (ap (λ x. option_or x (lookup (λ w. is_keyword w name) max_rows))
    (lookup-prefixed (codes "min-") AtLeast names name)
    ∙ ap (λ x. option_or (found (codes "min-") AtLeast names name) x)
    (lookup-prefixed (codes "max-") AtMost names name)))
    ∙ in-order (named names name) (named names (drop 4 name))
    (is_keyword (codes "min-") (take 4 name)) (is_keyword (codes "max-") (take 4 name))))

-- the same for names of a kind
pub plain-media : (names : FeatureNames) (name : Text)
    → lookup (λ w. is_keyword w name) (plain_names media_names) ≡ plain_name (names_of names) name
plain-media Media name = plain-found media_names name
