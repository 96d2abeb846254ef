-- The rest of a condition, after a part or a keyword.
use Rattle.std.proofs.Common.{◌≡◌, ap, sym, refl, subst, Bool, true, false, if◌then◌else◌, List, [], ◌∷◌, ◌++◌, codes, Option, Some, None, option_map}
use Rattle.std.proofs.lemmas.Slice.Eq.{bytes_eq-Decides}
use Rattle.std.specs.Option.{option_or}
use Rattle.std.specs.Str.{bytes_eq, str_to_ascii_lowercase}
use Rattle.css_model.specs.Classes.{Text}
use Rattle.conditions_model.specs.ConditionTrees.{ConditionTree, all_of, any_of, ConditionTrees, no_conditions, condition}
use Rattle.conditions_model.specs.ConditionWords.{Word, part, ident, other_word, is_keyword, more_parts, joined_by, condition_of_words}
use Rattle.tri_conditions.specs.Views.{listed}
use Rattle.tri_conditions.specs.declared.drafts.Join.{Join}
use Rattle.tri_conditions.specs.declared.drafts.Join.TheVariants.{And, Or}
use Rattle.tri_conditions.specs.inner.Drafts.{in_front, join_named, joined, joined_with, keyword_of, parts_after}

-- ---- one part more

in_front-more : {Q : Type 0} (front : List (ConditionTree Q)) (c : ConditionTree Q)
    (cs : ConditionTrees Q)
    → in_front (front ++ c ∷ []) cs ≡ in_front front (condition c cs)
in_front-more [] c cs = refl
in_front-more (d ∷ front) c cs = ap (condition d) (in_front-more front c cs)

pub joined_with-more : {Q : Type 0} (join : Join) (front : List (ConditionTree Q))
    (c : ConditionTree Q) (more : Option (ConditionTrees Q))
    → joined_with join (front ++ c ∷ []) more
    ≡ joined_with join front (option_map (condition c) more)
joined_with-more join front c None = refl
joined_with-more join front c (Some cs) = ap (λ ds. Some (joined join ds)) (in_front-more front c cs)

-- ---- no more parts

in_front-all : {Q : Type 0} (front : List (ConditionTree Q))
    → in_front front no_conditions ≡ listed front
in_front-all [] = refl
in_front-all (c ∷ front) = ap (condition c) (in_front-all front)

pub joined_with-all : {Q : Type 0} (join : Join) (front : List (ConditionTree Q))
    → joined_with join front (Some no_conditions) ≡ Some (joined join (listed front))
joined_with-all join front = ap (λ ds. Some (joined join ds)) (in_front-all front)

-- ---- the first keyword

-- `and` is not `or`
and-keyword : (name : Text) → is_keyword (codes "and") name ≡ true
    → is_keyword (codes "or") name ≡ false
and-keyword name e =
    let lower_and : Text = str_to_ascii_lowercase (codes "and") in
    let decides = bytes_eq-Decides (str_to_ascii_lowercase name) lower_and in
    subst (λ x. bytes_eq x (str_to_ascii_lowercase (codes "or")) ≡ false) (sym (decides.0 e)) refl

and-more : {Q : Type 0} (c d : ConditionTree Q) (more : Option (ConditionTrees Q))
    → joined_with And (c ∷ []) (option_map (condition d) more)
    ≡ option_or (option_or None (option_map (joined_by all_of c) (option_map (condition d) more)))
    None
and-more c d None = refl
and-more c d (Some cs) = refl

or-more : {Q : Type 0} (c d : ConditionTree Q) (more : Option (ConditionTrees Q))
    → joined_with Or (c ∷ []) (option_map (condition d) more)
    ≡ option_map (joined_by any_of c) (option_map (condition d) more)
or-more c d None = refl
or-more c d (Some cs) = refl

and-after : {Q : Type 0} (c : ConditionTree Q) (name : Text) → is_keyword (codes "and") name ≡ true
    → (ws : List (Word Q))
    → joined_with And (c ∷ []) (parts_after (codes "and") ws)
    ≡ condition_of_words (part c ∷ ident name ∷ ws)
and-after c name e [] = refl
and-after c name e (ident other ∷ ws) = refl
and-after c name e (other_word ∷ ws) = refl
and-after c name e (part d ∷ ws) =
    rw (e, and-keyword name e) (and-more c d (more_parts (codes "and") ws))

or-after : {Q : Type 0} (c : ConditionTree Q) (name : Text) → is_keyword (codes "and") name ≡ false
    → is_keyword (codes "or") name ≡ true → (ws : List (Word Q))
    → joined_with Or (c ∷ []) (parts_after (codes "or") ws)
    ≡ condition_of_words (part c ∷ ident name ∷ ws)
or-after c name n e [] = refl
or-after c name n e (ident other ∷ ws) = refl
or-after c name n e (other_word ∷ ws) = refl
or-after c name n e (part d ∷ ws) = rw (n, e) (or-more c d (more_parts (codes "or") ws))

named-after : {Q : Type 0} (c : ConditionTree Q) (name : Text) (join : Join) (is_and is_or : Bool)
    → is_keyword (codes "and") name ≡ is_and → is_keyword (codes "or") name ≡ is_or
    → (if is_and then Some And else if is_or then Some Or else None) ≡ Some join
    → (ws : List (Word Q))
    → joined_with join (c ∷ []) (parts_after (keyword_of join) ws)
    ≡ condition_of_words (part c ∷ ident name ∷ ws)
named-after c name And true is_or e f n ws = and-after c name e ws
named-after c name Or true is_or e f n ws = cc
named-after c name And false true e f n ws = cc
named-after c name Or false true e f n ws = or-after c name e f ws
named-after c name join false false e f n ws = cc

-- a part, and then a keyword
pub first-join : {Q : Type 0} (c : ConditionTree Q) (name : Text) (join : Join)
    → join_named name ≡ Some join → (ws : List (Word Q))
    → joined_with join (c ∷ []) (parts_after (keyword_of join) ws)
    ≡ condition_of_words (part c ∷ ident name ∷ ws)
first-join c name join n ws =
    named-after c name join (is_keyword (codes "and") name) (is_keyword (codes "or") name)
    refl refl n ws
