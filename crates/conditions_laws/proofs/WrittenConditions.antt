-- What words are a condition.
use Rattle.std.proofs.Common.{◌≡◌, ◌∙◌, sym, refl, subst, inl, inr, Bool, true, false, if◌then◌else◌, List, [], ◌∷◌, codes, Option, Some, None, option_map}
use Rattle.std.proofs.lemmas.Slice.Eq.{bytes_eq-Decides}
use Rattle.std.specs.Str.{bytes_eq, str_to_ascii_lowercase}
use Rattle.std.specs.Option.{option_or}
use Rattle.css_model.specs.Classes.{Text}
use Rattle.conditions_model.specs.ConditionTrees.{ConditionTree, negation, all_of, any_of, ConditionTrees, no_conditions, condition}
use Rattle.conditions_model.specs.ConditionWords.{Word, part, ident, other_word, is_keyword, more_parts, joined_by, condition_of_words}
use Rattle.conditions_laws.specs.Spelled.{AreJoined, IsNegation, IsCondition}

-- ---- parts after one another

pub more-joined : {Q : Type 0} (keyword : Text) (ws : List (Word Q)) (cs : ConditionTrees Q)
    → AreJoined keyword ws cs → more_parts keyword ws ≡ Some cs
more-joined keyword [] no_conditions j = refl
more-joined keyword [] (condition d ds) j = absurd j
more-joined keyword (part c ∷ ws) cs j = absurd j
more-joined keyword (other_word ∷ ws) cs j = absurd j
more-joined keyword (ident name ∷ []) cs j = absurd j
more-joined keyword (ident name ∷ ident other ∷ ws) cs j = absurd j
more-joined keyword (ident name ∷ other_word ∷ ws) cs j = absurd j
more-joined keyword (ident name ∷ part c ∷ ws) no_conditions j = absurd j
more-joined keyword (ident name ∷ part c ∷ ws) (condition d ds) j =
    rw (j.0, j.1, more-joined keyword ws ds j.2) refl

more-step : {Q : Type 0} (keyword name : Text) (c : ConditionTree Q) (ws : List (Word Q)) (cs : ConditionTrees Q)
    (b : Bool) (o : Option (ConditionTrees Q)) → is_keyword keyword name ≡ b → more_parts keyword ws ≡ o
    → ((ds : ConditionTrees Q) → more_parts keyword ws ≡ Some ds → AreJoined keyword ws ds)
    → (if b then option_map (condition c) o else None) ≡ Some cs → AreJoined keyword (ident name ∷ part c ∷ ws) cs
more-step keyword name c ws cs false o k m h e = cc
more-step keyword name c ws cs true None k m h e = cc
more-step keyword name c ws no_conditions true (Some ds) k m h e = cc
more-step keyword name c ws (condition d es) true (Some ds) k m h e =
    let same : ds ≡ es = cc in
    let first : c ≡ d = cc in
    (k, first, subst (AreJoined keyword ws) same (h ds m))

pub more-read : {Q : Type 0} (keyword : Text) (ws : List (Word Q)) (cs : ConditionTrees Q)
    → more_parts keyword ws ≡ Some cs → AreJoined keyword ws cs
more-read keyword [] no_conditions e = tt
more-read keyword [] (condition d ds) e = cc
more-read keyword (part c ∷ ws) cs e = cc
more-read keyword (other_word ∷ ws) cs e = cc
more-read keyword (ident name ∷ []) cs e = cc
more-read keyword (ident name ∷ ident other ∷ ws) cs e = cc
more-read keyword (ident name ∷ other_word ∷ ws) cs e = cc
more-read keyword (ident name ∷ part c ∷ ws) cs e =
    more-step keyword name c ws cs (is_keyword keyword name) (more_parts keyword ws) refl refl (more-read keyword ws) e

none-left : {Q : Type 0} (keyword : Text) (ws : List (Word Q)) → AreJoined keyword ws no_conditions → ws ≡ []
none-left keyword [] j = refl
none-left keyword (part c ∷ ws) j = absurd j
none-left keyword (other_word ∷ ws) j = absurd j
none-left keyword (ident name ∷ []) j = absurd j
none-left keyword (ident name ∷ ident other ∷ ws) j = absurd j
none-left keyword (ident name ∷ other_word ∷ ws) j = absurd j
none-left keyword (ident name ∷ part c ∷ ws) j = absurd j

-- ---- `or` is not `and`

or-keyword : (name : Text) → is_keyword (codes "or") name ≡ true → is_keyword (codes "and") name ≡ false
or-keyword name e =
    let decides = bytes_eq-Decides (str_to_ascii_lowercase name) (str_to_ascii_lowercase (codes "or")) in
    subst (λ x. bytes_eq x (str_to_ascii_lowercase (codes "and")) ≡ false) (sym (decides.0 e)) refl

or-refused : {Q : Type 0} (ws : List (Word Q)) (d : ConditionTree Q) (ds : ConditionTrees Q)
    → AreJoined (codes "or") ws (condition d ds) → more_parts (codes "and") ws ≡ None
or-refused [] d ds j = absurd j
or-refused (part c ∷ ws) d ds j = absurd j
or-refused (other_word ∷ ws) d ds j = absurd j
or-refused (ident name ∷ []) d ds j = absurd j
or-refused (ident name ∷ ident other ∷ ws) d ds j = absurd j
or-refused (ident name ∷ other_word ∷ ws) d ds j = absurd j
or-refused (ident name ∷ part c ∷ ws) d ds j = rw (or-keyword name j.0) refl

-- ---- what is spelled so is read

pub spelled-read : {Q : Type 0} (ws : List (Word Q)) (c : ConditionTree Q) → IsCondition ws c → condition_of_words ws ≡ Some c
spelled-read ws c (inl e) = rw e refl
spelled-read ws c (inr (inl n)) = rw (n.joined, n.is_not, n.is_negation) refl
spelled-read ws c (inr (inr (inl j))) =
    rw (j.joined, more-joined (codes "and") j.rest (condition j.second j.others) j.are_joined, j.is_joined) refl
spelled-read ws c (inr (inr (inr j))) =
    rw (
      j.joined,
      or-refused j.rest j.second j.others j.are_joined,
      more-joined (codes "or") j.rest (condition j.second j.others) j.are_joined,
      j.is_joined,
    ) refl

-- ---- what is read is spelled so

not-read : {Q : Type 0} (name : Text) (d c : ConditionTree Q) (b : Bool) → is_keyword (codes "not") name ≡ b
    → option_or (option_or (if b then Some (negation d) else None) None) None ≡ Some c
    → IsNegation (ident name ∷ part d ∷ []) c
not-read name d c false k e = cc
not-read name d c true k e = record { name = name; negated = d; joined = refl; is_not = k; is_negation = cc }

part-read : {Q : Type 0} (d c : ConditionTree Q) (ws : List (Word Q)) (a o : Option (ConditionTrees Q))
    → more_parts (codes "and") ws ≡ a → more_parts (codes "or") ws ≡ o
    → option_or (option_or None (option_map (joined_by all_of d) a)) (option_map (joined_by any_of d) o) ≡ Some c
    → IsCondition (part d ∷ ws) c
part-read d c ws (Some no_conditions) o m n e =
    let ends : ws ≡ [] = none-left (codes "and") ws (more-read (codes "and") ws no_conditions m) in
    let same : d ≡ c = cc in
    inl (rw (ends, same) refl)
part-read d c ws (Some (condition x xs)) o m n e = inr (inr (inl (record {
  first = d;
  second = x;
  others = xs;
  rest = ws;
  joined = refl;
  are_joined = more-read (codes "and") ws (condition x xs) m;
  is_joined = cc;
})))
part-read d c ws None None m n e = cc
part-read d c ws None (Some no_conditions) m n e =
    let ends : ws ≡ [] = none-left (codes "or") ws (more-read (codes "or") ws no_conditions n) in
    let same : d ≡ c = cc in
    inl (rw (ends, same) refl)
part-read d c ws None (Some (condition x xs)) m n e = inr (inr (inr (record {
  first = d;
  second = x;
  others = xs;
  rest = ws;
  joined = refl;
  are_joined = more-read (codes "or") ws (condition x xs) n;
  is_joined = cc;
})))

pub read-spelled : {Q : Type 0} (ws : List (Word Q)) (c : ConditionTree Q) → condition_of_words ws ≡ Some c → IsCondition ws c
read-spelled [] c e = cc
read-spelled (other_word ∷ ws) c e = cc
read-spelled (ident name ∷ []) c e = cc
read-spelled (ident name ∷ ident other ∷ ws) c e = cc
read-spelled (ident name ∷ other_word ∷ ws) c e = cc
read-spelled (ident name ∷ part d ∷ w ∷ ws) c e = cc
read-spelled (ident name ∷ part d ∷ []) c e =
    inr (inl (not-read name d c (is_keyword (codes "not") name) refl e))
read-spelled (part d ∷ ws) c e =
    part-read d c ws (more_parts (codes "and") ws) (more_parts (codes "or") ws) refl refl e

pub one-condition : {Q : Type 0} (ws : List (Word Q)) (c d : ConditionTree Q) → IsCondition ws c → IsCondition ws d → c ≡ d
one-condition ws c d h k =
    let same : Some c ≡ Some d = sym (spelled-read ws c h) ∙ spelled-read ws d k in
    cc
