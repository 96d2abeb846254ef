-- Rules that are found one after another.
use Rattle.std.proofs.Common.{◌≡◌, ◌∙◌, ap, sym, refl, subst, inl, inr, ℕ, ◌≤◌, ◌+◌, List, [], ◌∷◌, ◌++◌, Option, Some, None, Bool, true, false, length, map, get_or, arith, append-nil, append_assoc, option_map, option_and_then, unwrap_or, Result, Ok, Err, OnOk}
use Rattle.std.proofs.lemmas.Bool.{cases_Bool}
use Rattle.std.proofs.lemmas.List.{length-map, map-append, length-append, get_or_append_left}
use Rattle.std.proofs.lemmas.List.Sums.{fold_push}
use Rattle.std.proofs.Math.Seq.{get_or-append_seam}
use Rattle.std.specs.Prelude.{fold}
use Rattle.std.specs.Option.{is_some}
use Rattle.css_model.specs.Components.{Component, preserved, simple_block, function_block, Components, no_components, component}
use Rattle.css_tokens.specs.Nested.{components_view}
use Rattle.rules_model.specs.declared.conditional_rule.ConditionalRule.{ConditionalRule}
use Rattle.rules_model.specs.ComponentLists.{ends_at_rule, is_whitespace, at_keyword_of, is_curly_block, contents_of, before, trimmed, without_front_whitespace, without_end_whitespace}
use Rattle.rules_model.specs.Declarations.{declarations_of}
use Rattle.rules_model.specs.Rules as model
use Rattle.rules_model.specs.Rules.{Condition, condition_of, conditions_inside, conditional_rule_of, is_top_level, is_between_rules, style_rule, rules_in, rules_from_at_rule, rules_in_block, rules_from_prelude, rules_of}
use Rattle.rules_model.specs.Sheets.{components_of, style_rules_of}
use Rattle.css_model.specs.Classes.{Text}
use Rattle.css_rules.specs.declared.rules.Found.{Found}
use Rattle.css_rules.specs.declared.sheet.Condition as code_condition
use Rattle.css_rules.specs.declared.sheet.StyleRule.{StyleRule}
use Rattle.css_rules.specs.Views.{declarations_view, condition_view, conditions_at, with_condition, condition_lists, rule_view}
use Rattle.css_rules.specs.inner.Found.{around_of, rules_found, IsPlace, ArePlaces, IsInside, Adds, Takes, conditions_with, block_rules, qualified_rules, rule_of}
use Rattle.css_rules.specs.inner.Reading.{size, total, after, end_of}
use Rattle.css_rules.proofs.Parts.{front-before, front-after, front-end, white-semicolon}

-- ---- places

pub place-more : (n m : ℕ) (place : Option ℕ) → n ≤ m → IsPlace n place → IsPlace m place
place-more n m None h p = tt
place-more n m (Some place) h p = omega (arith, h, p)

places-more : (n m : ℕ) (rules : List StyleRule) → n ≤ m → ArePlaces n rules → ArePlaces m rules
places-more n m [] h p = tt
places-more n m (r ∷ rules) h p = (place-more n m r.around h p.0, places-more n m rules h p.1)

places-push : (n : ℕ) (rules : List StyleRule) (r : StyleRule) → ArePlaces n rules
    → IsPlace n r.around → ArePlaces n (rules ++ r ∷ [])
places-push n [] r p q = (q, tt)
places-push n (s ∷ rules) r p q = (p.0, places-push n rules r p.1 q)

-- ---- what is found, one after another

pub adds-none : (f : Found) (around : Option ℕ) → IsInside f around → Adds f f []
adds-none f around i = record {
  more = omega arith;
  places = i.places;
  same = λ place p. refl;
  rules = sym (append-nil (rules_found f));
}

pub adds-adds : (f g h : Found) (xs ys : List model.StyleRule) → Adds f g xs → Adds g h ys
    → Adds f h (xs ++ ys)
adds-adds f g h xs ys a b = record {
  more = omega (arith, a.more, b.more);
  places = b.places;
  same = λ place p. b.same place
      (place-more (length f.conditions) (length g.conditions) place a.more p) ∙ a.same place p;
  rules = b.rules ∙ (ap (λ rs. rs ++ ys) a.rules ∙ append_assoc (rules_found f) xs ys);
}

pub inside-kept : (f g : Found) (xs : List model.StyleRule) (around : Option ℕ) → Adds f g xs
    → IsInside f around → IsInside g around
inside-kept f g xs around a i = record {
  places = a.places;
  place = place-more (length f.conditions) (length g.conditions) around a.more i.place;
  top = ap is_top_level (a.same around i.place) ∙ i.top;
}

-- ---- one more condition, and one more rule

lists-length : (lists : List (List Condition)) (cs : List code_condition.Condition)
    → length (fold with_condition lists cs) ≡ length lists + length cs
lists-length lists [] = omega arith
lists-length lists (c ∷ cs) =
    let one : length (with_condition lists c) ≡ length lists + 1 =
    length-append lists ((conditions_at lists c.around ++ (condition_view c ∷ [])) ∷ []) in
    omega (arith, lists-length (with_condition lists c) cs, one)

at-kept : (lists : List (List Condition)) (l : List Condition) (place : Option ℕ)
    → IsPlace (length lists) place
    → conditions_at (lists ++ l ∷ []) place ≡ conditions_at lists place
at-kept lists l None p = refl
at-kept lists l (Some place) p = get_or_append_left lists (l ∷ []) [] place p

at-last : (lists : List (List Condition)) (l : List Condition) (n : ℕ) → n ≡ length lists
    → conditions_at (lists ++ l ∷ []) (Some n) ≡ l
at-last lists l n e = ap (λ k. get_or (lists ++ l ∷ []) k []) e ∙ get_or-append_seam lists l [] []

views-same : (n : ℕ) (these those : List (List Condition)) (rules : List StyleRule)
    → ArePlaces n rules
    → ((place : Option ℕ) → IsPlace n place → conditions_at these place ≡ conditions_at those place)
    → map (rule_view these) rules ≡ map (rule_view those) rules
views-same n these those [] p same = refl
views-same n these those (r ∷ rules) p same =
    let first : rule_view these r ≡ rule_view those r = rw (same r.around p.0) refl in
    let rest : map (rule_view these) rules ≡ map (rule_view those) rules =
    views-same n these those rules p.1 same in
    λ j. first j ∷ rest j

-- the state after one more condition
pub record Pushed (f g : Found) (c : code_condition.Condition) : Type 0 where
  pub adds : Adds f g []
  pub inside : IsInside g (Some (length f.conditions))
  pub around : around_of g (Some (length f.conditions))
      ≡ around_of f c.around ++ (condition_view c ∷ [])

not-top : (cs : List Condition) (c : Condition) → is_top_level (cs ++ (c ∷ [])) ≡ false
not-top [] c = refl
not-top (d ∷ cs) c = refl

pub condition-pushed : (f g : Found) (c : code_condition.Condition) → IsInside f c.around
    → g.conditions ≡ f.conditions ++ c ∷ [] → g.rules ≡ f.rules → Pushed f g c
condition-pushed f g c i e r =
    let lists : List (List Condition) = condition_lists f.conditions in
    let l : List Condition = conditions_at lists c.around ++ (condition_view c ∷ []) in
    let more : length g.conditions ≡ length f.conditions + 1 =
    ap length e ∙ length-append f.conditions (c ∷ []) in
    let all : condition_lists g.conditions ≡ lists ++ l ∷ [] =
    ap condition_lists e ∙ fold_push with_condition [] f.conditions c in
    let count : length lists ≡ length f.conditions = omega (arith, lists-length [] f.conditions) in
    let same : (place : Option ℕ) → IsPlace (length f.conditions) place
    → around_of g place ≡ around_of f place =
    λ place p. ap (λ ls. conditions_at ls place) all
    ∙ at-kept lists l place (subst (λ n. IsPlace n place) (sym count) p) in
    let last : around_of g (Some (length f.conditions)) ≡ l =
    ap (λ ls. conditions_at ls (Some (length f.conditions))) all
    ∙ at-last lists l (length f.conditions) (sym count) in
    let places : ArePlaces (length g.conditions) g.rules =
    subst (ArePlaces (length g.conditions)) (sym r)
    (places-more (length f.conditions) (length g.conditions) f.rules (omega (arith, more))
    i.places) in
    record {
      adds = record {
        more = omega (arith, more);
        places = places;
        same = same;
        rules = ap (map (rule_view (condition_lists g.conditions))) r
            ∙ (views-same (length f.conditions) (condition_lists g.conditions) lists f.rules
            i.places same ∙ sym (append-nil (rules_found f)));
      };
      inside = record {
        places = places;
        place = omega (arith, more);
        top = ap is_top_level last ∙ not-top (conditions_at lists c.around) (condition_view c);
      };
      around = last;
    }

pub rule-pushed : (f g : Found) (r : StyleRule) → IsInside f r.around
    → g.conditions ≡ f.conditions → g.rules ≡ f.rules ++ r ∷ []
    → Adds f g (rule_view (condition_lists f.conditions) r ∷ [])
rule-pushed f g r i e rs = record {
  more = omega (arith, ap length e);
  places = rw (e, rs) (places-push (length f.conditions) f.rules r i.places i.place);
  same = λ place p. ap (λ cs. conditions_at (condition_lists cs) place) e;
  rules = rw (e, rs) (map-append (rule_view (condition_lists f.conditions)) f.rules (r ∷ []));
}

-- ---- lists of rules

-- the rules from the front of all were found, and these are left
pub record Reads (old new : Found) (around : List Condition) (all rest : Components) : Type 0 where
  pub added : List model.StyleRule
  pub adds : Adds old new added
  pub joined : rules_in around all ≡ added ++ rules_in around rest
  pub less : total rest ≤ total all

pub reads-start : (f : Found) (place : Option ℕ) (around : List Condition) (all rest : Components)
    → IsInside f place → rest ≡ all → Reads f f around all rest
reads-start f place around all rest i e = record {
  added = [];
  adds = adds-none f place i;
  joined = ap (rules_in around) (sym e);
  less = rw e (omega arith);
}

pub reads-takes : (f g h : Found) (place : Option ℕ) (whole all rest : Components)
    → IsInside f place
    → Reads f g (around_of f place) whole all → Takes g h (around_of g place) all rest
    → Reads f h (around_of f place) whole rest
reads-takes f g h place whole all rest i r t =
    let same : around_of g place ≡ around_of f place = r.adds.same place i.place in
    let next : rules_in (around_of f place) all ≡ t.added ++ rules_in (around_of f place) rest =
    subst (λ (a : List Condition). rules_in a all ≡ t.added ++ rules_in a rest) same t.joined in
    record {
      added = r.added ++ t.added;
      adds = adds-adds f g h r.added t.added r.adds t.adds;
      joined = r.joined ∙ (ap (λ rs. r.added ++ rs) next
          ∙ sym (append_assoc r.added t.added (rules_in (around_of f place) rest)));
      less = omega (arith, r.less, t.less);
    }

pub reads-all : (f g : Found) (around : List Condition) (all rest : Components)
    → rest ≡ no_components → Reads f g around all rest
    → Adds f g (rules_in around all)
reads-all f g around all rest e r =
    let is : rules_in around all ≡ r.added =
    r.joined ∙ (ap (λ cs. r.added ++ rules_in around cs) e ∙ append-nil r.added) in
    subst (Adds f g) (sym is) r.adds

-- ---- the front of a list of rules

pub size-some : (c : Component) → 1 ≤ size c
size-some (preserved t) = omega arith
size-some (simple_block head contents close) = omega arith
size-some (function_block head contents close) = omega arith

total-after : (test : Component → Bool) (cs : Components) → total (after test cs) ≤ total cs
total-after test no_components = omega arith
total-after test (component c cs) = elim (cases_Bool (test c)) [
  | inl e ↦ rw e (omega arith)
  | inr e ↦ rw e (omega (arith, total-after test cs))
]

some-inside : (c d : Component) → Some c ≡ Some d → c ≡ d
some-inside c d e = ap (λ o. unwrap_or o c) e

pub size-end : (test : Component → Bool) (cs : Components) (c : Component) → end_of test cs ≡ Some c
    → size c ≤ total cs
size-end test no_components c e = cc
size-end test (component d cs) c e = elim (cases_Bool (test d)) [
  | inl t ↦
      let here : end_of test (component d cs) ≡ Some d = rw t refl in
      let same : size d ≡ size c = ap size (some-inside d c (sym here ∙ e)) in
      omega (arith, same)
  | inr t ↦
      let later : end_of test (component d cs) ≡ end_of test cs = rw t refl in
      omega (arith, size-end test cs c (sym later ∙ e))
]

from-at_rule : (around : List Condition) (inside : Option (List Condition)) (cs : Components)
    → rules_from_at_rule around inside cs
    ≡ block_rules inside (end_of ends_at_rule cs) ++ rules_in around (after ends_at_rule cs)
from-at_rule around inside no_components = refl
from-at_rule around inside (component c cs) = elim (cases_Bool (ends_at_rule c)) [
  | inl e ↦ rw e refl
  | inr e ↦ rw e (from-at_rule around inside cs)
]

from-prelude : (around : List Condition) (prelude cs : Components)
    → rules_from_prelude around prelude cs
    ≡ qualified_rules around prelude (end_of is_curly_block cs)
    ++ rules_in around (after is_curly_block cs)
from-prelude around prelude no_components = refl
from-prelude around prelude (component c cs) = elim (cases_Bool (is_curly_block c)) [
  | inl e ↦ rw e refl
  | inr e ↦ rw e (from-prelude around prelude cs)
]

pub takes-between : (f : Found) (place : Option ℕ) (around : List Condition) (c : Component)
    (cs : Components) → IsInside f place
    → is_between_rules around c ≡ true → Takes f f around (component c cs) cs
takes-between f place around c cs i b = record {
  added = [];
  adds = adds-none f place i;
  joined = rw b refl;
  less = omega (arith, size-some c);
}

pub takes-at_rule : (f g : Found) (around : List Condition) (c : Component) (cs rest : Components)
    → is_between_rules around c ≡ false → is_some (at_keyword_of c) ≡ true
    → Adds f g (block_rules (conditions_inside around (condition_of c cs)) (end_of ends_at_rule cs))
    → rest ≡ after ends_at_rule cs → Takes f g around (component c cs) rest
takes-at_rule f g around c cs rest b k a r = record {
  added = block_rules (conditions_inside around (condition_of c cs)) (end_of ends_at_rule cs);
  adds = a;
  joined = rw (b, k, r) (from-at_rule around (conditions_inside around (condition_of c cs)) cs);
  less = rw r (omega (arith, size-some c, total-after ends_at_rule cs));
}

pub takes-block : (f g : Found) (around : List Condition) (c : Component) (cs : Components)
    → is_between_rules around c ≡ false → is_some (at_keyword_of c) ≡ false
    → is_curly_block c ≡ true
    → Adds f g (rule_of around no_components c ∷ []) → Takes f g around (component c cs) cs
takes-block f g around c cs b k e a = record {
  added = rule_of around no_components c ∷ [];
  adds = a;
  joined = rw (b, k, e) refl;
  less = omega (arith, size-some c);
}

pub takes-qualified : (f g : Found) (around : List Condition) (c : Component) (cs rest : Components)
    → is_between_rules around c ≡ false → is_some (at_keyword_of c) ≡ false
    → is_curly_block c ≡ false
    → Adds f g (qualified_rules around (component c (before is_curly_block cs))
    (end_of is_curly_block cs))
    → rest ≡ after is_curly_block cs → Takes f g around (component c cs) rest
takes-qualified f g around c cs rest b k e a r = record {
  added = qualified_rules around (component c (before is_curly_block cs))
      (end_of is_curly_block cs);
  adds = a;
  joined = rw (b, k, e, r) (from-prelude around (component c (before is_curly_block cs)) cs);
  less = rw r (omega (arith, size-some c, total-after is_curly_block cs));
}

-- no rules are in an at-rule of another name
pub block-none : (end : Option Component) → block_rules None end ≡ []
block-none None = refl
block-none (Some (preserved t)) = refl
block-none (Some (simple_block head contents close)) = refl
block-none (Some (function_block head contents close)) = refl

pub inside-of : (around : List Condition) (c : Component) (cs : Components)
    (o : Option ConditionalRule)
    → option_and_then conditional_rule_of (at_keyword_of c) ≡ o
    → conditions_inside around (condition_of c cs)
    ≡ option_map (λ at_rule. conditions_with around at_rule cs) o
inside-of around c cs None e =
    ap (λ k. conditions_inside around
    (option_map
    (λ at_rule. record { at_rule = at_rule; prelude = trimmed (before ends_at_rule cs) }) k)) e
inside-of around c cs (Some k) e =
    ap (λ k. conditions_inside around
    (option_map
    (λ at_rule. record { at_rule = at_rule; prelude = trimmed (before ends_at_rule cs) }) k)) e

-- ---- at-rules whose blocks are kept

white-curly : (c : Component) → is_whitespace c ≡ true → is_curly_block c ≡ false
white-curly (preserved t) e = refl
white-curly (simple_block head contents close) e = cc
white-curly (function_block head contents close) e = refl

white-end : (c : Component) → is_whitespace c ≡ true → ends_at_rule c ≡ false
white-end c e = rw (white-semicolon c e) (white-curly c e)

-- the prelude of an at-rule
pub prelude-is : (old front part trim : Components) → front ≡ without_front_whitespace old
    → part ≡ before ends_at_rule front
    → trim ≡ without_end_whitespace part → trim ≡ trimmed (before ends_at_rule old)
prelude-is old front part trim f p t =
    t ∙ ap without_end_whitespace (p
    ∙ (ap (before ends_at_rule) f ∙ front-before ends_at_rule white-end old))

pub at_rule-left : (old front rest : Components) → front ≡ without_front_whitespace old
    → rest ≡ after ends_at_rule front → rest ≡ after ends_at_rule old
at_rule-left old front rest f r =
    r ∙ (ap (after ends_at_rule) f ∙ front-after ends_at_rule white-end old)

pub at_rule-end : (old front : Components) (o : Option Component)
    → front ≡ without_front_whitespace old → o ≡ end_of ends_at_rule front
    → o ≡ end_of ends_at_rule old
at_rule-end old front o f e =
    e ∙ (ap (end_of ends_at_rule) f ∙ front-end ends_at_rule white-end old)

block-contents : (inside : List Condition) (c : Component)
    → rules_in_block (Some inside) c ≡ rules_in inside (contents_of c)
block-contents inside (preserved t) = refl
block-contents inside (simple_block head contents close) = refl
block-contents inside (function_block head contents close) = refl

contents-less : (c : Component) → total (contents_of c) + 1 ≤ size c
contents-less (preserved t) = omega arith
contents-less (simple_block head contents close) = omega arith
contents-less (function_block head contents close) = omega arith

pub end-contents-less : (cs : Components) (c : Component) (contents : Components)
    → Some c ≡ end_of ends_at_rule cs → contents ≡ contents_of c
    → total contents + 1 ≤ total cs
end-contents-less cs c contents e i =
    omega (arith, size-end ends_at_rule cs c (sym e), contents-less c, ap total i)

pub none-found : (f : Found) (place : Option ℕ) (inside : Option (List Condition))
    (end : Option Component) → IsInside f place → None ≡ end
    → Adds f f (block_rules inside end)
none-found f place inside end i e =
    subst (λ (o : Option Component). Adds f f (block_rules inside o)) e (adds-none f place i)

-- the rules of a block are those of its contents
pub block-found : (f g : Found) (around : List Condition) (condition : Condition)
    (at_rule : ConditionalRule) (cs contents : Components) (c : Component)
    → condition ≡ record { at_rule = at_rule; prelude = trimmed (before ends_at_rule cs) }
    → Some c ≡ end_of ends_at_rule cs → contents ≡ contents_of c
    → Adds f g (rules_in (around ++ (condition ∷ [])) contents)
    → Adds f g (block_rules (Some (conditions_with around at_rule cs)) (end_of ends_at_rule cs))
block-found f g around condition at_rule cs contents c k e i a =
    let same : rules_in (around ++ (condition ∷ [])) contents
    ≡ block_rules (Some (conditions_with around at_rule cs)) (end_of ends_at_rule cs) =
    ap (λ d. rules_in (around ++ (d ∷ [])) contents) k
    ∙ (ap (rules_in (conditions_with around at_rule cs)) i
    ∙ (sym (block-contents (conditions_with around at_rule cs) c)
    ∙ ap (block_rules (Some (conditions_with around at_rule cs))) e)) in
    subst (Adds f g) same a

pub inside-found : (f g h : Found) (c : code_condition.Condition) (n : ℕ) (cs : Components)
    → n ≡ length f.conditions → Pushed f g c
    → Adds g h (rules_in (around_of g (Some n)) cs)
    → Adds f h (rules_in (around_of f c.around ++ (condition_view c ∷ [])) cs)
inside-found f g h c n cs e p a =
    subst (λ (r : List Condition). Adds f h (rules_in r cs)) (ap (λ k. around_of g (Some k)) e
    ∙ p.around)
    (adds-adds f g h [] (rules_in (around_of g (Some n)) cs) p.adds a)

pub rule-kept : (f g : Found) (r : StyleRule) (block : Component) → IsInside f r.around
    → g.conditions ≡ f.conditions → g.rules ≡ f.rules ++ r ∷ []
    → declarations_view r.declarations ≡ declarations_of (contents_of block)
    → Adds f g (rule_of (around_of f r.around) (components_view r.prelude) block ∷ [])
rule-kept f g r block i e rs d =
    let same : rule_view (condition_lists f.conditions) r
    ≡ rule_of (around_of f r.around) (components_view r.prelude) block = rw d refl in
    subst (λ (s : model.StyleRule). Adds f g (s ∷ [])) same (rule-pushed f g r i e rs)

-- both facts of an answer
pub both-ok : {T E P Q R : Type 0} (r : Result T E) → (P → Q → R) → OnOk r P → OnOk r Q → OnOk r R
both-ok (Ok x) f p q = f p q
both-ok (Err e) f p q = tt

-- as many rules were found as the text has
pub count-is : (f : Found) (text : Text) (cs : Components) → rules_found f ≡ rules_of cs
    → cs ≡ components_of text
    → length f.rules ≡ length (style_rules_of text)
count-is f text cs e c =
    sym (length-map f.rules (rule_view (condition_lists f.conditions)))
    ∙ ap length (e ∙ ap rules_of c)
