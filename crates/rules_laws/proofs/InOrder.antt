-- The tokens of rules and declarations stand in the order of the list.
use Rattle.std.proofs.Common.{◌≡◌, ◌∙◌, ap, sym, refl, subst, inl, inr, List, [], ◌∷◌, ◌++◌, if◌then◌else◌, Bool, true, false, Option, Some, None, append_assoc, append-nil}
use Rattle.std.proofs.lemmas.Bool.{cases_Bool}
use Rattle.std.proofs.lemmas.Grind.{flat_map-append}
use Rattle.std.specs.Option.{is_some}
use Rattle.css_model.specs.declared.token.Token.{Token}
use Rattle.css_model.specs.Components.{Component, preserved, simple_block, function_block, Components, no_components, component, tokens_of, all_tokens_of, close_tokens}
use Rattle.css_model.specs.inner.Nesting.{followed}
use Rattle.rules_model.specs.ComponentLists.{ends_at_rule, is_whitespace, is_semicolon, at_keyword_of, is_curly_block, contents_of, before, trimmed}
use Rattle.rules_model.specs.Declarations.{Declaration, declaration_of, is_between_declarations, with_declaration, declarations_of, declarations_after_at_rule, declarations_after_semicolon}
use Rattle.rules_model.specs.Rules.{Condition, StyleRule, condition_of, conditions_inside, is_between_rules, style_rule, rules_in, rules_from_at_rule, rules_in_block, rules_from_prelude}
use Rattle.rules_laws.specs.Parts.{IsPadded}
use Rattle.rules_laws.specs.Values.{IsValue, IsDeclaration}
use Rattle.rules_laws.specs.Order.{IsSublist, declared_tokens, rule_tokens}
use Rattle.rules_laws.proofs.Booleans.{or-right}
use Rattle.rules_laws.proofs.Trimmed.{trimmed-padded}
use Rattle.rules_laws.proofs.Declared.{declared-of}

-- ---- lists with something left out

sub-later : (t : Token) (ss ts : List Token) → IsSublist ss ts → IsSublist ss (t ∷ ts)
sub-later t [] ts h = tt
sub-later t (s ∷ ss) ts h = inr h

sub-same : (ts : List Token) → IsSublist ts ts
sub-same [] = tt
sub-same (t ∷ ts) = inl (refl, sub-same ts)

sub-skip : (us ss ts : List Token) → IsSublist ss ts → IsSublist ss (us ++ ts)
sub-skip [] ss ts h = h
sub-skip (u ∷ us) ss ts h = sub-later u ss (us ++ ts) (sub-skip us ss ts h)

sub-append : (qs ss xs ts : List Token) → IsSublist qs xs → IsSublist ss ts
    → IsSublist (qs ++ ss) (xs ++ ts)
sub-append [] ss xs ts h k = sub-skip xs ss ts k
sub-append (q ∷ qs) ss [] ts h k = absurd h
sub-append (q ∷ qs) ss (x ∷ xs) ts (inl h) k = inl (h.0, sub-append qs ss xs ts h.1 k)
sub-append (q ∷ qs) ss (x ∷ xs) ts (inr h) k = inr (sub-append (q ∷ qs) ss xs ts h k)

sub-more : (ss ts us : List Token) → IsSublist ss ts → IsSublist ss (ts ++ us)
sub-more ss ts us h =
    subst (λ qs. IsSublist qs (ts ++ us)) (append-nil ss) (sub-append ss [] ts us h tt)

-- ---- the tokens of joined lists

tokens-followed : (bs cs : Components)
    → all_tokens_of (followed bs cs) ≡ all_tokens_of bs ++ all_tokens_of cs
tokens-followed no_components cs = refl
tokens-followed (component b bs) cs =
    ap (λ ts. tokens_of b ++ ts) (tokens-followed bs cs)
    ∙ sym (append_assoc (tokens_of b) (all_tokens_of bs) (all_tokens_of cs))

followed-right : (ss : List Token) (bs cs : Components) → IsSublist ss (all_tokens_of cs)
    → IsSublist ss (all_tokens_of (followed bs cs))
followed-right ss bs cs h =
    subst (IsSublist ss) (sym (tokens-followed bs cs))
    (sub-skip (all_tokens_of bs) ss (all_tokens_of cs) h)

followed-left : (ss : List Token) (bs cs : Components) → IsSublist ss (all_tokens_of bs)
    → IsSublist ss (all_tokens_of (followed bs cs))
followed-left ss bs cs h =
    subst (IsSublist ss) (sym (tokens-followed bs cs))
    (sub-more ss (all_tokens_of bs) (all_tokens_of cs) h)

padded-sub : (cs part : Components) → IsPadded cs part
    → IsSublist (all_tokens_of part) (all_tokens_of cs)
padded-sub cs part p =
    subst (λ ds. IsSublist (all_tokens_of part) (all_tokens_of ds)) (sym p.joined)
    (followed-right (all_tokens_of part) p.front (followed part p.back)
    (followed-left (all_tokens_of part) part p.back (sub-same (all_tokens_of part))))

value-sub : (cs value : Components) (important : Bool) → IsValue cs value important
    → IsSublist (all_tokens_of value) (all_tokens_of cs)
value-sub cs value true v =
    subst (λ ds. IsSublist (all_tokens_of value) (all_tokens_of ds)) (sym v.joined)
    (followed-left (all_tokens_of value) v.front v.mark (padded-sub v.front value v.is_value))
value-sub cs value false v = padded-sub cs value v.0

declaration-sub : (piece : Components) (d : Declaration) → IsDeclaration piece d
    → IsSublist (all_tokens_of d.value) (all_tokens_of piece)
declaration-sub piece d is =
    subst (λ ds. IsSublist (all_tokens_of d.value) (all_tokens_of ds)) (sym is.joined)
    (sub-skip (tokens_of is.ident) (all_tokens_of d.value)
    (all_tokens_of (followed is.between (component is.colon is.after)))
    (followed-right (all_tokens_of d.value) is.between (component is.colon is.after)
    (sub-skip (tokens_of is.colon) (all_tokens_of d.value) (all_tokens_of is.after)
    (value-sub is.after d.value d.important is.is_value))))

-- ---- declarations

-- from the first that passes on
abbrev since : (Component → Bool) → Components → Components
since test no_components = no_components
since test (component c cs) = if test c then component c cs else since test cs

tokens-since : (test : Component → Bool) (cs : Components)
    → all_tokens_of (before test cs) ++ all_tokens_of (since test cs) ≡ all_tokens_of cs
tokens-since test no_components = refl
tokens-since test (component c cs) = elim (cases_Bool (test c)) [
  | inl e ↦ rw e refl
  | inr e ↦ rw e (append_assoc (tokens_of c) (all_tokens_of (before test cs))
      (all_tokens_of (since test cs))
      ∙ ap (λ ts. tokens_of c ++ ts) (tokens-since test cs))
]

order-with : (found : Option Declaration) (piece : Components) (ds : List Declaration)
    (ts : List Token)
    → declaration_of piece ≡ found → IsSublist (declared_tokens ds) ts
    → IsSublist (declared_tokens (with_declaration found ds)) (all_tokens_of piece ++ ts)
order-with None piece ds ts e h = sub-skip (all_tokens_of piece) (declared_tokens ds) ts h
order-with (Some d) piece ds ts e h =
    sub-append (all_tokens_of d.value) (declared_tokens ds) (all_tokens_of piece) ts
    (declaration-sub piece d (declared-of piece d e)) h

piece-tokens : (c : Component) (cs : Components) → is_semicolon c ≡ false
    → all_tokens_of (before is_semicolon (component c cs)) ++ all_tokens_of (since is_semicolon cs)
    ≡ all_tokens_of (component c cs)
piece-tokens c cs e =
    rw e (append_assoc (tokens_of c) (all_tokens_of (before is_semicolon cs))
    (all_tokens_of (since is_semicolon cs))
    ∙ ap (λ ts. tokens_of c ++ ts) (tokens-since is_semicolon cs))

order-piece : (c : Component) (cs : Components) → is_semicolon c ≡ false
    → IsSublist (declared_tokens (declarations_after_semicolon cs))
    (all_tokens_of (since is_semicolon cs))
    → IsSublist
    (declared_tokens (with_declaration (declaration_of (before is_semicolon (component c cs)))
    (declarations_after_semicolon cs))) (all_tokens_of (component c cs))
order-piece c cs e h =
    subst (IsSublist (declared_tokens
    (with_declaration (declaration_of (before is_semicolon (component c cs)))
    (declarations_after_semicolon cs))))
    (piece-tokens c cs e)
    (order-with (declaration_of (before is_semicolon (component c cs)))
    (before is_semicolon (component c cs)) (declarations_after_semicolon cs)
    (all_tokens_of (since is_semicolon cs)) refl h)

mutual
  pub order-declarations : (cs : Components)
      → IsSublist (declared_tokens (declarations_of cs)) (all_tokens_of cs)
  order-declarations no_components = tt
  order-declarations (component c cs) = elim (cases_Bool (is_between_declarations c)) [
    | inl b ↦ rw b (sub-skip (tokens_of c) (declared_tokens (declarations_of cs)) (all_tokens_of cs)
        (order-declarations cs))
    | inr b ↦ elim (cases_Bool (is_some (at_keyword_of c))) [
      | inl k ↦ rw (b, k) (sub-skip (tokens_of c) (declared_tokens (declarations_after_at_rule cs))
          (all_tokens_of cs) (order-after_at_rule cs))
      | inr k ↦ rw (b, k) (order-piece c cs (or-right (is_whitespace c) (is_semicolon c) b)
          (order-after_semicolon cs))
    ]
  ]

  order-after_at_rule : (cs : Components)
      → IsSublist (declared_tokens (declarations_after_at_rule cs)) (all_tokens_of cs)
  order-after_at_rule no_components = tt
  order-after_at_rule (component c cs) = elim (cases_Bool (ends_at_rule c)) [
    | inl e ↦ rw e (sub-skip (tokens_of c) (declared_tokens (declarations_of cs)) (all_tokens_of cs)
        (order-declarations cs))
    | inr e ↦ rw e (sub-skip (tokens_of c) (declared_tokens (declarations_after_at_rule cs))
        (all_tokens_of cs) (order-after_at_rule cs))
  ]

  order-after_semicolon : (cs : Components)
      → IsSublist (declared_tokens (declarations_after_semicolon cs))
      (all_tokens_of (since is_semicolon cs))
  order-after_semicolon no_components = tt
  order-after_semicolon (component c cs) = elim (cases_Bool (is_semicolon c)) [
    | inl e ↦ rw e (sub-skip (tokens_of c) (declared_tokens (declarations_of cs)) (all_tokens_of cs)
        (order-declarations cs))
    | inr e ↦ rw e (order-after_semicolon cs)
  ]

-- ---- rules

rule_tokens-append : (rs ss : List StyleRule)
    → rule_tokens (rs ++ ss) ≡ rule_tokens rs ++ rule_tokens ss
rule_tokens-append rs ss =
    flat_map-append (λ (r : StyleRule). all_tokens_of r.prelude ++ declared_tokens r.declarations)
    rs ss

order-contents : (c : Component)
    → IsSublist (declared_tokens (declarations_of (contents_of c))) (tokens_of c)
order-contents (preserved t) = tt
order-contents (function_block head contents close) = tt
order-contents (simple_block head contents close) =
    sub-later head (declared_tokens (declarations_of contents))
    (all_tokens_of contents ++ close_tokens close)
    (sub-more (declared_tokens (declarations_of contents)) (all_tokens_of contents)
    (close_tokens close) (order-declarations contents))

order-rule : (around : List Condition) (prelude : Components) (c : Component) (rs : List StyleRule)
    (front ts : List Token)
    → IsSublist (all_tokens_of (trimmed prelude)) front → IsSublist (rule_tokens rs) ts
    → IsSublist (rule_tokens (style_rule around prelude c ∷ rs)) (front ++ (tokens_of c ++ ts))
order-rule around prelude c rs front ts h k =
    subst (λ qs. IsSublist qs (front ++ (tokens_of c ++ ts)))
    (sym (append_assoc (all_tokens_of (trimmed prelude))
    (declared_tokens (declarations_of (contents_of c))) (rule_tokens rs)))
    (sub-append (all_tokens_of (trimmed prelude))
    (declared_tokens (declarations_of (contents_of c)) ++ rule_tokens rs) front
    (tokens_of c ++ ts) h
    (sub-append (declared_tokens (declarations_of (contents_of c))) (rule_tokens rs) (tokens_of c)
    ts (order-contents c) k))

before-here : (test : Component → Bool) (c : Component) (cs : Components) → test c ≡ true
    → before test (component c cs) ≡ no_components
before-here test c cs e = rw e refl

before-later : (test : Component → Bool) (c : Component) (cs : Components) → test c ≡ false
    → before test (component c cs) ≡ component c (before test cs)
before-later test c cs e = rw e refl

mutual
  pub order-rules : (around : List Condition) (cs : Components)
      → IsSublist (rule_tokens (rules_in around cs)) (all_tokens_of cs)
  order-rules around no_components = tt
  order-rules around (component c cs) = elim (cases_Bool (is_between_rules around c)) [
    | inl b ↦ rw b (sub-skip (tokens_of c) (rule_tokens (rules_in around cs)) (all_tokens_of cs)
        (order-rules around cs))
    | inr b ↦ elim (cases_Bool (is_some (at_keyword_of c))) [
      | inl k ↦ rw (b, k) (sub-skip (tokens_of c)
          (rule_tokens (rules_from_at_rule around (conditions_inside around (condition_of c cs))
          cs)) (all_tokens_of cs)
          (order-at_rule around (conditions_inside around (condition_of c cs)) cs))
      | inr k ↦ elim (cases_Bool (is_curly_block c)) [
        | inl e ↦ rw (b, k, e) (order-rule around no_components c (rules_in around cs) []
            (all_tokens_of cs) tt (order-rules around cs))
        | inr e ↦ rw (b, k, e) (order-prelude around (component c (before is_curly_block cs))
            (tokens_of c) cs
            (padded-sub (component c (before is_curly_block cs))
            (trimmed (component c (before is_curly_block cs)))
            (trimmed-padded (component c (before is_curly_block cs)))))
      ]
    ]
  ]

  order-at_rule : (around : List Condition) (inside : Option (List Condition)) (cs : Components)
      → IsSublist (rule_tokens (rules_from_at_rule around inside cs)) (all_tokens_of cs)
  order-at_rule around inside no_components = tt
  order-at_rule around inside (component c cs) = elim (cases_Bool (ends_at_rule c)) [
    | inl e ↦ rw e (subst (λ qs. IsSublist qs (tokens_of c ++ all_tokens_of cs))
        (sym (rule_tokens-append (rules_in_block inside c) (rules_in around cs)))
        (sub-append (rule_tokens (rules_in_block inside c)) (rule_tokens (rules_in around cs))
        (tokens_of c) (all_tokens_of cs) (order-block inside c) (order-rules around cs)))
    | inr e ↦ rw e (sub-skip (tokens_of c) (rule_tokens (rules_from_at_rule around inside cs))
        (all_tokens_of cs) (order-at_rule around inside cs))
  ]

  order-block : (inside : Option (List Condition)) (c : Component)
      → IsSublist (rule_tokens (rules_in_block inside c)) (tokens_of c)
  order-block None (preserved t) = tt
  order-block None (simple_block head contents close) = tt
  order-block None (function_block head contents close) = tt
  order-block (Some inside) (preserved t) = tt
  order-block (Some inside) (function_block head contents close) = tt
  order-block (Some inside) (simple_block head contents close) =
      sub-later head (rule_tokens (rules_in inside contents))
      (all_tokens_of contents ++ close_tokens close)
      (sub-more (rule_tokens (rules_in inside contents)) (all_tokens_of contents)
      (close_tokens close) (order-rules inside contents))

  order-prelude : (around : List Condition) (prelude : Components) (front : List Token)
      (cs : Components)
      → IsSublist (all_tokens_of (trimmed prelude))
      (front ++ all_tokens_of (before is_curly_block cs))
      → IsSublist (rule_tokens (rules_from_prelude around prelude cs)) (front ++ all_tokens_of cs)
  order-prelude around prelude front no_components h = tt
  order-prelude around prelude front (component c cs) h = elim (cases_Bool (is_curly_block c)) [
    | inl e ↦
        let k : IsSublist (all_tokens_of (trimmed prelude)) front =
        subst (IsSublist (all_tokens_of (trimmed prelude)))
        (ap (λ ds. front ++ all_tokens_of ds) (before-here is_curly_block c cs e)
        ∙ append-nil front) h in
        rw e (order-rule around prelude c (rules_in around cs) front (all_tokens_of cs) k
        (order-rules around cs))
    | inr e ↦
        let k : IsSublist (all_tokens_of (trimmed prelude))
        ((front ++ tokens_of c) ++ all_tokens_of (before is_curly_block cs)) =
        subst (IsSublist (all_tokens_of (trimmed prelude)))
        (ap (λ ds. front ++ all_tokens_of ds) (before-later is_curly_block c cs e)
        ∙ sym (append_assoc front (tokens_of c) (all_tokens_of (before is_curly_block cs)))) h in
        rw e (subst (IsSublist (rule_tokens (rules_from_prelude around prelude cs)))
        (append_assoc front (tokens_of c) (all_tokens_of cs))
        (order-prelude around prelude (front ++ tokens_of c) cs k))
  ]
