-- Tokens of values of custom properties, one part more at a time.
use Rattle.std.proofs.Common.{◌≡◌, ◌∙◌, ap, sym, refl, ℕ, ◌<◌, ◌+◌, inl, inr, List, [], ◌∷◌, ◌++◌, append_assoc, drop, filter, flat_map, get_or, length, map, not, Bool, true, false, add-one, drop-cons}
use Rattle.std.proofs.lemmas.Bool.{cases_Bool}
use Rattle.std.proofs.lemmas.Grind.{flat_map-append}
use Rattle.std.proofs.lemmas.List.{append-nil}
use Rattle.std.specs.List.{join_with_byte}
use Rattle.css_model.specs.Classes.{Text, space}
use Rattle.css_model.specs.declared.token.Token.{Token}
use Rattle.css_tokens.specs.Nested.{components_view}
use Rattle.css_tokens.specs.declared.component.Component.{Component}
use Rattle.custom_model.specs.ValueText.{value_text}
use Rattle.reply_model.specs.Spelling.{field, in_quotes, quoted}
use Rattle.rules_model.specs.ComponentLists.{is_whitespace_type}
use Rattle.reply_texts.specs.inner.Customs.{all_tokens_after, component_tokens, components_tokens, is_first_after, is_white}

-- ---- one part after another

pub joined_tokens : (first : Bool) (ts us : List Token) → all_tokens_after first (ts ++ us)
    ≡ all_tokens_after first ts ++ all_tokens_after (is_first_after first ts) us
joined_tokens true [] us = refl
joined_tokens false [] us = refl
joined_tokens true (t ∷ ts) us = elim (cases_Bool (is_white t)) [
  | inl w ↦ rw w (joined_tokens true ts us)
  | inr b ↦ rw b (ap (λ l. flat_map in_quotes t.spelling ++ l) (joined_tokens false ts us)
      ∙ sym (append_assoc (flat_map in_quotes t.spelling) (all_tokens_after false ts) (all_tokens_after false us)))
]
joined_tokens false (t ∷ ts) us = elim (cases_Bool (is_white t)) [
  | inl w ↦ rw w (joined_tokens false ts us)
  | inr b ↦ rw b (ap (λ l. flat_map in_quotes (space ∷ t.spelling) ++ l) (joined_tokens false ts us)
      ∙ sym (append_assoc (flat_map in_quotes (space ∷ t.spelling)) (all_tokens_after false ts) (all_tokens_after false us)))
]

pub joined_first : (first : Bool) (ts us : List Token)
    → is_first_after first (ts ++ us) ≡ is_first_after (is_first_after first ts) us
joined_first false ts us = refl
joined_first true [] us = refl
joined_first true (t ∷ ts) us = elim (cases_Bool (is_white t)) [
  | inl w ↦ rw w (joined_first true ts us)
  | inr b ↦ rw b refl
]

-- the component values from a place on are the one in it and those after it
tokens-from : (cs : List Component) (i : ℕ) (c : Component) → i < length cs → c ≡ get_or cs i c
    → components_tokens (drop i cs) ≡ component_tokens c ++ components_tokens (drop (i + 1) cs)
tokens-from cs i c h is = rw (drop-cons cs i c h, ← is, add-one) refl

-- one component value more was appended
pub next_text : (first left : Bool) (cs : List Component) (i : ℕ) (c : Component) (old new whole : List ℕ)
    → i < length cs → c ≡ get_or cs i c → new ≡ old ++ all_tokens_after first (component_tokens c)
    → left ≡ is_first_after first (component_tokens c)
    → old ++ all_tokens_after first (components_tokens (drop i cs)) ≡ whole
    → new ++ all_tokens_after left (components_tokens (drop (i + 1) cs)) ≡ whole
next_text first left cs i c old new whole h is appended left_is all =
    let rest : List Token = components_tokens (drop (i + 1) cs) in
    ap (λ l. l ++ all_tokens_after left rest) appended
    ∙ (append_assoc old (all_tokens_after first (component_tokens c)) (all_tokens_after left rest)
    ∙ (ap (λ b. old ++ (all_tokens_after first (component_tokens c) ++ all_tokens_after b rest)) left_is
    ∙ (ap (λ l. old ++ l) (sym (joined_tokens first (component_tokens c) rest))
    ∙ (ap (λ ts. old ++ all_tokens_after first ts) (sym (tokens-from cs i c h is)) ∙ all))))

pub next_first : (first left whole : Bool) (cs : List Component) (i : ℕ) (c : Component) → i < length cs
    → c ≡ get_or cs i c → left ≡ is_first_after first (component_tokens c)
    → is_first_after first (components_tokens (drop i cs)) ≡ whole
    → is_first_after left (components_tokens (drop (i + 1) cs)) ≡ whole
next_first first left whole cs i c h is left_is all =
    let rest : List Token = components_tokens (drop (i + 1) cs) in
    ap (λ b. is_first_after b rest) left_is
    ∙ (sym (joined_first first (component_tokens c) rest)
    ∙ (ap (is_first_after first) (sym (tokens-from cs i c h is)) ∙ all))

-- ---- blocks

-- the token that opens a block, its contents and the token that closes it were appended
pub block_text : (first a b : Bool) (head : Token) (inner last : List Token) (old opened filled new : List ℕ)
    → opened ≡ old ++ all_tokens_after first (head ∷ []) → a ≡ is_first_after first (head ∷ [])
    → filled ≡ opened ++ all_tokens_after a inner → b ≡ is_first_after a inner
    → new ≡ filled ++ all_tokens_after b last → new ≡ old ++ all_tokens_after first (head ∷ (inner ++ last))
block_text first a b head inner last old opened filled new h1 f1 h2 f2 h3 =
    let inside : List ℕ = all_tokens_after a inner in
    let head_text : List ℕ = all_tokens_after first (head ∷ []) in
    h3 ∙ (ap (λ l. l ++ all_tokens_after b last) h2
    ∙ (append_assoc opened inside (all_tokens_after b last)
    ∙ (ap (λ l. l ++ (inside ++ all_tokens_after b last)) h1
    ∙ (append_assoc old head_text (inside ++ all_tokens_after b last)
    ∙ ap (λ l. old ++ l)
    (ap (λ x. head_text ++ (inside ++ all_tokens_after x last)) f2
    ∙ (ap (λ l. head_text ++ l) (sym (joined_tokens a inner last))
    ∙ (ap (λ x. head_text ++ all_tokens_after x (inner ++ last)) f1
    ∙ sym (joined_tokens first (head ∷ []) (inner ++ last)))))))))

-- ---- the whole

abbrev words : List Token → List Text
words ts = map (λ t. t.spelling) (filter (λ t. not (is_whitespace_type t.token_type)) ts)

later : (ts : List Token) → all_tokens_after false ts ≡ flat_map in_quotes (flat_map field (words ts))
later [] = refl
later (t ∷ ts) = elim (cases_Bool (is_white t)) [
  | inl w ↦ rw w (later ts)
  | inr b ↦ rw b (ap (λ l. flat_map in_quotes (space ∷ t.spelling) ++ l) (later ts)
      ∙ sym (flat_map-append in_quotes (space ∷ t.spelling) (flat_map field (words ts))))
]

joined : (first : Text) (others : List Text)
    → first ++ flat_map field others ≡ join_with_byte space (first ∷ others)
joined first [] = append-nil first
joined first (other ∷ others) = ap (λ rest. first ++ (space ∷ rest)) (joined other others)

from-first : (ts : List Token) → all_tokens_after true ts ≡ flat_map in_quotes (join_with_byte space (words ts))
from-first [] = refl
from-first (t ∷ ts) = elim (cases_Bool (is_white t)) [
  | inl w ↦ rw w (from-first ts)
  | inr b ↦ rw b (ap (λ l. flat_map in_quotes t.spelling ++ l) (later ts)
      ∙ (sym (flat_map-append in_quotes t.spelling (flat_map field (words ts)))
      ∙ ap (flat_map in_quotes) (joined t.spelling (words ts))))
]

-- a value between quotes was appended
pub quoted_value : (cs : List Component) (old opened filled new : List ℕ) → opened ≡ old ++ 34 ∷ []
    → filled ≡ opened ++ all_tokens_after true (components_tokens cs) → new ≡ filled ++ 34 ∷ []
    → new ≡ old ++ quoted (value_text (components_view cs))
unfolding quoted
quoted_value cs old opened filled new h1 h2 h3 =
    let inside : List ℕ = all_tokens_after true (components_tokens cs) in
    h3 ∙ (ap (λ l. l ++ 34 ∷ []) (h2 ∙ (ap (λ l. l ++ inside) h1 ∙ append_assoc old (34 ∷ []) inside))
    ∙ (append_assoc old (34 ∷ inside) (34 ∷ [])
    ∙ ap (λ l. old ++ (34 ∷ (l ++ 34 ∷ []))) (from-first (components_tokens cs))))
