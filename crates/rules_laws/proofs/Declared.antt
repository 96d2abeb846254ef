-- A piece is a declaration by its form exactly where it is found to be one.
use Rattle.std.proofs.Common.{◌≡◌, ◌∙◌, ap, sym, refl, subst, inl, inr, ◌&&◌, ◌↔◌, Bool, true, false, Option, Some, None}
use Rattle.std.proofs.lemmas.Bool.{cases_Bool, false≢true}
use Rattle.std.proofs.lemmas.Option.{none-some, same_Some}
use Rattle.css_model.specs.declared.token.TokenType.{TokenType}
use Rattle.css_model.specs.declared.token.TokenType.TheVariants.{Delim, Ident, Colon}
use Rattle.css_model.specs.Classes.{Text}
use Rattle.css_model.specs.Components.{Component, preserved, simple_block, function_block, Components, no_components, component}
use Rattle.css_model.specs.inner.Nesting.{followed}
use Rattle.rules_model.specs.ComponentLists.{is_token, is_whitespace, is_whitespace_type, are_whitespace, is_colon, is_colon_type, ident_of, trimmed}
use Rattle.rules_model.specs.Declarations.{Declaration, is_exclamation_type, is_important_type, is_important_word, is_important_mark, has_important_mark, before_important_mark, after_colon, declaration_from, declaration_of}
use Rattle.rules_laws.specs.Values.{IsMark, IsValue, IsDeclaration}
use Rattle.rules_laws.proofs.Booleans.{and-left, and-right, and-false, or-true}
use Rattle.rules_laws.proofs.Trimmed.{trimmed-padded, padded-trimmed}

-- ---- kinds

exclamation-whitespace_type : (k : TokenType) → is_exclamation_type k ≡ true
    → is_whitespace_type k ≡ false
exclamation-whitespace_type (Delim c) e = refl
exclamation-whitespace_type other e = cc

exclamation-important_type : (k : TokenType) → is_exclamation_type k ≡ true
    → is_important_type k ≡ false
exclamation-important_type (Delim c) e = refl
exclamation-important_type other e = cc

important-whitespace_type : (k : TokenType) → is_important_type k ≡ true
    → is_whitespace_type k ≡ false
important-whitespace_type (Ident name) e = refl
important-whitespace_type other e = cc

colon-whitespace_type : (k : TokenType) → is_colon_type k ≡ true → is_whitespace_type k ≡ false
colon-whitespace_type Colon e = refl
colon-whitespace_type other e = cc

exclamation-whitespace : (c : Component) → is_token is_exclamation_type c ≡ true
    → is_whitespace c ≡ false
exclamation-whitespace (preserved t) e = exclamation-whitespace_type t.token_type e
exclamation-whitespace (simple_block head contents close) e = refl
exclamation-whitespace (function_block head contents close) e = refl

exclamation-important : (c : Component) → is_token is_exclamation_type c ≡ true
    → is_token is_important_type c ≡ false
exclamation-important (preserved t) e = exclamation-important_type t.token_type e
exclamation-important (simple_block head contents close) e = refl
exclamation-important (function_block head contents close) e = refl

important-whitespace : (c : Component) → is_token is_important_type c ≡ true
    → is_whitespace c ≡ false
important-whitespace (preserved t) e = important-whitespace_type t.token_type e
important-whitespace (simple_block head contents close) e = refl
important-whitespace (function_block head contents close) e = refl

colon-whitespace : (c : Component) → is_colon c ≡ true → is_whitespace c ≡ false
colon-whitespace (preserved t) e = colon-whitespace_type t.token_type e
colon-whitespace (simple_block head contents close) e = refl
colon-whitespace (function_block head contents close) e = refl

-- ---- a mark

word-form : (between : Components) (word : Component) (after : Components)
    → are_whitespace between ≡ true
    → is_token is_important_type word ≡ true → are_whitespace after ≡ true
    → is_important_word (followed between (component word after)) ≡ true
word-form no_components word after b w a = rw (important-whitespace word w, w) a
word-form (component c between) word after b w a =
    rw (and-left (is_whitespace c) (are_whitespace between) b)
    (word-form between word after (and-right (is_whitespace c) (are_whitespace between) b) w a)

mark-form : (mark : Components) → IsMark mark → is_important_mark mark ≡ true
mark-form mark m = subst (λ cs. is_important_mark cs ≡ true) (sym m.joined)
    (rw m.is_exclamation (word-form m.between m.word m.after m.between_whitespace m.is_word
    m.after_whitespace))

-- what `important` with white space around it consists of
pub record IsWord (cs : Components) : Type 0 where
  pub between : Components
  pub word : Component
  pub after : Components
  pub joined : cs ≡ followed between (component word after)
  pub is_word : is_token is_important_type word ≡ true
  pub between_whitespace : are_whitespace between ≡ true
  pub after_whitespace : are_whitespace after ≡ true

word-of : (cs : Components) → is_important_word cs ≡ true → IsWord cs
word-of no_components e = cc
word-of (component c cs) e = elim (cases_Bool (is_whitespace c)) [
  | inl w ↦ let inner : IsWord cs = word-of cs (rw w at e) in record {
    between = component c inner.between;
    word = inner.word;
    after = inner.after;
    joined = ap (component c) inner.joined;
    is_word = inner.is_word;
    between_whitespace = rw w inner.between_whitespace;
    after_whitespace = inner.after_whitespace;
  }
  | inr w ↦ let both : is_token is_important_type c && are_whitespace cs ≡ true = rw w at e in
      record {
        between = no_components;
        word = c;
        after = cs;
        joined = refl;
        is_word = and-left (is_token is_important_type c) (are_whitespace cs) both;
        between_whitespace = refl;
        after_whitespace = and-right (is_token is_important_type c) (are_whitespace cs) both;
      }
]

mark-of : (mark : Components) → is_important_mark mark ≡ true → IsMark mark
mark-of no_components e = cc
mark-of (component c cs) e =
    let w : IsWord cs =
    word-of cs (and-right (is_token is_exclamation_type c) (is_important_word cs) e) in
    record {
      exclamation = c;
      between = w.between;
      word = w.word;
      after = w.after;
      joined = ap (component c) w.joined;
      is_exclamation = and-left (is_token is_exclamation_type c) (is_important_word cs) e;
      is_word = w.is_word;
      between_whitespace = w.between_whitespace;
      after_whitespace = w.after_whitespace;
    }

-- ---- where the mark is

whitespace-none : (cs : Components) (bang : Component) (more : Components)
    → is_token is_exclamation_type bang ≡ true
    → are_whitespace (followed cs (component bang more)) ≡ false
whitespace-none no_components bang more e = rw (exclamation-whitespace bang e) refl
whitespace-none (component c cs) bang more e =
    and-false (is_whitespace c) (are_whitespace (followed cs (component bang more)))
    (whitespace-none cs bang more e)

word-none : (cs : Components) (bang : Component) (more : Components)
    → is_token is_exclamation_type bang ≡ true
    → is_important_word (followed cs (component bang more)) ≡ false
word-none no_components bang more e =
    rw (exclamation-whitespace bang e, exclamation-important bang e) refl
word-none (component c cs) bang more e = elim (cases_Bool (is_whitespace c)) [
  | inl w ↦ rw w (word-none cs bang more e)
  | inr w ↦ rw w (and-false (is_token is_important_type c)
      (are_whitespace (followed cs (component bang more))) (whitespace-none cs bang more e))
]

mark-none : (c : Component) (cs : Components) (bang : Component) (more : Components)
    → is_token is_exclamation_type bang ≡ true
    → is_important_mark (component c (followed cs (component bang more))) ≡ false
mark-none c cs bang more e =
    and-false (is_token is_exclamation_type c)
    (is_important_word (followed cs (component bang more))) (word-none cs bang more e)

before-mark : (front : Components) (bang : Component) (more : Components)
    → is_important_mark (component bang more) ≡ true
    → before_important_mark (followed front (component bang more)) ≡ front
before-mark no_components bang more m = rw m refl
before-mark (component c front) bang more m =
    let e : is_token is_exclamation_type bang ≡ true =
    and-left (is_token is_exclamation_type bang) (is_important_word more) m in
    rw (mark-none c front bang more e) (ap (component c) (before-mark front bang more m))

has-mark : (front : Components) (bang : Component) (more : Components)
    → is_important_mark (component bang more) ≡ true
    → has_important_mark (followed front (component bang more)) ≡ true
has-mark no_components bang more m = rw m refl
has-mark (component c front) bang more m =
    rw (has-mark front bang more m)
    (or-true (is_important_mark (component c (followed front (component bang more)))))

-- the mark that a list ends with
pub record IsFound (cs : Components) : Type 0 where
  pub front : Components
  pub mark : Components
  pub joined : cs ≡ followed front mark
  pub is_mark : is_important_mark mark ≡ true
  pub before_is : before_important_mark cs ≡ front

found-mark : (cs : Components) → has_important_mark cs ≡ true → IsFound cs
found-mark no_components e = cc
found-mark (component c cs) e = elim (cases_Bool (is_important_mark (component c cs))) [
  | inl m ↦ record {
    front = no_components;
    mark = component c cs;
    joined = refl;
    is_mark = m;
    before_is = rw m refl;
  }
  | inr m ↦ let inner : IsFound cs = found-mark cs (rw m at e) in record {
    front = component c inner.front;
    mark = inner.mark;
    joined = ap (component c) inner.joined;
    is_mark = inner.is_mark;
    before_is = rw m (ap (component c) inner.before_is);
  }
]

before-unmarked : (cs : Components) → has_important_mark cs ≡ false → before_important_mark cs ≡ cs
before-unmarked no_components e = refl
before-unmarked (component c cs) e = elim (cases_Bool (is_important_mark (component c cs))) [
  | inl m ↦ absurd (false≢true (sym e ∙ rw m refl))
  | inr m ↦ rw m (ap (component c) (before-unmarked cs (rw m at e)))
]

marked-has : (front mark : Components) → IsMark mark
    → has_important_mark (followed front mark) ≡ true
marked-has front mark m =
    let more : Components = followed m.between (component m.word m.after) in
    let is : is_important_mark (component m.exclamation more) ≡ true =
    subst (λ cs. is_important_mark cs ≡ true) m.joined (mark-form mark m) in
    ap (λ cs. has_important_mark (followed front cs)) m.joined
    ∙ has-mark front m.exclamation more is

marked-before : (front mark : Components) → IsMark mark
    → before_important_mark (followed front mark) ≡ front
marked-before front mark m =
    let more : Components = followed m.between (component m.word m.after) in
    let is : is_important_mark (component m.exclamation more) ≡ true =
    subst (λ cs. is_important_mark cs ≡ true) m.joined (mark-form mark m) in
    ap (λ cs. before_important_mark (followed front cs)) m.joined
    ∙ before-mark front m.exclamation more is

-- ---- values

value-of : (cs : Components) → IsValue cs (trimmed (before_important_mark cs))
    (has_important_mark cs)
value-of cs = elim (cases_Bool (has_important_mark cs)) [
  | inl h ↦ let f : IsFound cs = found-mark cs h in rw h (record {
    front = f.front;
    mark = f.mark;
    joined = f.joined;
    is_mark = mark-of f.mark f.is_mark;
    is_value = rw f.before_is (trimmed-padded f.front);
  })
  | inr h ↦ rw (h, before-unmarked cs h) (
    trimmed-padded cs,
    λ front mark j m. false≢true (sym h ∙ (ap has_important_mark j ∙ marked-has front mark m)),
  )
]

value-from : (cs value : Components) (important : Bool) → value ≡ trimmed (before_important_mark cs)
    → important ≡ has_important_mark cs → IsValue cs value important
value-from cs value important v i = rw (v, i) (value-of cs)

important-is : (cs value : Components) (important : Bool) → IsValue cs value important
    → has_important_mark cs ≡ important
important-is cs value true v = ap has_important_mark v.joined ∙ marked-has v.front v.mark v.is_mark
important-is cs value false v = elim (cases_Bool (has_important_mark cs)) [
  | inl h ↦ let f : IsFound cs = found-mark cs h in
      absurd (v.1 f.front f.mark f.joined (mark-of f.mark f.is_mark))
  | inr h ↦ h
]

value-is : (cs value : Components) (important : Bool) → IsValue cs value important
    → trimmed (before_important_mark cs) ≡ value
value-is cs value true v =
    ap (λ ds. trimmed (before_important_mark ds)) v.joined
    ∙ (ap trimmed (marked-before v.front v.mark v.is_mark)
    ∙ sym (padded-trimmed v.front value v.is_value))
value-is cs value false v =
    ap trimmed (before-unmarked cs (important-is cs value false v))
    ∙ sym (padded-trimmed cs value v.0)

-- ---- declarations

colon-form : (between : Components) (colon : Component) (after : Components)
    → are_whitespace between ≡ true
    → is_colon colon ≡ true → after_colon (followed between (component colon after)) ≡ Some after
colon-form no_components colon after w e = rw (colon-whitespace colon e, e) refl
colon-form (component c between) colon after w e =
    rw (and-left (is_whitespace c) (are_whitespace between) w)
    (colon-form between colon after (and-right (is_whitespace c) (are_whitespace between) w) e)

-- white space and a `:`, and what is after them
pub record IsAfterColon (cs after : Components) : Type 0 where
  pub between : Components
  pub colon : Component
  pub joined : cs ≡ followed between (component colon after)
  pub between_whitespace : are_whitespace between ≡ true
  pub is_colon : is_colon colon ≡ true

colon-of : (cs after : Components) → after_colon cs ≡ Some after → IsAfterColon cs after
colon-of no_components after e = absurd (none-some after e)
colon-of (component c cs) after e = elim (cases_Bool (is_whitespace c)) [
  | inl w ↦ let inner : IsAfterColon cs after = colon-of cs after (rw w at e) in record {
    between = component c inner.between;
    colon = inner.colon;
    joined = ap (component c) inner.joined;
    between_whitespace = rw w inner.between_whitespace;
    is_colon = inner.is_colon;
  }
  | inr w ↦ elim (cases_Bool (is_colon c)) [
    | inl k ↦ record {
      between = no_components;
      colon = c;
      joined = ap (component c) (same_Some cs after (rw (w, k) at e));
      between_whitespace = refl;
      is_colon = k;
    }
    | inr k ↦ absurd (none-some after (rw (w, k) at e))
  ]
]

pub declared-form : (piece : Components) (d : Declaration) → IsDeclaration piece d
    → declaration_of piece ≡ Some d
declared-form piece d is =
    let i : has_important_mark is.after ≡ d.important =
    important-is is.after d.value d.important is.is_value in
    let v : trimmed (before_important_mark is.after) ≡ d.value =
    value-is is.after d.value d.important is.is_value in
    ap declaration_of is.joined
    ∙ (ap (λ o. declaration_from o
    (after_colon (followed is.between (component is.colon is.after)))) is.names
    ∙ (ap (declaration_from (Some d.name))
    (colon-form is.between is.colon is.after is.between_whitespace is.is_colon)
    ∙ (λ j. Some (record { name = d.name; value = v j; important = i j }))))

-- what a name and what is after a `:` give
pub record IsFrom (name : Option Text) (rest : Option Components) (d : Declaration) : Type 0 where
  pub after : Components
  pub name_is : name ≡ Some d.name
  pub rest_is : rest ≡ Some after
  pub value_is : d.value ≡ trimmed (before_important_mark after)
  pub important_is : d.important ≡ has_important_mark after

from-of : (name : Option Text) (rest : Option Components) (d : Declaration)
    → declaration_from name rest ≡ Some d → IsFrom name rest d
from-of None rest d e = absurd (none-some d e)
from-of (Some name) None d e = absurd (none-some d e)
from-of (Some name) (Some after) d e =
    let same = same_Some (record {
      name = name;
      value = trimmed (before_important_mark after);
      important = has_important_mark after;
    }) d e in
    record {
      after = after;
      name_is = ap (λ (x : Declaration). Some x.name) same;
      rest_is = refl;
      value_is = sym (ap (λ (x : Declaration). x.value) same);
      important_is = sym (ap (λ (x : Declaration). x.important) same);
    }

pub declared-of : (piece : Components) (d : Declaration) → declaration_of piece ≡ Some d
    → IsDeclaration piece d
declared-of no_components d e = absurd (none-some d e)
declared-of (component c cs) d e =
    let f : IsFrom (ident_of c) (after_colon cs) d = from-of (ident_of c) (after_colon cs) d e in
    let k : IsAfterColon cs f.after = colon-of cs f.after f.rest_is in
    record {
      ident = c;
      between = k.between;
      colon = k.colon;
      after = f.after;
      joined = ap (component c) k.joined;
      names = f.name_is;
      between_whitespace = k.between_whitespace;
      is_colon = k.is_colon;
      is_value = value-from f.after d.value d.important f.value_is f.important_is;
    }

pub declared : (piece : Components) (d : Declaration)
    → IsDeclaration piece d ↔ (declaration_of piece ≡ Some d)
declared piece d = (declared-form piece d, declared-of piece d)
