-- Rooms after component values, one after another.
use Rattle.std.proofs.Common.{◌≡◌, ◌∙◌, ap, sym, ℕ, ◌-◌, true, false, Option, Some, None, option_and_then}
use Rattle.css_model.specs.declared.token.Token.{Token}
use Rattle.css_model.specs.Components.{Component, Components, no_components, component, preserved, simple_block, function_block}
use Rattle.css_model.specs.declared.token.TheConstants.{MAX_NESTING}
use Rattle.custom_model.specs.declared.limits.TheConstants.{MAX_SUBSTITUTED_TOKENS}
use Rattle.custom_model.specs.References.{has_var, is_var_type}
use Rattle.custom_model.specs.Substitution.{Entries, replacement_of, replacement_of_all, substituted}
use Rattle.custom_props.specs.inner.Entries.{var_replacement}
use Rattle.custom_props.specs.inner.Measures.{room_after_all}
use Rattle.custom_props.specs.inner.Rooms.{room_after, room_after_one, room_after_token, room_in}
use Rattle.custom_props.proofs.Replacements.{function_is, var_is}
use Rattle.custom_props.proofs.RoomAfter.{over_room, within_room, room_around, room_around_function, room_block, room_both, room_cons, room_function, room_none, room_token}

-- ---- any rooms that are found one component value after another

module _ (all : ℕ → Components → Option ℕ) (one : ℕ → Component → Option ℕ)
    (none : (u : ℕ) → all u no_components ≡ Some u)
    (more : (u : ℕ) (c : Component) (cs : Components) → all u (component c cs) ≡ option_and_then (λ v. all v cs) (one u c)) where
  stops : (t u : ℕ) (whole rest cs : Components) (c : Component) → all u rest ≡ all t whole → rest ≡ component c cs
      → None ≡ one u c → None ≡ all t whole
  stops t u whole rest cs c inv next h =
      ap (option_and_then (λ v. all v cs)) h ∙ (sym (more u c cs) ∙ (ap (all u) (sym next) ∙ inv))

  goes : (t u v : ℕ) (whole rest cs : Components) (c : Component) → all u rest ≡ all t whole → rest ≡ component c cs
      → Some v ≡ one u c → all v cs ≡ all t whole
  goes t u v whole rest cs c inv next h =
      ap (option_and_then (λ v. all v cs)) h ∙ (sym (more u c cs) ∙ (ap (all u) (sym next) ∙ inv))

  ends : (t u : ℕ) (whole rest : Components) → all u rest ≡ all t whole → rest ≡ no_components → Some u ≡ all t whole
  ends t u whole rest inv end = sym (none u) ∙ (ap (all u) (sym end) ∙ inv)

-- ---- of component values

pub room_stops : (l t u : ℕ) (whole rest cs : Components) (c : Component) → room_after u l rest ≡ room_after t l whole
    → rest ≡ component c cs → None ≡ room_after_one u l c → None ≡ room_after t l whole
room_stops l t u whole rest cs c =
    stops (λ v ds. room_after v l ds) (λ v d. room_after_one v l d) (λ v. room_none v l) (λ v d ds. room_cons v l d ds)
    t u whole rest cs c

pub room_goes : (l t u v : ℕ) (whole rest cs : Components) (c : Component) → room_after u l rest ≡ room_after t l whole
    → rest ≡ component c cs → Some v ≡ room_after_one u l c → room_after v l cs ≡ room_after t l whole
room_goes l t u v whole rest cs c =
    goes (λ v ds. room_after v l ds) (λ v d. room_after_one v l d) (λ v. room_none v l) (λ v d ds. room_cons v l d ds)
    t u v whole rest cs c

pub room_ends : (l t u : ℕ) (whole rest : Components) → room_after u l rest ≡ room_after t l whole
    → rest ≡ no_components → Some u ≡ room_after t l whole
room_ends l t u whole rest =
    ends (λ v ds. room_after v l ds) (λ v d. room_after_one v l d) (λ v. room_none v l) (λ v d ds. room_cons v l d ds)
    t u whole rest

-- ---- of what stands in their place

abbrev pub room_replaced : Entries → (tokens levels : ℕ) → Component → Option ℕ
room_replaced e t l c = option_and_then (room_after t l) (replacement_of e c)

pub all_stops : (e : Entries) (l t u : ℕ) (whole rest cs : Components) (c : Component)
    → room_after_all e u l rest ≡ room_after_all e t l whole
    → rest ≡ component c cs → None ≡ room_replaced e u l c → None ≡ room_after_all e t l whole
all_stops e l t u whole rest cs c =
    stops (λ v ds. room_after_all e v l ds) (λ v d. room_replaced e v l d) (λ v. room_none v l)
    (λ v d ds. room_both v l (replacement_of e d) (replacement_of_all e ds)) t u whole rest cs c

pub all_goes : (e : Entries) (l t u v : ℕ) (whole rest cs : Components) (c : Component)
    → room_after_all e u l rest ≡ room_after_all e t l whole
    → rest ≡ component c cs → Some v ≡ room_replaced e u l c → room_after_all e v l cs ≡ room_after_all e t l whole
all_goes e l t u v whole rest cs c =
    goes (λ v ds. room_after_all e v l ds) (λ v d. room_replaced e v l d) (λ v. room_none v l)
    (λ v d ds. room_both v l (replacement_of e d) (replacement_of_all e ds)) t u v whole rest cs c

pub all_ends : (e : Entries) (l t u : ℕ) (whole rest : Components)
    → room_after_all e u l rest ≡ room_after_all e t l whole
    → rest ≡ no_components → Some u ≡ room_after_all e t l whole
all_ends e l t u whole rest =
    ends (λ v ds. room_after_all e v l ds) (λ v d. room_replaced e v l d) (λ v. room_none v l)
    (λ v d ds. room_both v l (replacement_of e d) (replacement_of_all e ds)) t u whole rest

-- ---- one component value

pub one_token : (t l : ℕ) (c : Component) (token : Token) → c ≡ preserved token
    → room_after_token t ≡ room_after_one t l c
one_token t l c token e = sym (ap (room_after_one t l) e ∙ room_token t l token)

pub one_block : (t l : ℕ) (c : Component) (head : Token) (cs : Components) (close : Option Token)
    → c ≡ simple_block head cs close
    → option_and_then (λ u. room_after u (l - 1) cs) (room_in close t l) ≡ room_after_one t l c
one_block t l c head cs close e = sym (ap (room_after_one t l) e ∙ room_block t l head cs close)

pub one_function : (t l : ℕ) (c : Component) (head : Token) (cs : Components) (close : Option Token)
    → c ≡ function_block head cs close
    → option_and_then (λ u. room_after u (l - 1) cs) (room_in close t l) ≡ room_after_one t l c
one_function t l c head cs close e = sym (ap (room_after_one t l) e ∙ room_function t l head cs close)

pub replaced_token : (e : Entries) (t l : ℕ) (c : Component) (token : Token) → c ≡ preserved token
    → room_after_token t ≡ room_replaced e t l c
replaced_token e t l c token h = sym (ap (room_replaced e t l) h ∙ room_token t l token)

pub replaced_block : (e : Entries) (t l : ℕ) (c : Component) (head : Token) (cs : Components) (close : Option Token)
    → c ≡ simple_block head cs close
    → option_and_then (λ u. room_after_all e u (l - 1) cs) (room_in close t l) ≡ room_replaced e t l c
replaced_block e t l c head cs close h =
    sym (ap (room_replaced e t l) h ∙ room_around t l head close (replacement_of_all e cs))

pub replaced_function : (e : Entries) (t l : ℕ) (c : Component) (head : Token) (cs : Components) (close : Option Token)
    → c ≡ function_block head cs close → is_var_type head.token_type ≡ false
    → option_and_then (λ u. room_after_all e u (l - 1) cs) (room_in close t l) ≡ room_replaced e t l c
replaced_function e t l c head cs close h f =
    sym (ap (room_replaced e t l) h ∙ (ap (option_and_then (room_after t l)) (function_is e head cs close f)
    ∙ room_around_function t l head close (replacement_of_all e cs)))

pub replaced_var : (e : Entries) (t l : ℕ) (c : Component) (head : Token) (cs : Components) (close : Option Token)
    → c ≡ function_block head cs close → is_var_type head.token_type ≡ true
    → option_and_then (room_after t l) (var_replacement e cs) ≡ room_replaced e t l c
replaced_var e t l c head cs close h v =
    sym (ap (room_replaced e t l) h ∙ ap (option_and_then (room_after t l)) (var_is e head cs close v))

-- ---- the limits

pub substituted_within : (e : Entries) (value : Components) (left : ℕ) → has_var value ≡ true
    → Some left ≡ room_after_all e MAX_SUBSTITUTED_TOKENS MAX_NESTING value
    → replacement_of_all e value ≡ substituted e value
substituted_within e value left h r = rw h (sym (within_room (replacement_of_all e value) left r))

pub substituted_over : (e : Entries) (value : Components) → has_var value ≡ true
    → None ≡ room_after_all e MAX_SUBSTITUTED_TOKENS MAX_NESTING value → None ≡ substituted e value
substituted_over e value h r = rw h (sym (over_room (replacement_of_all e value) r))
