-- How many tokens may still follow component values.
use Rattle.std.specs.Prelude.{ℕ, zero, suc, nat_le, ◌-◌, ◌&&◌, if◌then◌else◌, length, Option, Some, None, option_and_then}
use Rattle.css_model.specs.declared.token.Token.{Token}
use Rattle.css_model.specs.Components.{Component, Components, all_tokens_of, depths}
use Rattle.custom_model.specs.Substitution.{one_component}

-- after so many tokens, nested so deep, where so many tokens and levels may be
abbrev pub room_of : (tokens levels count depth : ℕ) → Option ℕ
room_of tokens levels count depth =
    if nat_le count tokens && nat_le depth levels then Some (tokens - count) else None

unfoldable pub room_after : (tokens levels : ℕ) → Components → Option ℕ
room_after tokens levels cs = room_of tokens levels (length (all_tokens_of cs)) (depths cs)

abbrev pub room_after_one : (tokens levels : ℕ) → Component → Option ℕ
room_after_one tokens levels c = room_after tokens levels (one_component c)

-- what may follow one token
abbrev pub room_after_token : ℕ → Option ℕ
room_after_token zero = None
room_after_token (suc n) = Some n

-- what may follow the token that closes a bracket, if one does
abbrev pub room_after_close : Option Token → ℕ → Option ℕ
room_after_close None tokens = Some tokens
room_after_close (Some t) tokens = room_after_token tokens

-- what may be in a pair of brackets
abbrev pub room_in : Option Token → (tokens levels : ℕ) → Option ℕ
room_in close tokens zero = None
room_in close tokens (suc levels) = option_and_then (room_after_close close) (room_after_token tokens)
