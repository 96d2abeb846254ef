-- What white space, a comma and a name are not.
use Rattle.std.proofs.Common.{◌≡◌, ◌∙◌, sym, refl, [], true, false, inl, inr, Some, None, if◌then◌else◌, option_and_then}
use Rattle.std.proofs.lemmas.Bool.{cases_Bool, false≢true}
use Rattle.std.proofs.lemmas.Option.{none-some}
use Rattle.css_model.specs.declared.token.TokenType.{TokenType}
use Rattle.css_model.specs.declared.token.TokenType.TheVariants.{Comma, Whitespace}
use Rattle.css_model.specs.Classes.{Text}
use Rattle.css_model.specs.Components.{Component, preserved, simple_block, function_block}
use Rattle.rules_model.specs.ComponentLists.{ident_of_type, is_whitespace, is_whitespace_type}
use Rattle.custom_model.specs.References.{custom_name_of, is_comma, is_comma_type, is_custom_name, vars_in}

no-comma-type : (t : TokenType) → is_whitespace_type t ≡ true → is_comma_type t ≡ false
no-comma-type Comma h = absurd (false≢true h)
no-comma-type other h = refl

-- white space is no `,`
pub space-no-comma : (c : Component) → is_whitespace c ≡ true → is_comma c ≡ false
space-no-comma (preserved t) h = no-comma-type t.token_type h
space-no-comma (simple_block head contents close) h = refl
space-no-comma (function_block head contents close) h = refl

-- and the other way round
pub comma-no-space : (c : Component) → is_comma c ≡ true → is_whitespace c ≡ false
comma-no-space c h = elim (cases_Bool (is_whitespace c)) [
  | inl t ↦ absurd (false≢true (sym (space-no-comma c t) ∙ h))
  | inr f ↦ f
]

no-comma-name : (t : TokenType) (name : Text)
    → option_and_then (λ n. if is_custom_name n then Some n else None) (ident_of_type t) ≡ Some name
    → is_comma_type t ≡ false
no-comma-name Comma name h = absurd (none-some name h)
no-comma-name other name h = refl

-- a name is neither
pub name-no-comma : (c : Component) (name : Text) → custom_name_of c ≡ Some name → is_comma c ≡ false
name-no-comma (preserved t) name h = no-comma-name t.token_type name h
name-no-comma (simple_block head contents close) name h = refl
name-no-comma (function_block head contents close) name h = refl

no-space-name : (t : TokenType) (name : Text)
    → option_and_then (λ n. if is_custom_name n then Some n else None) (ident_of_type t) ≡ Some name
    → is_whitespace_type t ≡ false
no-space-name Whitespace name h = absurd (none-some name h)
no-space-name other name h = refl

pub name-no-space : (c : Component) (name : Text) → custom_name_of c ≡ Some name → is_whitespace c ≡ false
name-no-space (preserved t) name h = no-space-name t.token_type name h
name-no-space (simple_block head contents close) name h = refl
name-no-space (function_block head contents close) name h = refl

-- ---- there is no `var()` in them

pub space-no-var : (c : Component) → is_whitespace c ≡ true → vars_in c ≡ []
space-no-var (preserved t) h = refl
space-no-var (simple_block head contents close) h = absurd (false≢true h)
space-no-var (function_block head contents close) h = absurd (false≢true h)

pub comma-no-var : (c : Component) → is_comma c ≡ true → vars_in c ≡ []
comma-no-var (preserved t) h = refl
comma-no-var (simple_block head contents close) h = absurd (false≢true h)
comma-no-var (function_block head contents close) h = absurd (false≢true h)

pub name-no-var : (c : Component) (name : Text) → custom_name_of c ≡ Some name → vars_in c ≡ []
name-no-var (preserved t) name h = refl
name-no-var (simple_block head contents close) name h = absurd (none-some name h)
name-no-var (function_block head contents close) name h = absurd (none-some name h)
