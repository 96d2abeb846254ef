-- Component values of one kind are none of another.
use Rattle.std.proofs.Common.{◌≡◌, refl, true, false}
use Rattle.std.specs.Option.{is_some}
use Rattle.css_model.specs.declared.token.TokenType.{TokenType}
use Rattle.css_model.specs.declared.token.TokenType.TheVariants.{AtKeyword}
use Rattle.css_model.specs.Components.{Component, preserved, simple_block, function_block}
use Rattle.rules_model.specs.ComponentLists.{is_whitespace, is_whitespace_type, is_cdo_or_cdc_type, is_semicolon, is_semicolon_type, is_token, at_keyword_of, at_keyword_of_type, is_curly_block}

pub keyword-whitespace_type : (k : TokenType) → is_some (at_keyword_of_type k) ≡ true
    → is_whitespace_type k ≡ false
keyword-whitespace_type (AtKeyword name) e = refl
keyword-whitespace_type other e = cc

pub keyword-cdo_type : (k : TokenType) → is_some (at_keyword_of_type k) ≡ true
    → is_cdo_or_cdc_type k ≡ false
keyword-cdo_type (AtKeyword name) e = refl
keyword-cdo_type other e = cc

pub keyword-semicolon_type : (k : TokenType) → is_some (at_keyword_of_type k) ≡ true
    → is_semicolon_type k ≡ false
keyword-semicolon_type (AtKeyword name) e = refl
keyword-semicolon_type other e = cc

pub keyword-whitespace : (c : Component) → is_some (at_keyword_of c) ≡ true
    → is_whitespace c ≡ false
keyword-whitespace (preserved t) e = keyword-whitespace_type t.token_type e
keyword-whitespace (simple_block head contents close) e = refl
keyword-whitespace (function_block head contents close) e = refl

pub keyword-cdo : (c : Component) → is_some (at_keyword_of c) ≡ true
    → is_token is_cdo_or_cdc_type c ≡ false
keyword-cdo (preserved t) e = keyword-cdo_type t.token_type e
keyword-cdo (simple_block head contents close) e = refl
keyword-cdo (function_block head contents close) e = refl

pub keyword-semicolon : (c : Component) → is_some (at_keyword_of c) ≡ true → is_semicolon c ≡ false
keyword-semicolon (preserved t) e = keyword-semicolon_type t.token_type e
keyword-semicolon (simple_block head contents close) e = refl
keyword-semicolon (function_block head contents close) e = refl

pub curly-whitespace : (c : Component) → is_curly_block c ≡ true → is_whitespace c ≡ false
curly-whitespace (preserved t) e = cc
curly-whitespace (simple_block head contents close) e = refl
curly-whitespace (function_block head contents close) e = refl

pub curly-cdo : (c : Component) → is_curly_block c ≡ true → is_token is_cdo_or_cdc_type c ≡ false
curly-cdo (preserved t) e = cc
curly-cdo (simple_block head contents close) e = refl
curly-cdo (function_block head contents close) e = refl

pub curly-keyword : (c : Component) → is_curly_block c ≡ true → is_some (at_keyword_of c) ≡ false
curly-keyword (preserved t) e = cc
curly-keyword (simple_block head contents close) e = refl
curly-keyword (function_block head contents close) e = refl
