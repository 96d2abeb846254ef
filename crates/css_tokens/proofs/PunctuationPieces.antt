-- A text that begins with punctuation begins with a piece of one code point.
use Rattle.std.proofs.Common.{◌≡◌, ◌∙◌, ap, refl, sym, ℕ, ◌==◌, ◌||◌, not, [], ◌∷◌, Bool, true, false}
use Rattle.std.proofs.lemmas.Bool.{false≢true}
use Rattle.std.specs.Prelude.{Some}
use Rattle.css_model.specs.Classes.{Text, is_whitespace, is_quote, is_sign, is_digit, is_ident_char, backslash, solidus, full_stop, hyphen, less_than, number_sign, commercial_at}
use Rattle.css_model.specs.declared.place.Place.TheVariants.{InName}
use Rattle.css_model.specs.declared.token.TokenType.{TokenType}
use Rattle.css_model.specs.Parts.{may_stand, itself}
use Rattle.css_model.specs.Spellings.{singles, single_of}
use Rattle.css_model.specs.TokenList.{token}
use Rattle.css_model.specs.inner.Fronts.{parts_in, escape_in}
use Rattle.css_model.specs.inner.Pieces.{first_piece}
use Rattle.css_model.proofs.PartLemmas.{parts_in-stop}
use Rattle.css_model.proofs.Singles.{row-found}
use Rattle.css_model.proofs.Tests.{pick-false}

-- none of these begins with it
abbrev begins_more : ℕ → Bool
begins_more c =
    is_whitespace c || (is_quote c || ((c == solidus) || (is_sign c || (is_digit c || ((c == full_stop) || ((c == hyphen)
    || (is_ident_char c || ((c == backslash) || ((c == less_than) || ((c == number_sign) || (c == commercial_at)))))))))))

or-left : (a b : Bool) → (a || b) ≡ false → a ≡ false
or-left true b e = e
or-left false b e = refl

or-right : (a b : Bool) → (a || b) ≡ false → b ≡ false
or-right true b e = absurd (false≢true (sym e))
or-right false b e = e

no : (b : Bool) → not b ≡ true → b ≡ false
no true e = absurd (false≢true e)
no false e = refl

pub punctuation-first : (c : ℕ) (cs : Text) (t : TokenType) → single_of c ≡ Some t → first_piece c cs ≡ token t (c ∷ [])
punctuation-first c cs t e =
    let none : begins_more c ≡ false = no (begins_more c) (row-found (λ d k. not (begins_more d)) singles refl c t e) in
    let w : is_whitespace c ≡ false = or-left _ _ none in
    let n1 = or-right (is_whitespace c) _ none in
    let q : is_quote c ≡ false = or-left _ _ n1 in
    let n2 = or-right (is_quote c) _ n1 in
    let s : (c == solidus) ≡ false = or-left _ _ n2 in
    let n3 = or-right (c == solidus) _ n2 in
    let g : is_sign c ≡ false = or-left _ _ n3 in
    let n4 = or-right (is_sign c) _ n3 in
    let d : is_digit c ≡ false = or-left _ _ n4 in
    let n5 = or-right (is_digit c) _ n4 in
    let p : (c == full_stop) ≡ false = or-left _ _ n5 in
    let n6 = or-right (c == full_stop) _ n5 in
    let h : (c == hyphen) ≡ false = or-left _ _ n6 in
    let n7 = or-right (c == hyphen) _ n6 in
    let i : is_ident_char c ≡ false = or-left _ _ n7 in
    let n8 = or-right (is_ident_char c) _ n7 in
    let b : (c == backslash) ≡ false = or-left _ _ n8 in
    let n9 = or-right (c == backslash) _ n8 in
    let l : (c == less_than) ≡ false = or-left _ _ n9 in
    let n10 = or-right (c == less_than) _ n9 in
    let m : (c == number_sign) ≡ false = or-left _ _ n10 in
    let a : (c == commercial_at) ≡ false = or-right (c == number_sign) _ n10 in
    let parts : parts_in InName (c ∷ cs) ≡ [] = parts_in-stop InName c cs (ap (may_stand InName) (pick-false (c == backslash) (escape_in cs) (itself c) b) ∙ i) in
    rw (w, q, s, g, d, p, h, parts, l, m, a, e) refl
