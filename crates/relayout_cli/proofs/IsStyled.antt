-- An element is asked for its name and its `style`, and a page for its rules and then for its elements.
use Rattle.std.proofs.Common.{◌≡◌, ◌∙◌, ap, sym, refl, ℕ, List, [], Bool, true, false, Option, Some, None, option_map, is_some, unwrap_or, codes, encode_utf8_all}
use Rattle.std.specs.Str.{bytes_eq}
use Rattle.std.specs.List.{list_any}
use Rattle.std.proofs.lemmas.Bool.Decides.{same_from_decides}
use Rattle.std.proofs.lemmas.Slice.Eq.{bytes_eq-Decides}
use Rattle.std.proofs.lemmas.Str.{encodes_same}
use Rattle.page_laws.proofs.AttributesInOrder.{same-text, text-same}
use Rattle.page_model.specs.Attributes.{is_same_text}
use Rattle.page_model.specs.Document.{Node, name_at, value_at}
use Rattle.page_model.specs.Pages.{Page}
use Rattle.page_model.specs.Trees.{Text}
use Rattle.selectors_model.specs.Elements.{is_same_name}
use Rattle.selectors_model.specs.Matching.{elements_of}
use Rattle.request_model.specs.States.{has_style_rule, is_styled, is_styled_page}

-- a name is compared in UTF-8
same-encoded : (name text : Text) → bytes_eq (encode_utf8_all name) (encode_utf8_all text) ≡ is_same_text name text
same-encoded name text =
    same_from_decides {P = name ≡ text} (bytes_eq (encode_utf8_all name) (encode_utf8_all text)) (is_same_text name text)
    ((λ t. encodes_same name text ((bytes_eq-Decides _ _).0 t)), (λ e. (bytes_eq-Decides _ _).1 (ap encode_utf8_all e)))
    (same-text name text, (λ e. ap (is_same_text name) (sym e) ∙ text-same name))

pub name-is : (name : Option Text) (tag text bytes : List ℕ) (b : Bool) → b ≡ bytes_eq tag bytes → bytes ≡ encode_utf8_all text
    → Some tag ≡ option_map encode_utf8_all name → b ≡ is_same_name name (Some text)
name-is None tag text bytes b is spelled t = absurd (cc)
name-is (Some name) tag text bytes b is spelled t =
    is ∙ (ap (bytes_eq tag) spelled
    ∙ (ap (λ x. bytes_eq x (encode_utf8_all text)) (ap (λ (o : Option (List ℕ)). unwrap_or o []) t) ∙ same-encoded name text))

some-mapped : {X Y : Type 0} (f : X → Y) (o : Option X) → is_some (option_map f o) ≡ is_some o
some-mapped f None = refl
some-mapped f (Some x) = refl

-- a `div` is such by its `style`
pub styled-by-attribute : {X : Type 0} (f : X → List ℕ) (root : Node) (i : ℕ) (value : Option X) (div b : Bool) → div ≡ is_same_name (name_at i root) (Some (codes "div")) → div ≡ true
    → option_map f value ≡ option_map encode_utf8_all (value_at (codes "style") i root) → b ≡ is_some value → b ≡ is_styled root i
styled-by-attribute f root i value div b name is v some =
    let named : is_same_name (name_at i root) (Some (codes "div")) ≡ true = sym name ∙ is in
    rw named (some ∙ (sym (some-mapped f value) ∙ (ap is_some v ∙ some-mapped encode_utf8_all (value_at (codes "style") i root))))

pub page-by-rules : (page : Page) → list_any has_style_rule page.sheets ≡ true → true ≡ is_styled_page page
page-by-rules page is = rw is refl

pub page-by-elements : (page : Page) (b : Bool) → list_any has_style_rule page.sheets ≡ false
    → b ≡ list_any (is_styled page.document.root) (elements_of page.document.root) → b ≡ is_styled_page page
page-by-elements page b is e = rw is e
