-- What a shorthand sets computes to computed values.
use Rattle.std.proofs.Common.{◌≡◌, refl, List, [], ◌∷◌, map, Bool, true, false, if◌then◌else◌}
use Rattle.std.specs.Prelude.{ℤ, Option, Some, None, IfSome, option_map, option_and_then, unwrap_or, is_some}
use Rattle.std.specs.List.{All, AllByRecursion}
use Rattle.std.specs.Map.{lookup}
use Rattle.std.specs.Str.{str_eq_ignore_ascii_case}
use Rattle.std.proofs.lemmas.Option.{IfSome_then}
use Rattle.std.proofs.lemmas.List.Elements.{All-nil, All-cons}
use Rattle.css_model.specs.Classes.{Text}
use Rattle.css_model.specs.Components.{Component, Components}
use Rattle.value_model.specs.declared.color.Color.TheVariants.{CurrentColor}
use Rattle.value_model.specs.declared.keyword.Keyword.TheVariants.{None as NoneKeyword, Medium}
use Rattle.value_model.specs.declared.length_unit.Bases.{Bases}
use Rattle.value_model.specs.declared.prop.Prop.{Prop}
use Rattle.value_model.specs.declared.prop.Prop.TheVariants.{BorderTopWidth, BorderTopStyle, BorderTopColor, BackgroundColor, ContainerName, ContainerType}
use Rattle.value_model.specs.declared.wide_keyword.WideKeyword.{WideKeyword}
use Rattle.value_model.specs.Forms.{in_front, is_none_alone, unless}
use Rattle.value_model.specs.Grammar.{own_value_of, wide_keyword_of}
use Rattle.value_model.specs.Properties.{property}
use Rattle.value_model.specs.Shorthands
use Rattle.value_model.specs.Shorthands.{Longhand, Border, BorderParts, Shorthand, four_sides, two_sides, borders, background, container, all, top_border, right_border, bottom_border, left_border, longhands, longhand, with_width, with_style, with_color, border_part, border_parts, border_values, border_values_of, own_values_of, expansion_of, before_slash, after_slash, container_type_of, transparent, shorthands, shorthand_of_name}
use Rattle.value_model.specs.Values.{Value, wide_keyword, keyword_value, color_value}
use Rattle.value_model.specs.Words.{words_of}
use Rattle.value_laws.specs.ComputedForms.{Computes}
use Rattle.value_laws.proofs.Computed.{computes-forms, initial-computed}
use Rattle.value_laws.proofs.Found.{if-all, if-map, if-then, if-or, if-either, from-if}
use Rattle.value_laws.proofs.Values.{of-forms}

-- the values of these longhands compute
abbrev pub AllCompute : Bases → ℤ → List Longhand → Type 0
AllCompute b f ls = All (λ l. Computes b f l.0 l.1) ls

nothing : (b : Bases) (f : ℤ) → AllCompute b f []
nothing b f = All-nil (λ l. Computes b f l.0 l.1)

one-more : (b : Bases) (f : ℤ) (p : Prop) (v : Value) (ls : List Longhand) → Computes b f p v
    → AllCompute b f ls
    → AllCompute b f ((p, v) ∷ ls)
one-more b f p v ls h k = All-cons (λ l. Computes b f l.0 l.1) (p, v) ls h k

-- ---- one value for each side

own : (b : Bases) (f : ℤ) (p : Prop) (words : List Component)
    → IfSome (own_value_of p words) (Computes b f p)
own b f p words = of-forms (property p).forms (Computes b f p) (computes-forms p b f) words

front-of : (b : Bases) (f : ℤ) (p : Prop) (o : Option Value) (rest : Option (List Longhand))
    → IfSome o (Computes b f p) → IfSome rest (AllCompute b f)
    → IfSome (in_front (option_map (λ v. (p, v)) o) rest) (AllCompute b f)
front-of b f p None rest h k = tt
front-of b f p (Some v) None h k = tt
front-of b f p (Some v) (Some ls) h k = one-more b f p v ls h k

last-of : (b : Bases) (f : ℤ) (p : Prop) (o : Option Value) → IfSome o (Computes b f p)
    → IfSome (in_front (option_map (λ v. (p, v)) o) (Some [])) (AllCompute b f)
last-of b f p o h = front-of b f p o (Some []) h (nothing b f)

two-of : (b : Bases) (f : ℤ) (p q : Prop) (w x : Component)
    → IfSome (Shorthands.each_of_two_values p q w x) (AllCompute b f)
two-of b f p q w x =
    front-of b f p (own_value_of p (w ∷ [])) (in_front (longhand q x) (Some []))
    (own b f p (w ∷ []))
    (last-of b f q (own_value_of q (x ∷ [])) (own b f q (x ∷ [])))

four-of : (b : Bases) (f : ℤ) (p q r s : Prop) (w x y z : Component)
    → IfSome (Shorthands.each_of_four_values p q r s w x y z) (AllCompute b f)
four-of b f p q r s w x y z =
    front-of b f p (own_value_of p (w ∷ []))
    (in_front (longhand q x) (in_front (longhand r y) (in_front (longhand s z) (Some []))))
    (own b f p (w ∷ []))
    (front-of b f q (own_value_of q (x ∷ []))
    (in_front (longhand r y) (in_front (longhand s z) (Some [])))
    (own b f q (x ∷ [])) (two-of b f r s y z))

each-two : (b : Bases) (f : ℤ) (p q : Prop) (words : List Component)
    → IfSome (Shorthands.each_of_two p q words) (AllCompute b f)
each-two b f p q [] = tt
each-two b f p q (w ∷ []) = two-of b f p q w w
each-two b f p q (w ∷ x ∷ []) = two-of b f p q w x
each-two b f p q (w ∷ x ∷ y ∷ words) = tt

each-four : (b : Bases) (f : ℤ) (p q r s : Prop) (words : List Component)
    → IfSome (Shorthands.each_of_four p q r s words) (AllCompute b f)
each-four b f p q r s [] = tt
each-four b f p q r s (w ∷ []) = four-of b f p q r s w w w w
each-four b f p q r s (w ∷ x ∷ []) = four-of b f p q r s w x w x
each-four b f p q r s (w ∷ x ∷ y ∷ []) = four-of b f p q r s w x y x
each-four b f p q r s (w ∷ x ∷ y ∷ z ∷ []) = four-of b f p q r s w x y z
each-four b f p q r s (w ∷ x ∷ y ∷ z ∷ v ∷ words) = tt

-- ---- borders

-- the parts of a border, as those of the top border
record PartsCompute (b : Bases) (f : ℤ) (parts : BorderParts) : Type 0 where
  width : IfSome parts.width (Computes b f BorderTopWidth)
  style : IfSome parts.style (Computes b f BorderTopStyle)
  color : IfSome parts.color (Computes b f BorderTopColor)

unless-there : {X : Type 0} (P : X → Type 0) (there : Bool) (x : X) → P x
    → IfSome (unless there x) P
unless-there P true x h = tt
unless-there P false x h = h

-- what this adds to parts that compute gives such parts
abbrev Adds : Bases → ℤ → (BorderParts → Option BorderParts) → Type 0
Adds b f add = (parts : BorderParts) → PartsCompute b f parts → IfSome (add parts)
    (PartsCompute b f)

part-of : (b : Bases) (f : ℤ) (c : Component) → IfSome (border_part c) (Adds b f)
part-of b f c =
    if-or (Adds b f) (option_map with_width (own_value_of BorderTopWidth (c ∷ []))) _
    (if-map with_width (Adds b f) (own_value_of BorderTopWidth (c ∷ []))
    (with-part BorderTopWidth with_width
    (λ v h parts k. unless-there (PartsCompute b f) (is_some parts.width) _
    (record { width = h; style = k.style; color = k.color }))))
    (if-or (Adds b f) (option_map with_style (own_value_of BorderTopStyle (c ∷ []))) _
    (if-map with_style (Adds b f) (own_value_of BorderTopStyle (c ∷ []))
    (with-part BorderTopStyle with_style
    (λ v h parts k. unless-there (PartsCompute b f) (is_some parts.style) _
    (record { width = k.width; style = h; color = k.color }))))
    (if-map with_color (Adds b f) (own_value_of BorderTopColor (c ∷ []))
    (with-part BorderTopColor with_color
    (λ v h parts k. unless-there (PartsCompute b f) (is_some parts.color) _
    (record { width = k.width; style = k.style; color = h })))))
  where
    with-part : (p : Prop) (with : Value → BorderParts → Option BorderParts)
        → ((v : Value) → Computes b f p v → Adds b f (with v))
        → IfSome (own_value_of p (c ∷ [])) (λ v. Adds b f (with v))
    with-part p with h = IfSome_then (own_value_of p (c ∷ [])) (own b f p (c ∷ [])) h

parts-of : (b : Bases) (f : ℤ) (words : List Component)
    → IfSome (border_parts words) (PartsCompute b f)
parts-of b f [] = record { width = tt; style = tt; color = tt }
parts-of b f (c ∷ cs) =
    if-then (λ add. option_and_then add (border_parts cs)) (PartsCompute b f) (border_part c)
    (added (border_part c) (part-of b f c) (border_parts cs) (parts-of b f cs))
  where
    added : (o : Option (BorderParts → Option BorderParts)) → IfSome o (Adds b f)
        → (rest : Option BorderParts) → IfSome rest (PartsCompute b f)
        → IfSome o (λ add. IfSome (option_and_then add rest) (PartsCompute b f))
    added None h rest k = tt
    added (Some add) h None k = tt
    added (Some add) h (Some parts) k = h parts k

-- what computes for the top border computes for this border
pub record AsTop (b : Bases) (f : ℤ) (side : Border) : Type 0 where
  width : (v : Value) → Computes b f BorderTopWidth v → Computes b f side.width v
  style : (v : Value) → Computes b f BorderTopStyle v → Computes b f side.style v
  color : (v : Value) → Computes b f BorderTopColor v → Computes b f side.color v

or-initial : (P : Value → Type 0) (o : Option Value) (v : Value) → IfSome o P → P v
    → P (unwrap_or o v)
or-initial P None v h k = k
or-initial P (Some x) v h k = h

abbrev width-in : BorderParts → Value
width-in parts = unwrap_or parts.width (keyword_value Medium)

abbrev style-in : BorderParts → Value
style-in parts = unwrap_or parts.style (keyword_value NoneKeyword)

abbrev color-in : BorderParts → Value
color-in parts = unwrap_or parts.color (color_value CurrentColor)

values-of : (b : Bases) (f : ℤ) (sides : List Border) → AllByRecursion (AsTop b f) sides
    → (parts : BorderParts) → PartsCompute b f parts → AllCompute b f (border_values sides parts)
values-of b f [] h parts k = nothing b f
values-of b f (side ∷ sides) h parts k =
    let width : Computes b f side.width (width-in parts) =
    h.0.width (width-in parts)
    (or-initial (Computes b f BorderTopWidth) parts.width (keyword_value Medium) k.width
    (λ _. refl)) in
    let style : Computes b f side.style (style-in parts) =
    h.0.style (style-in parts)
    (or-initial (Computes b f BorderTopStyle) parts.style (keyword_value NoneKeyword) k.style
    (λ _. refl)) in
    let color : Computes b f side.color (color-in parts) =
    h.0.color (color-in parts)
    (or-initial (Computes b f BorderTopColor) parts.color (color_value CurrentColor) k.color
    (λ _. refl)) in
    let colored : List Longhand = (side.color, color-in parts) ∷ border_values sides parts in
    let styled : List Longhand = (side.style, style-in parts) ∷ colored in
    one-more b f side.width (width-in parts) styled width
    (one-more b f side.style (style-in parts) colored style
    (one-more b f side.color (color-in parts) (border_values sides parts) color
    (values-of b f sides h.1 parts k)))

sides-of : (b : Bases) (f : ℤ) (sides : List Border)
    → AllByRecursion (AsTop b f) sides
    → (words : List Component) → IfSome (border_values_of sides words) (AllCompute b f)
sides-of b f sides h [] = tt
sides-of b f sides h (c ∷ cs) =
    if-map (border_values sides) (AllCompute b f) (border_parts (c ∷ cs))
    (of-parts (border_parts (c ∷ cs)) (parts-of b f (c ∷ cs)))
  where
    of-parts : (o : Option BorderParts) → IfSome o (PartsCompute b f)
        → IfSome o (λ parts. AllCompute b f (border_values sides parts))
    of-parts None k = tt
    of-parts (Some parts) k = values-of b f sides h parts k

-- ---- all shorthands

-- the borders that a shorthand sets are as the top border
abbrev pub HasBorders : Bases → ℤ → Shorthand → Type 0
HasBorders b f (borders sides) = AllByRecursion (AsTop b f) sides
HasBorders b f s = Unit {0}

type-of : (b : Bases) (f : ℤ) (o : Option (List Component))
    → IfSome (container_type_of o) (Computes b f ContainerType)
type-of b f None = λ _. refl
type-of b f (Some words) = own b f ContainerType words

own-values : (b : Bases) (f : ℤ) (s : Shorthand) → HasBorders b f s
    → (words : List Component)
    → IfSome (own_values_of s words) (AllCompute b f)
own-values b f (four_sides p q r s) h words = each-four b f p q r s words
own-values b f (two_sides p q) h words = each-two b f p q words
own-values b f (borders sides) h words = sides-of b f sides h words
own-values b f background h words =
    last-of b f BackgroundColor
    (if is_none_alone words then Some transparent else own_value_of BackgroundColor words)
    (if-either (is_none_alone words) (Computes b f BackgroundColor) (Some transparent)
    (own_value_of BackgroundColor words)
    (λ _ _. refl) (λ _. own b f BackgroundColor words))
own-values b f container h words =
    front-of b f ContainerName (own_value_of ContainerName (before_slash words))
    (in_front (option_map (λ v. (ContainerType, v)) (container_type_of (after_slash words)))
    (Some []))
    (own b f ContainerName (before_slash words))
    (last-of b f ContainerType (container_type_of (after_slash words))
    (type-of b f (after_slash words)))
own-values b f all h words = tt

wide-values : (b : Bases) (f : ℤ) (ps : List Prop) (w : WideKeyword)
    → AllCompute b f (map (λ p. (p, wide_keyword w)) ps)
wide-values b f [] w = nothing b f
wide-values b f (p ∷ ps) w =
    one-more b f p (wide_keyword w) (map (λ p. (p, wide_keyword w)) ps) (λ _. initial-computed p)
    (wide-values b f ps w)

expansion-computes : (b : Bases) (f : ℤ) (s : Shorthand) → HasBorders b f s
    → (cs : Components)
    → IfSome (expansion_of s cs) (AllCompute b f)
expansion-computes b f s h cs =
    if-or (AllCompute b f)
    (option_map (λ w. map (λ p. (p, wide_keyword w)) (longhands s)) (wide_keyword_of (words_of cs)))
    (own_values_of s (words_of cs))
    (if-map (λ w. map (λ p. (p, wide_keyword w)) (longhands s)) (AllCompute b f)
    (wide_keyword_of (words_of cs))
    (if-all _ (wide_keyword_of (words_of cs)) (wide-values b f (longhands s))))
    (own-values b f s h (words_of cs))

-- ---- the table of shorthands

top-as_top : (b : Bases) (f : ℤ) → AsTop b f top_border
top-as_top b f = record { width = λ v h. h; style = λ v h. h; color = λ v h. h }

right-as_top : (b : Bases) (f : ℤ) → AsTop b f right_border
right-as_top b f = record { width = λ v h. h; style = λ v h. h; color = λ v h. h }

bottom-as_top : (b : Bases) (f : ℤ) → AsTop b f bottom_border
bottom-as_top b f = record { width = λ v h. h; style = λ v h. h; color = λ v h. h }

left-as_top : (b : Bases) (f : ℤ) → AsTop b f left_border
left-as_top b f = record { width = λ v h. h; style = λ v h. h; color = λ v h. h }

-- what holds of each entry holds of the one that is found
in-table : (P : Shorthand → Type 0) (test : Text → Bool) (table : List (Text × Shorthand))
    → AllByRecursion (λ e. P e.1) table → IfSome (lookup test table) P
in-table P test [] h = tt
in-table P test (e ∷ es) h = if-either (test e.0) P (Some e.1) (lookup test es) (λ _. h.0)
    (λ _. in-table P test es h.1)

table-borders : (b : Bases) (f : ℤ) → AllByRecursion (λ e. HasBorders b f e.1) shorthands
table-borders b f = (
  tt,
  (
    tt,
    (
      tt,
      (
        tt,
        (
          tt,
          (
            (top-as_top b f, (right-as_top b f, (bottom-as_top b f, (left-as_top b f, tt)))),
            (
              (top-as_top b f, tt),
              (
                (right-as_top b f, tt),
                (
                  (bottom-as_top b f, tt),
                  (
                    (left-as_top b f, tt),
                    (tt, (tt, (tt, (tt, (tt, (tt, (tt, tt))))))),
                  ),
                ),
              ),
            ),
          ),
        ),
      ),
    ),
  ),
)

pub shorthand-computes : (b : Bases) (f : ℤ) (name : Text) (s : Shorthand)
    → shorthand_of_name name ≡ Some s
    → (cs : Components) → IfSome (expansion_of s cs) (AllCompute b f)
shorthand-computes b f name s e cs =
    expansion-computes b f s
    (from-if (HasBorders b f) (shorthand_of_name name) s e
    (in-table (HasBorders b f) (str_eq_ignore_ascii_case name) shorthands (table-borders b f))) cs
