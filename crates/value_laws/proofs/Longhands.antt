-- The properties that a shorthand sets.
use Rattle.std.proofs.Common.{◌≡◌, ap, refl, List, [], ◌∷◌, map}
use Rattle.std.specs.Prelude.{Option, Some, None, option_map, if◌then◌else◌}
use Rattle.std.specs.Option.{IfSome, option_or}
use Rattle.css_model.specs.Components.{Component, Components}
use Rattle.value_model.specs.declared.prop.Prop.{Prop}
use Rattle.value_model.specs.declared.prop.Prop.TheVariants.{BackgroundColor, ContainerName, ContainerType}
use Rattle.value_model.specs.declared.wide_keyword.WideKeyword.{WideKeyword}
use Rattle.value_model.specs.Forms.{in_front, is_none_alone}
use Rattle.value_model.specs.Grammar.{own_value_of, wide_keyword_of}
use Rattle.value_model.specs.Shorthands
use Rattle.value_model.specs.Shorthands.{Longhand, Border, BorderParts, Shorthand, four_sides, two_sides, borders, background, container, all, longhands, border_longhands, longhand, border_values, border_values_of, border_parts, own_values_of, expansion_of, expansion_of_words, before_slash, after_slash, container_type_of}
use Rattle.value_model.specs.Values.{Value, wide_keyword}
use Rattle.value_model.specs.Words.{words_of}

-- these are of these properties
abbrev AreOf : List Prop → List Longhand → Type 0
AreOf ps ls = map (λ l. l.0) ls ≡ ps

-- one more in front
front-of : (p : Prop) (o : Option Value) (rest : Option (List Longhand)) (ps : List Prop)
    → IfSome rest (AreOf ps) → IfSome (in_front (option_map (λ v. (p, v)) o) rest) (AreOf (p ∷ ps))
front-of p None rest ps h = tt
front-of p (Some v) None ps h = tt
front-of p (Some v) (Some ls) ps h = ap (λ qs. p ∷ qs) h

last-of : (p : Prop) (o : Option Value)
    → IfSome (in_front (option_map (λ v. (p, v)) o) (Some [])) (AreOf (p ∷ []))
last-of p o = front-of p o (Some []) [] refl

two-of : (p q : Prop) (w x : Component)
    → IfSome (Shorthands.each_of_two_values p q w x) (AreOf (p ∷ q ∷ []))
two-of p q w x =
    front-of p (own_value_of p (w ∷ [])) (in_front (longhand q x) (Some [])) (q ∷ [])
    (last-of q (own_value_of q (x ∷ [])))

four-of : (t r b l : Prop) (w x y z : Component)
    → IfSome (Shorthands.each_of_four_values t r b l w x y z) (AreOf (t ∷ r ∷ b ∷ l ∷ []))
four-of t r b l w x y z =
    front-of t (own_value_of t (w ∷ [])) (in_front (longhand r x) (in_front (longhand b y) (in_front (longhand l z) (Some []))))
    (r ∷ b ∷ l ∷ [])
    (front-of r (own_value_of r (x ∷ [])) (in_front (longhand b y) (in_front (longhand l z) (Some []))) (b ∷ l ∷ [])
    (two-of b l y z))

each-two : (p q : Prop) (words : List Component) → IfSome (Shorthands.each_of_two p q words) (AreOf (p ∷ q ∷ []))
each-two p q [] = tt
each-two p q (w ∷ []) = two-of p q w w
each-two p q (w ∷ x ∷ []) = two-of p q w x
each-two p q (w ∷ x ∷ y ∷ words) = tt

each-four : (t r b l : Prop) (words : List Component)
    → IfSome (Shorthands.each_of_four t r b l words) (AreOf (t ∷ r ∷ b ∷ l ∷ []))
each-four t r b l [] = tt
each-four t r b l (w ∷ []) = four-of t r b l w w w w
each-four t r b l (w ∷ x ∷ []) = four-of t r b l w x w x
each-four t r b l (w ∷ x ∷ y ∷ []) = four-of t r b l w x y x
each-four t r b l (w ∷ x ∷ y ∷ z ∷ []) = four-of t r b l w x y z
each-four t r b l (w ∷ x ∷ y ∷ z ∷ v ∷ words) = tt

border-of : (sides : List Border) (parts : BorderParts)
    → map (λ l. l.0) (border_values sides parts) ≡ border_longhands sides
border-of [] parts = refl
border-of (b ∷ sides) parts = ap (λ ps. b.width ∷ b.style ∷ b.color ∷ ps) (border-of sides parts)

borders-of : (sides : List Border) (o : Option BorderParts)
    → IfSome (option_map (border_values sides) o) (AreOf (border_longhands sides))
borders-of sides None = tt
borders-of sides (Some parts) = border-of sides parts

border-words : (sides : List Border) (words : List Component)
    → IfSome (border_values_of sides words) (AreOf (border_longhands sides))
border-words sides [] = tt
border-words sides (c ∷ cs) = borders-of sides (border_parts (c ∷ cs))

own-values : (s : Shorthand) (words : List Component) → IfSome (own_values_of s words) (AreOf (longhands s))
own-values (four_sides t r b l) words = each-four t r b l words
own-values (two_sides p q) words = each-two p q words
own-values (borders sides) words = border-words sides words
own-values background words = last-of BackgroundColor
    (if is_none_alone words then Some Shorthands.transparent else own_value_of BackgroundColor words)
own-values container words =
    front-of ContainerName (own_value_of ContainerName (before_slash words))
    (in_front (option_map (λ v. (ContainerType, v)) (container_type_of (after_slash words))) (Some []))
    (ContainerType ∷ []) (last-of ContainerType (container_type_of (after_slash words)))
own-values all words = tt

wide-values : (ps : List Prop) (w : WideKeyword) → AreOf ps (map (λ p. (p, wide_keyword w)) ps)
wide-values [] w = refl
wide-values (p ∷ ps) w = ap (λ qs. p ∷ qs) (wide-values ps w)

either : (ps : List Prop) (o : Option WideKeyword) (rest : Option (List Longhand)) → IfSome rest (AreOf ps)
    → IfSome (option_or (option_map (λ w. map (λ p. (p, wide_keyword w)) ps) o) rest) (AreOf ps)
either ps None rest h = h
either ps (Some w) rest h = wide-values ps w

-- a shorthand sets its longhands
pub set-longhands : (s : Shorthand) (cs : Components) → IfSome (expansion_of s cs) (AreOf (longhands s))
set-longhands s cs = either (longhands s) (wide_keyword_of (words_of cs)) (own_values_of s (words_of cs)) (own-values s (words_of cs))
