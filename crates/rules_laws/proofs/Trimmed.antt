-- A list of component values without the white space at its ends.
use Rattle.std.proofs.Common.{◌≡◌, ◌∙◌, ap, sym, refl, inl, inr, ◌&&◌, if◌then◌else◌, Bool, true, false}
use Rattle.std.proofs.lemmas.Bool.{cases_Bool}
use Rattle.css_model.specs.Components.{Component, Components, no_components, component}
use Rattle.css_model.specs.inner.Nesting.{followed}
use Rattle.rules_model.specs.ComponentLists.{is_whitespace, are_whitespace, without_front_whitespace, without_end_whitespace, trimmed}
use Rattle.rules_laws.proofs.Booleans.{and-left, and-right, and-false}
use Rattle.rules_laws.specs.Parts.{BeginsWithout, last_of, EndsWithout, IsPadded}

-- ---- white space in front

abbrev front_of : Components → Components
front_of no_components = no_components
front_of (component c cs) = if is_whitespace c then component c (front_of cs) else no_components

front-joined : (cs : Components) → cs ≡ followed (front_of cs) (without_front_whitespace cs)
front-joined no_components = refl
front-joined (component c cs) = elim (cases_Bool (is_whitespace c)) [
  | inl e ↦ rw e (ap (component c) (front-joined cs))
  | inr e ↦ rw e refl
]

front-whitespace : (cs : Components) → are_whitespace (front_of cs) ≡ true
front-whitespace no_components = refl
front-whitespace (component c cs) = elim (cases_Bool (is_whitespace c)) [
  | inl e ↦ rw (e, e) (front-whitespace cs)
  | inr e ↦ rw e refl
]

front-begins : (cs : Components) → BeginsWithout (without_front_whitespace cs)
front-begins no_components = tt
front-begins (component c cs) = elim (cases_Bool (is_whitespace c)) [
  | inl e ↦ rw e (front-begins cs)
  | inr e ↦ rw e e
]

front-all : (cs : Components) → are_whitespace cs ≡ true
    → without_front_whitespace cs ≡ no_components
front-all no_components e = refl
front-all (component c cs) e =
    rw (and-left (is_whitespace c) (are_whitespace cs) e)
    (front-all cs (and-right (is_whitespace c) (are_whitespace cs) e))

front-dropped : (front cs : Components) → are_whitespace front ≡ true
    → without_front_whitespace (followed front cs) ≡ without_front_whitespace cs
front-dropped no_components cs e = refl
front-dropped (component c front) cs e =
    rw (and-left (is_whitespace c) (are_whitespace front) e)
    (front-dropped front cs (and-right (is_whitespace c) (are_whitespace front) e))

-- ---- white space at the end

abbrev end_of : Components → Components
end_of no_components = no_components
end_of (component c cs) = if are_whitespace (component c cs) then component c cs else end_of cs

end-joined : (cs : Components) → cs ≡ followed (without_end_whitespace cs) (end_of cs)
end-joined no_components = refl
end-joined (component c cs) = elim (cases_Bool (are_whitespace (component c cs))) [
  | inl e ↦ rw e refl
  | inr e ↦ rw e (ap (component c) (end-joined cs))
]

end-whitespace : (cs : Components) → are_whitespace (end_of cs) ≡ true
end-whitespace no_components = refl
end-whitespace (component c cs) = elim (cases_Bool (are_whitespace (component c cs))) [
  | inl e ↦ rw e e
  | inr e ↦ rw e (end-whitespace cs)
]

and-true : (b c : Bool) → c ≡ true → b && c ≡ false → b ≡ false
and-true true c t e = sym t ∙ e
and-true false c t e = refl

end-last : (c : Component) (cs : Components) → are_whitespace (component c cs) ≡ false
    → is_whitespace (last_of c (without_end_whitespace cs)) ≡ false
end-last c no_components e = and-true (is_whitespace c) true refl e
end-last c (component d ds) e = elim (cases_Bool (are_whitespace (component d ds))) [
  | inl w ↦ rw w (and-true (is_whitespace c) (are_whitespace (component d ds)) w e)
  | inr w ↦ rw w (end-last d ds w)
]

end-ends : (cs : Components) → EndsWithout (without_end_whitespace cs)
end-ends no_components = tt
end-ends (component c cs) = elim (cases_Bool (are_whitespace (component c cs))) [
  | inl e ↦ rw e tt
  | inr e ↦ rw e (end-last c cs e)
]

end-begins : (cs : Components) → BeginsWithout cs → BeginsWithout (without_end_whitespace cs)
end-begins no_components b = tt
end-begins (component c cs) b = rw b b

end-all : (cs : Components) → are_whitespace cs ≡ true → without_end_whitespace cs ≡ no_components
end-all no_components e = refl
end-all (component c cs) e = rw e refl

last-whitespace : (c : Component) (cs back : Components) → is_whitespace (last_of c cs) ≡ false
    → are_whitespace (component c (followed cs back)) ≡ false
last-whitespace c no_components back e = rw e refl
last-whitespace c (component d ds) back e =
    rw (last-whitespace d ds back e) (and-false (is_whitespace c) false refl)

end-exact : (c : Component) (cs back : Components) → is_whitespace (last_of c cs) ≡ false
    → are_whitespace back ≡ true
    → without_end_whitespace (component c (followed cs back)) ≡ component c cs
end-exact c no_components back e w =
    rw (last-whitespace c no_components back e) (ap (component c) (end-all back w))
end-exact c (component d ds) back e w =
    rw (last-whitespace c (component d ds) back e) (ap (component c) (end-exact d ds back e w))

-- ---- both

pub trimmed-padded : (cs : Components) → IsPadded cs (trimmed cs)
trimmed-padded cs = record {
  front = front_of cs;
  back = end_of (without_front_whitespace cs);
  joined = front-joined cs ∙ ap (followed (front_of cs)) (end-joined (without_front_whitespace cs));
  front_whitespace = front-whitespace cs;
  back_whitespace = end-whitespace (without_front_whitespace cs);
  begins = end-begins (without_front_whitespace cs) (front-begins cs);
  ends = end-ends (without_front_whitespace cs);
}

part-exact : (part back : Components) → BeginsWithout part → EndsWithout part
    → are_whitespace back ≡ true
    → trimmed (followed part back) ≡ part
part-exact no_components back b e w = ap without_end_whitespace (front-all back w)
part-exact (component c part) back b e w = rw b (end-exact c part back e w)

pub padded-trimmed : (cs part : Components) → IsPadded cs part → part ≡ trimmed cs
padded-trimmed cs part p =
    sym (ap trimmed p.joined
    ∙ (ap without_end_whitespace (front-dropped p.front (followed part p.back) p.front_whitespace)
    ∙ part-exact part p.back p.begins p.ends p.back_whitespace))
