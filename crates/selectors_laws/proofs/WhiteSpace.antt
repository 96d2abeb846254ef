-- White space that is no combinator.
use Rattle.std.proofs.Common.{◌≡◌, ap, sym, refl, ◌++◌, map, List, [], ◌∷◌, Bool, true, false}
use Rattle.selectors_model.specs.Grammar.{Atom, white, comma, combinator, dot, colon, star, word, whole, function, other, is_in_compound, begins_compound, with_descendants, members_of, between_commas, selector_of_chain, chain_of}

-- what is the same with descendants has the same members
same-members : (cs ds : List Atom) → with_descendants false cs ≡ with_descendants false ds → members_of cs ≡ members_of ds
same-members cs ds e = ap (λ atoms. map (λ m. selector_of_chain (chain_of m)) (between_commas atoms)) e

step : (b : Bool) (a : Atom) (cs ds : List Atom) → begins_compound cs ≡ begins_compound ds
    → ((c : Bool) → with_descendants c cs ≡ with_descendants c ds)
    → with_descendants b (a ∷ cs) ≡ with_descendants b (a ∷ ds)
step b a cs ds e h = rw (e, h false, h b, h (is_in_compound a)) refl

begins-front : (front cs ds : List Atom) → begins_compound cs ≡ begins_compound ds
    → begins_compound (front ++ cs) ≡ begins_compound (front ++ ds)
begins-front [] cs ds e = e
begins-front (a ∷ front) cs ds e = refl

in-front : (front cs ds : List Atom) → begins_compound cs ≡ begins_compound ds
    → ((c : Bool) → with_descendants c cs ≡ with_descendants c ds)
    → (b : Bool) → with_descendants b (front ++ cs) ≡ with_descendants b (front ++ ds)
in-front [] cs ds e h b = h b
in-front (a ∷ front) cs ds e h b = step b a (front ++ cs) (front ++ ds) (begins-front front cs ds e) (in-front front cs ds e h)

alone-nothing : (b : Bool) → with_descendants b (white ∷ []) ≡ []
alone-nothing true = refl
alone-nothing false = refl

begins-end : (atoms : List Atom) → begins_compound (atoms ++ (white ∷ [])) ≡ begins_compound atoms
begins-end [] = refl
begins-end (a ∷ atoms) = refl

end-nothing : (atoms : List Atom) (b : Bool) → with_descendants b (atoms ++ (white ∷ [])) ≡ with_descendants b atoms
end-nothing [] b = alone-nothing b
end-nothing (a ∷ atoms) b = step b a (atoms ++ (white ∷ [])) atoms (begins-end atoms) (end-nothing atoms)

before-nothing : (a : Atom) (rest : List Atom) → is_in_compound a ≡ false → (b : Bool)
    → with_descendants b (white ∷ a ∷ rest) ≡ with_descendants b (a ∷ rest)
before-nothing a rest e true = rw e refl
before-nothing a rest e false = refl

two-whites : (rest : List Atom) (b : Bool) → with_descendants b (white ∷ white ∷ rest) ≡ with_descendants b (white ∷ rest)
two-whites rest true = refl
two-whites rest false = refl

after-nothing : (a : Atom) (rest : List Atom) → is_in_compound a ≡ false → (b : Bool)
    → with_descendants b (a ∷ white ∷ rest) ≡ with_descendants b (a ∷ rest)
after-nothing white rest e b = two-whites rest b
after-nothing comma rest e b = refl
after-nothing (combinator x) rest e b = refl
after-nothing dot rest e b = cc
after-nothing colon rest e b = cc
after-nothing star rest e b = cc
after-nothing (word name) rest e b = cc
after-nothing (whole s) rest e b = cc
after-nothing (function name s) rest e b = cc
after-nothing other rest e b = cc

pub at-the-end : (atoms : List Atom) → members_of (atoms ++ (white ∷ [])) ≡ members_of atoms
at-the-end atoms = same-members (atoms ++ (white ∷ [])) atoms (end-nothing atoms false)

pub before : (front : List Atom) (a : Atom) (rest : List Atom) → is_in_compound a ≡ false
    → members_of (front ++ (white ∷ a ∷ rest)) ≡ members_of (front ++ (a ∷ rest))
before front a rest e = same-members (front ++ (white ∷ a ∷ rest)) (front ++ (a ∷ rest))
    (in-front front (white ∷ a ∷ rest) (a ∷ rest) (sym e) (before-nothing a rest e) false)

pub after : (front : List Atom) (a : Atom) (rest : List Atom) → is_in_compound a ≡ false
    → members_of (front ++ (a ∷ white ∷ rest)) ≡ members_of (front ++ (a ∷ rest))
after front a rest e = same-members (front ++ (a ∷ white ∷ rest)) (front ++ (a ∷ rest))
    (in-front front (a ∷ white ∷ rest) (a ∷ rest) refl (after-nothing a rest e) false)
