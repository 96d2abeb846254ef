-- What open brackets and all that follows are, as preserved token after another is taken up.
use Rattle.std.proofs.Common.{◌≡◌, ◌∙◌, sym, ap, refl, subst, ℕ, suc, ◌+◌, ◌≤◌, ◌<◌, max, List, [], ◌∷◌, ◌++◌, length, drop, length-append, inl, inr, Option, Some, None, Result, Ok, Err, IfOk, true, false, arith}
use Rattle.std.proofs.lemmas.List.Sums.{fold_push}
use Rattle.std.proofs.lemmas.Bool.{cases_Bool}
use Rattle.std.specs.Option.{is_some}
use Rattle.css_model.specs.Components.{Components, no_components, component, preserved, depth, depths, IsComponents, opened_by, closes}
use Rattle.css_model.specs.inner.Nesting.{is_function, bracketed, innermost, Levels, levels, contents_of, followed, onto, closed, enclosed, levels_of, nesting}
use Rattle.css_model.specs.declared.token.TheConstants.{MAX_NESTING}
use Rattle.css_model.proofs.Nesting.{nesting-is, levels-opening, levels-closing, levels-alone, levels-end, followed-nothing, onto-nothing, alone-onto, enclosed-closed, enclosed-end}
use Rattle.css_model.specs.Components as model_components
use Rattle.css_tokens.specs.declared.component.Component.{Component}
use Rattle.css_tokens.specs.declared.component.Component.TheVariants.{One, rolls-One}
use Rattle.css_tokens.specs.declared.component.Component.TheOpen.{Component-F}
use Rattle.css_tokens.specs.declared.component.Component.TheFolds.{fold-roll-Component}
use Rattle.css_tokens.specs.declared.nesting.OpenBracket.{OpenBracket}
use Rattle.css_tokens.specs.declared.fault.TokenFault.{TokenFault}
use Rattle.css_tokens.specs.declared.fault.TokenFault.TheVariants.{TooDeep}
use Rattle.css_tokens.specs.declared.nesting.Nesting.{Nesting}
use Rattle.css_model.specs.declared.token.Token.{Token}
use Rattle.css_tokens.specs.Nested.{nested_step, component_view, components_view}
use Rattle.css_tokens.specs.inner.OpenBrackets.{heads_of, around, with_rest, AreWithin, IsWithin, Ends, Nests}

-- ---- lists

pub view-one : (t : Token) → component_view (One t) ≡ preserved t
view-one t = ap component_view (sym (rolls-One t)) ∙ fold-roll-Component model_components.Component nested_step (Component-F.One t)

pub view-push : (cs : List Component) (c : Component) → components_view (cs ++ c ∷ []) ≡ followed (components_view cs) (component (component_view c) no_components)
view-push [] c = refl
view-push (d ∷ cs) c = ap (component (component_view d)) (view-push cs c)

followed-followed : (cs ds es : Components) → followed cs (followed ds es) ≡ followed (followed cs ds) es
followed-followed no_components ds es = refl
followed-followed (component c cs) ds es = ap (component c) (followed-followed cs ds es)

onto-followed : (cs ds : Components) (l : Levels) → onto cs (onto ds l) ≡ onto (followed cs ds) l
onto-followed cs ds (levels contents outside) = ap (λ es. levels es outside) (followed-followed cs ds contents)

around-more : (open_brackets : List OpenBracket) (f : OpenBracket) (l : Levels) → around (open_brackets ++ f ∷ []) l ≡ around open_brackets (onto (components_view f.before) (enclosed f.head l))
around-more [] f l = refl
around-more (e ∷ open_brackets) f l = ap (λ m. onto (components_view e.before) (enclosed (e.head) m)) (around-more open_brackets f l)

heads-more : (open_brackets : List OpenBracket) (f : OpenBracket) → heads_of (open_brackets ++ f ∷ []) ≡ f.head ∷ heads_of open_brackets
heads-more open_brackets f = fold_push (λ heads (f : OpenBracket). f.head ∷ heads) [] open_brackets f

-- ---- what follows

pub rest-start : (n : Nesting) (rest : List Token) → n.open_brackets ≡ [] → n.contents ≡ [] → with_rest n rest ≡ nesting rest
rest-start n rest f c = rw (f, c, onto-nothing) refl

pub rest-alone : (before after : Nesting) (t : Token) (rest : List Token) → is_some (opened_by t.token_type) ≡ false → closes (innermost (heads_of before.open_brackets)) t.token_type ≡ false
    → after.open_brackets ≡ before.open_brackets → components_view after.contents ≡ followed (components_view before.contents) (component (preserved t) no_components)
    → with_rest after rest ≡ with_rest before (t ∷ rest)
rest-alone before after t rest o c f is =
    rw (f, is, levels-alone (heads_of before.open_brackets) t rest o c, alone-onto, onto-followed) refl

pub rest-opening : (before after : Nesting) (open_bracket : OpenBracket) (rest : List Token) → is_some (opened_by open_bracket.head.token_type) ≡ true
    → after.open_brackets ≡ before.open_brackets ++ open_bracket ∷ [] → open_bracket.before ≡ before.contents → after.contents ≡ []
    → with_rest after rest ≡ with_rest before (open_bracket.head ∷ rest)
rest-opening before after open_bracket rest o f b c =
    rw (f, c, heads-more, around-more, onto-nothing, b, levels-opening (heads_of before.open_brackets) open_bracket.head rest o) refl

rest-ends : (before after : Nesting) (close : Option Token) (ends : Ends before close after) (now later : Levels)
    → enclosed ends.open_bracket.head (onto (components_view before.contents) now) ≡ onto (component (bracketed ends.open_bracket.head (components_view before.contents) close) no_components) later
    → around before.open_brackets (onto (components_view before.contents) now) ≡ around after.open_brackets (onto (components_view after.contents) later)
rest-ends before after close ends now later e =
    rw (ends.open_brackets, ends.contents, around-more, e, onto-followed) refl

pub rest-closing : (before after : Nesting) (t : Token) (rest : List Token) → is_some (opened_by t.token_type) ≡ false → closes (innermost (heads_of before.open_brackets)) t.token_type ≡ true
    → Ends before (Some t) after → with_rest after rest ≡ with_rest before (t ∷ rest)
rest-closing before after t rest o c ends =
    let head : Token = ends.open_bracket.head in
    let heads : heads_of before.open_brackets ≡ head ∷ heads_of after.open_brackets = ap heads_of ends.open_brackets ∙ heads-more after.open_brackets ends.open_bracket in
    let now : levels_of (heads_of before.open_brackets) (t ∷ rest) ≡ closed t (levels_of (heads_of after.open_brackets) rest) =
    levels-closing (heads_of before.open_brackets) t rest o c ∙ ap (λ hs. closed t (levels_of (drop 1 hs) rest)) heads in
    let later : Levels = levels_of (heads_of after.open_brackets) rest in
    rw now (sym (ap contents_of (rest-ends before after (Some t) ends (closed t later) later (enclosed-closed head t (components_view before.contents) later))))

pub rest-end : (before after : Nesting) → Ends before None after → with_rest after [] ≡ with_rest before []
rest-end before after ends =
    let nothing : Levels = levels no_components [] in
    rw (levels-end (heads_of before.open_brackets), levels-end (heads_of after.open_brackets)) (sym (ap contents_of (rest-ends before after None ends nothing nothing (enclosed-end ends.open_bracket.head (components_view before.contents)))))

pub rest-none : (n : Nesting) → n.open_brackets ≡ [] → with_rest n [] ≡ components_view n.contents
rest-none n f = rw (f, levels-end []) (followed-nothing (components_view n.contents))

-- ---- how deep brackets nest

depths-followed : (cs ds : Components) → depths (followed cs ds) ≡ max (depths cs) (depths ds)
depths-followed no_components ds = omega arith
depths-followed (component c cs) ds =
    let more : depths (followed cs ds) ≡ max (depths cs) (depths ds) = depths-followed cs ds in
    omega (arith, more)

depth-bracketed : (head : Token) (contents : Components) (close : Option Token) → depth (bracketed head contents close) ≡ suc (depths contents)
depth-bracketed head contents close = elim (cases_Bool (is_function head.token_type)) [
  | inl t ↦ rw t refl
  | inr f ↦ rw f refl
]

depths-enclosed : (head : Token) (l : Levels) → suc (depths (contents_of l)) ≤ depths (contents_of (enclosed head l))
depths-enclosed head (levels contents []) =
    let is : depth (bracketed head contents None) ≡ suc (depths contents) = depth-bracketed head contents None in
    omega (arith, is)
depths-enclosed head (levels contents (level ∷ outside)) =
    let is : depth (bracketed head contents (Some level.0)) ≡ suc (depths contents) = depth-bracketed head contents (Some level.0) in
    omega (arith, is)

depths-onto : (cs : Components) (l : Levels) → depths (contents_of l) ≤ depths (contents_of (onto cs l))
depths-onto cs (levels contents outside) =
    let is : depths (followed cs contents) ≡ max (depths cs) (depths contents) = depths-followed cs contents in
    omega (arith, is)

depths-around : (open_brackets : List OpenBracket) (l : Levels) → length open_brackets + depths (contents_of l) ≤ depths (contents_of (around open_brackets l))
depths-around [] l = omega arith
depths-around (f ∷ open_brackets) l =
    let inside : length open_brackets + depths (contents_of l) ≤ depths (contents_of (around open_brackets l)) = depths-around open_brackets l in
    let bracket = depths-enclosed f.head (around open_brackets l) in
    let front = depths-onto (components_view f.before) (enclosed f.head (around open_brackets l)) in
    omega (arith, inside, bracket, front)

-- preserved bracket more than the limit allows is open
pub depths-limit : (n : Nesting) (t : Token) (rest : List Token) → is_some (opened_by t.token_type) ≡ true → MAX_NESTING ≤ length n.open_brackets
    → MAX_NESTING < depths (with_rest n (t ∷ rest))
depths-limit n t rest o h =
    let heads : List Token = heads_of n.open_brackets in
    let bracket = depths-enclosed t (levels_of (t ∷ heads) rest) in
    let front = depths-onto (components_view n.contents) (enclosed t (levels_of (t ∷ heads) rest)) in
    let outside = depths-around n.open_brackets (onto (components_view n.contents) (enclosed t (levels_of (t ∷ heads) rest))) in
    rw (levels-opening heads t rest o) (omega (arith, h, bracket, front, outside))

within-more : (outside : ℕ) (open_brackets : List OpenBracket) (f : OpenBracket) → AreWithin outside open_brackets → outside + length open_brackets + depths (components_view f.before) ≤ MAX_NESTING → AreWithin outside (open_brackets ++ f ∷ [])
within-more outside [] f w h = (omega (arith, h), tt)
within-more outside (e ∷ open_brackets) f w h = (w.0, within-more (suc outside) open_brackets f w.1 (omega (arith, h)))

within-less : (outside : ℕ) (open_brackets : List OpenBracket) (f : OpenBracket) → AreWithin outside (open_brackets ++ f ∷ []) → AreWithin outside open_brackets × (outside + length open_brackets + depths (components_view f.before) ≤ MAX_NESTING)
within-less outside [] f w = (tt, omega (arith, w.0))
within-less outside (e ∷ open_brackets) f w =
    let less = within-less (suc outside) open_brackets f w.1 in
    ((w.0, less.0), omega (arith, less.1))

pub within-start : (n : Nesting) → n.open_brackets ≡ [] → n.contents ≡ [] → IsWithin n
within-start n f c = record { open_brackets = rw f tt; contents = rw (f, c) (omega arith) }

pub within-alone : (before after : Nesting) (t : Token) → after.open_brackets ≡ before.open_brackets → components_view after.contents ≡ followed (components_view before.contents) (component (preserved t) no_components)
    → IsWithin before → IsWithin after
within-alone before after t f is w =
    let deep : depths (followed (components_view before.contents) (component (preserved t) no_components)) ≡ max (depths (components_view before.contents)) (depths (component (preserved t) no_components)) =
    depths-followed (components_view before.contents) (component (preserved t) no_components) in
    record { open_brackets = rw f w.open_brackets; contents = rw (f, is) (omega (arith, deep, w.contents)) }

pub within-opening : (before after : Nesting) (open_bracket : OpenBracket) → after.open_brackets ≡ before.open_brackets ++ open_bracket ∷ [] → open_bracket.before ≡ before.contents → after.contents ≡ [] → length before.open_brackets < MAX_NESTING
    → IsWithin before → IsWithin after
within-opening before after open_bracket f b c h w =
    let all : length (before.open_brackets ++ open_bracket ∷ []) ≡ length before.open_brackets + 1 = length-append before.open_brackets (open_bracket ∷ []) in
    record {
      open_brackets = rw f (within-more 0 before.open_brackets open_bracket w.open_brackets (rw b (omega (arith, w.contents))));
      contents = rw (f, c) (omega (arith, all, h));
    }

pub within-ends : (before after : Nesting) (close : Option Token) → Ends before close after → IsWithin before → IsWithin after
within-ends before after close ends w =
    let open_bracket : OpenBracket = ends.open_bracket in
    let all : length before.open_brackets ≡ length after.open_brackets + 1 = ap length ends.open_brackets ∙ length-append after.open_brackets (open_bracket ∷ []) in
    let less = within-less 0 after.open_brackets open_bracket (subst (AreWithin 0) ends.open_brackets w.open_brackets) in
    let bracket = bracketed open_bracket.head (components_view before.contents) close in
    let deep : depth bracket ≡ suc (depths (components_view before.contents)) = depth-bracketed open_bracket.head (components_view before.contents) close in
    let joined : depths (followed (components_view open_bracket.before) (component bracket no_components)) ≡ max (depths (components_view open_bracket.before)) (depths (component bracket no_components)) =
    depths-followed (components_view open_bracket.before) (component bracket no_components) in
    record { open_brackets = less.0; contents = rw ends.contents (omega (arith, joined, deep, all, less.1, w.contents)) }

pub within-none : (n : Nesting) → n.open_brackets ≡ [] → IsWithin n → depths (components_view n.contents) ≤ MAX_NESTING
within-none n f w =
    let none : length n.open_brackets ≡ 0 = ap length f in
    omega (arith, none, w.contents)

-- ---- what is answered

pub nested-is : (result : Result (List Component) TokenFault) (tokens : List Token) → Nests result tokens
    → IfOk result (λ cs. IsComponents tokens (components_view cs) × (depths (components_view cs) ≤ MAX_NESTING))
nested-is (Ok cs) tokens n = (subst (IsComponents tokens) (sym n.0) (nesting-is tokens), n.1)
nested-is (Err e) tokens n = tt

pub deep-is : (result : Result (List Component) TokenFault) (tokens : List Token) → Nests result tokens
    → result ≡ Err TooDeep → (cs : Components) × IsComponents tokens cs × (MAX_NESTING < depths cs)
deep-is result tokens n e =
    let deep : MAX_NESTING < depths (nesting tokens) = subst (λ (r : Result (List Component) TokenFault). Nests r tokens) e n in
    (nesting tokens, nesting-is tokens, deep)
