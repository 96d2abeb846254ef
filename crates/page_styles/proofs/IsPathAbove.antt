-- The way up is one, and no element stands in it twice.
use Rattle.std.proofs.Common.{◌≡◌, ◌∙◌, ap, sym, subst, refl, inl, inr, ◌⊎◌, ℕ, suc, ◌<◌, List, [], ◌∷◌, ◌++◌, Option, Some, None, option_map, option_and_then, unwrap_or, true, false, is_some, length, append_assoc, append-nil, Bool, arith}
use Rattle.std.proofs.lemmas.Bool.{false≢true}
use Rattle.std.proofs.lemmas.List.{map-append}
use Rattle.std.specs.Prelude.{IsSome}
use Rattle.page_laws.proofs.Find.{find-among}
use Rattle.page_laws.proofs.Levels.{level-child, unlevelled-absent}
use Rattle.page_model.specs.Document.{AreDistinct as DistinctIds, Node, find, ids, name_at, name_of, parent_of}
use Rattle.page_model.specs.Edits.{level}
use Rattle.stream_model.specs.Ledger.{Event, Log, pair, pairs}
use Rattle.stream_model.specs.Lists.{AreDistinct, IsAmong}
use Rattle.stream_model.specs.declared.kind.Kind.{Kind}
use Rattle.stream_model.specs.declared.kind.Kind.TheVariants.{Match, Style as styling}
use Rattle.reply_model.specs.Replies.{is_for_styles}
use Rattle.cascade_laws.proofs.AreStyled.{child-of-known, parentless-style}
use Rattle.selectors.proofs.AncestorsOf.{parent-element}
use Rattle.cascade_model.specs.DocumentStyles.{AreStyled, Page, Styles}
use Rattle.page_styles.specs.Paths.{IsPathAbove, log_below, style_below}
use Rattle.page_styles.specs.Styles.{IsBegun, IsStyling, LogsStyling}

-- ---- options

none≢some : {X : Type 0} (o : Option X) (x : X) → o ≡ None → o ≡ Some x → ⊥
none≢some None x e f = absurd (cc)
none≢some (Some y) x e f = absurd (cc)

one-value : {X : Type 0} (o : Option X) (x y : X) → o ≡ Some x → o ≡ Some y → x ≡ y
one-value None x y e f = absurd (cc)
one-value (Some z) x y e f = cc

-- ---- the style at the end of a path

pub style-along : (page : Page) (styles : Styles) → DistinctIds (ids page.root) → AreStyled page styles page.root
    → (i : ℕ) (above : List ℕ) → IsPathAbove page.root i above → IsSome (name_at i page.root)
    → styles i ≡ Some (style_below page i above)
style-along page styles d h i [] path named = parentless-style page styles page.root i h named path
style-along page styles d h i (p ∷ above) path named =
    child-of-known page styles page.root i p (style_below page p above) h named path.0
    (style-along page styles d h p above path.1 (parent-element i p page.root d path.0))

-- ---- there is one path

path-unique : (root : Node) (i : ℕ) (a b : List ℕ) → IsPathAbove root i a → IsPathAbove root i b → a ≡ b
path-unique root i [] [] h k = refl
path-unique root i [] (q ∷ b) h k = absurd (none≢some (parent_of i root) q h k.0)
path-unique root i (p ∷ a) [] h k = absurd (none≢some (parent_of i root) p k h.0)
path-unique root i (p ∷ a) (q ∷ b) h k =
    let same : p ≡ q = one-value (parent_of i root) p q h.0 k.0 in
    let rest : a ≡ b = path-unique root p a b h.1 (subst (λ j. IsPathAbove root j b) (sym same) k.1) in
    ap (λ j. j ∷ a) same ∙ ap (λ xs. q ∷ xs) rest

-- the path above one that stands in a path
record Farther (root : Node) (j : ℕ) (above : List ℕ) : Type 0 where
  pub rest : List ℕ
  pub path : IsPathAbove root j rest
  pub shorter : length rest < length above

farther-on : (root : Node) (i j : ℕ) (above : List ℕ) → IsPathAbove root i above → IsAmong j above → Farther root j above
farther-on root i j [] path h = absurd h
farther-on root i j (p ∷ above) path (inl e) = record {
  rest = above;
  path = subst (λ k. IsPathAbove root k above) (sym e) path.1;
  shorter = omega arith;
}
farther-on root i j (p ∷ above) path (inr h) =
    let f : Farther root j above = farther-on root p j above path.1 h in
    record { rest = f.rest; path = f.path; shorter = omega (arith, f.shorter) }

-- an element does not stand above itself
not-above : (root : Node) (i : ℕ) (above : List ℕ) → IsPathAbove root i above → IsAmong i above → ⊥
not-above root i above path h =
    let f : Farther root i above = farther-on root i i above path h in
    let same : length f.rest ≡ length above = ap length (path-unique root i f.rest above f.path path) in
    absurd (omega (arith, f.shorter, same))

-- those above an element are elements
named-above : (root : Node) (i j : ℕ) (above : List ℕ) → DistinctIds (ids root) → IsPathAbove root i above
    → IsAmong j above → IsSome (name_at j root)
named-above root i j [] d path h = absurd h
named-above root i j (p ∷ above) d path (inl e) =
    subst (λ k. IsSome (name_at k root)) (sym e) (parent-element i p root d path.0)
named-above root i j (p ∷ above) d path (inr h) =
    named-above root p j above d path.1 h

-- ---- levels

below-level : (o l : Option ℕ) → (o ≡ None → ⊥) → l ≡ option_map (λ k. suc k) o → unwrap_or o 0 < unwrap_or l 0
below-level None l some is = absurd (some refl)
below-level (Some k) l some is = rw is (omega arith)

found-named : (o : Option Node) → IsSome (option_and_then name_of o) → is_some o ≡ true
found-named None h = h
found-named (Some n) h = refl

-- a parent stands above its child
pub higher : (root : Node) (i p : ℕ) → DistinctIds (ids root) → parent_of i root ≡ Some p
    → unwrap_or (level p root) 0 < unwrap_or (level i root) 0
higher root i p d up =
    below-level (level p root) (level i root)
    (λ none. unlevelled-absent p root none (find-among p root (found-named (find p root) (parent-element i p root d up))))
    (level-child root i p d up)

-- ---- logs

-- two more at the end
among-two : {X : Type 0} (x a b : X) (xs : List X) → IsAmong x (xs ++ a ∷ b ∷ []) → IsAmong x xs ⊎ ((x ≡ a) ⊎ (x ≡ b))
among-two x a b [] (inl e) = inr (inl e)
among-two x a b [] (inr (inl e)) = inr (inr e)
among-two x a b [] (inr (inr h)) = absurd h
among-two x a b (y ∷ xs) (inl e) = inl (inl e)
among-two x a b (y ∷ xs) (inr h) = elim (among-two x a b xs h) [
  | inl k ↦ inl (inr k)
  | inr k ↦ inr k
]

distinct-two : {X : Type 0} (a b : X) (xs : List X) → AreDistinct xs → (IsAmong a xs → ⊥) → (IsAmong b xs → ⊥)
    → (a ≡ b → ⊥) → AreDistinct (xs ++ a ∷ b ∷ [])
distinct-two a b [] d na nb n = ((λ h. elim h [ inl e ↦ n e | inr k ↦ k ]), ((λ h. h), tt))
distinct-two a b (x ∷ xs) d na nb n = (
  (λ h. elim (among-two x a b xs h) [
    | inl k ↦ d.0 k
    | inr (inl e) ↦ na (inl (sym e))
    | inr (inr e) ↦ nb (inl (sym e))
  ]),
  distinct-two a b xs d.1 (λ h. na (inr h)) (λ h. nb (inr h)) n,
)

-- work is on the element or on one above it
on-path : (i : ℕ) (above : List ℕ) (work : Kind × ℕ) → IsAmong work (log_below i above) → (work.1 ≡ i) ⊎ IsAmong work.1 above
on-path i [] work (inl e) = inl (ap (λ w. w.1) e)
on-path i [] work (inr (inl e)) = inl (ap (λ w. w.1) e)
on-path i [] work (inr (inr h)) = absurd h
on-path i (p ∷ above) work h = elim (among-two work (Match, i) (styling, i) (log_below p above) h) [
  | inl k ↦ elim (on-path p above work k) [
    | inl e ↦ inr (inl e)
    | inr m ↦ inr (inr m)
  ]
  | inr (inl e) ↦ inl (ap (λ w. w.1) e)
  | inr (inr e) ↦ inl (ap (λ w. w.1) e)
]

for-styles : (i : ℕ) (above : List ℕ) (work : Kind × ℕ) → IsAmong work (log_below i above) → is_for_styles work.0 ≡ true
for-styles i [] work (inl e) = ap (λ w. is_for_styles w.0) e
for-styles i [] work (inr (inl e)) = ap (λ w. is_for_styles w.0) e
for-styles i [] work (inr (inr h)) = absurd h
for-styles i (p ∷ above) work h = elim (among-two work (Match, i) (styling, i) (log_below p above) h) [
  | inl k ↦ for-styles p above work k
  | inr (inl e) ↦ ap (λ w. is_for_styles w.0) e
  | inr (inr e) ↦ ap (λ w. is_for_styles w.0) e
]

abbrev is_match : Kind → Bool
is_match Match = true
is_match other = false

match≢style : (a b : Kind × ℕ) → is_match a.0 ≡ true → is_match b.0 ≡ false → a ≡ b → ⊥
match≢style a b h k e = false≢true (sym k ∙ (ap (λ (w : Kind × ℕ). is_match w.0) (sym e) ∙ h))

log-distinct : (root : Node) (i : ℕ) (above : List ℕ) → IsPathAbove root i above → AreDistinct (log_below i above)
log-distinct root i [] path = distinct-two (Match, i) (styling, i) [] tt (λ h. h) (λ h. h) (match≢style (Match, i) (styling, i) refl refl)
log-distinct root i (p ∷ above) path =
    let apart : (k : Kind) → IsAmong (k, i) (log_below p above) → ⊥ =
    λ k h. not-above root i (p ∷ above) path (elim (on-path p above (k, i) h) [ inl e ↦ inl e | inr m ↦ inr m ]) in
    distinct-two (Match, i) (styling, i) (log_below p above) (log-distinct root p above path.1)
    (apart Match) (apart styling) (match≢style (Match, i) (styling, i) refl refl)

pub log-is_styling : (root : Node) (i : ℕ) (above : List ℕ) → DistinctIds (ids root) → IsPathAbove root i above
    → IsSome (name_at i root) → IsStyling root (log_below i above)
log-is_styling root i above d path named = (
  log-distinct root i above path,
  λ work h. (
    for-styles i above work h,
    elim (on-path i above work h) [
      | inl e ↦ subst (λ k. IsSome (name_at k root)) (sym e) named
      | inr m ↦ named-above root i work.1 above d path m
    ],
  ),
)

-- ---- first parts of logs

among-front : {X : Type 0} (x : X) (xs ys : List X) → IsAmong x xs → IsAmong x (xs ++ ys)
among-front x [] ys h = absurd h
among-front x (y ∷ xs) ys (inl e) = inl e
among-front x (y ∷ xs) ys (inr h) = inr (among-front x xs ys h)

distinct-front : {X : Type 0} (xs ys : List X) → AreDistinct (xs ++ ys) → AreDistinct xs
distinct-front [] ys d = tt
distinct-front (x ∷ xs) ys d = ((λ h. d.0 (among-front x xs ys h)), distinct-front xs ys d.1)

front-is_styling : (root : Node) (own rest : Log) → IsStyling root (own ++ rest) → IsStyling root own
front-is_styling root own rest h = (distinct-front own rest h.0, λ work k. h.1 work (among-front work own rest k))

pub begun-logs : (root : Node) (whole : Log) (old new : List Event) → IsStyling root whole → IsBegun whole old new → LogsStyling root old new
begun-logs root whole old new h b = (
  b.own,
  front-is_styling root b.own b.rest (subst (IsStyling root) b.parted h),
  b.logged,
)

pub pairs-append : (a b : Log) → pairs (a ++ b) ≡ pairs a ++ pairs b
pairs-append a b = map-append (λ p. pair p.0 p.1) a b

-- the work of one more element after that of a path
pub logged-on : (i : ℕ) (log : Log) (old mid new : List Event) → mid ≡ old ++ pairs log
    → new ≡ mid ++ pair Match i ∷ pair styling i ∷ [] → new ≡ old ++ pairs (log ++ (Match, i) ∷ (styling, i) ∷ [])
logged-on i log old mid new e f =
    f ∙ (ap (λ es. es ++ pair Match i ∷ pair styling i ∷ []) e
    ∙ (append_assoc old (pairs log) (pair Match i ∷ pair styling i ∷ [])
    ∙ ap (λ es. old ++ es) (sym (pairs-append log ((Match, i) ∷ (styling, i) ∷ [])))))

-- a part of it
pub begun-on : (i : ℕ) (log : Log) (old mid new : List Event) → mid ≡ old ++ pairs log
    → (new ≡ mid) ⊎ (new ≡ mid ++ pair Match i ∷ []) → IsBegun (log ++ (Match, i) ∷ (styling, i) ∷ []) old new
begun-on i log old mid new e (inl f) = record {
  own = log;
  rest = (Match, i) ∷ (styling, i) ∷ [];
  parted = refl;
  logged = f ∙ e;
}
begun-on i log old mid new e (inr f) = record {
  own = log ++ (Match, i) ∷ [];
  rest = (styling, i) ∷ [];
  parted = sym (append_assoc log ((Match, i) ∷ []) ((styling, i) ∷ []));
  logged = f ∙ (ap (λ es. es ++ pair Match i ∷ []) e
      ∙ (append_assoc old (pairs log) (pair Match i ∷ []) ∙ ap (λ es. old ++ es) (sym (pairs-append log ((Match, i) ∷ [])))));
}

-- a part of the work of a path, before that of one more element
pub begun-before : (log more : Log) (old new : List Event) → IsBegun log old new → IsBegun (log ++ more) old new
begun-before log more old new b = record {
  own = b.own;
  rest = b.rest ++ more;
  parted = ap (λ l. l ++ more) b.parted ∙ append_assoc b.own b.rest more;
  logged = b.logged;
}

pub nothing-begun : (log : Log) (old : List Event) → IsBegun log old old
nothing-begun log old = record { own = []; rest = log; parted = refl; logged = sym (append-nil old) }
