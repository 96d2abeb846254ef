-- The places and bodies after a node was hung below another, and after it was taken from there.
use Rattle.std.proofs.Common.{List, None, Option, Some, [], ap, append-nil, arith, drop, inr, length, min, ne_eqb, option_map, refl, subst, sym, take, ℕ, ◌++◌, ◌+◌, ◌-◌, ◌<◌, ◌∙◌, ◌∷◌, ◌≡◌}
use Rattle.std.proofs.lemmas.List.{take-append-drop}
use Rattle.std.proofs.lemmas.Option.{none-some, same_Some}
use Rattle.dom_arena.proofs.Attached.{Attaches, among-drop, among-take}
use Rattle.dom_arena.proofs.Chains.{end-among, front-among}
use Rattle.dom_arena.proofs.Detached.{Detaches}
use Rattle.dom_arena.proofs.Lists.{get-some}
use Rattle.dom_arena.proofs.Written.{body-changed, body-elsewhere, body-written, content-changed, get-changed-here, id-changed, length-changed, place-changed, place-elsewhere, place-written}
use Rattle.dom_arena.specs.Cells.{Body, Hooks, Unhooks, body_of, body_with, final, front, with_after, with_before}
use Rattle.dom_arena.specs.Slots.{body_at, cells_of, content_at, id_at, own_in, place_at, place_in, target}
use Rattle.dom_arena.specs.Stores.{link_to}
use Rattle.dom_arena.specs.Writes.{attached, back, changed, detached, forward, one_fewer, one_more, with_first, with_last, with_next, with_place, with_prev}
use Rattle.page_laws.proofs.IsAmong.{distinct-apart}
use Rattle.page_laws.specs.Limits.{own_text_size}
use Rattle.page_model.specs.Document.{AreDistinct, IsAmong, Node, by_itself, children_of, first, id_of, ids_of}
use Rattle.page_model.specs.Trees.{size}
use Rattle.dom_arena.specs.declared.link.Link.{Link}
use Rattle.dom_arena.specs.declared.slot.Slot.{Slot}

pub target-to : (x : ℕ) → x < 4294967295 → target (link_to x) ≡ Some x
target-to x h = rw (ne_eqb x 4294967295 (λ e. omega (arith, e, h))) refl

-- ---- one direction of a chain

forward-at : (p x : ℕ) (o : Option ℕ) (to : Link) (slots : List Slot) → o ≡ Some x → place_at (forward p o to slots) x ≡ option_map (with_after (target to)) (place_at slots x)
forward-at p x None to slots e = absurd (none-some x e)
forward-at p x (Some y) to slots e =
    let same : y ≡ x = same_Some y x e in
    rw same (place-written x (with_next to) (with_after (target to)) slots (λ s. refl))

forward-other : (p j : ℕ) (o : Option ℕ) (to : Link) (slots : List Slot) → (o ≡ Some j → ⊥) → place_at (forward p o to slots) j ≡ place_at slots j
forward-other p j None to slots h = place-changed p j (with_first to) slots (λ s. refl)
forward-other p j (Some y) to slots h = place-elsewhere y j (with_next to) slots (λ e. h (ap Some (sym e)))

back-at : (p x : ℕ) (o : Option ℕ) (to : Link) (slots : List Slot) → o ≡ Some x → place_at (back p o to slots) x ≡ option_map (with_before (target to)) (place_at slots x)
back-at p x None to slots e = absurd (none-some x e)
back-at p x (Some y) to slots e =
    let same : y ≡ x = same_Some y x e in
    rw same (place-written x (with_prev to) (with_before (target to)) slots (λ s. refl))

back-other : (p j : ℕ) (o : Option ℕ) (to : Link) (slots : List Slot) → (o ≡ Some j → ⊥) → place_at (back p o to slots) j ≡ place_at slots j
back-other p j None to slots h = place-changed p j (with_last to) slots (λ s. refl)
back-other p j (Some y) to slots h = place-elsewhere y j (with_prev to) slots (λ e. h (ap Some (sym e)))

-- ---- bodies

-- what is first, or last, when `to` is put next to `o`
abbrev pub end_with : Option ℕ → Option ℕ → Option ℕ → Option ℕ
end_with None to old = to
end_with (Some x) to old = old

map-first : (x : ℕ) (to : Link) (s : Slot) (o : Option Node)
    → option_map (λ own. record { own = own; first = target to; last = target s.last; count = s.children; size = s.size }) o
    ≡ option_map (λ (b : Body). record b { first = target to }) (option_map (λ own. record { own = own; first = target s.first; last = target s.last; count = s.children; size = s.size }) o)
map-first x to s None = refl
map-first x to s (Some n) = refl

map-last : (x : ℕ) (to : Link) (s : Slot) (o : Option Node)
    → option_map (λ own. record { own = own; first = target s.first; last = target to; count = s.children; size = s.size }) o
    ≡ option_map (λ (b : Body). record b { last = target to }) (option_map (λ own. record { own = own; first = target s.first; last = target s.last; count = s.children; size = s.size }) o)
map-last x to s None = refl
map-last x to s (Some n) = refl

map-count : (c : ℕ) (s : Slot) (f : ℕ → ℕ) (o : Option Node)
    → option_map (λ own. record { own = own; first = target s.first; last = target s.last; count = f s.children; size = s.size }) o
    ≡ option_map (λ (b : Body). record b { count = f b.count }) (option_map (λ own. record { own = own; first = target s.first; last = target s.last; count = s.children; size = s.size }) o)
map-count c s f None = refl
map-count c s f (Some n) = refl

map-same : (o : Option Body) (to : Option ℕ) (x : ℕ) → option_map (λ (b : Body). record b { first = b.first }) o ≡ o
map-same None to x = refl
map-same (Some b) to x = refl

forward-body : (p : ℕ) (o : Option ℕ) (to : Link) (slots : List Slot) → body_at (forward p o to slots) p ≡ option_map (λ (b : Body). record b { first = end_with o (target to) b.first }) (body_at slots p)
forward-body p None to slots = body-written p (with_first to) (λ (b : Body). record b { first = target to }) slots (λ s. map-first p to s (own_in p s.content))
forward-body p (Some x) to slots = body-changed x p (with_next to) slots (λ s. refl) ∙ sym (map-same (body_at slots p) None p)

forward-bodies : (p j : ℕ) (o : Option ℕ) (to : Link) (slots : List Slot) → (j ≡ p → ⊥) → body_at (forward p o to slots) j ≡ body_at slots j
forward-bodies p j None to slots h = body-elsewhere p j (with_first to) slots h
forward-bodies p j (Some x) to slots h = body-changed x j (with_next to) slots (λ s. refl)

back-body : (p : ℕ) (o : Option ℕ) (to : Link) (slots : List Slot) → body_at (back p o to slots) p ≡ option_map (λ (b : Body). record b { last = end_with o (target to) b.last }) (body_at slots p)
back-body p None to slots = body-written p (with_last to) (λ (b : Body). record b { last = target to }) slots (λ s. map-last p to s (own_in p s.content))
back-body p (Some x) to slots = body-changed x p (with_prev to) slots (λ s. refl) ∙ sym (map-same (body_at slots p) None p)

back-bodies : (p j : ℕ) (o : Option ℕ) (to : Link) (slots : List Slot) → (j ≡ p → ⊥) → body_at (back p o to slots) j ≡ body_at slots j
back-bodies p j None to slots h = body-elsewhere p j (with_last to) slots h
back-bodies p j (Some x) to slots h = body-changed x j (with_prev to) slots (λ s. refl)

count-body : (p : ℕ) (f : ℕ → ℕ) (slots : List Slot) → body_at (changed p (λ (s : Slot). record s { children = f s.children }) slots) p ≡ option_map (λ (b : Body). record b { count = f b.count }) (body_at slots p)
count-body p f slots = body-written p (λ (s : Slot). record s { children = f s.children }) (λ (b : Body). record b { count = f b.count }) slots (λ s. map-count p s f (own_in p s.content))

-- ---- ends of lists

final-behind : (o : Option ℕ) (xs : List ℕ) (y : ℕ) (ys : List ℕ) → final o (xs ++ y ∷ ys) ≡ final (Some y) ys
final-behind o [] y ys = refl
final-behind o (x ∷ xs) y ys = final-behind (Some x) xs y ys

final-some : (x : ℕ) (xs : List ℕ) → (z : ℕ) × (final (Some x) xs ≡ Some z)
final-some x [] = (x, refl)
final-some x (y ∷ ys) = final-some y ys

end-first : (t : ℕ) (xs ys : List ℕ) → end_with (final None xs) (Some t) (first (xs ++ ys)) ≡ first (xs ++ t ∷ ys)
end-first t [] ys = refl
end-first t (x ∷ xs) ys = let e = final-some x xs in ap (λ o. end_with o (Some t) (Some x)) e.1

end-last : (t : ℕ) (xs ys : List ℕ) → end_with (front ys None) (Some t) (final None (xs ++ ys)) ≡ final None (xs ++ t ∷ ys)
end-last t xs [] = sym (final-behind None xs t [])
end-last t xs (y ∷ ys) = final-behind None xs y ys ∙ sym (final-behind None xs t (y ∷ ys))

gone-first : (t : ℕ) (xs ys : List ℕ) → end_with (final None xs) (front ys None) (first (xs ++ t ∷ ys)) ≡ first (xs ++ ys)
gone-first t [] [] = refl
gone-first t [] (y ∷ ys) = refl
gone-first t (x ∷ xs) ys = let e = final-some x xs in ap (λ o. end_with o (front ys None) (Some x)) e.1

final-none : (xs : List ℕ) → final None (xs ++ []) ≡ final None xs
final-none xs = ap (final None) (append-nil xs)

gone-last : (t : ℕ) (xs ys : List ℕ) → end_with (front ys None) (final None xs) (final None (xs ++ t ∷ ys)) ≡ final None (xs ++ ys)
gone-last t xs [] = sym (final-none xs)
gone-last t xs (y ∷ ys) = final-behind None xs t (y ∷ ys) ∙ sym (final-behind None xs y ys)

length-more : (t : ℕ) (xs ys : List ℕ) → length (xs ++ t ∷ ys) ≡ length (xs ++ ys) + 1
length-more t [] ys = omega arith
length-more t (x ∷ xs) ys = let rest = length-more t xs ys in omega (arith, rest)

-- ---- a node that is hung below another

pub hooked : (slots : List Slot) (p t : ℕ) (prev next : Link) → t < length slots → t < 4294967295 → p < 4294967295
    → (target prev ≡ Some t → ⊥) → (target next ≡ Some t → ⊥) → ((j : ℕ) → target prev ≡ Some j → target next ≡ Some j → ⊥)
    → Hooks (place_at slots) (place_at (attached p t prev next slots)) p t (target prev) (target next)
hooked slots p t prev next within small small_p not_prev not_next apart =
    let S1 : List Slot = changed t (with_place (link_to p) prev next) slots in
    let S2 : List Slot = forward p (target prev) (link_to t) S1 in
    let S3 : List Slot = back p (target next) (link_to t) S2 in
    let top : (j : ℕ) → place_at (attached p t prev next slots) j ≡ place_at S3 j = λ j. place-changed p j one_more S3 (λ s. refl) in
    let to_t : target (link_to t) ≡ Some t = target-to t small in
    let is = get-some slots t within in
    record {
      here =
          top t ∙ (back-other p t (target next) (link_to t) S2 not_next ∙ (forward-other p t (target prev) (link_to t) S1 not_prev
          ∙ (ap (option_map place_in) (get-changed-here t (with_place (link_to p) prev next) slots ∙ ap (option_map (with_place (link_to p) prev next)) is.1)
          ∙ ap (λ o. Some (record { up = o; before = target prev; after = target next })) (target-to p small_p))));
      before = λ j e.
          let not_t : j ≡ t → ⊥ = λ q. not_prev (e ∙ ap Some q) in
          top j ∙ (back-other p j (target next) (link_to t) S2 (λ q. apart j e q) ∙ (forward-at p j (target prev) (link_to t) S1 e
          ∙ λ i. option_map (with_after (to_t i)) (place-elsewhere t j (with_place (link_to p) prev next) slots not_t i)));
      after = λ j e.
          let not_t : j ≡ t → ⊥ = λ q. not_next (e ∙ ap Some q) in
          top j ∙ (back-at p j (target next) (link_to t) S2 e
          ∙ λ i. option_map (with_before (to_t i)) ((forward-other p j (target prev) (link_to t) S1 (λ q. apart j q e) ∙ place-elsewhere t j (with_place (link_to p) prev next) slots not_t) i));
      others = λ j not_t not_last not_front.
          top j ∙ (back-other p j (target next) (link_to t) S2 not_front ∙ (forward-other p j (target prev) (link_to t) S1 not_last
          ∙ place-elsewhere t j (with_place (link_to p) prev next) slots not_t));
    }

pub hooked-body : (slots : List Slot) (p t size : ℕ) (prev next : Link) (own : Node) (xs ys : List ℕ) → t < 4294967295 → length (xs ++ ys) < 4294967295
    → target prev ≡ final None xs → target next ≡ front ys None → body_at slots p ≡ Some (body_with own (xs ++ ys) size)
    → body_at (attached p t prev next slots) p ≡ Some (body_with own (xs ++ t ∷ ys) size)
hooked-body slots p t size prev next own xs ys small fits is_prev is_next h =
    let S1 : List Slot = changed t (with_place (link_to p) prev next) slots in
    let S2 : List Slot = forward p (target prev) (link_to t) S1 in
    let S3 : List Slot = back p (target next) (link_to t) S2 in
    let to_t : target (link_to t) ≡ Some t = target-to t small in
    let one : body_at S1 p ≡ Some (body_with own (xs ++ ys) size) = body-changed t p (with_place (link_to p) prev next) slots (λ s. refl) ∙ h in
    let count : min (length (xs ++ ys) + 1) 4294967295 ≡ length (xs ++ t ∷ ys) = omega (arith, fits, length-more t xs ys) in
    count-body p (λ n. min (n + 1) 4294967295) S3
    ∙ (ap (option_map (λ (b : Body). record b { count = min (b.count + 1) 4294967295 })) (back-body p (target next) (link_to t) S2
    ∙ ap (option_map (λ (b : Body). record b { last = end_with (target next) (target (link_to t)) b.last })) (forward-body p (target prev) (link_to t) S1
    ∙ ap (option_map (λ (b : Body). record b { first = end_with (target prev) (target (link_to t)) b.first })) one))
    ∙ λ i. Some (record {
      own = own;
      first = ((λ j. end_with (is_prev j) (to_t j) (first (xs ++ ys))) ∙ end-first t xs ys) i;
      last = ((λ j. end_with (is_next j) (to_t j) (final None (xs ++ ys))) ∙ end-last t xs ys) i;
      count = count i;
      size = size;
    }))

pub hooked-bodies : (slots : List Slot) (p t j : ℕ) (prev next : Link) → (j ≡ p → ⊥) → body_at (attached p t prev next slots) j ≡ body_at slots j
hooked-bodies slots p t j prev next h =
    let S1 : List Slot = changed t (with_place (link_to p) prev next) slots in
    let S2 : List Slot = forward p (target prev) (link_to t) S1 in
    let S3 : List Slot = back p (target next) (link_to t) S2 in
    body-elsewhere p j one_more S3 h
    ∙ (back-bodies p j (target next) (link_to t) S2 h ∙ (forward-bodies p j (target prev) (link_to t) S1 h ∙ body-changed t j (with_place (link_to p) prev next) slots (λ s. refl)))

-- ---- a node that is taken from there

pub unhooked : (slots : List Slot) (p t : ℕ) (prev next : Link) → ((j : ℕ) → target prev ≡ Some j → target next ≡ Some j → ⊥)
    → Unhooks (place_at slots) (place_at (detached p prev next slots)) t (target prev) (target next)
unhooked slots p t prev next apart =
    let S2 : List Slot = forward p (target prev) next slots in
    let S3 : List Slot = back p (target next) prev S2 in
    let top : (j : ℕ) → place_at (detached p prev next slots) j ≡ place_at S3 j = λ j. place-changed p j one_fewer S3 (λ s. refl) in
    record {
      before = λ j e. top j ∙ (back-other p j (target next) prev S2 (λ q. apart j e q) ∙ forward-at p j (target prev) next slots e);
      after = λ j e.
          top j ∙ (back-at p j (target next) prev S2 e ∙ ap (option_map (with_before (target prev))) (forward-other p j (target prev) next slots (λ q. apart j q e)));
      others = λ j not_t not_last not_front. top j ∙ (back-other p j (target next) prev S2 not_front ∙ forward-other p j (target prev) next slots not_last);
    }

pub unhooked-body : (slots : List Slot) (p t size : ℕ) (prev next : Link) (own : Node) (xs ys : List ℕ)
    → target prev ≡ final None xs → target next ≡ front ys None → body_at slots p ≡ Some (body_with own (xs ++ t ∷ ys) size)
    → body_at (detached p prev next slots) p ≡ Some (body_with own (xs ++ ys) size)
unhooked-body slots p t size prev next own xs ys is_prev is_next h =
    let S2 : List Slot = forward p (target prev) next slots in
    let S3 : List Slot = back p (target next) prev S2 in
    let count : length (xs ++ t ∷ ys) - 1 ≡ length (xs ++ ys) = omega (arith, length-more t xs ys) in
    count-body p (λ n. n - 1) S3
    ∙ (ap (option_map (λ (b : Body). record b { count = b.count - 1 })) (back-body p (target next) prev S2
    ∙ ap (option_map (λ (b : Body). record b { last = end_with (target next) (target prev) b.last })) (forward-body p (target prev) next slots
    ∙ ap (option_map (λ (b : Body). record b { first = end_with (target prev) (target next) b.first })) h))
    ∙ λ i. Some (record {
      own = own;
      first = ((λ j. end_with (is_prev j) (is_next j) (first (xs ++ t ∷ ys))) ∙ gone-first t xs ys) i;
      last = ((λ j. end_with (is_next j) (is_prev j) (final None (xs ++ t ∷ ys))) ∙ gone-last t xs ys) i;
      count = count i;
      size = size;
    }))

pub unhooked-bodies : (slots : List Slot) (p j : ℕ) (prev next : Link) → (j ≡ p → ⊥) → body_at (detached p prev next slots) j ≡ body_at slots j
unhooked-bodies slots p j prev next h =
    let S2 : List Slot = forward p (target prev) next slots in
    let S3 : List Slot = back p (target next) prev S2 in
    body-elsewhere p j one_fewer S3 h ∙ (back-bodies p j (target next) prev S2 h ∙ forward-bodies p j (target prev) next slots h)

-- ---- what no link is

forward-id : (p j : ℕ) (o : Option ℕ) (to : Link) (slots : List Slot) → id_at (forward p o to slots) j ≡ id_at slots j
forward-id p j None to slots = id-changed p j (with_first to) slots (λ s. refl)
forward-id p j (Some x) to slots = id-changed x j (with_next to) slots (λ s. refl)

back-id : (p j : ℕ) (o : Option ℕ) (to : Link) (slots : List Slot) → id_at (back p o to slots) j ≡ id_at slots j
back-id p j None to slots = id-changed p j (with_last to) slots (λ s. refl)
back-id p j (Some x) to slots = id-changed x j (with_prev to) slots (λ s. refl)

forward-content : (p j : ℕ) (o : Option ℕ) (to : Link) (slots : List Slot) → content_at (forward p o to slots) j ≡ content_at slots j
forward-content p j None to slots = content-changed p j (with_first to) slots (λ s. refl)
forward-content p j (Some x) to slots = content-changed x j (with_next to) slots (λ s. refl)

back-content : (p j : ℕ) (o : Option ℕ) (to : Link) (slots : List Slot) → content_at (back p o to slots) j ≡ content_at slots j
back-content p j None to slots = content-changed p j (with_last to) slots (λ s. refl)
back-content p j (Some x) to slots = content-changed x j (with_prev to) slots (λ s. refl)

forward-length : (p : ℕ) (o : Option ℕ) (to : Link) (slots : List Slot) → length (forward p o to slots) ≡ length slots
forward-length p None to slots = length-changed p (with_first to) slots
forward-length p (Some x) to slots = length-changed x (with_next to) slots

back-length : (p : ℕ) (o : Option ℕ) (to : Link) (slots : List Slot) → length (back p o to slots) ≡ length slots
back-length p None to slots = length-changed p (with_last to) slots
back-length p (Some x) to slots = length-changed x (with_prev to) slots

-- ids, contents and the number of slots are as before
pub record Relinked (old new : List Slot) : Type 0 where
  pub ids : (j : ℕ) → id_at new j ≡ id_at old j
  pub contents : (j : ℕ) → content_at new j ≡ content_at old j
  pub slots : length new ≡ length old

pub relinked-attached : (slots : List Slot) (p t : ℕ) (prev next : Link) → Relinked slots (attached p t prev next slots)
relinked-attached slots p t prev next =
    let S1 : List Slot = changed t (with_place (link_to p) prev next) slots in
    let S2 : List Slot = forward p (target prev) (link_to t) S1 in
    let S3 : List Slot = back p (target next) (link_to t) S2 in
    record {
      ids = λ j. id-changed p j one_more S3 (λ s. refl) ∙ (back-id p j (target next) (link_to t) S2 ∙ (forward-id p j (target prev) (link_to t) S1 ∙ id-changed t j (with_place (link_to p) prev next) slots (λ s. refl)));
      contents = λ j. content-changed p j one_more S3 (λ s. refl) ∙ (back-content p j (target next) (link_to t) S2 ∙ (forward-content p j (target prev) (link_to t) S1 ∙ content-changed t j (with_place (link_to p) prev next) slots (λ s. refl)));
      slots = length-changed p one_more S3 ∙ (back-length p (target next) (link_to t) S2 ∙ (forward-length p (target prev) (link_to t) S1 ∙ length-changed t (with_place (link_to p) prev next) slots));
    }

pub relinked-detached : (slots : List Slot) (p : ℕ) (prev next : Link) → Relinked slots (detached p prev next slots)
relinked-detached slots p prev next =
    let S2 : List Slot = forward p (target prev) next slots in
    let S3 : List Slot = back p (target next) prev S2 in
    record {
      ids = λ j. id-changed p j one_fewer S3 (λ s. refl) ∙ (back-id p j (target next) prev S2 ∙ forward-id p j (target prev) next slots);
      contents = λ j. content-changed p j one_fewer S3 (λ s. refl) ∙ (back-content p j (target next) prev S2 ∙ forward-content p j (target prev) next slots);
      slots = length-changed p one_fewer S3 ∙ (back-length p (target next) prev S2 ∙ forward-length p (target prev) next slots);
    }

-- ---- as the lemmas on trees want it

pub attaches : (slots : List Slot) (p t k : ℕ) (prev next : Link) (new x : Node) → t ≡ id_of new → t < length slots → t < 4294967295 → p < 4294967295 → length (ids_of (children_of x)) < 4294967295
    → target prev ≡ final None (take k (ids_of (children_of x))) → target next ≡ front (drop k (ids_of (children_of x))) None → body_at slots p ≡ Some (body_of x)
    → ((j : ℕ) → IsAmong j (ids_of (children_of x)) → j ≡ t → ⊥) → AreDistinct (ids_of (children_of x)) → Attaches (cells_of slots) (cells_of (attached p t prev next slots)) p k new x
attaches slots p t k prev next new x is within small small_p few is_prev is_next body out d =
    let list : List ℕ = ids_of (children_of x) in
    let xs : List ℕ = take k list in
    let ys : List ℕ = drop k list in
    let whole : xs ++ ys ≡ list = take-append-drop k list in
    let both : AreDistinct (xs ++ ys) = subst AreDistinct (sym whole) d in
    let not_prev : target prev ≡ Some t → ⊥ = λ e. out t (among-take t k list (end-among t xs (sym is_prev ∙ e))) refl in
    let not_next : target next ≡ Some t → ⊥ = λ e. out t (among-drop t k list (front-among t ys (sym is_next ∙ e))) refl in
    let apart : (j : ℕ) → target prev ≡ Some j → target next ≡ Some j → ⊥ = λ j e q. distinct-apart j xs ys both (end-among j xs (sym is_prev ∙ e)) (front-among j ys (sym is_next ∙ q)) in
    let h : Hooks (place_at slots) (place_at (attached p t prev next slots)) p t (target prev) (target next) = hooked slots p t prev next within small small_p not_prev not_next apart in
    record {
      hooks =
          subst (λ (o : Option ℕ). Hooks (place_at slots) (place_at (attached p t prev next slots)) p (id_of new) o (front ys None)) is_prev
          (subst (λ (o : Option ℕ). Hooks (place_at slots) (place_at (attached p t prev next slots)) p (id_of new) (target prev) o) is_next
          (subst (λ (q : ℕ). Hooks (place_at slots) (place_at (attached p t prev next slots)) p q (target prev) (target next)) is h));
      body =
          hooked-body slots p t (own_text_size x) prev next (by_itself x) xs ys small (omega (arith, few, ap length whole)) is_prev is_next
          (body ∙ ap (λ zs. Some (body_with (by_itself x) zs (own_text_size x))) (sym whole))
          ∙ ap (λ q. Some (body_with (by_itself x) (xs ++ q ∷ ys) (own_text_size x))) is;
      others = λ j ne. hooked-bodies slots p t j prev next ne;
    }

pub detaches : (slots : List Slot) (p i : ℕ) (prev next : Link) (x : Node) (xs ys : List ℕ) → ids_of (children_of x) ≡ xs ++ i ∷ ys → AreDistinct (ids_of (children_of x))
    → target prev ≡ final None xs → target next ≡ front ys None → body_at slots p ≡ Some (body_of x) → Detaches (cells_of slots) (cells_of (detached p prev next slots)) p i x xs ys
detaches slots p i prev next x xs ys list d is_prev is_next body =
    let both : AreDistinct (xs ++ i ∷ ys) = subst AreDistinct list d in
    let apart : (j : ℕ) → target prev ≡ Some j → target next ≡ Some j → ⊥ = λ j e q. distinct-apart j xs (i ∷ ys) both (end-among j xs (sym is_prev ∙ e)) (inr (front-among j ys (sym is_next ∙ q))) in
    record {
      list = list;
      unhooks =
          subst (λ (o : Option ℕ). Unhooks (place_at slots) (place_at (detached p prev next slots)) i o (front ys None)) is_prev
          (subst (λ (o : Option ℕ). Unhooks (place_at slots) (place_at (detached p prev next slots)) i (target prev) o) is_next (unhooked slots p i prev next apart));
      body = unhooked-body slots p i (own_text_size x) prev next (by_itself x) xs ys is_prev is_next (body ∙ ap (λ zs. Some (body_with (by_itself x) zs (own_text_size x))) list);
      others = λ j ne. unhooked-bodies slots p j prev next ne;
    }
