-- Styles from the root down.
use Rattle.std.proofs.Common.{◌≡◌, ◌∙◌, ap, ap₂, sym, subst, refl, ◌⊎◌, ℕ, zero, suc, ◌-◌, ◌==◌, ℤ, List, [], ◌∷◌, ◌++◌, append-nil, length, take, drop, slice_index_or, true, false, Option, Some, None, Result, Ok, Err, OnErr, OnOk, eqb-true, arith}
use Rattle.std.specs.Prelude.{IsSome}
use Rattle.cascade_laws.proofs.Parentless.{parentless-root}
use Rattle.page_model.specs.Document.{AreDistinct, Node, ids, name_at, parent_of}
use Rattle.selectors.proofs.AncestorsOf.{parent-element}
use Rattle.stream_model.specs.Ledger.{Event, pair, pairs}
use Rattle.stream_model.specs.declared.kind.Kind.TheVariants.{Match, Style as styling}
use Rattle.page_styles.proofs.IsPathAbove.{begun-before, begun-on, logged-on}
use Rattle.page_styles.specs.Paths.{IsPathAbove, log_below, style_below}
use Rattle.page_styles.specs.Styles.{IsBegun}
use Rattle.cascade_laws.specs.Styles.{root_font_size}
use Rattle.cascade_model.specs.Cascaded.{cascaded_of}
use Rattle.cascade_model.specs.Defaulting.{font_size_in}
use Rattle.cascade_model.specs.DocumentStyles.{Page, applied_to, bases_in, child_style, initial_font_size, root_style}
use Rattle.cascade_model.specs.Styling.{Styling, styling_of}
use Rattle.page_model.specs.Document.{id_of}
use Rattle.value_model.specs.declared.length_unit.Bases.{Bases}

-- the style of an element of a page, by its parent and by what lengths refer to
abbrev pub style_by : Page → ℕ → Option Styling → Bases → Styling
style_by page i parent b = styling_of (record {
  cascaded = cascaded_of (applied_to page.book page.viewport page.root i);
  parent = parent;
  bases = b;
})

pub at-root : (page : Page) (i : ℕ) (s : Styling) (parent : Option Styling) (b : Bases) (e : ℤ) → s ≡ style_by page i parent b
    → parent ≡ None → b ≡ bases_in page.viewport e e → e ≡ initial_font_size → s ≡ root_style page i
at-root page i s parent b e h alone bases initial =
    h ∙ (ap (λ p. style_by page i p b) alone
    ∙ ap (style_by page i None) (bases ∙ ap (λ x. bases_in page.viewport x x) initial))

pub font-of-root : (page : Page) (i : ℕ) (s : Styling) (rem : ℤ) → s ≡ root_style page i → i ≡ id_of page.root
    → rem ≡ font_size_in s.style → rem ≡ root_font_size page page.root
font-of-root page i s rem is top size =
    size ∙ (ap (λ x. font_size_in x.style) is ∙ ap (λ j. font_size_in (root_style page j).style) top)

-- the style of a child, by the one of its parent
pub of-child : (page : Page) (i : ℕ) (s above : Styling) (parent : Option Styling) (b : Bases) (em rem : ℤ) → s ≡ style_by page i parent b
    → parent ≡ Some above → b ≡ bases_in page.viewport em rem → em ≡ font_size_in above.style → s ≡ child_style page above rem i
of-child page i s above parent b em rem h is bases size =
    h ∙ (ap (λ p. style_by page i p b) is
    ∙ ap (style_by page i (Some above)) (bases ∙ ap (λ x. bases_in page.viewport x rem) size))

-- ---- one step up

take-whole : (n : ℕ) (xs : List ℕ) → n ≡ length xs → take n xs ≡ xs
take-whole zero [] h = refl
take-whole zero (x ∷ xs) h = absurd (omega (arith, h))
take-whole (suc n) [] h = refl
take-whole (suc n) (x ∷ xs) h = ap (λ ys. x ∷ ys) (take-whole n xs (omega (arith, h)))

-- the nearest element above, and those above it
pub parted : (xs : List ℕ) → (length xs == 0) ≡ false → xs ≡ slice_index_or xs 0 0 ∷ take (length xs - 1) (drop 1 xs)
parted [] h = absurd (cc)
parted (x ∷ xs) h = ap (λ ys. x ∷ ys) (sym (take-whole (length (x ∷ xs) - 1) xs (omega arith)))

none-above : (root : Node) (i : ℕ) (above : List ℕ) → IsPathAbove root i above → (length above == 0) ≡ true → parent_of i root ≡ None
none-above root i [] path h = path
none-above root i (p ∷ above) path h =
    let none : length (p ∷ above) ≡ 0 = eqb-true (length (p ∷ above)) 0 h in absurd (omega (arith, none))

pub top-is : (root : Node) (i : ℕ) (above : List ℕ) → IsSome (name_at i root) → IsPathAbove root i above → (length above == 0) ≡ true
    → i ≡ id_of root
top-is root i above named path h = parentless-root root i named (none-above root i above path h)

-- nothing is above the root
pub root-below : (page : Page) (i : ℕ) (above : List ℕ) → (length above == 0) ≡ true → root_style page i ≡ style_below page i above
root-below page i [] h = refl
root-below page i (p ∷ above) h =
    let none : length (p ∷ above) ≡ 0 = eqb-true (length (p ∷ above)) 0 h in absurd (omega (arith, none))

-- the step from an element to its parent
pub record StepUp (root : Node) (i p : ℕ) (rest above : List ℕ) : Type 0 where
  pub parts : above ≡ p ∷ rest
  pub path : IsPathAbove root p rest
  pub named : IsSome (name_at p root)

pub step-up : (root : Node) (i p : ℕ) (rest above : List ℕ) → AreDistinct (ids root) → above ≡ p ∷ rest → IsPathAbove root i above
    → StepUp root i p rest above
step-up root i p rest above d parts path =
    let both : (parent_of i root ≡ Some p) × IsPathAbove root p rest = subst (λ xs. IsPathAbove root i xs) parts path in
    record { parts = parts; path = both.1; named = parent-element i p root d both.0 }

-- the style of a child is that below its parent
pub child-below : (page : Page) (i p : ℕ) (rest above : List ℕ) (s : Styling) (rem : ℤ) → above ≡ p ∷ rest
    → s ≡ style_below page p rest → rem ≡ root_font_size page page.root → child_style page s rem i ≡ style_below page i above
child-below page i p rest above s rem parts style size =
    ap₂ (λ x e. child_style page x e i) style size ∙ ap (style_below page i) (sym parts)

-- ---- work that was done

pub logged-child : {T E : Type 0} (r : Result T E) (i p : ℕ) (rest above : List ℕ) (old mid new : List Event) → above ≡ p ∷ rest
    → mid ≡ old ++ pairs (log_below p rest) → OnOk r (new ≡ mid ++ pair Match i ∷ pair styling i ∷ [])
    → OnOk r (new ≡ old ++ pairs (log_below i above))
logged-child (Err x) i p rest above old mid new parts e h = tt
logged-child (Ok x) i p rest above old mid new parts e h =
    subst (λ xs. new ≡ old ++ pairs (log_below i xs)) (sym parts) (logged-on i (log_below p rest) old mid new e h)

-- ---- work that was begun

on-err : {T E : Type 0} (r : Result T E) (P : Type 0) → P → OnErr r P
on-err (Ok x) P h = tt
on-err (Err e) P h = h

pub begun-root : {T E : Type 0} (r : Result T E) (i : ℕ) (above : List ℕ) (old new : List Event) → (length above == 0) ≡ true
    → OnErr r ((new ≡ old) ⊎ (new ≡ old ++ pair Match i ∷ [])) → OnErr r (IsBegun (log_below i above) old new)
begun-root (Ok x) i above old new h b = tt
begun-root (Err e) i [] old new h b = begun-on i [] old old new (sym (append-nil old)) b
begun-root (Err e) i (p ∷ above) old new h b =
    let none : length (p ∷ above) ≡ 0 = eqb-true (length (p ∷ above)) 0 h in absurd (omega (arith, none))

pub begun-parent : {T E : Type 0} (r : Result T E) (i p : ℕ) (rest above : List ℕ) (old new : List Event) → above ≡ p ∷ rest
    → IsBegun (log_below p rest) old new → OnErr r (IsBegun (log_below i above) old new)
begun-parent r i p rest above old new parts b =
    on-err r (IsBegun (log_below i above) old new)
    (subst (λ xs. IsBegun (log_below i xs) old new) (sym parts) (begun-before (log_below p rest) _ old new b))

pub begun-child : {T E : Type 0} (r : Result T E) (i p : ℕ) (rest above : List ℕ) (old mid new : List Event) → above ≡ p ∷ rest
    → mid ≡ old ++ pairs (log_below p rest) → OnErr r ((new ≡ mid) ⊎ (new ≡ mid ++ pair Match i ∷ []))
    → OnErr r (IsBegun (log_below i above) old new)
begun-child (Ok x) i p rest above old mid new parts e b = tt
begun-child (Err x) i p rest above old mid new parts e b =
    subst (λ xs. IsBegun (log_below i xs) old new) (sym parts) (begun-on i (log_below p rest) old mid new e b)
