-- Sets of margins that are carried along from item to item.
use Rattle.std.proofs.Common.{◌∙◌, sym, ap, refl}
use Rattle.std.specs.Prelude.{◌≡◌, ◌&&◌, not, if◌then◌else◌, List, [], ◌∷◌, ◌++◌, Bool, true, false}
use Rattle.std.specs.List.{list_all}
use Rattle.std.proofs.lemmas.List.{append-nil}
use Rattle.flow_model.specs.declared.flow_item.FlowItem.{FlowItem}
use Rattle.flow_model.specs.declared.margins.Margins.{Margins}
use Rattle.flow_model.specs.MarginSets.{joined}
use Rattle.flow_model.specs.Collapsing.{is_through, top_of, bottom_of, has_solid, sets_to_solid, sets_above}
use Rattle.flow_laws.proofs.SeenSets.{joined_cons, joined_snoc}

-- ---- after the last solid item

pub meeting-step : (b : Bool) (m c : Margins) (sets : List Margins) → c ≡ joined sets
    → (if b then joined (m ∷ c ∷ []) else joined (m ∷ [])) ≡ joined (if b then m ∷ sets else m ∷ [])
meeting-step true m c sets e = ap (λ (x : Margins). joined (m ∷ x ∷ [])) e ∙ joined_cons m sets
meeting-step false m c sets e = refl

pub above-carried : (item : FlowItem) (above : List FlowItem)
    → joined (sets_above (item ∷ above))
    ≡ (if is_through item then joined (bottom_of item ∷ joined (sets_above above) ∷ []) else joined (bottom_of item ∷ []))
above-carried item above =
    sym (meeting-step (is_through item) (bottom_of item) (joined (sets_above above)) (sets_above above) refl)

-- ---- up to the first solid item

alone-is_solid : (b : Bool) → not (b && true) ≡ not b
alone-is_solid true = refl
alone-is_solid false = refl

one-more_solid : (b c d e : Bool) → not c ≡ (if not d then true else e) → not (b && c) ≡ (if not (b && d) then true else e)
one-more_solid true c d e h = h
one-more_solid false c d e h = refl

pub has_solid-snoc : (xs : List FlowItem) (x : FlowItem) → has_solid (xs ++ x ∷ []) ≡ (if has_solid xs then true else not (is_through x))
has_solid-snoc [] x = alone-is_solid (is_through x)
has_solid-snoc (y ∷ ys) x =
    one-more_solid (is_through y) (list_all is_through (ys ++ x ∷ [])) (list_all is_through ys) (not (is_through x)) (has_solid-snoc ys x)

first-set : (b : Bool) (t m : Margins) → (if b then m ∷ [] else t ∷ []) ≡ (if b then m else t) ∷ []
first-set true t m = refl
first-set false t m = refl

sets-cons : (b d : Bool) (t m f : Margins) (xs ys : List Margins) → xs ≡ ys ++ (if not d then [] else f ∷ [])
    → (if b then m ∷ xs else t ∷ []) ≡ (if b then m ∷ ys else t ∷ []) ++ (if not (b && d) then [] else f ∷ [])
sets-cons true d t m f xs ys h = ap (λ (zs : List Margins). m ∷ zs) h
sets-cons false d t m f xs ys h = refl

pub sets_to_solid-snoc : (xs : List FlowItem) (x : FlowItem)
    → sets_to_solid (xs ++ x ∷ []) ≡ sets_to_solid xs ++ (if has_solid xs then [] else (if is_through x then bottom_of x else top_of x) ∷ [])
sets_to_solid-snoc [] x = first-set (is_through x) (top_of x) (bottom_of x)
sets_to_solid-snoc (y ∷ ys) x =
    sets-cons (is_through y) (list_all is_through ys) (top_of y) (bottom_of y) ((if is_through x then bottom_of x else top_of x))
    (sets_to_solid (ys ++ x ∷ [])) (sets_to_solid ys) (sets_to_solid-snoc ys x)

pub lead-step : (s : Bool) (l f : Margins) (sets : List Margins) → l ≡ joined sets
    → (if s then l else joined (l ∷ f ∷ [])) ≡ joined (sets ++ (if s then [] else f ∷ []))
lead-step true l f sets h = h ∙ ap (λ (xs : List Margins). joined xs) (sym (append-nil sets))
lead-step false l f sets h = ap (λ (x : Margins). joined (x ∷ f ∷ [])) h ∙ sym (joined_snoc sets f)

pub lead-carried : (items : List FlowItem) (item : FlowItem)
    → joined (sets_to_solid (items ++ item ∷ []))
    ≡ (if has_solid items then joined (sets_to_solid items)
    else joined (joined (sets_to_solid items) ∷ (if is_through item then bottom_of item else top_of item) ∷ []))
lead-carried items item =
    ap (λ (xs : List Margins). joined xs) (sets_to_solid-snoc items item)
    ∙ sym (lead-step (has_solid items) (joined (sets_to_solid items)) (if is_through item then bottom_of item else top_of item)
    (sets_to_solid items) refl)
