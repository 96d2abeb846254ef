-- The equations of an element have one answer.
use Rattle.std.proofs.Common.{Bool, List, None, Option, Some, ap, cond, false, refl, subst, sym, true, ◌∙◌, ◌≡◌}
use Rattle.std.specs.Prelude.{ℤ}
use Rattle.cascade_model.specs.Styling.{Styling}
use Rattle.flow_model.specs.declared.box_kind.BoxKind.{BoxKind}
use Rattle.flow_model.specs.declared.containing.Containing.{Containing}
use Rattle.flow_model.specs.declared.effects.Effects.{Effects}
use Rattle.flow_model.specs.declared.flow_item.FlowItem.{FlowItem}
use Rattle.flow_model.specs.declared.used.Used.{Used}
use Rattle.flow_model.specs.Heights.{height_of, used_values}
use Rattle.flow_model.specs.Kinds.{is_boxed}
use Rattle.flow_model.specs.Offsets.{Placement, placement}
use Rattle.flow_model.specs.PreferredWidths.{inner_pair, pair_of_contents}
use Rattle.flow_model.specs.UsedLengths.{Values}
use Rattle.layout_model.specs.Above.{Above, containing_children, content_box, effects_below, kind_below, laid_as, values_of}
use Rattle.layout_model.specs.Contents.{BlockBox, items_of, outer_pairs_of}
use Rattle.layout_model.specs.Entries.{BoxResults, Entry}
use Rattle.layout_model.specs.Equations.{HasBox, IsBox, IsEntry}
use Rattle.layout_model.specs.Laid.{containing_of, entry_of, results_of}

-- the results of a box whose contents have these outer pairs
abbrev pub results_with : Containing → Effects → Values → List (ℤ × ℤ) → List BlockBox → BoxResults
results_with around fx values pairs contents =
    results_of (inner_pair fx (pair_of_contents pairs)) (used_values around fx (inner_pair fx (pair_of_contents pairs)) values) (items_of contents)

box-same : (around : Containing) (fx : Effects) (values : Values) (contents : List BlockBox) (pairs : List (ℤ × ℤ)) → outer_pairs_of contents ≡ pairs
    → (box : BoxResults) → IsBox around fx values contents box → box ≡ results_with around fx values pairs contents
box-same around fx values contents pairs e box h =
    let pair : ℤ × ℤ = inner_pair fx (pair_of_contents pairs) in
    let edges : Used = used_values around fx pair values in
    let inner : box.inner ≡ pair = h.inner ∙ ap (λ (ps : List (ℤ × ℤ)). inner_pair fx (pair_of_contents ps)) e in
    let used : box.used ≡ edges = h.used ∙ ap (λ (p : ℤ × ℤ). used_values around fx p values) inner in
    let place : box.placement ≡ placement edges (items_of contents) = h.placement ∙ ap (λ (u : Used). placement u (items_of contents)) used in
    let height : box.height ≡ height_of edges (placement edges (items_of contents)).auto_height =
    h.height ∙ (ap (λ (u : Used). height_of u box.placement.auto_height) used ∙ ap (λ (q : Placement). height_of edges q.auto_height) place) in
    λ j. record { inner = inner j; used = used j; height = height j; placement = place j }

has-same : (b : Bool) (around : Containing) (fx : Effects) (values : Values) (contents : List BlockBox) (pairs : List (ℤ × ℤ)) → outer_pairs_of contents ≡ pairs
    → (box : Option BoxResults) → HasBox b (IsBox around fx values contents) box → box ≡ cond b (Some (results_with around fx values pairs contents)) None
has-same true around fx values contents pairs e box h = h.1 ∙ ap (λ (b : BoxResults). Some b) (box-same around fx values contents pairs e h.0 h.2)
has-same false around fx values contents pairs e box h = h

has-laid : (b : Bool) (around : Containing) (fx : Effects) (values : Values) (contents : List BlockBox) (pairs : List (ℤ × ℤ)) → outer_pairs_of contents ≡ pairs
    → HasBox b (IsBox around fx values contents) (cond b (Some (results_with around fx values pairs contents)) None)
has-laid true around fx values contents pairs e = (
  results_with around fx values pairs contents,
  refl,
  record {
    inner = ap (λ (ps : List (ℤ × ℤ)). inner_pair fx (pair_of_contents ps)) (sym e);
    used = refl;
    placement = refl;
    height = refl;
  },
)
has-laid false around fx values contents pairs e = refl

-- an entry that meets the equations is this one
pub entry-same : (above : Above) (around : Containing) (style : Styling) (contents : List BlockBox) (pairs : List (ℤ × ℤ)) → outer_pairs_of contents ≡ pairs
    → (e : Entry) → IsEntry above around style contents e → e ≡ entry_of above around style pairs contents
entry-same above around style contents pairs p e h =
    let kind : e.kind ≡ kind_below above style = h.kind ∙ ap (λ (s : Styling). kind_below above s) h.style in
    let styled : HasBox (is_boxed e.kind) (IsBox (laid_as e.kind around) (effects_below above style) (values_of style) contents) e.box =
    subst (λ (s : Styling). HasBox (is_boxed e.kind) (IsBox (laid_as e.kind around) (effects_below above s) (values_of s) contents) e.box) h.style h.box in
    let boxed : HasBox (is_boxed (kind_below above style)) (IsBox (laid_as (kind_below above style) around) (effects_below above style) (values_of style) contents) e.box =
    subst (λ (k : BoxKind). HasBox (is_boxed k) (IsBox (laid_as k around) (effects_below above style) (values_of style) contents) e.box) kind styled in
    let box = has-same (is_boxed (kind_below above style)) (laid_as (kind_below above style) around) (effects_below above style) (values_of style) contents pairs p e.box boxed in
    λ j. record { style = h.style j; kind = kind j; box = box j }

-- and it meets them
pub entry-laid : (above : Above) (around : Containing) (style : Styling) (contents : List BlockBox) (pairs : List (ℤ × ℤ)) → outer_pairs_of contents ≡ pairs
    → IsEntry above around style contents (entry_of above around style pairs contents)
entry-laid above around style contents pairs p = record {
  style = refl;
  kind = refl;
  box = has-laid (is_boxed (kind_below above style)) (laid_as (kind_below above style) around) (effects_below above style) (values_of style) contents pairs p;
}

-- the containing block of children comes from the used values
containing-cond : (b : Bool) (around : Containing) (inner : ℤ × ℤ) (used : Used) (items : List FlowItem)
    → containing_children around (cond b (Some (results_of inner used items)) None) ≡ cond b (content_box used) around
containing-cond true around inner used items = refl
containing-cond false around inner used items = refl

pub containing-same : (above : Above) (around : Containing) (style : Styling) (contents : List BlockBox) (pairs : List (ℤ × ℤ))
    → containing_children around (entry_of above around style pairs contents).box ≡ containing_of above around style pairs
containing-same above around style contents pairs =
    containing-cond (is_boxed (kind_below above style)) around
    (inner_pair (effects_below above style) (pair_of_contents pairs))
    (used_values (laid_as (kind_below above style) around) (effects_below above style) (inner_pair (effects_below above style) (pair_of_contents pairs)) (values_of style))
    (items_of contents)
