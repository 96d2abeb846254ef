-- The parts of a style, in the list of all values.
use Rattle.std.proofs.Common.{◌≡◌, ◌∙◌, ap, sym, subst, ◌+◌, take, drop, List, ◌++◌}
use Rattle.std.proofs.Math.Seq.{take-append_seam, drop-append_seam, drop-append-add}
use Rattle.prop_table.specs.declared.final_value.Final.{Final}
use Rattle.prop_table.specs.Styles.{AreParts, boxes_of, borders_of, rest_of}

past-boxes : (boxes borders rest : List Final) → AreParts boxes borders rest
    → drop 15 (boxes ++ (borders ++ rest)) ≡ borders ++ rest
past-boxes boxes borders rest are =
    subst (λ n. drop n (boxes ++ (borders ++ rest)) ≡ borders ++ rest) are.boxes_length
    (drop-append_seam boxes (borders ++ rest))

pub boxes-are : (boxes borders rest : List Final) → AreParts boxes borders rest
    → boxes ≡ boxes_of (boxes ++ (borders ++ rest))
boxes-are boxes borders rest are =
    sym (subst (λ n. take n (boxes ++ (borders ++ rest)) ≡ boxes) are.boxes_length
    (take-append_seam boxes (borders ++ rest)))

pub borders-are : (boxes borders rest : List Final) → AreParts boxes borders rest
    → borders ≡ borders_of (boxes ++ (borders ++ rest))
borders-are boxes borders rest are =
    sym (ap (take 12) (past-boxes boxes borders rest are)
    ∙ subst (λ n. take n (borders ++ rest) ≡ borders) are.borders_length
    (take-append_seam borders rest))

pub rest-is : (boxes borders rest : List Final) → AreParts boxes borders rest
    → rest ≡ rest_of (boxes ++ (borders ++ rest))
rest-is boxes borders rest are =
    let past : drop (15 + 12) (boxes ++ (borders ++ rest)) ≡ drop 12 (borders ++ rest) =
    subst (λ n. drop (n + 12) (boxes ++ (borders ++ rest)) ≡ drop 12 (borders ++ rest))
    are.boxes_length (drop-append-add boxes (borders ++ rest) 12) in
    sym (past ∙ subst (λ n. drop n (borders ++ rest) ≡ rest) are.borders_length
    (drop-append_seam borders rest))
