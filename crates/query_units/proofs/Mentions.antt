-- What is mentioned in two lists of leaves.
use Rattle.std.proofs.Common.{◌≡◌, refl, List, [], ◌∷◌, ◌++◌, map}
use Rattle.std.specs.List.{fold}
use Rattle.value_model.specs.Calculations.{union_of_bases}
use Rattle.value_model.specs.Lengths.{Length, mentioned}
use Rattle.value_model.specs.declared.unit_set.UnitSet.{UnitSet}

pub mentioned_append : (found : UnitSet) (xs ys : List Length)
    → fold union_of_bases found (map mentioned (xs ++ ys))
    ≡ fold union_of_bases (fold union_of_bases found (map mentioned xs)) (map mentioned ys)
mentioned_append found [] ys = refl
mentioned_append found (x ∷ xs) ys = mentioned_append (union_of_bases found (mentioned x)) xs ys
