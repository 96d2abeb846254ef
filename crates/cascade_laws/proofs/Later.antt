-- The winner of a list with one more declaration at its end.
use Rattle.std.proofs.Common.{◌≡◌, ◌∙◌, ap, sym, refl, List, [], ◌∷◌, ◌++◌, true, false, inl, inr, if◌then◌else◌}
use Rattle.std.specs.Prelude.{Option, Some, None}
use Rattle.std.proofs.lemmas.Bool.{cases_Bool, false≢true}
use Rattle.cascade_model.specs.Applied.{Applied}
use Rattle.cascade_model.specs.Kept.{Target, is_same_target}
use Rattle.cascade_model.specs.Order.{is_stronger, winner, stronger_of}
use Rattle.cascade_laws.proofs.Strength.{stronger-one_way, stronger-between}

-- of the winner of some declarations and one that appears later
abbrev pub later_of : Option Applied → Applied → Applied
later_of None d = d
later_of (Some w) d = if is_stronger w d then w else d

-- of one in front and one at the end
meet-two : (e d : Applied) → stronger_of e (Some d) ≡ Some (later_of (Some e) d)
meet-two e d = elim (cases_Bool (is_stronger e d)) [
  | inl s ↦ rw s refl
  | inr s ↦ rw s refl
]

-- of one in front, the winner of those behind it, and one at the end
meet-three : (e w d : Applied)
    → stronger_of e (Some (later_of (Some w) d)) ≡ Some (later_of (stronger_of e (Some w)) d)
meet-three e w d = elim (cases_Bool (is_stronger w d)) [
  | inl wd ↦ elim (cases_Bool (is_stronger e w)) [
    | inl ew ↦ rw (wd, ew, stronger-between e w d ew (stronger-one_way w d wd)) refl
    | inr ew ↦ rw wd (rw ew (rw wd refl))
  ]
  | inr wd ↦ elim (cases_Bool (is_stronger e w)) [
    | inl ew ↦ rw (wd, ew) (meet-two e d)
    | inr ew ↦ rw wd (rw ew (rw wd (rw (not-over e w d ew wd) refl)))
  ]
]
  where
    -- what is stronger than neither of a chain is not stronger than its end
    not-over : (e w d : Applied) → is_stronger e w ≡ false → is_stronger w d ≡ false → is_stronger e d ≡ false
    not-over e w d ew wd = elim (cases_Bool (is_stronger e d)) [
      | inl ed ↦ absurd (false≢true (sym ew ∙ stronger-between e d w ed wd))
      | inr ed ↦ ed
    ]

meet : (e : Applied) (o : Option Applied) (d : Applied)
    → stronger_of e (Some (later_of o d)) ≡ Some (later_of (stronger_of e o) d)
meet e None d = meet-two e d
meet e (Some w) d = meet-three e w d

pub winner-later : (t : Target) (ds : List Applied) (d : Applied) → is_same_target t d.target ≡ true
    → winner t (ds ++ (d ∷ [])) ≡ Some (later_of (winner t ds) d)
winner-later t [] d h = rw h refl
winner-later t (e ∷ ds) d h = elim (cases_Bool (is_same_target t e.target)) [
  | inl same ↦ rw same (ap (stronger_of e) (winner-later t ds d h) ∙ meet e (winner t ds) d)
  | inr other ↦ rw other (winner-later t ds d h)
]

pub winner-other_later : (t : Target) (ds : List Applied) (d : Applied) → is_same_target t d.target ≡ false
    → winner t (ds ++ (d ∷ [])) ≡ winner t ds
winner-other_later t [] d h = rw h refl
winner-other_later t (e ∷ ds) d h = elim (cases_Bool (is_same_target t e.target)) [
  | inl same ↦ rw same (ap (stronger_of e) (winner-other_later t ds d h))
  | inr other ↦ rw other (winner-other_later t ds d h)
]
