-- Compounds after one another, and what is no part of a compound.
use Rattle.std.specs.Prelude.{List, [], ◌∷◌, Option, Some, None}
use Rattle.selectors_model.specs.Selectors.{Compound, no_simples, simple, Selector}

-- a compound, and then more simple selectors
abbrev pub compounds_joined : Compound → Compound → Compound
compounds_joined no_simples d = d
compounds_joined (simple s c) d = simple s (compounds_joined c d)

-- the members that are valid, in their order
abbrev pub valid_members : List (Option Selector) → List (Option Selector)
valid_members [] = []
valid_members (Some s ∷ members) = Some s ∷ valid_members members
valid_members (None ∷ members) = valid_members members
