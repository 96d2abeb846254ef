-- A list of component values up to the first that passes, and what holds of the rest of it.
use Rattle.std.proofs.Common.{◌≡◌, ap, refl, inl, inr, ◌⊎◌, Bool, true, false}
use Rattle.css_model.specs.Components.{Component, Components, no_components, component}
use Rattle.css_model.specs.inner.Nesting.{followed}
use Rattle.rules_laws.specs.Parts.{NonePass}

-- a part in which none passes, one that passes, and a rest of which this holds
pub record IsSplit (Holds : Components → Type 0) (test : Component → Bool) (cs : Components) : Type
    0 where
  pub part : Components
  pub end : Component
  pub more : Components
  pub joined : cs ≡ followed part (component end more)
  pub none_pass : NonePass test part
  pub passes : test end ≡ true
  pub holds : Holds more

-- none passes, or it is split
abbrev pub Split : (Components → Type 0) → (Component → Bool) → Components → Type 0
Split Holds test cs = NonePass test cs ⊎ IsSplit Holds test cs

pub split-here : (Holds : Components → Type 0) (test : Component → Bool) (c : Component)
    (cs : Components)
    → test c ≡ true → Holds cs → Split Holds test (component c cs)
split-here Holds test c cs e h = inr (record {
  part = no_components;
  end = c;
  more = cs;
  joined = refl;
  none_pass = tt;
  passes = e;
  holds = h;
})

pub split-later : (Holds : Components → Type 0) (test : Component → Bool) (c : Component)
    (cs : Components)
    → test c ≡ false → Split Holds test cs → Split Holds test (component c cs)
split-later Holds test c cs e (inl n) = inl (e, n)
split-later Holds test c cs e (inr s) = inr (record {
  part = component c s.part;
  end = s.end;
  more = s.more;
  joined = ap (component c) s.joined;
  none_pass = (e, s.none_pass);
  passes = s.passes;
  holds = s.holds;
})
