-- Joined lists of component values, and what is before the first that passes.
use Rattle.std.proofs.Common.{◌≡◌, ap, refl, Bool, true}
use Rattle.css_model.specs.Components.{Component, Components, no_components, component}
use Rattle.css_model.specs.inner.Nesting.{followed}
use Rattle.rules_model.specs.ComponentLists.{before}
use Rattle.rules_laws.specs.Parts.{NonePass}

pub followed-followed : (bs cs ds : Components)
    → followed (followed bs cs) ds ≡ followed bs (followed cs ds)
followed-followed no_components cs ds = refl
followed-followed (component b bs) cs ds = ap (component b) (followed-followed bs cs ds)

pub followed-end : (cs : Components) → followed cs no_components ≡ cs
followed-end no_components = refl
followed-end (component c cs) = ap (component c) (followed-end cs)

pub before-end : (test : Component → Bool) (part : Components) (end : Component) (cs : Components)
    → NonePass test part → test end ≡ true → before test (followed part (component end cs)) ≡ part
before-end test no_components end cs n e = rw e refl
before-end test (component c part) end cs n e =
    rw n.0 (ap (component c) (before-end test part end cs n.1 e))

pub before-all : (test : Component → Bool) (part : Components) → NonePass test part
    → before test part ≡ part
before-all test no_components n = refl
before-all test (component c part) n = rw n.0 (ap (component c) (before-all test part n.1))
