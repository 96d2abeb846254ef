-- The environment of an element, which may be that of its parent.
use Rattle.std.proofs.Common.{◌≡◌, ◌∙◌, ap, sym, arith, refl, [], ◌∷◌, true, length}
use Rattle.std.proofs.lemmas.Option.{none-some}
use Rattle.custom_model.specs.Environments.{EnvironmentGiven, IsEnvironment}
use Rattle.custom_model.specs.NamedValues.{NamedValues, are_in_order, names_of, value_named}
use Rattle.custom_model.specs.inner.Finding.{environment_of}
use Rattle.custom_laws.proofs.Found.{found-environment, one-environment}

-- an environment is the one that is found
pub environment-is : (g : EnvironmentGiven) (environment : NamedValues) → IsEnvironment g environment
    → environment ≡ environment_of g
environment-is g environment is = one-environment g environment (environment_of g) is (found-environment g)

-- an element that declares nothing has that of its parent
pub nothing-declared : (declared inherited : NamedValues) → declared ≡ [] → are_in_order (names_of inherited) ≡ true
    → inherited ≡ environment_of (record { declared = declared; inherited = inherited })
nothing-declared declared inherited none order =
    environment-is (record { declared = declared; inherited = inherited }) inherited (record {
      in_order = order;
      entries = λ name. record {
        not_declared = λ n. refl;
        on_cycle = λ c. refl;
        declared = λ value is off. absurd (none-some value (sym (ap (λ ds. value_named ds name) none) ∙ is));
      };
    })

pub none-by-length : (declared : NamedValues) → length declared ≡ 0 → declared ≡ []
none-by-length [] h = refl
none-by-length (d ∷ declared) h = absurd (omega (arith, h))
