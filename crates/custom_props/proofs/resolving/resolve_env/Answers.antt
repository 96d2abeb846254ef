use Rattle.std.proofs.Common.{◌≡◌, sym, subst, List}
use Rattle.custom_model.specs.Environments.{IsEnvironment}
use Rattle.custom_props.specs.EnvView.{env_view}
use Rattle.custom_props.specs.inner.Merging.{merged, named_entries}
use Rattle.custom_props.specs.inner.Tables.{IsTable}
use Rattle.custom_props.specs.declared.entry.Entry.{Entry}
use Rattle.custom_props.proofs.EnvironmentFound.{environment_found, ok-then}
use Rattle.custom_props.proofs.resolving.resolve_env.Goals as goal

pub returns : goal.returns
returns c =
    record {
      environment =
          ok-then c.env_of.result
          (λ env. env_view env
          ≡ merged (named_entries (env_view c.args.declared.now) c.as_slice.result.now) (env_view c.args.inherited.now))
          (λ env. IsEnvironment (record { declared = env_view c.args.declared.now; inherited = env_view c.args.inherited.now }) (env_view env))
          (λ env e. environment_found (record { declared = env_view c.args.declared.now; inherited = env_view c.args.inherited.now })
          c.as_slice.result.now (env_view env) c.args.declared.now.order c.args.inherited.now.order e
          (subst (λ (t : List Entry). IsTable (record { declared = env_view c.args.declared.now; inherited = env_view c.args.inherited.now }) t)
          (sym c.as_slice.ensures) c.in_ok-entries.ensures))
          c.env_of.ensures;
    }
