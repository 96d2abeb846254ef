use Rattle.std.proofs.Common.{rules, ◌≡◌, ◌∙◌, ap, length}
use Rattle.std.proofs.lemmas.Result.{IfOk-weaker}
use Rattle.custom_model.specs.inner.Finding.{environment_of}
use Rattle.custom_props.specs.EnvView.{env_view}
use Rattle.cascade_core.proofs.EnvironmentShared.{environment-is, none-by-length, nothing-declared}
use Rattle.cascade_core.proofs.environments.environment_below.Goals as goal

pub returns-then-len-eq0 : goal.returns-then-len-eq0
returns-then-len-eq0 c =
    let none : length (env_view c.args.declared.now) ≡ 0 = search rules in
    let same : c.in_ok-clone.field-0.value ≡ c.args.inherited.now.value = search rules in
    ap env_view same
    ∙ nothing-declared (env_view c.args.declared.now) (env_view c.args.inherited.now.value)
    (none-by-length (env_view c.args.declared.now) none) c.args.inherited.now.value.order

pub returns : goal.returns
returns c =
    let same : c.deref.result.now ≡ c.args.inherited.now.value = search rules in
    IfOk-weaker c.shared.result (λ env. env.value ≡ c.in_ok-resolve_env.field-0)
    (λ env. env_view env.value ≡ environment_of (record {
      declared = env_view c.args.declared.now;
      inherited = env_view c.args.inherited.now.value;
    }))
    (λ env is. ap env_view is
    ∙ (environment-is (record {
      declared = env_view c.args.declared.now;
      inherited = env_view c.deref.result.now;
    }) (env_view c.in_ok-resolve_env.field-0) c.in_ok-resolve_env.ensures.environment
    ∙ ap (λ e. environment_of (record { declared = env_view c.args.declared.now; inherited = env_view e })) same))
    c.shared.ensures
