-- Winners of more and more declarations.
use Rattle.std.proofs.Common.{◌≡◌, ◌∙◌, ap, sym, refl, subst, ℕ, ◌+◌, ◌<◌, length, drop, get_or, List, [], ◌∷◌, ◌++◌, false, true, inl, inr}
use Rattle.std.specs.Prelude.{Option}
use Rattle.std.proofs.lemmas.Bool.{cases_Bool}
use Rattle.std.proofs.lemmas.List.{append_assoc, append-nil}
use Rattle.std.proofs.lemmas.List.Elements.{filter-append}
use Rattle.cascade_model.specs.declared.origin.Origin.TheVariants.{UserAgent, Author}
use Rattle.cascade_model.specs.Applied as model
use Rattle.cascade_model.specs.Cascaded.{is_of_user_agent, without_author}
use Rattle.cascade_model.specs.Kept.{of_custom, of_property, is_same_target}
use Rattle.cascade_laws.proofs.Later.{winner-other_later}
use Rattle.css_model.specs.Classes.{Text}
use Rattle.value_model.specs.declared.prop.Prop.{Prop}
use Rattle.cascade_core.specs.AppliedViews.{applied_view, placed, all_placed}
use Rattle.cascade_core.specs.Tables.{IsTable, Offers}
use Rattle.cascade_core.specs.Views.{kept_view, all_kept_view, target_view}
use Rattle.cascade_core.specs.declared.applied.Applied.{Applied}
use Rattle.cascade_core.specs.declared.applied.Place.{Place}
use Rattle.cascade_core.specs.declared.kept.Kept.{Kept}
use Rattle.cascade_core.specs.declared.winners.BothTables.{BothTables}
use Rattle.cascade_core.specs.inner.BothTables.{AreWinners, Takes, Reaches}
use Rattle.cascade_core.specs.inner.Customs.{AreCustoms, name_of, offered}
use Rattle.cascade_core.specs.declared.customs.Customs.{Customs}
use Rattle.cascade_core.specs.declared.customs.CustomWinner.{CustomWinner}
use Rattle.cascade_core.proofs.CustomWinners.{customs-offered}
use Rattle.cascade_core.proofs.IsTable.{offer-custom}
use Rattle.cascade_core.proofs.KeptDeclarations.{from-here}

-- ---- one more

without-more : (ds : List model.Applied) (d : model.Applied)
    → without_author (ds ++ d ∷ []) ≡ without_author ds ++ without_author (d ∷ [])
without-more ds d = filter-append (λ e. is_of_user_agent e.origin) ds (d ∷ [])

-- a declaration of a property, which leaves custom properties alone
customs-after : (entries : List CustomWinner) (q : Prop) (d : model.Applied) → d.target ≡ of_property q
    → (ds : List model.Applied) → AreCustoms entries ds → AreCustoms entries (ds ++ d ∷ [])
customs-after entries q d of ds are = record {
  in_order = are.in_order;
  winners = λ name. are.winners name
      ∙ sym (winner-other_later (of_custom name) ds d (ap (is_same_target (of_custom name)) of));
}

kept-alone : (d : model.Applied) → is_of_user_agent d.origin ≡ true → without_author (d ∷ []) ≡ d ∷ []
kept-alone d of = rw of refl

dropped : (d : model.Applied) → is_of_user_agent d.origin ≡ false → without_author (d ∷ []) ≡ []
dropped d of = rw of refl

-- of the user agent
pub taken_by_both : (old new : BothTables) (a b : Applied) (place : Place) (k : Kept) (q : Prop)
    → (kept_view k).target ≡ of_property q
    → place.origin ≡ UserAgent → applied_view (target_view k.target) a ≡ placed place (kept_view k)
    → applied_view (target_view k.target) b ≡ placed place (kept_view k)
    → new.customs ≡ old.customs
    → Offers old.user_agent new.user_agent (applied_view (of_property q) a)
    → Offers old.all new.all (applied_view (of_property q) b)
    → Takes old new (placed place (kept_view k) ∷ [])
taken_by_both old new a b place k q target of a-is b-is customs user_agent all =
    by-both old new q (placed place (kept_view k)) target (ap is_of_user_agent of) customs
    (subst (Offers old.user_agent new.user_agent) (ap (λ t. applied_view t a) (sym target) ∙ a-is) user_agent)
    (subst (Offers old.all new.all) (ap (λ t. applied_view t b) (sym target) ∙ b-is) all)
  where
    by-both : (old new : BothTables) (q : Prop) (d : model.Applied) → d.target ≡ of_property q
        → is_of_user_agent d.origin ≡ true → new.customs ≡ old.customs
        → Offers old.user_agent new.user_agent d → Offers old.all new.all d → Takes old new (d ∷ [])
    by-both old new q d target of customs user_agent all ds are = record {
      all = all ds are.all;
      user_agent =
          subst (IsTable new.user_agent) (sym (without-more ds d ∙ ap (λ l. without_author ds ++ l) (kept-alone d of)))
          (user_agent (without_author ds) are.user_agent);
      customs =
          subst (λ (c : Customs). AreCustoms c.entries.items (ds ++ d ∷ [])) (sym customs)
          (customs-after old.customs.entries.items q d target ds are.customs);
    }

-- of the author
pub taken_by_one : (old new : BothTables) (b : Applied) (place : Place) (k : Kept) (q : Prop)
    → (kept_view k).target ≡ of_property q
    → place.origin ≡ Author → applied_view (target_view k.target) b ≡ placed place (kept_view k)
    → new.customs ≡ old.customs
    → new.user_agent ≡ old.user_agent → Offers old.all new.all (applied_view (of_property q) b)
    → Takes old new (placed place (kept_view k) ∷ [])
taken_by_one old new b place k q target of b-is customs user_agent all =
    by-one old new q (placed place (kept_view k)) target (ap is_of_user_agent of) customs user_agent
    (subst (Offers old.all new.all) (ap (λ t. applied_view t b) (sym target) ∙ b-is) all)
  where
    by-one : (old new : BothTables) (q : Prop) (d : model.Applied) → d.target ≡ of_property q
        → is_of_user_agent d.origin ≡ false → new.customs ≡ old.customs
        → new.user_agent ≡ old.user_agent → Offers old.all new.all d → Takes old new (d ∷ [])
    by-one old new q d target of customs user_agent all ds are = record {
      all = all ds are.all;
      user_agent =
          subst (IsTable new.user_agent) (sym (without-more ds d ∙ (ap (λ l. without_author ds ++ l) (dropped d of) ∙ append-nil (without_author ds))))
          (subst (λ t. IsTable t (without_author ds)) (sym user_agent) are.user_agent);
      customs =
          subst (λ (c : Customs). AreCustoms c.entries.items (ds ++ d ∷ [])) (sym customs)
          (customs-after old.customs.entries.items q d target ds are.customs);
    }

-- of a custom property
pub taken_by_custom : (old new : BothTables) (b : CustomWinner) (place : Place) (k : Kept) (name : Text)
    → (kept_view k).target ≡ of_custom name
    → name_of b ≡ name → applied_view (target_view k.target) b.applied ≡ placed place (kept_view k)
    → new.all ≡ old.all → new.user_agent ≡ old.user_agent
    → new.customs.entries.items ≡ offered b old.customs.entries.items
    → Takes old new (placed place (kept_view k) ∷ [])
taken_by_custom old new b place k name target named b-is all user_agent offers =
    by-custom old new b name (placed place (kept_view k)) target named
    (ap (λ t. applied_view t b.applied) (sym target) ∙ b-is) all user_agent offers
  where
    -- among those of the user agent, whoever declares it
    user-agent-after : (entries : List (Option Applied)) (name : Text) (d : model.Applied) → d.target ≡ of_custom name
        → (ds : List model.Applied) → IsTable entries (without_author ds) → IsTable entries (without_author (ds ++ d ∷ []))
    user-agent-after entries name d target ds are = elim (cases_Bool (is_of_user_agent d.origin)) [
      | inl own ↦
          subst (IsTable entries) (sym (without-more ds d ∙ ap (λ l. without_author ds ++ l) (kept-alone d own)))
          (offer-custom entries name d target (without_author ds) are)
      | inr other ↦
          subst (IsTable entries) (sym (without-more ds d ∙ (ap (λ l. without_author ds ++ l) (dropped d other) ∙ append-nil (without_author ds))))
          are
    ]

    by-custom : (old new : BothTables) (b : CustomWinner) (name : Text) (d : model.Applied) → d.target ≡ of_custom name
        → name_of b ≡ name → applied_view (of_custom name) b.applied ≡ d
        → new.all ≡ old.all → new.user_agent ≡ old.user_agent
        → new.customs.entries.items ≡ offered b old.customs.entries.items → Takes old new (d ∷ [])
    by-custom old new b name d target named b-is all user_agent offers ds are = record {
      all =
          subst (λ t. IsTable t (ds ++ d ∷ [])) (sym all)
          (offer-custom old.all name d target ds are.all);
      user_agent =
          subst (λ t. IsTable t (without_author (ds ++ d ∷ []))) (sym user_agent)
          (user-agent-after old.user_agent name d target ds are.user_agent);
      customs =
          subst (λ (e : List CustomWinner). AreCustoms e (ds ++ d ∷ [])) (sym offers)
          (subst (λ (x : model.Applied). AreCustoms (offered b old.customs.entries.items) (ds ++ x ∷ []))
          (ap (λ n. applied_view (of_custom n) b.applied) named ∙ b-is)
          (customs-offered b old.customs.entries.items ds are.customs));
    }

-- ---- one after another

pub reaches-all : (tables : BothTables) (all : List model.Applied) → Reaches tables tables all all
reaches-all tables all ds are = (ds, are, refl)

pub reaches-end : (old new : BothTables) (all : List model.Applied) → Reaches old new all [] → Takes old new all
reaches-end old new all reached ds are =
    let end = reached ds are in
    subst (AreWinners new) (sym (append-nil end.0) ∙ end.2) end.1

pub reaches-further : (old between new : BothTables) (all rest rest' added : List model.Applied)
    → Reaches old between all rest → Takes between new added → rest ≡ added ++ rest'
    → Reaches old new all rest'
reaches-further old between new all rest rest' added reached taken is ds are =
    let end = reached ds are in (
      end.0 ++ added,
      taken end.0 end.1,
      append_assoc end.0 added rest' ∙ (ap (λ l. end.0 ++ l) (sym is) ∙ end.2),
    )

-- ---- the declarations of one place

pub placed-from : (place : Place) (ks : List Kept) (i : ℕ) (k : Kept) → i < length ks → k ≡ get_or ks i k
    → all_placed place (all_kept_view (drop i ks))
    ≡ (placed place (kept_view k) ∷ []) ++ all_placed place (all_kept_view (drop (i + 1) ks))
placed-from place ks i k within is =
    ap (λ l. all_placed place (all_kept_view l)) (from-here ks i k within is)
