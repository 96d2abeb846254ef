-- Each step of a walk keeps what is left to decide.
use Rattle.std.proofs.Common.{◌∙◌, ◌-◌, ap, arith, get_or, rules, subst, sym}
use Rattle.selectors.proofs.AncestorsOf.{parent-element}
use Rattle.selectors.proofs.Leftward.{nearest-before}
use Rattle.selectors.proofs.PrefixOf.{goal-fails, goal-open}
use Rattle.selectors.specs.Views.{compound_view}
use Rattle.selectors.specs.inner.Walks.{IsOpen}
use Rattle.selectors_model.specs.Matching.{compound_matches}
use Rattle.selectors.proofs.WalkSteps.{climb-descendant, row-leaves, row-stays, above-fails, above-less, above-matches, above-none, above-open, before-fails, before-less, before-matches, before-none, before-open, before-reached, child-leads, leads-on, next-leads, next-none, next-row, row-from-before, row-on}
use Rattle.selectors.proofs.matching.+matching.Goals as goal

pub matches_above-climb-requires : goal.matches_above-climb-requires
matches_above-climb-requires t c =
    let shorter = c.loop-at.invariant.shorter in
    let parent = sym c.parent.ensures ∙ c.in-Some.is in (
      search rules,
      (
        record {
          root_is = c.requires.element.root_is;
          here = record {
            document = c.requires.element.here.document;
            element = parent-element c.loop-at.below c.in-Some.at c.args.doc.now.document.root c.requires.element.here.document.ids.0 parent;
          };
        },
        omega (arith, shorter, c.requires.links.1),
      ),
    )

pub matches_above-returns-in-Matches : goal.matches_above-returns-in-Matches
matches_above-returns-in-Matches t c =
    sym (above-matches c.args.doc.now.document.root c.args.s.now c.args.right c.loop-at.links c.loop-at.below c.in-Some.at c.requires.element.here.document.ids.0
    c.loop-at.invariant (sym c.parent.ensures ∙ c.in-Some.is) c.in-Matches.ensures)

pub matches_above-loop-at-smaller-in-Fails : goal.matches_above-loop-at-smaller-in-Fails
matches_above-loop-at-smaller-in-Fails t c =
    above-less c.args.doc.now.document.root c.loop-at.below c.in-Some.at c.requires.element.here.document.ids.0 (sym c.parent.ensures ∙ c.in-Some.is)

pub matches_above-loop-at-preserved-in-Fails : goal.matches_above-loop-at-preserved-in-Fails
matches_above-loop-at-preserved-in-Fails t c =
    above-fails c.args.doc.now.document.root c.args.s.now c.args.right c.loop-at.links c.loop-at.below c.in-Some.at c.requires.element.here.document.ids.0
    c.loop-at.invariant (sym c.parent.ensures ∙ c.in-Some.is) c.in-Fails.ensures

pub matches_above-loop-at-smaller : goal.matches_above-loop-at-smaller
matches_above-loop-at-smaller t c =
    let less = above-less c.args.doc.now.document.root c.loop-at.below c.in-Some.at c.requires.element.here.document.ids.0 (sym c.parent.ensures ∙ c.in-Some.is) in
    let higher = c.in-Open.ensures.0.higher in
    omega (arith, less, higher)

pub matches_above-loop-at-preserved : goal.matches_above-loop-at-preserved
matches_above-loop-at-preserved t c =
    let leads = c.in-Open.ensures in
    above-open c.args.doc.now.document.root c.args.s.now c.args.right c.loop-at.links c.loop-at.below c.in-Some.at c.in-Open.right c.requires.element.here.document.ids.0
    c.loop-at.invariant (sym c.parent.ensures ∙ c.in-Some.is) leads.0 (climb-descendant _ _ _ _ leads.1 leads.2)

pub matches_above-returns : goal.matches_above-returns
matches_above-returns t c =
    sym (above-none c.args.doc.now.document.root c.args.s.now c.args.right c.loop-at.links c.loop-at.below c.requires.element.here.document.ids.0
    c.loop-at.invariant (sym c.parent.ensures ∙ c.in_default.is))

pub climb-loop-right-preserved : goal.climb-loop-right-preserved
climb-loop-right-preserved t c =
    let root = c.args.doc.now.document.root in
    let leads = c.in-Open-default-Child.ensures in
    leads-on root c.args.s.now _ _ _ _ c.in-Open-default-Child.right _
    (leads-on root c.args.s.now _ _ _ _ c.loop-right.goal c.in-Open-default-Child.right c.loop-right.invariant leads.0)
    (child-leads root c.args.s.now c.in-Open-default-Child.right c.in-Some.at c.requires.element.here.document.ids.0
    (subst (IsOpen root c.args.s.now c.in-Open-default-Child.right) c.in-Open-default-Child.field-1-is leads.1) (sym c.parent.ensures ∙ c.in-Some.is))

pub walk_before-walk_chain-requires : goal.walk_before-walk_chain-requires
walk_before-walk_chain-requires t c =
    let shorter = c.loop-at.invariant.shorter in
    let near = nearest-before c.loop-at.after c.in-Some.at c.args.doc.now.document.root c.requires.element.here.document.ids.0 c.loop-at.invariant.element (sym c.nearest.ensures ∙ c.in-Some.is) in (
      search rules,
      (
        record { root_is = c.requires.element.root_is; here = record { document = c.requires.element.here.document; element = near.element } },
        omega (arith, shorter, c.requires.links.1),
      ),
    )

pub walk_before-loop-at-smaller-in-Fails : goal.walk_before-loop-at-smaller-in-Fails
walk_before-loop-at-smaller-in-Fails t c =
    before-less c.args.doc.now.document.root c.loop-at.after c.in-Some.at c.requires.element.here.document.ids.0 c.loop-at.invariant.element (sym c.nearest.ensures ∙ c.in-Some.is)

pub walk_before-loop-at-preserved-in-Fails : goal.walk_before-loop-at-preserved-in-Fails
walk_before-loop-at-preserved-in-Fails t c =
    before-fails c.args.doc.now.document.root c.args.s.now c.args.right c.loop-at.links c.loop-at.after c.in-Some.at c.requires.element.here.document.ids.0
    c.loop-at.invariant (sym c.nearest.ensures ∙ c.in-Some.is) c.in-Fails.ensures.reaches

pub walk_before-returns : goal.walk_before-returns
walk_before-returns t c =
    before-none c.args.doc.now.document.root c.args.s.now c.args.right c.loop-at.links c.loop-at.after c.requires.element.here.document.ids.0 c.loop-at.invariant
    (sym c.nearest.ensures ∙ c.in_default.is)

pub walk_chain-loop-at-preserved : goal.walk_chain-loop-at-preserved
walk_chain-loop-at-preserved t c =
    let root = c.args.doc.now.document.root in
    let d = c.requires.element.here.document.ids.0 in
    let own = c.loop-at.invariant.leads.element in
    let left = subst (IsOpen root c.args.s.now c.loop-at.goal) c.in-Left-NextSibling.field-0-is c.in-Left-NextSibling.ensures in
    let next = sym c.nearest.ensures ∙ c.in-Some.is in
    record {
      leads = leads-on root c.args.s.now _ _ _ _ c.loop-at.goal _ c.loop-at.invariant.leads (next-leads root c.args.s.now c.loop-at.goal c.in-Some.at d own left next);
      row = row-on root c.args.s.now c.args.start c.loop-at.goal _ c.loop-at.invariant.row (next-row root c.args.s.now c.loop-at.goal c.in-Some.at d own left next);
    }

pub walk_chain-returns-in-None-clause-reaches : goal.walk_chain-returns-in-None-clause-reaches
walk_chain-returns-in-None-clause-reaches t c =
    let root = c.args.doc.now.document.root in
    let left = subst (IsOpen root c.args.s.now c.loop-at.goal) c.in-Left-NextSibling.field-0-is c.in-Left-NextSibling.ensures in
    c.loop-at.invariant.leads.decides
    ∙ next-none root c.args.s.now c.loop-at.goal c.requires.element.here.document.ids.0 c.loop-at.invariant.leads.element left
    (sym c.nearest.ensures ∙ c.in-None.is)

pub walk_row-returns-in-Open-default-SubsequentSibling : goal.walk_row-returns-in-Open-default-SubsequentSibling
walk_row-returns-in-Open-default-SubsequentSibling t c =
    let root = c.args.doc.now.document.root in
    let leads = c.in-Open-default-SubsequentSibling.ensures.reaches in
    row-from-before root c.args.s.now c.args.goal c.in-Open-default-SubsequentSibling.right c.walk_before.result c.requires.element.here.document.ids.0 leads.0
    (subst (IsOpen root c.args.s.now c.in-Open-default-SubsequentSibling.right) c.in-Open-default-SubsequentSibling.field-1-is leads.1) c.walk_before.ensures

pub check-returns-then-compound_matches-2 : goal.check-returns-then-compound_matches-2
check-returns-then-compound_matches-2 t c =
    let link = c.index-as_slice-goal.result in
    let is = c.index-as_slice-goal.is ∙ ap (λ links. get_or links (c.args.goal.links - 1) link) c.as_slice-else-goal-eq0.ensures in
    goal-open c.args.doc.now.document.root c.args.s.now c.args.goal link (omega (arith, c.if-goal-eq0.false)) c.requires.links is
    (sym (ap (λ simples. compound_matches c.args.doc.now.document.root (compound_view simples) c.args.goal.at) c.as_slice-else-goal-eq0-2.ensures)
    ∙ (sym c.compound_matches-else-goal-eq0.ensures ∙ c.if-compound_matches-2.true))

pub check-returns-else-compound_matches-2 : goal.check-returns-else-compound_matches-2
check-returns-else-compound_matches-2 t c =
    let link = c.index-as_slice-goal.result in
    let is = c.index-as_slice-goal.is ∙ ap (λ links. get_or links (c.args.goal.links - 1) link) c.as_slice-else-goal-eq0.ensures in
    goal-fails c.args.doc.now.document.root c.args.s.now c.args.goal link (omega (arith, c.if-goal-eq0.false)) c.requires.links is
    (sym (ap (λ simples. compound_matches c.args.doc.now.document.root (compound_view simples) c.args.goal.at) c.as_slice-else-goal-eq0-2.ensures)
    ∙ (sym c.compound_matches-else-goal-eq0.ensures ∙ c.if-compound_matches-2.false))

pub walk_before-returns-in-Matches : goal.walk_before-returns-in-Matches
walk_before-returns-in-Matches t c =
    before-matches c.args.doc.now.document.root c.args.s.now c.args.right c.loop-at.links c.loop-at.after c.in-Some.at c.requires.element.here.document.ids.0
    c.loop-at.invariant (sym c.nearest.ensures ∙ c.in-Some.is) c.in-Matches.ensures.reaches

pub walk_before-returns-then-leaves_row : goal.walk_before-returns-then-leaves_row
walk_before-returns-then-leaves_row t c =
    let leads = c.in-Open.ensures.reaches in
    let ends = sym c.leaves_row.ensures ∙ c.if-leaves_row.true in
    before-reached c.args.doc.now.document.root c.args.s.now c.args.right c.loop-at.links c.loop-at.after c.in-Some.at c.in-Open.right c.in-Open.combinator
    c.requires.element.here.document.ids.0 c.loop-at.invariant (sym c.nearest.ensures ∙ c.in-Some.is) leads.0 c.in-Open.ensures.row leads.1
    (row-leaves c.in-Open.combinator ends) ends

pub walk_before-loop-at-smaller : goal.walk_before-loop-at-smaller
walk_before-loop-at-smaller t c =
    let less = before-less c.args.doc.now.document.root c.loop-at.after c.in-Some.at c.requires.element.here.document.ids.0 c.loop-at.invariant.element (sym c.nearest.ensures ∙ c.in-Some.is) in
    let further = c.in-Open.ensures.row.before in
    omega (arith, less, further)

pub walk_before-loop-at-preserved : goal.walk_before-loop-at-preserved
walk_before-loop-at-preserved t c =
    let leads = c.in-Open.ensures.reaches in
    before-open c.args.doc.now.document.root c.args.s.now c.args.right c.loop-at.links c.loop-at.after c.in-Some.at c.in-Open.right
    c.requires.element.here.document.ids.0 c.loop-at.invariant (sym c.nearest.ensures ∙ c.in-Some.is) leads.0 c.in-Open.ensures.row
    (row-stays _ _ _ _ leads.1 leads.2 (sym c.leaves_row.ensures ∙ c.if-leaves_row.false))
