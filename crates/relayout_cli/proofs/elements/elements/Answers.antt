use Rattle.std.proofs.Common.{◌∙◌, sym, subst, refl}
use Rattle.std.specs.List.{All}
use Rattle.relayout_cli.specs.inner.Elements.{IsElement}
use Rattle.relayout_cli.proofs.DumpLemmas.{find-root}
use Rattle.relayout_cli.proofs.ElementsOf.{are-elements}
use Rattle.relayout_cli.proofs.elements.elements.Goals as goal

pub returns-clause-elements : goal.returns-clause-elements
returns-clause-elements c =
    let root = c.args.doc.now.document.root in
    subst (All (IsElement root)) (sym (c.in_ok-push_elements.ensures ∙ rw (c.new-ids.ensures, c.root.ensures.value, find-root root) refl))
    (are-elements root root c.root.ensures.facts.ids.0 (find-root root))
