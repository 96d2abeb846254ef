use Rattle.std.proofs.Common.{◌∙◌, ap, sym}
use Rattle.std.specs.Str.{chars}
use Rattle.css_model.specs.declared.place.Place.TheVariants.{InName}
use Rattle.css_model.specs.Parts.{would_start_ident}
use Rattle.css_model.specs.inner.Fronts.{parts_in}
use Rattle.css_model.proofs.PartLemmas.{parts_in-nil}
use Rattle.css_tokens.proofs.PartSteps.{start-other, unequal}
use Rattle.css_tokens.proofs.parts.would_start_ident.Goals as goal

pub returns-else-c-eq92 : goal.returns-else-c-eq92
returns-else-c-eq92 c =
    c.is_ident_start.ensures
    ∙ (start-other c.in-Some.c (chars c.in-Some.field-0-1.now) (unequal c.in-Some.c 45 c.if-c-eq92.false.0) (unequal c.in-Some.c 92 c.if-c-eq92.false.1)
    ∙ ap (λ l. would_start_ident (parts_in InName l)) (sym c.in-Some.ensures))

pub returns-in-None : goal.returns-in-None
returns-in-None c = sym (ap (λ l. would_start_ident (parts_in InName l)) c.in-None.ensures ∙ ap would_start_ident (parts_in-nil InName))
