use Rattle.std.proofs.Common.{◌≡◌, ◌∙◌, ap, sym, Some, None}
use Rattle.std.specs.Prelude.{option_map}
use Rattle.std.specs.Str.{chars}
use Rattle.css_model.specs.declared.place.Place.TheVariants.{InName}
use Rattle.css_tokens.specs.inner.Parts.{part_view, front_part}
use Rattle.css_tokens.proofs.PartSteps.{ident-first, ident-hyphen, ident-other, ident-none}
use Rattle.css_tokens.proofs.parts.parts_start_ident.Goals as goal

pub returns-then-starts_name : goal.returns-then-starts_name
returns-then-starts_name c =
    let found : front_part InName (chars c.args.cs.now) ≡ Some (part_view c.in-Some.part) = sym c.front_part.ensures.part ∙ ap (option_map (λ p. part_view p.0)) c.in-Some.is in
    c.if-starts_name.true ∙ sym (ident-first (chars c.args.cs.now) (part_view c.in-Some.part) found (sym c.starts_name.ensures ∙ c.if-starts_name.true))

pub returns-then-is_hyphen : goal.returns-then-is_hyphen
returns-then-is_hyphen c =
    let found : front_part InName (chars c.args.cs.now) ≡ Some (part_view c.in-Some.part) = sym c.front_part.ensures.part ∙ ap (option_map (λ p. part_view p.0)) c.in-Some.is in
    c.follows_hyphen.ensures ∙ sym (ident-hyphen (chars c.args.cs.now) (chars c.in-Some.rest.now) (part_view c.in-Some.part) found c.in-Some.ensures.rest
    (sym c.starts_name.ensures ∙ c.if-starts_name.false) (sym c.is_hyphen.ensures ∙ c.if-is_hyphen.true))

pub returns-else-is_hyphen : goal.returns-else-is_hyphen
returns-else-is_hyphen c =
    let found : front_part InName (chars c.args.cs.now) ≡ Some (part_view c.in-Some.part) = sym c.front_part.ensures.part ∙ ap (option_map (λ p. part_view p.0)) c.in-Some.is in
    c.if-is_hyphen.false ∙ sym (ident-other (chars c.args.cs.now) (part_view c.in-Some.part) found (sym c.starts_name.ensures ∙ c.if-starts_name.false) (sym c.is_hyphen.ensures ∙ c.if-is_hyphen.false))

pub returns-in-None : goal.returns-in-None
returns-in-None c =
    let found : front_part InName (chars c.args.cs.now) ≡ None = sym c.front_part.ensures.part ∙ ap (option_map (λ p. part_view p.0)) c.in-None.is in
    sym (ident-none (chars c.args.cs.now) found)
