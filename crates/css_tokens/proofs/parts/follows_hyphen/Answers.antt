use Rattle.std.proofs.Common.{◌≡◌, ◌∙◌, ap, sym, Some, None, true, false}
use Rattle.std.specs.Prelude.{option_map, ◌||◌}
use Rattle.std.specs.Str.{chars}
use Rattle.css_model.specs.declared.place.Place.TheVariants.{InName}
use Rattle.css_model.specs.Parts.{starts_name, is_hyphen}
use Rattle.css_tokens.specs.inner.Parts.{part_view, front_part}
use Rattle.css_tokens.proofs.PartSteps.{follows-some, follows-none}
use Rattle.css_tokens.proofs.parts.follows_hyphen.Goals as goal

pub returns-then-starts_name : goal.returns-then-starts_name
returns-then-starts_name c =
    let found : front_part InName (chars c.args.cs.now) ≡ Some (part_view c.in-Some.part) = sym c.front_part.ensures.part ∙ ap (option_map (λ p. part_view p.0)) c.in-Some.is in
    let p = part_view c.in-Some.part in
    let starts : starts_name p ≡ true = sym c.starts_name.ensures ∙ c.if-starts_name.true in
    c.if-starts_name.true ∙ sym (follows-some (chars c.args.cs.now) p found ∙ ap (λ b. b || is_hyphen p) starts)

pub returns-else-starts_name : goal.returns-else-starts_name
returns-else-starts_name c =
    let found : front_part InName (chars c.args.cs.now) ≡ Some (part_view c.in-Some.part) = sym c.front_part.ensures.part ∙ ap (option_map (λ p. part_view p.0)) c.in-Some.is in
    let p = part_view c.in-Some.part in
    let starts : starts_name p ≡ false = sym c.starts_name.ensures ∙ c.if-starts_name.false in
    c.is_hyphen.ensures ∙ sym (follows-some (chars c.args.cs.now) p found ∙ ap (λ b. b || is_hyphen p) starts)

pub returns-in-None : goal.returns-in-None
returns-in-None c =
    let found : front_part InName (chars c.args.cs.now) ≡ None = sym c.front_part.ensures.part ∙ ap (option_map (λ p. part_view p.0)) c.in-None.is in
    sym (follows-none (chars c.args.cs.now) found)
