use Rattle.std.proofs.Common.{◌≤◌, ap, subst, arith, Err}
use Rattle.std.specs.Str.{chars}
use Rattle.css_model.specs.Components.{Components, depths}
use Rattle.css_model.specs.declared.token.TheConstants.{MAX_NESTING}
use Rattle.css_tokens.specs.Nested.{components_view}
use Rattle.rules_model.specs.Sheets.{components_of}
use Rattle.css_rules.proofs.Texts.{bytes-length, limit-large, limit-deep, limit-many, limit-none}
use Rattle.css_rules.proofs.FoundRules.{count-is}
use Rattle.css_rules.proofs.sheets.parse_sheet.Goals as goal

pub returns-then-text-gt-MAX_SHEET_BYTES-clause-limit : goal.returns-then-text-gt-MAX_SHEET_BYTES-clause-limit
returns-then-text-gt-MAX_SHEET_BYTES-clause-limit c =
    limit-large (chars c.args.text.now)
    (omega (arith, bytes-length c.args.text.now c.utf8.text, c.if-text-gt-MAX_SHEET_BYTES.true))

pub returns-in-Err-TooDeep-clause-limit : goal.returns-in-Err-TooDeep-clause-limit
returns-in-Err-TooDeep-clause-limit c =
    limit-deep (chars c.args.text.now)
    (omega (
      arith,
      bytes-length c.args.text.now c.utf8.text,
      c.if-text-gt-MAX_SHEET_BYTES.false,
    ))
    (c.in-Err-TooDeep.ensures.deep (ap Err c.in-Err-TooDeep.field-0-is))

pub returns-then-len-gt-MAX_STYLE_RULES-clause-limit : goal.returns-then-len-gt-MAX_STYLE_RULES-clause-limit
returns-then-len-gt-MAX_STYLE_RULES-clause-limit c =
    let low : depths (components_of (chars c.args.text.now)) ≤ MAX_NESTING =
    subst (λ (cs : Components). depths cs ≤ MAX_NESTING) c.in-Ok.ensures.components
    c.in-Ok.ensures.low in
    let count =
    count-is c.in_ok-found.found (chars c.args.text.now) (components_view c.in-Ok.components)
    c.in_ok-found.ensures c.in-Ok.ensures.components in
    limit-many (chars c.args.text.now)
    (omega (
      arith,
      bytes-length c.args.text.now c.utf8.text,
      c.if-text-gt-MAX_SHEET_BYTES.false,
    )) low
    (omega (arith, count, c.len.ensures, c.if-len-gt-MAX_STYLE_RULES.true))

pub returns-clause-limit : goal.returns-clause-limit
returns-clause-limit c =
    let low : depths (components_of (chars c.args.text.now)) ≤ MAX_NESTING =
    subst (λ (cs : Components). depths cs ≤ MAX_NESTING) c.in-Ok.ensures.components
    c.in-Ok.ensures.low in
    let count =
    count-is c.in_ok-found.found (chars c.args.text.now) (components_view c.in-Ok.components)
    c.in_ok-found.ensures c.in-Ok.ensures.components in
    limit-none (chars c.args.text.now)
    (omega (
      arith,
      bytes-length c.args.text.now c.utf8.text,
      c.if-text-gt-MAX_SHEET_BYTES.false,
    )) low
    (omega (arith, count, c.len.ensures, c.if-len-gt-MAX_STYLE_RULES.false))
