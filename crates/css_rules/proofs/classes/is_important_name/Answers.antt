use Rattle.std.proofs.Common.{arith}
use Rattle.std.specs.Prelude.{codes}
use Rattle.css_tokens.proofs.AsciiWords.{word-is}
use Rattle.css_rules.proofs.classes.is_important_name.Goals as goal

pub returns : goal.returns
returns c =
    word-is (codes "important") c.eq_ignore_ascii_case.result c.as_str.result.now c.args.name.now (
      omega arith,
      (
        omega arith,
        (
          omega arith,
          (
            omega arith,
            (omega arith, (omega arith, (omega arith, (omega arith, (omega arith, tt))))),
          ),
        ),
      ),
    )
    c.eq_ignore_ascii_case.ensures.test c.as_str.ensures.characters c.as_str.ensures.bytes
