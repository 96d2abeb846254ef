-- What the rest has is what all have.
use Rattle.std.proofs.Common.{◌≡◌, drop}
use Rattle.std.specs.List.{find}
use Rattle.std.specs.Str.{str_eq_ignore_ascii_case}
use Rattle.value_model.specs.Keywords.{keyword_text}
use Rattle.prop_table.proofs.keywords.find_keyword.Given as goal

abbrev pub invariant-loop-keyword : goal.invariant-loop-keyword
invariant-loop-keyword l =
    find (λ k. str_eq_ignore_ascii_case l.fn.name (keyword_text k)) (drop l.keyword-index l.keywords)
    ≡ find (λ k. str_eq_ignore_ascii_case l.fn.name (keyword_text k)) l.fn.keywords
