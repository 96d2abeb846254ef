-- A document under other ids breaks the limits that it broke, and no others.
use Rattle.std.proofs.Common.{ap, arith, length, sym, ℕ, ◌∙◌, ◌≡◌}
use Rattle.dom_arena.proofs.Builds.{map-length}
use Rattle.dom_arena.proofs.Renamed.{height-renamed, ids-renamed, without-renamed}
use Rattle.dom_arena.specs.Rename.{rename}
use Rattle.page_laws.specs.Limits.{KeepsLimits}
use Rattle.page_model.specs.Document.{Node, height, ids, without_ids}
use Rattle.page_model.specs.Trees.{has_bad_name, has_long_text, has_many_attributes, text_size}

-- ---- limits ask nothing of ids

limits-same : (n m : Node) (next : ℕ) → without_ids n ≡ without_ids m → height n ≡ height m → length (ids n) ≡ length (ids m) → KeepsLimits (record { root = m; next_id = next })
    → KeepsLimits (record { root = n; next_id = next })
limits-same n m next same high long keeps =
    let points : text_size (without_ids n) ≡ text_size (without_ids m) = ap text_size same in
    record {
      grammar = record {
        names = ap has_bad_name same ∙ keeps.grammar.names;
        attributes = ap has_many_attributes same ∙ keeps.grammar.attributes;
        texts = ap has_long_text same ∙ keeps.grammar.texts;
      };
      code_points = omega (arith, points, keeps.code_points);
      low = omega (arith, high, keeps.low);
      few = omega (arith, long, keeps.few);
      given = keeps.given;
    }

ids-long : (f : ℕ → ℕ) (n : Node) → length (ids (rename f n)) ≡ length (ids n)
ids-long f n = ap length (ids-renamed f n) ∙ map-length f (ids n)

pub limits-renamed : (f : ℕ → ℕ) (n : Node) (next : ℕ) → KeepsLimits (record { root = n; next_id = next }) → KeepsLimits (record { root = rename f n; next_id = next })
limits-renamed f n next = limits-same (rename f n) n next (without-renamed f n) (height-renamed f n) (ids-long f n)

pub limits-unnamed : (f : ℕ → ℕ) (n : Node) (next : ℕ) → KeepsLimits (record { root = rename f n; next_id = next }) → KeepsLimits (record { root = n; next_id = next })
limits-unnamed f n next = limits-same n (rename f n) next (sym (without-renamed f n)) (sym (height-renamed f n)) (sym (ids-long f n))
