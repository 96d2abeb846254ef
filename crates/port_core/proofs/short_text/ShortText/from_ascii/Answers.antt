use Rattle.std.proofs.Common.{◌≡◌, ◌∙◌, sym, subst, ℕ, List, length, take, arith}
use Rattle.std.specs.Str.{IsAscii, IsUtf8}
use Rattle.std.proofs.lemmas.List.{take_all}
use Rattle.std.proofs.lemmas.Str.{IsUtf8-from_ascii}
use Rattle.port_core.proofs.short_text.ShortText.from_ascii.Goals as goal

pub invariant_of-result : goal.invariant_of-result
invariant_of-result c =
    let cs : List ℕ = c.args.cs.now in
    let all : c.loop-i.i ≡ length cs = omega (arith, c.loop-i-test.false, c.loop-i.auto) in
    let whole : take c.loop-i.i cs ≡ cs = take_all c.loop-i.i cs (omega (arith, all)) in
    let same : take (length cs) c.loop-i.bytes ≡ cs =
    subst (λ n. take n c.loop-i.bytes ≡ take c.loop-i.i cs) all c.loop-i.invariant.same ∙ whole in
    record {
      fits = omega (arith, c.if-cs-gt-ROOM.false);
      utf8 = ∣ subst IsUtf8 (sym same) (IsUtf8-from_ascii cs (subst IsAscii whole c.loop-i.invariant.ascii)) ∣₁;
    }
