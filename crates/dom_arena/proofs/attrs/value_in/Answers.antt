use Rattle.std.proofs.Common.{◌∙◌, Some, ap, encode_utf8_all, option_map, sym}
use Rattle.std.proofs.lemmas.Bool.{false≢true}
use Rattle.std.specs.Str.{chars}
use Rattle.dom_arena.proofs.Values.{value-found, value-later}
use Rattle.dom_arena.proofs.attrs.value_in.Goals as goal

pub returns-then-is : goal.returns-then-is
returns-then-is c =
    let here = value-found (chars c.args.name.now) c.args.attributes.now c.loop-key.key-index c.loop-key-item.result c.loop-key-test.true c.loop-key-item.is (c.is.ensures.0 c.if-is.true) in
    ap Some c.as_str.ensures.bytes ∙ ap (option_map encode_utf8_all) (sym here ∙ c.loop-key.invariant)

pub loop-key-preserved : goal.loop-key-preserved
loop-key-preserved c =
    value-later (chars c.args.name.now) c.args.attributes.now c.loop-key.key-index c.loop-key-item.result c.loop-key-test.true c.loop-key-item.is
    (λ h. false≢true (sym c.if-is.false ∙ c.is.ensures.1 h))
    ∙ c.loop-key.invariant
