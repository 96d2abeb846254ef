use Rattle.prop_table.proofs.HexColors.{three-digits, four-digits, six-digits, eight-digits}
use Rattle.prop_table.proofs.colors.rgba_of_digits.Goals as goal

pub returns-in-len3 : goal.returns-in-len3
returns-in-len3 c =
    rw (c.rgba.ensures, c.of_two.ensures, c.of_two-in-len3.ensures, c.of_two-in-len3-2.ensures)
    (three-digits c.args.digits.now c.in-len3.len_at_least c.in-len3.len_below)

pub returns-in-len4 : goal.returns-in-len4
returns-in-len4 c =
    rw (c.rgba-in-len4.ensures, c.of_two-in-len4.ensures, c.of_two-in-len4-2.ensures, c.of_two-in-len4-3.ensures, c.of_two-in-len4-4.ensures)
    (four-digits c.args.digits.now c.in-len4.len_at_least c.in-len4.len_below)

pub returns-in-len6 : goal.returns-in-len6
returns-in-len6 c =
    rw (c.rgba-in-len6.ensures, c.of_two-in-len6.ensures, c.of_two-in-len6-2.ensures, c.of_two-in-len6-3.ensures)
    (six-digits c.args.digits.now c.in-len6.len_at_least c.in-len6.len_below)

pub returns-in-len8 : goal.returns-in-len8
returns-in-len8 c =
    rw (c.rgba-in-len8.ensures, c.of_two-in-len8.ensures, c.of_two-in-len8-2.ensures, c.of_two-in-len8-3.ensures, c.of_two-in-len8-4.ensures)
    (eight-digits c.args.digits.now c.in-len8.len_at_least c.in-len8.len_below)
