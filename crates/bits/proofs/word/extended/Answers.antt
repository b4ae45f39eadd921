-- `bits::word::extended`: the top bit is added within the field's bits and taken off again (`turned_over`).
-- Assumes nothing.
use Rattle.std.proofs.Common.{◌≡◌, ℕ, ◌+◌, ◌-◌, ◌%◌, ◌^◌, ◌<◌, lt_of_lt_of_le, mod-lt, arith, pow_pos, pow_mono}
use Rattle.bits.proofs.Extension.{turned_over}
use Rattle.bits.proofs.word.extended.Goals as goal

-- what is taken off and put on again
wrapped : (a top : ℕ) → a < 2 ^ 32 → top < 2 ^ 32 → ((a + (2 ^ 32 - top)) % 2 ^ 32 + top) % 2 ^ 32 ≡ a
wrapped a top h k = omega arith

pub returns : goal.returns
returns c =
    let pre = c.requires in
    turned_over c.args.bits c.args.field pre.0 pre.1 pre.2 c.args.signed c.top_bit-top.ensures.0
    c.power_of_two.ensures (omega arith)
    (wrapped _ _ (lt_of_lt_of_le (mod-lt _ (rw c.power_of_two.ensures (pow_pos _))) (rw c.power_of_two.ensures (pow_mono pre.1))) c.top_bit-top.ensures.1)
