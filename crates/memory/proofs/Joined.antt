-- A number of several bytes is the numbers of its parts, the later ones higher (`number_split`); a byte of a word under a mask (`masked_byte`).
-- Assumes nothing.
use Rattle.std.proofs.Common.{◌≡◌, ℕ, zero, suc, ◌+◌, ◌*◌, ◌^◌, ◌<◌, List, mul_assoc, zero-add, arith}
use native.Mathlib.Nat.{pow-succ'}
use lib.Bits.{bit_and, and_block}
use Rattle.memory.specs.Bytes.{number_at}
use Rattle.memory.proofs.Parts.{number_none, number_step}

-- j bytes from `at` on, then k from `next` on
pub number_split : (j k at next : ℕ) (m : List ℕ) → next ≡ at + j → number_at (j + k) at m ≡ number_at j at m + 256 ^ j * number_at k next m
number_split zero k at next m e =
    let same : next ≡ at = omega arith in
    rw (same, number_none at m, zero-add k) (omega arith)
number_split (suc j) k at next m e =
    let longer : suc j + k ≡ suc (j + k) = omega arith in
    let rest = number_split j k (at + 1) next m (omega arith) in
    let power : 256 ^ suc j * number_at k next m ≡ 256 * (256 ^ j * number_at k next m) = rw (pow-succ' 256 j) (mul_assoc 256 (256 ^ j) (number_at k next m)) in
    rw longer
    (omega (arith, rest, power, number_step (j + k) at m, number_step j at m))

-- the lowest byte of a number and the rest, each under its part of the mask
pub masked_byte : (low high p q : ℕ) → low < 256 → p < 256 → bit_and (low + 256 * high) (p + 256 * q) ≡ bit_and low p + 256 * bit_and high q
masked_byte low high p q l r =
    let number : low + 256 * high ≡ high * 2 ^ 8 + low = omega arith in
    let mask : p + 256 * q ≡ q * 2 ^ 8 + p = omega arith in
    rw (number, mask) (omega (arith, and_block 8 high q low p l r))
