-- `bits::walk::position`: turning the byte's number round gives `position Big` at each of the 64 places, by one computed equation.
-- Assumes nothing.
use Rattle.std.proofs.Common.{◌≡◌, ℕ, ◌<◌, List, get_or, sym, refl, ap, ◌∙◌, bit_xor}
use Rattle.bits.specs.declared.Order.TheVariants.{Big}
use Rattle.bits.specs.Slots.{position}
use Rattle.memory.proofs.Tests.{tabulate, tabulate_at}
use Rattle.bits.proofs.walk.position.Goals as goal

-- a number that turns each of the 64 places into the definition's does so for any one of them
turned_round : {number p : ℕ} → p < 64 → tabulate 64 (λ k. bit_xor k number) ≡ tabulate 64 (position Big)
    → bit_xor p number ≡ position Big p
turned_round {number} {p} h same =
    sym (tabulate_at 64 (λ k. bit_xor k number) p h) ∙ ap (λ (l : List ℕ). get_or l p 0) same ∙ tabulate_at 64 (position Big) p h

-- the code's number is the one that the 64 computed places ask for
pub returns-in-Big : goal.returns-in-Big
unfolding position
returns-in-Big c = rw c.in-Big.is (turned_round c.requires refl)
