-- The byte order that a number stands for at the C boundary.
-- Assumes nothing.
use Rattle.std.specs.Prelude.{ℕ, eqb}
use Rattle.memory.specs.Search.{pick}
use Rattle.bits.specs.declared.Order.{Order}
use Rattle.bits.specs.declared.Order.TheVariants.{Little, Big}

unfoldable pub order_of : ℕ → Order
order_of n = pick (eqb n 0) Little Big
