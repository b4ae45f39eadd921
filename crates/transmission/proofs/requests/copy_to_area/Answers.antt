-- `transmission::requests::copy_to_area`: the first bytes of the slot, as a word with zeros above, are those bytes and zeros.
-- Assumes nothing.
use Rattle.std.proofs.Common.{arith}
use Rattle.memory.proofs.Parts.{bytes_of_front}
use Rattle.state.specs.Layout.{slot_at}
use Rattle.transmission.specs.Requests.{copied_to_area}
use Rattle.transmission.proofs.requests.copy_to_area.Goals as goal

pub returns : goal.returns
unfolding copied_to_area
returns c =
    rw (
      c.write64.ensures,
      c.low_bytes.ensures,
      c.read64-word.ensures,
      bytes_of_front c.args.size.0 (slot_at c.args.number.0) c.args.m.now
          (λ i. (c.type_inv.m i).fits) c.requires.3 (omega (arith, c.requires.0, c.requires.1)),
    )
