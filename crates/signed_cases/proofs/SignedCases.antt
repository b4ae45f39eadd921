-- The examples of W-207, proved by computation from the definitions.
-- Assumes nothing.
use Rattle.std.proofs.Common.{refl}
use Rattle.memory.specs.Integers.{integer}
use Rattle.bits.specs.Bits.{bit, number, extended}
use Rattle.cases.specs.Case.{AllHold}
use Rattle.cases.proofs.Definitions.{definitions, ◌&◌}
use Rattle.cases.proofs.Computed.{all_hold}
use Rattle.signed_cases.specs.SignedCases.{AllMean, examples, frames, filters, calls}

-- the request's own
pub examples_mean : AllMean examples
unfolding integer bit number extended
examples_mean = refl & refl & refl & refl & refl & refl & refl & refl & tt

pub frames_hold : AllHold frames
unfolding definitions
frames_hold =
    (refl, refl) & (refl, refl) & (refl, refl) & (refl, refl) & (refl, refl) & (refl, refl) & (refl, refl) & (refl, refl) & (refl, refl) & (refl, refl)
    & (refl, refl) & (refl, refl) & (refl, refl) & tt

pub filters_hold : AllHold filters
unfolding definitions
filters_hold =
    refl & refl & refl & refl & refl & refl & refl & refl & refl & refl & refl & refl & refl & refl & refl & refl & refl & tt

pub calls_hold : AllHold calls
unfolding definitions
calls_hold = all_hold calls (refl & refl & tt)
