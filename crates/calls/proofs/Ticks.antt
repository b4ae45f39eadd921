-- Tick: the length of an I-PDU, the word of one, and the word of those so far.
-- Assumes nothing.
use Rattle.std.proofs.Common.{Bool, true, false, List, ◌≡◌, ap, ◌∙◌, ℕ, ◌+◌, ◌*◌, ◌^◌, ◌≤◌, ◌<◌, lt_of_lt_of_le, zero-lt-suc, arith}
use native.Mathlib.Nat.{pow-succ', pow-le-pow_right}
use Rattle.memory.specs.Search.{pick}
use Rattle.table.specs.declared.Counts.{Counts}
use Rattle.config.specs.declared.Direction.{Direction}
use Rattle.config.specs.declared.Direction.TheVariants.{Send, Receive}
use Rattle.table.specs.Check.{Right}
use Rattle.config.specs.Decode.{ipdu_of}
use Rattle.state.specs.Layout.{ipdu_state}
use Rattle.transmission.specs.Requests.{ipdu, is_due}
use Rattle.timing.specs.Ticks.{tick_delay, tick_deadline, tick_period}
use Rattle.calls.specs.Answers.{value_of}
use Rattle.calls.proofs.Records.{ipdu_short}
use Rattle.calls.specs.Tick.{tick_as, tick_ipdu}

-- an I-PDU of a right table has at most 8 bytes
pub ipdu_few : (t : List ℕ) (c : Counts) (k : ℕ) → Right t c → k < c.ipdus → (ipdu t k).length.0 ≤ 8
unfolding ipdu_of
ipdu_few t c k right h = ipdu_short t c right k h

-- a bit or none is at most the bit
pub bit_most : (b : Bool) (k : ℕ) → pick b (2 ^ k) 0 ≤ 2 ^ k
bit_most true k = omega arith
bit_most false k = omega arith

-- the answer of one I-PDU is 0 or its own bit
pub tick_word : (t : List ℕ) (c : Counts) (k : ℕ) (area m : List ℕ) → value_of (tick_ipdu t c k area m).answer ≤ 2 ^ k
unfolding tick_ipdu
tick_word t c k area m = by (ipdu t k).direction
  where
    by : (d : Direction) → value_of (tick_as d t c k area m).answer ≤ 2 ^ k
    by Send = bit_most (is_due (ipdu t k) (tick_period (ipdu t k) (tick_deadline (tick_delay (ipdu_state m k))))) k
    by Receive = omega arith

-- a word of k bits and the next bit make one of k + 1 bits
pub word_more : (k w v : ℕ) → w < 2 ^ k → v ≤ 2 ^ k → w + v < 2 ^ (k + 1)
word_more k w v low most =
    let next : 2 ^ (k + 1) ≡ 2 * 2 ^ k = ap (λ (n : ℕ). 2 ^ n) (omega arith) ∙ pow-succ' 2 k in
    omega (arith, next, low, most)

-- a word of up to 32 bits
pub word_fits : (k w : ℕ) → k ≤ 32 → w < 2 ^ k → w < 2 ^ 32
word_fits k w few low = lt_of_lt_of_le low (pow-le-pow_right (zero-lt-suc 1) few)
