-- W-207 by examples: the request's own, frames and what unpacks from them, filters on a signed object, and lists of calls. Worked out from
-- document 02. Assumes nothing.
use Rattle.std.specs.Prelude.{true, false, List, [], ◌∷◌, ◌≡◌, ℕ, ◌-◌, ◌^◌, ℤ, pos, neg_ℤ, replicate}
use Rattle.memory.specs.Integers.{integer}
use Rattle.bits.specs.declared.Order.TheVariants.{Little, Big}
use Rattle.bits.specs.Bits.{extended}
use Rattle.layer.specs.Step.{start, send, initialise, indication}
use Rattle.cases.specs.Case.{Line, shows, Case, packs, passing, answers, table_of, ipdu_bytes, object_bytes, area}
use Rattle.cases.specs.Lines.{ok, send_gives, receive_gives}

-- ---- the request's examples, and the same at 1 and 32 bits

-- a message of so many bits, and the integer that it means
pub record Example : Type 0 where
  pub size : ℕ
  pub message : ℕ
  pub means : ℤ

abbrev pub example : ℕ → ℕ → ℤ → Example
example size message z = record { size = size; message = message; means = z }

abbrev minus : ℕ → ℤ
minus n = neg_ℤ (pos n)

abbrev pub Means : Example → Type 0
Means e = integer true (extended true e.size e.message) ≡ e.means

abbrev pub AllMean : List Example → Type 0
AllMean [] = Unit {0}
AllMean (e ∷ es) = Means e × AllMean es

abbrev pub examples : List Example
examples =
    example 12 0x800 (minus 2048)
    ∷ example 12 0xFFF (minus 1)
    ∷ example 12 0x7FF (pos 2047)
    ∷ example 1 1 (minus 1)
    ∷ example 1 0 (pos 0)
    ∷ example 32 0x80000000 (minus 2147483648)
    ∷ example 32 0xFFFFFFFF (minus 1)
    ∷ example 32 0x7FFFFFFF (pos 2147483647)
    ∷ []

-- ---- in frames: a value that fits comes back, another gives its low bits with their top bit copied upwards

-- the 32 bits of -n
abbrev pub below : ℕ → ℕ
below n = 2 ^ 32 - n

abbrev pub frames : List Case
frames =
    packs Little true 13 12 (below 2048) 4 (0 ∷ 0 ∷ 0 ∷ 0x01 ∷ []) (below 2048)
    ∷ packs Big true 18 12 (below 2048) 4 (0 ∷ 0x20 ∷ 0 ∷ 0 ∷ []) (below 2048)
    ∷ packs Little true 13 12 (below 1) 4 (0 ∷ 0xE0 ∷ 0xFF ∷ 0x01 ∷ []) (below 1)
    ∷ packs Big true 18 12 (below 1) 4 (0 ∷ 0x3F ∷ 0xFC ∷ 0 ∷ []) (below 1)
    ∷ packs Little true 13 12 2047 4 (0 ∷ 0xE0 ∷ 0xFF ∷ 0 ∷ []) 2047
    ∷ packs Big true 18 12 2047 4 (0 ∷ 0x1F ∷ 0xFC ∷ 0 ∷ []) 2047
    -- one above the greatest, and one below the least
    ∷ packs Little true 13 12 2048 4 (0 ∷ 0 ∷ 0 ∷ 0x01 ∷ []) (below 2048)
    ∷ packs Big true 18 12 (below 2049) 4 (0 ∷ 0x1F ∷ 0xFC ∷ 0 ∷ []) 2047
    -- one bit: 1 does not fit, -1 does
    ∷ packs Little true 7 1 1 1 (0x80 ∷ []) (below 1)
    ∷ packs Big true 7 1 (below 1) 1 (0x80 ∷ []) (below 1)
    -- all 32 bits
    ∷ packs Little true 0 32 0x80000000 4 (0 ∷ 0 ∷ 0 ∷ 0x80 ∷ []) 0x80000000
    ∷ packs Big true 24 32 0x80000000 4 (0x80 ∷ 0 ∷ 0 ∷ 0 ∷ []) 0x80000000
    -- the same bits with no sign
    ∷ packs Little false 13 12 (below 1) 4 (0 ∷ 0xE0 ∷ 0xFF ∷ 0x01 ∷ []) 0xFFF
    ∷ []

-- ---- filters on a signed object

-- about the bounds -10 and 10
abbrev about_ten : List ℕ
about_ten = below 2147483648 ∷ below 11 ∷ below 10 ∷ below 1 ∷ 0 ∷ 10 ∷ 11 ∷ 2147483647 ∷ []

-- about an old value of -5
abbrev about_old : List ℕ
about_old = below 2147483648 ∷ below 6 ∷ below 5 ∷ below 4 ∷ 0 ∷ 2147483647 ∷ []

abbrev pub filters : List Case
filters =
    -- 8: min ≤ new ≤ max; 9: not so
    passing true 8 (below 10) 10 0 0 about_ten (below 10 ∷ below 1 ∷ 0 ∷ 10 ∷ [])
    ∷ passing true 9 (below 10) 10 0 0 about_ten (below 2147483648 ∷ below 11 ∷ 11 ∷ 2147483647 ∷ [])
    -- min above max
    ∷ passing true 8 10 (below 10) 0 0 about_ten []
    ∷ passing true 9 10 (below 10) 0 0 about_ten about_ten
    -- 10 to 13: new > old; ≤; <; ≥
    ∷ passing true 10 0 0 (below 5) 0 about_old (below 4 ∷ 0 ∷ 2147483647 ∷ [])
    ∷ passing true 11 0 0 (below 5) 0 about_old (below 2147483648 ∷ below 6 ∷ below 5 ∷ [])
    ∷ passing true 12 0 0 (below 5) 0 about_old (below 2147483648 ∷ below 6 ∷ [])
    ∷ passing true 13 0 0 (below 5) 0 about_old (below 5 ∷ below 4 ∷ 0 ∷ 2147483647 ∷ [])
    -- the same bits on an object that is not signed: there min is above max, and -5 is the greatest but four
    ∷ passing false 8 (below 10) 10 0 0 about_ten []
    ∷ passing false 10 0 0 (below 5) 0 about_old (below 4 ∷ [])
    -- 2 to 7 look at bits, and 14 at the count, as on any object
    ∷ passing true 2 0x80000000 0x80000000 0 0 about_old (below 2147483648 ∷ below 6 ∷ below 5 ∷ below 4 ∷ [])
    ∷ passing true 3 0xFF 0xFB 0 0 about_old (below 2147483648 ∷ below 6 ∷ below 4 ∷ 0 ∷ 2147483647 ∷ [])
    ∷ passing true 4 0 0 (below 5) 0 about_old (below 5 ∷ [])
    ∷ passing true 5 0 0 (below 5) 0 about_old (below 2147483648 ∷ below 6 ∷ below 4 ∷ 0 ∷ 2147483647 ∷ [])
    ∷ passing true 6 0xFFFFFFF8 0 (below 5) 0 about_old (below 6 ∷ below 5 ∷ below 4 ∷ [])
    ∷ passing true 7 0xFFFFFFF8 0 (below 5) 0 about_old (below 2147483648 ∷ 0 ∷ 2147483647 ∷ [])
    ∷ passing true 14 2 1 0 1 (below 1 ∷ 1 ∷ []) (below 1 ∷ 1 ∷ [])
    ∷ []

-- ---- calls

-- I-PDU 0 is sent, 1 received. Object 0 is sent in 12 bits, signed little, new above old, which is -5; 1 is received in 12 bits, signed big,
-- from -10 to 10, with initial value -20; 2 receives inside from 3; both are whole
abbrev pub freezer : List ℕ
freezer =
    table_of (ipdu_bytes 1 4 0 0 0 0 10 0 ∷ ipdu_bytes 2 4 0 0 0 0 0 0 ∷ [])
    (object_bytes 1 0 255 13 12 2 0 0 10 (below 5) 0 0
    ∷ object_bytes 2 1 255 18 12 3 0 0 8 (below 20) (below 10) 10
    ∷ object_bytes 2 255 3 0 32 2 0 0 12 100 0 0
    ∷ object_bytes 1 255 255 0 32 2 0 0 0 0 0 0
    ∷ [])

-- a good indication of I-PDU 1 whose bytes 1 and 2 are these
abbrev arrives : (a b : ℕ) → Line
arrives a b = ok (indication 1 true (0 ∷ a ∷ b ∷ 0 ∷ []))

-- an initial value and one that is initialised are whole; a frame brings -11, which is dropped, -10, 10 and 11; the sending filter drops -6
-- and passes -4; inside the whole value arrives, where the receiver's filter, new below old, passes it
abbrev pub calls : List Case
calls =
    answers freezer
    (ok start
    ∷ receive_gives 1 (below 20)
    ∷ arrives 0x3F 0xD4
    ∷ receive_gives 1 (below 20)
    ∷ arrives 0x3F 0xD8
    ∷ receive_gives 1 (below 10)
    ∷ arrives 0 0x28
    ∷ receive_gives 1 10
    ∷ arrives 0 0x2C
    ∷ receive_gives 1 10
    ∷ ok (initialise 1 2048)
    ∷ receive_gives 1 2048
    ∷ [])
    ∷ answers freezer
    (ok start
    ∷ send_gives 0 (below 6) 0
    ∷ shows (send 0 (below 4) area) 0 1 (0 ∷ []) (0 ∷ 0x80 ∷ 0xFF ∷ 0x01 ∷ replicate 4 0)
    ∷ send_gives 3 (below 300) 0
    ∷ receive_gives 2 (below 300)
    ∷ send_gives 3 (below 299) 0
    ∷ receive_gives 2 (below 300)
    ∷ [])
    ∷ []
