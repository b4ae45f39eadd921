-- A line as it is read, byte by byte, in a few numbers: the name as two numbers in base 256, the numbers so far, the bytes as a number
-- and how many hex digits there were. Laws in proofs/LineReads say what this has to do with Reading. Assumes nothing.
use Rattle.std.specs.Prelude.{ℕ, zero, suc, ◌+◌, ◌*◌, ◌/◌, ◌%◌, ◌^◌, Bool, false, not, ◌&&◌, List, [], ◌∷◌, ◌++◌, ◌==◌, nat_lt, Option, None}
use Rattle.memory.specs.Search.{pick}
use Rattle.memory.specs.Texts.{blank}
use Rattle.script.specs.declared.Frame.{Frame}
use Rattle.script.specs.declared.Hex.{Hex}
use Rattle.script.specs.declared.Hex.TheVariants.{Digits, NotHex}
use Rattle.script.specs.declared.Name.{Name}
use Rattle.script.specs.declared.Numeral.TheVariants.{Nothing}
use Rattle.script.specs.declared.Reader.{Reader}
use Rattle.script.specs.declared.Reader.TheVariants.{Naming, First, Second, Bytes, TooMany}
use Rattle.script.specs.Reading.{numeral_with, hex_value, alone, of_object, of_two, of_negative, of_bytes, if_integer, if_number}
use Rattle.script.specs.declared.Command.{Command}

-- ---- the name: up to eight letters in `head`, up to eight more in `tail`; 17 letters stand for too many

abbrev pub name_as : ℕ → ℕ → ℕ → Name
name_as letters head tail = record { letters = letters; head = head; tail = tail }

-- a number of 64 bits moved up by a byte, which comes in below
abbrev pub shifted : ℕ → ℕ → ℕ
shifted x b = x % (2 ^ 56) * 256 + b

abbrev pub with_letter : Name → ℕ → Name
with_letter n b =
    pick (nat_lt n.letters 8) (name_as (n.letters + 1) (shifted n.head b) n.tail)
    (pick (nat_lt n.letters 16) (name_as (n.letters + 1) n.head (shifted n.tail b)) (name_as 17 n.head n.tail))

abbrev pub no_name : Name
no_name = name_as 0 0 0

abbrev pub name_from : Name → List ℕ → Name
name_from n [] = n
name_from n (b ∷ field) = name_from (with_letter n b) field

-- the name is this one
abbrev pub is_named : Name → List ℕ → Bool
is_named n name =
    (n.letters == (name_from no_name name).letters) && n.head == (name_from no_name name).head && n.tail == (name_from no_name name).tail

-- ---- hex digits: their value, and how many; beyond 18 the count goes on between 17 and 18

abbrev pub one_more : ℕ → ℕ
one_more n = pick (nat_lt n 18) (n + 1) 17

abbrev pub hex_with : Hex → ℕ → Hex
hex_with (Digits x n) b = pick (nat_lt (hex_value b) 16) (Digits (x % (2 ^ 60) * 16 + hex_value b) (one_more n)) NotHex
hex_with NotHex b = NotHex

abbrev pub no_digits : Hex
no_digits = Digits 0 0

abbrev pub hex_from : Hex → List ℕ → Hex
hex_from h [] = h
hex_from h (b ∷ field) = hex_from (hex_with h b) field

-- whole bytes, at least one
abbrev pub whole_bytes : Hex → Bool
whole_bytes (Digits x n) = not (n == 0) && n % 2 == 0
whole_bytes NotHex = false

-- ---- the line

abbrev pub next_field : Reader → Reader
next_field (Naming n) = First n Nothing
next_field (First n f) = Second n f Nothing
next_field (Second n f s) = Bytes n f s no_digits
next_field (Bytes n f s h) = TooMany
next_field TooMany = TooMany

abbrev pub joined : Reader → ℕ → Reader
joined (Naming n) b = Naming (with_letter n b)
joined (First n f) b = First n (numeral_with f b)
joined (Second n f s) b = Second n f (numeral_with s b)
joined (Bytes n f s h) b = Bytes n f s (hex_with h b)
joined TooMany b = TooMany

unfoldable pub next : Reader → ℕ → Reader
next r b = pick (b == blank) (next_field r) (joined r b)

unfoldable pub fresh : Reader
fresh = Naming no_name

unfoldable pub next_from : Reader → List ℕ → Reader
next_from r [] = r
next_from r (b ∷ line) = next_from (next r b) line

unfoldable pub command_of : Reader → Option Command
command_of (Naming n) = alone (is_named n)
command_of (First n f) = if_number f (of_object (is_named n))
command_of (Second n f s) = if_number f (λ i. if_integer s (of_two (is_named n) i) (of_negative (is_named n) i))
command_of (Bytes n f s h) = if_number f (λ k. if_number s (of_bytes (is_named n) (whole_bytes h) k))
command_of TooMany = None

-- ---- the bytes of an indication; nine stand for any longer ones

abbrev pub frame_as : ℕ → ℕ → Frame
frame_as value length = record { value = value; length = length }

abbrev pub frame_of_hex : Hex → Frame
frame_of_hex (Digits x n) = frame_as x (pick (nat_lt n 18) (n / 2) 9)
frame_of_hex NotHex = frame_as 0 0

unfoldable pub frame_of : Reader → Frame
frame_of (Naming n) = frame_as 0 0
frame_of (First n f) = frame_as 0 0
frame_of (Second n f s) = frame_as 0 0
frame_of (Bytes n f s h) = frame_of_hex h
frame_of TooMany = frame_as 0 0

-- the low k bytes of a number, the most significant first
unfoldable pub bytes_down : ℕ → ℕ → List ℕ
bytes_down zero x = []
bytes_down (suc k) x = bytes_down k (x / 256) ++ (x % 256) ∷ []

unfoldable pub frame_bytes : Frame → List ℕ
frame_bytes f = bytes_down f.length f.value
