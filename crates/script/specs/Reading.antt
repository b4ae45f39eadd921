-- W-201: which command a line is, if it is one. The fields of a line stand between single blanks; the first is the name.
-- Laws in proofs/TextReads: a line reads as a command exactly where it is that command's text. Assumes nothing.
use Rattle.std.specs.Prelude.{ℕ, ◌+◌, ◌-◌, ◌*◌, ◌%◌, ◌^◌, Bool, true, false, not, ◌&&◌, ◌||◌, List, [], ◌∷◌, ◌++◌, ◌==◌, nat_le, nat_lt, Option, Some, None}
use Rattle.memory.specs.Search.{pick}
use Rattle.memory.specs.Texts.{blank}
use Rattle.memory.specs.Integers.{minus}
use Rattle.script.specs.declared.Ask.TheVariants.{Receive, Status, Marks, ClearMarks}
use Rattle.script.specs.declared.Command.TheVariants.{Start, Stop, Send, Initialise, Object, Periodic, Indication, Confirm, Tick}
use Rattle.script.specs.declared.Numeral.{Numeral}
use Rattle.script.specs.declared.Numeral.TheVariants.{Nothing, Number, Minus, Negative, Wrong}
use Rattle.script.specs.Text.{start_name, stop_name, send_name, initialise_name, receive_name, status_name, marks_name, clear_marks_name}
use Rattle.script.specs.Text.{start_periodic_name, stop_periodic_name, indication_name, confirm_name, tick_name}
use Rattle.script.specs.declared.Command.{Command}

-- ---- fields

pub data Fields : Type 0 where
  one : (name : List ℕ) → Fields
  two : (name first : List ℕ) → Fields
  three : (name first second : List ℕ) → Fields
  four : (name first second bytes : List ℕ) → Fields
  too_many : Fields

-- a blank ends the last field, any other character joins it
abbrev pub into : Fields → ℕ → Fields
into (one n) b = pick (b == blank) (two n []) (one (n ++ b ∷ []))
into (two n f) b = pick (b == blank) (three n f []) (two n (f ++ b ∷ []))
into (three n f s) b = pick (b == blank) (four n f s []) (three n f (s ++ b ∷ []))
into (four n f s h) b = pick (b == blank) too_many (four n f s (h ++ b ∷ []))
into too_many b = too_many

abbrev pub fields_from : Fields → List ℕ → Fields
fields_from fields [] = fields
fields_from fields (b ∷ line) = fields_from (into fields b) line

-- ---- a field as a number: decimal digits, no leading zero, below 2 ^ 32; behind a minus (W-207) not 0 and at most 2 ^ 31

abbrev pub is_digit : ℕ → Bool
is_digit b = nat_le 48 b && nat_le b 57

abbrev pub with_digit : Numeral → ℕ → Numeral
with_digit Nothing d = Number d
with_digit (Number n) d = pick (not (n == 0) && nat_lt (10 * n + d) (2 ^ 32)) (Number (10 * n + d)) Wrong
with_digit Minus d = pick (d == 0) Wrong (Negative d)
with_digit (Negative n) d = pick (nat_le (10 * n + d) (2 ^ 31)) (Negative (10 * n + d)) Wrong
with_digit Wrong d = Wrong

-- a minus stands before all digits
abbrev pub with_minus : Numeral → Numeral
with_minus Nothing = Minus
with_minus (Number n) = Wrong
with_minus Minus = Wrong
with_minus (Negative n) = Wrong
with_minus Wrong = Wrong

abbrev pub numeral_with : Numeral → ℕ → Numeral
numeral_with n b = pick (is_digit b) (with_digit n (b - 48)) (pick (b == minus) (with_minus n) Wrong)

abbrev pub numeral_from : Numeral → List ℕ → Numeral
numeral_from n [] = n
numeral_from n (b ∷ field) = numeral_from (numeral_with n b) field

abbrev pub numeral : List ℕ → Numeral
numeral field = numeral_from Nothing field

-- ---- a field as bytes: two upper-case hex digits each, at least one byte

-- the value of a hex digit, 16 where the character is none
abbrev pub hex_value : ℕ → ℕ
hex_value b = pick (is_digit b) (b - 48) (pick (nat_le 65 b && nat_le b 70) (b - 55) 16)

abbrev pub is_hex_digit : ℕ → Bool
is_hex_digit b = nat_lt (hex_value b) 16

abbrev pub are_hex_pairs : List ℕ → Bool
are_hex_pairs [] = true
are_hex_pairs (a ∷ []) = false
are_hex_pairs (a ∷ b ∷ field) = is_hex_digit a && is_hex_digit b && are_hex_pairs field

abbrev pub is_bytes : List ℕ → Bool
is_bytes [] = false
is_bytes (a ∷ field) = are_hex_pairs (a ∷ field)

abbrev pub hex_bytes : List ℕ → List ℕ
hex_bytes [] = []
hex_bytes (a ∷ []) = []
hex_bytes (a ∷ b ∷ field) = (16 * hex_value a + hex_value b) ∷ hex_bytes field

-- ---- which command: `is` says whether the name of the line is the one given

abbrev pub alone : (List ℕ → Bool) → Option Command
alone is =
    pick (is start_name) (Some Start)
    (pick (is stop_name) (Some Stop)
    (pick (is start_periodic_name) (Some (Periodic true))
    (pick (is stop_periodic_name) (Some (Periodic false)) (pick (is tick_name) (Some Tick) None))))

abbrev pub of_object : (List ℕ → Bool) → ℕ → Option Command
of_object is i =
    pick (is receive_name) (Some (Object Receive (record { 0 = i })))
    (pick (is status_name) (Some (Object Status (record { 0 = i })))
    (pick (is marks_name) (Some (Object Marks (record { 0 = i })))
    (pick (is clear_marks_name) (Some (Object ClearMarks (record { 0 = i }))) None)))

-- an indication without bytes is one of these
abbrev pub of_ipdu : (List ℕ → Bool) → ℕ → ℕ → Option Command
of_ipdu is k good =
    pick (nat_lt 1 good) None
    (pick (is indication_name) (Some (Indication (record { 0 = k }) (good == 1)))
    (pick (is confirm_name) (Some (Confirm (record { 0 = k }) (good == 1))) None))

-- a send or an initialise of a value, or else another reading
abbrev pub of_value : (List ℕ → Bool) → ℕ → ℕ → Option Command → Option Command
of_value is i v other =
    pick (is send_name) (Some (Send (record { 0 = i }) v))
    (pick (is initialise_name) (Some (Initialise (record { 0 = i }) v)) other)

abbrev pub of_two : (List ℕ → Bool) → ℕ → ℕ → Option Command
of_two is i v = of_value is i v (of_ipdu is i v)

-- W-207: the second number is -n; as a value it means its 32 bits, and no other number may be negative
abbrev pub of_negative : (List ℕ → Bool) → ℕ → ℕ → Option Command
of_negative is i n = of_value is i ((2 ^ 32 - n) % 2 ^ 32) None

abbrev pub of_bytes : (List ℕ → Bool) → Bool → ℕ → ℕ → Option Command
of_bytes is whole k good =
    pick (nat_lt 1 good || not whole) None
    (pick (is indication_name) (Some (Indication (record { 0 = k }) (good == 1))) None)

-- a field that may be a number or a negative one
abbrev pub if_integer : Numeral → (ℕ → Option Command) → (ℕ → Option Command) → Option Command
if_integer Nothing number negative = None
if_integer (Number n) number negative = number n
if_integer Minus number negative = None
if_integer (Negative n) number negative = negative n
if_integer Wrong number negative = None

-- one that has to be a number
abbrev pub if_number : Numeral → (ℕ → Option Command) → Option Command
if_number numeral then = if_integer numeral then (λ n. None)

-- two lists of characters are the same
abbrev pub same : List ℕ → List ℕ → Bool
same [] [] = true
same [] (b ∷ ys) = false
same (a ∷ xs) [] = false
same (a ∷ xs) (b ∷ ys) = a == b && same xs ys

abbrev pub reading : Fields → Option Command
reading (one n) = alone (same n)
reading (two n f) = if_number (numeral f) (of_object (same n))
reading (three n f s) = if_number (numeral f) (λ i. if_integer (numeral s) (of_two (same n) i) (of_negative (same n) i))
reading (four n f s h) = if_number (numeral f) (λ k. if_number (numeral s) (of_bytes (same n) (is_bytes h) k))
reading too_many = None

-- the bytes of an indication, [] for any other line
abbrev pub bytes_in : Fields → List ℕ
bytes_in (one n) = []
bytes_in (two n f) = []
bytes_in (three n f s) = []
bytes_in (four n f s h) = hex_bytes h
bytes_in too_many = []

-- ---- a line

abbrev pub fields_of : List ℕ → Fields
fields_of line = fields_from (one []) line

abbrev pub read_line : List ℕ → Option Command
read_line line = reading (fields_of line)
