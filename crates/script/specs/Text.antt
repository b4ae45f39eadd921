-- W-201: the line of each command, without its line feed; W-207: where values are written as signed. Characters are ASCII codes.
-- Assumes nothing.
use Rattle.std.specs.Prelude.{ℕ, ◌+◌, ◌/◌, ◌%◌, Bool, true, false, List, [], ◌∷◌, ◌++◌, nat_lt}
use Rattle.memory.specs.Search.{pick}
use Rattle.memory.specs.Texts.{blank, number_field}
use Rattle.memory.specs.Integers.{integer, integer_field}
use Rattle.script.specs.Characters.{codes}
use Rattle.script.specs.declared.Ask.TheVariants.{Receive, Status, Marks, ClearMarks}
use Rattle.script.specs.declared.Command.{Command}
use Rattle.script.specs.declared.Command.TheVariants.{Start, Stop, Send, Initialise, Object, Periodic, Indication, Confirm, Tick}

-- one blank before each
abbrev pub number_fields : List ℕ → List ℕ
number_fields [] = []
number_fields (n ∷ ns) = number_field n ++ number_fields ns

-- values as they stand, or signed: as the integers that their 32 bits mean
abbrev pub value_fields : Bool → List ℕ → List ℕ
value_fields signed [] = []
value_fields signed (v ∷ vs) = integer_field (integer signed v) ++ value_fields signed vs

-- ---- bytes in upper-case hex; for no bytes there is no field, and no blank before it

abbrev pub hex_digit_of : ℕ → ℕ
hex_digit_of d = pick (nat_lt d 10) (48 + d) (55 + d)

abbrev pub hex : List ℕ → List ℕ
hex [] = []
hex (b ∷ bs) = hex_digit_of (b / 16) ∷ hex_digit_of (b % 16) ∷ hex bs

abbrev pub hex_field : List ℕ → List ℕ
hex_field [] = []
hex_field (b ∷ bs) = blank ∷ hex (b ∷ bs)

-- ---- names

abbrev pub start_name : List ℕ
start_name = codes "start"

abbrev pub stop_name : List ℕ
stop_name = codes "stop"

abbrev pub send_name : List ℕ
send_name = codes "send"

abbrev pub initialise_name : List ℕ
initialise_name = codes "initialise"

abbrev pub receive_name : List ℕ
receive_name = codes "receive"

abbrev pub status_name : List ℕ
status_name = codes "status"

abbrev pub marks_name : List ℕ
marks_name = codes "marks"

abbrev pub clear_marks_name : List ℕ
clear_marks_name = codes "clear_marks"

abbrev pub start_periodic_name : List ℕ
start_periodic_name = codes "start_periodic"

abbrev pub stop_periodic_name : List ℕ
stop_periodic_name = codes "stop_periodic"

abbrev pub indication_name : List ℕ
indication_name = codes "indication"

abbrev pub confirm_name : List ℕ
confirm_name = codes "confirm"

abbrev pub tick_name : List ℕ
tick_name = codes "tick"

abbrev pub name_of : Command → List ℕ
name_of Start = start_name
name_of Stop = stop_name
name_of (Send i v) = send_name
name_of (Initialise i v) = initialise_name
name_of (Object Receive i) = receive_name
name_of (Object Status i) = status_name
name_of (Object Marks i) = marks_name
name_of (Object ClearMarks i) = clear_marks_name
name_of (Periodic true) = start_periodic_name
name_of (Periodic false) = stop_periodic_name
name_of (Indication k good) = indication_name
name_of (Confirm k good) = confirm_name
name_of Tick = tick_name

-- ---- numbers: good is 1, not good 0

abbrev pub good_number : Bool → ℕ
good_number good = pick good 1 0

abbrev pub numbers_of : Command → List ℕ
numbers_of Start = []
numbers_of Stop = []
numbers_of (Send i v) = i.0 ∷ []
numbers_of (Initialise i v) = i.0 ∷ []
numbers_of (Object ask i) = i.0 ∷ []
numbers_of (Periodic on) = []
numbers_of (Indication k good) = k.0 ∷ good_number good ∷ []
numbers_of (Confirm k good) = k.0 ∷ good_number good ∷ []
numbers_of Tick = []

-- ---- the value of a send or an initialise

abbrev pub values_of : Command → List ℕ
values_of Start = []
values_of Stop = []
values_of (Send i v) = v ∷ []
values_of (Initialise i v) = v ∷ []
values_of (Object ask i) = []
values_of (Periodic on) = []
values_of (Indication k good) = []
values_of (Confirm k good) = []
values_of Tick = []

-- ---- the line: the name, then the numbers, then the value, then the bytes of an indication

abbrev pub text : Bool → Command → List ℕ → List ℕ
text signed command bytes = name_of command ++ number_fields (numbers_of command) ++ value_fields signed (values_of command) ++ hex_field bytes
