-- Short forms of the lines and records of a proved case, for the lists of rules.
-- Assumes nothing.
use Rattle.std.specs.Prelude.{true, false, List, [], ◌∷◌, ℕ}
use Rattle.layer.specs.Step.{Call, send, receive, marks, indication, confirm, tick}
use Rattle.cases.specs.Case.{Line, line, send_ipdu, object_bytes, area}

-- ---- lines

-- a call that answers 0 with 0, and one that is refused with a number
abbrev pub ok : Call → Line
ok call = line call 0 0

abbrev pub refuses : Call → ℕ → Line
refuses call number = line call number 0

-- a send and a tick with the word of the I-PDUs requested
abbrev pub send_gives : (i value word : ℕ) → Line
send_gives i value word = line (send i value area) 0 word

abbrev pub tick_gives : (word : ℕ) → Line
tick_gives word = line (tick area) 0 word

abbrev pub receive_gives : (i value : ℕ) → Line
receive_gives i value = line (receive i) 0 value

abbrev pub marks_give : (i added : ℕ) → Line
marks_give i added = line (marks i) 0 added

-- a good indication of 4 bytes, the first a value and the others 0; one that is not good
abbrev pub arrives : (k value : ℕ) → Line
arrives k value = ok (indication k true (value ∷ 0 ∷ 0 ∷ 0 ∷ []))

abbrev pub arrives_wrong : (k : ℕ) → Line
arrives_wrong k = ok (indication k false [])

abbrev pub confirm_good : (k : ℕ) → Line
confirm_good k = ok (confirm k true)

abbrev pub confirm_not_good : (k : ℕ) → Line
confirm_not_good k = ok (confirm k false)

-- ---- records

-- a direct I-PDU with no minimum delay and deadline 10
abbrev pub direct_ipdu : List ℕ
direct_ipdu = send_ipdu 0 0 0 0 10

-- 8 bits in the little order: sent; received
abbrev pub sent_byte : (ipdu n transfer filter initial : ℕ) → List ℕ
sent_byte ipdu n transfer filter initial = object_bytes 1 ipdu 255 n 8 0 transfer 0 filter initial 0 0

abbrev pub received_byte : (ipdu n depth filter initial : ℕ) → List ℕ
received_byte ipdu n depth filter initial = object_bytes 2 ipdu 255 n 8 0 0 depth filter initial 0 0

-- a receive object with a sending object
abbrev pub internal_receiver : (sender depth filter initial : ℕ) → List ℕ
internal_receiver sender depth filter initial = object_bytes 2 255 sender 0 32 0 0 depth filter initial 0 0
