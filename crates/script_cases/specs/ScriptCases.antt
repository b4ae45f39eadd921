-- W-201 by example: scripts and what they print, from a stopped layer's memory; with W-207's values below zero. Assumes nothing.
use Rattle.std.specs.Prelude.{List, [], ◌∷◌, ◌++◌, ◌≡◌, ℕ, replicate}
use Prim.Native.String.{String}
use Rattle.state.specs.Layout.{memory_size, area_size}
use Rattle.script.specs.Characters.{codes}
use Rattle.script_run.specs.Script.{printed_by, begun}
use Rattle.cases.specs.Case.{pair, send_ipdu, receive_ipdu, object_bytes, send_object, receive_object}

-- a table, a script and what it prints
pub record ScriptCase : Type 0 where
  pub table : List ℕ
  pub script : String
  pub output : String

abbrev pub prints : List ℕ → String → String → ScriptCase
prints table script output = record { table = table; script = script; output = output }

-- memory holds 165 and the area 170 before
abbrev pub Prints : ScriptCase → Type 0
Prints c =
    (printed_by c.table (codes c.script) (begun c.table (replicate memory_size 165)) (replicate area_size 170)).text ≡ codes c.output

abbrev pub AllPrint : List ScriptCase → Type 0
AllPrint [] = Unit {0}
AllPrint (c ∷ cs) = Prints c × AllPrint cs

-- case 12's table: one send I-PDU of 4 bytes, M 3 and D 10; one send object of 12 bits from bit 13 on, filter 5
abbrev pub case_table : List ℕ
case_table = pair (send_ipdu 0 0 0 3 10) (send_object 5 0 0)

-- one receive I-PDU of 4 bytes, and an object of 12 bits from bit 13 on with a queue of two
abbrev pub queue_table : List ℕ
queue_table = pair (receive_ipdu 0 0) (receive_object 2)

-- one receive I-PDU of 4 bytes, and an unqueued object of 12 bits from bit 13 on in this order
abbrev pub order_table : (order : ℕ) → List ℕ
order_table order = pair (receive_ipdu 0 0) (object_bytes 2 0 255 13 12 order 0 0 0 0 0 0)

abbrev pub script_cases : List ScriptCase
script_cases =
    -- the request's example
    prints case_table "start\nsend 0 2748\n" "0\n0 req 0 00805701\n"
    -- a call before the first start, and a stop of a stopped layer
    ∷ prints case_table "send 0 2748\ntick\nstop\nstart\nstop\nmarks 0\n" "7\n7\n7\n0\n0\n7\n"
    -- a status with 3 prints no value; the receive that follows does
    ∷ prints queue_table
    "start\nindication 0 1 00E00000\nindication 0 1 00000100\nindication 0 1 00200100\nstatus 0\nreceive 0\nreceive 0\nreceive 0\n"
    "0\n0\n0\n0\n3\n3 val 7\n0 val 8\n4\n"
    -- marks print their value; an indication with the wrong length, with none and with nine bytes; not good, the length is not looked at
    ∷ prints queue_table
    "start\nmarks 0\nindication 0 1 00\nindication 0 1\nindication 0 1 000102030405060708\nindication 0 0\nmarks 0\nclear_marks 0\nmarks 0\n"
    "0\n0 val 0\n2\n2\n2\n0\n0 val 4\n0\n0 val 0\n"
    -- over a wrong table each line that can be read prints 5
    ∷ prints (case_table ++ 0 ∷ []) "start\nsend 0 2748\nsend 00 2748\n" "5\n5\n9 3\n"
    -- a number above 32 bits; what came before is printed, and nothing after it
    ∷ prints case_table "start\nsend 0 4294967295\nsend 0 4294967296\nstart\n" "0\n0 req 0 00E0FF01\n9 3\n"
    -- an empty script, an empty line, a last line without its line feed
    ∷ prints case_table "" ""
    ∷ prints case_table "\n" "9 1\n"
    ∷ prints case_table "start\ntick" "0\n9 2\n"
    -- every other call that has no number, and a confirm of each kind
    ∷ prints case_table "start\nstart_periodic\nstop_periodic\ninitialise 0 1\nsend 0 2\nconfirm 0 0\nconfirm 0 1\nreceive 0\n" "0\n0\n0\n0\n0 req 0 00400000\n0\n8\n1\n"
    -- what can't be read
    ∷ prints case_table "start \n" "9 1\n"
    ∷ prints case_table "start\r\n" "9 1\n"
    ∷ prints case_table "send  0 1\n" "9 1\n"
    ∷ prints case_table "send\t0 1\n" "9 1\n"
    ∷ prints case_table "send 0 01\n" "9 1\n"
    ∷ prints case_table "send 0 +1\n" "9 1\n"
    ∷ prints case_table "send 0\n" "9 1\n"
    ∷ prints case_table "send 0 1 2\n" "9 1\n"
    ∷ prints case_table "confirm 0 2\n" "9 1\n"
    ∷ prints case_table "indication 0 1 0\n" "9 1\n"
    ∷ prints case_table "indication 0 1 0a\n" "9 1\n"
    ∷ prints case_table "indication 0 1 \n" "9 1\n"
    ∷ prints case_table "starts\n" "9 1\n"
    -- W-207: a value of a signed object is printed as signed, marks are not; of another object as its 32 bits
    ∷ prints (order_table 2)
    "start\nindication 0 1 00E0FF01\nreceive 0\nmarks 0\ninitialise 0 -2147483648\nreceive 0\ninitialise 0 4294967290\nreceive 0\ninitialise 0 7\nreceive 0\n"
    "0\n0\n0 val -1\n0 val 1\n0\n0 val -2147483648\n0\n0 val -6\n0\n0 val 7\n"
    ∷ prints (order_table 0) "start\nindication 0 1 00E0FF01\nreceive 0\ninitialise 0 -1\nreceive 0\n" "0\n0\n0 val 4095\n0\n0 val 4294967295\n"
    ∷ prints case_table "start\nsend 0 -1\n" "0\n0 req 0 00E0FF01\n"
    -- what can't be read of it
    ∷ prints case_table "send 0 -0\n" "9 1\n"
    ∷ prints case_table "send 0 -01\n" "9 1\n"
    ∷ prints case_table "send 0 --1\n" "9 1\n"
    ∷ prints case_table "send 0 -\n" "9 1\n"
    ∷ prints case_table "send 0 1-\n" "9 1\n"
    ∷ prints case_table "send 0 -2147483649\n" "9 1\n"
    ∷ prints case_table "send -1 0\n" "9 1\n"
    ∷ prints case_table "confirm 0 -1\n" "9 1\n"
    ∷ prints case_table "indication -1 1\n" "9 1\n"
    ∷ []
