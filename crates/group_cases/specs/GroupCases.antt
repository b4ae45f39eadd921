-- W-202 by examples: a list of calls, a group over the memory that they left, and calls after it, with what each answers and hands over.
-- Assumes nothing.
use Rattle.std.specs.Prelude.{true, List, [], ◌∷◌, ◌++◌, ◌≡◌, ℕ, zero, suc, replicate}
use Rattle.memory.specs.Bytes.{bytes_of}
use Rattle.state.specs.Layout.{memory_size}
use Rattle.calls.specs.Answers.{number_of, value_of}
use Rattle.layer.specs.Step.{Call, start, stop, receive, confirm, tick, run, memory_after}
use Rattle.group.specs.Pairs.{Pairs, in_bytes, in_records}
use Rattle.group.specs.Pairs as given
use Rattle.group.specs.Groups.{Group, group_of, GroupOutcome, group_step}
use Rattle.cases.specs.Case.{Line, line, shows, calls_of, slots_of, expected, answered, table_of, send_ipdu, object_bytes, area}

pub record GroupCase : Type 0 where
  pub table : List ℕ
  pub before : List Call
  pub group : Group
  pub number : ℕ
  pub word : ℕ
  pub statuses : List ℕ
  pub slots : List ℕ
  pub bytes : List ℕ
  pub after : List Line

-- number and word, the status list, and the bytes of some slots
abbrev pub gives : List ℕ → GroupOutcome → List (List ℕ)
gives slots o = (number_of o.answer ∷ value_of o.answer ∷ []) ∷ o.statuses ∷ slots_of slots o.area ∷ []

abbrev pub memory_before : GroupCase → List ℕ
memory_before c = memory_after c.table c.before (replicate memory_size 165)

pub record GroupHolds (c : GroupCase) : Type 0 where
  pub given : gives c.slots (group_step c.table c.group (memory_before c)) ≡ (c.number ∷ c.word ∷ []) ∷ c.statuses ∷ c.bytes ∷ []
  pub after : answered c.after (run c.table (calls_of c.after) (group_step c.table c.group (memory_before c)).memory) ≡ expected c.after

abbrev pub AllGroupsHold : List GroupCase → Type 0
AllGroupsHold [] = Unit {0}
AllGroupsHold (c ∷ cs) = GroupHolds c × AllGroupsHold cs

-- ---- a case of the van: two send I-PDUs without delay. Object 0 is triggered, 12 bits from bit 13 on, and passes what differs from the
-- old value; 1 is pending in the same I-PDU, the first byte; 2 is triggered in I-PDU 1 and passes the second of three; 3 receives from 1
-- inside, with a queue of two
abbrev pub van_table : List ℕ
van_table =
    table_of
    (send_ipdu 0 0 0 0 10 ∷ send_ipdu 0 0 0 0 10 ∷ [])
    (object_bytes 1 0 255 13 12 0 0 0 5 0 0 0
    ∷ object_bytes 1 0 255 0 8 0 1 0 0 0 0 0
    ∷ object_bytes 1 1 255 0 8 0 0 0 14 0 3 1
    ∷ object_bytes 2 255 1 0 32 0 0 2 0 0 0 0
    ∷ [])

abbrev pub five : ℕ → ℕ → List ℕ
five object value = object ∷ bytes_of 4 value

abbrev repeated : ℕ → List ℕ → List ℕ
repeated zero bytes = []
repeated (suc n) bytes = bytes ++ repeated n bytes

abbrev status_list : ℕ → List ℕ
status_list n = replicate n 204

-- a group that is refused with this number after these calls: its status list and slot 0 stay
abbrev refused_as : ℕ → List Call → Group → List Line → GroupCase
refused_as number before g after =
    record {
      table = van_table;
      before = before;
      group = g;
      number = number;
      word = 0;
      statuses = g.statuses;
      slots = 0 ∷ [];
      bytes = slots_of (0 ∷ []) g.area;
      after = after;
    }

-- each pair by itself: two requests; the second value of object 0 is dropped, the third waits behind the open request; 9 and 255 are no
-- objects and 3 is not sent; one in three of object 2. The frame of I-PDU 0 is the one of its request, without object 1, which came later
abbrev pub whole_case : GroupCase
whole_case =
    record {
      table = van_table;
      before = start ∷ [];
      group =
          group_of
          (in_bytes
          (five 0 5 ++ five 1 122 ++ five 9 1 ++ five 0 5 ++ five 255 1 ++ five 0 6 ++ five 3 1 ++ five 2 1 ++ five 2 2 ++ five 2 3 ++ five 1 123))
          area (status_list 11);
      number = 0;
      word = 3;
      statuses = 0 ∷ 0 ∷ 1 ∷ 0 ∷ 1 ∷ 0 ∷ 1 ∷ 0 ∷ 0 ∷ 0 ∷ 0 ∷ [];
      slots = 0 ∷ 1 ∷ 2 ∷ [];
      bytes = (0x00 ∷ 0xA0 ∷ []) ++ replicate 6 0 ++ (2 ∷ []) ++ replicate 7 0 ++ replicate 8 170;
      after =
          line (receive 3) 0 122
          ∷ line (receive 3) 0 123
          ∷ line (confirm 0 true) 0 0
          ∷ shows (tick area) 0 1 (0 ∷ []) ((0x7B ∷ 0xC0 ∷ []) ++ replicate 6 0)
          ∷ [];
    }

-- the same as records; 256 and 257 are no objects, as they stand
abbrev pub record_case : GroupCase
record_case =
    record {
      table = van_table;
      before = start ∷ [];
      group = group_of (in_records (given.pair 256 5 ∷ given.pair 0 5 ∷ given.pair 257 122 ∷ given.pair 1 122 ∷ [])) area (status_list 4);
      number = 0;
      word = 1;
      statuses = 1 ∷ 0 ∷ 1 ∷ 0 ∷ [];
      slots = 0 ∷ [];
      bytes = (0x00 ∷ 0xA0 ∷ []) ++ replicate 6 0;
      after = line (receive 3) 0 122 ∷ [];
    }

-- one pair of bytes: the value's four bytes are 2748, the lowest first (case 1: 00 80 57 01)
abbrev pub value_case : GroupCase
value_case =
    record {
      table = van_table;
      before = start ∷ [];
      group = group_of (in_bytes (0 ∷ 0xBC ∷ 0x0A ∷ 0 ∷ 0 ∷ [])) area (status_list 1);
      number = 0;
      word = 1;
      statuses = 0 ∷ [];
      slots = 0 ∷ [];
      bytes = (0x00 ∷ 0x80 ∷ 0x57 ∷ 0x01 ∷ []) ++ replicate 4 0;
      after = [];
    }

abbrev pub sent_groups : List GroupCase
sent_groups =
    whole_case
    ∷ record_case
    ∷ value_case
    -- all four bytes of a value arrive inside
    ∷ record {
      table = van_table;
      before = start ∷ [];
      group = group_of (in_bytes (1 ∷ 1 ∷ 2 ∷ 3 ∷ 4 ∷ [])) area (status_list 1);
      number = 0;
      word = 0;
      statuses = 0 ∷ [];
      slots = [];
      bytes = [];
      after = line (receive 3) 0 0x04030201 ∷ [];
    }
    -- no pair; sixteen pairs
    ∷ record {
      table = van_table;
      before = start ∷ [];
      group = group_of (in_bytes []) area [];
      number = 0;
      word = 0;
      statuses = [];
      slots = 0 ∷ [];
      bytes = replicate 8 170;
      after = [];
    }
    ∷ record {
      table = van_table;
      before = start ∷ [];
      group = group_of (in_bytes (repeated 16 (five 1 77))) area (status_list 16);
      number = 0;
      word = 0;
      statuses = replicate 16 0;
      slots = [];
      bytes = [];
      after = line (receive 3) 3 77 ∷ [];
    }
    ∷ []

abbrev pub refused_groups : List GroupCase
refused_groups =
    -- 2: seventeen pairs, in either form; a pair that is cut; a status list too short, too long. The layer runs on
    refused_as 2 (start ∷ []) (group_of (in_records (replicate 17 (given.pair 1 77))) area (status_list 17)) (line (receive 3) 4 0 ∷ [])
    ∷ refused_as 2 (start ∷ []) (group_of (in_bytes (replicate 85 0)) area (status_list 17)) (line (receive 3) 4 0 ∷ [])
    ∷ refused_as 2 (start ∷ []) (group_of (in_bytes (five 1 77 ++ (1 ∷ 77 ∷ []))) area (status_list 1)) (line (receive 3) 4 0 ∷ [])
    ∷ refused_as 2 (start ∷ []) (group_of (in_records (given.pair 1 77 ∷ [])) area []) (line (receive 3) 4 0 ∷ [])
    ∷ refused_as 2 (start ∷ []) (group_of (in_bytes []) area (status_list 1)) []
    ∷ refused_as 2 (start ∷ []) (group_of (in_bytes (five 1 77)) area (status_list 2)) (line (receive 3) 4 0 ∷ [])
    -- before that 7 for a stopped layer, 6 for the area, 6 for memory that no start wrote, 5 for the table
    ∷ refused_as 7 (start ∷ stop ∷ []) (group_of (in_bytes (five 1 77)) area (status_list 2)) []
    ∷ refused_as 6 (start ∷ stop ∷ []) (group_of (in_bytes (five 1 77)) (replicate 255 170) (status_list 2)) []
    ∷ refused_as 6 [] (group_of (in_bytes (five 1 77)) area (status_list 1)) []
    ∷ record {
      table = 0 ∷ van_table;
      before = [];
      group = group_of (in_bytes (five 1 77)) [] (status_list 2);
      number = 5;
      word = 0;
      statuses = status_list 2;
      slots = [];
      bytes = [];
      after = [];
    }
    ∷ []
