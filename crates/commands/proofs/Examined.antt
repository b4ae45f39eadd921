-- Table and memory that were found right are `Checked`. Assumes nothing.
use Rattle.std.proofs.Common.{Bool, true, false, refl, List, ◌≡◌, sym, ◌∙◌, ℕ, ◌≤◌, length, length-take-le, Result, Ok}
use Rattle.std.specs.Bool.{then_some}
use Rattle.memory.specs.Bytes.{Bytes, part}
use Rattle.memory.proofs.Parts.{part_bytes}
use Rattle.table.specs.declared.Counts.{Counts}
use Rattle.table.specs.declared.WrongRecord.{WrongRecord}
use Rattle.table.specs.Check.{check, Right}
use Rattle.table.proofs.Accepted.{accepted_right}
use Rattle.state.specs.Layout.{memory_size}
use Rattle.state.specs.Ranges.{in_range}
use Rattle.state.proofs.Ready.{in_range_ready}
use Rattle.layer.specs.Admission.{working_memory}
use Rattle.commands.specs.Given.{Checked, Holds}

pub verdict_accepts : (t : List ℕ) {v : Result Counts WrongRecord} {c : Counts} → v ≡ check t → v ≡ Ok c → check t ≡ Ok c
verdict_accepts t e f = sym e ∙ f

module _ (t : List ℕ) (c : Counts) (accepted : check t ≡ Ok c) where
  pub table_right : Right t c
  table_right = accepted_right t c accepted

  range_checked : (m : List ℕ) → Bytes t → Bytes m → memory_size ≤ length m → {r : Bool} → r ≡ in_range t c (working_memory m) → r ≡ true → Checked t c m
  unfolding part
  range_checked m bt bm long same found =
      record {
        accepted = accepted;
        long = long;
        ready = in_range_ready t c (working_memory m) table_right bt (length-take-le memory_size m long) (part_bytes 0 memory_size m bm) (sym same ∙ found);
      }

  pub examined : (m : List ℕ) → Bytes t → Bytes m → memory_size ≤ length m → (r : Bool) → r ≡ in_range t c (working_memory m) → Holds (then_some r c) t m
  examined m bt bm long true same = range_checked m bt bm long same refl
  examined m bt bm long false same = tt
