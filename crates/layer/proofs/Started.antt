-- A start by the verdict on the table, and by the length of memory. The laws ask for plain values, so that a search finds them.
-- Assumes nothing.
use Rattle.std.proofs.Common.{List, [], ◌++◌, ◌≡◌, ℕ, ◌≤◌, le-leb, length, drop, Ok}
use Rattle.table.specs.declared.Counts.{Counts}
use Rattle.state.specs.Layout.{memory_size}
use Rattle.calls.specs.Answers.{done_with}
use Rattle.calls.specs.Answers.{outcome}
use Rattle.startup.specs.Start.{started, start_in}
use Rattle.layer.specs.Admission.{start_admission_of, if_admitted}

pub starts_long : (t : List ℕ) (c : Counts) (m n : List ℕ) → memory_size ≤ length m → n ≡ started t c
    → outcome (done_with 0) (n ++ drop memory_size m) [] ≡ if_admitted (start_admission_of (Ok c) m) m [] (start_in t)
starts_long t c m n long writes = rw (le-leb _ _ long, writes)
