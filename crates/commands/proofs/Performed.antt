-- A command's call: what it does itself, admitted or refused. The laws ask for plain values, so that a search finds them.
-- Assumes nothing.
use Rattle.std.proofs.Common.{Bool, true, false, not, ◌||◌, List, [], ◌∷◌, ◌++◌, ◌≡◌, refl, sym, ap, ◌∙◌, ℕ, ◌^◌, ◌≤◌, ◌<◌, arith, leb-true, Option, Some, None, Err, Ok}
use Rattle.std.proofs.Common.{le-leb, eq-eqb, ne_eqb, leb, eqb, length, drop, get_or-take}
use Rattle.memory.specs.Bytes.{Bytes, number_at}
use Rattle.memory.specs.Search.{pick}
use Rattle.memory.specs.Texts.{line_feed, digit_of}
use Rattle.memory.proofs.Parts.{number_one}
use Rattle.memory.proofs.Tests.{and_false}
use Rattle.table.specs.declared.Counts.{Counts}
use Rattle.table.specs.declared.ObjectNumber.{ObjectNumber}
use Rattle.table.specs.Check.{check}
use Rattle.table.proofs.Accepted.{right_accepted}
use Rattle.state.specs.Layout.{memory_size, area_size, running_at}
use Rattle.state.specs.Ranges.{Ready}
use Rattle.state.proofs.Ready.{ready_in_range}
use Rattle.calls.specs.Answers.{Answer}
use Rattle.calls.specs.declared.Refusal.{Refusal}
use Rattle.calls.specs.declared.Refusal.TheVariants.{WrongId, WrongLength, NoMessage, WrongTable, WrongMemory, Stopped, NotRequested}
use Rattle.calls.specs.Answers.{number_of, Outcome, outcome}
use Rattle.calls.specs.Calls.{periodic_in}
use Rattle.calls.proofs.ReadyKept.{ready_stop, ready_send, ready_initialise, ready_receive, ready_status, ready_marks, ready_clear_marks, ready_periodic}
use Rattle.calls.proofs.ReadyKept.{ready_indication, ready_confirm, ready_tick}
use Rattle.layer.specs.Admission.{Admission}
use Rattle.layer.specs.Admission.{Admits, working_memory, admission, on_working_memory, if_admitted}
use Rattle.layer.specs.Step.{start, describe, step}
use Rattle.layer.proofs.Admitted.{admits_refused, working_exact}
use Rattle.layer.proofs.ReadyKept.{start_ready, WorkingReady, working_ready, step_ready}
use Rattle.script.specs.declared.Ask.{Ask}
use Rattle.script.specs.declared.Ask.TheVariants.{Receive, Status, Marks, ClearMarks}
use Rattle.script.specs.declared.Command.{Command}
use Rattle.script.specs.declared.Command.TheVariants.{Start, Stop, Send, Initialise, Object, Periodic, Indication, Confirm, Tick}
use Rattle.report.specs.Printing.{lends, answer_line}
use Rattle.report.proofs.StatusLines.{status_line, start_line}
use Rattle.script_run.specs.Script.{call_of, settled, effect, own}
use Rattle.commands.specs.Given.{Checked, Holds, is_start}

pub started_not : (command : Command) → command ≡ Start → is_start command ≡ false → ⊥
started_not command told other = let e : true ≡ false = rw told at other in let z : ◌≡◌ {A = ℕ} 0 1 = cc in omega arith

pub lent_area : (command known : Command) (n : ℕ) → command ≡ known → lends known ≡ true → (lends command ≡ true → area_size ≤ n) → area_size ≤ n
lent_area command known n told lent long = long (ap lends told ∙ lent)

-- ---- what a command's call does itself

-- a value has 32 bits, and an indication is lent bytes
abbrev pub InTypes : Command → List ℕ → Type 0
InTypes Start bytes = Unit
InTypes Stop bytes = Unit
InTypes (Send i v) bytes = v < 2 ^ 32
InTypes (Initialise i v) bytes = v < 2 ^ 32
InTypes (Object ask i) bytes = Unit
InTypes (Periodic on) bytes = Unit
InTypes (Indication k good) bytes = Bytes bytes
InTypes (Confirm k good) bytes = Unit
InTypes Tick bytes = Unit

-- neither looks at the bytes or the area
asks : (ask : Ask) (i : ObjectNumber) (bytes area : List ℕ) → call_of (Object ask i) bytes area ≡ call_of (Object ask i) [] []
asks Receive i bytes area = refl
asks Status i bytes area = refl
asks Marks i bytes area = refl
asks ClearMarks i bytes area = refl

periods : (on : Bool) (bytes area t : List ℕ) (c : Counts) (m : List ℕ) → (describe (call_of (Periodic on) bytes area)).does t c m ≡ periodic_in on t c m
periods true bytes area t c m = refl
periods false bytes area t c m = refl

module _ {t : List ℕ} {c : Counts} (bytes area : List ℕ) {m : List ℕ} (ready : Ready t c m) where
  command_ready : (command : Command) → InTypes command bytes → Ready t c ((describe (call_of command bytes area)).does t c m).memory
  command_ready Start small = start_ready t c ready.right ready.tables
  command_ready Stop small = ready_stop t c m ready
  command_ready (Send i v) small = ready_send t c m ready i.0 v small area
  command_ready (Initialise i v) small = ready_initialise t c m ready i.0 v small
  command_ready (Object Receive i) small = ready_receive t c m ready i.0
  command_ready (Object Status i) small = ready_status t c m ready i.0
  command_ready (Object Marks i) small = ready_marks t c m ready i.0
  command_ready (Object ClearMarks i) small = ready_clear_marks t c m ready i.0
  command_ready (Periodic true) small = ready_periodic t c m ready true
  command_ready (Periodic false) small = ready_periodic t c m ready false
  command_ready (Indication k good) small = ready_indication t c m ready k.0 good bytes small
  command_ready (Confirm k good) small = ready_confirm t c m ready k.0 good
  command_ready Tick small = ready_tick t c m ready area

  module _ {r : Answer} {n : List ℕ} where
    made_ready : (command : Command) (b : List ℕ) → InTypes command bytes → outcome r n b ≡ (describe (call_of command bytes area)).does t c m → Ready t c n
    made_ready command b small does = rw (← ap (λ (o : Outcome). o.memory) does) at (command_ready command small)

    module _ {command known : Command} (told : command ≡ known) (small : InTypes known bytes) where
      pub own_lent : {b : List ℕ} → lends known ≡ true → outcome r n b ≡ (describe (call_of known bytes area)).does t c m
          → (outcome r n b ≡ own t c command bytes area m) × Ready t c n
      unfolding own
      own_lent {b} lent does = (rw (told, lent) does, made_ready known b small does)

      -- a call that is lent no area leaves it
      pub own_alone : lends known ≡ false → outcome r n [] ≡ (describe (call_of known bytes area)).does t c m
          → (outcome r n area ≡ own t c command bytes area m) × Ready t c n
      unfolding own
      own_alone alone does = (rw (told, alone) (ap (λ (o : Outcome). outcome o.answer o.memory area) does), made_ready known [] small does)

    -- what is asked of an object
    pub asked : {ask known : Ask} (i : ObjectNumber) → ask ≡ known → outcome r n [] ≡ (describe (call_of (Object known i) bytes area)).does t c m
        → (outcome r n [] ≡ (describe (call_of (Object ask i) bytes area)).does t c m) × Ready t c n
    asked {ask} {known} i told does = (rw told does, made_ready (Object known i) [] tt does)

    pub own_asked : {command : Command} {ask : Ask} {i : ObjectNumber} → command ≡ Object ask i → outcome r n [] ≡ (describe (call_of (Object ask i) [] [])).does t c m
        → (outcome r n area ≡ own t c command bytes area m) × Ready t c n
    own_asked {command} {ask} {i} told does = own_alone told tt refl (rw (asks ask i bytes area) does)

    pub own_periodic : {command : Command} {on : Bool} → command ≡ Periodic on → outcome r n [] ≡ periodic_in on t c m
        → (outcome r n area ≡ own t c command bytes area m) × Ready t c n
    own_periodic {command} {on} told does = own_alone told tt refl (does ∙ sym (periods on bytes area t c m))

-- ---- admission, with table and memory found right before

running_front : (m : List ℕ) → running_at (working_memory m) ≡ number_at 1 0 m
unfolding running_at
running_front m = number_one 0 (working_memory m) ∙ get_or-take memory_size m 0 0 (omega arith) ∙ sym (number_one 0 m)

pub holds_known : (t m : List ℕ) (checked : Option Counts) (c : Counts) → checked ≡ Some c → Holds checked t m → Checked t c m
holds_known t m checked c told holds = rw told at holds

module _ (t : List ℕ) (c : Counts) (m : List ℕ) (fits : Bool) (checked : Checked t c m) where
  pub known_short : fits ≡ false → Admits t m fits (Err WrongMemory)
  unfolding admission
  known_short short = admits_refused (rw (checked.accepted, short, and_false (leb memory_size (length m))))

  known_front : fits ≡ true → pick (eqb (number_at 1 0 m) 0) (Err Stopped) (Ok c) ≡ admission t m fits
  unfolding admission
  known_front fit =
      rw (
        checked.accepted,
        le-leb memory_size (length m) checked.long,
        fit,
        ready_in_range t c (working_memory m) checked.ready,
        running_front m,
      )

  module _ (byte : ℕ) (read : byte ≡ number_at 1 0 m) (fit : fits ≡ true) where
    pub known_stopped : byte ≡ 0 → Admits t m fits (Err Stopped)
    known_stopped off = admits_refused (rw (eq-eqb (number_at 1 0 m) 0 (sym read ∙ off)) at (known_front fit))

    pub known_runs : (byte ≡ 0 → ⊥) → Admits t m fits (Ok c)
    known_runs on =
        record {
          same = rw (ne_eqb (number_at 1 0 m) 0 (λ e. on (read ∙ e))) at (known_front fit);
          opens = λ d e. let same : c ≡ d = cc in
              rw (← same)
              record {
                long = checked.long;
                exact = working_exact m checked.long;
                ready = checked.ready;
                area = fit;
              };
        }

-- ---- what a command does, admitted or refused

-- whether an area of n bytes is long enough for the command
abbrev pub long_for : Command → ℕ → Bool
long_for command n = not (lends command) || leb area_size n

-- the step of a command that wants the layer to run
step_of : (t : List ℕ) (command : Command) (bytes area m : List ℕ) → is_start command ≡ false
    → step t (call_of command bytes area) m
    ≡ if_admitted (admission t m (long_for command (length area))) m (pick (lends command) area []) ((describe (call_of command bytes area)).does t)
unfolding step
step_of t Start bytes area m other = absurd (started_not Start refl other)
step_of t Stop bytes area m other = refl
step_of t (Send i v) bytes area m other = refl
step_of t (Initialise i v) bytes area m other = refl
step_of t (Object Receive i) bytes area m other = refl
step_of t (Object Status i) bytes area m other = refl
step_of t (Object Marks i) bytes area m other = refl
step_of t (Object ClearMarks i) bytes area m other = refl
step_of t (Periodic true) bytes area m other = refl
step_of t (Periodic false) bytes area m other = refl
step_of t (Indication k good) bytes area m other = refl
step_of t (Confirm k good) bytes area m other = refl
step_of t Tick bytes area m other = refl

settled_refused : (lent : Bool) (area m : List ℕ) (a : Answer) → settled lent area (outcome a m (pick lent area [])) ≡ outcome a m area
settled_refused true area m a = refl
settled_refused false area m a = refl

settled_working : (lent : Bool) (area : List ℕ) (call : List ℕ → Outcome) (m : List ℕ)
    → settled lent area (on_working_memory call m) ≡ on_working_memory (λ n. settled lent area (call n)) m
settled_working true area call m = refl
settled_working false area call m = refl

module _ (t m : List ℕ) (fits : Bool) (command : Command) (bytes area : List ℕ) (x : Admission) (admits : Admits t m fits x)
    (long : fits ≡ long_for command (length area)) (other : is_start command ≡ false) where
  pub effect_refused : (r : Refusal) → x ≡ Err r → effect t command bytes area m ≡ outcome (Err r) m area
  unfolding effect
  effect_refused r told = rw (step_of t command bytes area m other, ← long, ← admits.same, told) (settled_refused (lends command) area m (Err r))

  pub effect_admitted : (c : Counts) → x ≡ Ok c → effect t command bytes area m ≡ on_working_memory (own t c command bytes area) m
  unfolding effect own
  effect_admitted c told =
      rw (step_of t command bytes area m other, ← long, ← admits.same, told)
      (settled_working (lends command) area ((describe (call_of command bytes area)).does t c) m)

start_only : (command : Command) → is_start command ≡ true → command ≡ Start
start_only Start e = refl
start_only Stop e = cc
start_only (Send i v) e = cc
start_only (Initialise i v) e = cc
start_only (Object ask i) e = cc
start_only (Periodic on) e = cc
start_only (Indication k good) e = cc
start_only (Confirm k good) e = cc
start_only Tick e = cc

pub effect_start : (t : List ℕ) (command : Command) (bytes area m : List ℕ) → is_start command ≡ true
    → effect t command bytes area m ≡ outcome (step t start m).answer (step t start m).memory area
unfolding effect
effect_start t command bytes area m is = rw (start_only command is)

pub fits_area : (command : Command) (fits : Bool) (n : ℕ) → fits ≡ true → fits ≡ long_for command n → lends command ≡ true → area_size ≤ n
fits_area command fits n fit long lent = leb-true area_size n (rw (← fit, long, lent))

-- ---- the answer of a refused call

-- its number is neither 0 nor the 3 of a receive
refused_number : (r : Refusal) → (number_of (Err r) ≡ 0 → ⊥) × (number_of (Err r) ≡ 3 → ⊥)
refused_number WrongId = (λ e. omega (arith, e), λ e. omega (arith, e))
refused_number WrongLength = (λ e. omega (arith, e), λ e. omega (arith, e))
refused_number NoMessage = (λ e. omega (arith, e), λ e. omega (arith, e))
refused_number WrongTable = (λ e. omega (arith, e), λ e. omega (arith, e))
refused_number WrongMemory = (λ e. omega (arith, e), λ e. omega (arith, e))
refused_number Stopped = (λ e. omega (arith, e), λ e. omega (arith, e))
refused_number NotRequested = (λ e. omega (arith, e), λ e. omega (arith, e))

pub refused_line : (t : List ℕ) (r : Refusal) (command : Command) (area : List ℕ)
    → answer_line t command (Err r) area ≡ digit_of (number_of (Err r)) ∷ line_feed ∷ []
refused_line t r command area = status_line t command (Err r) area refl (refused_number r).0 (refused_number r).1

pub started_line : (t : List ℕ) (command : Command) (a : Answer) (area : List ℕ) → is_start command ≡ true
    → answer_line t command a area ≡ digit_of (number_of a) ∷ line_feed ∷ []
started_line t command a area is = rw (start_only command is) (start_line t a area)

-- ---- table and memory stay right

module _ (t : List ℕ) (c : Counts) (m : List ℕ) where
  pub admitted_checked : (fits : Bool) (x : Admission) → Admits t m fits x → x ≡ Ok c → Checked t c m
  admitted_checked fits x admits told =
      let opened = admits.opens c told in
      record { accepted = right_accepted t c opened.ready.right; long = opened.long; ready = opened.ready }

  kept_checked : (n : List ℕ) → check t ≡ Ok c → WorkingReady t c n → Checked t c n
  kept_checked n accepted w = record { accepted = accepted; long = w.long; ready = w.ready }

  pub checked_after : (x : List ℕ) → Checked t c m → Ready t c x → Checked t c (x ++ drop memory_size m)
  checked_after x checked ready = kept_checked (x ++ drop memory_size m) checked.accepted (working_ready t c x m ready)

  pub start_checked : Checked t c m → Checked t c (step t start m).memory
  start_checked checked =
      kept_checked (step t start m).memory checked.accepted
      (step_ready t c checked.accepted start m (record { long = checked.long; ready = checked.ready })
      (λ i v e. let z : ◌≡◌ {A = ℕ} 0 1 = cc in omega arith) (λ i v e. let z : ◌≡◌ {A = ℕ} 0 1 = cc in omega arith) (λ i. omega arith))

pub start_holds : (t m : List ℕ) (checked : Option Counts) → Holds checked t m → Holds checked t (step t start m).memory
start_holds t m (Some c) holds = start_checked t c m holds
start_holds t m None holds = tt
