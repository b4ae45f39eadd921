-- A start leaves every stored number in its range.
-- Assumes nothing.
use Rattle.std.proofs.Common.{Bool, true, false, List, inl, ⊎_elim, ◌≡◌, refl, ap, ◌∙◌, ℕ, zero, suc, ◌+◌, ◌^◌, ◌≤◌, ◌<◌, max, not-suc-le-zero, arith, rules, eqb, length, get_or, replicate}
use lib.ListN.{length-replicate, get_or-replicate, get_or-eq_default}
use Rattle.memory.specs.Bytes.{Bytes, value, number_at, part}
use Rattle.memory.specs.Search.{pick, fold}
use Rattle.memory.proofs.Parts.{number_one, number_lt}
use Rattle.memory.proofs.Search.{below_suc}
use Rattle.memory.proofs.Tests.{lt_or_le}
use Rattle.table.specs.declared.Counts.{Counts}
use Rattle.table.specs.declared.ObjectRecord.{ObjectRecord}
use Rattle.config.specs.declared.Direction.{Direction}
use Rattle.config.specs.declared.Direction.TheVariants.{Send, Receive}
use Rattle.config.specs.declared.Ipdu.{Ipdu}
use Rattle.table.specs.Records.{most_queued, object_record}
use Rattle.table.specs.Check.{depths, Right}
use Rattle.config.specs.Decode.{object_of}
use Rattle.state.specs.declared.IpduState.{IpduState}
use Rattle.state.specs.declared.ObjectState.{ObjectState}
use Rattle.state.specs.Layout.{row_size, slots, memory_size, running_at, ipdu_row, ipdu_state, with_ipdu_state, object_row, object_state, with_object_state}
use Rattle.state.specs.Ranges.{ipdu_in_range, object_in_range, Ready}
use Rattle.state.proofs.RowLaws.{IpduFits, ObjectFits, ipdu_length_lem, ipdu_part, ipdu_stored, ipdu_bytes_lem, ipdu_other, ipdu_read, object_length, object_part, object_stored}
use Rattle.state.proofs.RowLaws.{object_bytes_lem, object_other, object_keeps_ipdus}
use Rattle.state.proofs.Ready.{kept_object}
use Rattle.state.proofs.Turns.{depth_sum}
use Rattle.message.specs.Objects.{object, Placed, pack}
use Rattle.message.proofs.ObjectsInRange.{right_placed, pack_length}
use Rattle.transmission.specs.Requests.{ipdu}
use Rattle.transmission.proofs.RequestsInRange.{Times, times, kept_send, kept_receive}
use Rattle.calls.proofs.SlotRows.{pack_part, pack_bytes, pack_row}
use Rattle.startup.specs.Start.{blank, idle, first_timer, start_ipdu, unused, start_as, start_object, prepared}

-- ---- rows after a start

timer_low : (b : Bool) (first next : ℕ) → pick b next first ≤ max first next
timer_low true first next = omega arith
timer_low false first next = omega arith

module _ (p : Ipdu) where
  idle_range : (d : Direction) → p.direction ≡ d → ipdu_in_range p (idle (first_timer d p)) ≡ true
  idle_range Send e = kept_send p (idle 0) e (search rules)
  idle_range Receive e = kept_receive p (idle (first_timer Receive p)) e (search (rules, timer_low))

  timer_fits : Times p → (d : Direction) → first_timer d p < 2 ^ 16
  timer_fits f Send = omega arith
  timer_fits f Receive = omega (arith, timer_low (eqb p.first_deadline 0) p.first_deadline p.deadline, f.first, f.deadline)

idle_fits : (n : ℕ) → n < 2 ^ 16 → IpduFits (idle n)
idle_fits n h = search rules

pub unused_fits : (value old queue : ℕ) → value < 2 ^ 32 → old < 2 ^ 32 → queue ≤ most_queued → ObjectFits (unused value old queue)
unused_fits value old queue a b d = search rules

unused_range : (r : ObjectRecord) (value old queue : ℕ) → value < 2 ^ 32 → old < 2 ^ 32 → object_in_range r queue (unused value old queue) ≡ true
unused_range r value old queue a b = kept_object r queue (unused value old queue) (search rules)

-- ---- zeros

pub zero_at : (n : ℕ) → get_or blank n 0 ≡ 0
unfolding blank
zero_at n =
    ⊎_elim
    (λ (h : n < memory_size). get_or-replicate {A = ℕ} memory_size n 0 0 h)
    (λ (h : memory_size ≤ n).
    let past : length {A = ℕ} (replicate memory_size 0) ≤ n = omega (arith, length-replicate {A = ℕ} memory_size 0, h) in
    get_or-eq_default {A = ℕ} (replicate memory_size 0) 0 past)
    (lt_or_le n memory_size)

zero_bytes : Bytes blank
zero_bytes i = omega (arith, zero_at i)

module _ (t : List ℕ) (c : Counts) (right : Right t c) (bt : Bytes t) where
  -- the I-PDUs below n are as a start leaves them
  pub record Begun (n : ℕ) (m : List ℕ) : Type 0 where
    pub long : length m ≡ memory_size
    pub bytes : Bytes m
    pub running : running_at m ≡ 0
    pub ipdus : (k : ℕ) → k < n → ipdu_in_range (ipdu t k) (ipdu_state m k) ≡ true

  pub begun : (n : ℕ) → n ≤ c.ipdus → Begun n (fold n (start_ipdu t) blank)
  unfolding blank running_at number_at
  begun zero h =
      record {
        long = length-replicate {A = ℕ} memory_size 0;
        bytes = zero_bytes;
        running = number_one 0 (replicate memory_size 0) ∙ get_or-replicate {A = ℕ} memory_size 0 0 0 (omega arith);
        ipdus = λ k b. absurd (not-suc-le-zero b);
      }
  begun (suc n) h = more (begun n (omega (arith, h)))
    where
      m : List ℕ
      m = fold n (start_ipdu t) blank

      s : IpduState
      s = idle (first_timer (ipdu t n).direction (ipdu t n))

      more : Begun n (fold n (start_ipdu t) blank) → Begun (suc n) (start_ipdu t n (fold n (start_ipdu t) blank))
      more b =
          let room : ipdu_row n + row_size ≤ length m = omega (arith, b.long, h, right.shape.ipdus) in
          record {
            long = ipdu_length_lem m n s room ∙ b.long;
            bytes = ipdu_bytes_lem m n s b.bytes;
            running = ap value (ipdu_part m n s room 0 1 (inl (omega arith))) ∙ b.running;
            ipdus = below_suc {P = λ (k : ℕ). ipdu_in_range (ipdu t k) (ipdu_state (with_ipdu_state m n s) k) ≡ true}
                (λ k low. rw (ipdu_other m n s room k (λ e. absurd (omega (arith, low, e)))) (b.ipdus k low))
                (rw (ipdu_stored m n s room (idle_fits _ (timer_fits (ipdu t n) (times t n bt) (ipdu t n).direction))) (idle_range (ipdu t n) (ipdu t n).direction refl));
          }

  -- all I-PDUs and the objects below n are as a start leaves them
  pub record Set (n : ℕ) (m : List ℕ) : Type 0 where
    pub long : length m ≡ memory_size
    pub bytes : Bytes m
    pub running : running_at m ≡ 0
    pub ipdus : (k : ℕ) → k < c.ipdus → ipdu_in_range (ipdu t k) (ipdu_state m k) ≡ true
    pub objects : (i : ℕ) → i < n → object_in_range (object_record t c.ipdus i) (depths t c i) (object_state m i) ≡ true

  module _ (n : ℕ) (h : n < c.objects) (m : List ℕ) (b : Set n m) where
    room : object_row n + row_size ≤ length m
    room = omega (arith, b.long, h, right.shape.objects)

    placed : Placed (object t c n) m
    placed = right_placed t c m right (omega (arith, b.long)) n h

    pub initial_fits : (object t c n).initial < 2 ^ 32
    unfolding object_of Rattle.table.specs.Records.object_record
    initial_fits = number_lt 4 _ t bt

    pub queue_low : depths t c n ≤ most_queued
    queue_low = omega (arith, depth_sum t c right n h)

    -- a row set over a memory that agrees with this one on all rows
    set_row : (l : List ℕ) (v : ℕ) → v < 2 ^ 32 → length l ≡ length m → Bytes l → ((j w : ℕ) → j + w ≤ slots → part j w l ≡ part j w m)
        → ((i : ℕ) → object_state l i ≡ object_state m i) → Set (suc n) (with_object_state l n (unused v (object t c n).initial (depths t c n)))
    unfolding running_at number_at
    set_row l v small same bs low rows =
        let there : object_row n + row_size ≤ length l = omega (arith, room, same) in
        let s : ObjectState = unused v (object t c n).initial (depths t c n) in
        record {
          long = object_length l n s there ∙ same ∙ b.long;
          bytes = object_bytes_lem l n s bs;
          running = ap value (object_part l n s there 0 1 (inl (omega arith)) ∙ low 0 1 (omega arith)) ∙ b.running;
          ipdus = λ k few.
              rw (object_keeps_ipdus l n s there k (omega (arith, few, right.shape.ipdus)) ∙ ipdu_read l m k (λ o w e. low (ipdu_row k + o) w (omega (arith, e, few, right.shape.ipdus))))
              (b.ipdus k few);
          objects = below_suc {P = λ (i : ℕ). object_in_range (object_record t c.ipdus i) (depths t c i) (object_state (with_object_state l n s) i) ≡ true}
              (λ i few. rw (object_other l n s there i (λ e. absurd (omega (arith, few, e))) ∙ rows i) (b.objects i few))
              (rw (object_stored l n s there (unused_fits v (object t c n).initial (depths t c n) small initial_fits queue_low))
              (unused_range (object_record t c.ipdus n) v (object t c n).initial (depths t c n) small initial_fits));
        }

    -- packing leaves all rows
    set_packed : (l : List ℕ) → Set (suc n) l → Set (suc n) (pack (object t c n) (object t c n).initial l)
    unfolding running_at number_at
    set_packed l x =
        let there : Placed (object t c n) l = right_placed t c l right (omega (arith, x.long)) n h in
        let v : ℕ = (object t c n).initial in
        record {
          long = pack_length (object t c n) v l there ∙ x.long;
          bytes = pack_bytes (object t c n) v l there x.bytes;
          running = ap value (pack_part (object t c n) v l there 0 1 (omega arith)) ∙ x.running;
          ipdus = λ k few.
              rw (ipdu_read (pack (object t c n) v l) l k (λ o w e. pack_part (object t c n) v l there (ipdu_row k + o) w (omega (arith, e, few, right.shape.ipdus))))
              (x.ipdus k few);
          objects = λ i few. rw (pack_row (object t c n) v l there i) (x.objects i few);
        }

    pub set_more : (d : Direction) → Set (suc n) (start_as d (object t c n) n (depths t c n) m)
    set_more Send =
        set_packed (with_object_state m n (unused 0 (object t c n).initial (depths t c n)))
        (set_row m 0 (omega arith) refl b.bytes (λ j w e. refl) (λ i. refl))
    set_more Receive = set_row m (object t c n).initial initial_fits refl b.bytes (λ j w e. refl) (λ i. refl)

  pub all_set : (n : ℕ) → n ≤ c.objects → Set n (fold n (start_object t c) (fold c.ipdus (start_ipdu t) blank))
  all_set zero h =
      let b = begun c.ipdus (omega arith) in
      record { long = b.long; bytes = b.bytes; running = b.running; ipdus = b.ipdus; objects = λ i e. absurd (not-suc-le-zero e) }
  all_set (suc n) h =
      set_more n h (fold n (start_object t c) (fold c.ipdus (start_ipdu t) blank)) (all_set n (omega (arith, h))) (object t c n).direction

  -- a start leaves every stored number in its range, before it notes that the layer runs too
  pub prepared_ready : Ready t c (prepared t c)
  unfolding prepared
  prepared_ready =
      let b = all_set c.objects (omega arith) in
      record {
        right = right;
        tables = bt;
        long = omega (arith, b.long);
        bytes = b.bytes;
        running = rw b.running;
        ipdus = b.ipdus;
        objects = b.objects;
      }
