-- Tick: the book of demand 3 does not see it, and each I-PDU that its word names was handed over as it stands in working memory.
-- Assumes nothing.
use Rattle.std.proofs.Common.{Bool, List, ◌≡◌, refl, ap, subst, ◌∙◌, ℕ, zero, suc, ◌+◌, ◌^◌, ◌≤◌, ◌<◌, arith, length}
use Rattle.memory.specs.Search.{pick}
use Rattle.table.specs.declared.Counts.{Counts}
use Rattle.config.specs.declared.Direction.{Direction}
use Rattle.config.specs.declared.Direction.TheVariants.{Send, Receive}
use Rattle.state.specs.declared.IpduState.{IpduState}
use Rattle.state.specs.Layout.{ipdu_state, with_ipdu_state, area_size}
use Rattle.state.specs.Ranges.{Ready}
use Rattle.message.specs.Objects.{mark_send_error, mark_receive_error}
use Rattle.delivery.specs.Delivery.{mark_objects}
use Rattle.transmission.specs.Requests.{ipdu, after_request}
use Rattle.timing.specs.Ticks.{tick_delay, deadline_expires, tick_deadline, tick_period, timer_expires, tick_timer}
use Rattle.calls.specs.Answers.{done_with}
use Rattle.calls.specs.Answers.{Outcome, value_of}
use Rattle.calls.specs.Tick.{TickResult, tick_as, tick_ipdu, tick_turn, ticks, tick_in}
use Rattle.calls.proofs.Records.{sends_one}
use Rattle.calls.proofs.Ticks.{tick_word, word_more}
use Rattle.calls.proofs.ReadyKept.{ready_due, ready_ticks}
use Rattle.trace.specs.Demand3.{Names}
use Rattle.trace.proofs.BookUnchanged.{BookUnchanged, unchanged_refl, unchanged_then, unchanged_ipdu, unchanged_pick, unchanged_mark}
use Rattle.trace.proofs.FramesInArea.{FramesInArea, in_area_none, in_area_same, Tried, quiet, tried_cases, tried_from, in_area_more}

module _ (t : List ℕ) (c : Counts) where
  -- ---- one I-PDU

  -- what one I-PDU's tick does: nothing that the book sees, and perhaps a request
  record Turn (k : ℕ) (area m : List ℕ) (o : Outcome) : Type 0 where
    unseen : BookUnchanged t c m o.memory
    offer : Tried t c k area m o

  module _ (k : ℕ) (h : k < c.ipdus) (area m : List ℕ) (ready : Ready t c m) where
    -- marks on its objects, where a time has run out, and its row
    due : (b : Bool) (mark : ℕ) → mark ≤ 15 → BookUnchanged t c m (pick b (mark_objects t c k mark m) m)
    due b mark few = unchanged_pick t c b m (mark_objects t c k mark m) (λ e. unchanged_mark t c k mark few m ready)

    due_row : (b : Bool) (mark : ℕ) → mark ≤ 15 → (s : IpduState) → BookUnchanged t c m (with_ipdu_state (pick b (mark_objects t c k mark m) m) k s)
    due_row b mark few s =
        let n = pick b (mark_objects t c k mark m) m in
        unchanged_then t c m n (with_ipdu_state n k s) (due b mark few) (unchanged_ipdu t c n (ready_due t c b k mark few m ready) k h s)

    turn_as : (d : Direction) → (ipdu t k).direction ≡ d → Turn k area m (tick_as d t c k area m)
    turn_as Send d =
        let p = ipdu t k in
        let s = tick_delay (ipdu_state m k) in
        let next = tick_period p (tick_deadline s) in
        let one = sends_one t k d in
        record {
          unseen = due_row (deadline_expires s) mark_send_error (omega arith) (after_request p next);
          offer =
              tried_cases t c ready.right k h one next area (pick (deadline_expires s) (mark_objects t c k mark_send_error m) m) m
              ((due (deadline_expires s) mark_send_error (omega arith)).slot k h one);
        }
    turn_as Receive d =
        record {
          unseen = due_row (timer_expires (ipdu_state m k)) mark_receive_error (omega arith) (tick_timer (ipdu t k) (ipdu_state m k));
          offer = quiet refl refl;
        }

  turn : (k : ℕ) → k < c.ipdus → (area m : List ℕ) → Ready t c m → Turn k area m (tick_ipdu t c k area m)
  unfolding tick_ipdu
  turn k h area m ready = turn_as k h area m ready (ipdu t k).direction refl

  -- ---- the I-PDUs so far

  module _ (area m : List ℕ) (ready : Ready t c m) (fits : area_size ≤ length area) where
    record Turned (n : ℕ) (a : TickResult) : Type 0 where
      unseen : BookUnchanged t c m a.memory
      low : a.word < 2 ^ n
      long : area_size ≤ length a.area
      below : (k : ℕ) → Names a.word k → k < n
      hands : FramesInArea t c a.word a.area m

    turned_next : (n : ℕ) → n < c.ipdus → (a : TickResult) → Ready t c a.memory → Turned n a → Turned (suc n) (tick_turn t c n a)
    turned_next n h a r x =
        let y = turn n h a.area a.memory r in
        let z =
        in_area_more t c ready.right n a.word h a.area m x.long ready.long x.low x.below x.hands (tick_ipdu t c n a.area a.memory)
        (tried_from t c ready.right n h a.area a.memory m (tick_ipdu t c n a.area a.memory) (x.unseen.slot n h) y.offer) in
        record {
          unseen = unchanged_then t c m a.memory (tick_ipdu t c n a.area a.memory).memory x.unseen y.unseen;
          low =
              subst (λ (j : ℕ). a.word + value_of (tick_ipdu t c n a.area a.memory).answer < 2 ^ j) next
              (word_more n a.word (value_of (tick_ipdu t c n a.area a.memory).answer) x.low (tick_word t c n a.area a.memory));
          long = z.long;
          below = z.below;
          hands = z.hands;
        }
      where
        next : n + 1 ≡ suc n
        next = omega arith

    turned : (n : ℕ) → n ≤ c.ipdus → Turned n (ticks t c n area m)
    turned zero h =
        record {
          unseen = unchanged_refl t c m;
          low = omega arith;
          long = fits;
          below = λ k e. absurd (in_area_none k e);
          hands = record { named = λ k e. absurd (in_area_none k e); slot = λ k e. absurd (in_area_none k e) };
        }
    turned (suc n) h = turned_next n h (ticks t c n area m) (ready_ticks t c n (omega (arith, h)) area m ready) (turned n (omega (arith, h)))

    pub unchanged_tick : BookUnchanged t c m (tick_in t c area m).memory
    unfolding tick_in
    unchanged_tick = (turned c.ipdus (omega arith)).unseen

    pub tick_in_area : FramesInArea t c (value_of (tick_in t c area m).answer) (tick_in t c area m).area (tick_in t c area m).memory
    unfolding tick_in
    tick_in_area =
        let x = turned c.ipdus (omega arith) in
        in_area_same t c _ _ m _ ready.right x.hands x.unseen.slot

  -- ---- what a tick answers and leaves in working memory does not depend on what the area held

  as_area : (d : Direction) (k : ℕ) (area other m : List ℕ) → ((tick_as d t c k area m).answer ≡ (tick_as d t c k other m).answer)
      × ((tick_as d t c k area m).memory ≡ (tick_as d t c k other m).memory)
  as_area Send k area other m = (refl, refl)
  as_area Receive k area other m = (refl, refl)

  ipdu_area : (k : ℕ) (area other m : List ℕ) → ((tick_ipdu t c k area m).answer ≡ (tick_ipdu t c k other m).answer)
      × ((tick_ipdu t c k area m).memory ≡ (tick_ipdu t c k other m).memory)
  unfolding tick_ipdu
  ipdu_area k area other m = as_area (ipdu t k).direction k area other m

  module _ (area other m : List ℕ) where
    turns_area : (n : ℕ) → ((ticks t c n area m).word ≡ (ticks t c n other m).word) × ((ticks t c n area m).memory ≡ (ticks t c n other m).memory)
    turns_area zero = (refl, refl)
    turns_area (suc n) =
        let e = turns_area n in
        let same = ipdu_area n (ticks t c n area m).area (ticks t c n other m).area (ticks t c n area m).memory in
        let o : List ℕ → Outcome = tick_ipdu t c n (ticks t c n other m).area in
        (sum e.0 (ap value_of same.0 ∙ ap (λ (l : List ℕ). value_of (o l).answer) e.1), same.1 ∙ ap (λ (l : List ℕ). (o l).memory) e.1)
      where
        sum : {a b x y : ℕ} → a ≡ b → x ≡ y → a + x ≡ b + y
        sum p q = rw (p, q)

    pub tick_area : ((tick_in t c area m).answer ≡ (tick_in t c other m).answer) × ((tick_in t c area m).memory ≡ (tick_in t c other m).memory)
    unfolding tick_in
    tick_area = let e = turns_area c.ipdus in (ap done_with e.0, e.1)
