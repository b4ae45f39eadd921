-- The tests of an I-PDU record, in the order of the code: what each says of `ipdu_right`. x, y and z are numbers that were read.
-- Assumes nothing.
use Rattle.std.proofs.Common.{true, false, not, ◌&&◌, ◌||◌, ⊎_elim, ◌≡◌, ◌∙◌, ℕ, ◌+◌, ◌*◌, ◌≤◌, ◌<◌, arith, eqb-true, leb-true, eq-eqb, ne_eqb, le-leb, leb, eqb}
use Rattle.memory.proofs.Tests.{and_split, or_cases, eq_or_ne, never_true}
use Rattle.table.specs.declared.IpduRecord.{IpduRecord}
use Rattle.table.specs.Records.{sending, receiving}
use Rattle.table.specs.Rules.{ipdu_right}
use Rattle.table.specs.Inner.{Begun}
use Rattle.table.proofs.Facts.{ipdu_facts, direction_known, SendFacts, send_facts, ReceiveFacts, receive_facts}

module _ (r : IpduRecord) where
  refused : (ipdu_right r ≡ true → ⊥) → false ≡ ipdu_right r
  refused = never_true (ipdu_right r)

  pub no_length : {x : ℕ} → x ≡ r.length → x < 1 → false ≡ ipdu_right r
  no_length e h = refused (λ f. omega (arith, (ipdu_facts r f).least))

  pub long : {x : ℕ} → x ≡ r.length → 8 < x → false ≡ ipdu_right r
  long e h = refused (λ f. omega (arith, (ipdu_facts r f).most))

  pub tail_some : {x : ℕ} → x ≡ r.zero_14 → (x ≡ 0 → ⊥) → false ≡ ipdu_right r
  tail_some e h = refused (λ f. h (e ∙ (ipdu_facts r f).tail))

  pub no_direction : {x : ℕ} → x ≡ r.direction → (x ≡ sending → ⊥) → (x ≡ receiving → ⊥) → false ≡ ipdu_right r
  no_direction e not-sent not-received =
      refused (λ f. ⊎_elim (λ one. not-sent (e ∙ one)) (λ two. not-received (e ∙ two)) (direction_known r f))

  -- ---- a send I-PDU

  module _ (b : Begun r sending) where
    sent : ipdu_right r ≡ true → SendFacts r
    sent f = send_facts r f b.same

    pub first_some : {x : ℕ} → x ≡ r.first_deadline → (x ≡ 0 → ⊥) → false ≡ ipdu_right r
    first_some e h = refused (λ f. h (e ∙ (sent f).first))

    pub no_deadline : {x : ℕ} → x ≡ r.deadline → x ≡ 0 → false ≡ ipdu_right r
    no_deadline e h = refused (λ f. omega (arith, (sent f).deadline))

    -- the mode, with the zero byte above it
    module _ {x y : ℕ} (first : x ≡ r.first_deadline) (no_first : x ≡ 0) (deadline : y ≡ r.deadline) (some : y ≡ 0 → ⊥)
        {z : ℕ} (mode : z ≡ r.mode + 256 * r.zero_3) where
      right : r.zero_3 ≡ 0 → r.mode ≤ 2
          → (eqb r.mode 0 && eqb r.period 0 && eqb r.offset 0 || leb 1 r.mode && leb 1 r.period && leb 1 r.offset) ≡ true
          → (not (eqb r.mode 1) || eqb r.minimum_delay 0) ≡ true → true ≡ ipdu_right r
      unfolding ipdu_right
      right zero modes times delays =
          rw (
            b.same,
            le-leb 1 r.length b.least,
            le-leb r.length 8 b.most,
            le-leb r.mode 2 modes,
            zero,
            b.tail,
            le-leb 1 r.deadline (omega arith),
            eq-eqb r.first_deadline 0 (omega arith),
            times,
            delays,
          )

      -- direct: no period and no offset
      pub direct : {w : ℕ} → z ≡ 0 → w ≡ r.period + 65536 * r.offset → eqb w 0 ≡ ipdu_right r
      direct {w} none times =
          ⊎_elim
          (λ (h : w ≡ 0).
          let zero : r.mode ≡ 0 = omega arith in
          rw (eq-eqb w 0 h)
          (right (omega arith) (omega arith)
          (rw (zero, eq-eqb r.period 0 (omega arith), eq-eqb r.offset 0 (omega arith)))
          (rw zero)))
          (λ (h : w ≡ 0 → ⊥).
          rw (ne_eqb w 0 h)
          (refused (λ f.
          let zero : r.mode ≡ 0 = omega arith in
          let none : (eqb r.period 0 && eqb r.offset 0 || false) ≡ true = rw zero at (sent f).times in
          ⊎_elim
          (λ both.
          let parts = and_split (eqb r.period 0) (eqb r.offset 0) both in
          h (omega (arith, eqb-true r.period 0 parts.0, eqb-true r.offset 0 parts.1)))
          (λ (wrong : false ≡ true). absurd (let y : ◌≡◌ {A = ℕ} 0 1 = cc in omega arith))
          (or_cases (eqb r.period 0 && eqb r.offset 0) false none))))
          (eq_or_ne w 0)

      module _ (other : z ≡ 0 → ⊥) where
        periods : ipdu_right r ≡ true → (1 ≤ r.period) × (1 ≤ r.offset)
        periods f =
            let some : r.mode ≡ 0 → ⊥ = λ e. other (omega (arith, (ipdu_facts r f).above_mode)) in
            let all : (leb 1 r.mode && leb 1 r.period && leb 1 r.offset) ≡ true = rw (ne_eqb r.mode 0 some) at (sent f).times in
            let parts = and_split (leb 1 r.mode && leb 1 r.period) (leb 1 r.offset) all in
            (leb-true 1 r.period (and_split (leb 1 r.mode) (leb 1 r.period) parts.0).1, leb-true 1 r.offset parts.1)

        pub no_period : {x : ℕ} → x ≡ r.period → x ≡ 0 → false ≡ ipdu_right r
        no_period e h = refused (λ f. omega (arith, (periods f).0))

        pub no_offset : {x : ℕ} → x ≡ r.offset → x ≡ 0 → false ≡ ipdu_right r
        no_offset e h = refused (λ f. omega (arith, (periods f).1))

        module _ {u v : ℕ} (period : u ≡ r.period) (some_period : u ≡ 0 → ⊥) (offset : v ≡ r.offset) (some_offset : v ≡ 0 → ⊥) where
          timed : r.zero_3 ≡ 0 → 1 ≤ r.mode → r.mode ≤ 2 → (not (eqb r.mode 1) || eqb r.minimum_delay 0) ≡ true → true ≡ ipdu_right r
          timed zero some few delays =
              right zero few
              (rw (ne_eqb r.mode 0 (omega arith), le-leb 1 r.mode some, le-leb 1 r.period (omega arith), le-leb 1 r.offset (omega arith)))
              delays

          pub mixed : z ≡ 2 → true ≡ ipdu_right r
          mixed two = timed (omega arith) (omega arith) (omega arith) (rw (ne_eqb r.mode 1 (omega arith)))

          pub no_mode : (z ≡ 2 → ⊥) → (z ≡ 1 → ⊥) → false ≡ ipdu_right r
          no_mode not-mixed not-periodic =
              refused (λ f. omega (arith, other, not-mixed, not-periodic, (ipdu_facts r f).modes, (ipdu_facts r f).above_mode))

          pub periodic : {w : ℕ} → z ≡ 1 → w ≡ r.minimum_delay → eqb w 0 ≡ ipdu_right r
          periodic {w} one delay =
              let own : r.mode ≡ 1 = omega arith in
              ⊎_elim
              (λ (h : w ≡ 0). rw (eq-eqb w 0 h) (timed (omega arith) (omega arith) (omega arith) (rw (own, eq-eqb r.minimum_delay 0 (omega arith)))))
              (λ (h : w ≡ 0 → ⊥).
              rw (ne_eqb w 0 h)
              (refused (λ f. let none : eqb r.minimum_delay 0 ≡ true = rw own at (sent f).delays in h (delay ∙ eqb-true _ _ none))))
              (eq_or_ne w 0)

  -- ---- a receive I-PDU

  module _ (b : Begun r receiving) {z : ℕ}
      (word : z ≡ r.mode + 256 * r.zero_3 + 65536 * r.period + 4294967296 * r.offset + 281474976710656 * r.minimum_delay) where
    got : ipdu_right r ≡ true → ReceiveFacts r
    got f = receive_facts r f b.same

    pub sending_some : (z ≡ 0 → ⊥) → false ≡ ipdu_right r
    sending_some some =
        refused (λ f.
        some (omega (arith, word, (ipdu_facts r f).above_mode, (got f).mode, (got f).period, (got f).offset, (got f).delay)))

    module _ (none : z ≡ 0) where
      right_received : (eqb r.first_deadline 0 || leb 1 r.deadline) ≡ true → true ≡ ipdu_right r
      unfolding ipdu_right
      right_received deadlines =
          let mode : r.mode ≡ 0 = omega arith in
          let zero : r.zero_3 ≡ 0 = omega arith in
          let period : r.period ≡ 0 = omega arith in
          let offset : r.offset ≡ 0 = omega arith in
          let delay : r.minimum_delay ≡ 0 = omega arith in
          rw (b.same, le-leb 1 r.length b.least, le-leb r.length 8 b.most, mode, zero, period, offset, delay, b.tail, deadlines)

      pub unwatched : {x : ℕ} → x ≡ r.first_deadline → x ≡ 0 → true ≡ ipdu_right r
      unwatched e h = right_received (rw (eq-eqb r.first_deadline 0 (omega arith)))

      pub watched : {x y : ℕ} → x ≡ r.first_deadline → (x ≡ 0 → ⊥) → y ≡ r.deadline → not (eqb y 0) ≡ ipdu_right r
      watched {x} {y} first some deadline =
          let other : eqb r.first_deadline 0 ≡ false = ne_eqb _ 0 (λ e. some (first ∙ e)) in
          ⊎_elim
          (λ (h : y ≡ 0).
          rw (eq-eqb y 0 h)
          (refused (λ f.
          let least : leb 1 r.deadline ≡ true = rw other at (got f).deadlines in
          omega (arith, leb-true 1 r.deadline least))))
          (λ (h : y ≡ 0 → ⊥). rw (ne_eqb y 0 h) (right_received (rw (other, le-leb 1 r.deadline (omega (arith, h))))))
          (eq_or_ne y 0)
