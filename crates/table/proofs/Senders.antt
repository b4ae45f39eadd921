-- In a right table a send object has no sending object, and an object that has one is received.
-- Assumes nothing.
use Rattle.std.proofs.Common.{List, ◌⊎◌, ⊎_elim, ◌≡◌, ℕ, ◌<◌, arith}
use Rattle.table.specs.declared.Counts.{Counts}
use Rattle.table.specs.Records.{receiving, sending, object_record}
use Rattle.table.specs.Rules.{references}
use Rattle.table.specs.Check.{Right}
use Rattle.table.proofs.Facts.{Sent, Received, kind_facts}

module _ (t : List ℕ) (c : Counts) (right : Right t c) (i : ℕ) (h : i < c.objects) where
  kinds : Sent (object_record t c.ipdus i) ⊎ Received (object_record t c.ipdus i)
  kinds = kind_facts (object_record t c.ipdus i) (references t c (object_record t c.ipdus i)) (right.objects i h)

  pub send_no_sender : (object_record t c.ipdus i).kind ≡ sending → (object_record t c.ipdus i).sender ≡ 255
  send_no_sender one =
      ⊎_elim
      (λ (s : Sent (object_record t c.ipdus i)). s.sender)
      (λ (s : Received (object_record t c.ipdus i)). absurd (omega (arith, one, s.kind)))
      kinds

  pub sender_received : (object_record t c.ipdus i).sender < 255 → (object_record t c.ipdus i).kind ≡ receiving
  sender_received low =
      ⊎_elim
      (λ (s : Sent (object_record t c.ipdus i)). absurd (omega (arith, low, s.sender)))
      (λ (s : Received (object_record t c.ipdus i)). s.kind)
      kinds
