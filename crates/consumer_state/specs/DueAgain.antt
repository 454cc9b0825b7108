-- When an acknowledgement makes a delivery due again, by JetStream's NAK and WPI.
use Rattle.std.specs.Prelude.{ℕ, Bool, ◌&&◌, ◌==◌, not, if◌then◌else◌, Option, Some, None}
use Rattle.std.specs.List.{list_any}
use Rattle.js_base.specs.Moments.{plus}
use Rattle.js_model.specs.declared.ack.AckKind.{AckKind}
use Rattle.js_model.specs.declared.ack.AckKind.TheVariants.{Ack as Acknowledge, Nak, Wpi, Next, Term}
use Rattle.js_model.specs.declared.consumer.Consumer.{Consumer}
use Rattle.js_model.specs.Acknowledge.{is_no_delivery}

-- the moment at which it makes a delivery due, if it makes one due
abbrev pub due_by : ℕ → AckKind → Consumer → Option ℕ
due_by now Acknowledge c = None
due_by now (Nak delay) c = Some (plus now delay)
due_by now Wpi c = Some (plus now c.config.ack_wait)
due_by now (Next ask) c = None
due_by now Term c = None

-- the delivery of the sequence waits, and is due at another moment
abbrev pub changes_due : ℕ → ℕ → Consumer → Bool
changes_due n due c = list_any (λ p. (p.seq == n) && not (p.due == due)) c.pending

-- the moment, if the delivery is due at another one
abbrev pub if_changed : ℕ → Option ℕ → Consumer → Option ℕ
if_changed n None c = None
if_changed n (Some due) c = if changes_due n due c then Some due else None

abbrev pub changed_due : ℕ → ℕ → AckKind → Consumer → Option ℕ
changed_due now n kind c = if is_no_delivery c n then None else if_changed n (due_by now kind c) c
