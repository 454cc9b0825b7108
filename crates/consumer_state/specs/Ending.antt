-- What an acknowledgement does to its consumer, in two steps, by JetStream's acknowledgement kinds and ack policies: first all but the ending of entries,
-- then these end, one by one.
use Rattle.std.specs.Prelude.{◌≡◌, ℕ, ◌<◌, ◌+◌, ◌==◌, Bool, true, false, ◌&&◌, ◌||◌, not, if◌then◌else◌, List, [], Option, Some, None, length}
use Rattle.js_base.specs.Bytes.{Bytes, has}
use Rattle.js_base.specs.Moments.{plus}
use Rattle.js_base.specs.declared.out.Out.{Out}
use Rattle.js_model.specs.declared.ack.AckKind.{AckKind}
use Rattle.js_model.specs.declared.ack.AckKind.TheVariants.{Ack as Acknowledge, Nak, Wpi, Next, Term}
use Rattle.js_model.specs.declared.consumer_config.AckPolicy.{AckPolicy}
use Rattle.js_model.specs.declared.consumer.Consumer.{Consumer}
use Rattle.js_model.specs.declared.reply.Reply.{Reply}
use Rattle.js_model.specs.declared.reply.Reply.TheVariants.{Silent}
use Rattle.js_model.specs.Streams.{pending_seqs}
use Rattle.js_model.specs.Acknowledge.{ends, without, with_due, is_no_delivery}
use Rattle.js_model.specs.Events.{ack_reply, next_ask, pulled_next, next_outs, after_ack}

-- the consumer with the due time that the acknowledgement sets
abbrev pub delayed : ℕ → ℕ → AckKind → Consumer → Consumer
delayed now n Acknowledge c = c
delayed now n (Nak delay) c = with_due n (plus now delay) c
delayed now n Wpi c = with_due n (plus now c.config.ack_wait) c
delayed now n (Next ask) c = c
delayed now n Term c = c

-- an acknowledgement of the sequence n ends the entry m
abbrev pub kind_ends : AckPolicy → ℕ → AckKind → ℕ → Bool
kind_ends policy n Acknowledge m = ends policy n m
kind_ends policy n (Nak delay) m = false
kind_ends policy n Wpi m = false
kind_ends policy n (Next ask) m = ends policy n m
kind_ends policy n Term m = m == n

-- it does so, unless the sequence is none that was delivered
abbrev pub ack_ends : Consumer → ℕ → AckKind → ℕ → Bool
ack_ends c n kind m = not (is_no_delivery c n) && kind_ends c.config.ack_policy n kind m

-- ---- the first step

abbrev pub reply_to : Consumer → ℕ → AckKind → Reply
reply_to c n kind = if is_no_delivery c n then Silent else ack_reply kind

abbrev pub outs_to : Option Bytes → ℕ → AckKind → Consumer → List Out
outs_to reply n kind c = if is_no_delivery c n then [] else next_outs reply (next_ask kind) c

-- of a sequence that was delivered
abbrev pub begun : ℕ → Option Bytes → ℕ → AckKind → Consumer → Consumer
begun now reply n kind c = pulled_next now reply (next_ask kind) (delayed now n kind c)

abbrev pub before_ending : ℕ → Option Bytes → ℕ → AckKind → Consumer → Consumer
before_ending now reply n kind c = if is_no_delivery c n then c else begun now reply n kind c

-- ---- the second step

-- the delivery of the sequence waits, or it is given up
abbrev pub is_delivered : Consumer → ℕ → Bool
is_delivered c n = has (pending_seqs c) n || has c.given_up n

abbrev pub entries : Consumer → ℕ
entries c = length c.pending + length c.given_up

-- one of the entries that end is ended
pub record EndsOne (ends : ℕ → Bool) (old : Consumer) (m : ℕ) (new : Consumer) : Type 0 where
  pub is : ends m ≡ true
  pub was : is_delivered old m ≡ true
  pub left : new ≡ without (λ k. k == m) old
  pub fewer : entries new < entries old

-- none is left
pub record EndsNone (ends : ℕ → Bool) (old new : Consumer) : Type 0 where
  pub none : without ends old ≡ old
  pub same : new ≡ old

abbrev pub EndsBy : (ℕ → Bool) → Consumer → Option ℕ → Consumer → Type 0
EndsBy ends old None new = EndsNone ends old new
EndsBy ends old (Some m) new = EndsOne ends old m new

abbrev pub EndsNext : ℕ → AckKind → Consumer → Option ℕ → Consumer → Type 0
EndsNext n kind old m new = EndsBy (ack_ends old n kind) old m new

-- ---- both

-- what is left after both steps is what the acknowledgement leaves
abbrev pub LawAcknowledged : Type 0
LawAcknowledged = (now : ℕ) (reply : Option Bytes) (n : ℕ) (kind : AckKind) (c : Consumer) → is_no_delivery c n ≡ false
    → without (ack_ends c n kind) (before_ending now reply n kind c) ≡ after_ack now reply n kind c

-- the first step changes nothing of what ends
abbrev pub LawBeforeEnding : Type 0
LawBeforeEnding = (now : ℕ) (reply : Option Bytes) (n : ℕ) (kind : AckKind) (c : Consumer) (m : ℕ)
    → ack_ends (before_ending now reply n kind c) n kind m ≡ ack_ends c n kind m

-- ending one entry does not change what is left once all have ended
abbrev pub LawEndsOne : Type 0
LawEndsOne = (n : ℕ) (kind : AckKind) (old new : Consumer) (m : ℕ) → EndsOne (ack_ends old n kind) old m new
    → without (ack_ends new n kind) new ≡ without (ack_ends old n kind) old
