-- The next messages of several subjects, from which the messages of all of them are taken in the order of their sequences; this server's own.
use Rattle.std.specs.Prelude.{◌≡◌, ℕ, ◌+◌, ◌≤◌, ◌==◌, Bool, true, if◌then◌else◌, List, find, Option, Some, None, IfSome}
use Rattle.std.specs.Ordering.{nat_cmp}
use Rattle.std.specs.BTreeMap.{is_at}
use Rattle.std.specs.BTreeSet.{BTreeSet, contains}
use Rattle.js_base.specs.Bytes.{Bytes, same}
use Rattle.js_model.specs.declared.stream.Message.{Message}
use Rattle.js_model.specs.declared.stream.Stream.{Stream}
use Rattle.js_model.specs.Events.{message_at}
use Rattle.stored_stream.specs.Selecting.{next_passing}

-- the message of a sequence is this one
abbrev pub IsAt : List Message → ℕ → Message → Type 0
IsAt messages seq m = find (λ x. x.seq == seq) messages ≡ Some m

-- Of the subjects that pass the test, these are messages from a sequence on; and each of their messages from there on has one of its subject
-- among these that does not come after it.
pub record AreHeads (test : Bytes → Bool) (messages : List Message) (from : ℕ) (heads : BTreeSet ℕ) : Type 0 where
  pub each : (n : ℕ) → contains nat_cmp heads n ≡ true → (m : Message) × (IsAt messages n m) × (test m.subject ≡ true) × (from ≤ n)
  pub all : (m : Message) → IsAt messages m.seq m → test m.subject ≡ true → from ≤ m.seq
      → (head : Message) × (IsAt messages head.seq head) × (head.subject ≡ m.subject) × (head.seq ≤ m.seq) × (contains nat_cmp heads head.seq ≡ true)

-- the set with one number more, if there is one
abbrev pub IsWith : BTreeSet ℕ → Option ℕ → BTreeSet ℕ → Type 0
IsWith old None new = (n : ℕ) → contains nat_cmp new n ≡ contains nat_cmp old n
IsWith old (Some k) new = (n : ℕ) → contains nat_cmp new n ≡ (if is_at (nat_cmp k) n then true else contains nat_cmp old n)

-- the next message of the subject behind a message
abbrev pub next_after : List Message → Option Message → Option ℕ
next_after messages None = None
next_after messages (Some m) = next_passing (λ x. same x.subject m.subject) messages (m.seq + 1)

-- the next message of the subject behind the message of a sequence
abbrev pub following : Stream → ℕ → Option ℕ
following s seq = next_after s.messages (message_at s seq)

-- the first message from a sequence on whose subject passes the test was taken, and these are what stands behind it
pub record TakesHead (test : Bytes → Bool) (messages : List Message) (from : ℕ) (taken : Option ℕ) (heads : BTreeSet ℕ) : Type 0 where
  pub first : taken ≡ next_passing (λ m. test m.subject) messages from
  pub rest : IfSome taken (λ n. AreHeads test messages (n + 1) heads)
