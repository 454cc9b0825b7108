-- Worked rows of acknowledgements: what NXT asks for, what TERM ends, and those that do nothing.
use Rattle.std.specs.Prelude.{ℕ, ◌≡◌, false, List, [], ◌∷◌, Some, None, codes, refl, map}
use Rattle.std.specs.Fmt.{digits}
use Rattle.std.proofs.Common.{lit<}
use Rattle.js_base.specs.Bytes.{Bytes}
use Rattle.js_model.specs.declared.stream_config.Retention.TheVariants.{WorkQueue}
use Rattle.js_model.specs.declared.consumer_config.AckPolicy.TheVariants.{None as NoAck, All as AckAll}
use Rattle.js_model.specs.declared.consumer_config.DeliverPolicy.TheVariants.{LastPerSubject}
use Rattle.js_model.specs.declared.stream.State.{State}
use Rattle.js_model.specs.declared.consumer.Pull.{Pull}
use Rattle.js_model.specs.declared.ack.AckKind.{AckKind}
use Rattle.js_model.specs.declared.ack.AckKind.TheVariants.{Ack as Acknowledge, Nak, Wpi, Next, Term}
use Rattle.js_model.specs.declared.entry.Delivered.TheVariants.{Sent}
use Rattle.js_model.specs.declared.event.What.{What}
use Rattle.js_model.specs.declared.event.What.TheVariants.{Ack as AckIt, Tick}
use Rattle.js_model.specs.declared.reply.Reply.TheVariants.{Confirmed, Silent}
use Rattle.js_model.specs.Advance.{advance, advance_outs}
use Rattle.js_model.specs.Retention.{kept}
use Rattle.js_model.specs.Trim.{trim}
use Rattle.js_model.specs.Verdict.{verdict}
use Rattle.js_model.specs.Events.{answered}
use Rattle.js_model.specs.Deliver.{candidates, IsDelivered}
use Rattle.js_model.proofs.Samples.{t0, orders, worker, make, hello, say, make_consumer, ask_of, pull, ack, after, state_after, reply_to, outs_to, seqs_in, consumers_in, pulls_in, message, to_worker, delivered}

-- the sequences that wait for an acknowledgement, of each consumer
abbrev pending_in : State → List (List ℕ)
pending_in s = map (λ c. map (λ p. p.seq) c.pending) (consumers_in s)

abbrev given_up_in : State → List (List ℕ)
given_up_in s = map (λ c. c.given_up) (consumers_in s)

-- a pull of one message, asked for at t0
abbrev one_for : Bytes → Pull
one_for reply = record { reply = reply; batch = 1; bytes = None; end = None; no_wait = false; heartbeat = 0; mark = t0 }

-- an acknowledgement without a reply subject
abbrev unanswered : ℕ → AckKind → What
unanswered seq kind = AckIt None (record { stream = codes "ORDERS"; consumer = codes "W"; seq = seq; kind = kind })

-- ---- NXT

-- two messages, of which the first was sent for a pull of one
abbrev one_sent : State
one_sent = delivered (state_after ((make orders, t0) ∷ (make_consumer worker, t0) ∷ (say (codes "a"), t0) ∷ (say (codes "b"), t0) ∷ (pull (ask_of 1), t0) ∷ [])) t0

-- before it one entry is pending and no pull waits
before_next : pending_in one_sent ≡ (1 ∷ []) ∷ []
unfolding answered advance advance_outs kept trim verdict candidates
before_next = refl

no_pull_waits : pulls_in one_sent ≡ [] ∷ []
unfolding answered advance advance_outs kept trim verdict candidates
no_pull_waits = refl

-- it ends the entry, and its pull waits with the reply subject of the acknowledgement
next_ends : pending_in (after one_sent (ack 1 (Next (ask_of 1)), t0)) ≡ [] ∷ []
unfolding answered advance advance_outs kept trim verdict candidates
next_ends = refl

next_pulls : pulls_in (after one_sent (ack 1 (Next (ask_of 1)), t0)) ≡ (one_for (codes "_I.1") ∷ []) ∷ []
unfolding answered advance advance_outs kept trim verdict candidates
next_pulls = refl

-- it is not confirmed, and sends nothing itself
next_is_silent : reply_to one_sent (ack 1 (Next (ask_of 1))) t0 ≡ Silent
unfolding answered advance advance_outs kept trim verdict candidates
next_is_silent = refl

next_sends_nothing : outs_to one_sent (ack 1 (Next (ask_of 1))) t0 ≡ []
unfolding answered advance advance_outs kept trim verdict candidates
next_sends_nothing = refl

-- the second message then goes to that reply subject
next_is_served : (new : State) × IsDelivered (after one_sent (ack 1 (Next (ask_of 1)), t0)) t0 [] (to_worker (Sent 2 1 2))
    (record { to = codes "_I.1"; subject = codes "orders.a"; reply = Some (codes "$JS.ACK.ORDERS.W.1.2.2.1700000000000000000.0"); headers = []; payload = codes "b" } ∷ []) new
unfolding answered advance advance_outs kept trim verdict candidates digits
next_is_served = (
  _,
  record {
    consumer = _;
    after = _;
    own = _;
    found = refl;
    delivers = record {
      message = message 2 t0 (codes "b");
      candidate = (0, lit< tt, refl);
      seq_is = refl;
      wanted = refl;
      count_is = refl;
      dseq_is = refl;
      after_is = refl;
      outs_are = refl;
    };
    outs_are = refl;
    new_is = refl;
  },
)

-- without a reply subject it ends the entry, and nothing is pulled
next_without_reply : pending_in (after one_sent (unanswered 1 (Next (ask_of 1)), t0)) ≡ [] ∷ []
unfolding answered advance advance_outs kept trim verdict candidates
next_without_reply = refl

next_nowhere : pulls_in (after one_sent (unanswered 1 (Next (ask_of 1)), t0)) ≡ [] ∷ []
unfolding answered advance advance_outs kept trim verdict candidates
next_nowhere = refl

-- of a sequence that was not sent yet, and of 0, it does nothing: no entry ends, no pull waits
next_of_unsent : after one_sent (ack 2 (Next (ask_of 1)), t0) ≡ one_sent
unfolding answered advance advance_outs kept trim verdict candidates
next_of_unsent = refl

next_of_unsent_is_silent : reply_to one_sent (ack 2 (Next (ask_of 1))) t0 ≡ Silent
unfolding answered advance advance_outs kept trim verdict candidates
next_of_unsent_is_silent = refl

next_of_unsent_sends_nothing : outs_to one_sent (ack 2 (Next (ask_of 1))) t0 ≡ []
unfolding answered advance advance_outs kept trim verdict candidates
next_of_unsent_sends_nothing = refl

next_of_zero : after one_sent (ack 0 (Next (ask_of 1)), t0) ≡ one_sent
unfolding answered advance advance_outs kept trim verdict candidates
next_of_zero = refl

-- of a sequence that is still picked out, below the cursor, it does nothing either
abbrev picking : State
picking = state_after ((make orders, t0) ∷ (hello, t0) ∷ (make_consumer (record worker { deliver_policy = LastPerSubject }), t0) ∷ [])

next_of_pick : after picking (ack 1 (Next (ask_of 1)), t0) ≡ picking
unfolding answered advance advance_outs kept trim verdict candidates
next_of_pick = refl

-- ---- TERM

-- three messages that were sent, to a consumer whose policy is `all`
abbrev three_sent : State
three_sent = delivered (delivered (delivered (state_after ((make orders, t0) ∷ (make_consumer (record worker { ack_policy = AckAll }), t0) ∷ (say (codes "a"), t0) ∷ (say (codes "b"), t0) ∷ (say (codes "c"), t0) ∷ (pull (ask_of 3), t0) ∷ [])) t0) t0) t0

before_term : pending_in three_sent ≡ (1 ∷ 2 ∷ 3 ∷ []) ∷ []
unfolding answered advance advance_outs kept trim verdict candidates
before_term = refl

-- TERM of the second ends that entry alone, and is confirmed
term_ends_one : pending_in (after three_sent (ack 2 Term, t0)) ≡ (1 ∷ 3 ∷ []) ∷ []
unfolding answered advance advance_outs kept trim verdict candidates
term_ends_one = refl

term_is_confirmed : reply_to three_sent (ack 2 Term) t0 ≡ Confirmed
unfolding answered advance advance_outs kept trim verdict candidates
term_is_confirmed = refl

-- ACK ends the two up to it, and so does NXT
ack_ends_two : pending_in (after three_sent (ack 2 Acknowledge, t0)) ≡ (3 ∷ []) ∷ []
unfolding answered advance advance_outs kept trim verdict candidates
ack_ends_two = refl

next_ends_two : pending_in (after three_sent (ack 2 (Next (ask_of 1)), t0)) ≡ (3 ∷ []) ∷ []
unfolding answered advance advance_outs kept trim verdict candidates
next_ends_two = refl

-- a second TERM of the same sequence changes nothing, and is confirmed
term_again : reply_to (after three_sent (ack 2 Term, t0)) (ack 2 Term) t0 ≡ Confirmed
unfolding answered advance advance_outs kept trim verdict candidates
term_again = refl

term_again_leaves : pending_in (after (after three_sent (ack 2 Term, t0)) (ack 2 Term, t0)) ≡ (1 ∷ 3 ∷ []) ∷ []
unfolding answered advance advance_outs kept trim verdict candidates
term_again_leaves = refl

-- ---- an entry that was given up

-- a message of a work queue that was sent as often as it may be, and not acknowledged
abbrev spent : State
spent = after (delivered (state_after ((make (record orders { retention = WorkQueue }), t0) ∷ (make_consumer (record worker { max_deliver = Some 1 }), t0) ∷ (hello, t0) ∷ (pull (ask_of 1), t0) ∷ [])) t0) (Tick, 1700000030000000000)

before_end : given_up_in spent ≡ (1 ∷ []) ∷ []
unfolding answered advance advance_outs kept trim verdict candidates
before_end = refl

-- NAK and WPI leave it given up
nak_leaves : given_up_in (after spent (ack 1 (Nak 0), 1700000030000000000)) ≡ (1 ∷ []) ∷ []
unfolding answered advance advance_outs kept trim verdict candidates
nak_leaves = refl

wpi_leaves : given_up_in (after spent (ack 1 Wpi, 1700000030000000000)) ≡ (1 ∷ []) ∷ []
unfolding answered advance advance_outs kept trim verdict candidates
wpi_leaves = refl

-- TERM ends it, and the work queue lets its message go
term_ends_given_up : given_up_in (after spent (ack 1 Term, 1700000030000000000)) ≡ [] ∷ []
unfolding answered advance advance_outs kept trim verdict candidates
term_ends_given_up = refl

term_lets_go : seqs_in (after spent (ack 1 Term, 1700000030000000000)) ≡ []
unfolding answered advance advance_outs kept trim verdict candidates
term_lets_go = refl

-- ---- policy `none`

-- a message that was sent to a consumer whose deliveries are not acknowledged
abbrev unacknowledged : State
unacknowledged = delivered (state_after ((make orders, t0) ∷ (make_consumer (record worker { ack_policy = NoAck }), t0) ∷ (hello, t0) ∷ (pull (ask_of 1), t0) ∷ [])) t0

nothing_pending : pending_in unacknowledged ≡ [] ∷ []
unfolding answered advance advance_outs kept trim verdict candidates
nothing_pending = refl

-- an acknowledgement of each kind is not answered
abbrev kinds : List AckKind
kinds = Acknowledge ∷ Nak 0 ∷ Wpi ∷ Next (ask_of 1) ∷ Term ∷ []

no_reply : map (λ kind. reply_to unacknowledged (ack 1 kind) t0) kinds ≡ Silent ∷ Silent ∷ Silent ∷ Silent ∷ Silent ∷ []
unfolding answered advance advance_outs kept trim verdict candidates
no_reply = refl

-- it sends nothing
no_outs : map (λ kind. outs_to unacknowledged (ack 1 kind) t0) kinds ≡ [] ∷ [] ∷ [] ∷ [] ∷ [] ∷ []
unfolding answered advance advance_outs kept trim verdict candidates
no_outs = refl

-- and it changes nothing: no pull waits after NXT
no_change : map (λ kind. after unacknowledged (ack 1 kind, t0)) kinds
    ≡ unacknowledged ∷ unacknowledged ∷ unacknowledged ∷ unacknowledged ∷ unacknowledged ∷ []
unfolding answered advance advance_outs kept trim verdict candidates
no_change = refl
