-- Worked rows of pulls: the three that are refused, those that nobody answers, and what is asked for.
use Rattle.std.specs.Prelude.{◌≡◌, true, false, [], ◌∷◌, Option, Some, None, codes, refl, map}
use Rattle.std.specs.Fmt.{digits}
use Rattle.js_model.specs.declared.consumer_config.ConsumerConfig.{ConsumerConfig}
use Rattle.js_model.specs.declared.stream.State.{State}
use Rattle.js_model.specs.declared.ack.Ask.{Ask}
use Rattle.js_model.specs.declared.ack.AckKind.TheVariants.{Next}
use Rattle.js_model.specs.declared.event.What.{What}
use Rattle.js_model.specs.declared.event.What.TheVariants.{Pull as PullIt}
use Rattle.js_model.specs.declared.reply.Reply.TheVariants.{Silent, Nobody}
use Rattle.js_model.specs.Advance.{advance, advance_outs}
use Rattle.js_model.specs.Retention.{kept}
use Rattle.js_model.specs.Trim.{trim}
use Rattle.js_model.specs.Verdict.{verdict}
use Rattle.js_model.specs.Deliver.{candidates}
use Rattle.js_model.specs.Events.{answered}
use Rattle.js_model.proofs.Samples.{t0, orders, worker, make, hello, make_consumer, ask_of, pull, ack, after, state_after, reply_to, outs_to, pulls_in, status_to, delivered}

-- a pull to `_P` of no known form
abbrev bad_pull : What
bad_pull = PullIt (Some (codes "_P")) (codes "W") None

-- a pull without a reply subject
abbrev pull_nowhere : Option Ask → What
pull_nowhere ask = PullIt None (codes "W") ask

abbrev with_worker : ConsumerConfig → State
with_worker config = state_after ((make orders, t0) ∷ (make_consumer config, t0) ∷ [])

-- ---- one that is taken

-- a second after its asking ends a pull of three messages and 100 bytes, with a heartbeat
abbrev careful : Ask
careful = record { batch = 3; expires = 1000000000; no_wait = false; max_bytes = Some 100; heartbeat = 500000000 }

taken : pulls_in (after (with_worker worker) (pull careful, t0))
    ≡ (record { reply = codes "_P"; batch = 3; bytes = Some 100; end = Some 1700000001000000000; no_wait = false; heartbeat = 500000000; mark = t0 } ∷ []) ∷ []
unfolding answered advance advance_outs kept trim verdict
taken = refl

-- one that does not wait has no end
taken_at_once : pulls_in (after (with_worker worker) (pull (record careful { no_wait = true }), t0))
    ≡ (record { reply = codes "_P"; batch = 3; bytes = Some 100; end = None; no_wait = true; heartbeat = 500000000; mark = t0 } ∷ []) ∷ []
unfolding answered advance advance_outs kept trim verdict
taken_at_once = refl

-- a pull that is taken is not answered, and nothing is sent at once, even if a message waits
taken_is_silent : reply_to (after (with_worker worker) (hello, t0)) (pull (ask_of 1)) t0 ≡ Silent
unfolding answered advance advance_outs kept trim verdict
taken_is_silent = refl

taken_sends_nothing : outs_to (after (with_worker worker) (hello, t0)) (pull (ask_of 1)) t0 ≡ []
unfolding answered advance advance_outs kept trim verdict
taken_sends_nothing = refl

-- ---- to a push consumer

abbrev pushing : State
pushing = with_worker (record worker { deliver_subject = codes "D" })

to_push : outs_to pushing (pull (ask_of 1)) t0 ≡ status_to (codes "NATS/1.0 409 Consumer is push based\r\n\r\n") ∷ []
unfolding answered advance advance_outs kept trim verdict digits
to_push = refl

to_push_is_silent : reply_to pushing (pull (ask_of 1)) t0 ≡ Silent
unfolding answered advance advance_outs kept trim verdict
to_push_is_silent = refl

to_push_leaves : after pushing (pull (ask_of 1), t0) ≡ pushing
unfolding answered advance advance_outs kept trim verdict
to_push_leaves = refl

-- the same if its body is of no form
bad_to_push : outs_to pushing bad_pull t0 ≡ status_to (codes "NATS/1.0 409 Consumer is push based\r\n\r\n") ∷ []
unfolding answered advance advance_outs kept trim verdict digits
bad_to_push = refl

-- and if an acknowledgement asks for it
next_of_push : outs_to (delivered (after pushing (hello, t0)) t0) (ack 1 (Next (ask_of 1))) t0
    ≡ record { to = codes "_I.1"; subject = codes "_I.1"; reply = None; headers = codes "NATS/1.0 409 Consumer is push based\r\n\r\n"; payload = [] } ∷ []
unfolding answered advance advance_outs kept trim verdict candidates digits
next_of_push = refl

-- ---- of no form

bad_body : outs_to (with_worker worker) bad_pull t0 ≡ status_to (codes "NATS/1.0 400 Bad Request\r\n\r\n") ∷ []
unfolding answered advance advance_outs kept trim verdict digits
bad_body = refl

bad_body_is_silent : reply_to (with_worker worker) bad_pull t0 ≡ Silent
unfolding answered advance advance_outs kept trim verdict
bad_body_is_silent = refl

bad_body_leaves : after (with_worker worker) (bad_pull, t0) ≡ with_worker worker
unfolding answered advance advance_outs kept trim verdict
bad_body_leaves = refl

-- ---- past max_waiting

-- one pull may wait, and does
abbrev full : State
full = after (with_worker (record worker { max_waiting = 1 })) (pull (ask_of 1), t0)

too_many : outs_to full (pull (ask_of 1)) t0 ≡ status_to (codes "NATS/1.0 409 Exceeded MaxWaiting\r\n\r\n") ∷ []
unfolding answered advance advance_outs kept trim verdict digits
too_many = refl

too_many_is_silent : reply_to full (pull (ask_of 1)) t0 ≡ Silent
unfolding answered advance advance_outs kept trim verdict
too_many_is_silent = refl

too_many_leaves : after full (pull (ask_of 1), t0) ≡ full
unfolding answered advance advance_outs kept trim verdict
too_many_leaves = refl

-- a body of no form is told first
bad_before_too_many : outs_to full bad_pull t0 ≡ status_to (codes "NATS/1.0 400 Bad Request\r\n\r\n") ∷ []
unfolding answered advance advance_outs kept trim verdict digits
bad_before_too_many = refl

-- one below the limit is taken
one_below : map (λ waiting. map (λ p. p.batch) waiting) (pulls_in (after (after (with_worker (record worker { max_waiting = 2 })) (pull (ask_of 1), t0)) (pull (ask_of 5), t0)))
    ≡ (1 ∷ 5 ∷ []) ∷ []
unfolding answered advance advance_outs kept trim verdict
one_below = refl

-- ---- without a reply subject

-- nothing is done and nothing is sent, to a pull consumer, to a push consumer and by a body of no form
nowhere_leaves : after (with_worker worker) (pull_nowhere (Some (ask_of 1)), t0) ≡ with_worker worker
unfolding answered advance advance_outs kept trim verdict
nowhere_leaves = refl

nowhere_sends_nothing : outs_to (with_worker worker) (pull_nowhere (Some (ask_of 1))) t0 ≡ []
unfolding answered advance advance_outs kept trim verdict
nowhere_sends_nothing = refl

nowhere_is_silent : reply_to (with_worker worker) (pull_nowhere (Some (ask_of 1))) t0 ≡ Silent
unfolding answered advance advance_outs kept trim verdict
nowhere_is_silent = refl

nowhere_of_push : outs_to pushing (pull_nowhere (Some (ask_of 1))) t0 ≡ []
unfolding answered advance advance_outs kept trim verdict
nowhere_of_push = refl

nowhere_of_no_form : outs_to (with_worker worker) (pull_nowhere None) t0 ≡ []
unfolding answered advance advance_outs kept trim verdict
nowhere_of_no_form = refl

nowhere_past_the_limit : outs_to full (pull_nowhere (Some (ask_of 1))) t0 ≡ []
unfolding answered advance advance_outs kept trim verdict
nowhere_past_the_limit = refl

-- ---- to a consumer that is not there

absent_told : reply_to (state_after ((make orders, t0) ∷ [])) (pull (ask_of 1)) t0 ≡ Nobody
unfolding answered advance advance_outs kept trim verdict
absent_told = refl

absent_sends_nothing : outs_to (state_after ((make orders, t0) ∷ [])) (pull (ask_of 1)) t0 ≡ []
unfolding answered advance advance_outs kept trim verdict
absent_sends_nothing = refl
