-- Worked rows of starts: the picks and the cursor with which a new consumer begins, by its deliver policy.
use Rattle.std.specs.Prelude.{ℕ, ◌≡◌, List, [], ◌∷◌, None, codes, refl, map}
use Rattle.js_base.specs.Bytes.{Bytes}
use Rattle.js_model.specs.declared.consumer_config.DeliverPolicy.{DeliverPolicy}
use Rattle.js_model.specs.declared.consumer_config.DeliverPolicy.TheVariants.{All as FromAll, Last as FromLast, New as FromNew, ByStartSequence, ByStartTime, LastPerSubject}
use Rattle.js_model.specs.declared.stream.State.{State}
use Rattle.js_model.specs.declared.event.What.{What}
use Rattle.js_model.specs.declared.event.What.TheVariants.{Purge, Delete}
use Rattle.js_model.specs.Advance.{advance, advance_outs}
use Rattle.js_model.specs.Retention.{kept}
use Rattle.js_model.specs.Trim.{trim}
use Rattle.js_model.specs.Verdict.{verdict}
use Rattle.js_model.specs.Events.{answered}
use Rattle.js_model.proofs.Samples.{t0, orders, worker, make, publish, make_consumer, after, state_after, seqs_in, consumers_in, inbox, wants_nothing}

-- the picks and the cursor of the consumer that is made, the only one
abbrev starts : State → DeliverPolicy → Bytes → List (List ℕ × ℕ)
starts s policy pattern =
    map (λ c. (c.picks, c.cursor)) (consumers_in (after s (make_consumer (record worker { deliver_policy = policy; filter_subject = pattern }), 1700000000000000010)))

-- the consumer begins at this sequence, with no picks
abbrev from : ℕ → List (List ℕ × ℕ)
from cursor = ([], cursor) ∷ []

abbrev on_a : What
on_a = publish (codes "orders.a") (codes "x") wants_nothing

abbrev on_b : What
on_b = publish (codes "orders.b") (codes "x") wants_nothing

-- six messages on `orders.a` and `orders.b` by turns, a nanosecond apart, without the first, the third and the last
abbrev gaps : State
gaps = state_after ((make orders, t0) ∷ (on_a, t0) ∷ (on_b, 1700000000000000001) ∷ (on_a, 1700000000000000002) ∷ (on_b, 1700000000000000003) ∷ (on_a, 1700000000000000004) ∷ (on_b, 1700000000000000005) ∷ (Delete inbox 1, 1700000000000000006) ∷ (Delete inbox 3, 1700000000000000006) ∷ (Delete inbox 6, 1700000000000000006) ∷ [])

-- a stream that never had a message
abbrev fresh : State
fresh = state_after ((make orders, t0) ∷ [])

-- a stream that had two messages, and holds none
abbrev emptied : State
emptied = state_after ((make orders, t0) ∷ (on_a, t0) ∷ (on_b, t0) ∷ (Purge inbox [] None None, t0) ∷ [])

gaps_hold : seqs_in gaps ≡ 2 ∷ 4 ∷ 5 ∷ []
unfolding answered advance advance_outs kept trim verdict
gaps_hold = refl

-- ---- all

-- the first stored sequence
all : starts gaps FromAll [] ≡ from 2
unfolding answered advance advance_outs kept trim verdict
all = refl

-- the same with a filter that matches 5 alone, and with one that matches nothing
all_filtered : starts gaps FromAll (codes "orders.a") ≡ from 2
unfolding answered advance advance_outs kept trim verdict
all_filtered = refl

all_unmatched : starts gaps FromAll (codes "orders.c") ≡ from 2
unfolding answered advance advance_outs kept trim verdict
all_unmatched = refl

-- nothing is stored: the next sequence
all_fresh : starts fresh FromAll [] ≡ from 1
unfolding answered advance advance_outs kept trim verdict
all_fresh = refl

all_emptied : starts emptied FromAll (codes "orders.a") ≡ from 3
unfolding answered advance advance_outs kept trim verdict
all_emptied = refl

-- ---- last

-- the last stored sequence, and not the last one given
last : starts gaps FromLast [] ≡ from 5
unfolding answered advance advance_outs kept trim verdict
last = refl

-- the last that the filter matches
last_filtered : starts gaps FromLast (codes "orders.b") ≡ from 4
unfolding answered advance advance_outs kept trim verdict
last_filtered = refl

-- none is matched: the next sequence
last_unmatched : starts gaps FromLast (codes "orders.c") ≡ from 7
unfolding answered advance advance_outs kept trim verdict
last_unmatched = refl

last_fresh : starts fresh FromLast [] ≡ from 1
unfolding answered advance advance_outs kept trim verdict
last_fresh = refl

last_emptied : starts emptied FromLast (codes "orders.a") ≡ from 3
unfolding answered advance advance_outs kept trim verdict
last_emptied = refl

-- ---- new

-- the next sequence, if the last one given is no longer stored
new : starts gaps FromNew [] ≡ from 7
unfolding answered advance advance_outs kept trim verdict
new = refl

new_filtered : starts gaps FromNew (codes "orders.b") ≡ from 7
unfolding answered advance advance_outs kept trim verdict
new_filtered = refl

new_fresh : starts fresh FromNew [] ≡ from 1
unfolding answered advance advance_outs kept trim verdict
new_fresh = refl

new_emptied : starts emptied FromNew (codes "orders.a") ≡ from 3
unfolding answered advance advance_outs kept trim verdict
new_emptied = refl

-- ---- by start sequence

-- a sequence below the first stored one moves up to it
below_first : starts gaps (ByStartSequence 1) [] ≡ from 2
unfolding answered advance advance_outs kept trim verdict
below_first = refl

-- one that is stored stays
stored : starts gaps (ByStartSequence 4) [] ≡ from 4
unfolding answered advance advance_outs kept trim verdict
stored = refl

-- so does one in a gap
in_gap : starts gaps (ByStartSequence 3) [] ≡ from 3
unfolding answered advance advance_outs kept trim verdict
in_gap = refl

-- so does the last one given, which is not stored
last_given : starts gaps (ByStartSequence 6) [] ≡ from 6
unfolding answered advance advance_outs kept trim verdict
last_given = refl

-- one above it moves down to the next sequence
above_last : starts gaps (ByStartSequence 9) [] ≡ from 7
unfolding answered advance advance_outs kept trim verdict
above_last = refl

-- a filter that matches 5 alone does not move it
sequence_filtered : starts gaps (ByStartSequence 3) (codes "orders.a") ≡ from 3
unfolding answered advance advance_outs kept trim verdict
sequence_filtered = refl

sequence_fresh : starts fresh (ByStartSequence 9) [] ≡ from 1
unfolding answered advance advance_outs kept trim verdict
sequence_fresh = refl

-- the next sequence is both bounds
sequence_emptied : starts emptied (ByStartSequence 1) (codes "orders.a") ≡ from 3
unfolding answered advance advance_outs kept trim verdict
sequence_emptied = refl

-- ---- by start time

-- before every message: the first stored one
time_before : starts gaps (ByStartTime t0) [] ≡ from 2
unfolding answered advance advance_outs kept trim verdict
time_before = refl

-- the moment of a stored message: that one
time_of_message : starts gaps (ByStartTime 1700000000000000003) [] ≡ from 4
unfolding answered advance advance_outs kept trim verdict
time_of_message = refl

-- the moment of a message that is gone: the first stored one after it
time_in_gap : starts gaps (ByStartTime 1700000000000000002) [] ≡ from 4
unfolding answered advance advance_outs kept trim verdict
time_in_gap = refl

-- the first stored one, whether the filter matches it or not
time_filtered : starts gaps (ByStartTime 1700000000000000002) (codes "orders.a") ≡ from 4
unfolding answered advance advance_outs kept trim verdict
time_filtered = refl

-- after every stored message: the next sequence
time_after : starts gaps (ByStartTime 1700000000000000005) [] ≡ from 7
unfolding answered advance advance_outs kept trim verdict
time_after = refl

time_fresh : starts fresh (ByStartTime t0) [] ≡ from 1
unfolding answered advance advance_outs kept trim verdict
time_fresh = refl

time_emptied : starts emptied (ByStartTime t0) (codes "orders.a") ≡ from 3
unfolding answered advance advance_outs kept trim verdict
time_emptied = refl

-- ---- last per subject

-- 4 is the last stored one on `orders.b` and 5 on `orders.a`; the cursor is the next sequence
last_of_each : starts gaps LastPerSubject [] ≡ (4 ∷ 5 ∷ [], 7) ∷ []
unfolding answered advance advance_outs kept trim verdict
last_of_each = refl

last_of_one : starts gaps LastPerSubject (codes "orders.b") ≡ (4 ∷ [], 7) ∷ []
unfolding answered advance advance_outs kept trim verdict
last_of_one = refl

-- no subject is matched: no picks
last_of_none : starts gaps LastPerSubject (codes "orders.c") ≡ from 7
unfolding answered advance advance_outs kept trim verdict
last_of_none = refl

last_of_fresh : starts fresh LastPerSubject [] ≡ from 1
unfolding answered advance advance_outs kept trim verdict
last_of_fresh = refl

last_of_emptied : starts emptied LastPerSubject (codes "orders.a") ≡ from 3
unfolding answered advance advance_outs kept trim verdict
last_of_emptied = refl
