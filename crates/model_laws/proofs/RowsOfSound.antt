-- Worked rows of the computed tests: a state that is sound, bounded and such as can be written, ones that are not, and what is a change.
use Rattle.std.specs.Prelude.{◌≡◌, ◌^◌, true, false, [], ◌∷◌, codes, refl, map}
use Rattle.std.specs.Str.{is_utf8, chars}
use lib.Utf8.{encode}
use Rattle.js_model.specs.declared.stream.Message.{Message}
use Rattle.js_model.specs.declared.stream.Stream.{Stream}
use Rattle.js_model.specs.declared.stream.State.{State}
use Rattle.js_model.specs.declared.stream.State.TheVariants.{Vacant, Live}
use Rattle.js_model.specs.declared.consumer.Consumer.{Consumer}
use Rattle.js_model.specs.declared.ack.AckKind.TheVariants.{Ack as Acknowledge}
use Rattle.js_model.specs.declared.event.What.TheVariants.{Tick}
use Rattle.js_model.specs.Advance.{advance, advance_outs}
use Rattle.js_model.specs.Retention.{kept}
use Rattle.js_model.specs.Trim.{trim}
use Rattle.js_model.specs.Verdict.{verdict}
use Rattle.js_model.specs.Deliver.{candidates}
use Rattle.js_model.specs.Events.{answered}
use Rattle.model_laws.specs.SoundTests.{is_well_stored, is_matched}
use Rattle.model_laws.specs.BoundTests.{is_bounded, is_writable}
use Rattle.model_laws.specs.Changed.{changes}
use Rattle.js_model.proofs.Samples.{t0, orders, worker, make, hello, make_consumer, ask_of, pull, ack, after, state_after, delivered}

-- two messages are stored, and the first one waits for its acknowledgement
abbrev busy : State
busy = delivered (state_after ((make orders, t0) ∷ (make_consumer worker, t0) ∷ (hello, t0) ∷ (hello, t0) ∷ (pull (ask_of 2), t0) ∷ [])) t0

well_stored : is_well_stored busy ≡ true
unfolding answered advance advance_outs kept trim verdict candidates is_utf8 chars encode
well_stored = refl

matched : is_matched busy ≡ true
unfolding answered advance advance_outs kept trim verdict candidates
matched = refl

bounded : is_bounded busy ≡ true
unfolding answered advance advance_outs kept trim verdict candidates
bounded = refl

writable : is_writable busy ≡ true
unfolding answered advance advance_outs kept trim verdict candidates is_utf8 chars encode
writable = refl

-- ---- states that are not

abbrev changed_to : (Stream → Stream) → State → State
changed_to f (Vacant i) = Vacant i
changed_to f (Live s) = Live (f s)

-- what waits is not stored
abbrev emptied : State
emptied = changed_to (λ s. record s { messages = [] }) busy

not_stored : is_well_stored emptied ≡ false
unfolding answered advance advance_outs kept trim verdict candidates is_utf8 chars encode
not_stored = refl

not_stored_matches : is_matched emptied ≡ true
unfolding answered advance advance_outs kept trim verdict candidates
not_stored_matches = refl

-- the texts of its messages are gone: what is stored and the bounds can still be asked
abbrev without_text : Message → Message
without_text m = record m { subject = []; headers = []; payload = [] }

abbrev unread : State
unread = changed_to (λ s. record s { messages = map without_text s.messages }) busy

unread_stored : is_well_stored unread ≡ true
unfolding answered advance advance_outs kept trim verdict candidates is_utf8 chars encode
unread_stored = refl

unread_bounded : is_bounded unread ≡ true
unfolding answered advance advance_outs kept trim verdict candidates
unread_bounded = refl

not_writable : is_writable unread ≡ false
unfolding answered advance advance_outs kept trim verdict candidates is_utf8 chars encode
not_writable = refl

-- what waits does not match the filter
abbrev with_filter : Consumer → Consumer
with_filter c = record c { config = record worker { filter_subject = codes "orders.b" } }

abbrev filtered : State
filtered = changed_to (λ s. record s { consumers = map with_filter s.consumers }) busy

unmatched_is_stored : is_well_stored filtered ≡ true
unfolding answered advance advance_outs kept trim verdict candidates is_utf8 chars encode
unmatched_is_stored = refl

unmatched : is_matched filtered ≡ false
unfolding answered advance advance_outs kept trim verdict candidates
unmatched = refl

-- the last number is too great
not_bounded : is_bounded (changed_to (λ s. record s { last = 2 ^ 62 }) busy) ≡ false
unfolding answered advance advance_outs kept trim verdict candidates is_utf8 chars encode
not_bounded = refl

-- ---- changes

stored_changes : changes busy (after busy (hello, t0)) ≡ true
unfolding answered advance advance_outs kept trim verdict candidates
stored_changes = refl

acked_changes : changes busy (after busy (ack 1 Acknowledge, t0)) ≡ true
unfolding answered advance advance_outs kept trim verdict candidates
acked_changes = refl

-- a pull that waits does not outlive a crash, and the moment is no change
pulled_changes_nothing : changes busy (after busy (pull (ask_of 1), t0)) ≡ false
unfolding answered advance advance_outs kept trim verdict candidates
pulled_changes_nothing = refl

time_changes_nothing : changes busy (after busy (Tick, 1700000000000000007)) ≡ false
unfolding answered advance advance_outs kept trim verdict candidates
time_changes_nothing = refl
