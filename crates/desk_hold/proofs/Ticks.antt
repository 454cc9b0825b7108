-- What a tick answers.
use Rattle.std.proofs.Common.{◌≡◌, ℕ, Bool, true, ◌&&◌, ◌^◌, refl, IsTrue}
use Rattle.std.specs.Prelude.{nat_le}
use Rattle.std.proofs.lemmas.Bool.{and_from, and_parts}
use Rattle.js_base.specs.Subjects.{is_subject_text}
use Rattle.js_model.specs.declared.event.Event.{Event}
use Rattle.js_model.specs.declared.stream.State.{State}
use Rattle.js_model.specs.declared.stream.State.TheVariants.{Vacant, Live}
use Rattle.js_model.specs.declared.reply.Reply.TheVariants.{Silent}
use Rattle.js_model.specs.Events.{answered}
use Rattle.js_model.specs.Proper.{if_given, is_proper, is_proper_what, reply_of}
use Rattle.place_engine.specs.Stepping.{tick_of}

pub tick_silent : (old : State) (event : Event) (now : ℕ) (room : Bool) → (answered old (tick_of event) now room).reply ≡ Silent
unfolding answered
tick_silent (Vacant last) event now room = refl
tick_silent (Live stream) event now room = refl

-- an event for an incarnation that can be is one whatever is asked
pub tick_proper : (event : Event) → IsTrue (is_proper event) → IsTrue (is_proper (tick_of event))
tick_proper event proper =
    let both = and_parts (nat_le event.incarnation (2 ^ 62) && if_given is_subject_text (reply_of event.what)) (is_proper_what event.what) proper in
    let small = and_parts (nat_le event.incarnation (2 ^ 62)) (if_given is_subject_text (reply_of event.what)) both.0 in
    and_from (nat_le event.incarnation (2 ^ 62) && true) true (and_from (nat_le event.incarnation (2 ^ 62)) true small.0 refl) refl
