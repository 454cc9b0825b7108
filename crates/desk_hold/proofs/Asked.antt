-- What is asked of one place, and what its answer tells.
use Rattle.std.proofs.Common.{◌≡◌, ◌≢◌, arith, ℕ, ◌<◌, ◌≤◌, ◌^◌, ◌&&◌, Bool, true, false, not, List, [], Option, Some, None, Err, refl, sym, ap, subst, ◌∙◌, IsTrue}
use Rattle.std.specs.Prelude.{nat_le}
use Rattle.std.proofs.lemmas.Bool.{and_from, le-leb}
use Rattle.js_base.specs.Bytes.{Bytes}
use Rattle.js_base.specs.Subjects.{is_subject_text}
use Rattle.js_base.specs.declared.out.Out.{Out}
use Rattle.js_model.specs.declared.desk.PlaceAt.{PlaceAt}
use Rattle.js_model.specs.declared.event.What.{What}
use Rattle.js_model.specs.declared.event.What.TheVariants.{Drop as DropStream}
use Rattle.js_model.specs.declared.reply.Answer.{Answer}
use Rattle.js_model.specs.declared.reply.Reply.{Reply}
use Rattle.js_model.specs.declared.stream.State.{State}
use Rattle.js_model.specs.declared.stream.State.TheVariants.{Vacant, Live}
use Rattle.js_model.specs.Events.{answered, is_refused, kept_incarnation, IsEvent}
use Rattle.js_model.specs.PlaceStates.{PlaceIn}
use Rattle.js_model.specs.Proper.{if_given, is_proper, is_proper_what, reply_of}
use Rattle.js_api.specs.declared.fault.DeskFault.{DeskFault}
use Rattle.js_api.specs.declared.outcome.Became.{Became}
use Rattle.js_api.specs.declared.outcome.Became.TheVariants.{Made, Unsaid}
use Rattle.js_api.specs.declared.outcome.Outcome.{Outcome}
use Rattle.js_api.specs.Holding.{event_at}
use Rattle.js_api.specs.OneStream.{is_done}
use Rattle.place_engine.specs.Shown.{IsShown}
use Rattle.place_engine.specs.declared.faults.PlaceFault.{PlaceFault}
use Rattle.place_engine.specs.declared.faults.PlaceFault.TheVariants as places
use Rattle.place_engine.specs.declared.faults.Left.TheVariants as left
use Rattle.place_engine.specs.Places.{IsTold}
use Rattle.desk_answers.specs.Asking.{IsBuilt, MayAsk}
use Rattle.desk_answers.specs.Became.{CanBeShown, IsExplained, NumbersDropped, is_dropped}
use Rattle.desk_hold.specs.Outcomes.{failed_by}
use Rattle.desk_hold.specs.Steps.{EndsStep, IsNumbered, WithholdsStep}

-- what is asked of the stream is an event as a reader gives it
pub proper_event : (at : PlaceAt) (what : What) → at.incarnation ≤ 2 ^ 62 → MayAsk what → IsTrue (is_proper (event_at at what))
proper_event at what small may =
    and_from (nat_le at.incarnation (2 ^ 62) && if_given is_subject_text (reply_of what)) (is_proper_what what)
    (and_from (nat_le at.incarnation (2 ^ 62)) (if_given is_subject_text (reply_of what)) (le-leb at.incarnation (2 ^ 62) small) may.reply) may.proper

-- and what it tells is UTF-8
pub told_by : (what : What) → MayAsk what → IsTold what
told_by what may publish is = subst IsBuilt is may.built

-- ---- what was made

pub explained_made : (fault : Option DeskFault) (became : Became) (reply : Reply) → became ≡ Made reply → IsExplained fault became
explained_made (Some fault) became reply e = tt
explained_made None became reply e = subst (λ (b : Became). IsExplained None b) (sym e) tt

pub shown_made : (became : Became) (reply : Reply) → became ≡ Made reply → IsShown reply → CanBeShown became
shown_made became reply e shown = subst (λ (b : Became). CanBeShown b) (sym e) shown

-- ---- dropping

not_done : (a b : Answer) → a ≡ b → is_done a.reply ≡ false → is_done b.reply ≡ true → ⊥
not_done a b e undone done = let not_both : false ≡ true = sym undone ∙ ap (λ (x : Answer). is_done x.reply) e ∙ done in cc

-- only a stream that is there is dropped
dropped_live : (at : PlaceAt) (to : Option Bytes) (now : ℕ) (room : Bool) (old new : State) (reply : Reply) (outs : List Out) → IsNumbered old
    → answered old (event_at at (DropStream to)) now room ≡ record { reply = reply; outs = outs; state = new } → is_done reply ≡ true → kept_incarnation old < 2 ^ 62
unfolding answered
dropped_live at to now room (Vacant last) new reply outs numbered e done = absurd (not_done _ _ e refl done)
dropped_live at to now room (Live stream) new reply outs numbered e done = numbered stream refl

-- a reply to what was asked of the place
pub number_made : (what : What) (became : Became) (at : PlaceAt) (now : ℕ) (old new : State) (reply : Reply) (outs : List Out) → IsNumbered old → became ≡ Made reply
    → IsEvent old (event_at at what) now reply outs new → NumbersDropped what became at
number_made (DropStream to) became at now old new reply outs numbered e h = λ dropped.
    subst (λ (n : ℕ). n < 2 ^ 62) (sym h.kept)
    (dropped_live at to now h.room old new reply outs numbered h.answers (ap is_dropped (sym e) ∙ dropped))
number_made what became at now old new reply outs numbered e h = tt

-- and no other outcome is that a stream was dropped
pub number_undone : (what : What) (became : Became) (at : PlaceAt) → is_dropped became ≡ false → NumbersDropped what became at
number_undone (DropStream to) became at e = λ dropped. absurd (let not_both : false ≡ true = sym e ∙ dropped in cc)
number_undone what became at e = tt

not_refused : (a b : Answer) → a ≡ b → is_refused a.reply ≡ true → is_refused b.reply ≡ false → ⊥
not_refused a b e was none = let not_both : true ≡ false = sym was ∙ ap (λ (x : Answer). is_refused x.reply) e ∙ none in cc

-- a stream that is not there is not dropped, which is refused
unrefused_live : (at : PlaceAt) (to : Option Bytes) (now : ℕ) (room : Bool) (old new : State) (reply : Reply) (outs : List Out) → IsNumbered old
    → answered old (event_at at (DropStream to)) now room ≡ record { reply = reply; outs = outs; state = new } → is_refused reply ≡ false → kept_incarnation old < 2 ^ 62
unfolding answered
unrefused_live at to now room (Vacant last) new reply outs numbered e none = absurd (not_refused _ _ e refl none)
unrefused_live at to now room (Live stream) new reply outs numbered e none = numbered stream refl

unless_true : (b : Bool) → not b ≡ true → b ≡ false
unless_true true e = absurd (let not_both : false ≡ true = e in cc)
unless_true false e = refl

number_withheld : (outgrows : State → What → Type 0) (what : What) (refused : Bool) (at : PlaceAt) (now : ℕ) (old new : PlaceIn) (before after : List Out) → IsNumbered old.state
    → WithholdsStep outgrows refused (event_at at what) now old new before after → NumbersDropped what (Unsaid refused) at
number_withheld outgrows (DropStream to) refused at now old new before after numbered h = λ dropped.
    subst (λ (n : ℕ). n < 2 ^ 62) (sym h.made.step.event.kept)
    (unrefused_live at to now h.made.step.event.room old.state new.state h.reply h.outs numbered h.made.step.event.answers
    (sym h.refused_is ∙ unless_true refused dropped))
number_withheld outgrows what refused at now old new before after numbered h = tt

number_failed : (outgrows : State → What → Type 0) (what : What) (fault : PlaceFault) (stream : Bytes) (at : PlaceAt) (now : ℕ) (old new : PlaceIn) (before after : List Out) → IsNumbered old.state
    → EndsStep outgrows (Err fault) (event_at at what) now old new before after → NumbersDropped what (failed_by fault stream).became at
number_failed outgrows what (places.NoMemory left.Nothing) stream at now old new before after numbered h = number_undone what _ at refl
number_failed outgrows what (places.NoMemory left.Ticked) stream at now old new before after numbered h = number_undone what _ at refl
number_failed outgrows what (places.NoMemory (left.Unsaid refused)) stream at now old new before after numbered h = number_withheld outgrows what refused at now old new before after numbered h
number_failed outgrows what places.StoreFault stream at now old new before after numbered h = number_undone what _ at refl
number_failed outgrows what (places.Stopped count) stream at now old new before after numbered h = number_undone what _ at refl
number_failed outgrows what (places.Gone kept) stream at now old new before after numbered h = number_undone what _ at refl
number_failed outgrows what (places.Worn refused) stream at now old new before after numbered h = number_withheld outgrows what refused at now old new before after numbered h.withholds

-- what a failed step came to
pub number_told : (outgrows : State → What → Type 0) (what : What) (fault : PlaceFault) (stream : Bytes) (at : PlaceAt) (now : ℕ) (old new : PlaceIn) (outs : List Out) (outcome : Outcome) → IsNumbered old.state
    → outcome ≡ failed_by fault stream → EndsStep outgrows (Err fault) (event_at at what) now old new [] outs → NumbersDropped what outcome.became at
number_told outgrows what fault stream at now old new outs outcome numbered is h =
    subst (λ (o : Outcome). NumbersDropped what o.became at) (sym is) (number_failed outgrows what fault stream at now old new [] outs numbered h)

-- ---- an incarnation that no place keeps

pub none_keeps : (kept asked : ℕ) → kept ≤ 2 ^ 62 → 2 ^ 62 < asked → kept ≢ asked
none_keeps kept asked small large same = omega (arith, small, large, same)
