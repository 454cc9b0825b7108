-- What a hold that was told so made of the incarnation that its place keeps.
use Rattle.std.proofs.Common.{◌≡◌, ◌+◌, ℕ, Bool, true, false, List, [], ◌∷◌, ◌++◌, length, Option, Some, None, refl, sym, ap, subst, ◌∙◌, inl, inr}
use Rattle.std.specs.Prelude.{not}
use Rattle.js_base.specs.Bytes.{Bytes}
use Rattle.js_base.specs.declared.out.Out.{Out}
use Rattle.js_model.specs.declared.stream.State.{State}
use Rattle.js_model.specs.declared.event.Event.{Event}
use Rattle.js_model.specs.declared.event.What.{What}
use Rattle.js_model.specs.declared.event.What.TheVariants as whats
use Rattle.js_model.specs.declared.entry.PlaceEntry.{PlaceEntry}
use Rattle.js_model.specs.declared.entry.PlaceEntry.TheVariants.{Step, Deliver, Broken}
use Rattle.js_model.specs.declared.entry.Call.TheVariants.{Step as StepOf, Deliver as DeliverOf}
use Rattle.js_model.specs.declared.reply.Answer.{Answer}
use Rattle.js_model.specs.declared.reply.Reply.{Reply}
use Rattle.js_model.specs.declared.reply.Reply.TheVariants as replies
use Rattle.js_model.specs.declared.reply.Reply.TheVariants.{Done, Silent}
use Rattle.js_model.specs.declared.desk.PlaceAt.{PlaceAt}
use Rattle.js_model.specs.Events.{IsEvent, answered, is_refused, kept_incarnation}
use Rattle.js_model.specs.PlaceStates.{PlaceIn}
use Rattle.js_model.specs.Router.{Router, IsRoute}
use Rattle.js_model.specs.Runs.{RunFrom, new_messages}
use Rattle.js_api.specs.declared.fault.DeskFault.{DeskFault}
use Rattle.js_api.specs.declared.fault.DeskFault.TheVariants as faults
use Rattle.js_api.specs.declared.outcome.Became.{Became}
use Rattle.js_api.specs.declared.outcome.Became.TheVariants as became
use Rattle.js_api.specs.declared.outcome.Outcome.{Outcome}
use Rattle.js_api.specs.Entries.{Hold, entries_in, DeskEntry, Held}
use Rattle.js_api.specs.Holding.{AreDeliveries, Holds, HoldsBy, IsHold, Prepares, Unmakes, event_at, listening_of, step}
use Rattle.js_api.specs.Leading.{Leads}
use Rattle.js_api.specs.OneStream.{is_done}
use Rattle.js_api.specs.Worlds.{IsHeld, Stops, is_broken}
use Rattle.desk_answers.specs.Became.{is_dropped}
use Rattle.desk_hold.specs.OnePlace.{OnPlace, PlaceStep}
use Rattle.desk_hold.proofs.Alone.{never}
use Rattle.desk_places.specs.Dropping.{is_drop}
use Rattle.js_desk.proofs.Incarnations.{event_keeps, drop_counts, drop_done, undropped_keeps, delivery_keeps}

-- ---- the runs of a hold

-- the event was made
event_is : (count : ℕ) (old : State) (seat : ℕ) (e : Event) (now : ℕ) (reply : Reply) (outs : List Out) (unsaid : Bool) (new : State) → RunFrom count old (Step seat e now reply outs unsaid ∷ []) new → IsEvent old e now reply outs new
event_is count old seat e now reply outs unsaid new h = subst (λ (s : State). IsEvent old e now reply outs s) h.2 h.1.event

state_of : (old : State) (e : Event) (now : ℕ) (reply : Reply) (outs : List Out) (new : State) (h : IsEvent old e now reply outs new) → (answered old e now h.room).state ≡ new
state_of old e now reply outs new h = ap (λ (a : Answer). a.state) h.answers

reply_of : (old : State) (e : Event) (now : ℕ) (reply : Reply) (outs : List Out) (new : State) (h : IsEvent old e now reply outs new) → (answered old e now h.room).reply ≡ reply
reply_of old e now reply outs new h = ap (λ (a : Answer). a.reply) h.answers

-- time that passes keeps it
tick_keeps : (count : ℕ) (old : State) (seat : ℕ) (e : Event) (now : ℕ) (reply : Reply) (outs : List Out) (unsaid : Bool) (new : State) → e.what ≡ whats.Tick
    → RunFrom count old (Step seat e now reply outs unsaid ∷ []) new → kept_incarnation new ≡ kept_incarnation old
tick_keeps count old seat e now reply outs unsaid new tick h =
    let made = event_is count old seat e now reply outs unsaid new h in
    sym (ap kept_incarnation (state_of old e now reply outs new made)) ∙ event_keeps old e now made.room (ap is_drop tick)

-- deliveries keep it
deliveries_keep : (seat : ℕ) (at : PlaceAt) (now : ℕ) (listening : List Bytes) (fault : Option DeskFault) (entries : List PlaceEntry) (count : ℕ) (old new : State)
    → AreDeliveries seat at now listening fault entries → RunFrom count old entries new → kept_incarnation new ≡ kept_incarnation old
deliveries_keep seat at now listening fault [] count old new d h = ap kept_incarnation (sym h)
deliveries_keep seat at now listening fault (Deliver by moment heard delivery outs ∷ more) count old new d h =
    deliveries_keep seat at now listening fault more (count + length (new_messages old h.0)) h.0 new d.3 h.2 ∙ delivery_keeps old moment heard delivery outs h.0 h.1.delivered
deliveries_keep seat at now listening fault (Step by event moment reply outs unsaid ∷ more) count old new d h =
    tick_keeps count old by event moment reply outs unsaid new d.1 (subst (λ (es : List PlaceEntry). RunFrom count old (Step by event moment reply outs unsaid ∷ es) new) d.4 h)
deliveries_keep seat at now listening fault (Broken by moment (DeliverOf heard delivery) ∷ []) count old new d h = delivery_keeps old moment heard delivery h.0 new h.1.delivered
deliveries_keep seat at now listening fault (Broken by moment (DeliverOf heard delivery) ∷ next ∷ more) count old new d h = absurd h
deliveries_keep seat at now listening fault (Broken by moment (StepOf event) ∷ more) count old new d h = absurd d

-- ---- a hold that was made

module _ (at : PlaceAt) (what : What) (now : ℕ) (reply : Reply) (ready : Bool) (fault : Option DeskFault) (hold : Hold) (h : IsHold at what now reply ready fault hold) (old new : PlaceIn) (held : IsHeld hold old new) where
  one_step : hold.steps ≡ step h.seat at what now reply h.outs h.unsaid
  one_step = h.steps ∙ ap (λ (es : List PlaceEntry). es ++ step h.seat at what now reply h.outs h.unsaid) h.made_first

  the_event : IsEvent hold.before (event_at at what) now reply h.outs hold.between
  the_event = event_is old.stored hold.before h.seat (event_at at what) now reply h.outs h.unsaid hold.between
      (subst (λ (es : List PlaceEntry). RunFrom old.stored hold.before es hold.between) one_step held.steps)

  between_is : (answered hold.before (event_at at what) now the_event.room).state ≡ hold.between
  between_is = state_of hold.before (event_at at what) now reply h.outs hold.between the_event

  then_kept : kept_incarnation new.state ≡ kept_incarnation hold.between
  then_kept = ap kept_incarnation held.is_state ∙ deliveries_keep h.seat at now (listening_of hold.readings) fault hold.deliveries _ hold.between hold.after h.deliveries held.deliveries

  before_is : kept_incarnation hold.before ≡ kept_incarnation old.state
  before_is = ap kept_incarnation (sym held.was)

  pub made_keeps : is_drop what ≡ false → kept_incarnation new.state ≡ kept_incarnation old.state
  made_keeps other = then_kept ∙ ap kept_incarnation (sym between_is) ∙ event_keeps hold.before (event_at at what) now the_event.room other ∙ before_is

  pub made_counts : is_drop what ≡ true → reply ≡ Done → kept_incarnation new.state ≡ kept_incarnation old.state + 1
  made_counts is done =
      then_kept ∙ ap kept_incarnation (sym between_is)
      ∙ drop_counts hold.before (event_at at what) now the_event.room is (reply_of hold.before (event_at at what) now reply h.outs hold.between the_event ∙ done)
      ∙ ap (λ (n : ℕ). n + 1) before_is

  pub made_undropped : is_drop what ≡ true → (reply ≡ Done → ⊥) → kept_incarnation new.state ≡ kept_incarnation old.state
  made_undropped is other =
      then_kept ∙ ap kept_incarnation (sym between_is)
      ∙ undropped_keeps hold.before (event_at at what) now the_event.room is (λ done. other (sym (reply_of hold.before (event_at at what) now reply h.outs hold.between the_event) ∙ done))
      ∙ before_is

  pub made_unrefused : is_drop what ≡ true → is_refused reply ≡ false → reply ≡ Done
  made_unrefused is fine =
      let same = reply_of hold.before (event_at at what) now reply h.outs hold.between the_event in
      sym same ∙ drop_done hold.before (event_at at what) now the_event.room is (ap is_refused same ∙ fine)

is_done_so : (reply : Reply) → is_done reply ≡ true → reply ≡ Done
is_done_so Done e = refl
is_done_so (replies.Info info) e = absurd (cc)
is_done_so (replies.Published n) e = absurd (cc)
is_done_so (replies.Duplicate n) e = absurd (cc)
is_done_so (replies.Purged n) e = absurd (cc)
is_done_so (replies.ConsumerInfo info) e = absurd (cc)
is_done_so (replies.Message m) e = absurd (cc)
is_done_so (replies.Names total list) e = absurd (cc)
is_done_so (replies.Infos total list) e = absurd (cc)
is_done_so replies.Confirmed e = absurd (cc)
is_done_so Silent e = absurd (cc)
is_done_so replies.Nobody e = absurd (cc)
is_done_so (replies.Refused error) e = absurd (cc)

-- ---- whatever became of it

-- what a hold that became so made of its place, if the place goes on
record WhileGoing (at : PlaceAt) (what : What) (told : Became) (entries : List DeskEntry) (old new : PlaceIn) : Type 0 where
  pub stood : old.stopped ≡ None
  pub keeps : (is_drop what ≡ true → is_dropped told ≡ false) → kept_incarnation new.state ≡ kept_incarnation old.state
  pub counts : is_drop what ≡ true → is_dropped told ≡ true → kept_incarnation new.state ≡ kept_incarnation old.state + 1

-- what a hold that became so made of its place: a place that is stopped stays so, and one that goes on keeps its incarnation unless its stream is dropped
pub record Facts (at : PlaceAt) (what : What) (told : Became) (entries : List DeskEntry) (old new : PlaceIn) : Type 0 where
  pub going : new.stopped ≡ None → old.stopped ≡ None
  pub keeps : new.stopped ≡ None → (is_drop what ≡ true → is_dropped told ≡ false) → kept_incarnation new.state ≡ kept_incarnation old.state
  pub counts : new.stopped ≡ None → is_drop what ≡ true → is_dropped told ≡ true → kept_incarnation new.state ≡ kept_incarnation old.state + 1
  pub gone : told ≡ became.Gone → (old.stopped ≡ None) × (kept_incarnation old.state ≡ at.incarnation → ⊥)

module _ (at : PlaceAt) (what : What) (now : ℕ) where
  -- a hold of one entry
  one_held : (hold : Hold) (old new : OnPlace Router) → Leads (PlaceStep IsRoute never at) old (Held hold ∷ []) new → IsHeld hold old.place new.place
  one_held hold old new l = subst (λ (o : OnPlace Router). IsHeld hold old.place o.place) l.2 l.1.held

  made_facts : (reply : Reply) (ready : Bool) (fault : Option DeskFault) (hold : Hold) → IsHold at what now reply ready fault hold → (old new : PlaceIn) → IsHeld hold old new
      → WhileGoing at what (became.Made reply) (Held hold ∷ []) old new
  made_facts reply ready fault hold h old new held = record {
    stood = held.going;
    keeps = keeps_if (is_drop what) refl;
    counts = λ is done. made_counts at what now reply ready fault hold h old new held is (is_done_so reply done);
  }
    where
      keeps_if : (b : Bool) → is_drop what ≡ b → (is_drop what ≡ true → is_done reply ≡ false) → kept_incarnation new.state ≡ kept_incarnation old.state
      keeps_if false e other = made_keeps at what now reply ready fault hold h old new held e
      keeps_if true e other = made_undropped at what now reply ready fault hold h old new held e (λ done. absurd (let yes : is_done reply ≡ true = ap is_done done in cc (yes, other e)))

  unsaid_facts : (refused : Bool) (reply : Reply) (ready : Bool) (fault : Option DeskFault) (hold : Hold) → IsHold at what now reply ready fault hold → refused ≡ is_refused reply → (old new : PlaceIn) → IsHeld hold old new
      → WhileGoing at what (became.Unsaid refused) (Held hold ∷ []) old new
  unsaid_facts refused reply ready fault hold h is_so old new held = record {
    stood = held.going;
    keeps = keeps_if (is_drop what) refl;
    counts = λ is dropped. made_counts at what now reply ready fault hold h old new held is (made_unrefused at what now reply ready fault hold h old new held is (sym is_so ∙ unrefused refused dropped));
  }
    where
      unrefused : (b : Bool) → not b ≡ true → b ≡ false
      unrefused true e = absurd (cc)
      unrefused false e = refl

      keeps_if : (b : Bool) → is_drop what ≡ b → (is_drop what ≡ true → not refused ≡ false) → kept_incarnation new.state ≡ kept_incarnation old.state
      keeps_if false e other = made_keeps at what now reply ready fault hold h old new held e
      keeps_if true e other =
          made_undropped at what now reply ready fault hold h old new held e
          (λ done. absurd (let no : not refused ≡ true = ap not (is_so ∙ ap is_refused done) in cc (no, other e)))

  -- the place is as it was
  rests : (told : Became) (entries : List DeskEntry) (old new : PlaceIn) → is_dropped told ≡ false → new.state ≡ old.state → old.stopped ≡ None → WhileGoing at what told entries old new
  rests told entries old new undropped same stood = record {
    stood = stood;
    keeps = λ other. ap kept_incarnation same;
    counts = λ is done. absurd (cc (undropped, done));
  }

  by_became : (told : Became) (ready : Bool) (fault : Option DeskFault) (entries : List DeskEntry) (old new : OnPlace Router) → HoldsBy told at what now ready fault entries
      → Leads (PlaceStep IsRoute never at) old entries new → new.place.stopped ≡ None → WhileGoing at what told entries old.place new.place
  by_became (became.Made reply) ready fault entries old new h l going =
      let led = subst (λ (es : List DeskEntry). Leads (PlaceStep IsRoute never at) old es new) h.1 l in
      subst (λ (es : List DeskEntry). WhileGoing at what (became.Made reply) es old.place new.place) (sym h.1) (made_facts reply ready fault h.0 h.2 old.place new.place (one_held h.0 old new led))
  by_became (became.Unsaid refused) ready fault entries old new h l going =
      let led = subst (λ (es : List DeskEntry). Leads (PlaceStep IsRoute never at) old es new) h.3 l in
      subst (λ (es : List DeskEntry). WhileGoing at what (became.Unsaid refused) es old.place new.place) (sym h.3)
      (unsaid_facts refused h.1 ready fault h.0 h.2 h.5 old.place new.place (one_held h.0 old new led))
  by_became became.Ticked ready fault entries old new h l going =
      let led = subst (λ (es : List DeskEntry). Leads (PlaceStep IsRoute never at) old es new) h.1 l in
      let held = one_held h.0 old new led in
      let same : kept_incarnation new.place.state ≡ kept_incarnation old.place.state = made_keeps at whats.Tick now Silent ready fault h.0 h.2 old.place new.place held refl in
      subst (λ (es : List DeskEntry). WhileGoing at what became.Ticked es old.place new.place) (sym h.1) (record {
        stood = held.going;
        keeps = λ other. same;
        counts = λ is done. absurd (cc);
      })
  by_became became.Nothing ready None entries old new h l going = absurd h.1
  by_became became.Nothing ready (Some faults.NoMemory) entries old new h l going =
      let led = subst (λ (es : List DeskEntry). Leads (PlaceStep IsRoute never at) old es new) h.1 l in
      rests became.Nothing entries old.place new.place refl (ap (λ (o : OnPlace Router). o.place.state) (sym led)) (ap (λ (o : OnPlace Router). o.place.stopped) led ∙ going)
  by_became became.Nothing ready (Some faults.TooManySubs) entries old new h l going = absurd h.1
  by_became became.Nothing ready (Some (faults.Worn number)) entries old new h l going = by h.1
    where
      by : Unmakes at (Some (faults.Worn number)) entries → WhileGoing at what became.Nothing entries old.place new.place
      by (inl spent) = absurd (subst (λ (es : List DeskEntry). Leads (PlaceStep IsRoute never at) old es new) spent l).1
      by (inr stirred) =
          let led = subst (λ (es : List DeskEntry). Leads (PlaceStep IsRoute never at) old es new) stirred.2 l in
          rests became.Nothing entries old.place new.place refl (ap (λ (o : OnPlace Router). o.place.state) (sym led.2) ∙ led.1.stirred.state) led.1.stirred.going
  by_became became.Nothing ready (Some (faults.NoSession latest)) entries old new h l going = absurd h.1
  by_became (became.Broke stream) ready fault entries old new h l going =
      let led = subst (λ (es : List DeskEntry). Leads (PlaceStep IsRoute never at) old es new) h.1 l in
      let held = one_held h.0 old new led in
      let broken : is_broken (entries_in h.0) ≡ true =
      ap (λ (es : List PlaceEntry). is_broken (es ++ h.0.deliveries)) h.2.steps in
      let stops = subst (λ (b : Bool). Stops b h.0.volume_before h.0.volume_after new.place.stopped) broken held.stops in
      absurd (cc (stops.0, going))
  by_became (became.Stopped stream) ready fault entries old new h l going =
      let led = subst (λ (es : List DeskEntry). Leads (PlaceStep IsRoute never at) old es new) h.1 l in
      let stays : old.place.stopped ≡ None = ap (λ (o : OnPlace Router). o.place.stopped) (sym led.1.same ∙ led.2) ∙ going in
      absurd (cc (led.1.stopped, stays))
  by_became became.Gone ready fault entries old new h l going =
      let led = subst (λ (es : List DeskEntry). Leads (PlaceStep IsRoute never at) old es new) h.1 l in
      rests became.Gone entries old.place new.place refl (ap (λ (o : OnPlace Router). o.place.state) (sym led.2 ∙ led.1.same)) led.1.going

  -- the place is not stopped and keeps another incarnation
  missed : (told : Became) (ready : Bool) (fault : Option DeskFault) (entries : List DeskEntry) (old new : OnPlace Router) → HoldsBy told at what now ready fault entries
      → Leads (PlaceStep IsRoute never at) old entries new → told ≡ became.Gone → (old.place.stopped ≡ None) × (kept_incarnation old.place.state ≡ at.incarnation → ⊥)
  missed told ready fault entries old new h l is =
      let gone = subst (λ (b : Became). HoldsBy b at what now ready fault entries) is h in
      let led = subst (λ (es : List DeskEntry). Leads (PlaceStep IsRoute never at) old es new) gone.1 l in
      (led.1.going, λ same. led.1.other (sym led.1.kept_is ∙ same))

  pub hold_facts : (outcome : Outcome) (entries : List DeskEntry) (old new : OnPlace Router) → Holds at what now outcome entries → Leads (PlaceStep IsRoute never at) old entries new
      → Facts at what outcome.became entries old.place new.place
  hold_facts outcome entries old new h l = by h.first h.prepares (subst (λ (es : List DeskEntry). Leads (PlaceStep IsRoute never at) old es new) h.entries_are l)
    where
      by : (first : List DeskEntry) → Prepares at first → Leads (PlaceStep IsRoute never at) old (first ++ h.more) new → Facts at what outcome.became entries old.place new.place
      by first (inl none) led =
          let bare = subst (λ (fs : List DeskEntry). Leads (PlaceStep IsRoute never at) old (fs ++ h.more) new) none led in
          let when = by_became outcome.became outcome.ready outcome.fault h.more old new h.holds bare in
          record {
            going = λ going. (when going).stood;
            keeps = λ going. (when going).keeps;
            counts = λ going. (when going).counts;
            gone = missed outcome.became outcome.ready outcome.fault h.more old new h.holds bare;
          }
      by first (inr stirred) led =
          let both = subst (λ (fs : List DeskEntry). Leads (PlaceStep IsRoute never at) old (fs ++ h.more) new) stirred.3 led in
          let when = by_became outcome.became outcome.ready outcome.fault h.more both.0 new h.holds both.2 in
          let state : both.0.place.state ≡ old.place.state = both.1.stirred.state in
          record {
            going = λ going. both.1.stirred.going;
            keeps = λ going other. (when going).keeps other ∙ ap kept_incarnation state;
            counts = λ going is done. (when going).counts is done ∙ ap (λ (s : State). kept_incarnation s + 1) state;
            gone = λ is. (both.1.stirred.going, λ kept. (missed outcome.became outcome.ready outcome.fault h.more both.0 new h.holds both.2 is).1 (ap kept_incarnation state ∙ kept));
          }
