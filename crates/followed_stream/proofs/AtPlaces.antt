-- What a stream and its consumers come to if the one at a place is asked.
use Rattle.std.proofs.Common.{◌≡◌, ℕ, ◌-◌, ◌^◌, ◌<◌, Bool, false, cond, List, [], ◌∷◌, ◌++◌, Option, Some, None, Result, Ok, Err, get_or, set, length, map, refl, sym, ap, subst, ◌∙◌}
use Rattle.std.specs.Prelude.{Contains, IfOk, OnErr, OnOk, filter, nat_lt, not, option_map, slice_get}
use Rattle.std.specs.List.{remove}
use Rattle.std.proofs.lemmas.Option.{slice_get-map}
use Rattle.std.proofs.lemmas.List.Elements.{All-get_or, All-weaker}
use Rattle.js_base.specs.Bytes.{Bytes, same}
use Rattle.js_base.specs.declared.out.Out.{Out}
use Rattle.js_model.specs.declared.ack.Ask.{Ask}
use Rattle.js_model.specs.declared.ack.AckKind.{AckKind}
use Rattle.js_model.specs.declared.stream.Id.{Id}
use Rattle.js_model.specs.declared.stream.Message.{Message}
use Rattle.js_model.specs.declared.stream.Stream.{Stream}
use Rattle.js_model.specs.declared.consumer.Consumer.{Consumer}
use Rattle.js_model.specs.declared.consumer_config.ConsumerConfig.{ConsumerConfig}
use Rattle.js_model.specs.declared.entry.Delivered.{Delivered}
use Rattle.js_model.specs.declared.entry.Delivered.TheVariants.{Sent, TooSmall, Emptied}
use Rattle.js_model.specs.Advance.{aged, consumer_at, remembered, stream_at, young}
use Rattle.js_model.specs.Deliver.{candidates, due_messages, may_wait, next_message, or_next, Delivers}
use Rattle.js_model.specs.Events.{farewells}
use Rattle.js_model.specs.Pulls.{pulled, pull_outs}
use Rattle.js_model.specs.Ready.{is_ready_with}
use Rattle.js_model.specs.Retention.{needs}
use Rattle.js_model.specs.Streams.{confined, passes_filter, seqs, takes, with_consumer}
use Rattle.consumer_need.specs.Stored.{HoldsStored}
use Rattle.consumer_state.specs.Before.{current_of}
use Rattle.consumer_state.specs.Delivering.{IsReady}
use Rattle.consumer_state.specs.DueAgain.{changed_due}
use Rattle.consumer_state.specs.Offering.{IsCurrent}
use Rattle.stored_stream.specs.Later.{later}
use Rattle.followed_stream.specs.Asked.{acked, acked_outs, AcksAt, DropsAt, IsAcked, PullsAt}
use Rattle.followed_stream.specs.declared.answering.Acked.{Acked}
use Rattle.followed_stream.specs.Attended.{IsAttended}
use Rattle.followed_stream.specs.Delivering.{AreCurrent, IsCurrentAt, IsReadyAt, IsReadyIf}
use Rattle.followed_stream.specs.Followers.{attended, AreFollowed, Following, IsCounted}
use Rattle.followed_stream.specs.Handing.{is_of, DeliversFor, MayHandAt}
use Rattle.followed_stream.specs.Needing.{NeedSame}
use Rattle.followed_stream.proofs.Acking.{acked_lessens, pulled_lessens, pulled_needs, takes_same, turned, Lessens}
use Rattle.followed_stream.proofs.Changing.{all_there, changed, consumers_of, followed_changed, need_same_there, set_own, there, Turns}
use Rattle.followed_stream.proofs.Makes.{dropped, followed_dropped}

-- ---- of what candidates and readiness are told

-- the ids and the other consumers have no part in it
candidates_alike : (s : Stream) (ids : List Id) (cs : List Consumer) (c : Consumer) → candidates (record s { ids = ids; consumers = cs }) c ≡ candidates s c
unfolding candidates
candidates_alike s ids cs c = ap (λ (ms : List Message). cond (nat_lt c.dseq (2 ^ 62 - 1)) ms []) (or_same (due_messages s c))
  where
    next_same : (picks : List ℕ) → next_message picks (record s { ids = ids; consumers = cs }) c ≡ next_message picks s c
    next_same [] = refl
    next_same (pick ∷ picks) = refl

    or_same : (ms : List Message) → or_next ms (record s { ids = ids; consumers = cs }) c ≡ or_next ms s c
    or_same [] = ap (λ (ms : List Message). cond (may_wait c) ms []) (next_same c.picks)
    or_same (m ∷ ms) = refl

candidates_as : (s : Stream) (cs : List Consumer) (c : Consumer) → candidates (record s { consumers = cs }) c ≡ candidates s c
candidates_as s cs c = candidates_alike s s.ids cs c

candidates_later : (s : Stream) (cs : List Consumer) (now : ℕ) (c : Consumer) → candidates (record (aged s now) { consumers = cs }) c ≡ candidates (later s now) c
candidates_later s cs now c = candidates_alike (later s now) (remembered s now) cs c

pub ready_as : (s : Stream) (cs : List Consumer) (listened : Bool) (c : Consumer) (ready : Bool) → IsReady s listened c ready → IsReady (record s { consumers = cs }) listened c ready
ready_as s cs listened c ready h listening heard = h listening heard ∙ ap (λ (ms : List Message). is_ready_with ms listening c) (sym (candidates_as s cs c))

delivers_as : (s : Stream) (cs : List Consumer) (listening : List Bytes) (c : Consumer) (what : Delivered) (outs : List Out) (after : Consumer) → Delivers s listening c what outs after → Delivers (record s { consumers = cs }) listening c what outs after
delivers_as s cs listening c (Sent seq count dseq) outs after d = record {
  message = d.message;
  candidate = subst (λ (ms : List Message). Contains ms d.message) (sym (candidates_as s cs c)) d.candidate;
  seq_is = d.seq_is;
  wanted = d.wanted;
  count_is = d.count_is;
  dseq_is = d.dseq_is;
  after_is = d.after_is;
  outs_are = d.outs_are;
}
delivers_as s cs listening c TooSmall outs after d = record {
  message = d.message;
  front = d.front;
  rest = d.rest;
  candidate = subst (λ (ms : List Message). Contains ms d.message) (sym (candidates_as s cs c)) d.candidate;
  pull = d.pull;
  waiting_is = d.waiting_is;
  small = d.small;
  after_is = d.after_is;
  outs_are = d.outs_are;
}
delivers_as s cs listening c Emptied outs after d = record {
  pull = d.pull;
  none = candidates_as s cs c ∙ d.none;
  first = d.first;
  after_is = d.after_is;
  outs_are = d.outs_are;
}

-- ---- a call for the consumer at a place

module _ (s : Stream) (fs : List Following) (h : AreFollowed s fs) (i : ℕ) (old : Following) (within : i < length fs) (at : old ≡ get_or fs i old) where
  abbrev whole : Stream
  whole = attended s fs

  found : slice_get whole.consumers i ≡ Some old.consumer
  found = there fs i old within ∙ ap (λ (f : Following). Some f.consumer) (sym at)

  -- what the stream is afterwards, whether or not the call went well
  pub record Follows {T E : Type 0} (result : Result T E) (P : T → Stream → Type 0) (new : Following) : Type 0 where
    pub followed : AreFollowed s (set fs i new)
    pub ok : IfOk result (λ x. P x (attended s (set fs i new)))
    pub sound : OnOk result (IsAttended (attended s (set fs i new)))
    pub err : OnErr result (attended s (set fs i new) ≡ whole)

  stays : Turns whole old old
  stays = record { name = refl; held = λ k. k; counted = λ k. k }

  unchanged : (new : Following) → new ≡ old → attended s (set fs i new) ≡ whole
  unchanged new e = ap (λ (f : Following). attended s (set fs i f)) (e ∙ at) ∙ ap (λ (gs : List Following). attended s gs) (set_own fs i old)

  module _ (new : Following) (turns : Turns whole old new) where
    placed : Turns whole (get_or fs i old) new
    placed = subst (λ (f : Following). Turns whole f new) at turns

    followed_with : AreFollowed s (set fs i new)
    followed_with = followed_changed s fs h i old within new placed

    whole_with : attended s (set fs i new) ≡ with_consumer whole new.consumer
    whole_with = changed s fs h i old within new placed

    need_same : (m : Message) → needs new.consumer m ≡ needs old.consumer m → takes new.consumer m ≡ takes old.consumer m → NeedSame m (attended s (set fs i new)).consumers whole.consumers
    need_same m n t =
        subst (λ (x : Stream). NeedSame m x.consumers whole.consumers) (sym whole_with)
        (need_same_there s fs h i old within new placed m (n ∙ ap (λ (f : Following). needs f.consumer m) at) (t ∙ ap (λ (f : Following). takes f.consumer m) at))

  -- it failed
  fails : {T E : Type 0} (e : E) (P : T → Stream → Type 0) (new : Following) → new ≡ old → Follows (Err e) P new
  fails e P new same = record {
    followed = followed_with new (subst (Turns whole old) (sym same) stays);
    ok = tt;
    sound = tt;
    err = unchanged new same;
  }

  -- it went well
  goes : {T E : Type 0} (x : T) (P : T → Stream → Type 0) (new : Following) → Turns whole old new → P x (attended s (set fs i new)) → Follows {T = T} {E = E} (Ok x) P new
  goes x P new turns holds = record {
    followed = followed_with new turns;
    ok = holds;
    sound = (followed_with new turns).attended;
    err = tt;
  }

  -- ---- a pull

  pub pulls : {T E : Type 0} (result : Result T E) (now : ℕ) (reply : Option Bytes) (ask : Option Ask) (outs_old outs_new : List Out) (new : Following) → now ≡ s.moment → OnOk result (new ≡ record old { consumer = pulled now reply ask old.consumer })
      → OnOk result (outs_new ≡ outs_old ++ pull_outs reply ask old.consumer) → OnErr result (new ≡ old) → Follows result (λ x t. PullsAt whole i reply ask outs_old outs_new t) new
  pulls (Err e) now reply ask outs_old outs_new new when is outs same = fails e _ new same
  pulls (Ok x) now reply ask outs_old outs_new new when is outs same = goes x _ new turns (record {
    consumer = old.consumer;
    found = found;
    outs = outs;
    left = whole_with new turns ∙ ap (λ (f : Following). with_consumer whole f.consumer) is ∙ ap (λ n. with_consumer whole (pulled n reply ask old.consumer)) when;
    needed = λ m. need_same new turns m (ap (λ (f : Following). needs f.consumer m) is ∙ pulled_needs now reply ask old.consumer m) (ap (λ (f : Following). takes f.consumer m) is ∙ takes_same whole old.consumer (pulled now reply ask old.consumer) m (pulled_lessens now reply ask old.consumer whole));
  })
    where
      turns : Turns whole old new
      turns = subst (Turns whole old) (sym is) (turned whole old (pulled now reply ask old.consumer) (pulled_lessens now reply ask old.consumer whole))

  -- ---- an acknowledgement

  pub acks_at : {E : Type 0} (result : Result Acked E) (now : ℕ) (reply : Option Bytes) (n : ℕ) (kind : AckKind) (outs_old outs_new : List Out) (new : Following) → now ≡ s.moment → IfOk result (λ told. IsAcked now reply n kind old told outs_old outs_new new)
      → OnErr result (new ≡ old) → Follows result (λ told t. AcksAt whole i reply n kind told outs_old outs_new t) new
  acks_at (Err e) now reply n kind outs_old outs_new new when is same = fails e _ new same
  acks_at (Ok told) now reply n kind outs_old outs_new new when is same = goes told _ new turns (record {
    consumer = old.consumer;
    found = found;
    reply_is = is.reply_is;
    ended = is.ended;
    due = is.due ∙ ap (λ k. changed_due k n kind old.consumer) when;
    outs = is.outs ∙ ap (λ k. outs_old ++ acked_outs k reply n kind old.consumer) when;
    left = whole_with new turns ∙ ap (λ (f : Following). with_consumer whole f.consumer) is.left ∙ ap (λ k. with_consumer whole (acked k reply n kind old.consumer)) when;
    loose = λ m e. need_same new turns m (is.loose m e) (takes_same whole old.consumer new.consumer m lessens);
  })
    where
      lessens : Lessens whole old.consumer new.consumer
      lessens = subst (λ (f : Following). Lessens whole old.consumer f.consumer) (sym is.left) (acked_lessens whole now reply n kind old.consumer)

      turns : Turns whole old new
      turns = subst (Turns whole old) (sym is.left) (turned whole old (acked now reply n kind old.consumer) (acked_lessens whole now reply n kind old.consumer))

  -- ---- a delivery

  -- it holds stored messages alone, and is counted
  pub held_there : HoldsStored s old.consumer
  held_there =
      let k = subst (λ (f : Following). HoldsStored whole f.consumer) (sym at) (all_there (HoldsStored whole) fs i old within h.attended.held) in
      record { picks = k.picks; pending = k.pending; given_up = k.given_up }

  pub counted_there : IsCounted s.messages old
  counted_there = subst (IsCounted s.messages) (sym at) (All-get_or (IsCounted s.messages) fs i old within h.counted)

  -- it stands at the stream's moment
  pub current_there : AreCurrent whole → IsCurrent s old.consumer old.undelivered
  current_there current = record {
    order = record { ascends = h.attended.sound.ascends; bound = h.attended.sound.last };
    stored = held_there;
    unspent = subst (λ (f : Following). IsCurrentAt s.moment f.consumer) (sym at) (all_there (IsCurrentAt s.moment) fs i old within current.unspent);
    count = counted_there;
  }

  pub ready_there : (listened ready : Bool) → IsReady s listened old.consumer ready → IsReadyAt whole i listened ready
  ready_there listened ready r = subst (λ (o : Option Consumer). IsReadyIf whole o listened ready) (sym found) (ready_as s (consumers_of fs) listened old.consumer ready r)

  -- the same at a later moment
  pub ready_by_there : (now : ℕ) (listened ready : Bool) → IsReady (later s now) listened (current_of (later s now) old.consumer) ready → IsReadyAt (stream_at whole now) i listened ready
  ready_by_there now listened ready r =
      subst (λ (o : Option Consumer). IsReadyIf (stream_at whole now) o listened ready) (sym got_later)
      (λ listening heard. r listening heard ∙ ap (λ (ms : List Message). is_ready_with ms listening (current_of (later s now) old.consumer)) (sym (candidates_later s (stream_at whole now).consumers now (current_of (later s now) old.consumer))))
    where
      confine : Consumer → Consumer
      confine = confined (seqs (young s now))

      got_later : slice_get (stream_at whole now).consumers i ≡ Some (consumer_at now (confine old.consumer))
      got_later =
          slice_get-map (consumer_at now) (map confine whole.consumers) i
          ∙ ap (option_map (consumer_at now)) (slice_get-map confine whole.consumers i ∙ ap (option_map confine) found)

  pub hands_at : {E : Type 0} (result : Result (Option Delivered) E) (listened : Bool) (outs_old outs_new : List Out) (new : Following) → IfOk result (λ what. DeliversFor s listened old what outs_old outs_new new) → OnErr result (new ≡ old)
      → Follows result (λ what t. MayHandAt whole i listened what outs_old outs_new t) new
  hands_at (Err e) listened outs_old outs_new new is same = fails e _ new same
  hands_at (Ok None) listened outs_old outs_new new is same = goes None _ new (subst (Turns whole old) (sym is.same) stays) (record {
    unready = ready_there listened false is.unready;
    outs_same = is.outs_same;
    same = unchanged new is.same;
  })
  hands_at (Ok (Some what)) listened outs_old outs_new new is same = goes (Some what) _ new turns (record {
    consumer = old.consumer;
    after = new.consumer;
    own = is.own;
    found = found;
    outs_are = is.outs_are;
    delivers = λ listening heard. delivers_as s (consumers_of fs) listening old.consumer what is.own new.consumer (is.delivers listening heard);
    left = whole_with new turns;
    needed = All-weaker (λ (m : Message). is_of what m.seq ≡ false → needs new.consumer m ≡ needs old.consumer m) (λ m. is_of what m.seq ≡ false → NeedSame m (attended s (set fs i new)).consumers whole.consumers)
        (λ m f e. need_same new turns m (f e) (ap (λ (config : ConsumerConfig). passes_filter config.filter_subject m.subject) is.filter_same))
        s.messages is.needed;
  })
    where
      turns : Turns whole old new
      turns = record {
        name = is.name;
        held = λ k. let w = is.held in record { picks = w.picks; pending = w.pending; given_up = w.given_up };
        counted = λ k. is.counted;
      }

  -- ---- its end

  pub drops : (outs_old outs_new : List Out) → outs_new ≡ outs_old ++ farewells old.consumer → DropsAt whole i outs_old outs_new (attended s (remove fs i))
  drops outs_old outs_new outs = record {
    consumer = old.consumer;
    found = found;
    outs = outs;
    left = dropped s fs h i old within ∙ ap (λ (f : Following). record whole { consumers = filter (λ e. not (same e.name f.consumer.name)) whole.consumers }) (sym at);
  }

  pub followed_without : AreFollowed s (remove fs i)
  followed_without = followed_dropped s fs h i old within
