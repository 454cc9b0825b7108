-- What the calls on consumers answer, and which messages they leave kept.
use Rattle.std.proofs.Common.{◌≡◌, ℕ, Bool, true, false, cond, List, [], ◌∷◌, ◌++◌, Option, Some, None, append-nil, map, refl, sym, ap, subst, ◌∙◌}
use Rattle.std.specs.Prelude.{All, slice_get}
use Rattle.js_base.specs.Bytes.{Bytes, same}
use Rattle.js_base.specs.declared.out.Out.{Out}
use Rattle.js_base.specs.declared.out.ApiError.{ApiError}
use Rattle.js_model.specs.declared.ack.Ask.{Ask}
use Rattle.js_model.specs.declared.ack.AckKind.{AckKind}
use Rattle.js_model.specs.declared.stream.Message.{Message}
use Rattle.js_model.specs.declared.stream.Stream.{Stream}
use Rattle.js_model.specs.declared.stream.State.TheVariants.{Live}
use Rattle.js_model.specs.declared.consumer.Consumer.{Consumer}
use Rattle.js_model.specs.declared.entry.Delivered.{Delivered}
use Rattle.js_model.specs.declared.reply.Reply.TheVariants.{Done, Nobody, Refused, Silent}
use Rattle.js_model.specs.Acknowledge.{acknowledged, is_no_delivery}
use Rattle.js_model.specs.Events.{ack_answer, ack_done, ack_reply, after_ack, consumer_dropped, next_ask, next_outs, pull_answer, quietly}
use Rattle.js_model.specs.Refusals.{no_consumer}
use Rattle.js_model.specs.Retention.{is_kept}
use Rattle.js_model.specs.Streams.{by_name, in_place_of, with_consumer}
use Rattle.js_model.proofs.Members.{all_in}
use Rattle.js_model.proofs.Named.{found_named, same_is, some_is}
use Rattle.stream_state.specs.Answering.{Answers}
use Rattle.followed_stream.specs.Asked.{AcksAt, DropsAt, PullsAt}
use Rattle.followed_stream.specs.declared.answering.Acked.{Acked}
use Rattle.followed_stream.specs.Attended.{AreNamedApart}
use Rattle.followed_stream.specs.Handing.{is_of}
use Rattle.followed_stream.specs.Needing.{NeedSame}
use Rattle.followed_stream.specs.Placing.{IsNamedAt}
use Rattle.followed_stream.specs.Spans.{joined, spans, IsKeptOutside}
use Rattle.followed_stream.specs.declared.span.Span.{Span}
use Rattle.followed_stream.proofs.Changing.{none_placed}
use Rattle.followed_stream.proofs.Needing.{kept_alike}
use Rattle.stream_state.proofs.Settling.{outside_same}
use Rattle.followed_stream.proofs.Spanning.{outside_first, outside_second}
use Rattle.followed_stream.proofs.Holding.{all_from_in}
use Rattle.stream_state.proofs.Unkept.{keeps}

-- ---- the consumer itself in its place

own_placed : (c : Consumer) (cs : List Consumer) → AreNamedApart cs → by_name cs c.name ≡ Some c → map (in_place_of c) cs ≡ cs
own_placed c [] a e = refl
own_placed c (d ∷ ds) a e = go (same d.name c.name) refl e (own_placed c ds a.1)
  where
    go : (b : Bool) → same d.name c.name ≡ b → cond b (Some d) (by_name ds c.name) ≡ Some c → (by_name ds c.name ≡ Some c → map (in_place_of c) ds ≡ ds) → cond b c d ∷ map (in_place_of c) ds ≡ d ∷ ds
    go true q k r =
        ap (λ (x : Consumer). x ∷ map (in_place_of c) ds) (sym (some_is k))
        ∙ ap (λ (l : List Consumer). d ∷ l) (none_placed ds c (ap (by_name ds) (sym (same_is d.name c.name q)) ∙ a.0))
    go false q k r = ap (λ (l : List Consumer). d ∷ l) (r k)

-- ---- answers

module _ (s : Stream) (name : Bytes) where
  -- the one that was asked is the one of the name
  is_named : (place : ℕ) (c : Consumer) → IsNamedAt s.consumers name place → slice_get s.consumers place ≡ Some c → by_name s.consumers name ≡ Some c
  is_named place c at found = sym at.found ∙ found

  own_same : (c : Consumer) → AreNamedApart s.consumers → by_name s.consumers name ≡ Some c → with_consumer s c ≡ s
  own_same c apart e = ap (λ (cs : List Consumer). record s { consumers = cs }) (own_placed c s.consumers apart (ap (by_name s.consumers) (found_named s.consumers name c e) ∙ e))

  -- nobody has it
  pub nobody_pulls : (reply : Option Bytes) (ask : Option Ask) (outs : List Out) → by_name s.consumers name ≡ None → Answers (pull_answer s reply ask (by_name s.consumers name)) Nobody outs outs s
  nobody_pulls reply ask outs e = subst (λ (o : Option Consumer). Answers (pull_answer s reply ask o) Nobody outs outs s) (sym e) (record { reply = refl; outs = sym (append-nil outs); state = refl })

  pub nobody_acks : (reply : Option Bytes) (n : ℕ) (kind : AckKind) (outs : List Out) → by_name s.consumers name ≡ None → Answers (ack_answer s reply n kind (by_name s.consumers name)) Silent outs outs s
  nobody_acks reply n kind outs e = subst (λ (o : Option Consumer). Answers (ack_answer s reply n kind o) Silent outs outs s) (sym e) (record { reply = refl; outs = sym (append-nil outs); state = refl })

  pub nobody_drops : (told : ApiError) (outs : List Out) → by_name s.consumers name ≡ None → told ≡ no_consumer → Answers (consumer_dropped s (by_name s.consumers name)) (Refused told) outs outs s
  nobody_drops told outs e is = subst (λ (o : Option Consumer). Answers (consumer_dropped s o) (Refused told) outs outs s) (sym e) (record { reply = ap Refused is; outs = sym (append-nil outs); state = refl })

  pub pull_told : (place : ℕ) (reply : Option Bytes) (ask : Option Ask) (outs_old outs_new : List Out) (new : Stream) → IsNamedAt s.consumers name place → PullsAt s place reply ask outs_old outs_new new
      → Answers (pull_answer s reply ask (by_name s.consumers name)) Silent outs_old outs_new new
  pull_told place reply ask outs_old outs_new new at p =
      subst (λ (o : Option Consumer). Answers (pull_answer s reply ask o) Silent outs_old outs_new new) (sym (is_named place p.consumer at p.found)) (record { reply = refl; outs = p.outs; state = ap Live (sym p.left) })

  pub drop_told : (place : ℕ) (outs_old outs_new : List Out) (new : Stream) → IsNamedAt s.consumers name place → DropsAt s place outs_old outs_new new → Answers (consumer_dropped s (by_name s.consumers name)) Done outs_old outs_new new
  drop_told place outs_old outs_new new at p =
      subst (λ (o : Option Consumer). Answers (consumer_dropped s o) Done outs_old outs_new new) (sym (is_named place p.consumer at p.found)) (record { reply = refl; outs = p.outs; state = ap Live (sym p.left) })

  pub ack_told : (place : ℕ) (reply : Option Bytes) (n : ℕ) (kind : AckKind) (told : Acked) (outs_old outs_new : List Out) (new : Stream) → AreNamedApart s.consumers → IsNamedAt s.consumers name place
      → AcksAt s place reply n kind told outs_old outs_new new → Answers (ack_answer s reply n kind (by_name s.consumers name)) told.reply outs_old outs_new new
  ack_told place reply n kind told outs_old outs_new new apart at p =
      subst (λ (o : Option Consumer). Answers (ack_answer s reply n kind o) told.reply outs_old outs_new new) (sym named) (go (is_no_delivery c n) p.reply_is p.outs p.left)
    where
      c : Consumer
      c = p.consumer

      named : by_name s.consumers name ≡ Some c
      named = is_named place c at p.found

      go : (b : Bool) → told.reply ≡ cond b Silent (ack_reply kind) → outs_new ≡ outs_old ++ cond b [] (next_outs reply (next_ask kind) (acknowledged s.moment n kind c)) → new ≡ with_consumer s (cond b c (after_ack s.moment reply n kind c))
          → Answers (cond b (quietly Silent s) (ack_done s reply n kind c)) told.reply outs_old outs_new new
      go true replied outs left = record { reply = replied; outs = outs; state = ap Live (sym (left ∙ own_same c apart named)) }
      go false replied outs left = record { reply = replied; outs = outs; state = ap Live (sym left) }

-- ---- what is kept

module _ (loose : Span) (s t : Stream) (messages : t.messages ≡ s.messages) (retention : t.config.retention ≡ s.config.retention) (h : IsKeptOutside loose s) where
  pub outside_asked : ((m : Message) → NeedSame m t.consumers s.consumers) → IsKeptOutside loose t
  outside_asked f = outside_same loose loose s t messages retention (λ m e. e) (λ m e. f m) h

  pub outside_acked : (other : Span) → ((m : Message) → spans other m.seq ≡ false → NeedSame m t.consumers s.consumers) → IsKeptOutside (joined loose other) t
  outside_acked other f = outside_same loose (joined loose other) s t messages retention (λ m e. outside_first loose other m.seq e) (λ m e. f m (outside_second loose other m.seq e)) h

  pub outside_handed : (other : Span) (what : Delivered) → ((n : ℕ) → spans other n ≡ false → is_of what n ≡ false) → All (λ m. is_of what m.seq ≡ false → NeedSame m t.consumers s.consumers) s.messages → IsKeptOutside (joined loose other) t
  outside_handed other what out f = record {
    kept = subst (λ (ms : List Message). All (λ m. spans (joined loose other) m.seq ≡ false → keeps t m ≡ true) ms) (sym messages)
        (all_from_in (λ m. spans (joined loose other) m.seq ≡ false → keeps t m ≡ true) s.messages
        (λ m i e. kept_alike t.config.retention m t.consumers s.consumers (all_in (λ m. is_of what m.seq ≡ false → NeedSame m t.consumers s.consumers) s.messages f i (out m.seq (outside_second loose other m.seq e)))
        ∙ ap (λ policy. is_kept policy s.consumers m) retention
        ∙ all_in (λ m. spans loose m.seq ≡ false → keeps s m ≡ true) s.messages h.kept i (outside_first loose other m.seq e)));
  }
