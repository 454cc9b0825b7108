-- What a tick leaves, and what is answered once time has passed.
use Rattle.std.proofs.Common.{◌≡◌, ◌∙◌, ℕ, Bool, List, ◌++◌, append-nil, refl, sym, ap, subst}
use Rattle.std.proofs.lemmas.List.{append_assoc}
use Rattle.js_base.specs.declared.out.Out.{Out}
use Rattle.js_model.specs.declared.stream.Stream.{Stream}
use Rattle.js_model.specs.declared.stream.State.{State}
use Rattle.js_model.specs.declared.stream.State.TheVariants.{Vacant, Live}
use Rattle.js_model.specs.declared.event.What.{What}
use Rattle.js_model.specs.declared.event.What.TheVariants.{Tick}
use Rattle.js_model.specs.declared.reply.Reply.{Reply}
use Rattle.js_model.specs.declared.reply.Reply.TheVariants.{Silent}
use Rattle.js_model.specs.Advance.{advance, advance_outs}
use Rattle.js_model.specs.Events.{answered, settled, settled_state, stream_answer}
use Rattle.js_model.specs.StateMoments.{state_at}
use Rattle.place_engine.specs.InMemory.{left_of}
use Rattle.memory_place.specs.Answers.{outs_by, AnswersThenIn, LeftBy, PlaceAnswers, PlaceAnswersIn}

-- a stream is left as a tick leaves it
pub ticked : (s : Stream) (now : ℕ) (outs_old outs_new : List Out) (new : State) → new ≡ Live (settled (advance s now)) → outs_new ≡ outs_old ++ advance_outs s now
    → PlaceAnswers (Live s) Tick now Silent outs_old outs_new new
unfolding answered
ticked s now outs_old outs_new new is sent incarnation = record {
  reply_is = refl;
  outs_are = sent ∙ ap (λ (more : List Out). outs_old ++ more) (sym (append-nil (advance_outs s now)));
  state_is = is;
}

-- a place is, and says so if there is a stream
pub left_behind : (old mid new : State) (now : ℕ) (outs_old outs_new : List Out) → mid ≡ state_at old now → new ≡ settled_state mid → outs_new ≡ outs_old ++ outs_by old now
    → LeftBy (left_of mid) old now outs_old outs_new new
left_behind old mid new now outs_old outs_new passed is sent = subst (λ (m : State). LeftBy (left_of m) old now outs_old outs_new new) (sym passed) (go old sent (is ∙ ap settled_state passed))
  where
    go : (o : State) → outs_new ≡ outs_old ++ outs_by o now → new ≡ settled_state (state_at o now) → LeftBy (left_of (state_at o now)) o now outs_old outs_new new
    go (Vacant i) sent is = (is, sent ∙ append-nil outs_old)
    go (Live s) sent is = ticked s now outs_old outs_new new is sent

-- what was asked once time had passed is answered
pub answers_after : (room : Bool) (old mid : State) (what : What) (now : ℕ) (reply : Reply) (outs_old outs_mid outs_new : List Out) (new : State) → mid ≡ state_at old now → outs_mid ≡ outs_old ++ outs_by old now
    → AnswersThenIn room mid what now reply outs_mid outs_new new → PlaceAnswersIn room old what now reply outs_old outs_new new
unfolding answered
answers_after room (Vacant i) mid what now reply outs_old outs_mid outs_new new passed sent answers incarnation =
    subst (λ (outs : List Out). AnswersThenIn room (Vacant i) what now reply outs outs_new new) (sent ∙ append-nil outs_old) (subst (λ (m : State). AnswersThenIn room m what now reply outs_mid outs_new new) passed answers)
answers_after room (Live s) mid what now reply outs_old outs_mid outs_new new passed sent answers incarnation =
    let then : AnswersThenIn room (Live (advance s now)) what now reply outs_mid outs_new new = subst (λ (m : State). AnswersThenIn room m what now reply outs_mid outs_new new) passed answers in
    let own : List Out = (stream_answer (advance s now) what room).outs in
    record {
      reply_is = then.reply_is;
      outs_are = then.outs_are ∙ ap (λ (outs : List Out). outs ++ own) sent ∙ append_assoc outs_old (advance_outs s now) own;
      state_is = then.state_is;
    }
