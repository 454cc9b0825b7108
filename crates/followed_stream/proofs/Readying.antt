-- A consumer before time has passed for it.
use Rattle.std.proofs.Common.{◌≡◌, ℕ, Bool, true, false, not, List, refl, sym, ap, subst, ◌∙◌}
use Rattle.std.specs.Prelude.{filter}
use Rattle.std.specs.Bool.{OnTrue}
use Rattle.std.specs.List.{list_any}
use Rattle.std.proofs.lemmas.Bool.{and_parts}
use Rattle.js_model.specs.declared.stream.Message.{Message}
use Rattle.js_model.specs.declared.stream.Stream.{Stream}
use Rattle.js_model.specs.Advance.{is_spent, young}
use Rattle.consumer_need.specs.Stored.{HoldsStored}
use Rattle.consumer_progress.specs.GivingUp.{IsUnspent}
use Rattle.consumer_state.specs.Before.{current_of, is_at, LawAt}
use Rattle.consumer_state.specs.Delivering.{IsReady}
use Rattle.consumer_state.specs.Keeping.{IsConsumer}
use Rattle.consumer_state.specs.Offering.{IsCurrent}
use Rattle.consumer_state.proofs.Filters.{filter_none}
use Rattle.consumer_state.proofs.Steps.{unspent_left}
use Rattle.stored_stream.specs.Later.{later}
use Rattle.stored_stream.specs.Stored.{IsSound}
use Rattle.followed_stream.specs.Followers.{Following, IsCounted}
use Rattle.followed_stream.specs.Seen.{IsHeldIn}

not_true : (b : Bool) → not b ≡ true → b ≡ false
not_true true h = absurd cc
not_true false h = refl

pub on_true : (b : Bool) (P : Type 0) → (b ≡ true → P) → OnTrue b P
on_true true P h = h refl
on_true false P h = tt

-- where no message is too old, the consumer is seen as it is stored
pub held_later : (s : Stream) (now : ℕ) (f : Following) → IsSound s → HoldsStored s f.consumer → IsCounted s.messages f → young s now ≡ s.messages → IsHeldIn (later s now) f
held_later s now f sound held counted same = subst (λ (a : Stream). IsHeldIn a f) (sym is) (record {
  order = record { ascends = sound.ascends; bound = sound.last };
  held = record { picks = held.picks; pending = held.pending; given_up = held.given_up };
  counted = counted;
})
  where
    is : later s now ≡ record s { moment = now }
    is = ap (λ (ms : List Message). record s { messages = ms; moment = now }) same

module _ (a : Stream) (f : Following) (held : IsHeldIn a f) (at : is_at a.moment f.consumer ≡ true) where
  -- the consumer stands at that moment already
  pub current_in : IsConsumer f.consumer → IsCurrent a f.consumer f.undelivered
  current_in kept = record {
    order = held.order;
    stored = held.held;
    unspent = subst (IsUnspent a.moment f.consumer.config.max_deliver) unspent (unspent_left a.moment f.consumer.config.max_deliver f.consumer.pending kept.counts);
    count = held.counted;
  }
    where
      unspent : filter (λ p. not (is_spent a.moment f.consumer p)) f.consumer.pending ≡ f.consumer.pending
      unspent = filter_none (is_spent a.moment f.consumer) f.consumer.pending (not_true (list_any (is_spent a.moment f.consumer) f.consumer.pending) (and_parts _ _ at).0)

  -- so what can be delivered by then can be delivered now
  pub ready_in : LawAt → (listened ready : Bool) → IsReady a listened f.consumer ready → IsReady a listened (current_of a f.consumer) ready
  ready_in law listened ready h listening heard = h listening heard ∙ sym (law a f.consumer listening held.held at)
