-- A consumer as the records of a log make it: as it was stored, as it starts, and as its spent deliveries are given up one by one.
use Rattle.std.proofs.Common.{◌≡◌, ℕ, ◌≤◌, List, [], length, refl, sym, ap, ◌∙◌, arith}
use Rattle.std.proofs.lemmas.List.Elements.{All-weaker}
use Rattle.js_base.specs.Bytes.{Bytes}
use Rattle.js_model.specs.declared.stream.Message.{Message}
use Rattle.js_model.specs.declared.consumer_config.ConsumerConfig.{ConsumerConfig}
use Rattle.js_model.specs.declared.consumer.Pull.{Pull}
use Rattle.js_model.specs.declared.consumer.Consumer.{Consumer}
use Rattle.js_model.specs.Lists.{Between}
use Rattle.js_model.proofs.Parts.{between_lower}
use Rattle.model_laws.specs.Sound.{IsCounted}
use Rattle.consumer_progress.proofs.Kept.{start_progress}
use Rattle.effects.specs.Folding.{consumer_from}
use Rattle.replayed_consumer.specs.Replayed.{IsReplayable}
use Rattle.replayed_consumer.specs.Storable.{IsStorableConsumer}

-- what may be held can be replayed
pub storable_replayable : (messages : List Message) (last : ℕ) (c : Consumer) → IsStorableConsumer messages last c → c.waiting ≡ [] → c.mark ≡ c.made → IsReplayable c
storable_replayable messages last c h waiting mark = let k = h.stored in let b = h.bounded in record {
  progress = record {
    picks = between_lower (λ n. n) 0 1 c.cursor c.picks (omega arith) k.picks;
    pending = between_lower (λ p. p.seq) 0 1 c.cursor c.pending (omega arith) k.pending;
    given_up = between_lower (λ n. n) 0 1 c.cursor c.given_up (omega arith) k.given_up;
    picks_pending = k.picks_pending;
    picks_given_up = k.picks_given_up;
    pending_given_up = k.pending_given_up;
    counts = All-weaker (IsCounted c.dseq c.config.max_deliver) (λ p. p.count ≤ c.dseq) (λ p e. e.most) c.pending k.counts;
    few_picks = let q : length c.picks ≤ 65536 = b.picks in omega (arith, q);
    few_delivered = let q : length c.pending ≤ 65536 = b.pending in let r : length c.given_up ≤ 65536 = b.given_up in omega (arith, q, r);
  };
  few = let q : length c.pending ≤ 65536 = b.pending in let r : length c.given_up ≤ 65536 = b.given_up in omega (arith, q, r);
  waiting = waiting;
  mark = mark;
}

-- it has what its tables show and nothing else
pub replayable_is : (c : Consumer) → IsReplayable c → record c { waiting = []; mark = c.made } ≡ c
replayable_is c k = ap (λ (ps : List Pull). record c { waiting = ps; mark = c.made }) (sym k.waiting) ∙ ap (λ (n : ℕ). record c { mark = n }) (sym k.mark)

pub start_replayable : (name : Bytes) (made : ℕ) (config : ConsumerConfig) (cursor : ℕ) (picks : List ℕ) → Between (λ n. n) 0 cursor picks → length picks ≤ 65536 → IsReplayable (consumer_from name made config cursor picks)
start_replayable name made config cursor picks h few = record { progress = start_progress cursor picks h (omega (arith, few)); few = omega arith; waiting = refl; mark = refl }

pub shown_replayable : (c : Consumer) → IsReplayable c → IsReplayable (record c { waiting = []; mark = c.made })
shown_replayable c k = record { progress = k.progress; few = k.few; waiting = refl; mark = refl }
