-- What is kept of a consumer stays so when a message is sent to it.
use Rattle.std.proofs.Common.{◌≡◌, ℕ, ◌^◌, ◌<◌, ◌++◌, ◌∷◌, [], false, subst, sym, ap, ◌∙◌}
use Rattle.std.specs.Prelude.{Option, All, Result, Ok, Err, OnOk, OnErr}
use Rattle.std.proofs.lemmas.Bool.{true≢false}
use Rattle.js_base.specs.Bytes.{Bytes}
use Rattle.js_model.specs.declared.consumer.Pull.{Pull}
use Rattle.js_model.specs.declared.consumer_config.ConsumerConfig.{ConsumerConfig}
use Rattle.js_model.specs.Streams.{is_push, over_limit}
use Rattle.consumer_progress.specs.Progresses.{Progress}
use Rattle.consumer_progress.specs.Sending.{after_sent}
use Rattle.pull_queue.specs.Fronts.{after_front}
use Rattle.pull_queue.specs.Queue.{Queue}
use Rattle.consumer_state.specs.Keeping.{kept_of, IsKept}
use Rattle.consumer_state.specs.Sending.{IsSendable}
use Rattle.consumer_state.proofs.Keeping.{kept_pulls}
use Rattle.consumer_state.proofs.Steps.{again_in, counts_sent}

module _ (name : Bytes) (made : ℕ) (config : ConsumerConfig) (p : Progress) (q : Queue) (mark : ℕ) (h : IsKept name made config p q mark) (seq bytes : ℕ) (sendable : IsSendable (kept_of name made config p q mark) seq bytes) (due : Option ℕ) (p' : Progress) (sent : p' ≡ after_sent seq due p) where
  pub kept_sent : (mark' : ℕ) → IsKept name made config p' q mark'
  kept_sent mark' = record {
    consumer = record {
      once = h.consumer.once;
      counts = subst (λ (r : Progress). All (λ x. over_limit x.count config.max_deliver ≡ false) r.pending) (sym sent) (counts_sent config.max_deliver seq due p.pending (again_in (kept_of name made config p q mark) seq bytes sendable) h.consumer.counts);
      no_pulls = h.consumer.no_pulls;
      dseq = subst (λ (r : Progress). r.dseq < 2 ^ 62) (sym sent) sendable.dseq;
    };
    max_waiting = h.max_waiting;
  }

  pub kept_pulls_after : (size now : ℕ) (q' : Queue) → q' ≡ record q { pulls = after_front size now q.pulls } → IsKept name made config p' q' mark
  kept_pulls_after size now q' e = kept_pulls name made config p' q mark (kept_sent mark) q' mark (ap (λ r. r.max_waiting) e) (λ push none. ap (λ r. r.pulls) e ∙ ap (after_front size now) none)

-- a pull was asked for, or not
pub kept_asked : {T E : Type 0} (name : Bytes) (made : ℕ) (config : ConsumerConfig) (p : Progress) (q : Queue) (mark : ℕ) → IsKept name made config p q mark → (result : Result T E) (pull : Pull) (q' : Queue)
    → OnOk result (q' ≡ record q { pulls = q.pulls ++ pull ∷ [] }) → OnErr result (q' ≡ q) → is_push (kept_of name made config p q mark) ≡ false → IsKept name made config p q' mark
kept_asked name made config p q mark h (Ok x) pull q' e f pulled = kept_pulls name made config p q mark h q' mark (ap (λ r. r.max_waiting) e) (λ push none. absurd (true≢false (sym push ∙ pulled)))
kept_asked name made config p q mark h (Err x) pull q' e f pulled = subst (λ r. IsKept name made config p r mark) (sym f) h
