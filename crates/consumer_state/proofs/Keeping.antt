-- What is kept of a consumer stays so.
use Rattle.std.proofs.Common.{◌≡◌, ℕ, zero, suc, ◌-◌, ◌<◌, ◌≤◌, Bool, true, false, not, cond, List, [], ◌∷◌, length, drop, map, refl, sym, ap, ◌∙◌, subst, arith}
use Rattle.std.specs.Prelude.{Option, Some, None, ◌==◌, ◌^◌, filter, nat_lt, All}
use Rattle.std.proofs.lemmas.Bool.{ltb-true, ltb-false}
use Rattle.std.proofs.lemmas.List.Elements.{All-filter}
use Rattle.js_base.specs.Bytes.{Bytes, is_empty, last_of}
use Rattle.js_model.specs.declared.consumer.Consumer.{Consumer}
use Rattle.js_model.specs.declared.consumer.Pending.{Pending}
use Rattle.js_model.specs.declared.consumer_config.ConsumerConfig.{ConsumerConfig}
use Rattle.js_model.specs.Streams.{over_limit}
use Rattle.js_model.specs.Acknowledge.{moved}
use Rattle.js_model.proofs.Named.{none_some}
use Rattle.consumer_progress.specs.GivingUp.{rest_of}
use Rattle.consumer_progress.specs.Ending.{EndsOneUpTo}
use Rattle.consumer_progress.specs.Progresses.{Progress, first_of}
use Rattle.pull_queue.specs.Queue.{Queue}
use Rattle.consumer_state.specs.Keeping.{IsKept}
use Rattle.consumer_state.specs.Passing.{overflow_of, within_overflow, without_overflow}
use Rattle.consumer_state.proofs.Filters.{all_map}

-- ---- counts

pub counts_moved : (limit : Option ℕ) (n due : ℕ) (ps : List Pending) → All (λ p. over_limit p.count limit ≡ false) ps → All (λ p. over_limit p.count limit ≡ false) (map (moved n due) ps)
counts_moved limit n due ps h = all_map (λ (p : Pending). over_limit p.count limit ≡ false) (moved n due) (λ p k. go p (p.seq == n) k) ps h
  where
    go : (p : Pending) (b : Bool) → over_limit p.count limit ≡ false → over_limit (cond b (record p { due = due }) p).count limit ≡ false
    go p true k = k
    go p false k = k

-- ---- overflows

abbrev nobody : List ℕ
nobody = []

over_step : (most : ℕ) (ns : List ℕ) → last_of most (cond (nat_lt most (length ns)) (rest_of ns) ns) ≡ last_of most ns
over_step most [] = go (nat_lt most 0)
  where
    go : (b : Bool) → last_of most (cond b nobody nobody) ≡ last_of most nobody
    go true = refl
    go false = refl
over_step most (n ∷ ns) = go (nat_lt most (suc (length ns))) refl
  where
    go : (b : Bool) → nat_lt most (suc (length ns)) ≡ b → last_of most (cond b ns (n ∷ ns)) ≡ last_of most (n ∷ ns)
    go true e = let l : most < suc (length ns) = ltb-true most (suc (length ns)) e in
        let k : suc (length ns) - most ≡ suc (length ns - most) = omega arith in
        sym (ap (λ i. drop i (n ∷ ns)) k)
    go false e = refl

over_end : (most : ℕ) (ns : List ℕ) → cond (nat_lt most (length ns)) (first_of ns) None ≡ None → last_of most ns ≡ ns
over_end most [] e = drop-nil (0 - most)
  where
    drop-nil : (k : ℕ) → drop k nobody ≡ nobody
    drop-nil zero = refl
    drop-nil (suc k) = refl
over_end most (n ∷ ns) e = go (nat_lt most (suc (length ns))) refl e
  where
    go : (b : Bool) → nat_lt most (suc (length ns)) ≡ b → cond b (Some n) None ≡ None → last_of most (n ∷ ns) ≡ n ∷ ns
    go true k f = absurd (none_some (sym f))
    go false k f = let l : suc (length ns) ≤ most = ltb-false most (suc (length ns)) k in
        let z : suc (length ns) - most ≡ 0 = omega arith in
        ap (λ i. drop i (n ∷ ns)) z

pub overflow_same : (c : Consumer) → within_overflow (without_overflow c) ≡ within_overflow c
overflow_same c = ap (λ (ns : List ℕ). record c { given_up = ns }) (over_step 65536 c.given_up)

pub overflow_ends : (c : Consumer) → overflow_of c ≡ None → within_overflow c ≡ c
overflow_ends c e = ap (λ (ns : List ℕ). record c { given_up = ns }) (over_end 65536 c.given_up e)

-- ---- a consumer of other parts

module _ (name : Bytes) (made : ℕ) (config : ConsumerConfig) (p : Progress) (q : Queue) (mark : ℕ) (h : IsKept name made config p q mark) where
  -- some deliveries are gone
  pub kept_less : (t : Pending → Bool) (p' : Progress) (mark' : ℕ) → p'.pending ≡ filter t p.pending → p'.dseq ≡ p.dseq → IsKept name made config p' q mark'
  kept_less t p' mark' e d = record {
    consumer = record {
      once = h.consumer.once;
      counts = subst (λ ps. All (λ x. over_limit x.count config.max_deliver ≡ false) ps) (sym e) (All-filter t (λ x. over_limit x.count config.max_deliver ≡ false) p.pending h.consumer.counts);
      no_pulls = h.consumer.no_pulls;
      dseq = subst (λ n. n < 2 ^ 62) (sym d) h.consumer.dseq;
    };
    max_waiting = h.max_waiting;
  }

  -- a delivery is due at another moment
  pub kept_moved : (n due : ℕ) (p' : Progress) → p'.pending ≡ map (moved n due) p.pending → p'.dseq ≡ p.dseq → IsKept name made config p' q mark
  kept_moved n due p' e d = record {
    consumer = record {
      once = h.consumer.once;
      counts = subst (λ ps. All (λ x. over_limit x.count config.max_deliver ≡ false) ps) (sym e) (counts_moved config.max_deliver n due p.pending h.consumer.counts);
      no_pulls = h.consumer.no_pulls;
      dseq = subst (λ n. n < 2 ^ 62) (sym d) h.consumer.dseq;
    };
    max_waiting = h.max_waiting;
  }

  -- other pulls wait, and none of a push consumer
  pub kept_pulls : (q' : Queue) (mark' : ℕ) → q'.max_waiting ≡ q.max_waiting → (not (is_empty config.deliver_subject) ≡ true → q.pulls ≡ [] → q'.pulls ≡ []) → IsKept name made config p q' mark'
  kept_pulls q' mark' e f = record {
    consumer = record {
      once = h.consumer.once;
      counts = h.consumer.counts;
      no_pulls = λ push. f push (h.consumer.no_pulls push);
      dseq = h.consumer.dseq;
    };
    max_waiting = e ∙ h.max_waiting;
  }

  -- an entry up to a sequence ended, or none did
  pub kept_up_to : (seq : ℕ) (o : Option ℕ) (p' : Progress) → EndsOneUpTo seq p o p' → IsKept name made config p' q mark
  kept_up_to seq None p' w = subst (λ (r : Progress). IsKept name made config r q mark) (sym w.1) h
  kept_up_to seq (Some n) p' w = kept_less (λ x. not (x.seq == n)) p' mark (ap (λ r. r.pending) w.2) (ap (λ r. r.dseq) w.2)
