-- A consumer as its spent deliveries are given up one by one, and as those that are given up are too many.
use Rattle.std.proofs.Common.{◌≡◌, ℕ, ◌+◌, ◌<◌, ◌≤◌, Bool, true, false, cond, List, [], ◌∷◌, ◌++◌, length, refl, sym, ap, ◌∙◌, subst, arith}
use Rattle.std.specs.Prelude.{find, Option, Some, None}
use Rattle.std.specs.List.{list_any}
use Rattle.std.specs.Option.{option_to_list}
use Rattle.std.proofs.lemmas.List.{length-map}
use Rattle.js_base.specs.Bytes.{Bytes, last_of}
use Rattle.js_model.specs.declared.consumer_config.ConsumerConfig.{ConsumerConfig}
use Rattle.js_model.specs.declared.consumer.Pending.{Pending}
use Rattle.js_model.specs.declared.consumer.Consumer.{Consumer}
use Rattle.js_model.specs.Deliver.{without_first}
use Rattle.js_model.specs.Lists.{IsPart, skip}
use Rattle.js_model.proofs.Members.{any_in, found_in}
use Rattle.js_model.proofs.Parts.{all_part}
use Rattle.pending_table.specs.Asked.{with_found}
use Rattle.consumer_progress.specs.Progresses.{progress_of, seqs_of, with_progress}
use Rattle.consumer_progress.specs.GivingUp.{is_spent}
use Rattle.consumer_progress.proofs.Filling.{one_longer}
use Rattle.consumer_progress.proofs.GivenUp.{fewer_passed, moved_progress, none_limited, nothing_spent, same_given_up}
use Rattle.consumer_progress.proofs.Kept.{fewer_progress}
use Rattle.consumer_progress.proofs.Least.{last_rest, last_same}
use Rattle.replayed_consumer.specs.Replayed.{shown, IsReplayable}
use Rattle.replayed_consumer.specs.GivingUp.{with_greatest, without_spent}

-- ---- the first spent delivery moves

no_longer : (t : Pending → Bool) (ps : List Pending) → length (without_first t ps) ≤ length ps
no_longer t [] = omega arith
no_longer t (p ∷ ps) = go (t p) (no_longer t ps)
  where
    go : (b : Bool) → length (without_first t ps) ≤ length ps → length (cond b ps (p ∷ without_first t ps)) ≤ length (p ∷ ps)
    go true h = omega arith
    go false h = omega (arith, h)

as_many : (t : Pending → Bool) (ps given : List Pending) → length (without_first t ps) + length (with_found given (find t ps)) ≤ length ps + length given
as_many t ps given = go (find t ps) refl
  where
    go : (o : Option Pending) → find t ps ≡ o → length (without_first t ps) + length (with_found given o) ≤ length ps + length given
    go None e = omega (arith, no_longer t ps)
    go (Some q) e =
        let found = found_in t q ps e in
        omega (arith, fewer_passed t ps (any_in t q ps found.0 found.1), one_longer given q)

module _ (name : Bytes) (made : ℕ) (config : ConsumerConfig) (cursor dseq : ℕ) (picks pending given : List Pending) where
  abbrev old : Consumer
  old = shown name made config cursor dseq picks pending given

  module _ (k : IsReplayable old) where
    pub moved_replayable : (t : Pending → Bool) → IsReplayable (shown name made config cursor dseq picks (without_first t pending) (with_found given (find t pending)))
    moved_replayable t = record {
      progress = moved_progress t (progress_of old) k.progress given refl (find t pending) refl;
      few = omega (arith, as_many t pending given, length-map given (λ (p : Pending). p.seq), length-map (with_found given (find t pending)) (λ (p : Pending). p.seq), k.few);
      waiting = refl;
      mark = refl;
    }

    pub moved_same : (now : ℕ) (most : Option ℕ)
        → without_spent now most (shown name made config cursor dseq picks (without_first (is_spent now most) pending) (with_found given (find (is_spent now most) pending))) ≡ without_spent now most old
    moved_same now most = ap (with_progress old) (same_given_up now most (progress_of old) k.progress given refl)

    -- the least of those that are given up goes
    dropped_replayable : (p : Pending) (rest : List Pending) → given ≡ p ∷ rest → IsReplayable (shown name made config cursor dseq picks pending rest)
    dropped_replayable p rest is = record {
      progress = fewer_progress (progress_of old) (seqs_of rest) (subst (λ ps. IsPart (seqs_of rest) (seqs_of ps)) (sym is) (skip (all_part (seqs_of rest)))) k.progress;
      few = omega (arith, ap length is, length-map given (λ (p : Pending). p.seq), length-map rest (λ (p : Pending). p.seq), k.few);
      waiting = refl;
      mark = refl;
    }

    dropped_same : (p : Pending) (rest : List Pending) → given ≡ p ∷ rest → 65536 < length given → with_greatest (shown name made config cursor dseq picks pending rest) ≡ with_greatest old
    dropped_same p rest is many = ap (λ (ns : List ℕ). record old { given_up = ns }) (last_rest (seqs_of (p ∷ rest)) (omega (arith, ap length is, length-map rest (λ (p : Pending). p.seq), many)) ∙ ap (λ ps. last_of 65536 (seqs_of ps)) (sym is))

    pub popped_replayable : (o : Option Pending) (rest : List Pending) → given ≡ option_to_list o ++ rest → IsReplayable (shown name made config cursor dseq picks pending rest)
    popped_replayable None rest is = subst (λ ps. IsReplayable (shown name made config cursor dseq picks pending ps)) is k
    popped_replayable (Some p) rest is = dropped_replayable p rest is

    pub popped_same : (o : Option Pending) (rest : List Pending) → given ≡ option_to_list o ++ rest → 65536 < length given → with_greatest (shown name made config cursor dseq picks pending rest) ≡ with_greatest old
    popped_same None rest is many = ap (λ ps. with_greatest (shown name made config cursor dseq picks pending ps)) (sym is)
    popped_same (Some p) rest is many = dropped_same p rest is many

pub none_spent : (now : ℕ) (most : Option ℕ) (c : Consumer) → list_any (is_spent now most) c.pending ≡ false → without_spent now most c ≡ c
none_spent now most c h = ap (with_progress c) (nothing_spent now most (progress_of c) h)

pub unlimited : (now : ℕ) (c : Consumer) → without_spent now None c ≡ c
unlimited now c = none_spent now None c (none_limited now c.pending)

pub few_kept : (c : Consumer) → length c.given_up ≤ 65536 → with_greatest c ≡ c
few_kept c few = ap (λ (ns : List ℕ). record c { given_up = ns }) (last_same c.given_up few)
