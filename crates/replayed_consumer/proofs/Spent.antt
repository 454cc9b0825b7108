-- A consumer whose spent deliveries are given up may be held where it was.
use Rattle.std.proofs.Common.{◌≡◌, ℕ, ◌≤◌, ◌==◌, ◌&&◌, Bool, true, not, List, [], length, map, sym, ap, ◌∙◌, arith, ◌⊎◌, inl, inr}
use Rattle.std.specs.Prelude.{filter, fold}
use Rattle.std.proofs.lemmas.Bool.{and_from, eq-eqb, eqb-true, false_from_ne_true, not-true, true≢false}
use Rattle.std.proofs.lemmas.List.Elements.{All-filter}
use Rattle.js_base.specs.Bytes.{has, last_of}
use Rattle.js_model.specs.declared.stream.Message.{Message}
use Rattle.js_model.specs.declared.consumer.Pending.{Pending}
use Rattle.js_model.specs.declared.consumer.Consumer.{Consumer}
use Rattle.js_model.specs.Advance.{all_given_up, is_spent, placed}
use Rattle.js_model.specs.Lists.{Apart, Between, IsPart}
use Rattle.js_model.specs.Streams.{seqs}
use Rattle.js_model.proofs.Lacking.{apart-parts, has-all_placed, has-part}
use Rattle.js_model.proofs.Members.{any_in, holds_of_one, in_any, in_filter}
use Rattle.js_model.proofs.Parts.{all_part, between_map, drop_part, filter_part, part_between, part_map, part-length}
use Rattle.model_laws.specs.Sound.{IsCounted, IsWellStoredConsumer}
use Rattle.model_laws.specs.Bounds.{IsBoundedConsumer, IsBoundedEntry}
use Rattle.model_laws.proofs.SoundTime.{between_all_placed}
use Rattle.model_laws.proofs.Within.{last_of_length}
use Rattle.consumer_progress.specs.Progresses.{seqs_of}
use Rattle.consumer_progress.proofs.Seqs.{any_seq}
use Rattle.effects.specs.Folding.{with_given_up}
use Rattle.replayed_consumer.specs.Storable.{Keeps}

-- the entries that pass a test and those that do not have no sequence in common
cut_apart : (t : Pending → Bool) (low high : ℕ) (ps : List Pending) → Between (λ p. p.seq) low high ps → Apart (seqs_of (filter (λ p. not (t p)) ps)) (seqs_of (filter t ps))
cut_apart t low high ps h = record { apart = λ n e. false_from_ne_true _ (λ w. no n e w) }
  where
    no : (n : ℕ) → has (seqs_of (filter (λ p. not (t p)) ps)) n ≡ true → has (seqs_of (filter t ps)) n ≡ true → ⊥
    no n e w =
        let stays = in_any (λ p. p.seq == n) (filter (λ p. not (t p)) ps) (any_seq n (filter (λ p. not (t p)) ps) ∙ e) in
        let goes = in_any (λ p. p.seq == n) (filter t ps) (any_seq n (filter t ps) ∙ w) in
        let stayed = in_filter (λ p. not (t p)) stays.0 ps stays.1 in
        let gone = in_filter t goes.0 ps goes.1 in
        let same : goes.0.seq ≡ stays.0.seq = eqb-true goes.0.seq n goes.2 ∙ sym (eqb-true stays.0.seq n stays.2) in
        let both = any_in (λ y. y.seq == stays.0.seq && t y) goes.0 ps gone.0 (and_from _ _ (eq-eqb goes.0.seq stays.0.seq same) gone.1) in
        true≢false (sym (holds_of_one (λ p. p.seq) t low high stays.0 ps h stayed.0 both) ∙ not-true (t stays.0) stayed.1)

module _ (now : ℕ) (c : Consumer) where
  abbrev spent : List ℕ
  spent = seqs_of (filter (is_spent now c) c.pending)

  abbrev left : List ℕ
  left = seqs_of (filter (λ p. not (is_spent now c p)) c.pending)

  spent_part : IsPart spent (seqs_of c.pending)
  spent_part = part_map (λ p. p.seq) (filter_part (is_spent now c) c.pending)

  left_part : IsPart left (seqs_of c.pending)
  left_part = part_map (λ p. p.seq) (filter_part (λ p. not (is_spent now c p)) c.pending)

  -- a sequence that is given up was so before, or waited
  given_up_from : (n : ℕ) → has (all_given_up now c) n ≡ true → (has c.given_up n ≡ true) ⊎ (has spent n ≡ true)
  given_up_from n h = has-all_placed c.given_up spent n (has-part n (drop_part _ (fold placed c.given_up spent)) h)

  apart_given_up : (ns : List ℕ) → Apart ns c.given_up → Apart ns spent → Apart ns (all_given_up now c)
  apart_given_up ns a b = record { apart = λ n e. false_from_ne_true (has (all_given_up now c) n) (λ w. go n e (given_up_from n w)) }
    where
      go : (n : ℕ) → has ns n ≡ true → (has c.given_up n ≡ true) ⊎ (has spent n ≡ true) → ⊥
      go n e (inl w) = true≢false (sym w ∙ a.apart n e)
      go n e (inr w) = true≢false (sym w ∙ b.apart n e)

  none_given_up : c.pending ≡ [] → c.given_up ≡ [] → all_given_up now c ≡ []
  none_given_up e f =
      ap (λ (ps : List Pending). last_of 65536 (fold placed c.given_up (map (λ p. p.seq) (filter (is_spent now c) ps)))) e
      ∙ ap (λ (ns : List ℕ). last_of 65536 ns) f

  given_up_sound : (messages : List Message) (last : ℕ) → IsWellStoredConsumer messages last c → IsWellStoredConsumer messages last (with_given_up now c)
  given_up_sound messages last k = record {
    config = k.config;
    named = k.named;
    cursor = k.cursor;
    picks = k.picks;
    pending = part_between (λ p. p.seq) 1 c.cursor (filter_part _ c.pending) k.pending;
    given_up = part_between (λ n. n) 1 c.cursor (drop_part _ (fold placed c.given_up spent)) (between_all_placed 1 c.cursor c.given_up spent k.given_up spent_between (apart-parts spent_part (all_part c.given_up) k.pending_given_up));
    picks_stored = k.picks_stored;
    pending_stored = record { stored = λ n e. k.pending_stored.stored n (has-part n left_part e) };
    given_up_stored = record { stored = λ n e. stored n (given_up_from n e) };
    picks_pending = apart-parts (all_part c.picks) left_part k.picks_pending;
    picks_given_up = apart_given_up c.picks k.picks_given_up (apart-parts (all_part c.picks) spent_part k.picks_pending);
    pending_given_up = apart_given_up left (apart-parts left_part (all_part c.given_up) k.pending_given_up) (cut_apart (is_spent now c) 1 c.cursor c.pending k.pending);
    counts = All-filter _ (IsCounted c.dseq c.config.max_deliver) c.pending k.counts;
    unacknowledged_pending = λ e. ap (filter (λ p. not (is_spent now c p))) (k.unacknowledged_pending e);
    unacknowledged_given_up = λ e. none_given_up (k.unacknowledged_pending e) (k.unacknowledged_given_up e);
    push = k.push;
  }
    where
      spent_between : Between (λ n. n) 1 c.cursor spent
      spent_between = between_map (λ n. n) (λ p. p.seq) 1 c.cursor (filter (is_spent now c) c.pending) (part_between (λ p. p.seq) 1 c.cursor (filter_part _ c.pending) k.pending)

      stored : (n : ℕ) → (has c.given_up n ≡ true) ⊎ (has spent n ≡ true) → has (seqs messages) n ≡ true
      stored n (inl e) = k.given_up_stored.stored n e
      stored n (inr e) = k.pending_stored.stored n (has-part n spent_part e)

  given_up_bounded : IsBoundedConsumer c → IsBoundedConsumer (with_given_up now c)
  given_up_bounded k = record {
    made = k.made;
    cursor = k.cursor;
    dseq = k.dseq;
    picks = k.picks;
    pending = let a : length (filter (λ p. not (is_spent now c p)) c.pending) ≤ length c.pending = part-length (filter_part (λ p. not (is_spent now c p)) c.pending) in let b = k.pending in omega (arith, a, b);
    entries = All-filter _ IsBoundedEntry c.pending k.entries;
    given_up = last_of_length 65536 (fold placed c.given_up spent);
  }

  pub given_up_keeps : Keeps c (with_given_up now c)
  given_up_keeps = record { kept = λ messages last h. record { stored = given_up_sound messages last h.stored; bounded = given_up_bounded h.bounded } }
