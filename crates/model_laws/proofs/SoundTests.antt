-- The computed tests of soundness decide it.
use Rattle.std.proofs.Common.{◌≡◌, ℕ, ◌+◌, ◌≤◌, Bool, true, false, ◌&&◌, ◌||◌, not, List, [], ◌∷◌, refl, sym, ap, subst}
use Rattle.std.specs.Prelude.{Decides, nat_le, nat_lt, Option, Some, None, IfSome, IsTrue, All, ◌==◌}
use Rattle.std.specs.List.{list_any, list_all}
use Rattle.std.proofs.lemmas.Bool.{true≢false, and_parts, and_from, or_left, or_right, eqb-true, eq-eqb, leb-true, le-leb, ltb-false, le-ltb, not-true}
use Rattle.std.proofs.lemmas.List.Elements.{All-nil, All-cons, All-head, All-tail}
use Rattle.js_base.specs.Bytes.{Bytes, same, has, is_empty}
use Rattle.js_model.specs.Lists.{Between, Apart}
use Rattle.js_model.specs.declared.stream.Message.{Message}
use Rattle.js_model.specs.declared.stream.Id.{Id}
use Rattle.js_model.specs.declared.stream.State.{State}
use Rattle.js_model.specs.declared.stream.State.TheVariants.{Vacant, Live}
use Rattle.js_model.specs.declared.consumer.Pending.{Pending}
use Rattle.js_model.specs.declared.consumer.Consumer.{Consumer}
use Rattle.js_model.specs.Streams.{seqs, passes_filter, pending_seqs, is_unacknowledged, is_push, over_limit}
use Rattle.js_model.specs.Configs.{is_stream_config, is_consumer_config}
use Rattle.js_model.specs.Consumers.{is_before}
use Rattle.model_laws.specs.Sound.{AreStored, IsCounted, IsWellStoredConsumer, AreDifferent, AreOrdered, IsWellStored, AreMatched, IsMatchedConsumer, IsMatched}
use Rattle.model_laws.specs.SoundTests.{are_between, are_stored, are_apart, is_counted, are_ascending, are_placed, are_allowed, is_well_stored_consumer, are_different, are_ordered, is_well_stored, are_matched, is_matched_consumer, is_matched}

-- ---- decisions

pub both_decide : {A B : Type 0} (a b : Bool) → Decides a A → Decides b B → Decides (a && b) (A × B)
both_decide a b f g = (λ e. let w = and_parts a b e in (f.0 w.0, g.0 w.1), λ h. and_from a b (f.1 h.0) (g.1 h.1))

pub same_decides : {A B : Type 0} {a : Bool} → (A → B) → (B → A) → Decides a A → Decides a B
same_decides f g d = (λ e. f (d.0 e), λ h. d.1 (g h))

pub true_decides : (a : Bool) → Decides a (a ≡ true)
true_decides a = (λ e. e, λ e. e)

pub le_decides : (m n : ℕ) → Decides (nat_le m n) (m ≤ n)
le_decides m n = (leb-true m n, le-leb m n)

pub all_decide : {X : Type 0} (P : X → Type 0) (t : X → Bool) → ((x : X) → Decides (t x) (P x)) → (xs : List X) → Decides (list_all t xs) (All P xs)
all_decide P t d [] = (λ e. All-nil P, λ h. refl)
all_decide P t d (x ∷ xs) =
    let r = all_decide P t d xs in
    (λ e. let w = and_parts (t x) (list_all t xs) e in All-cons P x xs ((d x).0 w.0) (r.0 w.1), λ h. and_from (t x) (list_all t xs) ((d x).1 (All-head P x xs h)) (r.1 (All-tail P x xs h)))

-- if the first test passes, so does the fact
if_decides : {A : Type 0} (a b : Bool) → Decides b A → Decides (not a || b) (a ≡ true → A)
if_decides true b d = (λ e _. d.0 e, λ f. d.1 (f refl))
if_decides false b d = (λ e f. absurd (true≢false (sym f)), λ f. refl)

empty_decides : {X : Type 0} (xs : List X) → Decides (is_empty xs) (xs ≡ [])
empty_decides [] = (λ e. refl, λ e. refl)
empty_decides (x ∷ xs) = (λ e. absurd (true≢false (sym e)), λ e. ap is_empty e)

pub not_decides : (a : Bool) → Decides (not a) (a ≡ false)
not_decides a = (λ e. not-true a e, λ e. ap not e)

-- ---- lists

between_decides : {X : Type 0} (f : X → ℕ) (low high : ℕ) (xs : List X) → Decides (are_between f low high xs) (Between f low high xs)
between_decides f low high [] = le_decides low high
between_decides f low high (x ∷ xs) = both_decide (nat_le low (f x)) (are_between f (f x + 1) high xs) (le_decides low (f x)) (between_decides f (f x + 1) high xs)

each_passes : (t : ℕ → Bool) (ns : List ℕ) → list_all t ns ≡ true → (n : ℕ) → has ns n ≡ true → t n ≡ true
each_passes t [] e n h = absurd (true≢false (sym h))
each_passes t (m ∷ ns) e n h = go (m == n) refl (each_passes t ns (and_parts _ _ e).1 n) h
  where
    go : (b : Bool) → (m == n) ≡ b → (has ns n ≡ true → t n ≡ true) → (b || has ns n) ≡ true → t n ≡ true
    go true q f k = subst (λ (l : ℕ). t l ≡ true) (eqb-true m n q) (and_parts _ _ e).0
    go false q f k = f k

each_passed : (t : ℕ → Bool) (ns : List ℕ) → ((n : ℕ) → has ns n ≡ true → t n ≡ true) → list_all t ns ≡ true
each_passed t [] f = refl
each_passed t (m ∷ ns) f = and_from _ _ (f m (or_left (m == m) (has ns m) (eq-eqb m m refl))) (each_passed t ns (λ n h. f n (or_right (m == n) (has ns n) h)))

-- a test of each number of a list
each_decides : (t : ℕ → Bool) (ns : List ℕ) → Decides (list_all t ns) ((n : ℕ) → has ns n ≡ true → t n ≡ true)
each_decides t ns = (each_passes t ns, each_passed t ns)

stored_decides : (messages : List Message) (ns : List ℕ) → Decides (are_stored messages ns) (AreStored messages ns)
stored_decides messages ns = same_decides (λ f. record { stored = f }) (λ h. h.stored) (each_decides (has (seqs messages)) ns)

apart_decides : (xs ys : List ℕ) → Decides (are_apart xs ys) (Apart xs ys)
apart_decides xs ys = same_decides (λ f. record { apart = λ n h. not-true (has ys n) (f n h) }) (λ k n h. ap not (k.apart n h)) (each_decides (λ n. not (has ys n)) xs)

-- ---- consumers

limit_decides : (n : ℕ) (limit : Option ℕ) → Decides (not (over_limit n limit)) (IfSome limit (λ limit. n ≤ limit))
limit_decides n None = (λ e. tt, λ h. refl)
limit_decides n (Some limit) = (λ e. ltb-false limit n (not-true (nat_lt limit n) e), λ h. ap not (le-ltb limit n h))

counted_decides : (dseq : ℕ) (limit : Option ℕ) (p : Pending) → Decides (is_counted dseq limit p) (IsCounted dseq limit p)
counted_decides dseq limit p =
    same_decides (λ h. record { least = h.0.0; most = h.0.1; within = h.1 }) (λ h. ((h.least, h.most), h.within))
    (both_decide _ _ (both_decide _ _ (le_decides 1 p.count) (le_decides p.count dseq)) (limit_decides p.count limit))

abbrev Ascending : ℕ → Consumer → Type 0
Ascending last c = (((c.cursor ≤ last + 1) × Between (λ n. n) 1 c.cursor c.picks) × Between (λ p. p.seq) 1 c.cursor c.pending) × Between (λ n. n) 1 c.cursor c.given_up

ascending_decides : (last : ℕ) (c : Consumer) → Decides (are_ascending last c) (Ascending last c)
ascending_decides last c =
    both_decide _ _ (both_decide _ _ (both_decide _ _ (le_decides c.cursor (last + 1)) (between_decides (λ n. n) 1 c.cursor c.picks)) (between_decides (λ p. p.seq) 1 c.cursor c.pending))
    (between_decides (λ n. n) 1 c.cursor c.given_up)

abbrev Placed : List Message → Consumer → Type 0
Placed messages c =
    ((((AreStored messages c.picks × AreStored messages (pending_seqs c)) × AreStored messages c.given_up) × Apart c.picks (pending_seqs c)) × Apart c.picks c.given_up) × Apart (pending_seqs c) c.given_up

placed_decides : (messages : List Message) (c : Consumer) → Decides (are_placed messages c) (Placed messages c)
placed_decides messages c =
    both_decide _ _ (both_decide _ _ (both_decide _ _ (both_decide _ _ (both_decide _ _ (stored_decides messages c.picks) (stored_decides messages (pending_seqs c))) (stored_decides messages c.given_up))
    (apart_decides c.picks (pending_seqs c))) (apart_decides c.picks c.given_up)) (apart_decides (pending_seqs c) c.given_up)

abbrev Allowed : Consumer → Type 0
Allowed c = ((All (IsCounted c.dseq c.config.max_deliver) c.pending × (is_unacknowledged c ≡ true → c.pending ≡ [])) × (is_unacknowledged c ≡ true → c.given_up ≡ [])) × (is_push c ≡ true → c.waiting ≡ [])

allowed_decides : (c : Consumer) → Decides (are_allowed c) (Allowed c)
allowed_decides c =
    both_decide _ _ (both_decide _ _ (both_decide _ _ (all_decide (IsCounted c.dseq c.config.max_deliver) (is_counted c.dseq c.config.max_deliver) (counted_decides c.dseq c.config.max_deliver) c.pending)
    (if_decides (is_unacknowledged c) (is_empty c.pending) (empty_decides c.pending))) (if_decides (is_unacknowledged c) (is_empty c.given_up) (empty_decides c.given_up)))
    (if_decides (is_push c) (is_empty c.waiting) (empty_decides c.waiting))

consumer_from : (messages : List Message) (last : ℕ) (c : Consumer) → (((IsTrue (is_consumer_config c.config) × IsTrue (same c.config.name c.name)) × Ascending last c) × Placed messages c) × Allowed c → IsWellStoredConsumer messages last c
consumer_from messages last c h = let ascending = h.0.0.1 in let placed = h.0.1 in let allowed = h.1 in record {
  config = h.0.0.0.0;
  named = h.0.0.0.1;
  cursor = ascending.0.0.0;
  picks = ascending.0.0.1;
  pending = ascending.0.1;
  given_up = ascending.1;
  picks_stored = placed.0.0.0.0.0;
  pending_stored = placed.0.0.0.0.1;
  given_up_stored = placed.0.0.0.1;
  picks_pending = placed.0.0.1;
  picks_given_up = placed.0.1;
  pending_given_up = placed.1;
  counts = allowed.0.0.0;
  unacknowledged_pending = allowed.0.0.1;
  unacknowledged_given_up = allowed.0.1;
  push = allowed.1;
}

consumer_decides : (messages : List Message) (last : ℕ) (c : Consumer) → Decides (is_well_stored_consumer messages last c) (IsWellStoredConsumer messages last c)
consumer_decides messages last c =
    same_decides (consumer_from messages last c)
    (λ k. (
      (((k.config, k.named), (((k.cursor, k.picks), k.pending), k.given_up)), (((((k.picks_stored, k.pending_stored), k.given_up_stored), k.picks_pending), k.picks_given_up), k.pending_given_up)),
      (((k.counts, k.unacknowledged_pending), k.unacknowledged_given_up), k.push),
    ))
    (both_decide _ _ (both_decide _ _ (both_decide _ _ (both_decide _ _ (true_decides (is_consumer_config c.config)) (true_decides (same c.config.name c.name))) (ascending_decides last c)) (placed_decides messages c)) (allowed_decides c))

-- ---- streams

different_decides : (ids : List Id) → Decides (are_different ids) (AreDifferent ids)
different_decides [] = (λ e. tt, λ h. refl)
different_decides (i ∷ is) = both_decide _ _ (same_decides (λ e. record { none = e }) (λ h. h.none) (not_decides (list_any (λ j. same j.id i.id) is))) (different_decides is)

ordered_decides : (cs : List Consumer) → Decides (are_ordered cs) (AreOrdered cs)
ordered_decides [] = (λ e. tt, λ h. refl)
ordered_decides (c ∷ cs) = both_decide _ _ (all_decide (λ d. is_before c.name d.name ≡ true) (λ d. is_before c.name d.name) (λ d. true_decides (is_before c.name d.name)) cs) (ordered_decides cs)

pub stored_test : (s : State) → Decides (is_well_stored s) (IsWellStored s)
stored_test (Vacant i) = (λ e. tt, λ h. refl)
stored_test (Live s) =
    same_decides (λ h. record { config = h.0.0.0.0; messages = h.0.0.0.1; consumers = h.0.0.1; ordered = h.0.1; ids = h.1 }) (λ k. ((((k.config, k.messages), k.consumers), k.ordered), k.ids))
    (both_decide _ _ (both_decide _ _ (both_decide _ _ (both_decide _ _ (true_decides (is_stream_config s.config)) (between_decides (λ m. m.seq) 1 (s.last + 1) s.messages))
    (all_decide (IsWellStoredConsumer s.messages s.last) (is_well_stored_consumer s.messages s.last) (consumer_decides s.messages s.last) s.consumers)) (ordered_decides s.consumers)) (different_decides s.ids))

-- ---- filters

matched_decides : (messages : List Message) (pattern : Bytes) (ns : List ℕ) → Decides (are_matched messages pattern ns) (AreMatched messages pattern ns)
matched_decides messages pattern ns =
    same_decides (λ h. record { matched = h }) (λ h. h.matched)
    (all_decide (λ m. has ns m.seq ≡ true → passes_filter pattern m.subject ≡ true) (λ m. not (has ns m.seq) || passes_filter pattern m.subject)
    (λ m. if_decides (has ns m.seq) (passes_filter pattern m.subject) (true_decides (passes_filter pattern m.subject))) messages)

filters_decide : (messages : List Message) (c : Consumer) → Decides (is_matched_consumer messages c) (IsMatchedConsumer messages c)
filters_decide messages c =
    same_decides (λ h. record { picks = h.0.0; pending = h.0.1; given_up = h.1 }) (λ h. ((h.picks, h.pending), h.given_up))
    (both_decide _ _ (both_decide _ _ (matched_decides messages c.config.filter_subject c.picks) (matched_decides messages c.config.filter_subject (pending_seqs c))) (matched_decides messages c.config.filter_subject c.given_up))

pub matched_test : (s : State) → Decides (is_matched s) (IsMatched s)
matched_test (Vacant i) = (λ e. tt, λ h. refl)
matched_test (Live s) = all_decide (IsMatchedConsumer s.messages) (is_matched_consumer s.messages) (filters_decide s.messages) s.consumers
