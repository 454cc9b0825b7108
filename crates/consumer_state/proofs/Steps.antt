-- What single calls leave of a consumer.
use Rattle.std.proofs.Common.{◌≡◌, ℕ, zero, suc, add-one, ◌+◌, ◌-◌, ◌<◌, ◌≤◌, Bool, true, false, ◌&&◌, ◌||◌, not, cond, List, [], ◌∷◌, ◌++◌, map, take, ◌≢◌, refl, sym, ap, ◌∙◌, subst, arith}
use Rattle.std.specs.Prelude.{Option, Some, None, All, codes, filter, find, is_some, nat_le, nat_lt, slice_get, ◌==◌}
use Rattle.std.proofs.lemmas.Bool.{eq-eqb, le-leb, le-ltb, lt-ltb, ltb-false, ltb-true, true≢false}
use Rattle.std.proofs.lemmas.List.Elements.{All-cons, All-head, All-nil, All-tail}
use Rattle.std.specs.Option.{option_to_list}
use Rattle.std.proofs.lemmas.List.{map-append}
use Rattle.js_base.specs.Bytes.{has}
use Rattle.js_base.specs.Status.{status}
use Rattle.js_base.specs.declared.out.Out.{Out}
use Rattle.js_model.specs.declared.stream.Stream.{Stream}
use Rattle.js_model.specs.declared.ack.AckKind.{AckKind}
use Rattle.js_model.specs.declared.consumer.Consumer.{Consumer}
use Rattle.js_model.specs.declared.consumer.Pending.{Pending}
use Rattle.js_model.specs.declared.consumer.Pull.{Pull}
use Rattle.js_model.specs.declared.entry.Delivered.{Delivered}
use Rattle.js_model.specs.declared.entry.Delivered.TheVariants.{TooSmall as EndedSmall}
use Rattle.js_model.specs.Acknowledge.{is_no_delivery, without}
use Rattle.js_model.specs.Advance.{consumer_outs, push_beat, push_comes, status_out}
use Rattle.js_model.specs.Deliver.{candidates, count_of, fits, front_served, small_block, with_pending}
use Rattle.js_model.specs.Streams.{at_limit, below_limit, over_limit, pending_seqs}
use Rattle.js_model.proofs.Members.{found_in, all_in}
use Rattle.js_model.proofs.Named.{none_some, some_is}
use Rattle.consumer_progress.specs.Ending.{ended, EndsOneUpTo}
use Rattle.consumer_progress.specs.GivingUp.{IsUnspent}
use Rattle.consumer_progress.specs.Progresses.{Progress, progress_of, with_progress}
use Rattle.consumer_progress.specs.Sending.{count_in, pending_after}
use Rattle.pull_queue.specs.Fronts.{after_front}
use Rattle.consumer_state.specs.declared.delivering.Demand.TheVariants.{Asked, TooSmall}
use Rattle.consumer_state.specs.Delivering.{front_demand, EndsSmall, IsReady, MayEndNoWait}
use Rattle.consumer_state.specs.Ending.{ack_ends, entries, is_delivered, kind_ends, EndsBy, EndsNone, EndsOne}
use Rattle.consumer_texts.specs.Parting.{farewell_of}
use Rattle.consumer_state.specs.Sending.{IsSendable}
use Rattle.consumer_state.proofs.Deliveries.{is_too_small, ready_by_no_wait}
use Rattle.consumer_state.proofs.Endings.{fewer_entries, without_none}
use Rattle.consumer_state.proofs.Filters.{any_map, filter_none}

-- ---- endings

filter_same : {X : Type 0} (t u : X → Bool) → ((x : X) → t x ≡ u x) → (xs : List X) → filter t xs ≡ filter u xs
filter_same t u f [] = refl
filter_same {X} t u f (x ∷ xs) = ap (λ b. cond b (x ∷ filter t xs) (filter t xs)) (f x) ∙ ap (λ (l : List X). cond (u x) (x ∷ l) l) (filter_same t u f xs)

without_same : (E F : ℕ → Bool) → ((m : ℕ) → E m ≡ F m) → (c : Consumer) → without E c ≡ without F c
without_same E F f c =
    ap (λ (ps : List Pending). record c { pending = ps; given_up = filter (λ n. not (E n)) c.given_up }) (filter_same (λ (p : Pending). not (E p.seq)) (λ p. not (F p.seq)) (λ p. ap not (f p.seq)) c.pending)
    ∙ ap (λ (ns : List ℕ). record c { pending = filter (λ p. not (F p.seq)) c.pending; given_up = ns }) (filter_same (λ n. not (E n)) (λ n. not (F n)) (λ n. ap not (f n)) c.given_up)

pub ends_as : (E F : ℕ → Bool) → ((m : ℕ) → E m ≡ F m) → (old new : Consumer) (o : Option ℕ) → EndsBy E old o new → EndsBy F old o new
ends_as E F f old new None w = record { none = sym (without_same E F f old) ∙ w.none; same = w.same }
ends_as E F f old new (Some m) w = record { is = sym (f m) ∙ w.is; was = w.was; left = w.left; fewer = w.fewer }

pub acks : (v s : Consumer) → v ≡ s → (n : ℕ) (kind : AckKind) → false ≡ is_no_delivery s n → (E : ℕ → Bool) → ((m : ℕ) → E m ≡ kind_ends v.config.ack_policy n kind m) → (m : ℕ) → E m ≡ ack_ends s n kind m
acks v s e n kind nd E f m = f m ∙ ap (λ (c : Consumer). kind_ends c.config.ack_policy n kind m) e ∙ ap (λ b. not b && kind_ends s.config.ack_policy n kind m) nd

pub no_ends : (s : Consumer) (n : ℕ) (kind : AckKind) → true ≡ is_no_delivery s n → EndsNone (ack_ends s n kind) s s
no_ends s n kind e = record { none = without_same (ack_ends s n kind) (λ m. false) (λ m. sym (ap (λ b. not b && kind_ends s.config.ack_policy n kind m) e)) s ∙ without_none s; same = refl }

pub nothing_ends : (s : Consumer) → EndsBy (λ m. false) s None s
nothing_ends s = record { none = without_none s; same = refl }

one_ended : (E : ℕ → Bool) (v : Consumer) (m : ℕ) (p : Progress) → E m ≡ true → is_delivered v m ≡ true → p ≡ ended (λ n. n == m) (progress_of v) → EndsOne E v m (with_progress v p)
one_ended E v m p is was e = record {
  is = is;
  was = was;
  left = ap (with_progress v) e;
  fewer = subst (λ (q : Progress). entries (with_progress v q) < entries v) (sym e) (fewer_entries v m was);
}

pub one_ends : (v s : Consumer) → v ≡ s → (m : ℕ) (p : Progress) → is_delivered v m ≡ true → p ≡ ended (λ n. n == m) (progress_of v) → EndsOne (λ n. n == m) s m (with_progress v p)
one_ends v s k m p was e = subst (λ (c : Consumer). EndsOne (λ n. n == m) c m (with_progress v p)) k (one_ended (λ n. n == m) v m p (eq-eqb m m refl) was e)

pub none_ends : (v s : Consumer) → v ≡ s → (m : ℕ) (p : Progress) → is_delivered v m ≡ false → p ≡ ended (λ n. n == m) (progress_of v) → EndsNone (λ n. n == m) s (with_progress v p)
none_ends v s k m p was e = subst (λ (c : Consumer). EndsNone (λ n. n == m) c (with_progress v p)) k (record { none = stays; same = ap (with_progress v) e ∙ stays })
  where
    parts : (a b : Bool) → (a || b) ≡ false → (a ≡ false) × (b ≡ false)
    parts true b f = absurd (true≢false f)
    parts false b f = (refl, f)

    stays : without (λ n. n == m) v ≡ v
    stays =
        let w = parts (has (pending_seqs v) m) (has v.given_up m) was in
        ap (λ (ps : List Pending). record v { pending = ps; given_up = filter (λ n. not (n == m)) v.given_up }) (filter_none (λ (p : Pending). p.seq == m) v.pending (sym (any_map (λ k. k == m) (λ (p : Pending). p.seq) v.pending) ∙ w.0))
        ∙ ap (λ (ns : List ℕ). record v { given_up = ns }) (filter_none (λ n. n == m) v.given_up w.1)

pub up_to_ends : (v s : Consumer) → v ≡ s → (seq : ℕ) (o : Option ℕ) (p : Progress) → EndsOneUpTo seq (progress_of v) o p → EndsBy (λ n. nat_le n seq) s o (with_progress v p)
up_to_ends v s k seq None p w =
    subst (λ (c : Consumer). EndsNone (λ n. nat_le n seq) c (with_progress v p)) k (record { none = ap (with_progress v) w.0; same = ap (with_progress v) w.1 })
up_to_ends v s k seq (Some m) p w = subst (λ (c : Consumer). EndsOne (λ n. nat_le n seq) c m (with_progress v p)) k (one_ended (λ n. nat_le n seq) v m p (le-leb m seq w.0) w.1 w.2)

-- ---- counts

pub count_small : (d n : ℕ) (ps : List Pending) → All (λ e. e.count ≤ d) ps → count_in ps n ≤ d
count_small d n ps h = go (find (λ p. p.seq == n) ps) refl
  where
    go : (o : Option Pending) → find (λ p. p.seq == n) ps ≡ o → count_in ps n ≤ d
    go None e = rw e (omega arith)
    go (Some p) e = rw e (all_in (λ (e : Pending). e.count ≤ d) ps h (found_in (λ (p : Pending). p.seq == n) p ps e).0)

count_same : (c : Consumer) (n : ℕ) → count_of c n ≡ count_in c.pending n
count_same c n = go (find (λ p. p.seq == n) c.pending) refl
  where
    go : (o : Option Pending) → find (λ p. p.seq == n) c.pending ≡ o → count_of c n ≡ count_in c.pending n
    go None e = rw e refl
    go (Some p) e = rw e refl

all_with : (P : Pending → Type 0) (new : Pending) (ps : List Pending) → P new → All P ps → All P (with_pending ps new)
all_with P new [] k h = All-cons P new [] k h
all_with P new (p ∷ ps) k h = go (nat_lt p.seq new.seq) (p.seq == new.seq) (all_with P new ps k (All-tail P p ps h))
  where
    go : (b c : Bool) → All P (with_pending ps new) → All P (cond b (p ∷ with_pending ps new) (cond c (new ∷ ps) (new ∷ p ∷ ps)))
    go true c w = All-cons P p (with_pending ps new) (All-head P p ps h) w
    go false true w = All-cons P new ps k (All-tail P p ps h)
    go false false w = All-cons P new (p ∷ ps) k h

one_more : (n : ℕ) (limit : Option ℕ) → below_limit n limit ≡ true → over_limit (n + 1) limit ≡ false
one_more n None e = refl
one_more n (Some limit) e = let l : n < limit = ltb-true n limit e in le-ltb limit (n + 1) (omega arith)

pub counts_sent : (limit : Option ℕ) (seq : ℕ) (due : Option ℕ) (ps : List Pending) → below_limit (count_in ps seq) limit ≡ true → All (λ p. over_limit p.count limit ≡ false) ps
    → All (λ p. over_limit p.count limit ≡ false) (pending_after seq due ps)
counts_sent limit seq None ps e h = h
counts_sent limit seq (Some due) ps e h = all_with (λ (p : Pending). over_limit p.count limit ≡ false) (record { seq = seq; count = count_in ps seq + 1; due = due }) ps (one_more (count_in ps seq) limit e) h

pub again_in : (c : Consumer) (seq bytes : ℕ) → IsSendable c seq bytes → below_limit (count_in c.pending seq) c.config.max_deliver ≡ true
again_in c seq bytes h = ap (λ n. below_limit n c.config.max_deliver) (sym (count_same c seq)) ∙ h.again

-- ---- time

unspent_one : (now : ℕ) (limit : Option ℕ) (p : Pending) → over_limit p.count limit ≡ false → not (nat_le p.due now && at_limit p.count limit) ≡ true → nat_le p.due now ≡ true → below_limit p.count limit ≡ true
unspent_one now None p o s d = refl
unspent_one now (Some limit) p o s d =
    let le : p.count ≤ limit = ltb-false limit p.count o in
    let ne : (p.count == limit) ≡ false = not_false (p.count == limit) (ap (λ b. not (b && (p.count == limit))) (sym d) ∙ s) in
    lt-ltb p.count limit (lt le (λ k. true≢false (sym (eq-eqb p.count limit k) ∙ ne)))
  where
    not_false : (b : Bool) → not b ≡ true → b ≡ false
    not_false true e = sym e
    not_false false e = refl

    lt : p.count ≤ limit → p.count ≢ limit → p.count < limit
    lt l k = omega arith

pub unspent_left : (now : ℕ) (limit : Option ℕ) (ps : List Pending) → All (λ p. over_limit p.count limit ≡ false) ps → IsUnspent now limit (filter (λ p. not (nat_le p.due now && at_limit p.count limit)) ps)
unspent_left now limit ps h = record { below = go ps h }
  where
    go : (ps : List Pending) → All (λ p. over_limit p.count limit ≡ false) ps → All (λ e. nat_le e.due now ≡ true → below_limit e.count limit ≡ true) (filter (λ p. not (nat_le p.due now && at_limit p.count limit)) ps)
    go [] k = All-nil (λ (e : Pending). nat_le e.due now ≡ true → below_limit e.count limit ≡ true)
    go (p ∷ ps) k = at (not (nat_le p.due now && at_limit p.count limit)) refl (go ps (All-tail (λ (p : Pending). over_limit p.count limit ≡ false) p ps k))
      where
        at : (b : Bool) → not (nat_le p.due now && at_limit p.count limit) ≡ b → All (λ e. nat_le e.due now ≡ true → below_limit e.count limit ≡ true) (filter (λ p. not (nat_le p.due now && at_limit p.count limit)) ps)
            → All (λ e. nat_le e.due now ≡ true → below_limit e.count limit ≡ true) (cond b (p ∷ filter (λ p. not (nat_le p.due now && at_limit p.count limit)) ps) (filter (λ p. not (nat_le p.due now && at_limit p.count limit)) ps))
        at true e w = All-cons (λ (e : Pending). nat_le e.due now ≡ true → below_limit e.count limit ≡ true) p _ (unspent_one now limit p (All-head (λ (p : Pending). over_limit p.count limit ≡ false) p ps k) e) w
        at false e w = w

pub push_outs : (now : ℕ) (c : Consumer) → c.waiting ≡ [] → push_comes now c ≡ true → consumer_outs now c ≡ push_beat c ∷ []
push_outs now c e k = ap (λ ps. consumer_outs now (record c { waiting = ps })) e ∙ ap (λ b. cond b (push_beat c ∷ []) []) k

-- ---- pulls

pub small_ends : (v s : Consumer) → v ≡ s → (size now : ℕ) (pull : Pull) (after : List Pull) (outs_old outs_new : List Out) → front_demand s.waiting size ≡ TooSmall → Some pull ≡ slice_get v.waiting 0
    → after ≡ after_front size now v.waiting → outs_new ≡ outs_old ++ status_out pull.reply (small_block pull) ∷ [] → EndsSmall s EndedSmall outs_old outs_new (record v { waiting = after })
small_ends v s k size now pull after outs_old outs_new small front left outs = subst (λ (c : Consumer). EndsSmall c EndedSmall outs_old outs_new (record v { waiting = after })) k (go v.waiting refl)
  where
    go : (ps : List Pull) → v.waiting ≡ ps → EndsSmall v EndedSmall outs_old outs_new (record v { waiting = after })
    go [] e = absurd (none_some (sym (front ∙ ap (λ ps. slice_get ps 0) e)))
    go (p ∷ ps) e = record {
      front = pull;
      rest = ps;
      waiting_is = e ∙ ap (λ z. z ∷ ps) (sym (some_is (front ∙ ap (λ ps. slice_get ps 0) e)));
      what_is = refl;
      after_is = ap (λ ps. record v { waiting = ps }) (left ∙ ap (after_front size now) e ∙ passed (fits size p.bytes) (ap (λ (c : Consumer). front_demand c.waiting size) k ∙ small));
      outs_are = outs;
    }
      where
        passed : (b : Bool) → front_demand v.waiting size ≡ TooSmall → after_front size now (p ∷ ps) ≡ ps
        passed b q = fit (fits size p.bytes) (ap (λ ps. front_demand ps size) (sym e) ∙ q)
          where
            fit : (b : Bool) → cond b Asked TooSmall ≡ TooSmall → cond b (front_served now size (p ∷ ps)) ps ≡ ps
            fit true f = absurd (true≢false (sym (ap is_too_small f)))
            fit false f = refl

pub small_has : (v s : Consumer) → v ≡ s → (size : ℕ) → front_demand s.waiting size ≡ TooSmall → None ≡ slice_get v.waiting 0 → ⊥
small_has v s k size small front = go v.waiting (ap (λ (c : Consumer). front_demand c.waiting size) k ∙ small) front
  where
    go : (ps : List Pull) → front_demand ps size ≡ TooSmall → None ≡ slice_get ps 0 → ⊥
    go [] e f = absurd (true≢false (sym (ap is_too_small e)))
    go (p ∷ ps) e f = none_some f

pub no_wait_ready : (a : Stream) (listened : Bool) (s : Consumer) (o : Option Delivered) (outs_old outs_new : List Out) (new : Consumer) → candidates a s ≡ [] → MayEndNoWait s o outs_old outs_new new → IsReady a listened s (is_some o)
no_wait_ready a listened s None outs_old outs_new new none w = ready_by_no_wait a listened s None none w.none
no_wait_ready a listened s (Some what) outs_old outs_new new none w = ready_by_no_wait a listened s (Some w.pull) none w.first

pub beat_told : (v s : Consumer) → v ≡ s → (d n : ℕ) → d ≡ v.dseq → n ≡ v.cursor
    → status_out v.config.deliver_subject (status 100 (codes "Idle Heartbeat") ((codes "Nats-Last-Consumer", d) ∷ (codes "Nats-Last-Stream", n - 1) ∷ [])) ≡ push_beat s
beat_told v s e d n f g =
    ap (λ d. status_out v.config.deliver_subject (status 100 (codes "Idle Heartbeat") ((codes "Nats-Last-Consumer", d) ∷ (codes "Nats-Last-Stream", n - 1) ∷ []))) f
    ∙ ap (λ n. status_out v.config.deliver_subject (status 100 (codes "Idle Heartbeat") ((codes "Nats-Last-Consumer", v.dseq) ∷ (codes "Nats-Last-Stream", n - 1) ∷ []))) g
    ∙ ap push_beat e

-- one pull more of those so far
pub taken_more : {X : Type 0} (xs : List X) (i : ℕ) → take i xs ++ option_to_list (slice_get xs i) ≡ take (suc i) xs
taken_more [] zero = refl
taken_more [] (suc i) = refl
taken_more (x ∷ xs) zero = refl
taken_more {X} (x ∷ xs) (suc i) = ap (λ (l : List X). x ∷ l) (taken_more xs i)

pub farewells_more : (xs : List Pull) (i : ℕ) (outs more : List Out) → outs ≡ map farewell_of (take i xs) → more ≡ outs ++ map farewell_of (option_to_list (slice_get xs i)) → more ≡ map farewell_of (take (i + 1) xs)
farewells_more xs i outs more e f = f ∙ ap (λ l. l ++ map farewell_of (option_to_list (slice_get xs i))) e ∙ sym (map-append farewell_of (take i xs) (option_to_list (slice_get xs i))) ∙ ap (map farewell_of) (taken_more xs i ∙ ap (λ n. take n xs) (sym (add-one i)))
