-- Which messages the retention keeps, as others go.
use Rattle.std.proofs.Common.{◌≡◌, ℕ, zero, suc, ◌<◌, ◌==◌, ◌||◌, Bool, true, not, List, [], ◌∷◌, get_or, set, length, map, refl, sym, ap, ◌∙◌, arith}
use Rattle.std.specs.List.{list_any}
use Rattle.std.proofs.lemmas.Bool.{or_left, or_right, eq-eqb}
use Rattle.js_base.specs.Bytes.{has}
use Rattle.js_model.specs.declared.stream_config.Retention.{Retention as Policy}
use Rattle.js_model.specs.declared.stream_config.Retention.TheVariants.{Limits, Interest, WorkQueue}
use Rattle.js_model.specs.declared.stream.Message.{Message}
use Rattle.js_model.specs.declared.consumer.Consumer.{Consumer}
use Rattle.js_model.specs.Streams.{confined, pending_seqs, seqs, takes}
use Rattle.js_model.specs.Retention.{is_kept, needs}
use Rattle.js_model.proofs.Members.{IsIn, here, there}
use Rattle.stored_stream.proofs.Lists.{filter-map}
use Rattle.followed_stream.specs.Followers.{Following}
use Rattle.followed_stream.specs.Needing.{NeedSame}
use Rattle.followed_stream.proofs.Holding.{has_filtered}

pub seq_in : (m : Message) (ms : List Message) → IsIn m ms → has (seqs ms) m.seq ≡ true
seq_in m [] i = elim i [ ]
seq_in m (x ∷ xs) here = or_left (m.seq == m.seq) (has (seqs xs) m.seq) (eq-eqb m.seq m.seq refl)
seq_in m (x ∷ xs) (there i) = or_right (x.seq == m.seq) (has (seqs xs) m.seq) (seq_in m xs i)

pub kept_alike : (policy : Policy) (m : Message) (cs ds : List Consumer) → NeedSame m cs ds → is_kept policy cs m ≡ is_kept policy ds m
kept_alike Limits m cs ds h = refl
kept_alike Interest m cs ds h = h.needed
kept_alike WorkQueue m cs ds h = ap (λ (b : Bool). b || not (list_any (λ c. takes c m) cs)) h.needed ∙ ap (λ (b : Bool). list_any (λ c. needs c m) ds || not b) h.taken

-- a change that leaves what each needs and takes
pub need_same_map : (m : Message) (f : Consumer → Consumer) → ((c : Consumer) → needs (f c) m ≡ needs c m) → ((c : Consumer) → takes (f c) m ≡ takes c m) → (cs : List Consumer) → NeedSame m (map f cs) cs
need_same_map m f h k [] = record { needed = refl; taken = refl }
need_same_map m f h k (c ∷ cs) = record {
  needed = ap (λ (b : Bool). b || list_any (λ c. needs c m) (map f cs)) (h c) ∙ ap (λ (b : Bool). needs c m || b) (need_same_map m f h k cs).needed;
  taken = ap (λ (b : Bool). b || list_any (λ c. takes c m) (map f cs)) (k c) ∙ ap (λ (b : Bool). takes c m || b) (need_same_map m f h k cs).taken;
}

-- a consumer that is confined to some messages needs these as before
module _ (ns : List ℕ) (m : Message) (e : has ns m.seq ≡ true) where
  pending_same : (c : Consumer) → has (pending_seqs (confined ns c)) m.seq ≡ has (pending_seqs c) m.seq
  pending_same c = ap (λ (l : List ℕ). has l m.seq) (sym (filter-map (λ p. p.seq) (has ns) c.pending)) ∙ has_filtered (has ns) (pending_seqs c) m.seq e

  needs_same : (c : Consumer) → needs (confined ns c) m ≡ needs c m
  needs_same c = rw (pending_same c, has_filtered (has ns) c.picks m.seq e, has_filtered (has ns) c.given_up m.seq e) refl

  pub kept_same : (policy : Policy) (cs : List Consumer) → is_kept policy (map (confined ns) cs) m ≡ is_kept policy cs m
  kept_same policy cs = kept_alike policy m (map (confined ns) cs) cs (need_same_map m (confined ns) needs_same (λ c. refl) cs)

-- ---- one of several changes

pub same_need : (m : Message) (cs : List Consumer) → NeedSame m cs cs
same_need m cs = record { needed = refl; taken = refl }

pub need_same_trans : (m : Message) (bs cs ds : List Consumer) → NeedSame m bs cs → NeedSame m cs ds → NeedSame m bs ds
need_same_trans m bs cs ds h k = record { needed = h.needed ∙ k.needed; taken = h.taken ∙ k.taken }

any_set : (test : Consumer → Bool) (fs : List Following) (i : ℕ) (g d : Following) → i < length fs → test g.consumer ≡ test (get_or fs i d).consumer → list_any test (map (λ f. f.consumer) (set fs i g)) ≡ list_any test (map (λ f. f.consumer) fs)
any_set test [] i g d l e = absurd (omega arith)
any_set test (f ∷ fs) zero g d l e = ap (λ (b : Bool). b || list_any test (map (λ f. f.consumer) fs)) e
any_set test (f ∷ fs) (suc i) g d l e = ap (λ (b : Bool). test f.consumer || b) (any_set test fs i g d (omega arith) e)

pub need_same_set : (m : Message) (fs : List Following) (i : ℕ) (g d : Following) → i < length fs → needs g.consumer m ≡ needs (get_or fs i d).consumer m → takes g.consumer m ≡ takes (get_or fs i d).consumer m
    → NeedSame m (map (λ f. f.consumer) (set fs i g)) (map (λ f. f.consumer) fs)
need_same_set m fs i g d l n t = record { needed = any_set (λ c. needs c m) fs i g d l n; taken = any_set (λ c. takes c m) fs i g d l t }
