-- Streams with a part of their messages: what their consumers keep.
use Rattle.std.proofs.Common.{◌≡◌, ℕ, Bool, true, false, cond, List, [], ◌∷◌, map, refl, sym, ap, ◌∙◌}
use Rattle.std.specs.Prelude.{filter, All}
use Rattle.std.proofs.lemmas.Bool.{true≢false}
use Rattle.std.proofs.lemmas.List.Elements.{All-nil, All-cons, All-head, All-tail, filter_passes}
use Rattle.js_base.specs.Bytes.{has}
use Rattle.js_model.specs.declared.stream.Message.{Message}
use Rattle.js_model.specs.declared.stream.Stream.{Stream}
use Rattle.js_model.specs.declared.consumer.Pending.{Pending}
use Rattle.js_model.specs.declared.consumer.Consumer.{Consumer}
use Rattle.js_model.specs.Lists.{IsPart}
use Rattle.js_model.specs.Streams.{only, confined, seqs}
use Rattle.js_model.proofs.Parts.{part_map}
use Rattle.js_model.proofs.Lacking.{has-part}
use Rattle.consumer_need.specs.Stored.{HoldsStored}

-- what passes the second test passes the first
pub filter_within : {X : Type 0} (t u : X → Bool) → ((x : X) → u x ≡ true → t x ≡ true) → (xs : List X) → filter u (filter t xs) ≡ filter u xs
filter_within t u h [] = refl
filter_within {X} t u h (x ∷ xs) = go (t x) refl (filter_within t u h xs)
  where
    fails : (b : Bool) → u x ≡ b → t x ≡ false → u x ≡ false
    fails true e f = absurd (true≢false (sym (h x e) ∙ f))
    fails false e f = e

    go : (b : Bool) → t x ≡ b → filter u (filter t xs) ≡ filter u xs → filter u (cond b (x ∷ filter t xs) (filter t xs)) ≡ cond (u x) (x ∷ filter u xs) (filter u xs)
    go true e r = ap (λ l. cond (u x) (x ∷ l) l) r
    go false e r = r ∙ sym (ap (λ b. cond b (x ∷ filter u xs) (filter u xs)) (fails (u x) refl e))

module _ {ms ns : List Message} (p : IsPart ms ns) where
  still_has : (n : ℕ) → has (seqs ms) n ≡ true → has (seqs ns) n ≡ true
  still_has n h = has-part n (part_map (λ m. m.seq) p) h

  -- what a consumer keeps of a part of some messages is what it keeps of that part
  pub confined_within : (c : Consumer) → confined (seqs ms) (confined (seqs ns) c) ≡ confined (seqs ms) c
  confined_within c =
      rw (
        filter_within (has (seqs ns)) (has (seqs ms)) still_has c.picks,
        filter_within (λ (q : Pending). has (seqs ns) q.seq) (λ (q : Pending). has (seqs ms) q.seq) (λ q. still_has q.seq) c.pending,
        filter_within (has (seqs ns)) (has (seqs ms)) still_has c.given_up,
      ) refl

  all_within : (cs : List Consumer) → map (confined (seqs ms)) (map (confined (seqs ns)) cs) ≡ map (confined (seqs ms)) cs
  all_within [] = refl
  all_within (c ∷ cs) = rw (confined_within c, all_within cs) refl

  pub only_within : (s : Stream) → only (only s ns) ms ≡ only s ms
  only_within s = ap (λ (cs : List Consumer). record (only s ms) { consumers = cs }) (all_within s.consumers)

-- consumers that were confined to some messages hold those alone
pub holds_confined : (s : Stream) (ms : List Message) → All (HoldsStored (only s ms)) (only s ms).consumers
holds_confined s ms = go s.consumers
  where
    holds : (c : Consumer) → HoldsStored (only s ms) (confined (seqs ms) c)
    holds c = record {
      picks = filter_passes (has (seqs ms)) c.picks;
      pending = filter_passes (λ (p : Pending). has (seqs ms) p.seq) c.pending;
      given_up = filter_passes (has (seqs ms)) c.given_up;
    }

    go : (cs : List Consumer) → All (HoldsStored (only s ms)) (map (confined (seqs ms)) cs)
    go [] = All-nil (HoldsStored (only s ms))
    go (c ∷ cs) = All-cons (HoldsStored (only s ms)) (confined (seqs ms) c) (map (confined (seqs ms)) cs) (holds c) (go cs)

-- what all pass keeps all
filter_all : {X : Type 0} (t : X → Bool) (xs : List X) → All (λ x. t x ≡ true) xs → filter t xs ≡ xs
filter_all t [] h = refl
filter_all t (x ∷ xs) h = rw (All-head (λ y. t y ≡ true) x xs h) (ap (λ l. x ∷ l) (filter_all t xs (All-tail (λ y. t y ≡ true) x xs h)))

-- a consumer that holds stored messages alone stays as it is
pub confined_same : (s : Stream) (c : Consumer) → HoldsStored s c → confined (seqs s.messages) c ≡ c
confined_same s c h = rw (filter_all (has (seqs s.messages)) c.picks h.picks, filter_all (λ (p : Pending). has (seqs s.messages) p.seq) c.pending h.pending, filter_all (has (seqs s.messages)) c.given_up h.given_up) refl

pub only_own : (s : Stream) → All (HoldsStored s) s.consumers → only s s.messages ≡ s
only_own s h = ap (λ (cs : List Consumer). record s { consumers = cs }) (go s.consumers h)
  where
    go : (cs : List Consumer) → All (HoldsStored s) cs → map (confined (seqs s.messages)) cs ≡ cs
    go [] k = refl
    go (c ∷ cs) k = rw (confined_same s c (All-head (HoldsStored s) c cs k), go cs (All-tail (HoldsStored s) c cs k)) refl
