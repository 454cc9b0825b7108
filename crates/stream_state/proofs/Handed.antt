-- Which consumer is ready, and what a delivery to it leaves.
use Rattle.std.proofs.Common.{◌≡◌, ℕ, zero, suc, ◌+◌, ◌<◌, ◌≤◌, Bool, true, false, cond, List, [], ◌∷◌, Option, Some, None, get_or, length, map, max, refl, sym, ap, subst, ◌∙◌, ◌==◌, ◌&&◌, ◌||◌, not, IsTrue, arith, inl, inr}
use Rattle.std.specs.Prelude.{◌⊎◌, nat_lt, option_map, slice_get}
use Rattle.std.specs.List.{list_any}
use Rattle.std.proofs.lemmas.Bool.{eqb-false, eqb-true, ltb-false, ltb-true}
use Rattle.std.proofs.lemmas.List.{length-map}
use Rattle.std.proofs.lemmas.List.Elements.{All-from_get_or}
use Rattle.std.proofs.lemmas.List.Folds.{list_any_none}
use Rattle.std.proofs.lemmas.Option.{get_or_from_slice_get, slice_get-map, slice_get_cases}
use Rattle.js_base.specs.Bytes.{is_empty, Bytes, same}
use Rattle.js_base.specs.declared.out.Out.{Out}
use Rattle.js_model.specs.declared.consumer.Consumer.{Consumer}
use Rattle.js_model.specs.declared.entry.Delivered.{Delivered}
use Rattle.js_model.specs.declared.entry.Delivered.TheVariants.{Sent, TooSmall, Emptied}
use Rattle.js_model.specs.declared.stream.Message.{Message}
use Rattle.js_model.specs.declared.stream.Stream.{Stream}
use Rattle.js_model.specs.Advance.{advance, consumer_at, stream_at, young}
use Rattle.js_model.specs.Deliver.{candidates, front_allows, is_listened, Delivers}
use Rattle.js_model.specs.Ready.{is_ready, is_ready_with}
use Rattle.js_model.specs.Streams.{by_name, confined, is_push, sent_size, seqs}
use Rattle.js_model.proofs.Named.{none_some, same_is, same_self, some_is}
use Rattle.retention.specs.Over.{next_over}
use Rattle.followed_stream.specs.Attended.{AreNamedApart, IsAttended}
use Rattle.followed_stream.specs.Delivering.{IsIdleAt, IsReadyAt, IsReadyIf}
use Rattle.followed_stream.specs.Handing.{HandsAt, MayHandAt}
use Rattle.followed_stream.specs.Spans.{joined, spans}
use Rattle.followed_stream.specs.declared.span.Span.{Span}
use Rattle.stream_state.specs.Serving.{is_of_some, is_ready_if, FindsAmong, FindsReady, Serves, ServesNone}
use Rattle.stream_state.specs.Settled.{AreProper, IsSettled}
use Rattle.stream_state.proofs.Calling.{outside_acked, outside_handed}
use Rattle.stream_state.proofs.Proper.{delivered_kin, proper_with}

-- ---- the one at a place

-- one at a place stands there
record StandsAt (cs : List Consumer) (place : ℕ) (c : Consumer) : Type 0 where
  within : place < length cs
  is : get_or cs place c ≡ c

stands : (cs : List Consumer) (place : ℕ) (c : Consumer) → slice_get cs place ≡ Some c → StandsAt cs place c
stands cs place c e = go (slice_get_cases cs place).1
  where
    go : ((d : Consumer) × (place < length cs) × (slice_get cs place ≡ Some d) × (get_or cs place d ≡ d)) ⊎ ((length cs ≤ place) × (slice_get cs place ≡ None)) → StandsAt cs place c
    go (inl (d, l, f, o)) = subst (StandsAt cs place) (some_is (sym f ∙ e)) (record { within = l; is = o })
    go (inr (l, f)) = absurd (none_some (sym f ∙ e))

there : (cs : List Consumer) (i : ℕ) (d : Consumer) → i < length cs → by_name cs (get_or cs i d).name ≡ None → ⊥
there [] i d l e = absurd (omega arith)
there (c ∷ cs) zero d l e = none_some (sym e ∙ ap (λ (b : Bool). cond b (Some c) (by_name cs c.name)) (same_self c.name))
there (c ∷ cs) (suc i) d l e = go (same c.name (get_or cs i d).name) e (there cs i d (omega arith))
  where
    go : (b : Bool) → cond b (Some c) (by_name cs (get_or cs i d).name) ≡ None → (by_name cs (get_or cs i d).name ≡ None → ⊥) → ⊥
    go true k r = none_some (sym k)
    go false k r = r k

named : (cs : List Consumer) (i : ℕ) (d : Consumer) → AreNamedApart cs → i < length cs → by_name cs (get_or cs i d).name ≡ Some (get_or cs i d)
named [] i d a l = absurd (omega arith)
named (c ∷ cs) zero d a l = ap (λ (b : Bool). cond b (Some c) (by_name cs c.name)) (same_self c.name)
named (c ∷ cs) (suc i) d a l = go (same c.name (get_or cs i d).name) refl (named cs i d a.1 (omega arith))
  where
    go : (b : Bool) → same c.name (get_or cs i d).name ≡ b → by_name cs (get_or cs i d).name ≡ Some (get_or cs i d) → cond b (Some c) (by_name cs (get_or cs i d).name) ≡ Some (get_or cs i d)
    go true q r = absurd (there cs i d (omega arith) (ap (by_name cs) (sym (same_is c.name (get_or cs i d).name q)) ∙ a.0))
    go false q r = r

-- it is the one of its name
pub named_at : (cs : List Consumer) (place : ℕ) (c : Consumer) → AreNamedApart cs → slice_get cs place ≡ Some c → by_name cs c.name ≡ Some c
named_at cs place c a e = let at = stands cs place c e in subst (λ (x : Consumer). by_name cs x.name ≡ Some x) at.is (named cs place c a at.within)

-- ---- whether it is ready

pub none_at : (a : Stream) (listening : List Bytes) (place : ℕ) → slice_get a.consumers place ≡ None → is_ready_if a listening (slice_get a.consumers place) ≡ false
none_at a listening place e = ap (is_ready_if a listening) e

-- a pull consumer is ready whoever is listened to
pull_ready : (a : Stream) (some other : List Bytes) (c : Consumer) → is_push c ≡ false → is_ready a some c ≡ is_ready a other c
pull_ready a some other c q = go (candidates a c)
  where
    go : (ms : List Message) → is_ready_with ms some c ≡ is_ready_with ms other c
    go [] = refl
    go (m ∷ ms) =
        ap (λ (b : Bool). cond b (is_listened some c) (not (is_empty c.waiting))) q ∙ sym (ap (λ (b : Bool). cond b (is_listened other c) (not (is_empty c.waiting))) q)

-- whether it is, by whether a push consumer is listened to
pub ready_heard : (a : Stream) (listening : List Bytes) (c : Consumer) (heard ready : Bool) → heard ≡ (is_push c && is_listened listening c) → ((l : List Bytes) → is_listened l c ≡ heard → ready ≡ is_ready a l c) → ready ≡ is_ready a listening c
ready_heard a listening c heard ready e h = go (is_push c) refl e
  where
    go : (b : Bool) → is_push c ≡ b → heard ≡ (b && is_listened listening c) → ready ≡ is_ready a listening c
    go true q k = h listening (sym k)
    go false q k = h [] (sym k) ∙ pull_ready a [] listening c q

pub ready_at : (a : Stream) (listening : List Bytes) (place : ℕ) (c : Consumer) (heard ready : Bool) → slice_get a.consumers place ≡ Some c → heard ≡ (is_push c && is_listened listening c) → IsReadyAt a place heard ready
    → ready ≡ is_ready_if a listening (slice_get a.consumers place)
ready_at a listening place c heard ready e k h =
    ready_heard a listening c heard ready k (subst (λ (o : Option Consumer). IsReadyIf a o heard ready) e h) ∙ sym (ap (is_ready_if a listening) e)

-- the one at a place, at a moment
at_later : (s : Stream) (now place : ℕ) (c : Consumer) → slice_get s.consumers place ≡ Some c
    → slice_get (advance s now).consumers place ≡ Some (consumer_at (max s.moment now) (confined (seqs (young s (max s.moment now))) c))
unfolding advance
at_later s now place c e =
    slice_get-map (consumer_at (max s.moment now)) (map (confined (seqs (young s (max s.moment now)))) s.consumers) place
    ∙ ap (option_map (consumer_at (max s.moment now))) (slice_get-map (confined (seqs (young s (max s.moment now)))) s.consumers place ∙ ap (option_map (confined (seqs (young s (max s.moment now))))) e)

none_later : (s : Stream) (now place : ℕ) → slice_get s.consumers place ≡ None → slice_get (advance s now).consumers place ≡ None
unfolding advance
none_later s now place e =
    slice_get-map (consumer_at (max s.moment now)) (map (confined (seqs (young s (max s.moment now)))) s.consumers) place
    ∙ ap (option_map (consumer_at (max s.moment now))) (slice_get-map (confined (seqs (young s (max s.moment now)))) s.consumers place ∙ ap (option_map (confined (seqs (young s (max s.moment now))))) e)

stands_later : (s : Stream) (now place : ℕ) (heard ready : Bool) → IsReadyAt (stream_at s (max s.moment now)) place heard ready → IsReadyAt (advance s now) place heard ready
unfolding advance
stands_later s now place heard ready h = h

-- by what is asked of the stream there
pub ready_by : (s : Stream) (now : ℕ) (listening : List Bytes) (place : ℕ) (c : Consumer) (heard ready : Bool) → slice_get s.consumers place ≡ Some c → heard ≡ (is_push c && is_listened listening c)
    → IsReadyAt (stream_at s (max s.moment now)) place heard ready → ready ≡ is_ready_if (advance s now) listening (slice_get (advance s now).consumers place)
ready_by s now listening place c heard ready e k h =
    ready_at (advance s now) listening place (consumer_at (max s.moment now) (confined (seqs (young s (max s.moment now))) c)) heard ready (at_later s now place c e) k (stands_later s now place heard ready h)

pub none_by : (s : Stream) (now : ℕ) (listening : List Bytes) (place : ℕ) → slice_get s.consumers place ≡ None → is_ready_if (advance s now) listening (slice_get (advance s now).consumers place) ≡ false
none_by s now listening place e = none_at (advance s now) listening place (none_later s now place e)

-- ---- which one

-- none from a place on is ready before another
abbrev pub AreUnready : Stream → List Bytes → ℕ → ℕ → Type 0
AreUnready a listening from end = (place : ℕ) → from ≤ place → place < end → is_ready_if a listening (slice_get a.consumers place) ≡ false

pub unready_none : (a : Stream) (listening : List Bytes) (from : ℕ) → AreUnready a listening from from
unready_none a listening from place k l = absurd (omega (arith, k, l))

pub unready_more : (a : Stream) (listening : List Bytes) (from end : ℕ) (ready : Bool) → AreUnready a listening from end → ready ≡ is_ready_if a listening (slice_get a.consumers end) → ready ≡ false
    → AreUnready a listening from (end + 1)
unready_more a listening from end ready h e unready place k l = go (place == end) refl
  where
    go : (b : Bool) → (place == end) ≡ b → is_ready_if a listening (slice_get a.consumers place) ≡ false
    go true q = ap (λ (n : ℕ). is_ready_if a listening (slice_get a.consumers n)) (eqb-true place end q) ∙ sym e ∙ unready
    go false q = let n : place ≡ end → ⊥ = eqb-false place end q in h place k (omega (arith, l, n))

-- none at all is, if none is on either side of a place
none_ready : (a : Stream) (listening : List Bytes) (turn end : ℕ) → length a.consumers ≤ end → AreUnready a listening turn end → AreUnready a listening 0 turn → list_any (is_ready a listening) a.consumers ≡ false
none_ready a listening turn end l behind before = go a.consumers refl
  where
    unready : (i : ℕ) → i < length a.consumers → is_ready_if a listening (slice_get a.consumers i) ≡ false
    unready i k = side (nat_lt i turn) refl
      where
        side : (b : Bool) → nat_lt i turn ≡ b → is_ready_if a listening (slice_get a.consumers i) ≡ false
        side true q = let less : i < turn = ltb-true i turn q in before i (omega arith) less
        side false q = let more : turn ≤ i = ltb-false i turn q in behind i more (omega (arith, k, l))

    each : (d : Consumer) (i : ℕ) → i < length a.consumers → is_ready a listening (get_or a.consumers i d) ≡ false
    each d i k = at (slice_get_cases a.consumers i).1
      where
        at : ((c : Consumer) × (i < length a.consumers) × (slice_get a.consumers i ≡ Some c) × (get_or a.consumers i c ≡ c)) ⊎ ((length a.consumers ≤ i) × (slice_get a.consumers i ≡ None))
            → is_ready a listening (get_or a.consumers i d) ≡ false
        at (inl (c, k', f, o)) = ap (is_ready a listening) (get_or_from_slice_get a.consumers i c d f) ∙ sym (ap (is_ready_if a listening) f) ∙ unready i k
        at (inr (k', f)) = absurd (omega (arith, k, k'))

    go : (cs : List Consumer) → a.consumers ≡ cs → list_any (is_ready a listening) a.consumers ≡ false
    go [] e = ap (list_any (is_ready a listening)) e
    go (d ∷ ds) e = list_any_none (is_ready a listening) a.consumers (All-from_get_or (λ c. is_ready a listening c ≡ false) a.consumers d (each d))

-- the search from a place on, and then up to it
pub finds_all : (a : Stream) (listening : List Bytes) (turn end : ℕ) (found : Option ℕ) → length a.consumers ≤ end → AreUnready a listening turn end → FindsAmong a listening 0 turn found → FindsReady a listening found
finds_all a listening turn end None l behind before = none_ready a listening turn end l behind before
finds_all a listening turn end (Some place) l behind found = found

-- as many stand there as before
pub as_many : (s : Stream) (now : ℕ) → length (advance s now).consumers ≡ length s.consumers
unfolding advance
as_many s now =
    length-map (map (confined (seqs (young s (max s.moment now)))) s.consumers) (consumer_at (max s.moment now)) ∙ length-map s.consumers (confined (seqs (young s (max s.moment now))))

-- ---- a delivery

-- what is delivered to a pull consumer is, whoever is listened to
pull_delivers : (a : Stream) (some other : List Bytes) (c : Consumer) (what : Delivered) (outs : List Out) (after : Consumer) → is_push c ≡ false → Delivers a some c what outs after → Delivers a other c what outs after
pull_delivers a some other c (Sent seq count dseq) outs after q h = record {
  message = h.message;
  candidate = h.candidate;
  seq_is = h.seq_is;
  wanted =
      subst IsTrue
      (ap (λ (b : Bool). cond b (is_listened some c) (front_allows c.waiting (sent_size h.message))) q
      ∙ sym (ap (λ (b : Bool). cond b (is_listened other c) (front_allows c.waiting (sent_size h.message))) q))
      h.wanted;
  count_is = h.count_is;
  dseq_is = h.dseq_is;
  after_is = h.after_is;
  outs_are = h.outs_are;
}
pull_delivers a some other c TooSmall outs after q h = h
pull_delivers a some other c Emptied outs after q h = h

delivers_heard : (a : Stream) (listening : List Bytes) (c : Consumer) (what : Delivered) (outs : List Out) (after : Consumer) (heard : Bool) → heard ≡ (is_push c && is_listened listening c)
    → ((l : List Bytes) → is_listened l c ≡ heard → Delivers a l c what outs after) → Delivers a listening c what outs after
delivers_heard a listening c what outs after heard e h = go (is_push c) refl e
  where
    go : (b : Bool) → is_push c ≡ b → heard ≡ (b && is_listened listening c) → Delivers a listening c what outs after
    go true q k = h listening (sym k)
    go false q k = pull_delivers a [] listening c what outs after q (h [] (sym k))

pub serves : (s new : Stream) (place : ℕ) (heard : Bool) (listening : List Bytes) (name : Bytes) (c : Consumer) (what : Delivered) (outs_old outs_new : List Out) → AreNamedApart s.consumers
    → slice_get s.consumers place ≡ Some c → name ≡ c.name → heard ≡ (is_push c && is_listened listening c) → HandsAt s place heard what outs_old outs_new new
    → Serves s place listening (record { consumer = name; what = what }) outs_old outs_new new
serves s new place heard listening name c what outs_old outs_new apart e named_is k p = record {
  consumer = p.consumer;
  after = p.after;
  own = p.own;
  at = p.found;
  found = ap (by_name s.consumers) (named_is ∙ ap (λ (x : Consumer). x.name) is) ∙ named_at s.consumers place p.consumer apart p.found;
  delivers = delivers_heard s listening p.consumer what p.own p.after heard (k ∙ ap (λ (x : Consumer). is_push x && is_listened listening x) is) p.delivers;
  outs_are = p.outs_are;
  new_is = p.left;
}
  where
    is : c ≡ p.consumer
    is = some_is (sym e ∙ p.found)

pub serves_none : (s : Stream) (place : ℕ) (listening : List Bytes) (outs : List Out) → slice_get s.consumers place ≡ None → ServesNone s place listening outs outs s
serves_none s place listening outs e = record { unready = none_at s listening place e; outs_same = refl; same = refl }

-- nothing can be delivered to the one at the place
pub serves_idle : (s new : Stream) (place : ℕ) (heard : Bool) (listening : List Bytes) (c : Consumer) (outs_old outs_new : List Out) → slice_get s.consumers place ≡ Some c → heard ≡ (is_push c && is_listened listening c)
    → IsIdleAt s place heard outs_old outs_new new → ServesNone s place listening outs_old outs_new new
serves_idle s new place heard listening c outs_old outs_new e k h = record { unready = sym (ready_at s listening place c heard false e k h.unready); outs_same = h.outs_same; same = h.same }

pub within_at : (s : Stream) (place : ℕ) (c : Consumer) → slice_get s.consumers place ≡ Some c → place < length s.consumers
within_at s place c e = (stands s.consumers place c e).within

-- somebody listens, or nobody
heard : (c : Consumer) (listened : Bool) → (listening : List Bytes) × (is_listened listening c ≡ listened)
heard c true = (c.name ∷ [], ap (λ (b : Bool). b || false) (same_self c.name))
heard c false = ([], refl)

-- a stream goes on being settled
pub settled_handed : (loose other : Span) (s t : Stream) (place : ℕ) (listened : Bool) (what : Option Delivered) (outs_old outs_new : List Out) → IsAttended t → MayHandAt s place listened what outs_old outs_new t
    → ((n : ℕ) → spans other n ≡ false → is_of_some what n ≡ false) → IsSettled s loose → IsSettled t (joined loose other)
settled_handed loose other s t place listened None outs_old outs_new attended p out h = subst (λ (x : Stream). IsSettled x (joined loose other)) (sym p.same) (record {
  attended = h.attended;
  proper = h.proper;
  within = h.within;
  kept = outside_acked loose s s refl refl h.kept other (λ m e. record { needed = refl; taken = refl });
})
settled_handed loose other s t place listened (Some what) outs_old outs_new attended p out h = record {
  attended = attended;
  proper = subst (λ (x : Stream). AreProper x.consumers) (sym p.left)
      (proper_with s.consumers place p.after p.consumer p.found (delivered_kin s listens.0 p.consumer what p.own p.after (p.delivers listens.0 listens.1)) h.proper);
  within = ap (λ (x : Stream). next_over x) p.left ∙ h.within;
  kept = outside_handed loose s t (ap (λ (x : Stream). x.messages) p.left) (ap (λ (x : Stream). x.config.retention) p.left) h.kept other what out p.needed;
}
  where
    listens : (listening : List Bytes) × (is_listened listening p.consumer ≡ listened)
    listens = heard p.consumer listened
