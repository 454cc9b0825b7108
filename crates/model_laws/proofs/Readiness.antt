-- A consumer is ready if and only if one of the three cases of a delivery holds.
use Rattle.std.proofs.Common.{◌≡◌, ◌+◌, Bool, true, false, ◌||◌, List, [], ◌∷◌, refl, sym, subst, ◌∙◌, cond, if◌then◌else◌}
use Rattle.std.specs.Prelude.{Some, not, find, Contains, IsTrue}
use Rattle.std.specs.List.{list_any}
use Rattle.std.proofs.lemmas.Bool.{true≢false}
use Rattle.js_base.specs.Bytes.{Bytes, is_empty}
use Rattle.js_model.specs.declared.stream.Message.{Message}
use Rattle.js_model.specs.declared.stream.Stream.{Stream}
use Rattle.js_model.specs.declared.consumer.Pull.{Pull}
use Rattle.js_model.specs.declared.consumer.Consumer.{Consumer}
use Rattle.js_model.specs.declared.entry.Delivered.{Delivered}
use Rattle.js_model.specs.declared.entry.Delivered.TheVariants.{Sent, TooSmall, Emptied}
use Rattle.js_base.specs.declared.out.Out.{Out}
use Rattle.js_model.specs.Streams.{is_push, sent_size}
use Rattle.js_model.specs.Advance.{status_out}
use Rattle.js_model.specs.Deliver.{candidates, count_of, sent_to, delivery_out, fits, front_allows, is_listened, is_wanted, without_first, small_block, empty_block, Delivers}
use Rattle.model_laws.specs.Laws.{CanDeliver, LawReady}
use Rattle.js_model.specs.Ready.{is_ready, is_ready_with}
use Rattle.js_model.proofs.Named.{none_some}
use Rattle.js_model.proofs.Members.{IsIn, here, in_from_contains, contains_from_in, find_none}

-- a look-up that found one
found_any : {X : Type 0} (t : X → Bool) (xs : List X) (x : X) (b : Bool) → find t xs ≡ Some x → list_any t xs ≡ b → b ≡ true
found_any t xs x true f e = refl
found_any t xs x false f e = absurd (none_some (sym (find_none t xs e) ∙ f))

-- a test that some element passes finds one
any_found : {X : Type 0} (t : X → Bool) (xs : List X) → list_any t xs ≡ true → (x : X) × (find t xs ≡ Some x)
any_found t [] h = absurd (true≢false (sym h))
any_found {X} t (y ∷ ys) h = go (t y) (any_found t ys) h
  where
    go : (b : Bool) → (list_any t ys ≡ true → (x : X) × (find t ys ≡ Some x)) → (b || list_any t ys) ≡ true → (x : X) × (cond b (Some y) (find t ys) ≡ Some x)
    go true f k = (y, refl)
    go false f k = f k

module _ (a : Stream) (listening : List Bytes) (c : Consumer) where
  -- ---- what is ready can be delivered

  send : (m : Message) → Contains (candidates a c) m → IsTrue (is_wanted listening c (sent_size m)) → CanDeliver a listening c
  send m k w =
      let after = sent_to a.moment m c in
      let count = count_of c m.seq + 1 in (
        Sent m.seq count (c.dseq + 1),
        delivery_out a c after m count ∷ [],
        after,
        record { message = m; candidate = k; seq_is = refl; wanted = w; count_is = refl; dseq_is = refl; after_is = refl; outs_are = refl },
      )

  wanted : (m : Message) (push : Bool) → is_push c ≡ push → IsTrue (if push then is_listened listening c else front_allows c.waiting (sent_size m)) → IsTrue (is_wanted listening c (sent_size m))
  wanted m push e h = subst (λ (b : Bool). IsTrue (if b then is_listened listening c else front_allows c.waiting (sent_size m))) (sym e) h

  -- the first pull gets the message, or is too small for it
  serve : (m : Message) (waiting : List Pull) → c.waiting ≡ waiting → is_push c ≡ false → Contains (candidates a c) m → IsTrue (not (is_empty waiting)) → CanDeliver a listening c
  serve m [] w e k h = absurd (true≢false (sym h))
  serve m (p ∷ ps) w e k h = go (fits (sent_size m) p.bytes) refl
    where
      go : (b : Bool) → fits (sent_size m) p.bytes ≡ b → CanDeliver a listening c
      go true q = send m k (wanted m false e (subst (λ (ws : List Pull). IsTrue (front_allows ws (sent_size m))) (sym w) q))
      go false q = (
        TooSmall,
        status_out p.reply (small_block p) ∷ [],
        record c { waiting = ps },
        record { message = m; front = p; rest = ps; candidate = k; pull = e; waiting_is = w; small = q; after_is = refl; outs_are = refl },
      )

  offer : (m : Message) (push : Bool) → is_push c ≡ push → Contains (candidates a c) m → IsTrue (if push then is_listened listening c else not (is_empty c.waiting)) → CanDeliver a listening c
  offer m true e k h = send m k (wanted m true e h)
  offer m false e k h = serve m c.waiting refl e k h

  empty : candidates a c ≡ [] → IsTrue (list_any (λ p. p.no_wait) c.waiting) → CanDeliver a listening c
  empty e h =
      let found = any_found (λ (p : Pull). p.no_wait) c.waiting h in (
        Emptied,
        status_out found.0.reply empty_block ∷ [],
        record c { waiting = without_first (λ p. p.no_wait) c.waiting },
        record { pull = found.0; none = e; first = found.1; after_is = refl; outs_are = refl },
      )

  can_deliver : (list : List Message) → candidates a c ≡ list → IsTrue (is_ready_with list listening c) → CanDeliver a listening c
  can_deliver [] e h = empty e h
  can_deliver (m ∷ ms) e h = offer m (is_push c) refl (subst (λ (xs : List Message). Contains xs m) (sym e) (contains_from_in (m ∷ ms) m here)) h

  -- ---- what can be delivered is ready

  asked : (m : Message) (push : Bool) (waiting : List Pull) → IsTrue (if push then is_listened listening c else front_allows waiting (sent_size m)) → IsTrue (if push then is_listened listening c else not (is_empty waiting))
  asked m true waiting h = h
  asked m false [] h = h
  asked m false (p ∷ ps) h = refl

  -- if there is a candidate
  ready_for : (list : List Message) (m : Message) → IsIn m list → IsTrue (if is_push c then is_listened listening c else not (is_empty c.waiting)) → IsTrue (is_ready_with list listening c)
  ready_for [] m k h = elim k [ ]
  ready_for (x ∷ xs) m k h = h

  ready_small : (front : Pull) (rest : List Pull) → is_push c ≡ false → c.waiting ≡ front ∷ rest → IsTrue (if is_push c then is_listened listening c else not (is_empty c.waiting))
  ready_small front rest e w =
      let pulls : IsTrue (not (is_empty c.waiting)) = subst (λ (ws : List Pull). IsTrue (not (is_empty ws))) (sym w) refl in
      subst (λ (b : Bool). IsTrue (if b then is_listened listening c else not (is_empty c.waiting))) (sym e) pulls

  is_ready_by : (what : Delivered) (outs : List Out) (after : Consumer) → Delivers a listening c what outs after → IsTrue (is_ready a listening c)
  is_ready_by (Sent seq count dseq) outs after h = ready_for (candidates a c) h.message (in_from_contains (candidates a c) h.message h.candidate) (asked h.message (is_push c) c.waiting h.wanted)
  is_ready_by TooSmall outs after h = ready_for (candidates a c) h.message (in_from_contains (candidates a c) h.message h.candidate) (ready_small h.front h.rest h.pull h.waiting_is)
  is_ready_by Emptied outs after h =
      subst (λ (list : List Message). IsTrue (is_ready_with list listening c)) (sym h.none) (found_any (λ (p : Pull). p.no_wait) c.waiting h.pull (list_any (λ p. p.no_wait) c.waiting) h.first refl)

pub law_ready : LawReady
law_ready a listening c = (can_deliver a listening c (candidates a c) refl, λ h. is_ready_by a listening c h.0 h.1 h.2 h.3)
