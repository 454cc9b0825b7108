-- A place is ready exactly if a delivery can be made.
use Rattle.std.proofs.Common.{◌≡◌, ◌++◌, ◌||◌, ℕ, Bool, true, false, IsTrue, List, [], ◌∷◌, Some, refl, sym, ap, subst, ◌∙◌, cond, max}
use Rattle.std.specs.List.{list_any}
use Rattle.std.specs.declared.cmp.Ordering.{Ordering}
use Rattle.std.specs.declared.cmp.Ordering.TheVariants.{Less, Equal, Greater}
use Rattle.std.specs.Ordering.{is_lt, is_eq, nat_cmp}
use Rattle.std.specs.Cmp.Lexicographic.{slice_cmp}
use Rattle.std.proofs.lemmas.Bool.{or_left, or_right, true≢false}
use Rattle.std.proofs.lemmas.Map.Text.{is_eq-slice_cmp}
use Rattle.js_base.specs.Bytes.{Bytes, same}
use Rattle.js_model.specs.declared.stream.State.TheVariants.{Vacant, Live}
use Rattle.js_model.specs.declared.stream.Stream.{Stream}
use Rattle.js_model.specs.declared.consumer.Consumer.{Consumer}
use Rattle.js_model.specs.Advance.{advance, advance_outs, aged, consumer_at, young}
use Rattle.js_model.specs.Consumers.{is_before}
use Rattle.js_model.specs.Ready.{is_ready, some_ready}
use Rattle.js_model.specs.Retention.{kept}
use Rattle.js_model.specs.Streams.{by_name, confined, seqs, with_consumer}
use Rattle.js_model.proofs.Named.{none_some, same_self, some_is}
use Rattle.model_laws.specs.Laws.{LawReady}
use Rattle.model_laws.specs.Sound.{AreOrdered}
use Rattle.model_laws.proofs.SoundAcks.{All-by_name}
use Rattle.model_laws.proofs.SoundParts.{ordered_map}
use Rattle.place_laws.specs.Laws.{CanDeliver, LawReadyPlace}

-- ---- consumers in order of their names

less_is : (o : Ordering) → is_lt o ≡ true → o ≡ Less
less_is Less h = refl
less_is Equal h = absurd (true≢false (sym h))
less_is Greater h = absurd (true≢false (sym h))

before_differs : (a b : Bytes) → is_before a b ≡ true → same a b ≡ false
before_differs a b h = sym (is_eq-slice_cmp a b) ∙ ap is_eq (less_is (slice_cmp nat_cmp a b) h)

-- one that passes a test is found by its name
ready_found : (t : Consumer → Bool) (cs : List Consumer) → AreOrdered cs → list_any t cs ≡ true → (c : Consumer) × (by_name cs c.name ≡ Some c) × (t c ≡ true)
ready_found t [] h some = absurd (true≢false (sym some))
ready_found t (c ∷ cs) h some = go (t c) refl some (ready_found t cs h.1)
  where
    behind : (d : Consumer) → by_name cs d.name ≡ Some d → by_name (c ∷ cs) d.name ≡ Some d
    behind d found =
        let before : is_before c.name d.name ≡ true = All-by_name (λ x. is_before c.name x.name ≡ true) cs d.name d found h.0 in
        ap (λ (b : Bool). cond b (Some c) (by_name cs d.name)) (before_differs c.name d.name before) ∙ found

    go : (b : Bool) → t c ≡ b → (b || list_any t cs) ≡ true → (list_any t cs ≡ true → (d : Consumer) × (by_name cs d.name ≡ Some d) × (t d ≡ true))
        → (d : Consumer) × (by_name (c ∷ cs) d.name ≡ Some d) × (t d ≡ true)
    go true is k more = (c, ap (λ (b : Bool). cond b (Some c) (by_name cs c.name)) (same_self c.name), is)
    go false is k more = let d = more k in (d.0, behind d.0 d.1, d.2)

found_ready : (t : Consumer → Bool) (cs : List Consumer) (name : Bytes) (c : Consumer) → by_name cs name ≡ Some c → t c ≡ true → list_any t cs ≡ true
found_ready t [] name c found is = absurd (none_some found)
found_ready t (d ∷ cs) name c found is = go (same d.name name) found (λ k. found_ready t cs name c k is)
  where
    go : (b : Bool) → cond b (Some d) (by_name cs name) ≡ Some c → (by_name cs name ≡ Some c → list_any t cs ≡ true) → (t d || list_any t cs) ≡ true
    go true k more = or_left (t d) (list_any t cs) (subst (λ (x : Consumer). t x ≡ true) (sym (some_is k)) is)
    go false k more = or_right (t d) (list_any t cs) (more k)

-- ---- a stream

ordered_later : (s : Stream) (now : ℕ) → AreOrdered s.consumers → AreOrdered (advance s now).consumers
unfolding advance
ordered_later s now h = ordered_map (consumer_at (max s.moment now)) (λ c. refl) (aged s (max s.moment now)).consumers (ordered_map (confined (seqs (young s (max s.moment now)))) (λ c. refl) s.consumers h)

module _ (law : LawReady) (s : Stream) (now : ℕ) (listening : List Bytes) where
  made : (c : Consumer) → by_name (advance s now).consumers c.name ≡ Some c → IsTrue (is_ready (advance s now) listening c) → CanDeliver (Live s) now listening
  made c found is =
      let can = (law (advance s now) listening c).0 is in (
        record { consumer = c.name; what = can.0 },
        advance_outs s now ++ can.1,
        Live (kept (with_consumer (advance s now) can.2)),
        record { consumer = c; after = can.2; own = can.1; found = found; delivers = can.3; outs_are = refl; new_is = refl },
      )

  can_deliver : AreOrdered s.consumers → IsTrue (some_ready (Live s) now listening) → CanDeliver (Live s) now listening
  can_deliver ordered some =
      let found = ready_found (is_ready (advance s now) listening) (advance s now).consumers (ordered_later s now ordered) some in
      made found.0 found.1 found.2

  is_such : CanDeliver (Live s) now listening → IsTrue (some_ready (Live s) now listening)
  is_such (d, outs, new, h) =
      found_ready (is_ready (advance s now) listening) (advance s now).consumers d.consumer h.consumer h.found ((law (advance s now) listening h.consumer).1 (d.what, h.own, h.after, h.delivers))

pub law_ready : LawReady → LawReadyPlace
law_ready law (Vacant last) now listening sound = (λ no. absurd (true≢false (sym no)), λ can. absurd can.3)
law_ready law (Live s) now listening sound = (can_deliver law s now listening sound.stored.ordered, is_such law s now listening)
