-- What each record makes of what a place comes to.
use Rattle.std.proofs.Common.{◌≡◌, ℕ, suc, ◌+◌, ◌*◌, ◌≤◌, Bool, true, false, cond, not, List, [], ◌∷◌, ◌++◌, map, length, Option, Some, None, refl, sym, ap, ◌∙◌, subst, arith}
use Rattle.std.specs.Prelude.{filter, sum_by, nat_le, nat_lt, ◌==◌}
use Rattle.std.specs.List.{list_any}
use Rattle.std.proofs.lemmas.Bool.{true≢false, or_parts}
use Rattle.std.proofs.lemmas.Nat.{mul-le}
use Rattle.std.proofs.lemmas.List.{length-append, length-map}
use Rattle.std.proofs.lemmas.List.Sums.{sum_by-cons, sum_by_push}
use Rattle.js_base.specs.Bytes.{Bytes, same}
use Rattle.js_base.specs.Moments.{plus}
use Rattle.config_texts.specs.Texts.{stream_text, consumer_text}
use Rattle.js_model.specs.declared.consumer_config.ConsumerConfig.{ConsumerConfig}
use Rattle.js_model.specs.declared.stream.Message.{Message}
use Rattle.js_model.specs.declared.stream.Id.{Id}
use Rattle.js_model.specs.declared.consumer.Pending.{Pending}
use Rattle.js_model.specs.declared.consumer.Consumer.{Consumer}
use Rattle.js_model.specs.Streams.{by_name, in_place_of}
use Rattle.js_model.specs.Consumers.{with_new, is_before}
use Rattle.js_model.specs.Acknowledge.{without, with_due}
use Rattle.js_model.proofs.Members.{IsIn, here, there}
use Rattle.js_model.proofs.Named.{found_named, in_place_of-names, some_is, none_some}
use Rattle.js_model.proofs.Parts.{filter_part, part-length, part-sum}
use Rattle.model_laws.specs.Sound.{AreOrdered}
use Rattle.model_laws.proofs.SoundParts.{ordered_map}
use Rattle.model_laws.proofs.NameOrder.{ordered_filter, ordered_with_new}
use Rattle.effects.specs.declared.durable.Body.{Body}
use Rattle.effects.specs.declared.durable.Durable.{Durable}
use Rattle.effects.specs.declared.effect.Effect.{Effect}
use Rattle.effects.specs.declared.effect.Effect.TheVariants.{MakeStream, ChangeStream, DropStream, PutHere, Skip, Remove, MakeConsumer, DropConsumer, Deliver, Acked, Due, GivenUp, Now}
use Rattle.effects.specs.Folding.{live, live_if, fold, fold_in, fold_all, fold_live, fold_vacant, empty_body, added_id, holding, removed, consumer_from, with_made, without_consumer, replaced, is_next, numbered, put, at_moment, delivered, delivered_to, acked, due_at, with_given_up, given_up_by}
use Rattle.effects.specs.Ranges.{is_within}
use Rattle.effects.proofs.Replacing.{one_named}
use Rattle.record_fold.specs.Entries.{AreOrderedOf, AreOrderedIn}
use Rattle.snapshot_bound.specs.Bounds.{consumer_fixed, body_fixed, fixed_in, id_length, most_held, counted_by, counted_in}
use Rattle.snapshot_bound.specs.Growth.{messages_in, consumers_in, record_fixed, record_counted, is_growing, AreQuiet}
use Rattle.snapshot_bound.specs.Laws.{LawGrowth}

-- ---- sums and lengths

pub counted_falls : (ids messages consumers fewer_ids fewer_messages fewer_consumers : ℕ) → fewer_ids ≤ ids → fewer_messages ≤ messages → fewer_consumers ≤ consumers
    → counted_by fewer_ids fewer_messages fewer_consumers ≤ counted_by ids messages consumers
counted_falls ids messages consumers fewer_ids fewer_messages fewer_consumers i m c =
    let held : 32 * most_held fewer_messages ≤ 32 * most_held messages = omega arith in
    let product : fewer_consumers * (32 * most_held fewer_messages) ≤ consumers * (32 * most_held messages) =
    mul-le fewer_consumers (32 * most_held fewer_messages) consumers (32 * most_held messages) c held in
    omega (arith, i, m, product)

sum_falls : {X : Type 0} (f : X → ℕ) (g : X → X) (xs : List X) → ((x : X) → IsIn x xs → f (g x) ≤ f x) → sum_by f (map g xs) ≤ sum_by f xs
sum_falls f g [] h = omega arith
sum_falls f g (x ∷ xs) h =
    let first : f (g x) ≤ f x = h x here in
    let rest : sum_by f (map g xs) ≤ sum_by f xs = sum_falls f g xs (λ y i. h y (there i)) in
    rw (sum_by-cons f (g x) (map g xs), sum_by-cons f x xs) (omega arith)

length_with_new : (cs : List Consumer) (new : Consumer) → length (with_new cs new) ≡ suc (length cs)
length_with_new [] new = refl
length_with_new (c ∷ cs) new = go (is_before c.name new.name) (length_with_new cs new)
  where
    go : (b : Bool) → length (with_new cs new) ≡ suc (length cs) → length (cond b (c ∷ with_new cs new) (new ∷ c ∷ cs)) ≡ suc (suc (length cs))
    go true e = ap suc e
    go false e = refl

sum_with_new : (f : Consumer → ℕ) (cs : List Consumer) (new : Consumer) → sum_by f (with_new cs new) ≡ sum_by f cs + f new
sum_with_new f [] new = refl
sum_with_new f (c ∷ cs) new = go (is_before c.name new.name) (sum_with_new f cs new)
  where
    go : (b : Bool) → sum_by f (with_new cs new) ≡ sum_by f cs + f new → sum_by f (cond b (c ∷ with_new cs new) (new ∷ c ∷ cs)) ≡ sum_by f (c ∷ cs) + f new
    go true e = rw (sum_by-cons f c (with_new cs new), sum_by-cons f c cs) (omega (arith, e))
    go false e = rw (sum_by-cons f new (c ∷ cs), sum_by-cons f c cs) (omega arith)

-- ---- what falls

pub record Falls (old new : Option Body) : Type 0 where
  pub fixed_is : fixed_in new ≤ fixed_in old
  pub counted_is : counted_in new ≤ counted_in old
  pub messages_is : messages_in new ≤ messages_in old
  pub consumers_is : consumers_in new ≤ consumers_in old
  pub ordered : AreOrderedOf new

record Shrinks (old new : Body) : Type 0 where
  fixed_is : body_fixed new ≤ body_fixed old
  ids_is : sum_by id_length new.ids ≤ sum_by id_length old.ids
  messages_is : length new.messages ≤ length old.messages
  consumers_is : length new.consumers ≤ length old.consumers
  ordered : AreOrdered new.consumers

falls_live : (old new : Body) → Shrinks old new → Falls (Some old) (Some new)
falls_live old new s = record {
  fixed_is = s.fixed_is;
  counted_is =
      counted_falls (sum_by id_length old.ids) (length old.messages) (length old.consumers) (sum_by id_length new.ids) (length new.messages) (length new.consumers)
      s.ids_is s.messages_is s.consumers_is;
  messages_is = s.messages_is;
  consumers_is = s.consumers_is;
  ordered = s.ordered;
}

falls_vacant : (old : Body) → Falls (Some old) None
falls_vacant old = record { fixed_is = omega arith; counted_is = omega arith; messages_is = omega arith; consumers_is = omega arith; ordered = tt }

-- ---- what does not fall

pub record Grows (part rest : ℕ) (old new : Option Body) : Type 0 where
  pub fixed_is : fixed_in new ≤ fixed_in old + part
  pub counted_is : counted_in new ≤ counted_in old + rest
  pub ordered : AreOrderedOf new

grows_none : (old new : Option Body) → Falls old new → Grows 0 0 old new
grows_none old new f = record { fixed_is = omega (arith, f.fixed_is); counted_is = omega (arith, f.counted_is); ordered = f.ordered }

-- ---- another consumer in the place of one

-- its name and its configuration stay, and no more is picked out for it
record IsLess (c new : Consumer) : Type 0 where
  name : new.name ≡ c.name
  config : new.config ≡ c.config
  picks : length new.picks ≤ length c.picks

less_fixed : (c new : Consumer) → IsLess c new → consumer_fixed new ≤ consumer_fixed c
less_fixed c new l =
    let name : length new.name ≡ length c.name = ap (λ (n : Bytes). length n) l.name in
    let config : length (consumer_text new.config) ≡ length (consumer_text c.config) = ap (λ (k : ConsumerConfig). length (consumer_text k)) l.config in
    omega (arith, name, config, l.picks)

replaced_shrinks : (b : Body) (name : Bytes) (c new : Consumer) → AreOrdered b.consumers → by_name b.consumers name ≡ Some c → IsLess c new
    → Shrinks b (record b { consumers = map (in_place_of new) b.consumers })
replaced_shrinks b name c new o at l = record {
  fixed_is = let sum : sum_by consumer_fixed (map (in_place_of new) b.consumers) ≤ sum_by consumer_fixed b.consumers = sum_falls consumer_fixed (in_place_of new) b.consumers each in omega (arith, sum);
  ids_is = omega arith;
  messages_is = omega arith;
  consumers_is = omega (arith, length-map b.consumers (in_place_of new));
  ordered = ordered_map (in_place_of new) (λ d. (in_place_of-names new).name d) b.consumers o;
}
  where
    each : (d : Consumer) → IsIn d b.consumers → consumer_fixed (in_place_of new d) ≤ consumer_fixed d
    each d i = go (same d.name new.name) refl
      where
        named : new.name ≡ name
        named = l.name ∙ found_named b.consumers name c at

        is : same d.name new.name ≡ true → d ≡ c
        is q = one_named b.consumers name c d o at i (subst (λ (n : Bytes). same d.name n ≡ true) named q)

        go : (t : Bool) → same d.name new.name ≡ t → consumer_fixed (cond t new d) ≤ consumer_fixed d
        go true q = subst (λ (e : Consumer). consumer_fixed new ≤ consumer_fixed e) (sym (is q)) (less_fixed c new l)
        go false q = omega arith

replaced_falls : (i : ℕ) (b : Body) (name : Bytes) (c made : Consumer) → AreOrdered b.consumers → by_name b.consumers name ≡ Some c → IsLess c made
    → (new : Durable) → live_if i (replaced b (Some made)) ≡ Some new → Falls (Some b) new.body
replaced_falls i b name c made o at l new e =
    subst (λ (d : Durable). Falls (Some b) d.body) (some_is e) (falls_live b (record b { consumers = map (in_place_of made) b.consumers }) (replaced_shrinks b name c made o at l))

-- ---- records that do not grow

tested_falls : (old : Option Body) (t : Bool) (made new : Durable) → Falls old made.body → cond t (Some made) None ≡ Some new → Falls old new.body
tested_falls old true made new f h = subst (λ (d : Durable). Falls old d.body) (some_is h) f
tested_falls old false made new f h = absurd (none_some h)

removed_shrinks : (b : Body) (low high : ℕ) → AreOrdered b.consumers → Shrinks b (removed low high b)
removed_shrinks b low high o = record {
  fixed_is = let sum : sum_by consumer_fixed (map (holding passes) b.consumers) ≤ sum_by consumer_fixed b.consumers = sum_falls consumer_fixed (holding passes) b.consumers (λ c i. fewer c) in omega (arith, sum);
  ids_is = omega arith;
  messages_is = part-length (filter_part (λ (m : Message). passes m.seq) b.messages);
  consumers_is = omega (arith, length-map b.consumers (holding passes));
  ordered = ordered_map (holding passes) (λ c. refl) b.consumers o;
}
  where
    passes : ℕ → Bool
    passes n = not (is_within low high n)

    fewer : (c : Consumer) → consumer_fixed (holding passes c) ≤ consumer_fixed c
    fewer c = less_fixed c (holding passes c) (record { name = refl; config = refl; picks = part-length (filter_part passes c.picks) })

dropped_shrinks : (b : Body) (t : Consumer → Bool) → AreOrdered b.consumers → Shrinks b (record b { consumers = filter t b.consumers })
dropped_shrinks b t o = record {
  fixed_is = let sum : sum_by consumer_fixed (filter t b.consumers) ≤ sum_by consumer_fixed b.consumers = part-sum consumer_fixed (filter_part t b.consumers) in omega (arith, sum);
  ids_is = omega arith;
  messages_is = omega arith;
  consumers_is = part-length (filter_part t b.consumers);
  ordered = ordered_filter t b.consumers o;
}

passed_shrinks : (b : Body) (moment : ℕ) → AreOrdered b.consumers → Shrinks b (at_moment moment b)
passed_shrinks b moment o = record {
  fixed_is = omega arith;
  ids_is = part-sum id_length (filter_part (λ (i : Id). nat_lt moment (plus i.at b.config.duplicate_window)) b.ids);
  messages_is = omega arith;
  consumers_is = omega arith;
  ordered = o;
}

live_falls : (i : ℕ) (b : Body) (e : Effect) → AreOrdered b.consumers → is_growing e ≡ false → (new : Durable) → fold_live i b e ≡ Some new → Falls (Some b) new.body
live_falls i b (MakeStream incarnation made config) o q new h = absurd (true≢false q)
live_falls i b (ChangeStream config) o q new h = absurd (true≢false q)
live_falls i b DropStream o q new h = subst (λ (d : Durable). Falls (Some b) d.body) (some_is h) (falls_vacant b)
live_falls i b (PutHere seq at id subject headers payload) o q new h = absurd (true≢false q)
live_falls i b (Skip seq at id) o q new h = absurd (true≢false q)
live_falls i b (Remove low high) o q new h = subst (λ (d : Durable). Falls (Some b) d.body) (some_is h) (falls_live b (removed low high b) (removed_shrinks b low high o))
live_falls i b (MakeConsumer name made config cursor picks) o q new h = absurd (true≢false q)
live_falls i b (DropConsumer name) o q new h = go (by_name b.consumers name) h
  where
    go : (found : Option Consumer) → live_if i (without_consumer b found) ≡ Some new → Falls (Some b) new.body
    go None e = absurd (none_some e)
    go (Some c) e =
        let others = λ (d : Consumer). not (same d.name c.name) in
        subst (λ (d : Durable). Falls (Some b) d.body) (some_is e) (falls_live b (record b { consumers = filter others b.consumers }) (dropped_shrinks b others o))
live_falls i b (Deliver name seq count due dseq) o q new h = go (by_name b.consumers name) refl h
  where
    entry : Pending
    entry = record { seq = seq; count = count; due = due }

    less : (c : Consumer) → IsLess c (delivered_to entry dseq c)
    less c = record { name = refl; config = refl; picks = part-length (filter_part (λ (n : ℕ). not (n == seq)) c.picks) }

    by : (c : Consumer) → by_name b.consumers name ≡ Some c → (t : Bool) → live_if i (replaced b (cond t (Some (delivered_to entry dseq c)) None)) ≡ Some new → Falls (Some b) new.body
    by c at true e = replaced_falls i b name c (delivered_to entry dseq c) o at (less c) new e
    by c at false e = absurd (none_some e)

    go : (found : Option Consumer) → by_name b.consumers name ≡ found → live_if i (replaced b (delivered entry dseq found)) ≡ Some new → Falls (Some b) new.body
    go None at e = absurd (none_some e)
    go (Some c) at e = by c at (dseq == c.dseq + 1) e
live_falls i b (Acked name low high) o q new h = go (by_name b.consumers name) refl h
  where
    go : (found : Option Consumer) → by_name b.consumers name ≡ found → live_if i (replaced b (acked low high found)) ≡ Some new → Falls (Some b) new.body
    go None at e = absurd (none_some e)
    go (Some c) at e = replaced_falls i b name c (without (is_within low high) c) o at (record { name = refl; config = refl; picks = omega arith }) new e
live_falls i b (Due name seq due) o q new h = go (by_name b.consumers name) refl h
  where
    by : (c : Consumer) → by_name b.consumers name ≡ Some c → (t : Bool) → live_if i (replaced b (cond t (Some (with_due seq due c)) None)) ≡ Some new → Falls (Some b) new.body
    by c at true e = replaced_falls i b name c (with_due seq due c) o at (record { name = refl; config = refl; picks = omega arith }) new e
    by c at false e = absurd (none_some e)

    go : (found : Option Consumer) → by_name b.consumers name ≡ found → live_if i (replaced b (due_at seq due found)) ≡ Some new → Falls (Some b) new.body
    go None at e = absurd (none_some e)
    go (Some c) at e = by c at (list_any (λ p. p.seq == seq) c.pending) e
live_falls i b (GivenUp name moment) o q new h = go (by_name b.consumers name) refl h
  where
    go : (found : Option Consumer) → by_name b.consumers name ≡ found → live_if i (replaced b (given_up_by moment found)) ≡ Some new → Falls (Some b) new.body
    go None at e = absurd (none_some e)
    go (Some c) at e = replaced_falls i b name c (with_given_up moment c) o at (record { name = refl; config = refl; picks = omega arith }) new e
live_falls i b (Now moment) o q new h = tested_falls (Some b) (nat_le b.moment moment) (live i (at_moment moment b)) new (falls_live b (at_moment moment b) (passed_shrinks b moment o)) h

vacant_falls : (i : ℕ) (e : Effect) → is_growing e ≡ false → (new : Durable) → fold_vacant i e ≡ Some new → Falls None new.body
vacant_falls i (MakeStream incarnation made config) q new h = absurd (true≢false q)
vacant_falls i (ChangeStream config) q new h = absurd (none_some h)
vacant_falls i DropStream q new h = absurd (none_some h)
vacant_falls i (PutHere seq at id subject headers payload) q new h = absurd (none_some h)
vacant_falls i (Skip seq at id) q new h = absurd (none_some h)
vacant_falls i (Remove low high) q new h = absurd (none_some h)
vacant_falls i (MakeConsumer name made config cursor picks) q new h = absurd (none_some h)
vacant_falls i (DropConsumer name) q new h = absurd (none_some h)
vacant_falls i (Deliver name seq count due dseq) q new h = absurd (none_some h)
vacant_falls i (Acked name low high) q new h = absurd (none_some h)
vacant_falls i (Due name seq due) q new h = absurd (none_some h)
vacant_falls i (GivenUp name moment) q new h = absurd (none_some h)
vacant_falls i (Now moment) q new h = absurd (none_some h)

one_falls : (old : Durable) (e : Effect) → AreOrderedIn old → is_growing e ≡ false → (new : Durable) → fold old e ≡ Some new → Falls old.body new.body
one_falls old e o q new h = go old.body o h
  where
    go : (was : Option Body) → AreOrderedOf was → fold_in old.incarnation was e ≡ Some new → Falls was new.body
    go None o h = vacant_falls old.incarnation e q new h
    go (Some b) o h = live_falls old.incarnation b e o q new h

falls_twice : (a b c : Option Body) → Falls a b → Falls b c → Falls a c
falls_twice a b c f g = record {
  fixed_is = omega (arith, f.fixed_is, g.fixed_is);
  counted_is = omega (arith, f.counted_is, g.counted_is);
  messages_is = omega (arith, f.messages_is, g.messages_is);
  consumers_is = omega (arith, f.consumers_is, g.consumers_is);
  ordered = g.ordered;
}

pub none_fold : (es : List Effect) (new : Durable) → fold_all es None ≡ Some new → ⊥
none_fold [] new h = none_some h
none_fold (e ∷ es) new h = none_fold es new h

pub all_fall : (es : List Effect) (old new : Durable) → AreOrderedIn old → AreQuiet es → fold_all es (Some old) ≡ Some new → Falls old.body new.body
all_fall [] old new o q h = subst (λ (d : Durable). Falls old.body d.body) (some_is h) (record { fixed_is = omega arith; counted_is = omega arith; messages_is = omega arith; consumers_is = omega arith; ordered = o })
all_fall (e ∷ es) old new o q h =
    let quiet = or_parts (is_growing e) (list_any is_growing es) q in
    go (fold old e) refl h quiet.0 (λ mid ordered k. all_fall es mid new ordered quiet.1 k)
  where
    go : (mid : Option Durable) → fold old e ≡ mid → fold_all es mid ≡ Some new → is_growing e ≡ false
        → ((mid : Durable) → AreOrderedIn mid → fold_all es (Some mid) ≡ Some new → Falls mid.body new.body) → Falls old.body new.body
    go None w k quiet rest = absurd (none_fold es new k)
    go (Some mid) w k quiet rest = let first = one_falls old e o quiet mid w in falls_twice old.body mid.body new.body first (rest mid first.ordered k)

-- ---- records that grow

tested_grows : (part rest : ℕ) (old : Option Body) (t : Bool) (made new : Durable) → Grows part rest old made.body → cond t (Some made) None ≡ Some new → Grows part rest old new.body
tested_grows part rest old true made new f h = subst (λ (d : Durable). Grows part rest old d.body) (some_is h) f
tested_grows part rest old false made new f h = absurd (none_some h)

-- the ids with one more, if it is not empty
ids_grow : (ids : List Id) (id : Bytes) (seq at : ℕ) → sum_by id_length (added_id ids id seq at) ≤ sum_by id_length ids + (18 + length id)
ids_grow ids [] seq at = omega arith
ids_grow ids (byte ∷ more) seq at =
    let i : Id = record { id = byte ∷ more; seq = seq; at = at } in
    omega (arith, sum_by_push id_length ids i)

put_counted : (ids more messages consumers : ℕ) → counted_by (ids + (18 + more)) (messages + 1) consumers ≤ counted_by ids messages consumers + (50 + more + 32 * consumers)
put_counted ids more messages consumers =
    let step : 32 * most_held (messages + 1) ≤ 32 * most_held messages + 32 = omega arith in
    let product : consumers * (32 * most_held (messages + 1)) ≤ consumers * (32 * most_held messages + 32) = mul-le consumers (32 * most_held (messages + 1)) consumers (32 * most_held messages + 32) (omega arith) step in
    let spread : consumers * (32 * most_held messages + 32) ≡ consumers * (32 * most_held messages) + 32 * consumers = by_parts consumers (32 * most_held messages) in
    omega (arith, product, spread)
  where
    by_parts : (c n : ℕ) → c * (n + 32) ≡ c * n + 32 * c
    by_parts c n = grind arith

put_grows : (b : Body) (m : Message) (id : Bytes) → AreOrdered b.consumers → Grows 0 (50 + length id + 32 * length b.consumers) (Some b) (Some (put m id b))
put_grows b m id o = record {
  fixed_is = omega arith;
  counted_is =
      let ids : sum_by id_length (added_id b.ids id m.seq m.at) ≤ sum_by id_length b.ids + (18 + length id) = ids_grow b.ids id m.seq m.at in
      let count : length (b.messages ++ m ∷ []) ≡ length b.messages + 1 = length-append b.messages (m ∷ []) in
      let fall : counted_by (sum_by id_length (added_id b.ids id m.seq m.at)) (length (b.messages ++ m ∷ [])) (length b.consumers) ≤ counted_by (sum_by id_length b.ids + (18 + length id)) (length b.messages + 1) (length b.consumers) =
      counted_falls (sum_by id_length b.ids + (18 + length id)) (length b.messages + 1) (length b.consumers) (sum_by id_length (added_id b.ids id m.seq m.at)) (length (b.messages ++ m ∷ [])) (length b.consumers) ids (omega (arith, count)) (omega arith) in
      omega (arith, fall, put_counted (sum_by id_length b.ids) (length id) (length b.messages) (length b.consumers));
  ordered = o;
}

skip_grows : (b : Body) (seq at : ℕ) (id : Bytes) → AreOrdered b.consumers → Grows 0 (18 + length id) (Some b) (Some (numbered seq at id b))
skip_grows b seq at id o = record {
  fixed_is = omega arith;
  counted_is = omega (arith, ids_grow b.ids id seq at);
  ordered = o;
}

more_consumers : (ids messages consumers : ℕ) → counted_by ids messages (suc consumers) ≡ counted_by ids messages consumers + 32 * most_held messages
more_consumers ids messages consumers = one_more (32 * most_held messages)
  where
    one_more : (n : ℕ) → 93 + ids + 32 * messages + suc consumers * n ≡ 93 + ids + 32 * messages + consumers * n + n
    one_more n = grind arith

made_grows : (b : Body) (added : Consumer) → AreOrdered b.consumers → by_name b.consumers added.name ≡ None
    → Grows (consumer_fixed added) (32 * most_held (length b.messages)) (Some b) (Some (record b { consumers = with_new b.consumers added }))
made_grows b added o at = record {
  fixed_is = omega (arith, sum_with_new consumer_fixed b.consumers added);
  counted_is =
      let count : counted_by (sum_by id_length b.ids) (length b.messages) (length (with_new b.consumers added)) ≡ counted_by (sum_by id_length b.ids) (length b.messages) (suc (length b.consumers)) =
      ap (λ (n : ℕ). counted_by (sum_by id_length b.ids) (length b.messages) n) (length_with_new b.consumers added) in
      omega (arith, count, more_consumers (sum_by id_length b.ids) (length b.messages) (length b.consumers));
  ordered = ordered_with_new b.consumers added at o;
}

live_grows : (i : ℕ) (b : Body) (e : Effect) → AreOrdered b.consumers → (new : Durable) → fold_live i b e ≡ Some new
    → Grows (record_fixed e) (record_counted (length b.messages) (length b.consumers) e) (Some b) new.body
live_grows i b (MakeStream incarnation made config) o new h = absurd (none_some h)
live_grows i b (ChangeStream config) o new h =
    subst (λ (d : Durable). Grows (length (stream_text config)) 0 (Some b) d.body) (some_is h) (record { fixed_is = omega arith; counted_is = omega arith; ordered = o })
live_grows i b DropStream o new h = grows_none (Some b) new.body (live_falls i b DropStream o refl new h)
live_grows i b (PutHere seq at id subject headers payload) o new h =
    let m : Message = record { seq = seq; at = at; subject = subject; headers = headers; payload = payload } in
    tested_grows 0 (50 + length id + 32 * length b.consumers) (Some b) (is_next seq at b) (live i (put m id b)) new (put_grows b m id o) h
live_grows i b (Skip seq at id) o new h = tested_grows 0 (18 + length id) (Some b) (is_next seq at b) (live i (numbered seq at id b)) new (skip_grows b seq at id o) h
live_grows i b (Remove low high) o new h = grows_none (Some b) new.body (live_falls i b (Remove low high) o refl new h)
live_grows i b (MakeConsumer name made config cursor picks) o new h = go (by_name b.consumers name) refl h
  where
    added : Consumer
    added = consumer_from name made config cursor picks

    go : (found : Option Consumer) → by_name b.consumers name ≡ found → live_if i (with_made b added found) ≡ Some new → Grows (consumer_fixed added) (32 * most_held (length b.messages)) (Some b) new.body
    go None at e = subst (λ (d : Durable). Grows (consumer_fixed added) (32 * most_held (length b.messages)) (Some b) d.body) (some_is e) (made_grows b added o at)
    go (Some c) at e = absurd (none_some e)
live_grows i b (DropConsumer name) o new h = grows_none (Some b) new.body (live_falls i b (DropConsumer name) o refl new h)
live_grows i b (Deliver name seq count due dseq) o new h = grows_none (Some b) new.body (live_falls i b (Deliver name seq count due dseq) o refl new h)
live_grows i b (Acked name low high) o new h = grows_none (Some b) new.body (live_falls i b (Acked name low high) o refl new h)
live_grows i b (Due name seq due) o new h = grows_none (Some b) new.body (live_falls i b (Due name seq due) o refl new h)
live_grows i b (GivenUp name moment) o new h = grows_none (Some b) new.body (live_falls i b (GivenUp name moment) o refl new h)
live_grows i b (Now moment) o new h = grows_none (Some b) new.body (live_falls i b (Now moment) o refl new h)

vacant_grows : (i : ℕ) (e : Effect) (new : Durable) → fold_vacant i e ≡ Some new → Grows (record_fixed e) (record_counted 0 0 e) None new.body
vacant_grows i (MakeStream incarnation made config) new h =
    tested_grows (length (stream_text config)) 54 None (incarnation == i + 1) (live incarnation (empty_body made config)) new (record { fixed_is = omega arith; counted_is = omega arith; ordered = tt }) h
vacant_grows i (ChangeStream config) new h = absurd (none_some h)
vacant_grows i DropStream new h = absurd (none_some h)
vacant_grows i (PutHere seq at id subject headers payload) new h = absurd (none_some h)
vacant_grows i (Skip seq at id) new h = absurd (none_some h)
vacant_grows i (Remove low high) new h = absurd (none_some h)
vacant_grows i (MakeConsumer name made config cursor picks) new h = absurd (none_some h)
vacant_grows i (DropConsumer name) new h = absurd (none_some h)
vacant_grows i (Deliver name seq count due dseq) new h = absurd (none_some h)
vacant_grows i (Acked name low high) new h = absurd (none_some h)
vacant_grows i (Due name seq due) new h = absurd (none_some h)
vacant_grows i (GivenUp name moment) new h = absurd (none_some h)
vacant_grows i (Now moment) new h = absurd (none_some h)

pub one_grows : (old : Durable) (e : Effect) → AreOrderedIn old → (new : Durable) → fold old e ≡ Some new
    → Grows (record_fixed e) (record_counted (messages_in old.body) (consumers_in old.body) e) old.body new.body
one_grows old e o new h = go old.body o h
  where
    go : (was : Option Body) → AreOrderedOf was → fold_in old.incarnation was e ≡ Some new → Grows (record_fixed e) (record_counted (messages_in was) (consumers_in was) e) was new.body
    go None o h = vacant_grows old.incarnation e new h
    go (Some b) o h = live_grows old.incarnation b e o new h

all_ordered : (es : List Effect) (old new : Durable) → AreOrderedIn old → fold_all es (Some old) ≡ Some new → AreOrderedIn new
all_ordered [] old new o h = subst AreOrderedIn (some_is h) o
all_ordered (e ∷ es) old new o h = go (fold old e) refl h (λ mid ordered k. all_ordered es mid new ordered k)
  where
    go : (mid : Option Durable) → fold old e ≡ mid → fold_all es mid ≡ Some new → ((mid : Durable) → AreOrderedIn mid → fold_all es (Some mid) ≡ Some new → AreOrderedIn new) → AreOrderedIn new
    go None w k rest = absurd (none_fold es new k)
    go (Some mid) w k rest = rest mid (one_grows old e o mid w).ordered k

-- ---- the law

pub law_growth : LawGrowth
law_growth = record {
  one = λ old new e o h. let g = one_grows old e o new h in record { fixed_is = g.fixed_is; counted_is = g.counted_is };
  rest = λ old new es o h q. let f = all_fall es old new o q h in record { fixed_is = f.fixed_is; counted_is = f.counted_is };
  order = λ old new es o h. all_ordered es old new o h;
}
