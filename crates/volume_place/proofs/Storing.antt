-- What waits keeps its places in blocks as events and deliveries are made, and a message that is stored counts.
use Rattle.std.proofs.Common.{◌≡◌, ◌≢◌, ◌≤◌, ◌<◌, ◌⊎◌, inl, inr, ℕ, ◌+◌, ◌-◌, ◌^◌, ◌==◌, ◌&&◌, ◌||◌, min, Bool, true, false, cond, not, List, [], ◌∷◌, ◌++◌, length, map, Option, None, Some, Result, Ok, Err, refl, sym, ap, subst, ◌∙◌, arith, append_assoc}
use Rattle.std.specs.Prelude.{filter, is_some}
use Rattle.std.specs.Option.{option_to_list}
use Rattle.std.proofs.lemmas.Bool.{and_parts, eqb-true, lt-ltb, ltb-true, true≢false}
use Rattle.std.proofs.lemmas.List.{append-nil}
use Rattle.js_base.specs.Bytes.{Bytes, has}
use Rattle.js_model.specs.declared.entry.Delivery.{Delivery}
use Rattle.js_model.specs.declared.event.Event.{Event}
use Rattle.js_model.specs.declared.event.Publish.{Publish}
use Rattle.js_model.specs.declared.event.What.{What}
use Rattle.js_model.specs.declared.event.What.TheVariants as whats
use Rattle.js_model.specs.declared.reply.Reply.{Reply}
use Rattle.js_model.specs.declared.reply.Verdict.TheVariants.{Take}
use Rattle.js_model.specs.declared.stream.Message.{Message}
use Rattle.js_model.specs.declared.stream.State.{State}
use Rattle.js_model.specs.declared.stream.State.TheVariants.{Live}
use Rattle.js_model.specs.declared.stream.Stream.{Stream}
use Rattle.js_model.specs.Advance.{advance}
use Rattle.js_model.specs.Events.{answered, settled, with_message}
use Rattle.js_model.specs.Lists.{Between}
use Rattle.js_model.specs.Runs.{is_few, new_messages}
use Rattle.js_model.specs.Streams.{seqs}
use Rattle.js_model.specs.Verdict.{late_checks, verdict}
use Rattle.js_model.proofs.Parts.{between_bounds}
use Rattle.model_laws.specs.Sound.{IsSound}
use Rattle.model_laws.proofs.Bounded.{ArePassed, all_passed, taken_passed}
use Rattle.effects.specs.Effects.{event_effects, settle_effects}
use Rattle.effects.specs.TimeEffects.{remove_of, time_effects}
use Rattle.effects.specs.declared.effect.Effect.{Effect}
use Rattle.effects.specs.declared.effect.Effect.TheVariants as effects
use Rattle.op_records.specs.Allowed.{is_put}
use Rattle.op_records.specs.Blocks.{spelled_message}
use Rattle.op_records.proofs.BlockSizes.{spelled_len}
use Rattle.block_table.specs.Blocks.{Blocks}
use Rattle.block_writing.specs.Planning.{Planned, begun, message_by, planned, then_planned}
use Rattle.stream_store.specs.Laws.{keeps_placing}
use Rattle.stream_store.specs.Placing.{can_place, has_room, spot_behind, used_behind}
use Rattle.stream_store.proofs.Counting.{law_counting}
use Rattle.stream_store.proofs.Placings.{law_placing}
use Rattle.place_engine.specs.Following.{followed, left_before}
use Rattle.memory_place.specs.Recording.{TellsEventIn, TellsLeft, TellsSent}
use Rattle.place_engine.specs.declared.faults.Left.{Left}
use Rattle.place_engine.specs.declared.faults.Left.TheVariants.{Nothing, Ticked, Unsaid}
use Rattle.place_records.specs.declared.made.Made.{Made}
use Rattle.place_records.specs.declared.made.TimeRecords.{TimeRecords}
use Rattle.place_records.specs.Records.{effects_in, gives_up, own_in, seen_in, time_in}
use Rattle.snapshot_bound.specs.Asking.{event_growth}
use Rattle.stream_store.specs.Rooms.{AreReserved, is_reserved}
use Rattle.stream_store.specs.StoreState.{StoreState}
use Rattle.volume_place.specs.Growing.{bound_after}
use Rattle.volume_place.specs.Rooms.{HasBlocks, IsCounted, MayStore, block_length, is_reached, is_reached_by, room_for, stored_by}
use Rattle.volume_place.proofs.Asked.{has_spot, needed}
use Rattle.volume_place.proofs.Following.{Leaves, leaves}
use Rattle.volume_place.proofs.Plain.{Plain, Still, Stores, plain_both, plain_delivery, plain_of, plain_or_stores, plain_settle, plain_tick, plain_time, put_of, still_ranges, still_time, storing}

-- ---- how many messages records store

stored_both : (xs ys : List Effect) → stored_by (xs ++ ys) ≡ stored_by xs + stored_by ys
stored_both [] ys = omega arith
stored_both (x ∷ xs) ys = go (is_put x) (stored_both xs ys)
  where
    go : (b : Bool) → stored_by (xs ++ ys) ≡ stored_by xs + stored_by ys
        → length (cond b (x ∷ filter is_put (xs ++ ys)) (filter is_put (xs ++ ys))) ≡ length (cond b (x ∷ filter is_put xs) (filter is_put xs)) + stored_by ys
    go true rest = omega (arith, rest)
    go false rest = rest

pub none_stored : (es : List Effect) → Plain es → stored_by es ≡ 0
none_stored [] plain = refl
none_stored (e ∷ es) plain =
    let parts = and_parts (not (is_put e)) _ plain in
    go (is_put e) parts.0 (none_stored es parts.1)
  where
    go : (b : Bool) → not b ≡ true → stored_by es ≡ 0 → length (cond b (e ∷ filter is_put es) (filter is_put es)) ≡ 0
    go true not_so rest = absurd (true≢false (sym not_so))
    go false so rest = rest

pub one_stored : (a : Stream) (p : Publish) (now : ℕ) (s : Stream) → stored_by (time_effects s now ++ storing a p) ≡ 1
one_stored a p now s =
    let before = none_stored (time_effects s now) (plain_time s now) in
    let behind = none_stored (settle_effects [] (Live (with_message a p))) (plain_settle [] (Live (with_message a p))) in
    omega (arith, stored_both (time_effects s now) (storing a p), before, behind)

-- ---- places

-- the records behind others have their places, and use so many files more
pub record Grows (b : Blocks) (waiting effects : List Effect) : Type 0 where
  pub placed : can_place b (waiting ++ effects) ≡ true
  pub used : used_behind b (waiting ++ effects) ≤ used_behind b waiting + stored_by effects

pub not_put : (x : Bool) → not x ≡ true → x ≡ false
not_put true so = absurd (true≢false (sym so))
not_put false so = refl

pub one_behind : {X : Type 0} (xs : List X) (x : X) (ys : List X) → (xs ++ x ∷ []) ++ ys ≡ xs ++ x ∷ ys
one_behind xs x ys = append_assoc xs (x ∷ []) ys

module _ (b : Blocks) where
  -- records that store nothing
  plain_places : (es xs : List Effect) → Plain xs → can_place b es ≡ true → (can_place b (es ++ xs) ≡ true) × (used_behind b (es ++ xs) ≡ used_behind b es)
  plain_places es [] plain can = (ap (can_place b) (append-nil es) ∙ can, ap (used_behind b) (append-nil es))
  plain_places es (x ∷ xs) plain can =
      let parts = and_parts (not (is_put x)) _ plain in
      let none = not_put (is_put x) parts.0 in
      let rest = plain_places (es ++ x ∷ []) xs parts.1 (law_placing.change b es x none can) in
      let seam = one_behind es x xs in
      (ap (can_place b) (sym seam) ∙ rest.0, ap (used_behind b) (sym seam) ∙ rest.1 ∙ law_counting.change b es x none)

  plain_grows : (es xs : List Effect) → Plain xs → can_place b es ≡ true → Grows b es xs
  plain_grows es xs plain can =
      let h = plain_places es xs plain can in
      record { placed = h.0; used = omega (arith, h.1) }

  -- there was a place for what was planned so far
  there : (xs : List Effect) (o : Option Planned) → is_some (planned b xs o) ≡ true → is_some o ≡ true
  there [] o h = h
  there (x ∷ xs) o h = go o (there xs (then_planned b o x) h)
    where
      go : (p : Option Planned) → is_some (then_planned b p x) ≡ true → is_some p ≡ true
      go None k = k
      go (Some made) k = refl

  planned_before : (xs ys : List Effect) (o : Option Planned) → is_some (planned b (xs ++ ys) o) ≡ true → is_some (planned b xs o) ≡ true
  planned_before [] ys o h = there ys o h
  planned_before (x ∷ xs) ys o h = planned_before xs ys (then_planned b o x) h

  module _ (tail more : List Effect) where
    -- a moment that gives way had no place
    pub can_left : can_place b tail ≡ true → can_place b (left_before more tail) ≡ true
    can_left can = go (leaves more tail)
      where
        go : Leaves more tail → can_place b (left_before more tail) ≡ true
        go (inl same) = ap (can_place b) same ∙ can
        go (inr ends) = planned_before (left_before more tail) (effects.Now ends.0 ∷ []) (Some (begun b)) (ap (can_place b) (sym ends.1) ∙ can)

    used_left : used_behind b (left_before more tail) ≡ used_behind b tail
    used_left = go (leaves more tail)
      where
        go : Leaves more tail → used_behind b (left_before more tail) ≡ used_behind b tail
        go (inl same) = ap (used_behind b) same
        go (inr ends) = sym (ap (used_behind b) ends.1 ∙ law_counting.change b (left_before more tail) (effects.Now ends.0) refl)

    pub spot_left : (len : ℕ) → spot_behind b (left_before more tail) len ≡ spot_behind b tail len
    spot_left len = go (leaves more tail)
      where
        go : Leaves more tail → spot_behind b (left_before more tail) len ≡ spot_behind b tail len
        go (inl same) = ap (λ (l : List Effect). spot_behind b l len) same
        go (inr ends) = sym (ap (λ (l : List Effect). spot_behind b l len) ends.1 ∙ law_placing.keeps b (left_before more tail) (effects.Now ends.0) len refl)

  -- records that do not change where the next message goes
  pub still_spot : (es xs : List Effect) (len : ℕ) → Still xs → spot_behind b (es ++ xs) len ≡ spot_behind b es len
  still_spot es [] len still = ap (λ (l : List Effect). spot_behind b l len) (append-nil es)
  still_spot es (x ∷ xs) len still =
      let parts = and_parts (keeps_placing x) _ still in
      ap (λ (l : List Effect). spot_behind b l len) (sym (one_behind es x xs)) ∙ still_spot (es ++ x ∷ []) xs len parts.1 ∙ law_placing.keeps b es x len parts.0

  -- a message is as long whatever its numbers are
  pub length_is : (a : Stream) (p : Publish) → block_length p ≡ length (spelled_message (message_by (a.last + 1) a.moment p.subject p.headers p.payload))
  length_is a p = spelled_len (message_by 0 0 p.subject p.headers p.payload) ∙ sym (spelled_len (message_by (a.last + 1) a.moment p.subject p.headers p.payload))

  -- a message for which there is room, between passing time and what leaves by it
  stored_grows : (es : List Effect) (s a : Stream) (p : Publish) (now : ℕ) → can_place b es ≡ true → has_room b es (block_length p) ≡ true → Grows b es (time_effects s now ++ storing a p)
  stored_grows es s a p now can room =
      let passed = time_effects s now in
      let leaving = settle_effects [] (Live (with_message a p)) in
      let first = plain_places es passed (plain_time s now) can in
      let there = ap (has_room b (es ++ passed)) (sym (length_is a p)) ∙ ap is_some (still_spot es passed (block_length p) (still_time s now)) ∙ room in
      let put = law_placing.message b (es ++ passed) (a.last + 1) a.moment p.wants.id p.subject p.headers p.payload there in
      let more = law_counting.message b (es ++ passed) (a.last + 1) a.moment p.wants.id p.subject p.headers p.payload put in
      let last = plain_places ((es ++ passed) ++ put_of a p ∷ []) leaving (plain_settle [] (Live (with_message a p))) put in
      let seam = one_behind (es ++ passed) (put_of a p) leaving ∙ append_assoc es passed (storing a p) in
      let count = one_stored a p now s in
      let used = ap (used_behind b) (sym seam) ∙ last.1 in
      record { placed = ap (can_place b) (sym seam) ∙ last.0; used = omega (arith, used, more, first.1, count) }

taken_has_room : (a : Stream) (p : Publish) (room : Bool) → verdict a p room ≡ Take → room ≡ true
taken_has_room a p room e =
    let late : ArePassed (late_checks a p room) = all_passed (late_checks a p room) (taken_passed a p room e).1 in
    go room late.1.1.1.1.1.1.1.0
  where
    go : (x : Bool) → not x ≡ false → x ≡ true
    go true so = refl
    go false so = absurd (true≢false so)

-- what is taken by a stream needs room
taken_grows : (s : Stream) (p : Publish) → event_growth (Live s) (whats.Publish p) ≢ 0
taken_grows s p none = omega (arith, none)

-- so there is a block for a message that is taken
pub has_block : (known : ℕ) (store : StoreState) (es : List Effect) (old : State) (what : What) (now : ℕ) (room : Bool) → room ≡ room_for known store old es what → (h : Stores old what now room)
    → (room ≡ true) × (AreReserved store.rooms (bound_after known old what) × (is_reached_by store es (whats.Publish h.p) ≡ true))
has_block known store es old what now room is h =
    let taken : room ≡ true = taken_has_room (advance h.s now) h.p room h.taken in
    let some : event_growth old what ≢ 0 =
    subst (λ (x : State). event_growth x what ≢ 0) (sym h.old_is) (subst (λ (w : What). event_growth (Live h.s) w ≢ 0) (sym h.what_is) (taken_grows h.s h.p)) in
    let has = needed known store old es what some (sym is ∙ taken) in
    (taken, (has.0, subst (λ (w : What). is_reached_by store es w ≡ true) h.what_is has.1))

pub event_grows : (known : ℕ) (store : StoreState) (es : List Effect) (old : State) (what : What) (now : ℕ) (room : Bool) → room ≡ room_for known store old es what → can_place store.blocks es ≡ true
    → Grows store.blocks es (event_effects old what now room)
event_grows known store es old what now room is can = go (plain_or_stores old what now room)
  where
    go : Plain (event_effects old what now room) ⊎ Stores old what now room → Grows store.blocks es (event_effects old what now room)
    go (inl plain) = plain_grows store.blocks es (event_effects old what now room) plain can
    go (inr h) =
        let there : has_room store.blocks es (block_length h.p) ≡ true = has_spot store es h.p (has_block known store es old what now room is h).1.1 in
        subst (Grows store.blocks es) (sym h.records) (stored_grows store.blocks es h.s (advance h.s now) h.p now can there)

-- ---- counts

-- none is counted
pub uncounted : (stored : ℕ) (es : List Effect) → Plain es → IsCounted stored (stored_by es) stored
uncounted stored es plain = let none = none_stored es plain in record { none = λ zero_is. refl; most = omega arith; all = λ few. omega (arith, none) }

few_before : (old made new : ℕ) → is_few new ≡ true → old + made ≤ new → is_few old ≡ true
few_before old made new few le = let below : new < 65533 = ltb-true new 65533 few in lt-ltb old 65533 (omega (arith, below, le))

pub grown_blocks : (b : Blocks) (es effects : List Effect) (stored count : ℕ) → HasBlocks b es stored → Grows b (left_before effects es) effects → IsCounted stored (stored_by effects) count
    → HasBlocks b (followed es effects) count
grown_blocks b es effects stored count h grows counted = record {
  placed = grows.placed;
  few = λ is.
      let all = counted.all is in
      let before = h.few (few_before stored (stored_by effects) count is all) in
      omega (arith, all, before, grows.used, used_left b es effects);
}

-- a call that finds no memory stores nothing
pub left_plain : (left : Left) (old : State) (now : ℕ) (es : List Effect) → TellsLeft left old now es → Plain es
left_plain Nothing old now es tells = subst Plain (sym tells) refl
left_plain Ticked old now es tells = subst Plain (sym tells) (plain_tick old now true)
left_plain (Unsaid refused) old now es tells = absurd tells

module _ (b : Blocks) (waiting : List Effect) (stored : ℕ) where
  going_blocks : (o : Option ℕ) → o ≡ None → MayStore o b waiting stored → HasBlocks b waiting stored
  going_blocks o goes = subst (λ (p : Option ℕ). MayStore p b waiting stored) goes

  pub has_blocks : (stopped : Option ℕ) → stopped ≡ None → MayStore stopped b waiting stored → HasBlocks b waiting stored
  has_blocks stopped goes h = going_blocks stopped goes h

  pub may_store : (stopped : Option ℕ) → stopped ≡ None → HasBlocks b waiting stored → MayStore stopped b waiting stored
  may_store stopped goes h = subst (λ (p : Option ℕ). MayStore p b waiting stored) (sym goes) h

  -- no block is free, so that many messages count
  pub many_by_spot : (p : Publish) → HasBlocks b waiting stored → has_room b waiting (block_length p) ≡ false → is_few stored ≡ false
  many_by_spot p h none = go (is_few stored) refl
    where
      go : (x : Bool) → is_few stored ≡ x → x ≡ false
      go true few =
          let below : stored < 65533 = ltb-true stored 65533 few in
          let used = h.few few in
          absurd (true≢false (sym (law_counting.room b waiting h.placed (omega (arith, below, used)) (block_length p)) ∙ none))
      go false few = refl

  -- ---- what was made

  pub sent_plain : (result : Result (Option Delivery) Left) (old : State) (now : ℕ) (new : State) (es : List Effect) → TellsSent result old now new es → Plain es
  sent_plain (Ok (Some d)) old now new es tells = subst Plain (sym tells) (plain_delivery old now d new)
  sent_plain (Ok None) old now new es tells = subst Plain (sym tells) refl
  sent_plain (Err left) old now new es tells = left_plain left old now es tells

  pub sent_blocks : (result : Result (Option Delivery) Left) (old : State) (now : ℕ) (new : State) (es : List Effect) → HasBlocks b waiting stored → TellsSent result old now new es → HasBlocks b (followed waiting es) stored
  sent_blocks result old now new es h tells =
      let plain = sent_plain result old now new es tells in
      grown_blocks b waiting es stored stored h (plain_grows b (left_before es waiting) es plain (can_left b waiting es h.placed)) (uncounted stored es plain)

-- ---- whatever was told

module _ (known : ℕ) (store : StoreState) (waiting : List Effect) where
  -- a moment that gives way changes no room
  pub room_for_left : (state : State) (more : List Effect) (what : What) → room_for known store state (left_before more waiting) what ≡ room_for known store state waiting what
  room_for_left state more what =
      ap (λ (b : Bool). event_growth state what == 0 || (is_reserved store.rooms (bound_after known state what) && b)) (reached_left what)
    where
      reached_left : (w : What) → is_reached_by store (left_before more waiting) w ≡ is_reached_by store waiting w
      reached_left (whats.Publish p) = ap (is_reached store.rooms.reach) (spot_left store.blocks waiting more (block_length p))
      reached_left (whats.Make reply config) = refl
      reached_left (whats.Change reply config) = refl
      reached_left (whats.Drop reply) = refl
      reached_left (whats.Purge reply pattern below keep) = refl
      reached_left (whats.Delete reply n) = refl
      reached_left (whats.MakeConsumer reply name config update) = refl
      reached_left (whats.DropConsumer reply name) = refl
      reached_left (whats.Ack reply ack) = refl
      reached_left (whats.Pull reply name ask) = refl
      reached_left whats.Tick = refl
      reached_left (whats.StreamInfo reply) = refl
      reached_left (whats.MessageGet reply by) = refl
      reached_left (whats.ConsumerInfo reply name) = refl
      reached_left (whats.ConsumerNames reply offset) = refl
      reached_left (whats.ConsumerList reply offset) = refl

  pub told_grows : (result : Result Reply Left) (old : State) (what : What) (now : ℕ) (room : Bool) (es : List Effect) → room ≡ room_for known store old waiting what
      → can_place store.blocks waiting ≡ true → TellsEventIn room result old what now es → Grows store.blocks (left_before es waiting) es
  told_grows (Ok reply) old what now room es is can tells =
      let made = event_effects old what now room in
      subst (λ (l : List Effect). Grows store.blocks (left_before l waiting) l) (sym tells)
      (event_grows known store (left_before made waiting) old what now room (is ∙ sym (room_for_left old made what)) (can_left store.blocks waiting made can))
  told_grows (Err left) old what now room es is can tells = plain_grows store.blocks (left_before es waiting) es (left_plain left old now es tells) (can_left store.blocks waiting es can)

-- ---- the messages that a state has, and the one before has not

one_new : (before : List ℕ) (n : ℕ) (ms : List Message) → has before n ≡ false → has (seqs ms) n ≡ true → 1 ≤ length (filter (λ m. not (has before m.seq)) ms)
one_new before n [] none is = absurd (true≢false (sym is))
one_new before n (m ∷ ms) none is = go (m.seq == n) refl is (one_new before n ms none)
  where
    passes : (x : Bool) → x ≡ false → 1 ≤ length (cond (not x) (m ∷ filter (λ m. not (has before m.seq)) ms) (filter (λ m. not (has before m.seq)) ms))
    passes true e = absurd (true≢false e)
    passes false e = omega arith

    more : (x : Bool) → 1 ≤ length (filter (λ m. not (has before m.seq)) ms) → 1 ≤ length (cond x (m ∷ filter (λ m. not (has before m.seq)) ms) (filter (λ m. not (has before m.seq)) ms))
    more true some = omega arith
    more false some = some

    go : (x : Bool) → (m.seq == n) ≡ x → (x || has (seqs ms) n) ≡ true → (has (seqs ms) n ≡ true → 1 ≤ length (filter (λ m. not (has before m.seq)) ms)) → 1 ≤ length (filter (λ m. not (has before m.seq)) (m ∷ ms))
    go true e h rest = passes (has before m.seq) (ap (has before) (eqb-true m.seq n e) ∙ none)
    go false e h rest = more (not (has before m.seq)) (rest h)

-- the sequences of a sound stream end below the next one
none_next : (low high : ℕ) (ms : List Message) → Between (λ m. m.seq) low high ms → has (seqs ms) high ≡ false
none_next low high [] h = refl
none_next low high (m ∷ ms) h = go (m.seq == high) refl (between_bounds (λ x. x.seq) (m.seq + 1) high ms h.1) (none_next (m.seq + 1) high ms h.1)
  where
    go : (x : Bool) → (m.seq == high) ≡ x → m.seq + 1 ≤ high → has (seqs ms) high ≡ false → (x || has (seqs ms) high) ≡ false
    go true e bound rest = let same = eqb-true m.seq high e in absurd (omega (arith, same, bound))
    go false e bound rest = rest

last_of_advance : (s : Stream) (now : ℕ) → (advance s now).last ≡ s.last
unfolding advance
last_of_advance s now = refl

state_of_publish : (s : Stream) (e : Event) (now : ℕ) (room : Bool) (p : Publish) → e.what ≡ whats.Publish p → verdict (advance s now) p room ≡ Take
    → (answered (Live s) e now room).state ≡ Live (settled (with_message (advance s now) p))
unfolding answered
state_of_publish s e now room p is taken = cc

not_skipped : (x : Bool) → not x ≡ false → x ≡ true
not_skipped true so = refl
not_skipped false so = absurd (true≢false so)

-- as many messages are stored as are new, or fewer
pub stored_new : (old : State) (e : Event) (now : ℕ) (room : Bool) → IsSound old → stored_by (event_effects old e.what now room) ≤ length (new_messages old (answered old e now room).state)
stored_new old e now room sound = go (plain_or_stores old e.what now room)
  where
    go : Plain (event_effects old e.what now room) ⊎ Stores old e.what now room → stored_by (event_effects old e.what now room) ≤ length (new_messages old (answered old e now room).state)
    go (inl plain) = let none = none_stored (event_effects old e.what now room) plain in omega (arith, none)
    go (inr h) =
        let a = advance h.s now in
        let count : stored_by (event_effects old e.what now room) ≡ 1 = ap stored_by h.records ∙ one_stored a h.p now h.s in
        let left : (answered old e now room).state ≡ Live (settled (with_message a h.p)) =
        ap (λ (x : State). (answered x e now room).state) h.old_is ∙ state_of_publish h.s e now room h.p h.what_is h.taken in
        let stays : has (seqs (settled (with_message a h.p)).messages) (a.last + 1) ≡ true = not_skipped (has (seqs (settled (with_message a h.p)).messages) (a.last + 1)) h.kept in
        let stood : Between (λ m. m.seq) 1 (h.s.last + 1) h.s.messages = (subst IsSound h.old_is sound).stored.messages in
        let fresh : has (seqs h.s.messages) (a.last + 1) ≡ false = ap (λ (n : ℕ). has (seqs h.s.messages) (n + 1)) (last_of_advance h.s now) ∙ none_next 1 (h.s.last + 1) h.s.messages stood in
        let some = one_new (seqs h.s.messages) (a.last + 1) (settled (with_message a h.p)).messages fresh stays in
        let both : 1 ≤ length (new_messages old (answered old e now room).state) =
        subst (λ (x : State). 1 ≤ length (new_messages x (answered old e now room).state)) (sym h.old_is)
        (subst (λ (x : State). 1 ≤ length (new_messages (Live h.s) x)) (sym left) some) in
        omega (arith, count, both)

-- ---- the records that were made

plain_seen : (time : TimeRecords) → Plain (seen_in time)
plain_seen time = go time.seen
  where
    go : (b : Bool) → Plain (cond b (effects.Now time.moment ∷ []) [])
    go true = refl
    go false = refl

plain_given_up : (moment : ℕ) (names : List Bytes) → Plain (map (gives_up moment) names)
plain_given_up moment [] = refl
plain_given_up moment (name ∷ names) = plain_given_up moment names

plain_time_in : (time : TimeRecords) → Plain (time_in time)
plain_time_in time =
    plain_both (seen_in time) _ (plain_seen time)
    (plain_both (map remove_of time.aged.ranges) _ (plain_of (map remove_of time.aged.ranges) (still_ranges time.aged.ranges)) (plain_given_up time.moment time.given_up))

-- just its own record may store one
pub made_stored : (made : Made) → stored_by (effects_in made) ≡ stored_by (option_to_list made.own.effect)
made_stored made =
    let time = none_stored (time_in made.time) (plain_time_in made.time) in
    let left = none_stored (map remove_of made.own.removed.ranges) (plain_of (map remove_of made.own.removed.ranges) (still_ranges made.own.removed.ranges)) in
    omega (arith, stored_both (time_in made.time) (own_in made.own), stored_both (option_to_list made.own.effect) (map remove_of made.own.removed.ranges), time, left)

-- a number that is at its end stands for many
pub counted_one : (made : Made) (e : Effect) (stored count : ℕ) → made.own.effect ≡ Some e → is_put e ≡ true → count ≡ min (stored + 1) (2 ^ 64 - 1) → IsCounted stored (stored_by (effects_in made)) count
counted_one made e stored count is put count_is =
    let one : stored_by (effects_in made) ≡ 1 =
    made_stored made ∙ ap (λ (o : Option Effect). stored_by (option_to_list o)) is ∙ ap (λ (b : Bool). length (cond b (e ∷ []) [])) put in
    record {
      none = λ zero_is. absurd (omega (arith, one, zero_is));
      most = omega (arith, one, count_is);
      all = λ few. let below : count < 65533 = ltb-true count 65533 few in omega (arith, one, count_is, below);
    }

counted_none : (made : Made) (stored : ℕ) → stored_by (option_to_list made.own.effect) ≡ 0 → IsCounted stored (stored_by (effects_in made)) stored
counted_none made stored nothing =
    let none : stored_by (effects_in made) ≡ 0 = made_stored made ∙ nothing in
    record { none = λ zero_is. refl; most = omega arith; all = λ few. omega (arith, none) }

pub counted_other : (made : Made) (e : Effect) (stored : ℕ) → made.own.effect ≡ Some e → is_put e ≡ false → IsCounted stored (stored_by (effects_in made)) stored
counted_other made e stored is other = counted_none made stored (ap (λ (o : Option Effect). stored_by (option_to_list o)) is ∙ ap (λ (b : Bool). length (cond b (e ∷ []) [])) other)

pub counted_without : (made : Made) (stored : ℕ) → made.own.effect ≡ None → IsCounted stored (stored_by (effects_in made)) stored
counted_without made stored is = counted_none made stored (ap (λ (o : Option Effect). stored_by (option_to_list o)) is)
