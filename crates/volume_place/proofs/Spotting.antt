-- Each message that waits has room in the file where it goes, as events and deliveries are made.
use Rattle.std.proofs.Common.{◌≡◌, ◌≤◌, ◌⊎◌, inl, inr, ℕ, ◌+◌, ◌==◌, Bool, true, not, List, [], ◌∷◌, ◌++◌, length, Option, None, Some, Result, Ok, Err, refl, sym, ap, subst, ◌∙◌, arith, append_assoc}
use Rattle.std.specs.Prelude.{IfSome, IsTrue, nat_le}
use Rattle.std.specs.List.{list_all}
use Rattle.std.proofs.lemmas.Bool.{and_parts, eqb-true, leb-true, true≢false}
use Rattle.std.proofs.lemmas.List.{append-nil}
use Rattle.std.proofs.lemmas.List.Folds.{list_all-append}
use Rattle.js_base.specs.declared.spot.Spot.{Spot}
use Rattle.js_model.specs.declared.entry.Delivery.{Delivery}
use Rattle.js_model.specs.declared.event.What.{What}
use Rattle.js_model.specs.declared.event.What.TheVariants as whats
use Rattle.js_model.specs.declared.reply.Reply.{Reply}
use Rattle.js_model.specs.declared.stream.State.{State}
use Rattle.js_model.specs.declared.stream.State.TheVariants.{Live}
use Rattle.js_model.specs.Advance.{advance}
use Rattle.js_model.specs.Events.{with_message}
use Rattle.effects.specs.Effects.{event_effects, settle_effects}
use Rattle.effects.specs.TimeEffects.{time_effects}
use Rattle.effects.specs.declared.effect.Effect.{Effect}
use Rattle.effects.specs.declared.effect.Effect.TheVariants as effects
use Rattle.op_records.specs.Allowed.{is_put, is_record}
use Rattle.op_records.specs.Blocks.{spelled_message}
use Rattle.vol_disk.specs.Disk.{Disk}
use Rattle.block_table.specs.declared.block.Block.{Block}
use Rattle.block_table.specs.Tables.{IsTable}
use Rattle.block_writing.specs.Planning.{message_by}
use Rattle.stream_store.specs.Placing.{spot_behind}
use Rattle.stream_store.specs.Reserving.{HasMessageRoom, LawReserving}
use Rattle.stream_store.specs.Rooms.{AreRooms, reaches}
use Rattle.stream_store.specs.StoreState.{StoreState}
use Rattle.stream_store.specs.declared.rooms.Rooms.{Rooms}
use Rattle.stream_store.proofs.MessageRooms.{law_reserving}
use Rattle.place_engine.specs.Following.{followed, left_before}
use Rattle.memory_place.specs.Recording.{TellsEventIn, TellsSent}
use Rattle.place_engine.specs.declared.faults.Left.{Left}
use Rattle.volume_place.specs.Rooms.{block_length, is_reached_by, room_for}
use Rattle.volume_place.proofs.Asked.{reached_spot}
use Rattle.volume_place.proofs.Following.{Leaves, leaves}
use Rattle.volume_place.proofs.Plain.{Plain, Stores, plain_or_stores, plain_settle, plain_time, put_of, still_time, storing}
use Rattle.volume_place.proofs.Storing.{has_block, left_plain, length_is, not_put, one_behind, room_for_left, sent_plain, still_spot}

-- the file in which room was made reaches to the spot
pub ends_within : (rooms : Rooms) (disk : Disk) (spot : Spot) → AreRooms rooms disk → reaches rooms.reach spot ≡ true → spot.at + spot.len ≤ length (disk.seen spot.file)
ends_within rooms disk spot are is = go rooms.reach are.in_reach is
  where
    go : (o : Option Block) → IfSome o (λ k. k.end ≤ length (disk.seen k.file)) → reaches o spot ≡ true → spot.at + spot.len ≤ length (disk.seen spot.file)
    go None known h = absurd (true≢false (sym h))
    go (Some k) known h =
        let parts = and_parts (k.file == spot.file) (nat_le (spot.at + spot.len) k.end) h in
        let within = leb-true (spot.at + spot.len) k.end parts.1 in
        let long : k.end ≤ length (disk.seen spot.file) = subst (λ (file : ℕ). k.end ≤ length (disk.seen file)) (eqb-true k.file spot.file parts.0) known in
        omega (arith, within, long)

module _ (store : StoreState) (disk : Disk) where
  abbrev HasRoom : List Effect → Type 0
  HasRoom es = HasMessageRoom store.blocks es disk

  law : LawReserving disk disk
  law = law_reserving disk disk

  -- a moment that gives way
  left_room : (tail more : List Effect) → HasRoom tail → HasRoom (left_before more tail)
  left_room tail more h = go (leaves more tail)
    where
      go : Leaves more tail → HasRoom (left_before more tail)
      go (inl same) = subst HasRoom (sym same) h
      go (inr ends) = law.fewer store.blocks (left_before more tail) (effects.Now ends.0) refl (subst HasRoom ends.1 h)

  -- records that store nothing
  plain_room : (es xs : List Effect) → Plain xs → HasRoom es → HasRoom (es ++ xs)
  plain_room es [] plain h = subst HasRoom (sym (append-nil es)) h
  plain_room es (x ∷ xs) plain h =
      let parts = and_parts (not (is_put x)) _ plain in
      subst HasRoom (one_behind es x xs) (plain_room (es ++ x ∷ []) xs parts.1 (law.change store.blocks es x (not_put (is_put x) parts.0) h))

  abbrev Allowed : List Effect → Type 0
  Allowed es = IsTrue (list_all is_record es)

  first_allowed : (xs ys : List Effect) → Allowed (xs ++ ys) → Allowed xs
  first_allowed xs ys all = (and_parts (list_all is_record xs) (list_all is_record ys) (sym (list_all-append is_record xs ys) ∙ all)).0

  module _ (rooms : AreRooms store.rooms disk) (table : IsTable store.blocks) where
    -- a message that is taken and kept, between passing time and what leaves by it
    stored_room : (es : List Effect) (old : State) (what : What) (now : ℕ) (room : Bool) (h : Stores old what now room) → is_reached_by store es (whats.Publish h.p) ≡ true
        → Allowed (es ++ (time_effects h.s now ++ storing (advance h.s now) h.p)) → HasRoom es → HasRoom (es ++ (time_effects h.s now ++ storing (advance h.s now) h.p))
    stored_room es old what now room h reached all has =
        let a = advance h.s now in
        let p = h.p in
        let passed = time_effects h.s now in
        let len = length (spelled_message (message_by (a.last + 1) a.moment p.subject p.headers p.payload)) in
        let r = reached_spot store es p reached in
        let spot_is : spot_behind store.blocks (es ++ passed) len ≡ Some r.spot =
        ap (spot_behind store.blocks (es ++ passed)) (sym (length_is store.blocks a p)) ∙ still_spot store.blocks es passed (block_length p) (still_time h.s now) ∙ r.spot_is in
        let seam = append_assoc es passed (storing a p) in
        let before : Allowed (es ++ passed) = first_allowed (es ++ passed) (storing a p) (subst Allowed (sym seam) all) in
        let put = law.message store.blocks (es ++ passed) (a.last + 1) a.moment p.wants.id p.subject p.headers p.payload r.spot table before spot_is
        (ends_within store.rooms disk r.spot rooms r.reached) (plain_room es passed (plain_time h.s now) has) in
        subst HasRoom (one_behind (es ++ passed) (put_of a p) (settle_effects [] (Live (with_message a p))) ∙ seam)
        (plain_room ((es ++ passed) ++ put_of a p ∷ []) (settle_effects [] (Live (with_message a p))) (plain_settle [] (Live (with_message a p))) put)

    event_room : (known : ℕ) (es : List Effect) (old : State) (what : What) (now : ℕ) (room : Bool) → room ≡ room_for known store old es what → Allowed (es ++ event_effects old what now room)
        → HasRoom es → HasRoom (es ++ event_effects old what now room)
    event_room known es old what now room is all has = go (plain_or_stores old what now room)
      where
        go : Plain (event_effects old what now room) ⊎ Stores old what now room → HasRoom (es ++ event_effects old what now room)
        go (inl plain) = plain_room es (event_effects old what now room) plain has
        go (inr h) =
            subst (λ (l : List Effect). HasRoom (es ++ l)) (sym h.records)
            (stored_room es old what now room h (has_block known store es old what now room is h).1.1 (subst (λ (l : List Effect). Allowed (es ++ l)) h.records all) has)

    -- whatever was told of an event
    pub told_room : (known : ℕ) (waiting : List Effect) (result : Result Reply Left) (old : State) (what : What) (now : ℕ) (room : Bool) (es : List Effect)
        → room ≡ room_for known store old waiting what → TellsEventIn room result old what now es → Allowed (followed waiting es) → HasRoom waiting → HasRoom (followed waiting es)
    told_room known waiting (Ok reply) old what now room es is tells all has =
        let made = event_effects old what now room in
        subst (λ (l : List Effect). HasRoom (followed waiting l)) (sym tells)
        (event_room known (left_before made waiting) old what now room (is ∙ sym (room_for_left known store waiting old made what))
        (subst (λ (l : List Effect). Allowed (followed waiting l)) tells all) (left_room waiting made has))
    told_room known waiting (Err left) old what now room es is tells all has = plain_room (left_before es waiting) es (left_plain left old now es tells) (left_room waiting es has)

  -- and of a delivery
  pub sent_room : (waiting : List Effect) (stored : ℕ) (result : Result (Option Delivery) Left) (old : State) (now : ℕ) (new : State) (es : List Effect) → TellsSent result old now new es
      → HasRoom waiting → HasRoom (followed waiting es)
  sent_room waiting stored result old now new es tells has =
      plain_room (left_before es waiting) es (sent_plain store.blocks waiting stored result old now new es tells) (left_room waiting es has)
