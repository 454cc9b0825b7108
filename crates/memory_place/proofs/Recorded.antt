-- The records of what was asked, as the retention lets messages go.
use Rattle.std.proofs.Common.{◌≡◌, ℕ, ◌+◌, ◌≤◌, List, [], ◌++◌, length, map, append-nil, refl, sym, ap, ◌∙◌, arith}
use Rattle.std.specs.Prelude.{Option, Some, None, is_some, option_map, Result, Ok, Err, OnErr, OnOk}
use Rattle.std.specs.Borrow.{Bor}
use Rattle.std.specs.Option.{option_copied, option_to_list}
use Rattle.std.proofs.lemmas.List.{append_assoc, map-append}
use Rattle.js_model.specs.declared.stream.Message.{Message}
use Rattle.js_model.specs.declared.stream.Stream.{Stream}
use Rattle.js_model.specs.declared.stream.State.TheVariants.{Live}
use Rattle.js_model.specs.Retention.{kept}
use Rattle.js_model.specs.Trim.{trim}
use Rattle.effects.specs.declared.effect.Effect.{Effect}
use Rattle.effects.specs.Effects.{settle_effects}
use Rattle.effects.specs.Ranges.{Range}
use Rattle.effects.specs.TimeEffects.{remove_of}
use Rattle.removals.specs.Removed.{Notes, Removed}
use Rattle.removals.specs.Leaving.{leaving, trim_ranges}
use Rattle.stream_state.specs.Removing.{HasRoom, HasRoomForOne}
use Rattle.place_records.specs.declared.made.OwnRecords.{OwnRecords}
use Rattle.place_records.specs.Records.{own_in, IsFreshOwn}
use Rattle.memory_place.specs.Recording.{own_then}
use Rattle.memory_place.proofs.Leaving.{leaving_same, settle_trimmed}

-- ranges that were noted stand behind those from before
pub noted_more : (old new : OwnRecords) (more : List Range) → new.effect ≡ old.effect → Notes old.removed more new.removed → own_in new ≡ own_in old ++ map remove_of more
noted_more old new more same notes =
    rw (same, notes.all, map-append remove_of old.removed.ranges more) (sym (append_assoc (option_to_list old.effect) (map remove_of old.removed.ranges) (map remove_of more)))

-- the retention has let go of what it does not keep
pub released : (old new : OwnRecords) (s t : Stream) → t ≡ kept s → new.effect ≡ old.effect → Notes old.removed (leaving old.removed.below s.messages t.messages) new.removed → own_in new ≡ own_then old s
released old new s t left same notes =
    noted_more old new (leaving old.removed.below s.messages t.messages) same notes
    ∙ ap (λ (u : Stream). own_in old ++ map remove_of (leaving old.removed.below s.messages u.messages)) left

-- it has nothing more to let go
pub done : (own : OwnRecords) (s : Stream) → kept s ≡ s → own_then own s ≡ own_in own
done own s again =
    ap (λ (t : Stream). own_in own ++ map remove_of (leaving own.removed.below s.messages t.messages)) again
    ∙ ap (λ (rs : List Range). own_in own ++ map remove_of rs) (leaving_same own.removed.below s.messages)
    ∙ append-nil (own_in own)

-- nothing is recorded yet
pub none_in : (own : OwnRecords) → IsFreshOwn own → own_in own ≡ []
none_in own fresh = rw (fresh.none, fresh.none_removed) refl

pub fresh_then : (own : OwnRecords) (s : Stream) → IsFreshOwn own → own_then own s ≡ map remove_of (leaving None s.messages (kept s).messages)
fresh_then own s fresh =
    ap (λ (es : List Effect). es ++ map remove_of (leaving own.removed.below s.messages (kept s).messages)) (none_in own fresh)
    ∙ ap (λ (below : Option ℕ). map remove_of (leaving below s.messages (kept s).messages)) fresh.noted

-- a stream whose limits hold was only looked at
pub rests : (own : OwnRecords) (s : Stream) → IsFreshOwn own → trim s ≡ s → own_then own s ≡ settle_effects [] (Live s)
rests own s fresh within = fresh_then own s fresh ∙ sym (settle_trimmed s within)

-- ---- several stages

-- the event's own record, and then what the limits dropped, and the retention
pub trimmed_then : (old own : OwnRecords) (s t : Stream) → own.effect ≡ old.effect → Notes old.removed (trim_ranges old.removed.below s) own.removed → t ≡ trim s
    → own_then own t ≡ own_in old ++ map remove_of (trim_ranges old.removed.below s ++ leaving old.removed.below (trim s).messages (kept (trim s)).messages)
trimmed_then old own s t same notes left =
    ap (λ (es : List Effect). es ++ map remove_of (leaving own.removed.below t.messages (kept t).messages)) (noted_more old own limits same notes)
    ∙ ap (λ (below : Option ℕ). (own_in old ++ map remove_of limits) ++ map remove_of (leaving below t.messages (kept t).messages)) notes.below_same
    ∙ ap (λ (u : Stream). (own_in old ++ map remove_of limits) ++ map remove_of (leaving old.removed.below u.messages (kept u).messages)) left
    ∙ append_assoc (own_in old) (map remove_of limits) (map remove_of retained)
    ∙ ap (λ (es : List Effect). own_in old ++ es) (sym (map-append remove_of limits retained))
  where
    limits : List Range
    limits = trim_ranges old.removed.below s

    retained : List Range
    retained = leaving old.removed.below (trim s).messages (kept (trim s)).messages

-- the event's own record, and then what the retention drops of a stream whose limits hold
pub kept_then : (own : OwnRecords) (s : Stream) → own.removed.below ≡ None → trim s ≡ s → own_then own s ≡ own_in own ++ settle_effects [] (Live s)
kept_then own s noted within =
    ap (λ (below : Option ℕ). own_in own ++ map remove_of (leaving below s.messages (kept s).messages)) noted
    ∙ ap (λ (es : List Effect). own_in own ++ es) (sym (settle_trimmed s within))

-- ranges that were noted of no more than what was kept
pub still_fresh : (old own : OwnRecords) (s t : Stream) → IsFreshOwn old → own.effect ≡ old.effect → t ≡ s → Notes old.removed (leaving old.removed.below s.messages t.messages) own.removed → IsFreshOwn own
still_fresh old own s t fresh same left notes = record {
  none = same ∙ fresh.none;
  none_removed =
      notes.all ∙ ap (λ (rs : List Range). rs ++ leaving old.removed.below s.messages t.messages) fresh.none_removed
      ∙ ap (λ (u : Stream). leaving old.removed.below s.messages u.messages) left ∙ leaving_same old.removed.below s.messages;
  noted = notes.below_same ∙ fresh.noted;
}

-- the event's own record alone
pub effect_in : (old own : OwnRecords) (effect : Option Effect) → IsFreshOwn old → own ≡ record old { effect = effect } → own_in own ≡ option_to_list effect
effect_in old own effect fresh is = ap own_in is ∙ ap (λ (rs : List Range). option_to_list effect ++ map remove_of rs) fresh.none_removed ∙ append-nil (option_to_list effect)

-- ---- calls that fail

pub at_err : {T E P : Type 0} (r : Result T E) → P → OnErr r P
at_err (Ok x) h = tt
at_err (Err e) h = h

pub at_ok : {T E P : Type 0} (r : Result T E) → P → OnOk r P
at_ok (Ok x) h = h
at_ok (Err e) h = tt

-- a call left all as it was
pub rests_as : (old own : OwnRecords) (s t : Stream) → own.effect ≡ old.effect → own.removed ≡ old.removed → t ≡ s → IsFreshOwn old → trim s ≡ s → own_then own t ≡ settle_effects [] (Live s)
rests_as old own s t same alike left fresh within =
    ap (own_then own) left
    ∙ ap (λ (e : Option Effect). (option_to_list e ++ map remove_of own.removed.ranges) ++ map remove_of (leaving own.removed.below s.messages (kept s).messages)) same
    ∙ ap (λ (r : Removed). (option_to_list old.effect ++ map remove_of r.ranges) ++ map remove_of (leaving r.below s.messages (kept s).messages)) alike
    ∙ rests old s fresh within

-- ---- memory

-- the retention let nothing go, and what is noted takes no more memory
pub room_as : (own last : OwnRecords) (s t : Stream) → HasRoomForOne s own.removed → last.removed ≡ own.removed → t.messages ≡ s.messages → HasRoom t last.removed
room_as own last s t room same left =
    let a : length t.messages ≡ length s.messages = ap (λ (messages : List Message). length messages) left in
    let b : last.removed.spare ≡ own.removed.spare = ap (λ (r : Removed). r.spare) same in
    let h : length s.messages + 1 ≤ own.removed.spare = room in
    let k : length t.messages ≤ last.removed.spare = omega (arith, a, b, h) in k

-- ---- what is there

pub copied_some : {X : Type 0} (o : Option (Bor X)) → is_some o ≡ is_some (option_copied o)
copied_some None = refl
copied_some (Some x) = refl

pub mapped_some : {X Y : Type 0} (f : X → Y) (o : Option X) → is_some (option_map f o) ≡ is_some o
mapped_some f None = refl
mapped_some f (Some x) = refl
