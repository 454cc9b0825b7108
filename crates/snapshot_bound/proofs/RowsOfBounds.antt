-- Worked rows of what small places come to, and of what raises it.
use Rattle.std.specs.Prelude.{◌≡◌, ◌+◌, ◌*◌, [], ◌∷◌, None, length, refl}
use Rattle.js_model.specs.declared.event.What.TheVariants.{Tick, Drop}
use Rattle.js_model.specs.declared.stream.State.TheVariants.{Vacant}
use Rattle.effects.specs.declared.effect.Effect.TheVariants.{PutHere, Skip, Remove, Acked}
use Rattle.effects.specs.Folding.{vacant}
use Rattle.op_records.specs.Spelling.{spelled_vacant}
use Rattle.snapshot_bound.specs.Asking.{event_growth}
use Rattle.snapshot_bound.specs.Bounds.{bound, counted_by, id_length}
use Rattle.snapshot_bound.specs.Growth.{record_counted}

-- ---- places

vacant_bound : bound (vacant 7) ≡ 39
vacant_bound = refl

-- and its log has just that length
vacant_length : 30 + length (spelled_vacant 7) ≡ 39
unfolding spelled_vacant
vacant_length = refl

empty_stream : counted_by 0 0 0 ≡ 93
empty_stream = refl

one_message : counted_by 0 1 0 ≡ 125
one_message = refl

message_and_consumer : counted_by 0 1 1 ≡ 157
message_and_consumer = refl

-- a consumer holds 65,536 messages at most
many_messages : counted_by 0 65537 1 ≡ 93 + 32 * 65537 + 32 * 65536
many_messages = refl

-- an id of two bytes
one_id : id_length (record { id = 97 ∷ 98 ∷ []; seq = 5; at = 9 }) ≡ 20
one_id = refl

-- ---- records

put_grows : record_counted 10 2 (PutHere 5 9 (97 ∷ []) (98 ∷ []) [] []) ≡ 115
put_grows = refl

skip_grows : record_counted 10 2 (Skip 5 9 (97 ∷ [])) ≡ 19
skip_grows = refl

removal_grows_nothing : record_counted 10 2 (Remove 1 10) ≡ 0
removal_grows_nothing = refl

end_grows_nothing : record_counted 10 2 (Acked (97 ∷ []) 1 10) ≡ 0
end_grows_nothing = refl

-- ---- events

tick_asks_nothing : event_growth (Vacant 7) Tick ≡ 0
tick_asks_nothing = refl

drop_asks_nothing : event_growth (Vacant 7) (Drop None) ≡ 0
drop_asks_nothing = refl
