-- Worked rows of where a log's records are damaged.
use Rattle.std.proofs.Common.{◌≡◌, inl, inr, ℕ, ◌+◌, [], ◌∷◌, refl}
use Rattle.std.proofs.lemmas.List.Elements.{All-nil}
use Rattle.js_base.specs.Bytes.{Bytes}
use Rattle.js_model.proofs.Samples.{t0, orders}
use Rattle.effects.specs.declared.effect.Effect.TheVariants.{MakeStream, Skip, Due, Now}
use Rattle.effects.specs.Folding.{vacant, live, empty_body}
use Rattle.op_records.specs.declared.record.Record.{Record}
use Rattle.op_records.specs.declared.record.Record.TheVariants.{Put}
use Rattle.block_table.specs.Blocks.{no_blocks}
use Rattle.op_records.specs.declared.fault.RecordFault.TheVariants.{BadKind}
use Rattle.state_snapshot.specs.Reading.{snapshot_field, snapshot_record}
use Rattle.log_records.specs.Damage.{IsBadFirst}
use Rattle.log_records.specs.Ends.{IsLastBehind}
use Rattle.log_records.specs.Logged.{Logged}
use Rattle.log_records.specs.Misfits.{misfit_of}
use Rattle.record_fold.specs.Misfits.{misfit}

-- ---- a first batch

-- of the one byte 255
no_start : IsBadFirst ((255 ∷ []) ∷ []) 29
unfolding snapshot_field snapshot_record
no_start = record { first = 255 ∷ []; later = []; batches_are = refl; bad = inr (inl (record { some = λ is. absurd (cc); fault = BadKind 0; place = 0; wrong = refl; told = refl; here = refl })) }

without_records : IsBadFirst ([] ∷ []) 20
without_records = record { first = []; later = []; batches_are = refl; bad = inl (record { empty = refl; here = refl }) }

-- ---- the last record

-- a snapshot alone is told where it begins
snapshot_alone : (first : Bytes) (begun : Logged) → IsLastBehind first begun [] 29
snapshot_alone first begun = inl (record { are_empty = All-nil (λ (batch : Bytes). batch ≡ []); here = refl })

-- ---- the field of a record that does not fit

no_stream : misfit (vacant 0) (Now t0) ≡ 0
no_stream = refl

other_incarnation : misfit (vacant 0) (MakeStream 2 t0 orders) ≡ 1
other_incarnation = refl

other_sequence : misfit (live 1 (empty_body t0 orders)) (Skip 2 t0 []) ≡ 1
other_sequence = refl

other_moment : misfit (live 1 (empty_body t0 orders)) (Skip 1 (t0 + 1) []) ≡ 9
other_moment = refl

no_consumer : misfit (live 1 (empty_body t0 orders)) (Due (87 ∷ []) 1 t0) ≡ 1
no_consumer = refl

-- ---- a message that cannot lie at its spot; its id has two bytes

abbrev empty : Logged
empty = record { durable = live 1 (empty_body t0 orders); blocks = no_blocks }

abbrev message_at : ℕ → ℕ → ℕ → Record
message_at file at len = Put 1 t0 (97 ∷ 98 ∷ []) (record { file = file; at = at; len = len })

in_a_log : misfit_of empty (message_at 1 0 35) ≡ 21
unfolding misfit_of
in_a_log = refl

behind_nothing : misfit_of empty (message_at 2 35 35) ≡ 23
unfolding misfit_of
behind_nothing = refl

too_long : misfit_of empty (message_at 2 0 4294967296) ≡ 27
unfolding misfit_of
too_long = refl
