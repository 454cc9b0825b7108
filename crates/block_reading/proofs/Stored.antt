-- The bytes of a stored message.
use Rattle.std.proofs.Common.{◌≡◌, ◌≢◌, ◌⊎◌, inl, inr, ℕ, ◌∙◌, ◌==◌, ◌&&◌, true, false, true≢false, Ok, Err, IsTrue, is_ok, ap, length, refl, subst, sym}
use Rattle.std.proofs.lemmas.Bool.{and_from, and_parts, eq-eqb, eqb-true}
use Rattle.js_base.specs.Bytes.{Bytes}
use Rattle.js_base.specs.declared.spot.Spot.{Spot}
use Rattle.js_model.specs.declared.stream.Message.{Message}
use Rattle.op_records.specs.Answers.{IsFaultOf}
use Rattle.op_records.specs.Blocks.{is_block_message, message_at}
use Rattle.op_records.specs.Laws.{IsBatch}
use Rattle.op_records.specs.declared.fault.RecordFault.{RecordFault}
use Rattle.op_records.specs.declared.fault.RecordFault.TheVariants.{Cut, BadKind, BadField, NoMemory as OutOfMemory}
use Rattle.op_records.proofs.BlocksLaws.{law_message}
use Rattle.op_records.proofs.Steps.{value_is, place_is}
use Rattle.vol_disk.specs.Disk.{Files}
use Rattle.block_reading.specs.Standing.{bytes_at}
use Rattle.block_reading.specs.Damage.{IsToldBy}
use Rattle.block_reading.specs.Reading.{IsFound, IsLostFault, IsStoredAs, IsStoredFault, bytes_fault}
use Rattle.block_reading.specs.declared.bytes.BytesFault.{BytesFault}
use Rattle.block_reading.specs.declared.bytes.BytesFault.TheVariants.{Wrong}
use Rattle.block_reading.specs.declared.fault.MessagesFault.TheVariants.{Damaged}

-- ---- as it is read

pub allowed_of : (bytes : Bytes) (told m : Message) → IsStoredAs bytes told m → IsTrue (is_block_message m)
allowed_of bytes told m h = ((law_message bytes 0 m (length bytes) h.few).0 h.reads).allowed

told_by : (told m : Message) → (m.seq == told.seq && m.at == told.at) ≡ true → IsToldBy told m
told_by told m is =
    let both = and_parts (m.seq == told.seq) (m.at == told.at) is in
    record { seq = eqb-true m.seq told.seq both.0; moment = eqb-true m.at told.at both.1 }

-- the message is read up to the end, and the log tells of it
pub read_whole : (bytes : Bytes) (told m : Message) (end : ℕ) → IsBatch bytes → message_at bytes 0 ≡ Ok (m, end) → end ≡ length bytes → (m.seq == told.seq && m.at == told.at) ≡ true → IsStoredAs bytes told m
read_whole bytes told m end few reads ends is = record { few = few; reads = reads ∙ ap (λ (n : ℕ). Ok (m, n)) ends; by_log = told_by told m is }

-- another message is read, or up to another end
pub read_other : (bytes : Bytes) (told read : Message) (end : ℕ) → message_at bytes 0 ≡ Ok (read, end) → (end ≢ length bytes) ⊎ ((read.seq == told.seq && read.at == told.at) ≡ false) →
    (m : Message) → ¬ IsStoredAs bytes told m
read_other bytes told read end reads differs m h = go differs
  where
    same : read ≡ m
    same = value_is read end m (length bytes) (sym reads ∙ h.reads)

    is : (read.seq == told.seq && read.at == told.at) ≡ true
    is =
        and_from (read.seq == told.seq) (read.at == told.at) (eq-eqb read.seq told.seq (ap (λ (x : Message). x.seq) same ∙ h.by_log.seq))
        (eq-eqb read.at told.at (ap (λ (x : Message). x.at) same ∙ h.by_log.moment))

    go : (end ≢ length bytes) ⊎ ((read.seq == told.seq && read.at == told.at) ≡ false) → ⊥
    go (inl ends) = ends (place_is read end m (length bytes) (sym reads ∙ h.reads))
    go (inr other) = true≢false (sym is ∙ other)

none_read : (bytes : Bytes) (told : Message) (fault : RecordFault) → message_at bytes 0 ≡ Err fault → (m : Message) → ¬ IsStoredAs bytes told m
none_read bytes told fault e m h = true≢false (ap is_ok (sym h.reads ∙ e))

pub stored_fault : (bytes : Bytes) (told : Message) (fault : RecordFault) → IsFaultOf (message_at bytes 0) fault → IsStoredFault bytes told (bytes_fault 0 fault)
stored_fault bytes told (Cut place) h = none_read bytes told (Cut place) h
stored_fault bytes told (BadKind place) h = none_read bytes told (BadKind place) h
stored_fault bytes told (BadField place) h = none_read bytes told (BadField place) h
stored_fault bytes told OutOfMemory h = tt

-- ---- at its spot

module _ (image : Files) (spot : Spot) (told : Message) (bytes : Bytes) (is : bytes ≡ bytes_at image spot) (long : length bytes ≡ spot.len) where
  pub found_there : (m : Message) → IsStoredAs bytes told m → IsFound image spot told m
  found_there m h = record {
    stands = record {
      few = subst IsBatch is h.few;
      reads = subst (λ (b : Bytes). message_at b 0 ≡ Ok (m, spot.len)) is (h.reads ∙ ap (λ (n : ℕ). Ok (m, n)) long);
    };
    by_log = h.by_log;
  }

  stored_there : (m : Message) → IsFound image spot told m → IsStoredAs bytes told m
  stored_there m h = record {
    few = subst IsBatch (sym is) h.stands.few;
    reads = subst (λ (b : Bytes). message_at b 0 ≡ Ok (m, spot.len)) (sym is) h.stands.reads ∙ ap (λ (n : ℕ). Ok (m, n)) (sym long);
    by_log = h.by_log;
  }

  pub lost_at : (at : ℕ) (fault : BytesFault) → fault ≡ Wrong at → IsStoredFault bytes told fault → IsLostFault image spot told (Damaged spot.file spot.at)
  lost_at at fault is_wrong h = (refl, refl, λ m found. subst (λ (f : BytesFault). IsStoredFault bytes told f) is_wrong h m (stored_there m found))
