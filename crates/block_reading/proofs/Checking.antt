-- The check of a block's bytes, message by message.
use Rattle.std.proofs.Common.{◌≡◌, ◌≤◌, ◌<◌, ◌⊎◌, ◌^◌, inl, inr, ℕ, ◌+◌, List, [], ◌∷◌, ◌++◌, Ok, Err, IsTrue, get_or, length, drop, ◌-◌, refl, sym, ap, subst, ◌∙◌, arith, length-take}
use Rattle.std.proofs.lemmas.Bool.{and_parts}
use Rattle.std.proofs.lemmas.List.Elements.{All-from_get_or}
use Rattle.js_base.specs.Bytes.{Bytes}
use Rattle.js_model.specs.declared.stream.Message.{Message}
use Rattle.op_records.specs.Answers.{IsFaultOf}
use Rattle.op_records.specs.BlockAnswers.{EndsAt}
use Rattle.op_records.specs.Blocks.{message_at, is_block_message}
use Rattle.op_records.specs.Laws.{IsBatch}
use Rattle.op_records.specs.declared.fault.RecordFault.{RecordFault}
use Rattle.op_records.specs.declared.fault.RecordFault.TheVariants.{Cut, BadKind, BadField, NoMemory as OutOfMemory}
use Rattle.op_records.proofs.BlocksLaws.{law_message}
use Rattle.op_records.proofs.BlockSizes.{spelled_size}
use Rattle.op_records.proofs.Exact.{lt_is}
use Rattle.block_reading.specs.Standing.{StandIn, AreMessages}
use Rattle.block_reading.specs.Damage.{AreWrongAt}
use Rattle.block_reading.specs.Reading.{IsBytesFault, IsEndFault, IsOn, bytes_fault}
use Rattle.block_reading.specs.declared.bytes.BytesFault.{BytesFault}
use Rattle.block_reading.specs.declared.bytes.BytesFault.TheVariants as checked
use Rattle.block_reading.specs.declared.bytes.BytesFault.TheVariants.{Wrong}
use Rattle.block_reading.proofs.Follows.{follow_push, next_seq, next_push, between_push}
use Rattle.block_reading.proofs.Wrong.{wrong_message, wrong_seq}

-- messages stand up to here, and the next one has this sequence or a greater one
pub record StandSo (bytes : Bytes) (last at low : ℕ) : Type 0 where
  pub before : List Message
  pub stand : StandIn bytes last before at
  pub low_is : low ≡ next_seq 0 before

module _ (bytes : Bytes) (last : ℕ) where
  pub none_yet : StandSo bytes last 0 0
  none_yet = record { before = []; stand = record { follow = refl; rising = omega arith }; low_is = refl }

  pub one_more : (at low seq behind : ℕ) → StandSo bytes last at low → EndsAt (Ok (seq, behind)) (message_at bytes at) → low ≤ seq → seq ≤ last → StandSo bytes last behind (seq + 1)
  one_more at low seq behind so_far (m, is, reads) above below = record {
    before = so_far.before ++ m ∷ [];
    stand = record {
      follow = follow_push bytes so_far.before 0 at behind m so_far.stand.follow reads;
      rising = between_push 0 (last + 1) (last + 1) so_far.before m so_far.stand.rising (omega (arith, above, is, so_far.low_is)) (omega (arith, below, is));
    };
    low_is = sym (ap (λ (n : ℕ). n + 1) is) ∙ sym (next_push 0 so_far.before m);
  }

  pub whole : (at low end : ℕ) → IsBatch bytes → StandSo bytes last at low → end ≤ at → at ≤ length bytes → length bytes ≤ end → AreMessages bytes last end
  whole at low end few so_far past within short =
      let is : at ≡ end = omega (arith, past, within, short) in
      record { few = few; messages = so_far.before; stand = subst (λ (k : ℕ). StandIn bytes last so_far.before k) is so_far.stand }

  pub wrong_there : (at low end : ℕ) (fault : RecordFault) → StandSo bytes last at low → at < end → message_at bytes at ≡ Err fault → AreWrongAt bytes last end at
  wrong_there at low end fault so_far more e = wrong_message bytes last end at so_far.before fault so_far.stand more e

  pub not_next : (at low end seq behind : ℕ) → StandSo bytes last at low → at < end → EndsAt (Ok (seq, behind)) (message_at bytes at) → (seq < low) ⊎ (last < seq) → AreWrongAt bytes last end at
  not_next at low end seq behind so_far more (m, is, reads) bad =
      wrong_seq bytes last end at behind so_far.before m so_far.stand more reads
      (go bad)
    where
      go : (seq < low) ⊎ (last < seq) → (m.seq < next_seq 0 so_far.before) ⊎ (last < m.seq)
      go (inl below) = inl (omega (arith, below, is, so_far.low_is))
      go (inr above) = inr (omega (arith, above, is))

-- ---- one message

-- what a slice has
pub is_batch : (bytes : Bytes) → ((i : ℕ) → get_or bytes i 0 < 256) → length bytes < 2 ^ 32 → IsBatch bytes
is_batch bytes fits short = record { are_bytes = All-from_get_or (λ (byte : ℕ). byte < 256) bytes 0 (λ i within. fits i); short = short }

-- its beginning and its end, and its sequence
pub is_on : (bytes : Bytes) (at seq behind : ℕ) → IsBatch bytes → EndsAt (Ok (seq, behind)) (message_at bytes at) → IsOn bytes at seq behind
is_on bytes at seq behind few (m, is, reads) =
    let spells = (law_message bytes at m behind few).0 reads in
    let size = spelled_size m spells.allowed in
    let same = ap length spells.lies.bytes_are in
    record {
      further = omega (arith, size.least, same, length-take (behind - at) (drop at bytes));
      within = spells.lies.within;
      number = subst (λ (n : ℕ). n < 2 ^ 62) is (number_of m spells.allowed);
    }
  where
    number_of : (m : Message) → IsTrue (is_block_message m) → m.seq < 2 ^ 62
    number_of m is =
        let fits = and_parts _ _ is in
        let header = and_parts _ _ fits.0 in
        let subject = and_parts _ _ header.0 in
        let numbers = and_parts _ _ subject.0 in
        lt_is m.seq (2 ^ 62) numbers.0

pub told_fault : (bytes : Bytes) (at : ℕ) (fault : RecordFault) → IsFaultOf (message_at bytes at) fault → IsEndFault bytes at (bytes_fault at fault)
told_fault bytes at (Cut place) h = (refl, (Cut place, h))
told_fault bytes at (BadKind place) h = (refl, (BadKind place, h))
told_fault bytes at (BadField place) h = (refl, (BadField place, h))
told_fault bytes at OutOfMemory h = tt

-- why the check ends there
pub end_fault : (bytes : Bytes) (last at low end : ℕ) (fault : BytesFault) → StandSo bytes last at low → at < end → IsEndFault bytes at fault → IsBytesFault bytes last end fault
end_fault bytes last at low end (Wrong place) so_far more (is, (fault, reads)) =
    subst (λ (k : ℕ). AreWrongAt bytes last end k) (sym is) (wrong_there bytes last at low end fault so_far more reads)
end_fault bytes last at low end checked.NoMemory so_far more h = tt
