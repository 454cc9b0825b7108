-- The batches of a log give one thing.
use Rattle.std.proofs.Common.{◌≡◌, inl, inr, ℕ, List, [], ◌∷◌, Option, Some, None, Ok, Err, length, refl, sym, ap, ◌∙◌, subst, arith}
use Rattle.std.specs.Int.{w8}
use Rattle.std.proofs.lemmas.Bool.Decides.{nat_tests}
use Rattle.js_base.specs.Bytes.{Bytes}
use Rattle.js_base.specs.Numbers.{number_at}
use Rattle.op_records.specs.declared.record.Record.{Record}
use Rattle.op_records.specs.Steps.{continued}
use Rattle.op_records.specs.Fields.{number_told}
use Rattle.op_records.specs.Reading.{Stand, table, fields_in, record_at}
use Rattle.op_records.specs.declared.fault.RecordFault.TheVariants.{Cut}
use Rattle.op_records.proofs.Steps.{value_is, place_is}
use Rattle.state_snapshot.specs.Reading.{snapshot_field, snapshot_record}
use Rattle.state_snapshot.specs.declared.snapshot.Snapshot.{Snapshot}
use Rattle.log_records.specs.Logged.{Logged, fold_records}
use Rattle.log_records.specs.Beginnings.{CanBegin, logged_in}
use Rattle.log_records.specs.Damage.{IsNoFirst}
use Rattle.log_records.specs.Batches.{Adds, AddAll, Begins, Gives, closed_in}

-- ---- records

-- no record begins where the bytes end
pub none_at_end : (bytes : Bytes) → record_at bytes (length bytes) ≡ Err (Cut (length bytes))
unfolding record_at
none_at_end bytes = ap (λ (o : Option ℕ). continued bytes (λ (kind : ℕ). fields_in table (length bytes) kind) (number_told w8 (length bytes) o)) no_byte
  where
    no_byte : number_at w8 bytes (length bytes) ≡ None
    no_byte = grind (arith, nat_tests)

stand_same : (bytes : Bytes) (at : ℕ) (es fs : List Record) → Stand bytes at es (length bytes) → Stand bytes at fs (length bytes) → es ≡ fs
stand_same bytes at [] [] h k = refl
stand_same bytes at [] (f ∷ fs) h (behind, reads, rest) = let e = none_at_end bytes in let q = subst (λ (n : ℕ). record_at bytes n ≡ Ok (f, behind)) h reads in absurd (cc)
stand_same bytes at (e ∷ es) [] (behind, reads, rest) k = let n = none_at_end bytes in let q = subst (λ (n : ℕ). record_at bytes n ≡ Ok (e, behind)) k reads in absurd (cc)
stand_same bytes at (e ∷ es) (f ∷ fs) (b, reads, rest) (c, others, more) =
    let first = value_is e b f c (sym reads ∙ others) in
    let place = place_is e b f c (sym reads ∙ others) in
    ap (λ (x : Record). x ∷ es) first ∙ ap (λ (l : List Record). f ∷ l) (stand_same bytes c es fs (subst (λ (n : ℕ). Stand bytes n es (length bytes)) place rest) more)

-- ---- batches

pub begins_same : (bytes : Bytes) (d e : Logged) → Begins bytes d → Begins bytes e → d ≡ e
begins_same bytes d e h k =
    let snapshot = value_is h.snapshot (length bytes) k.snapshot (length bytes) (sym h.reads ∙ k.reads) in
    h.begun_is ∙ ap logged_in snapshot ∙ sym k.begun_is

-- no snapshot has no bytes
empty_snapshot : snapshot_field [] 0 ≡ Err (Cut 0)
unfolding snapshot_field snapshot_record
empty_snapshot = refl

pub no_snapshot : (s : Snapshot) → snapshot_field [] 0 ≡ Ok (s, 0) → ⊥
no_snapshot s reads = let none = empty_snapshot in cc

-- where a first batch begins a log, nothing is wrong in it
pub begins_well : (first : Bytes) (begun : Logged) (at : ℕ) → Begins first begun → IsNoFirst first at → ⊥
begins_well first begun at b (inl e) = no_snapshot b.snapshot (subst (λ (l : Bytes). snapshot_field l 0 ≡ Ok (b.snapshot, length l)) e.empty b.reads)
begins_well first begun at b (inr (inl w)) = let reads = b.reads in let wrong = w.wrong in absurd (cc)
begins_well first begun at b (inr (inr u)) =
    let same = value_is b.snapshot (length first) u.unfit.snapshot (length first) (sym b.reads ∙ u.unfit.reads) in
    u.unfit.bad (subst CanBegin (b.begun_is ∙ ap logged_in same) b.can)

pub adds_same : (old : Logged) (bytes : Bytes) (d e : Logged) → Adds old bytes d → Adds old bytes e → d ≡ e
adds_same old bytes d e h k =
    let records = stand_same bytes 0 h.records k.records h.stand k.stand in
    let same : Some h.made ≡ Some k.made = sym h.folded ∙ ap (λ (rs : List Record). fold_records rs (Some old)) records ∙ k.folded in
    let made : h.made ≡ k.made = cc in
    h.new_is ∙ ap closed_in made ∙ sym k.new_is

pub add_all_same : (old : Logged) (batches : List Bytes) (d e : Logged) → AddAll old batches d → AddAll old batches e → d ≡ e
add_all_same old [] d e h k = sym h ∙ k
add_all_same old (batch ∷ batches) d e (b, first, rest) (c, other, more) =
    add_all_same c batches d e (subst (λ (x : Logged). AddAll x batches d) (adds_same old batch b c first other) rest) more

pub gives_same : (batches : List Bytes) (d e : Logged) → Gives batches d → Gives batches e → d ≡ e
gives_same [] d e h k = h ∙ sym k
gives_same (first ∷ later) d e (b, begins, rest) (c, begun, more) =
    add_all_same c later d e (subst (λ (x : Logged). AddAll x later d) (begins_same first b c begins begun) rest) more
