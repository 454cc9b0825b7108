use Rattle.std.proofs.Common.{◌≤◌, ◌+◌, ◌++◌, ◌∙◌, ℕ, ap, length, subst, sym}
use Rattle.js_base.specs.Bytes.{Bytes}
use Rattle.js_model.specs.Streams.{seqs}
use Rattle.stream_store.specs.Alternating.{first_batch}
use Rattle.stream_store.proofs.alternating.first_records.Goals as goal

pub has_spots-requires : goal.has_spots-requires
has_spots-requires c = record { rising = c.older.ensures.table.rising }

pub write_snapshot-requires : goal.write_snapshot-requires
write_snapshot-requires c = record {
  formed = c.requires.formed;
  storable = c.requires.storable;
  spots = c.has_spots.ensures.value c.if-not-has_spots.false ∙ ap seqs c.messages_of.ensures.value;
}

pub returns-clause-fits : goal.returns-clause-fits
returns-clause-fits c =
    let spots = c.has_spots.ensures.value c.if-not-has_spots.false ∙ ap seqs c.messages_of.ensures.value in
    let within = c.requires.within c.args.table.now c.older.ensures.table spots in
    subst (λ (n : ℕ). 30 + n ≤ c.args.bound) (sym (ap (λ (l : Bytes). length l) (c.in_ok-write_snapshot.ensures.ok ∙ ap (λ (l : Bytes). l ++ first_batch c.args.next.now c.args.table.now) c.new-records.ensures.items))) within
