-- Where batches give something, none of them is wrong.
use Rattle.std.proofs.Common.{◌≡◌, inl, inr, ℕ, ◌<◌, List, [], ◌∷◌, ◌++◌, Some, None, Ok, length, refl, sym, ap, ◌∙◌, subst, arith}
use Rattle.js_base.specs.Bytes.{Bytes}
use Rattle.op_records.specs.declared.record.Record.{Record}
use Rattle.op_records.specs.Reading.{Stand, record_at}
use Rattle.op_records.proofs.Steps.{value_is, place_is}
use Rattle.durable_checks.specs.Storable.{IsStorable}
use Rattle.log_records.specs.Logged.{Logged, fold_record, fold_records}
use Rattle.log_records.specs.Batches.{Adds, AddAll, Begins, Gives}
use Rattle.log_records.specs.Damage.{IsFolded, IsMisread, IsMisfit, IsLast, HasBadRecord, IsNoFirst, IsBadFirst, IsBadLater, HasBadBatch}
use Rattle.log_records.proofs.Logging.{records_append, no_records}
use Rattle.log_records.proofs.OneReading.{none_at_end, begins_same, begins_well, add_all_same}

-- ---- records

-- the records behind the first ones
record IsRest (bytes : Bytes) (here : ℕ) (all front : List Record) : Type 0 where
  rest : List Record
  all_are : all ≡ front ++ rest
  stand : Stand bytes here rest (length bytes)

pub no_record : {A : Type 0} (bytes : Bytes) (at : ℕ) (next : Record) (behind : ℕ) → at ≡ length bytes → record_at bytes at ≡ Ok (next, behind) → A
no_record bytes at next behind e reads =
    let none = none_at_end bytes in let q = subst (λ (n : ℕ). record_at bytes n ≡ Ok (next, behind)) e reads in absurd (cc)

rest_of : (bytes : Bytes) (at here : ℕ) (all front : List Record) → Stand bytes at all (length bytes) → Stand bytes at front here → IsRest bytes here all front
rest_of bytes at here all [] h k = record { rest = all; all_are = refl; stand = subst (λ (n : ℕ). Stand bytes n all (length bytes)) k h }
rest_of bytes at here [] (f ∷ front) h (behind, reads, more) = no_record bytes at f behind h reads
rest_of bytes at here (e ∷ all) (f ∷ front) (b, reads, h) (c, others, k) =
    let first = value_is e b f c (sym reads ∙ others) in
    let place = place_is e b f c (sym reads ∙ others) in
    let r = rest_of bytes c here all front (subst (λ (n : ℕ). Stand bytes n all (length bytes)) place h) k in
    record { rest = r.rest; all_are = ap (λ (x : Record). x ∷ all) first ∙ ap (λ (l : List Record). f ∷ l) r.all_are; stand = r.stand }

module _ (old : Logged) (bytes : Bytes) (new : Logged) (adds : Adds old bytes new) where
  -- what the records behind the first ones make
  record Goes (here : ℕ) (mid : Logged) : Type 0 where
    rest : List Record
    stand : Stand bytes here rest (length bytes)
    folded : fold_records rest (Some mid) ≡ Some adds.made

  goes : (here : ℕ) (mid : Logged) → IsFolded old bytes here mid → Goes here mid
  goes here mid f =
      let r = rest_of bytes 0 here adds.records f.records adds.stand f.stand in
      record {
        rest = r.rest;
        stand = r.stand;
        folded =
            ap (fold_records r.rest) (sym f.folded) ∙ sym (records_append f.records r.rest (Some old))
            ∙ ap (λ (es : List Record). fold_records es (Some old)) (sym r.all_are) ∙ adds.folded;
      }

  not_misread : (at : ℕ) → IsMisread old bytes at → ⊥
  not_misread at m = let g = goes m.here m.mid m.so_far in go g.rest g.stand
    where
      go : (rest : List Record) → Stand bytes m.here rest (length bytes) → ⊥
      go [] e = let q : m.here < length bytes = m.more in let r : m.here ≡ length bytes = e in absurd (omega arith)
      go (f ∷ rest) (behind, reads, more) = let q = m.wrong in absurd (cc)

  not_misfit : (at : ℕ) → IsMisfit old bytes at → ⊥
  not_misfit at m = let g = goes m.here m.mid m.so_far in go g.rest g.stand g.folded
    where
      go : (rest : List Record) → Stand bytes m.here rest (length bytes) → fold_records rest (Some m.mid) ≡ Some adds.made → ⊥
      go [] e folded = no_record bytes m.here m.next m.behind e m.reads
      go (f ∷ rest) (behind, reads, more) folded =
          let first = value_is f behind m.next m.behind (sym reads ∙ m.reads) in
          let none : fold_records rest (fold_record m.mid f) ≡ None = ap (λ (e : Record). fold_records rest (fold_record m.mid e)) first ∙ ap (fold_records rest) m.unfit ∙ no_records rest in
          absurd (cc)

  -- the last record makes what all of them make
  pub last_makes : (here : ℕ) (other : Logged) → IsLast old bytes here other → other ≡ adds.made
  last_makes here other l = let g = goes here l.mid l.so_far in go g.rest g.stand g.folded
    where
      go : (rest : List Record) → Stand bytes here rest (length bytes) → fold_records rest (Some l.mid) ≡ Some adds.made → other ≡ adds.made
      go [] e folded = no_record bytes here l.next (length bytes) e l.reads
      go (f ∷ []) (behind, reads, e) folded =
          let first = value_is f behind l.next (length bytes) (sym reads ∙ l.reads) in
          let made : Some other ≡ Some adds.made = sym l.fits ∙ ap (fold_record l.mid) (sym first) ∙ folded in
          cc
      go (f ∷ (g ∷ rest)) (behind, reads, (next, others, more)) folded =
          let place = place_is f behind l.next (length bytes) (sym reads ∙ l.reads) in
          no_record bytes behind g next place others

  pub no_bad_record : (at : ℕ) → HasBadRecord old bytes at → ⊥
  no_bad_record at (inl m) = not_misread at m
  no_bad_record at (inr (inl m)) = not_misfit at m
  no_bad_record at (inr (inr u)) = u.bad (subst (λ (g : Logged). IsStorable g.durable) (sym (last_makes at u.new u.last)) (subst (λ (g : Logged). IsStorable g.durable) adds.new_is adds.storable))

-- ---- batches

-- the batches up to one, that one, and those behind it
pub record IsCut (begun : Logged) (front : List Bytes) (bytes : Bytes) (rest : List Bytes) (end : Logged) : Type 0 where
  pub before : Logged
  pub after : Logged
  pub led : AddAll begun front before
  pub adds : Adds before bytes after
  pub leads : AddAll after rest end

pub cut : (begun : Logged) (front : List Bytes) (bytes : Bytes) (rest : List Bytes) (end : Logged) → AddAll begun (front ++ bytes ∷ rest) end → IsCut begun front bytes rest end
cut begun [] bytes rest end (after, adds, leads) = record { before = begun; after = after; led = refl; adds = adds; leads = leads }
cut begun (b ∷ front) bytes rest end (mid, adds, leads) =
    let c = cut mid front bytes rest end leads in
    record { before = c.before; after = c.after; led = (mid, adds, c.led); adds = c.adds; leads = c.leads }

module _ (batches : List Bytes) (d : Logged) (gives : Gives batches d) where
  -- the batches after the first one lead to what all of them give
  later_add : (first : Bytes) (later : List Bytes) (begun : Logged) → batches ≡ first ∷ later → Begins first begun → AddAll begun later d
  later_add first later begun e begins = go (subst (λ (l : List Bytes). Gives l d) e gives)
    where
      go : (b : Logged) × Begins first b × AddAll b later d → AddAll begun later d
      go (b, other, adds) = subst (λ (x : Logged). AddAll x later d) (begins_same first b begun other begins) adds

  no_bad_first : (at : ℕ) → IsBadFirst batches at → ⊥
  no_bad_first at f = go (subst (λ (l : List Bytes). Gives l d) f.batches_are gives) f.bad
    where
      go : (b : Logged) × Begins f.first b × AddAll b f.later d → IsNoFirst f.first at → ⊥
      go (b, begins, adds) bad = begins_well f.first b at begins bad

  no_bad_later : (at : ℕ) → IsBadLater batches at → ⊥
  no_bad_later at l =
      let c = cut l.begun l.front l.bytes l.rest d (later_add l.first (l.front ++ l.bytes ∷ l.rest) l.begun l.batches_are l.begins) in
      let old : c.before ≡ l.old = add_all_same l.begun l.front c.before l.old c.led l.so_far in
      no_bad_record l.old l.bytes c.after (subst (λ (x : Logged). Adds x l.bytes c.after) old c.adds) l.place l.bad

  pub no_bad_batch : (at : ℕ) → HasBadBatch batches at → ⊥
  no_bad_batch at (inl f) = no_bad_first at f
  no_bad_batch at (inr l) = no_bad_later at l
