-- The first fault of a log's batches is one, and so is its last record.
use Rattle.std.proofs.Common.{◌≡◌, inl, inr, ℕ, suc, List, [], ◌∷◌, ◌++◌, Ok, Err, length, refl, sym, ap, ◌∙◌, subst, arith}
use Rattle.std.specs.Prelude.{All}
use Rattle.js_base.specs.Bytes.{Bytes}
use Rattle.op_records.specs.declared.record.Record.{Record}
use Rattle.op_records.specs.Reading.{Stand, record_at}
use Rattle.op_records.specs.declared.fault.RecordFault.{RecordFault}
use Rattle.state_snapshot.specs.Reading.{snapshot_field}
use Rattle.log_records.specs.Logged.{Logged}
use Rattle.log_records.specs.Batches.{Adds, AddAll, Begins, Gives}
use Rattle.log_records.specs.Damage.{IsAt, IsLast, HasBadRecord, offset, IsNoFirst, IsUnfitSnapshot, IsBadFirst, IsBadLater, HasBadBatch}
use Rattle.log_records.specs.Ends.{IsLastAt, IsLastBehind, IsLastIn}
use Rattle.log_records.specs.Laws.{LawBatches}
use Rattle.log_records.proofs.OneReading.{begins_same, begins_well, no_snapshot, adds_same, gives_same}
use Rattle.log_records.proofs.NoDamage.{no_record, no_bad_record, no_bad_batch}
use Rattle.log_records.proofs.OneDamage.{same_place, one_bad_record, one_last}

-- ---- a batch of records that all fit

pub stand_push : (bytes : Bytes) (from here end : ℕ) (es : List Record) (e : Record) → Stand bytes from es here → record_at bytes here ≡ Ok (e, end) → Stand bytes from (es ++ e ∷ []) end
stand_push bytes from here end [] e h reads = (end, subst (λ (n : ℕ). record_at bytes n ≡ Ok (e, end)) (sym h) reads, refl)
stand_push bytes from here end (f ∷ es) e (b, others, h) reads = (b, others, stand_push bytes b here end es e h reads)

none_is_last : {A : Type 0} (old : Logged) (bytes : Bytes) (here : ℕ) (new : Logged) → bytes ≡ [] → IsLast old bytes here new → A
none_is_last old bytes here new e l = go (subst (λ (b : Bytes). IsLast old b here new) e l)
  where
    at_first : {A : Type 0} (es : List Record) (found : Record) → Stand [] 0 es here → record_at [] here ≡ Ok (found, 0) → A
    at_first [] found h reads = no_record [] here found 0 (sym h) reads
    at_first (f ∷ es) found (b, others, h) reads = no_record [] 0 f b refl others

    go : {A : Type 0} → IsLast old [] here new → A
    go l = at_first l.so_far.records l.next l.so_far.stand l.reads

-- ---- two faults of one list of batches

first_of : (x y : Bytes) (xs ys : List Bytes) → x ∷ xs ≡ y ∷ ys → x ≡ y
first_of x y xs ys e = cc

rest_of : (x y : Bytes) (xs ys : List Bytes) → x ∷ xs ≡ y ∷ ys → xs ≡ ys
rest_of x y xs ys e = cc

-- where a batch is wrong no other one is, and none that is read before has a wrong record
record AreOne (front others : List Bytes) (place other : ℕ) : Type 0 where
  fronts : front ≡ others
  places : place ≡ other

both_later : (begun old new : Logged) (front others : List Bytes) (b c : Bytes) (rest more : List Bytes) (place other : ℕ) → front ++ b ∷ rest ≡ others ++ c ∷ more
    → AddAll begun front old → AddAll begun others new → HasBadRecord old b place → HasBadRecord new c other → AreOne front others place other
both_later begun old new [] [] b c rest more place other e h k bad worse =
    let same : b ≡ c = first_of b c rest more e in
    record {
      fronts = refl;
      places = one_bad_record begun b place other (subst (λ (d : Logged). HasBadRecord d b place) (sym h) bad) (subst (λ (d : Logged). HasBadRecord d b other) (sym k) (subst (λ (l : Bytes). HasBadRecord new l other) (sym same) worse));
    }
both_later begun old new [] (c ∷ others) b d rest more place other e h (mid, adds, k) bad worse =
    let same : b ≡ c = first_of b c rest (others ++ d ∷ more) e in
    absurd (no_bad_record begun b mid (subst (λ (l : Bytes). Adds begun l mid) (sym same) adds) place (subst (λ (x : Logged). HasBadRecord x b place) (sym h) bad))
both_later begun old new (c ∷ front) [] b d rest more place other e (mid, adds, h) k bad worse =
    let same : c ≡ d = first_of c d (front ++ b ∷ rest) more e in
    absurd (no_bad_record begun d mid (subst (λ (l : Bytes). Adds begun l mid) same adds) other (subst (λ (x : Logged). HasBadRecord x d other) (sym k) worse))
both_later begun old new (x ∷ front) (y ∷ others) b c rest more place other e (mid, adds, h) (end, more_adds, k) bad worse =
    let same : x ≡ y = first_of x y (front ++ b ∷ rest) (others ++ c ∷ more) e in
    let state : mid ≡ end = adds_same begun x mid end adds (subst (λ (l : Bytes). Adds begun l end) (sym same) more_adds) in
    let r = both_later end old new front others b c rest more place other (rest_of x y (front ++ b ∷ rest) (others ++ c ∷ more) e) (subst (λ (d : Logged). AddAll d front old) state h) k bad worse in
    record { fronts = ap (λ (l : Bytes). l ∷ front) same ∙ ap (λ (l : List Bytes). y ∷ l) r.fronts; places = r.places }

is_empty_in : (front : List Bytes) (b : Bytes) (more : List Bytes) → All (λ batch. batch ≡ []) (front ++ b ∷ more) → b ≡ []
is_empty_in [] b more all = all 0 b (omega arith)
is_empty_in (c ∷ front) b more all = is_empty_in front b more (λ k batch within. all (suc k) batch (omega (arith, within)))

both_end : (begun old new x y : Logged) (front others : List Bytes) (b c : Bytes) (empty more : List Bytes) (place other : ℕ) → front ++ b ∷ empty ≡ others ++ c ∷ more
    → All (λ batch. batch ≡ []) empty → All (λ batch. batch ≡ []) more
    → AddAll begun front old → AddAll begun others new → IsLast old b place x → IsLast new c other y → AreOne front others place other
both_end begun old new x y [] [] b c empty more place other e none nothing h k l m =
    let same : b ≡ c = first_of b c empty more e in
    record {
      fronts = refl;
      places = one_last begun b place other x y (subst (λ (d : Logged). IsLast d b place x) (sym h) l) (subst (λ (d : Logged). IsLast d b other y) (sym k) (subst (λ (t : Bytes). IsLast new t other y) (sym same) m));
    }
both_end begun old new x y [] (c ∷ others) b d empty more place other e none nothing h k l m =
    let rest : empty ≡ others ++ d ∷ more = rest_of b c empty (others ++ d ∷ more) e in
    none_is_last new d other y (is_empty_in others d more (subst (λ (list : List Bytes). All (λ batch. batch ≡ []) list) rest none)) m
both_end begun old new x y (c ∷ front) [] b d empty more place other e none nothing h k l m =
    let rest : front ++ b ∷ empty ≡ more = rest_of c d (front ++ b ∷ empty) more e in
    none_is_last old b place x (is_empty_in front b empty (subst (λ (list : List Bytes). All (λ batch. batch ≡ []) list) (sym rest) nothing)) l
both_end begun old new x y (b ∷ front) (c ∷ others) d f empty more place other e none nothing (mid, adds, h) (end, more_adds, k) l m =
    let same : b ≡ c = first_of b c (front ++ d ∷ empty) (others ++ f ∷ more) e in
    let state : mid ≡ end = adds_same begun b mid end adds (subst (λ (t : Bytes). Adds begun t end) (sym same) more_adds) in
    let r = both_end end old new x y front others d f empty more place other (rest_of b c (front ++ d ∷ empty) (others ++ f ∷ more) e) none nothing (subst (λ (s : Logged). AddAll s front old) state h) k l m in
    record { fronts = ap (λ (t : Bytes). t ∷ front) same ∙ ap (λ (list : List Bytes). c ∷ list) r.fronts; places = r.places }

-- ---- two faults of one log

-- an empty batch is no snapshot
not_empty : (first : Bytes) → IsUnfitSnapshot first → first ≡ [] → ⊥
not_empty first u e = no_snapshot u.snapshot (subst (λ (l : Bytes). snapshot_field l 0 ≡ Ok (u.snapshot, length l)) e u.reads)

both_first : (first : Bytes) (at other : ℕ) → IsNoFirst first at → IsNoFirst first other → at ≡ other
both_first first at other (inl e) (inl f) = e.here ∙ sym f.here
both_first first at other (inl e) (inr (inl w)) = absurd (w.some e.empty)
both_first first at other (inl e) (inr (inr u)) = absurd (not_empty first u.unfit e.empty)
both_first first at other (inr (inl w)) (inl e) = absurd (w.some e.empty)
both_first first at other (inr (inr u)) (inl e) = absurd (not_empty first u.unfit e.empty)
both_first first at other (inr (inl w)) (inr (inr u)) = let wrong = w.wrong in let reads = u.unfit.reads in absurd (cc)
both_first first at other (inr (inr u)) (inr (inl w)) = let wrong = w.wrong in let reads = u.unfit.reads in absurd (cc)
both_first first at other (inr (inr u)) (inr (inr v)) = u.here ∙ sym v.here
both_first first at other (inr (inl w)) (inr (inl v)) =
    let same : Err w.fault ≡ Err v.fault = sym w.wrong ∙ v.wrong in
    let one : w.fault ≡ v.fault = cc in
    w.here ∙ ap (offset []) (same_place v.fault w.place v.place (subst (λ (f : RecordFault). IsAt f w.place) one w.told) v.told) ∙ sym v.here

offsets_same : (first second : Bytes) (front others : List Bytes) (place other : ℕ) → first ≡ second → AreOne front others place other → offset (first ∷ front) place ≡ offset (second ∷ others) other
offsets_same first second front others place other e r =
    ap (λ (l : Bytes). offset (l ∷ front) place) e ∙ ap (λ (list : List Bytes). offset (second ∷ list) place) r.fronts ∙ ap (offset (second ∷ others)) r.places

later_later : (batches : List Bytes) (at other : ℕ) → IsBadLater batches at → IsBadLater batches other → at ≡ other
later_later batches at other l m =
    let lists : l.first ∷ (l.front ++ l.bytes ∷ l.rest) ≡ m.first ∷ (m.front ++ m.bytes ∷ m.rest) = sym l.batches_are ∙ m.batches_are in
    let same = first_of l.first m.first (l.front ++ l.bytes ∷ l.rest) (m.front ++ m.bytes ∷ m.rest) lists in
    let begun : l.begun ≡ m.begun = begins_same m.first l.begun m.begun (subst (λ (b : Bytes). Begins b l.begun) same l.begins) m.begins in
    l.here
    ∙ offsets_same l.first m.first l.front m.front l.place m.place same
    (both_later m.begun l.old m.old l.front m.front l.bytes m.bytes l.rest m.rest l.place m.place (rest_of l.first m.first (l.front ++ l.bytes ∷ l.rest) (m.front ++ m.bytes ∷ m.rest) lists)
    (subst (λ (d : Logged). AddAll d l.front l.old) begun l.so_far) m.so_far l.bad m.bad)
    ∙ sym m.here

first_first : (batches : List Bytes) (at other : ℕ) → IsBadFirst batches at → IsBadFirst batches other → at ≡ other
first_first batches at other f g =
    let same : f.first ≡ g.first = first_of f.first g.first f.later g.later (sym f.batches_are ∙ g.batches_are) in
    both_first g.first at other (subst (λ (b : Bytes). IsNoFirst b at) same f.bad) g.bad

first_begins : (batches : List Bytes) (at : ℕ) (first : Bytes) (later : List Bytes) (begun : Logged) → IsBadFirst batches at → batches ≡ first ∷ later → Begins first begun → ⊥
first_begins batches at first later begun f e b =
    let same : f.first ≡ first = first_of f.first first f.later later (sym f.batches_are ∙ e) in
    begins_well first begun at b (subst (λ (l : Bytes). IsNoFirst l at) same f.bad)

pub one_bad_batch : (batches : List Bytes) (at other : ℕ) → HasBadBatch batches at → HasBadBatch batches other → at ≡ other
one_bad_batch batches at other (inl f) (inl g) = first_first batches at other f g
one_bad_batch batches at other (inl f) (inr l) = absurd (first_begins batches at l.first _ l.begun f l.batches_are l.begins)
one_bad_batch batches at other (inr l) (inl f) = absurd (first_begins batches other l.first _ l.begun f l.batches_are l.begins)
one_bad_batch batches at other (inr l) (inr m) = later_later batches at other l m

-- ---- the last record

pub last_gives : (batches : List Bytes) (g : Logged) (at : ℕ) → IsLastIn batches g at → Gives batches g
last_gives [] g at h = h.0
last_gives (first ∷ later) g at (begun, begins, adds, last) = (begun, begins, adds)

none_and_last : {A : Type 0} (first : Bytes) (begun : Logged) (later : List Bytes) (at : ℕ) → All (λ batch. batch ≡ []) later → IsLastAt first begun later at → A
none_and_last first begun later at none l =
    none_is_last l.old l.bytes l.place l.made (is_empty_in l.before l.bytes l.empty (subst (λ (list : List Bytes). All (λ batch. batch ≡ []) list) l.later_is none)) l.last

last_last : (first : Bytes) (begun : Logged) (later : List Bytes) (at other : ℕ) → IsLastAt first begun later at → IsLastAt first begun later other → at ≡ other
last_last first begun later at other l m =
    l.here
    ∙ offsets_same first first l.before m.before l.place m.place refl
    (both_end begun l.old m.old l.made m.made l.before m.before l.bytes m.bytes l.empty m.empty l.place m.place (sym l.later_is ∙ m.later_is) l.are_empty m.are_empty l.so_far m.so_far l.last m.last)
    ∙ sym m.here

behind_same : (first : Bytes) (begun : Logged) (later : List Bytes) (at other : ℕ) → IsLastBehind first begun later at → IsLastBehind first begun later other → at ≡ other
behind_same first begun later at other (inl l) (inl m) = l.here ∙ sym m.here
behind_same first begun later at other (inl l) (inr m) = none_and_last first begun later other l.are_empty m
behind_same first begun later at other (inr l) (inl m) = none_and_last first begun later at m.are_empty l
behind_same first begun later at other (inr l) (inr m) = last_last first begun later at other l m

pub one_last_in : (batches : List Bytes) (g h : Logged) (at other : ℕ) → IsLastIn batches g at → IsLastIn batches h other → at ≡ other
one_last_in [] g h at other l m = l.1 ∙ sym m.1
one_last_in (first ∷ later) g h at other (b, begins, adds, l) (c, begun, more, m) =
    behind_same first b later at other l (subst (λ (d : Logged). IsLastBehind first d later other) (begins_same first c b begun begins) m)

pub law_batches : LawBatches
law_batches = record {
  one = gives_same;
  whole = λ batches g at gives. no_bad_batch batches g gives at;
  one_offset = one_bad_batch;
  last = last_gives;
  one_last = one_last_in;
}
