-- An alternation, from the start of the next log on.
use Rattle.std.proofs.Common.{◌≡◌, ◌<◌, ◌≤◌, ◌+◌, ◌-◌, ◌^◌, ◌↔◌, inl, min, nat_lt, unwrap_or, Bool, IsTrue, Result, Ok, Err, IfOk, OnOk, Option, Some, option_map, List, [], ℕ, sym, ap, subst, ◌∙◌, arith, lt-ltb, ltb-true}
use Rattle.std.specs.Option.{IsSomeAnd}
use Rattle.vol_disk.specs.Disk.{Disk}
use Rattle.vol_disk.specs.Does.{Rests}
use Rattle.vol_disk.specs.Moments.{LeavesOnly}
use Rattle.vol_disk.proofs.Moments.{joined, widened}
use Rattle.js_model.proofs.Named.{some_is}
use Rattle.effects.specs.declared.durable.Durable.{Durable}
use Rattle.effects.specs.declared.effect.Effect.{Effect}
use Rattle.effects.specs.Folding.{fold_all}
use Rattle.gate_log.specs.LogState.{LogState, generation_of, new_log}
use Rattle.gate_log.specs.Settled.{IsSettled}
use Rattle.gate_log.specs.Starting.{Starts}
use Rattle.block_table.specs.Blocks.{Blocks}
use Rattle.stream_store.specs.Alternating.{IsLong, IsWorn, begun_next, longest, other_file}
use Rattle.stream_store.specs.Base.{IsBaseOf, KeepsBaseOf, LeavesBaseOf}
use Rattle.stream_store.specs.Committing.{EmptiesUnused, IsNextBatch}
use Rattle.stream_store.specs.Holding.{Holds}
use Rattle.stream_store.specs.Staging.{IsStagedFirst}
use Rattle.stream_store.specs.StoreState.{StoreState}
use Rattle.stream_store.specs.Writing.{IsStagedFor, IsStagedNext}
use Rattle.stream_store.specs.declared.staging.Staged.{Staged}
use Rattle.stream_store.proofs.Alternated.{other_low, started_base, starting_keeps}
use Rattle.stream_store.proofs.Committing.{OneOfBoth}
use Rattle.stream_store.proofs.OneReading.{holds_same}
use Rattle.stream_store.proofs.StagedNext.{some_in}
use Rattle.stream_store.proofs.Unused.{rests_after}

-- the changes lead to one thing
pub same_next : (log : LogState) (b : Blocks) (old : Disk) (effects : List Effect) (base other next there : Durable) → IsBaseOf log b base old → IsBaseOf log b other old → IsNextBatch base effects next → IsNextBatch other effects there
    → next ≡ there
same_next log b old effects base other next there is too n m =
    let same : base ≡ other = holds_same old.seen base other (b, is.holds) (b, too.holds) in
    some_is (sym n.folded ∙ ap (λ (d : Durable). fold_all effects (Some d)) same ∙ m.folded)

-- the log that was started is the next one
pub begun_is : (log into : LogState) (generation : ℕ) → into ≡ new_log (other_file log.file) (Some (generation + 1)) → log.head ≡ Some generation → into ≡ begun_next log
begun_is log into generation is head = is ∙ ap (λ (o : Option ℕ). new_log (other_file log.file) (option_map (λ x. x + 1) o)) (sym head)

-- what is staged, for the log that was started
pub staged_next : (log : LogState) (b : Blocks) (base next : Durable) (effects : List Effect) (there : Durable) (staged : Staged) (into : LogState) (generation : ℕ) (started : Disk) → IsBaseOf log b base started
    → IsNextBatch base effects next → next ≡ there → IsStagedFirst b effects there staged → into ≡ new_log (other_file log.file) (Some (generation + 1)) → log.head ≡ Some generation → IsSettled into [] started
    → IsStagedNext log b base next staged into started
staged_next log b base next effects there staged into generation started is is_next same s into_is head empty = record {
  effects = effects;
  base_is = is;
  next_is = is_next;
  staged_is = subst (λ (d : Durable). IsStagedFirst b effects d staged) (sym same) s;
  into_is = begun_is log into generation into_is head;
  empty = empty;
}

module _ (log : LogState) (b : Blocks) (base next : Durable) (old started : Disk) (is : IsBaseOf log b base old) (keeps : LeavesBaseOf log b old started) where
  pub start_leaves : LeavesOnly old started (OneOfBoth base next)
  start_leaves = widened old started (OneOfBoth base next) (λ image. Holds image base) (keeps base is) (λ image h. inl h)

  pub behind_start : (new : Disk) → LeavesOnly started new (OneOfBoth base next) → LeavesOnly old new (OneOfBoth base next)
  behind_start new leaves = joined old started new (OneOfBoth base next) (OneOfBoth base next) start_leaves leaves (λ image h. h)

-- what was started is no block
pub empties_behind : (store after : StoreState) (effects : List Effect) (old started new : Disk) → ((file : ℕ) → 2 ≤ file → Rests file old started) → EmptiesUnused store after effects started new → EmptiesUnused store after effects old new
empties_behind store after effects old started new rests e = record {
  emptied = e.emptied;
  late = e.late;
  elsewhere = λ file high none kept. rests_after file old started new (rests file high) (e.elsewhere file high none kept);
}

-- ---- the next log is started

module _ (log : LogState) (b : Blocks) (base : Durable) (old mid : Disk) (k : IsBaseOf log b base old) (s : Starts (other_file log.file) old mid) where
  pub base_left : LeavesOnly old mid (λ image. Holds image base)
  base_left = let begun = some_in (generation_of log) k.begun in starting_keeps log b base old k begun.0 begun.1 mid s

  pub base_kept : (next : LogState) (generation : ℕ) → next ≡ new_log (other_file log.file) (Some generation) → IsSettled next [] mid → IsBaseOf log b base mid
  base_kept next generation is settled = let begun = some_in (generation_of log) k.begun in started_base log b base old k begun.0 begun.1 mid s next generation is settled

pub started_on : {E : Type 0} (r : Result LogState E) (log : LogState) (generation : ℕ) (old mid : Disk) → Starts (other_file log.file) old mid → IfOk r (λ next. next ≡ new_log (other_file log.file) (Some generation))
    → IfOk r (λ next. IsSettled next [] mid) → OnOk r ((b : Blocks) → KeepsBaseOf log b old mid)
started_on (Ok next) log generation old mid s is settled = λ b base k. base_kept log b base old mid k s next generation is settled
started_on (Err fault) log generation old mid s is settled = tt

-- ---- its file

pub into_low : (into : LogState) (staged : Staged) (disk : Disk) → IsStagedFor into staged disk → into.file < 2
into_low into staged disk (log, b, base, next, t) = subst (λ (n : ℕ). n < 2) (sym (ap (λ (l : LogState). l.file) t.into_is)) (other_low log.file)

-- ---- generations

-- that of the log in its head, 0 if it has none, does not fall where the log stays, or where another one has the next generation
pub generation_kept : (old new : LogState) → new ≡ old → unwrap_or old.head 0 ≤ unwrap_or new.head 0
generation_kept old new same = subst (λ (l : LogState). unwrap_or l.head 0 ≤ unwrap_or new.head 0) same (omega arith)

pub generation_next : (old new : LogState) (generation : ℕ) → old.head ≡ Some generation → new.head ≡ Some (generation + 1) → unwrap_or old.head 0 ≤ unwrap_or new.head 0
generation_next old new generation was is =
    let next : generation ≤ generation + 1 = omega arith in
    subst (λ (o : Option ℕ). unwrap_or o 0 ≤ unwrap_or new.head 0) (sym was) (subst (λ (o : Option ℕ). generation ≤ unwrap_or o 0) (sym is) next)

pub is_worn : (log : LogState) (generation : ℕ) → log.head ≡ Some generation → 2 ^ 62 ≤ generation + 1 → IsWorn log
is_worn log generation head last = subst (λ (o : Option ℕ). IsSomeAnd o (λ g. 2 ^ 62 ≤ g + 1)) (sym head) last

pub not_worn : (log : LogState) (generation : ℕ) → log.head ≡ Some generation → generation + 1 < 2 ^ 62 → IsWorn log → ⊥
not_worn log generation head low worn =
    let last : 2 ^ 62 ≤ generation + 1 = subst (λ (o : Option ℕ). IsSomeAnd o (λ g. 2 ^ 62 ≤ g + 1)) head worn in
    omega (arith, last, low)

-- ---- results that are handed on

pub always_ok : {T E A : Type 0} (r : Result T E) → A → OnOk r A
always_ok (Ok value) a = a
always_ok (Err fault) a = tt

-- ---- long logs

pub passes_is : (end count len sum : ℕ) → len ≤ 2 ^ 31 → sum ≡ min (min (end + 10) (2 ^ 64 - 1) + count) (2 ^ 64 - 1) → IsTrue (nat_lt len sum) ↔ (len < end + 10 + count)
passes_is end count len sum small is = (λ passes. let lt = ltb-true len sum passes in omega (arith, lt, is), λ lt. lt-ltb len sum (omega (arith, lt, is, small)))

pub not_last : (log : LogState) (generation : ℕ) → log.head ≡ Some generation → ¬ IsWorn log → generation + 1 < 2 ^ 62
not_last log generation head fresh =
    let refused : ¬ (2 ^ 62 ≤ generation + 1) = λ le. fresh (is_worn log generation head le) in
    omega (arith, refused)

pub long_is : (log : LogState) (count bound end most : ℕ) (passes : Bool) → log.first_end < log.end → end ≡ log.end → most ≡ longest bound → (IsTrue passes ↔ (most < end + 10 + count)) → IsTrue passes ↔ IsLong log count bound
long_is log count bound end most passes later end_is most_is value = (
  λ is. let long = value.0 is in record { later = later; long = omega (arith, long, end_is, most_is) },
  λ long. let more = long.long in value.1 (omega (arith, more, end_is, most_is)),
)
