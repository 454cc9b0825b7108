use Rattle.std.proofs.Common.{◌≡◌, ◌<◌, ◌∙◌, ℕ, Some, IfOk, ap, length, sym, subst}
use Rattle.vol_disk.specs.Images.{IsDurable}
use Rattle.gate_log.specs.LogFile.{HasOpen}
use Rattle.gate_log.specs.LogState.{LogState, new_log}
use Rattle.gate_log.specs.Starting.{Starts}
use Rattle.stream_store.specs.Alternating.{other_file}
use Rattle.stream_store.proofs.Alternated.{durable_log, other_low, some_other_of}
use Rattle.stream_store.proofs.Alternations.{base_left, started_on}
use Rattle.stream_store.proofs.Closed.{closed_as_long}
use Rattle.stream_store.proofs.alternating.start_next.Goals as goal

pub start-requires : goal.start-requires
start-requires g c =
    let log = c.args.log.now in
    let old = g.V.Vol.disk c.args.vol.now in
    let other_is : c.other_file.result ≡ other_file log.file = c.other_file.ensures.value ∙ ap other_file c.file.ensures.value in
    record {
      long = λ told. subst (λ (n : ℕ). 21 < length (old.seen n)) (sym other_is) (c.requires.room told);
      whole = λ told.
          let f = c.requires.base told in
          let other = some_other_of log f.0 f.1 old f.2 in
          (other.0.generation, other.0.batches, subst (λ (n : ℕ). HasOpen (old.seen n) other.0.generation other.0.batches) (sym other_is) other.1);
      durable = λ told. let f = c.requires.base told in subst (IsDurable old) (sym other_is) (durable_log log f.0 f.1 old f.2 (other_file log.file) (other_low log.file));
      below = c.requires.below;
    }

pub returns-clause-log : goal.returns-clause-log
returns-clause-log g c =
    let other_is : c.other_file.result ≡ other_file c.args.log.now.file = c.other_file.ensures.value ∙ ap other_file c.file.ensures.value in
    subst (λ (n : ℕ). IfOk c.start.result (λ (next : LogState). next ≡ new_log n (Some c.args.generation))) other_is c.start.ensures.log

pub returns-clause-any_moment : goal.returns-clause-any_moment
returns-clause-any_moment g c = λ told b base is.
    let log = c.args.log.now in
    let old = g.V.Vol.disk c.args.vol.now in
    let new = g.V.Vol.disk c.start.new.vol in
    let other_is : c.other_file.result ≡ other_file log.file = c.other_file.ensures.value ∙ ap other_file c.file.ensures.value in
    base_left log b base old new is (subst (λ (n : ℕ). Starts n old new) other_is (c.start.ensures.any_moment told))

pub returns-clause-started : goal.returns-clause-started
returns-clause-started g c = λ told.
    let log = c.args.log.now in
    let old = g.V.Vol.disk c.args.vol.now in
    let new = g.V.Vol.disk c.start.new.vol in
    let other_is : c.other_file.result ≡ other_file log.file = c.other_file.ensures.value ∙ ap other_file c.file.ensures.value in
    started_on c.start.result log c.args.generation old new (subst (λ (n : ℕ). Starts n old new) other_is (c.start.ensures.any_moment told))
    (subst (λ (n : ℕ). IfOk c.start.result (λ (next : LogState). next ≡ new_log n (Some c.args.generation))) other_is c.start.ensures.log) (c.start.ensures.settled told)

pub returns-clause-elsewhere : goal.returns-clause-elsewhere
returns-clause-elsewhere g c = λ told file apart.
    let log = c.args.log.now in
    let other_is : c.other_file.result ≡ other_file log.file = c.other_file.ensures.value ∙ ap other_file c.file.ensures.value in
    (c.start.ensures.any_moment told).elsewhere file (λ is. apart (is ∙ other_is))

pub returns-clause-as_long : goal.returns-clause-as_long
returns-clause-as_long g c = λ told.
    closed_as_long c.start.result c.other_file.result (g.V.Vol.disk c.args.vol.now) (g.V.Vol.disk c.start.new.vol) (c.start.ensures.any_moment told) (c.start.ensures.as_long told)
