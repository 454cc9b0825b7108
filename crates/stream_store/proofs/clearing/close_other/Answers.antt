use Rattle.std.proofs.Common.{◌≡◌, ◌∙◌, ℕ, None, [], ap, subst, sym}
use Rattle.vol_disk.specs.Images.{IsDurable}
use Rattle.vol_disk.specs.Moments.{Quiet}
use Rattle.gate_log.specs.LogFile.{HasOpen}
use Rattle.gate_log.specs.Starting.{Starts}
use Rattle.stream_store.specs.Alternating.{other_file}
use Rattle.stream_store.proofs.Alternated.{durable_log, other_low}
use Rattle.stream_store.proofs.Closed.{closed_as_long, closed_firm, closed_shut, shut_of}
use Rattle.stream_store.proofs.clearing.close_other.Goals as goal

pub shut-requires : goal.shut-requires
shut-requires g c =
    let log = c.args.log.now in
    let old = g.V.Vol.disk c.args.vol.now in
    let other_is : c.other_file.result ≡ other_file log.file = c.other_file.ensures.value ∙ ap other_file c.file.ensures.value in
    record { durable = λ told. let f = c.requires.base told in subst (IsDurable old) (sym other_is) (durable_log log f.0 f.1 old f.2 (other_file log.file) (other_low log.file)) }

pub returns-clause-closed : goal.returns-clause-closed
returns-clause-closed g c = λ told.
    let other_is : c.other_file.result ≡ other_file c.args.log.now.file = c.other_file.ensures.value ∙ ap other_file c.file.ensures.value in
    let f = c.requires.base told in
    closed_shut c.shut.result c.args.log.now c.other_file.result other_is (g.V.Vol.disk c.shut.new.vol) (c.shut.ensures.durable told)
    (shut_of c.shut.result c.args.log.now f.0 f.1 (g.V.Vol.disk c.args.vol.now) c.other_file.result other_is (g.V.Vol.disk c.shut.new.vol) f.2 (c.shut.ensures.shut told))

pub returns-clause-durable : goal.returns-clause-durable
returns-clause-durable g c = λ told.
    let other_is : c.other_file.result ≡ other_file c.args.log.now.file = c.other_file.ensures.value ∙ ap other_file c.file.ensures.value in
    closed_firm c.shut.result c.args.log.now c.other_file.result other_is (g.V.Vol.disk c.shut.new.vol) (c.shut.ensures.durable told)

pub returns-clause-any_moment : goal.returns-clause-any_moment
returns-clause-any_moment g c = λ told.
    let old = g.V.Vol.disk c.args.vol.now in
    let new = g.V.Vol.disk c.shut.new.vol in
    let other_is : c.other_file.result ≡ other_file c.args.log.now.file = c.other_file.ensures.value ∙ ap other_file c.file.ensures.value in
    subst (λ (n : ℕ). Starts n old new) other_is (c.shut.ensures.any_moment told)

pub returns-clause-quiet : goal.returns-clause-quiet
returns-clause-quiet g c = λ told.
    let old = g.V.Vol.disk c.args.vol.now in
    let new = g.V.Vol.disk c.shut.new.vol in
    let other_is : c.other_file.result ≡ other_file c.args.log.now.file = c.other_file.ensures.value ∙ ap other_file c.file.ensures.value in
    subst (λ (n : ℕ). HasOpen (old.seen n) None [] → Quiet old new) other_is (c.shut.ensures.quiet told)

pub returns-clause-as_long : goal.returns-clause-as_long
returns-clause-as_long g c = λ told.
    closed_as_long c.shut.result c.other_file.result (g.V.Vol.disk c.args.vol.now) (g.V.Vol.disk c.shut.new.vol) (c.shut.ensures.any_moment told) (c.shut.ensures.as_long told)
