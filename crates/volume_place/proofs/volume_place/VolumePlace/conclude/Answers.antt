use Rattle.std.proofs.Common.{◌≡◌, ◌⊎◌, inl, inr, Bool, true, false, Option, ap, subst, sym, ◌∙◌}
use Rattle.std.specs.Prelude.{MatchResult}
use Rattle.place_engine.specs.Stepping.{Elapses}
use Rattle.volume_place.specs.Bringing.{Brings, Concludes}
use Rattle.volume_place.specs.Contents.{Contents}
use Rattle.volume_place.specs.Images.{holds}
use Rattle.volume_place.specs.Leaving.{IsLeftIfWorn, LogGoes}
use Rattle.volume_place.specs.Seeing.{seen_of}
use Rattle.volume_place.specs.Since.{KeepsTail}
use Rattle.volume_place.specs.Tail.{is_small}
use Rattle.volume_place.proofs.Concluded.{concluded}
use Rattle.volume_place.proofs.volume_place.VolumePlace.conclude.Goals.{else-not-urgent-via-then-not-urgent+in_ok-may_wait+else-branch, else-not-urgent-via-else-not-urgent}
use Rattle.volume_place.proofs.volume_place.VolumePlace.conclude.Goals as goal

pub returns-clause-concludes : goal.returns-clause-concludes
returns-clause-concludes g c =
    let V = g.V.Vol in
    let x = c.args.self.now in
    let same : c.else-not-urgent.self ≡ c.args.self.now = elim c.else-not-urgent.branch [
      | else-not-urgent-via-then-not-urgent+in_ok-may_wait+else-branch w ↦ w.self-is ∙ w.may_wait.ensures.same
      | else-not-urgent-via-else-not-urgent w ↦ w.self-is
    ] in
    let cause : (c.in-Some.urgent ≡ true) ⊎ (is_small x.waiting ≡ false) = elim c.else-not-urgent.branch [
      | else-not-urgent-via-then-not-urgent+in_ok-may_wait+else-branch w ↦
          inr (sym w.in_ok-may_wait.ensures.waits ∙ w.if-branch.false)
      | else-not-urgent-via-else-not-urgent w ↦ inl w.if-not-urgent.false
    ] in
    let brings = subst (λ (a : Contents _). Brings c.bring.result (seen_of V.told V.disk V.faults V.refusals a) (seen_of V.told V.disk V.faults V.refusals c.bring.new.self)) same c.bring.ensures.brings in
    subst (λ (o : Option Bool). Concludes o c.bring.result (seen_of V.told V.disk V.faults V.refusals x) (seen_of V.told V.disk V.faults V.refusals c.bring.new.self)) (sym c.in-Some.is)
    (concluded V.told V.disk V.faults V.refusals x c.in-Some.urgent c.bring.new.self c.bring.result cause brings)

pub returns-clause-tail : goal.returns-clause-tail
returns-clause-tail g c =
    let same : c.else-not-urgent.self ≡ c.args.self.now = elim c.else-not-urgent.branch [
      | else-not-urgent-via-then-not-urgent+in_ok-may_wait+else-branch w ↦ w.self-is ∙ w.may_wait.ensures.same
      | else-not-urgent-via-else-not-urgent w ↦ w.self-is
    ] in
    subst (λ (a : Contents _). KeepsTail a c.bring.new.self) same c.bring.ensures.tail

pub returns-clause-time : goal.returns-clause-time
returns-clause-time g c =
    let V = g.V.Vol in
    let same : c.else-not-urgent.self ≡ c.args.self.now = elim c.else-not-urgent.branch [
      | else-not-urgent-via-then-not-urgent+in_ok-may_wait+else-branch w ↦ w.self-is ∙ w.may_wait.ensures.same
      | else-not-urgent-via-else-not-urgent w ↦ w.self-is
    ] in
    subst (λ (a : Contents _). Elapses holds (seen_of V.told V.disk V.faults V.refusals a) (seen_of V.told V.disk V.faults V.refusals c.bring.new.self)) same c.bring.ensures.time

pub returns-clause-log : goal.returns-clause-log
returns-clause-log g c =
    let same : c.else-not-urgent.self ≡ c.args.self.now = elim c.else-not-urgent.branch [
      | else-not-urgent-via-then-not-urgent+in_ok-may_wait+else-branch w ↦ w.self-is ∙ w.may_wait.ensures.same
      | else-not-urgent-via-else-not-urgent w ↦ w.self-is
    ] in
    subst (λ (a : Contents _). MatchResult c.bring.result (λ done. LogGoes a.waiting a c.bring.new.self) (λ fault. IsLeftIfWorn fault c.bring.new.self)) same c.bring.ensures.log

pub returns-then-branch-clause-log : goal.returns-then-branch-clause-log
returns-then-branch-clause-log g c = inl (ap (λ (a : Contents _). a.store) c.may_wait.ensures.same)
