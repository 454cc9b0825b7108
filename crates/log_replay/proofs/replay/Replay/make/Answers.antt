use Rattle.std.proofs.Common.{◌≡◌, ◌<◌, ◌^◌, Option, Some, sym, ap, subst, ◌∙◌, arith}
use Rattle.std.specs.Option.{option_copied_mut}
use Rattle.effects.specs.declared.durable.Durable.{Durable}
use Rattle.effects.specs.declared.effect.Effect.{Effect}
use Rattle.durable_checks.specs.Storable.{IsStorable}
use Rattle.log_replay.specs.Given.{IsGiven}
use Rattle.log_replay.specs.Taken.{IsTaken}
use Rattle.log_replay.proofs.Makings.{at_ok, begun, changed}
use Rattle.log_replay.proofs.replay.Replay.make.Goals as goal

pub returns-in-MakeStream : goal.returns-in-MakeStream
returns-in-MakeStream c =
    let m = c.in-MakeStream in
    let taken = subst (λ (e : Effect). IsTaken c.args.self.now e) m.is c.requires.taken in
    let given = subst IsGiven m.is c.requires.given in
    let small : m.made < 2 ^ 62 = omega (arith, c.as_nanos.ensures.value, c.as_nanos.ensures.bound) in
    let b = begun c.args.self.now m.incarnation m.made m.config taken given small in
    record { made = rw (m.is, c.empty.ensures.value) b.made; storable = rw c.empty.ensures.value b.storable }

pub returns-in-Some : goal.returns-in-Some
returns-in-Some c =
    let i = c.self.inside in
    let d : Durable = record { incarnation = i.incarnation; body = i.body } in
    let body = c.in-Some.body.now in
    let new = c.make.new.self in
    let is : d.body ≡ Some body = sym c.as_mut.ensures.value ∙ ap option_copied_mut c.in-Some.is in
    let storable = subst IsStorable (sym c.self.view_is) c.requires.storable in
    record {
      made = at_ok c.make.result c.make.ensures.made (λ makes. rw (← c.self.view_is) (changed d body new c.args.effect is makes storable).made);
      storable = at_ok c.make.result c.make.ensures.made (λ makes. (changed d body new c.args.effect is makes storable).storable);
    }
