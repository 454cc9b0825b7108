use Rattle.std.proofs.Common.{◌≡◌, ℕ, Option, ◌∙◌, refl, sym, subst, true, false}
use Rattle.std.specs.Prelude.{is_some}
use Rattle.workers.proofs.Asked.{a_link, has_failed, has_room, is_closed, no_memory, nobody}
use Rattle.workers.proofs.Out.{none_moved, went_out}
use Rattle.workers.specs.Doors.{Accepts, DoorTold}
use Rattle.workers.proofs.doorway.Doorway.accept.Goals as goal

pub one_less-self-inside-requires : goal.one_less-self-inside-requires
one_less-self-inside-requires g c = record { some = has_room c.self.inside.left (sym c.eq.ensures ∙ c.if-eq.false) }

pub invariant_of-self-in-Got : goal.invariant_of-self-in-Got
invariant_of-self-in-Got g c =
    let d = c.self.inside in
    let was : DoorTold = record { answered = g.R.Door.answered d.door; gave = g.R.Door.gave d.door; back = g.R.Door.back d.door; faults = g.R.Door.faults d.door } in
    let is : DoorTold = record { answered = g.R.Door.answered c.accept.new.self; gave = g.R.Door.gave c.accept.new.self; back = g.R.Door.back c.accept.new.self; faults = g.R.Door.faults c.accept.new.self } in
    let stays : is_some d.stop ≡ false = sym c.is_some.ensures ∙ c.if-is_some.false in
    let some = has_room d.left (sym c.eq.ensures ∙ c.if-eq.false) in
    let asked = a_link g.B.Beginning.accepts d.left d.stop g.B.Beginning.begun was is stays c.self.invariant.asked c.accept.ensures.cause.later some c.in-Got.ensures.answered in
    record {
      asked = subst (λ (left : Option ℕ). Accepts g.B.Beginning.accepts left d.stop g.B.Beginning.begun is) (sym c.one_less-self-inside.ensures.less) asked;
      links = went_out g.B.Beginning.limits d.worn d.starved g.B.Beginning.begun was is d.out.total c.add.new.self.total c.add.ensures.total c.in-Got.ensures.gave c.accept.ensures.back c.self.invariant.links;
    }

pub invariant_of-self-in-Quiet : goal.invariant_of-self-in-Quiet
invariant_of-self-in-Quiet g c =
    let d = c.self.inside in
    let was : DoorTold = record { answered = g.R.Door.answered d.door; gave = g.R.Door.gave d.door; back = g.R.Door.back d.door; faults = g.R.Door.faults d.door } in
    let is : DoorTold = record { answered = g.R.Door.answered c.accept.new.self; gave = g.R.Door.gave c.accept.new.self; back = g.R.Door.back c.accept.new.self; faults = g.R.Door.faults c.accept.new.self } in
    let stays : is_some d.stop ≡ false = sym c.is_some.ensures ∙ c.if-is_some.false in
    record {
      asked = nobody g.B.Beginning.accepts d.left d.stop g.B.Beginning.begun was is stays c.self.invariant.asked c.accept.ensures.cause.later c.in-Quiet.ensures.answered;
      links = none_moved g.B.Beginning.limits d.worn d.starved d.starved (λ e. e) g.B.Beginning.begun was is d.out.total c.in-Quiet.ensures.gave c.accept.ensures.back c.self.invariant.links;
    }

pub invariant_of-self-in-Closed : goal.invariant_of-self-in-Closed
invariant_of-self-in-Closed g c =
    let d = c.self.inside in
    let was : DoorTold = record { answered = g.R.Door.answered d.door; gave = g.R.Door.gave d.door; back = g.R.Door.back d.door; faults = g.R.Door.faults d.door } in
    let is : DoorTold = record { answered = g.R.Door.answered c.accept.new.self; gave = g.R.Door.gave c.accept.new.self; back = g.R.Door.back c.accept.new.self; faults = g.R.Door.faults c.accept.new.self } in
    let stays : is_some d.stop ≡ false = sym c.is_some.ensures ∙ c.if-is_some.false in
    record {
      asked = is_closed g.B.Beginning.accepts d.left d.stop g.B.Beginning.begun was is stays c.self.invariant.asked c.accept.ensures.cause.later c.in-Closed.ensures.answered;
      links = none_moved g.B.Beginning.limits d.worn d.starved d.starved (λ e. e) g.B.Beginning.begun was is d.out.total c.in-Closed.ensures.gave c.accept.ensures.back c.self.invariant.links;
    }

pub invariant_of-self-in-Failed : goal.invariant_of-self-in-Failed
invariant_of-self-in-Failed g c =
    let d = c.self.inside in
    let was : DoorTold = record { answered = g.R.Door.answered d.door; gave = g.R.Door.gave d.door; back = g.R.Door.back d.door; faults = g.R.Door.faults d.door } in
    let is : DoorTold = record { answered = g.R.Door.answered c.accept.new.self; gave = g.R.Door.gave c.accept.new.self; back = g.R.Door.back c.accept.new.self; faults = g.R.Door.faults c.accept.new.self } in
    let stays : is_some d.stop ≡ false = sym c.is_some.ensures ∙ c.if-is_some.false in
    record {
      asked = has_failed g.B.Beginning.accepts d.left d.stop g.B.Beginning.begun was is stays c.self.invariant.asked c.accept.ensures.cause.later c.in-Failed.ensures.answered (c.accept.ensures.cause.failed c.in-Failed.is);
      links = none_moved g.B.Beginning.limits d.worn d.starved d.starved (λ e. e) g.B.Beginning.begun was is d.out.total c.in-Failed.ensures.gave c.accept.ensures.back c.self.invariant.links;
    }

pub invariant_of-self-in-NoMemory : goal.invariant_of-self-in-NoMemory
invariant_of-self-in-NoMemory g c =
    let d = c.self.inside in
    let was : DoorTold = record { answered = g.R.Door.answered d.door; gave = g.R.Door.gave d.door; back = g.R.Door.back d.door; faults = g.R.Door.faults d.door } in
    let is : DoorTold = record { answered = g.R.Door.answered c.accept.new.self; gave = g.R.Door.gave c.accept.new.self; back = g.R.Door.back c.accept.new.self; faults = g.R.Door.faults c.accept.new.self } in
    let stays : is_some d.stop ≡ false = sym c.is_some.ensures ∙ c.if-is_some.false in
    record {
      asked = no_memory g.B.Beginning.accepts d.left d.stop g.B.Beginning.begun was is stays c.self.invariant.asked c.accept.ensures.cause.later c.in-NoMemory.ensures.answered;
      links = none_moved g.B.Beginning.limits d.worn d.starved true (λ e. refl) g.B.Beginning.begun was is d.out.total c.in-NoMemory.ensures.gave c.accept.ensures.back c.self.invariant.links;
    }
