use Rattle.std.proofs.Common.{[], List, arith, sym, ◌∙◌, subst}
use Rattle.histories.specs.Entries.{Entry, Opening}
use Rattle.turn_lock.specs.Calls.{HasAll}
use Rattle.shared_desk.proofs.Ending.{emptied}
use Rattle.shared_desk.proofs.Unseen.{all_taken, last_of_lock, more_taken, nothing_seen, one_taken, some_seats}
use Rattle.shared_desk.proofs.dealt.Dealt.undo.Goals as goal

pub take_last-all-requires : goal.take_last-all-requires
take_last-all-requires g c =
    let some = some_seats c.args.self.lock.seats c.args.self.seats.items c.requires.all.all c.requires.all.some in
    omega (arith, some, c.args.self.seats.ok.0)

pub loop-lock-init : goal.loop-lock-init
loop-lock-init g c =
    let last = last_of_lock c.args.self.lock.lock c.args.self.seats.items c.take_last-all.new.self.items c.take_last-all.result c.take_last-all.ensures.items c.requires.all.are_of in
    record { joined = one_taken c.args.self.seats.items c.take_last-all.new.self.items c.take_last-all.result c.take_last-all.ensures.items; are_of = last.0; own = last.1 }

pub loop-lock-preserved : goal.loop-lock-preserved
loop-lock-preserved g c =
    let i = c.loop-lock.invariant in
    let last = last_of_lock c.args.self.lock.lock c.loop-lock.seats.items c.take_last.new.self.items c.take_last.result c.take_last.ensures.items i.are_of in
    record {
      joined = more_taken c.args.self.seats.items c.loop-lock.seats.items c.take_last.new.self.items c.take_last.result c.loop-lock.all c.join-all.result i.joined c.take_last.ensures.items
          c.join-all.ensures.joined;
      are_of = last.0;
      own = c.join-all.ensures.joined.lock ∙ last.1;
    }

pub close-requires-clause-all : goal.close-requires-clause-all
close-requires-clause-all g c =
    let none = emptied c.loop-lock.seats.items _ c.is_empty.result c.loop-lock.seats.ok.0 c.is_empty.ensures c.loop-lock-test.false in
    let gathers = all_taken c.args.self.seats.items c.loop-lock.seats.items c.loop-lock.all c.loop-lock.invariant.joined none in
    subst (HasAll c.args.self.lock.seats) (sym gathers.numbers) c.requires.all.all

pub returns-clause-unmade : goal.returns-clause-unmade
returns-clause-unmade g c = λ unseen.
    let none = emptied c.loop-lock.seats.items _ c.is_empty.result c.loop-lock.seats.ok.0 c.is_empty.ensures c.loop-lock-test.false in
    let gathers = all_taken c.args.self.seats.items c.loop-lock.seats.items c.loop-lock.all c.loop-lock.invariant.joined none in
    subst (λ (o : Opening). g.K.Standing.stands o [] c.close.result) c.close.ensures.opening
    (subst (λ (entries : List Entry). g.K.Standing.stands c.loop-lock.all.opening entries c.close.result)
    (nothing_seen c.args.self.seats.items c.loop-lock.all gathers c.close.ensures.whole unseen) c.close.ensures.stands)
