use Rattle.std.proofs.Common.{ℕ, arith, ap, refl, subst, sym}
use Rattle.vol_disk.specs.Images.{IsDurable}
use Rattle.stream_store.specs.Base.{IsBaseOf}
use Rattle.stream_store.specs.StoreState.{StoreState}
use Rattle.stream_store.specs.Steps.{blocks_in}
use Rattle.stream_store.proofs.Alternated.{durable_log}
use Rattle.stream_store.proofs.Committing.{log_low}
use Rattle.stream_store.proofs.Known.{more_same, rooms_moved_in, still_leaves}
use Rattle.stream_store.proofs.store.Store.top_up.Goals as goal

-- ---- there is enough

pub returns-then-of-saturating_add-clause-more : goal.returns-then-of-saturating_add-clause-more
returns-then-of-saturating_add-clause-more g c = more_same c.args.self.now.rooms

pub returns-then-of-saturating_add-clause-keeps : goal.returns-then-of-saturating_add-clause-keeps
returns-then-of-saturating_add-clause-keeps g c = λ told base is. is

pub returns-then-of-saturating_add-clause-any_moment : goal.returns-then-of-saturating_add-clause-any_moment
returns-then-of-saturating_add-clause-any_moment g c = λ told. still_leaves (g.V.Vol.disk c.args.vol.now) (g.met.V.Vol.clocked c.args.vol.now) c.args.self.now.log c.args.self.now.blocks

pub returns-then-of-saturating_add-clause-elsewhere : goal.returns-then-of-saturating_add-clause-elsewhere
returns-then-of-saturating_add-clause-elsewhere g c = λ told file high. record { seen = refl; leaves = λ bytes left. left }

-- ---- the log gets more

pub lengthen-requires : goal.lengthen-requires
lengthen-requires g c =
    let i = c.self.inside in
    let old = g.V.Vol.disk c.args.vol.now in
    record {
      low = λ told. let f = c.requires.base told in let low = log_low c.args.self.now.log c.args.self.now.blocks f.0 old f.1.of_log in omega (arith, low, c.file-file.ensures.value, ap (λ (t : StoreState). t.log.file) c.self.view_is);
      head = omega (arith, c.saturating_add-2.ensures, c.min-len.ensures);
      short = omega (arith, c.min-len.ensures);
      logs = c.self.invariant.1.1;
      durable = λ told.
          let f = c.requires.base told in
          let is : IsBaseOf i.log (blocks_in i.late) f.0 old = subst (λ (t : StoreState). IsBaseOf t.log t.blocks f.0 old) (sym c.self.view_is) f.1.of_log in
          subst (λ (n : ℕ). IsDurable old n) (sym c.file-file.ensures.value) (durable_log i.log (blocks_in i.late) f.0 old is i.log.file (log_low i.log (blocks_in i.late) f.0 old is));
    }

pub returns-in_err-lengthen-clause-any_moment : goal.returns-in_err-lengthen-clause-any_moment
returns-in_err-lengthen-clause-any_moment g c = λ told. c.lengthen.ensures.any_moment told c.args.self.now.log c.args.self.now.blocks

pub returns-in_err-lengthen-clause-elsewhere : goal.returns-in_err-lengthen-clause-elsewhere
returns-in_err-lengthen-clause-elsewhere g c = λ told file high.
    let f = c.requires.base told in
    let low = log_low c.args.self.now.log c.args.self.now.blocks f.0 (g.V.Vol.disk c.args.vol.now) f.1.of_log in
    c.lengthen.ensures.elsewhere told file (λ is. omega (arith, low, is, high, c.file-file.ensures.value, ap (λ (t : StoreState). t.log.file) c.self.view_is))

pub returns-clause-any_moment : goal.returns-clause-any_moment
returns-clause-any_moment g c = λ told. c.lengthen.ensures.any_moment told c.args.self.now.log c.args.self.now.blocks

pub returns-clause-elsewhere : goal.returns-clause-elsewhere
returns-clause-elsewhere g c = λ told file high.
    let f = c.requires.base told in
    let low = log_low c.args.self.now.log c.args.self.now.blocks f.0 (g.V.Vol.disk c.args.vol.now) f.1.of_log in
    c.lengthen.ensures.elsewhere told file (λ is. omega (arith, low, is, high, c.file-file.ensures.value, ap (λ (t : StoreState). t.log.file) c.self.view_is))

pub returns-clause-keeps : goal.returns-clause-keeps
returns-clause-keeps g c = λ told.
    let old = g.V.Vol.disk c.args.vol.now in
    let new = g.V.Vol.disk c.lengthen.new.vol in
    let i = c.self.inside in
    let viewed : StoreState = record { log = i.log; blocks = blocks_in i.late; unused = i.unused.items; rooms = i.rooms } in
    rooms_moved_in c.args.self.now viewed c.lengthen.new.rooms old new c.self.view_is (c.in_ok-lengthen.ensures.keeps told) (c.in_ok-lengthen.ensures.known told)
