use Rattle.std.proofs.Common.{None, arith, subst}
use Rattle.js_base.specs.Bytes.{Bytes}
use Rattle.dedup_window.specs.Known.{Sets}
use Rattle.dedup_window.proofs.Mirroring.{bytes_of_oldest, window_rest}
use Rattle.dedup_window.proofs.window.DedupWindow.pop.Goals as goal

pub invariant_of-self-2 : goal.invariant_of-self-2
invariant_of-self-2 c =
    let i = c.self.inside in
    let oldest = c.in-Some.oldest in
    let P : Bytes → Type 0 = λ here. Sets i.known c.remove.new.self here None in
    let removed = subst P c.as_slice.ensures c.remove.ensures.gone in
    let whole = bytes_of_oldest oldest i.ids.items c.pop_front.new.self.items i.known i.bytes c.in-Some.ensures.items c.self.invariant in
    window_rest oldest i.ids.items c.pop_front.new.self.items i.known c.remove.new.self i.bytes _ c.in-Some.ensures.items c.self.invariant removed (omega (arith, whole))
