use Rattle.std.proofs.Common.{Some, arith, subst}
use Rattle.js_base.specs.Bytes.{Bytes}
use Rattle.js_model.specs.declared.stream.Id.{Id}
use Rattle.dedup_window.specs.Known.{Sets}
use Rattle.dedup_window.specs.Mirrors.{added_of}
use Rattle.dedup_window.proofs.Mirroring.{window_more}
use Rattle.dedup_window.proofs.window.DedupWindow.put.Goals as goal

pub invariant_of-self-2 : goal.invariant_of-self-2
invariant_of-self-2 c =
    let i = c.self.inside in
    let id : Id = record { id = c.args.id.now; seq = c.args.seq; at = c.args.at } in
    let P : Bytes → Type 0 = λ here. Sets i.known c.put.new.self here (Some (added_of id)) in
    let added = subst P c.as_slice.ensures c.in_ok-put.ensures.ok in
    let absent = rw (← c.self.view_is) at c.requires.absent in
    let latest = rw (← c.self.view_is) at c.requires.latest in
    let room = rw (← c.self.view_is) at c.requires.room in
    rw (c.push_back_reserved.ensures.items, c.in_ok-reserve.ensures.items, c.in_ok-shared.ensures.cases)
    (window_more i.ids.items id i.known c.put.new.self i.bytes c.in_ok-bytes.bytes c.self.invariant absent latest room added (omega arith) (omega arith))
