use Rattle.std.proofs.Common.{refl, subst}
use Rattle.nats_frames.specs.Looking.{IsScanned}
use Rattle.nats_frames.proofs.Looked.{goes_on}
use Rattle.nats_frames.proofs.front.Front.push_byte.Goals as goal

pub invariant_of-self-then-is_in_line : goal.invariant_of-self-then-is_in_line
invariant_of-self-then-is_in_line c =
    let bytes = c.self.inside.bytes.items in
    let scanned = subst (IsScanned bytes) c.if-self-len.true c.self.invariant.0 in
    let went = goes_on bytes c.put_u8.new.self.items c.args.byte c.len-len.result c.len-len.ensures.value c.in-Ok.ensures.ok scanned
    (c.if-is_in_line.ensures.short refl) (c.if-is_in_line.ensures.other refl) in
    (went.1, went.2)
