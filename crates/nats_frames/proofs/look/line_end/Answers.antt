use Rattle.std.proofs.Common.{List, ℕ, ◌≡◌, ◌∙◌, ◌≤◌, length, ap, take, drop, subst, arith, Some}
use Rattle.memchr.specs.Find.{IsFirstByte, is_byte}
use Rattle.nats_frames.proofs.Scans.{end_scanned, end_split}
use Rattle.nats_frames.proofs.look.line_end.Goals as goal

-- the bytes that were searched
unseen_is : (c : goal.In_ok-at) → c.split_at-2.result.1.now ≡ drop c.args.scanned (take c.min.result c.args.bytes.now)
unseen_is c = c.split_at-2.ensures.back ∙ ap (drop c.args.scanned) c.split_at.ensures.front

found : (c : goal.In_ok-at) → IsFirstByte (is_byte 10) (drop c.args.scanned (take c.min.result c.args.bytes.now)) (Some c.in_ok-at.at)
found c = subst (λ (x : List ℕ). IsFirstByte (is_byte 10) x (Some c.in_ok-at.at)) (unseen_is c) c.in_ok-at.ensures

within : (c : goal.In_ok-at) → c.min.result ≤ length c.args.bytes.now
within c = omega (arith, c.min.ensures)

pub returns-clause-first : goal.returns-clause-first
returns-clause-first c = end_split c.args.bytes.now c.args.scanned c.min.result c.in_ok-at.at c.requires.none (within c) (found c)

pub returns-clause-scanned : goal.returns-clause-scanned
returns-clause-scanned c = end_scanned c.args.bytes.now c.args.scanned c.min.result c.in_ok-at.at c.requires.none (within c) (found c)
