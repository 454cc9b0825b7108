use Rattle.std.proofs.Common.{List, ℕ, ◌≡◌, Option, Some, None, refl, ◌∙◌, subst, arith}
use Rattle.nats_frames.specs.declared.look.Ending.TheVariants as endings
use Rattle.nats_frames.specs.Looking.{Ends}
use Rattle.nats_frames.proofs.Looked.{alone_looks, big_looks, whole_looks, partial_looks, wrong_looks}
use Rattle.nats_frames.proofs.look.behind_line.Goals as goal

none_is : (o : Option ℕ) → ((size : ℕ) → o ≡ Some size → ⊥) → None ≡ o
none_is None h = refl
none_is (Some size) h = absurd (h size refl)

pub returns-in_default : goal.returns-in_default
returns-in_default c =
    alone_looks c.args.bytes.now c.args.end c.args.line c.requires (λ words. none_is c.counted.result (λ size. c.in_default.not-Some size) ∙ c.counted.ensures words)

pub returns-then-size-gt-MOST_PAYLOAD : goal.returns-then-size-gt-MOST_PAYLOAD
returns-then-size-gt-MOST_PAYLOAD c = (big_looks c.args.bytes.now c.args.end c.in-Some.size c.args.line c.requires c.in-Some.ensures c.if-size-gt-MOST_PAYLOAD.true, omega arith)

pub returns-in-Whole : goal.returns-in-Whole
returns-in-Whole c =
    let ends = subst (λ (b : List ℕ). Ends c.in-Some.size b endings.Whole) c.split_at.ensures.back c.in-Whole.ensures.ends in
    whole_looks c.args.bytes.now c.args.end c.in-Some.size c.args.line c.requires c.in-Some.ensures c.if-size-gt-MOST_PAYLOAD.false ends

pub returns-in-Partial : goal.returns-in-Partial
returns-in-Partial c =
    let ends = subst (λ (b : List ℕ). Ends c.in-Some.size b (endings.Partial c.in-Partial.quiet)) c.split_at.ensures.back c.in-Partial.ensures.ends in
    partial_looks c.args.bytes.now c.args.end c.in-Some.size c.in-Partial.quiet c.args.line c.requires c.in-Some.ensures c.if-size-gt-MOST_PAYLOAD.false ends

pub returns-in-Wrong : goal.returns-in-Wrong
returns-in-Wrong c =
    let ends = subst (λ (b : List ℕ). Ends c.in-Some.size b (endings.Wrong c.in-Wrong.place)) c.split_at.ensures.back c.in-Wrong.ensures.ends in
    wrong_looks c.args.bytes.now c.args.end c.in-Some.size c.in-Wrong.place c.args.line c.requires c.in-Some.ensures c.if-size-gt-MOST_PAYLOAD.false ends
