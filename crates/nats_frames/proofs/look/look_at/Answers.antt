use Rattle.std.proofs.Common.{List, ℕ, subst, ap, ◌∙◌, arith}
use Rattle.std.specs.Prelude.{Ok, Err}
use Rattle.nats_frames.specs.Reading.{without_cr, words_at}
use Rattle.nats_frames.specs.Shapes.{Sees}
use Rattle.nats_frames.proofs.Looked.{line_broken, never_ended, not_ended}
use Rattle.nats_frames.proofs.look.look_at.Goals as goal

pub behind_line-requires : goal.behind_line-requires
behind_line-requires c =
    let words = c.without_cr.ensures ∙ ap without_cr c.split_at.ensures.front in
    let sees = subst (λ (w : List ℕ). Sees w (Ok c.in-Ok.line) (words_at w)) words c.in-Ok.ensures.sees in
    record {
      within = c.in-Some.ensures.within.0;
      short = c.in-Some.ensures.within.1;
      none = c.in-Some.ensures.scanned;
      first = c.in-Some.ensures.first;
      stands = sees.0;
      says = sees.1;
    }

pub returns-in-Err : goal.returns-in-Err
returns-in-Err c =
    let words = c.without_cr.ensures ∙ ap without_cr c.split_at.ensures.front in
    let sees = subst (λ (w : List ℕ). Sees w (Err c.in-Err.fault) (words_at w)) words c.in-Err.ensures.sees in
    let none = sees.1 in (
      line_broken c.args.bytes.now c.in-Some.end c.in-Err.fault c.in-Some.ensures.within.0 c.in-Some.ensures.within.1 c.in-Some.ensures.first sees.0,
      omega arith,
    )

pub returns-in-None : goal.returns-in-None
returns-in-None c = not_ended c.args.bytes.now c.if-bytes-lt-MOST_LINE.true c.in-None.ensures.none

pub returns-in-None-2 : goal.returns-in-None-2
returns-in-None-2 c = (never_ended c.args.bytes.now c.if-bytes-lt-MOST_LINE.false c.in-None-2.ensures.none, omega arith)
