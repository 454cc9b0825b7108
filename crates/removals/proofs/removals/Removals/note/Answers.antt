use Rattle.std.proofs.Common.{◌≡◌, ◌&&◌, not, true, cond, ap, sym, ◌∙◌, arith}
use Rattle.std.proofs.lemmas.Bool.{true≢false}
use Rattle.js_base.specs.Bytes.{is_empty}
use Rattle.js_model.specs.Events.{is_below}
use Rattle.removals.specs.Removed.{noted}
use Rattle.removals.proofs.Noting.{noted_alone}
use Rattle.removals.proofs.removals.Removals.note.Goals as goal

pub returns : goal.returns
returns c =
    let old = c.args.self.now.ranges in
    let below : is_below c.args.self.now.below c.args.seq ≡ true = sym c.is_noted.ensures.value ∙ c.if-not-is_noted.false in
    record {
      noted = record {
        ranges_are = c.begin.ensures.ranges ∙ sym (ap (λ b. cond b (noted c.args.seq c.args.joins old) old) below ∙ ap (λ b. noted c.args.seq b old) c.if-joins.false ∙ noted_alone c.args.seq old);
        below_same = c.begin.ensures.below;
        spare = let s = c.begin.ensures.spare in omega (arith, s);
        joined = λ e. absurd (true≢false (sym e ∙ ap (λ b. b && not (is_empty old)) c.if-joins.false));
      };
    }
