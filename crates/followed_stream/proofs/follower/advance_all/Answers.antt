use Rattle.std.proofs.Common.{◌+◌, get_or, take, arith, refl, sym, ap, subst, ◌∙◌}
use Rattle.std.specs.Prelude.{All}
use Rattle.std.proofs.lemmas.Grind.{take-set_at}
use Rattle.std.proofs.lemmas.List.Elements.{All-nil, All-push}
use Rattle.std.proofs.lemmas.List.{get_or_default, take_all}
use Rattle.std.proofs.lemmas.List.Edits.{map_over_more}
use Rattle.js_model.specs.Streams.{takes}
use Rattle.followed_stream.specs.Delivering.{IsCurrentAt}
use Rattle.followed_stream.specs.Followers.{standing, Following}
use Rattle.followed_stream.specs.Spans.{spans}
use Rattle.followed_stream.proofs.Needing.{need_same_set, need_same_trans, same_need}
use Rattle.followed_stream.proofs.Spanning.{outside_first, outside_second}
use Rattle.followed_stream.proofs.follower.advance_all.Goals as goal

pub loop-follower-init : goal.loop-follower-init
loop-follower-init c = record { stand = refl; needed = λ m e. same_need m _; current = All-nil (λ (f : Following). IsCurrentAt c.args.now f.consumer) }

pub loop-follower-preserved : goal.loop-follower-preserved
loop-follower-preserved c =
    let i = c.loop-follower.follower-index in
    let fs = c.loop-follower.followers in
    let here : Following = get_or fs i c.follower-item.result in
    record {
      stand = rw c.advance.ensures.value
          (map_over_more (standing c.args.now) c.args.followers.now fs i here (omega arith) c.loop-follower.invariant.stand (get_or_default fs i c.follower-item.result here (omega arith)));
      needed = λ m e. let out = ap (λ span. spans span m.seq) c.join-loose.ensures.value in
          need_same_trans m _ _ _
          (need_same_set m fs i c.advance.new.self c.follower-item.result (omega arith) (c.advance.ensures.loose m (outside_second c.loop-follower.loose c.advance.result m.seq (sym out ∙ e))) (ap (λ (f : Following). takes f.consumer m) c.advance.ensures.value))
          (c.loop-follower.invariant.needed m (outside_first c.loop-follower.loose c.advance.result m.seq (sym out ∙ e)));
      current = subst (All (λ (f : Following). IsCurrentAt c.args.now f.consumer)) (sym (take-set_at fs i (i + 1) c.advance.new.self refl (omega arith)))
          (All-push (λ (f : Following). IsCurrentAt c.args.now f.consumer) (take i fs) c.advance.new.self c.loop-follower.invariant.current c.advance.ensures.current);
    }

pub returns-clause-current : goal.returns-clause-current
returns-clause-current c =
    subst (All (λ (f : Following). IsCurrentAt c.args.now f.consumer)) (take_all c.loop-follower.follower-index c.loop-follower.followers (omega arith)) c.loop-follower.invariant.current
