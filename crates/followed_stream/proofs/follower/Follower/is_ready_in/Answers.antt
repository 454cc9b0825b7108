use Rattle.std.proofs.Common.{◌≡◌, true, ap, sym, subst, ◌∙◌}
use Rattle.std.specs.Bool.{OnTrue}
use Rattle.consumer_state.specs.Before.{current_of, is_at}
use Rattle.consumer_state.specs.Delivering.{IsReady}
use Rattle.followed_stream.specs.Followers.{Following}
use Rattle.followed_stream.specs.Seen.{IsHeldIn}
use Rattle.followed_stream.proofs.Readying.{current_in, ready_in}
use Rattle.followed_stream.proofs.follower.Follower.is_ready_in.Goals as goal

pub is_ready-requires : goal.is_ready-requires
is_ready-requires c =
    let a = c.args.seen.now in
    let f : Following = record { consumer = c.self.inside.consumer; undelivered = c.self.inside.undelivered } in
    let held : IsHeldIn a f = subst (IsHeldIn a) (sym c.self.view_is) (subst (λ b. OnTrue b (IsHeldIn a c.args.self.now)) c.if-whole.true c.requires.whole) in
    let at : is_at a.moment f.consumer ≡ true = ap (λ n. is_at n f.consumer) c.requires.now ∙ sym c.is_at.ensures.value ∙ c.if-is_at.true in
    record { current = current_in a f held at c.holds.ensures.consumer }

pub returns-then-is_at : goal.returns-then-is_at
returns-then-is_at c =
    let a = c.args.seen.now in
    let f : Following = record { consumer = c.self.inside.consumer; undelivered = c.self.inside.undelivered } in
    let held : IsHeldIn a f = subst (IsHeldIn a) (sym c.self.view_is) (subst (λ b. OnTrue b (IsHeldIn a c.args.self.now)) c.if-whole.true c.requires.whole) in
    let at : is_at a.moment f.consumer ≡ true = ap (λ n. is_at n f.consumer) c.requires.now ∙ sym c.is_at.ensures.value ∙ c.if-is_at.true in
    record {
      value = subst (λ (g : Following). IsReady a c.args.listened (current_of a g.consumer) c.is_ready.result) c.self.view_is
          (ready_in a f held at c.law_at.ensures.law c.args.listened c.is_ready.result c.is_ready.ensures.value);
    }
