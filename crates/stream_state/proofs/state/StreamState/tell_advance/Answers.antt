use Rattle.std.proofs.Common.{◌≡◌, ◌++◌, ℕ, List, max, ap, subst, ◌∙◌}
use Rattle.std.specs.Prelude.{OnOk}
use Rattle.std.specs.List.{flat_map}
use Rattle.js_base.specs.declared.out.Out.{Out}
use Rattle.js_model.specs.Advance.{advance_outs, consumer_outs}
use Rattle.followed_stream.specs.Followers.{Following}
use Rattle.stream_state.proofs.Paging.{told_by}
use Rattle.stream_state.proofs.state.StreamState.tell_advance.Goals as goal

pub returns : goal.returns
returns c =
    let s = c.self.inside.stream in
    let fs = c.followers.result.now in
    let at : c.later-now.result ≡ max s.moment c.args.now = c.later-now.ensures.value ∙ ap (λ k. max k c.args.now) c.moment.ensures.value in
    let told : flat_map (λ (f : Following). consumer_outs c.later-now.result f.consumer) fs ≡ advance_outs s c.args.now =
    ap (λ (n : ℕ). flat_map (λ (f : Following). consumer_outs n f.consumer) fs) at ∙ told_by s c.args.now fs c.followers.ensures.value in
    record {
      ok = rw (← c.self.view_is) (subst (λ (outs : List Out). OnOk c.tell_all.result (c.tell_all.new.outs ≡ c.args.outs.now ++ outs)) told c.tell_all.ensures.ok);
      err = c.tell_all.ensures.err;
    }
