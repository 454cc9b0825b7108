use Rattle.std.proofs.Common.{◌≡◌, ℕ, ◌≤◌, None, List, max, map, ap, subst, sym, ◌∙◌, arith}
use Rattle.js_model.specs.declared.stream.Stream.{Stream}
use Rattle.js_model.specs.Advance.{consumer_at, remembered, young}
use Rattle.std.specs.Prelude.{filter}
use Rattle.js_model.specs.Streams.{by_name, only}
use Rattle.js_model.specs.declared.stream.Message.{Message}
use Rattle.js_model.proofs.Parts.{young_part}
use Rattle.retention.specs.Over.{next_over}
use Rattle.followed_stream.specs.Asked.{gives_up}
use Rattle.followed_stream.specs.Delivering.{AreCurrentAt}
use Rattle.followed_stream.proofs.Going.{within_only}
use Rattle.removals.specs.Leaving.{leaving}
use Rattle.removals.specs.Removed.{Notes}
use Rattle.stream_state.specs.GivingUp.{giving_up}
use Rattle.stream_state.proofs.GivingUp.{giving_up_left}
use Rattle.stream_state.proofs.Proper.{proper_at, proper_only}
use Rattle.stream_state.proofs.Settling.{advanced, advanced_kept, trimmed}
use Rattle.stream_state.proofs.state.StreamState.advance.Goals as goal

pub pass_time-requires : goal.pass_time-requires
pass_time-requires c =
    let s = c.self.inside.stream in
    let t = c.later-now.result in
    let at : t ≡ max s.moment c.args.now = c.later-now.ensures.value ∙ ap (λ k. max k c.args.now) c.moment.ensures.value in
    let later : s.moment ≤ t = omega (arith, at) in
    record { later = rw c.drop_old.ensures.left later }

pub invariant_of-self : goal.invariant_of-self
invariant_of-self c =
    let s = c.self.inside.stream in
    let t = c.later-now.result in
    let aged : c.pass_time.new.self ≡ record (only s (young s t)) { moment = t; ids = remembered s t } = c.pass_time.ensures.left ∙ ap (λ (x : Stream). record x { moment = t; ids = remembered x t }) c.drop_old.ensures.left in
    let left = c.advance_consumers-loose.ensures.left ∙ ap (λ (x : Stream). record x { consumers = map (consumer_at t) x.consumers }) aged in
    record {
      attended = c.advance_consumers-loose.ensures.sound;
      proper = rw left (proper_at t (only s (young s t)).consumers (proper_only s (young s t) c.self.invariant.proper));
      within = rw left (within_only s (young_part s t) c.self.invariant.within);
      kept = rw c.join-self-inside.ensures.value
          (advanced_kept c.self.inside.loose c.advance_consumers-loose.result s c.advance_consumers-loose.new.self t left
          (λ m e. rw (← ap (λ (x : Stream). x.consumers) aged) (c.advance_consumers-loose.ensures.loose m e)) c.self.invariant.kept);
    }

pub returns-clause-value : goal.returns-clause-value
returns-clause-value c =
    let s = c.self.inside.stream in
    let t = c.later-now.result in
    let aged : c.pass_time.new.self ≡ record (only s (young s t)) { moment = t; ids = remembered s t } = c.pass_time.ensures.left ∙ ap (λ (x : Stream). record x { moment = t; ids = remembered x t }) c.drop_old.ensures.left in
    let left = c.advance_consumers-loose.ensures.left ∙ ap (λ (x : Stream). record x { consumers = map (consumer_at t) x.consumers }) aged in
    let at : t ≡ max s.moment c.args.now = c.later-now.ensures.value ∙ ap (λ k. max k c.args.now) c.moment.ensures.value in
    rw (← c.self.view_is) (left ∙ ap (λ k. record (only s (young s k)) { moment = k; ids = remembered s k; consumers = map (consumer_at k) (only s (young s k)).consumers }) at ∙ sym (advanced s c.args.now))

pub returns-clause-settled : goal.returns-clause-settled
returns-clause-settled c =
    let s = c.self.inside.stream in
    let t = c.later-now.result in
    let aged : c.pass_time.new.self ≡ record (only s (young s t)) { moment = t; ids = remembered s t } = c.pass_time.ensures.left ∙ ap (λ (x : Stream). record x { moment = t; ids = remembered x t }) c.drop_old.ensures.left in
    let left = c.advance_consumers-loose.ensures.left ∙ ap (λ (x : Stream). record x { consumers = map (consumer_at t) x.consumers }) aged in
    let within : next_over c.advance_consumers-loose.new.self ≡ None = rw left (within_only s (young_part s t) c.self.invariant.within) in
    trimmed c.advance_consumers-loose.new.self c.advance_consumers-loose.ensures.sound within

pub returns-clause-current : goal.returns-clause-current
returns-clause-current c =
    let at = ap (λ (x : Stream). x.moment) (c.advance_consumers-loose.ensures.left ∙ ap (λ (x : Stream). record x { consumers = map (consumer_at c.later-now.result) x.consumers }) c.pass_time.ensures.left) in
    subst (λ (now : ℕ). AreCurrentAt now c.advance_consumers-loose.new.self) (sym at) c.advance_consumers-loose.ensures.current

pub returns-clause-gone : goal.returns-clause-gone
returns-clause-gone c =
    let s = c.self.inside.stream in
    let t = c.later-now.result in
    let aged : c.pass_time.new.self ≡ record (only s (young s t)) { moment = t; ids = remembered s t } = c.pass_time.ensures.left ∙ ap (λ (x : Stream). record x { moment = t; ids = remembered x t }) c.drop_old.ensures.left in
    let left = c.advance_consumers-loose.ensures.left ∙ ap (λ (x : Stream). record x { consumers = map (consumer_at t) x.consumers }) aged in
    rw (← c.self.view_is) (subst (λ (ms : List Message). Notes c.args.gone.now (leaving c.args.gone.now.below s.messages ms) c.drop_old.new.gone) (sym (ap (λ (x : Stream). x.messages) left)) c.drop_old.ensures.gone)

pub returns-clause-names : goal.returns-clause-names
returns-clause-names c =
    let s = c.self.inside.stream in
    let t = c.later-now.result in
    let at : t ≡ max s.moment c.args.now = c.later-now.ensures.value ∙ ap (λ k. max k c.args.now) c.moment.ensures.value in
    let names : c.args.names ≡ giving_up t s.consumers = (rw (← c.self.view_is) at c.requires.names) ∙ sym (ap (λ k. giving_up k s.consumers) at) in
    rw (← c.self.view_is)
    (c.keep_giving_up-names.ensures.value
    ∙ ap (λ (x : Stream). filter (λ name. gives_up t (by_name x.consumers name)) c.args.names) c.drop_old.ensures.left
    ∙ ap (filter (λ name. gives_up t (by_name (only s (young s t)).consumers name))) names
    ∙ giving_up_left t s (young s t) c.self.invariant.attended
    ∙ ap (λ k. giving_up k (only s (young s k)).consumers) at)
