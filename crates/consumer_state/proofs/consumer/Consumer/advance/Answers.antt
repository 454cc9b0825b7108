use Rattle.std.proofs.Common.{ap, length, not, subst, sym, ◌∙◌, if◌then◌else◌}
use Rattle.std.specs.Prelude.{filter, nat_lt}
use Rattle.std.specs.List.{list_any}
use Rattle.js_model.specs.declared.consumer.Consumer.{Consumer}
use Rattle.js_model.specs.Advance as advance
use Rattle.js_model.specs.Advance.{push_comes}
use Rattle.consumer_progress.specs.GivingUp.{is_spent, with_given_up, IsUnspent}
use Rattle.consumer_progress.specs.Progresses.{Progress}
use Rattle.pull_queue.specs.Passing as pulls
use Rattle.pull_queue.specs.Queue.{Queue}
use Rattle.consumer_state.specs.Passing.{passed}
use Rattle.consumer_state.proofs.Filters.{fewer_tells}
use Rattle.consumer_state.proofs.Keeping.{kept_less, kept_pulls}
use Rattle.consumer_state.proofs.Steps.{unspent_left}
use Rattle.consumer_state.specs.Keeping.{kept_of}
use Rattle.consumer_state.proofs.consumer.Consumer.advance.Goals as goal

pub invariant_of-self : goal.invariant_of-self
invariant_of-self c =
    kept_pulls c.self.inside.name c.self.inside.made c.self.inside.config c.look_ahead.new.self c.self.inside.pulls c.self.inside.mark
    (kept_less c.self.inside.name c.self.inside.made c.self.inside.config c.self.inside.progress c.self.inside.pulls c.self.inside.mark c.self.invariant (λ p. not (is_spent c.args.now c.self.inside.config.max_deliver p)) c.look_ahead.new.self c.self.inside.mark (ap (λ p. p.pending) (c.look_ahead.ensures.same ∙ c.give_up.ensures.value)) (ap (λ p. p.dseq) (c.look_ahead.ensures.same ∙ c.give_up.ensures.value)))
    c.pass_time.new.self c.mark_at-mark.result (ap (λ q. q.max_waiting) c.pass_time.ensures.left) (λ push none. ap (λ q. q.pulls) c.pass_time.ensures.left ∙ ap (pulls.passed c.args.now) none)

pub returns-clause-value : goal.returns-clause-value
returns-clause-value c =
    ap (λ (p : Progress). kept_of c.self.inside.name c.self.inside.made c.self.inside.config p c.pass_time.new.self c.mark_at-mark.result) (c.look_ahead.ensures.same ∙ c.give_up.ensures.value)
    ∙ ap (λ (q : Queue). kept_of c.self.inside.name c.self.inside.made c.self.inside.config (with_given_up c.args.now c.self.inside.config.max_deliver c.self.inside.progress) q c.mark_at-mark.result) c.pass_time.ensures.left
    ∙ ap (λ mark. kept_of c.self.inside.name c.self.inside.made c.self.inside.config (with_given_up c.args.now c.self.inside.config.max_deliver c.self.inside.progress) (record c.self.inside.pulls { pulls = pulls.passed c.args.now c.self.inside.pulls.pulls }) mark)
    (c.mark_at-mark.ensures.value ∙ sym (ap (λ (x : Consumer). if push_comes c.args.now x then c.args.now else x.mark) c.self.view_is))
    ∙ ap (passed c.args.now) c.self.view_is

pub returns-clause-unspent : goal.returns-clause-unspent
returns-clause-unspent c =
    subst (λ (p : Progress). IsUnspent c.args.now c.self.inside.config.max_deliver p.pending) (sym (c.look_ahead.ensures.same ∙ c.give_up.ensures.value))
    (unspent_left c.args.now c.self.inside.config.max_deliver c.self.inside.progress.pending c.self.invariant.consumer.counts)

pub returns-clause-gave_up : goal.returns-clause-gave_up
returns-clause-gave_up c =
    ap (λ n. nat_lt n c.ack_pending-waited.result) (c.ack_pending.ensures.value ∙ ap (λ (p : Progress). length p.pending) (c.look_ahead.ensures.same ∙ c.give_up.ensures.value))
    ∙ ap (nat_lt (length (filter (λ p. not (is_spent c.args.now c.self.inside.config.max_deliver p)) c.self.inside.progress.pending))) c.ack_pending-waited.ensures.value
    ∙ fewer_tells (is_spent c.args.now c.self.inside.config.max_deliver) c.self.inside.progress.pending
    ∙ ap (λ (x : Consumer). list_any (advance.is_spent c.args.now x) x.pending) c.self.view_is
