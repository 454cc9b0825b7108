use Rattle.std.proofs.Common.{◌++◌, ◌∷◌, [], List, ap, sym, ◌∙◌}
use Rattle.js_base.specs.declared.out.Out.{Out}
use Rattle.consumer_state.proofs.Offers.{unpulled_is}
use Rattle.consumer_state.proofs.Steps.{beat_told, push_outs}
use Rattle.consumer_state.specs.Keeping.{kept_of}
use Rattle.consumer_state.proofs.consumer.Consumer.tell_advance.Goals as goal

pub returns-in_ok-push-clause-ok : goal.returns-in_ok-push-clause-ok
returns-in_ok-push-clause-ok c =
    c.in_ok-push.ensures.ok
    ∙ ap (λ (out : Out). c.args.outs.now ++ out ∷ []) (c.in_ok-push_beat.ensures.value ∙ beat_told (kept_of c.self.inside.name c.self.inside.made c.self.inside.config c.self.inside.progress c.self.inside.pulls c.self.inside.mark) c.args.self.now c.self.view_is c.dseq.result c.cursor.result c.dseq.ensures.value c.cursor.ensures.value)
    ∙ ap (λ (l : List Out). c.args.outs.now ++ l)
    (sym (push_outs c.args.now c.args.self.now (unpulled_is (kept_of c.self.inside.name c.self.inside.made c.self.inside.config c.self.inside.progress c.self.inside.pulls c.self.inside.mark) c.args.self.now c.self.view_is c.self.invariant.consumer.no_pulls (sym c.is_push.ensures.value ∙ c.if-not-is_push.false)) (sym c.push_comes.ensures.value ∙ c.if-push_comes.true)))
