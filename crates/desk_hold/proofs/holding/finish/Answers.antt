use Rattle.std.proofs.Common.{Option, refl, sym, ap, subst, ◌∙◌}
use Rattle.std.specs.Option.{option_or}
use Rattle.js_api.specs.declared.fault.DeskFault.{DeskFault}
use Rattle.js_api.specs.declared.outcome.Became.TheVariants.{Made}
use Rattle.desk_hold.specs.declared.following.Following.{Following}
use Rattle.desk_hold.specs.Outcomes.{SendsFollowed}
use Rattle.desk_hold.specs.Ports.{sending_by}
use Rattle.desk_hold.proofs.Asked.{explained_made}
use Rattle.desk_hold.proofs.holding.finish.Goals as goal

pub returns-in-Heard-clause-sends : goal.returns-in-Heard-clause-sends
returns-in-Heard-clause-sends g c =
    subst (λ (f : Following). SendsFollowed g.R.Port.routes g.R.Port.worn f c.args.step.unsaid (record { became = Made c.args.step.reply; ready = c.in-Heard.ready; fault = c.first_of.result }) c.args.outs.now c.args.port.now c.send_all-sent.new.port) (sym c.in-Heard.is)
    (sending_by c.send_all-sent.result, c.send_all-sent.ensures.sends, refl, c.first_of.ensures.value ∙ ap (λ (next : Option DeskFault). option_or c.in-Heard.fault next) c.fault_of.ensures.value)

pub returns-in-Heard-clause-explained : goal.returns-in-Heard-clause-explained
returns-in-Heard-clause-explained g c = explained_made _ _ c.args.step.reply refl

pub returns-in-Unheard-clause-explained : goal.returns-in-Unheard-clause-explained
returns-in-Unheard-clause-explained g c = tt
