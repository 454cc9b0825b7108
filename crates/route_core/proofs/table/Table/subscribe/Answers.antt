use Rattle.std.proofs.Common.{◌∙◌, ap}
use Rattle.std.specs.List.{list_any}
use Rattle.js_model.specs.Router.{is_sub}
use Rattle.route_core.proofs.Tables.{free_name, holds_more, holds_kept, holds_same, taken_back}
use Rattle.route_core.proofs.table.Table.subscribe.Goals as goal

pub add-requires : goal.add-requires
add-requires c =
    let in' = c.self.inside in
    record {
      absent = free_name in'.subscriptions.entries in'.names in'.index in'.next c.self.invariant c.args.session c.args.sid.now
          (ap (list_any (is_sub c.args.session c.args.sid.now)) c.self.view_is ∙ c.requires.absent);
    }

pub invariant_of-self-in-Ok : goal.invariant_of-self-in-Ok
invariant_of-self-in-Ok c =
    let in' = c.self.inside in
    let free = free_name in'.subscriptions.entries in'.names in'.index in'.next c.self.invariant c.args.session c.args.sid.now
    (ap (list_any (is_sub c.args.session c.args.sid.now)) c.self.view_is ∙ c.requires.absent) in
    holds_more in'.subscriptions.entries in'.names c.add.new.self in'.index in'.next c.self.invariant c.args.session c.args.sid.now free c.in_ok-add.ensures.ok c.in_ok-sub.sub
    (ap (λ sub. sub.session) c.in_ok-sub.ensures.value) (ap (λ sub. sub.sid) c.in_ok-sub.ensures.value)
    c.enter.new.subscriptions.entries c.enter.new.index c.in-Ok.ensures.ok c.in-Ok.ensures.ordered c.in-Ok.ensures.patterns_ok

pub invariant_of-self-in-Err : goal.invariant_of-self-in-Err
invariant_of-self-in-Err c =
    let in' = c.self.inside in
    let free = free_name in'.subscriptions.entries in'.names in'.index in'.next c.self.invariant c.args.session c.args.sid.now
    (ap (list_any (is_sub c.args.session c.args.sid.now)) c.self.view_is ∙ c.requires.absent) in
    let keeps = taken_back in'.names c.add.new.self c.remove.new.self c.args.session c.args.sid.now in'.next c.remove.result free c.in_ok-add.ensures.ok c.remove.ensures.was c.remove.ensures.some in
    holds_same in'.subscriptions.entries c.enter.new.subscriptions.entries c.remove.new.self in'.index c.enter.new.index in'.next
    (holds_kept in'.subscriptions.entries in'.names in'.index in'.next c.self.invariant c.remove.new.self keeps) c.in-Err.ensures.err c.in-Err.ensures.patterns_err
