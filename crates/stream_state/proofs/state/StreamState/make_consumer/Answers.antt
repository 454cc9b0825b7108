use Rattle.std.proofs.Common.{◌≡◌, None, ap, sym, subst, ◌∙◌}
use Rattle.js_model.specs.declared.consumer.Consumer.{Consumer}
use Rattle.js_model.specs.Consumers.{making_checks, with_new}
use Rattle.js_model.specs.Retention.{kept}
use Rattle.js_model.specs.Streams.{by_name}
use Rattle.js_model.specs.Trim.{trim}
use Rattle.consumer_state.specs.declared.fault.MakeFault.TheVariants.{NoMemory}
use Rattle.stream_state.proofs.Making.{made_told, proper_made, room_left}
use Rattle.stream_state.proofs.Refusing.{refused_as}
use Rattle.stream_state.proofs.state.StreamState.make_consumer.Goals as goal

pub insert-requires-clause-proper : goal.insert-requires-clause-proper
insert-requires-clause-proper c = proper_made c.args.self.now c.args.name.now c.args.config.now _ c.in_ok-consumer.ensures.made c.requires.name c.requires.valid

pub insert-requires-clause-room : goal.insert-requires-clause-room
insert-requires-clause-room c = room_left c.args.self.now c.args.name.now c.args.config.now c.in_ok-consumer.ensures.allowed

pub insert-requires-clause-absent : goal.insert-requires-clause-absent
insert-requires-clause-absent c = subst (λ (made : Consumer). by_name c.args.self.now.consumers made.name ≡ None) (sym c.in_ok-consumer.ensures.made) c.requires.absent

pub returns-clause-made : goal.returns-clause-made
returns-clause-made c =
    let s = c.args.self.now in
    let with_one = c.in_ok-insert.ensures.ok ∙ ap (λ (made : Consumer). record s { consumers = with_new s.consumers made }) c.in_ok-consumer.ensures.made in
    c.release.ensures.value ∙ ap kept (sym c.in_ok-insert.ensures.settled ∙ ap trim with_one)

pub returns-clause-info : goal.returns-clause-info
returns-clause-info c =
    let s = c.args.self.now in
    let made = c.in_ok-consumer.ensures.made in
    let with_one = c.in_ok-insert.ensures.ok ∙ ap (λ (one : Consumer). record s { consumers = with_new s.consumers one }) made in
    let told = c.in_ok-told.ensures in
    made_told s _ _ c.args.name.now c.args.config.now c.in_ok-told.told.info c.numbers.result c.unwrap_or-told.result c.requires.absent with_one c.release.ensures.value c.numbers.ensures.value told.stream
    (told.name ∙ ap (λ (one : Consumer). one.name) made)
    (told.made ∙ ap (λ (one : Consumer). one.made) made)
    (told.config ∙ ap (λ (one : Consumer). one.config) made)
    c.unwrap_or-told.ensures

pub returns-in_err-told-clause-refused : goal.returns-in_err-told-clause-refused
returns-in_err-told-clause-refused c = refused_as (making_checks c.args.self.now c.args.name.now c.args.config.now) NoMemory _ c.from_residual-in_err-told.ensures.1 tt

pub release-requires : goal.release-requires
release-requires c = record { room = rw c.in_ok-insert.ensures.ok c.requires.room }

pub returns-clause-gone : goal.returns-clause-gone
returns-clause-gone c = rw c.in_ok-insert.ensures.ok at c.release.ensures.gone

pub returns-clause-cursor : goal.returns-clause-cursor
returns-clause-cursor c = c.in_ok-told.ensures.cursor ∙ ap (λ (made : Consumer). made.cursor) c.in_ok-consumer.ensures.made

pub returns-clause-picks : goal.returns-clause-picks
returns-clause-picks c = c.in_ok-told.ensures.picks ∙ ap (λ (made : Consumer). made.picks) c.in_ok-consumer.ensures.made

pub returns-in_err-insert-clause-refused : goal.returns-in_err-insert-clause-refused
returns-in_err-insert-clause-refused c = refused_as (making_checks c.args.self.now c.args.name.now c.args.config.now) NoMemory _ c.from_residual-in_err-insert.ensures.1 tt
