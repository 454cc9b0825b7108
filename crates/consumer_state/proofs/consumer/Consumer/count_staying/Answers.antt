use Rattle.std.proofs.Common.{◌≡◌, ◌+◌, ◌<◌, ◌≤◌, ◌^◌, None, Some, length, ap, sym, ◌∙◌, arith}
use Rattle.std.specs.Prelude.{filter, find, nat_le}
use Rattle.js_model.specs.declared.consumer.Consumer.{Consumer}
use Rattle.js_model.specs.declared.consumer.Pending.{Pending}
use Rattle.consumer_state.specs.Before.{stays}
use Rattle.consumer_state.proofs.Filters.{no_more}
use Rattle.consumer_state.proofs.Rests.{count_none, count_on, count_past, count_starts, found_within, rest}
use Rattle.consumer_state.proofs.consumer.Consumer.count_staying.Goals as goal

pub loop-from-init : goal.loop-from-init
loop-from-init g c = count_starts (λ (p : Pending). p.seq) (stays (g.W.View.stream c.args.stream.now) c.args.self.now) c.args.self.now.cursor c.args.self.now.pending c.holds.ensures.progress.pending

pub returns-in_default : goal.returns-in_default
returns-in_default g c =
    let found : find (λ (p : Pending). nat_le c.loop-from.from p.seq) c.args.self.now.pending ≡ None =
    sym (c.waiting_from.ensures.value ∙ ap (λ (x : Consumer). find (λ (p : Pending). nat_le c.loop-from.from p.seq) x.pending) c.self.view_is) ∙ c.in_default.is in
    record { value = count_none (λ (p : Pending). p.seq) (stays (g.W.View.stream c.args.stream.now) c.args.self.now) c.args.self.now.cursor c.args.self.now.pending c.holds.ensures.progress.pending c.loop-from.count c.loop-from.from c.loop-from.invariant found }

pub overflow_add-count : goal.overflow_add-count
overflow_add-count g c =
    let found : find (λ (p : Pending). nat_le c.loop-from.from p.seq) c.args.self.now.pending ≡ Some c.in-Some.entry =
    sym (c.waiting_from.ensures.value ∙ ap (λ (x : Consumer). find (λ (p : Pending). nat_le c.loop-from.from p.seq) x.pending) c.self.view_is) ∙ c.in-Some.is in
    let more = count_on (λ (p : Pending). p.seq) (stays (g.W.View.stream c.args.stream.now) c.args.self.now) c.args.self.now.cursor c.args.self.now.pending c.holds.ensures.progress.pending c.loop-from.count c.loop-from.from c.loop-from.invariant c.in-Some.entry found c.weight-count.result c.weight-count.ensures.value in
    let sum : c.loop-from.count + c.weight-count.result + length (filter (stays (g.W.View.stream c.args.stream.now) c.args.self.now) (rest (λ (p : Pending). p.seq) (c.in-Some.entry.seq + 1) c.args.self.now.pending)) ≡ length (filter (stays (g.W.View.stream c.args.stream.now) c.args.self.now) c.args.self.now.pending) = more.sum in
    let most : length (filter (stays (g.W.View.stream c.args.stream.now) c.args.self.now) c.args.self.now.pending) ≤ length c.args.self.now.pending = no_more (stays (g.W.View.stream c.args.stream.now) c.args.self.now) c.args.self.now.pending in
    let few : length c.args.self.now.pending + length c.args.self.now.given_up < 2 ^ 32 = c.holds.ensures.progress.few_delivered in
    omega arith

pub overflow_add-from : goal.overflow_add-from
overflow_add-from g c =
    let found : find (λ (p : Pending). nat_le c.loop-from.from p.seq) c.args.self.now.pending ≡ Some c.in-Some.entry =
    sym (c.waiting_from.ensures.value ∙ ap (λ (x : Consumer). find (λ (p : Pending). nat_le c.loop-from.from p.seq) x.pending) c.self.view_is) ∙ c.in-Some.is in
    let within = found_within (λ (p : Pending). p.seq) c.args.self.now.cursor c.args.self.now.pending c.holds.ensures.progress.pending c.loop-from.from c.in-Some.entry found in
    let below : c.in-Some.entry.seq < c.args.self.now.cursor = within.1 in
    let cursor : c.cursor-cursor.result ≡ c.args.self.now.cursor = c.cursor-cursor.ensures.value ∙ ap (λ (x : Consumer). x.cursor) c.self.view_is in
    omega arith

pub loop-from-smaller : goal.loop-from-smaller
loop-from-smaller g c =
    let found : find (λ (p : Pending). nat_le c.loop-from.from p.seq) c.args.self.now.pending ≡ Some c.in-Some.entry =
    sym (c.waiting_from.ensures.value ∙ ap (λ (x : Consumer). find (λ (p : Pending). nat_le c.loop-from.from p.seq) x.pending) c.self.view_is) ∙ c.in-Some.is in
    let within = found_within (λ (p : Pending). p.seq) c.args.self.now.cursor c.args.self.now.pending c.holds.ensures.progress.pending c.loop-from.from c.in-Some.entry found in
    let from : c.loop-from.from ≤ c.in-Some.entry.seq = within.0 in
    let below : c.in-Some.entry.seq < c.args.self.now.cursor = within.1 in
    let cursor : c.cursor-cursor.result ≡ c.args.self.now.cursor = c.cursor-cursor.ensures.value ∙ ap (λ (x : Consumer). x.cursor) c.self.view_is in
    omega arith

pub loop-from-preserved : goal.loop-from-preserved
loop-from-preserved g c =
    let found : find (λ (p : Pending). nat_le c.loop-from.from p.seq) c.args.self.now.pending ≡ Some c.in-Some.entry =
    sym (c.waiting_from.ensures.value ∙ ap (λ (x : Consumer). find (λ (p : Pending). nat_le c.loop-from.from p.seq) x.pending) c.self.view_is) ∙ c.in-Some.is in
    count_on (λ (p : Pending). p.seq) (stays (g.W.View.stream c.args.stream.now) c.args.self.now) c.args.self.now.cursor c.args.self.now.pending c.holds.ensures.progress.pending c.loop-from.count c.loop-from.from c.loop-from.invariant c.in-Some.entry found c.weight-count.result c.weight-count.ensures.value

pub returns : goal.returns
returns g c =
    let cursor : c.cursor-cursor.result ≡ c.args.self.now.cursor = c.cursor-cursor.ensures.value ∙ ap (λ (x : Consumer). x.cursor) c.self.view_is in
    record { value = count_past (λ (p : Pending). p.seq) (stays (g.W.View.stream c.args.stream.now) c.args.self.now) c.args.self.now.cursor c.args.self.now.pending c.holds.ensures.progress.pending c.loop-from.count c.loop-from.from c.loop-from.invariant (omega arith) }
