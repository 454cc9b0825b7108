use Rattle.std.proofs.Common.{◌≡◌, ◌<◌, ◌≤◌, None, Some, ap, sym, ◌∙◌, arith}
use Rattle.std.specs.Prelude.{find, nat_le}
use Rattle.js_model.specs.declared.consumer.Consumer.{Consumer}
use Rattle.js_model.specs.declared.consumer.Pending.{Pending}
use Rattle.consumer_state.specs.Before.{is_again}
use Rattle.consumer_state.proofs.Rests.{found_within, search_found, search_none, search_on, search_past, search_starts}
use Rattle.consumer_state.proofs.consumer.Consumer.has_again.Goals as goal

pub loop-from-init : goal.loop-from-init
loop-from-init g c = search_starts (λ (p : Pending). p.seq) (is_again (g.W.View.stream c.args.stream.now) c.args.self.now) c.args.self.now.cursor c.args.self.now.pending c.holds.ensures.progress.pending

pub returns-in_default : goal.returns-in_default
returns-in_default g c =
    let found : find (λ (p : Pending). nat_le c.loop-from.from p.seq) c.args.self.now.pending ≡ None =
    sym (c.waiting_from.ensures.value ∙ ap (λ (x : Consumer). find (λ (p : Pending). nat_le c.loop-from.from p.seq) x.pending) c.self.view_is) ∙ c.in_default.is in
    record { value = sym (search_none (λ (p : Pending). p.seq) (is_again (g.W.View.stream c.args.stream.now) c.args.self.now) c.args.self.now.cursor c.args.self.now.pending c.holds.ensures.progress.pending c.loop-from.from c.loop-from.invariant found) }

pub returns-then-is_again : goal.returns-then-is_again
returns-then-is_again g c =
    let found : find (λ (p : Pending). nat_le c.loop-from.from p.seq) c.args.self.now.pending ≡ Some c.in-Some.entry =
    sym (c.waiting_from.ensures.value ∙ ap (λ (x : Consumer). find (λ (p : Pending). nat_le c.loop-from.from p.seq) x.pending) c.self.view_is) ∙ c.in-Some.is in
    record {
      value = sym (search_found (λ (p : Pending). p.seq) (is_again (g.W.View.stream c.args.stream.now) c.args.self.now) c.args.self.now.cursor c.args.self.now.pending c.holds.ensures.progress.pending c.loop-from.from c.loop-from.invariant c.in-Some.entry found (sym c.is_again.ensures.value ∙ c.if-is_again.true));
    }

pub overflow_add-from : goal.overflow_add-from
overflow_add-from g c =
    let found : find (λ (p : Pending). nat_le c.loop-from.from p.seq) c.args.self.now.pending ≡ Some c.in-Some.entry =
    sym (c.waiting_from.ensures.value ∙ ap (λ (x : Consumer). find (λ (p : Pending). nat_le c.loop-from.from p.seq) x.pending) c.self.view_is) ∙ c.in-Some.is in
    let within = found_within (λ (p : Pending). p.seq) c.args.self.now.cursor c.args.self.now.pending c.holds.ensures.progress.pending c.loop-from.from c.in-Some.entry found in
    let below : c.in-Some.entry.seq < c.args.self.now.cursor = within.1 in
    let cursor : c.cursor-cursor.result ≡ c.args.self.now.cursor = c.cursor-cursor.ensures.value ∙ ap (λ (x : Consumer). x.cursor) c.self.view_is in
    omega arith

pub loop-from-smaller : goal.loop-from-smaller
loop-from-smaller g c =
    let found : find (λ (p : Pending). nat_le c.loop-from.from p.seq) c.args.self.now.pending ≡ Some c.in-Some.entry =
    sym (c.waiting_from.ensures.value ∙ ap (λ (x : Consumer). find (λ (p : Pending). nat_le c.loop-from.from p.seq) x.pending) c.self.view_is) ∙ c.in-Some.is in
    let within = found_within (λ (p : Pending). p.seq) c.args.self.now.cursor c.args.self.now.pending c.holds.ensures.progress.pending c.loop-from.from c.in-Some.entry found in
    let from : c.loop-from.from ≤ c.in-Some.entry.seq = within.0 in
    let below : c.in-Some.entry.seq < c.args.self.now.cursor = within.1 in
    let cursor : c.cursor-cursor.result ≡ c.args.self.now.cursor = c.cursor-cursor.ensures.value ∙ ap (λ (x : Consumer). x.cursor) c.self.view_is in
    omega arith

pub loop-from-preserved : goal.loop-from-preserved
loop-from-preserved g c =
    let found : find (λ (p : Pending). nat_le c.loop-from.from p.seq) c.args.self.now.pending ≡ Some c.in-Some.entry =
    sym (c.waiting_from.ensures.value ∙ ap (λ (x : Consumer). find (λ (p : Pending). nat_le c.loop-from.from p.seq) x.pending) c.self.view_is) ∙ c.in-Some.is in
    search_on (λ (p : Pending). p.seq) (is_again (g.W.View.stream c.args.stream.now) c.args.self.now) c.args.self.now.cursor c.args.self.now.pending c.holds.ensures.progress.pending c.loop-from.from c.loop-from.invariant c.in-Some.entry found (sym c.is_again.ensures.value ∙ c.if-is_again.false)

pub returns : goal.returns
returns g c =
    let cursor : c.cursor-cursor.result ≡ c.args.self.now.cursor = c.cursor-cursor.ensures.value ∙ ap (λ (x : Consumer). x.cursor) c.self.view_is in
    record { value = sym (search_past (λ (p : Pending). p.seq) (is_again (g.W.View.stream c.args.stream.now) c.args.self.now) c.args.self.now.cursor c.args.self.now.pending c.holds.ensures.progress.pending c.loop-from.from c.loop-from.invariant (omega arith)) }
