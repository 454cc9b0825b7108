use Rattle.std.proofs.Common.{ap, sym, ◌∙◌, arith, ◌≡◌, ◌-◌}
use Rattle.std.specs.Prelude.{sum_by}
use Rattle.std.specs.Map.{values_of}
use Rattle.js_model.specs.Streams.{size}
use Rattle.message_store.proofs.Entries.{Entries, lookup_is, removed, size_within, stored_less, sum_small}
use Rattle.message_store.proofs.store.MessageStore.remove.Goals as goal

pub overflow_cast-self : goal.overflow_cast-self
overflow_cast-self c =
    let i = c.self.inside in
    omega (arith, c.size.ensures.value, size_within c.args.seq i.messages.entries i.bytes c.in-Some.message c.self.invariant (sym c.in-Some.ensures.value), sum_small i.messages.entries i.bytes c.self.invariant)

pub overflow_sub-self : goal.overflow_sub-self
overflow_sub-self c =
    let i = c.self.inside in
    omega (arith, c.size.ensures.value, size_within c.args.seq i.messages.entries i.bytes c.in-Some.message c.self.invariant (sym c.in-Some.ensures.value))

pub invariant_of-self : goal.invariant_of-self
invariant_of-self c =
    let i = c.self.inside in
    let left = c.remove.ensures.entries in
    let within = size_within c.args.seq i.messages.entries i.bytes c.in-Some.message c.self.invariant (sym c.in-Some.ensures.value) in
    let sum : i.bytes - c.size.result ≡ sum_by size (values_of c.remove.new.self.entries) = rw left (omega (arith, c.size.ensures.value, within)) in
    rw left (stored_less c.args.seq i.messages.entries i.bytes _ c.self.invariant (rw left at c.remove.ensures.ordered) (sum ∙ ap (λ (p : Entries). sum_by size (values_of p)) left))

pub returns-in-Some-clause-value : goal.returns-in-Some-clause-value
returns-in-Some-clause-value c =
    rw (← c.self.view_is) (c.in-Some.ensures.value ∙ lookup_is c.args.seq c.self.inside.messages.entries c.self.invariant.numbered)

pub returns-in-Some-clause-left : goal.returns-in-Some-clause-left
returns-in-Some-clause-left c =
    let i = c.self.inside in
    rw (← c.self.view_is) (ap (λ (p : Entries). values_of p) c.remove.ensures.entries ∙ removed c.args.seq i.messages.entries c.self.invariant.ordered c.self.invariant.numbered)

pub returns-in-None-clause-value : goal.returns-in-None-clause-value
returns-in-None-clause-value c =
    rw (← c.self.view_is) (c.in-None.ensures.value ∙ lookup_is c.args.seq c.self.inside.messages.entries c.self.invariant.numbered)

pub returns-in-None-clause-left : goal.returns-in-None-clause-left
returns-in-None-clause-left c =
    let i = c.self.inside in
    rw (← c.self.view_is) (ap (λ (p : Entries). values_of p) c.remove.ensures.entries ∙ removed c.args.seq i.messages.entries c.self.invariant.ordered c.self.invariant.numbered)
