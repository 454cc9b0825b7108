use Rattle.std.proofs.Common.{ℕ, ◌+◌, ◌^◌, ◌<◌, ◌∷◌, [], All, ap, ◌∙◌, arith, length}
use Rattle.std.specs.Map.{values_of}
use Rattle.std.proofs.lemmas.List.{map-append}
use Rattle.js_model.specs.declared.stream.Message.{Message}
use Rattle.message_store.proofs.Entries.{Entries, insert_end, stored_more, sum_small}
use Rattle.message_store.proofs.store.MessageStore.push.Goals as goal

pub overflow_add-self : goal.overflow_add-self
overflow_add-self c =
    omega (arith, sum_small c.self.inside.messages.entries c.self.inside.bytes c.self.invariant, c.size-size.ensures.value, c.requires.small)

pub invariant_of-self-2 : goal.invariant_of-self-2
invariant_of-self-2 c =
    let es = c.self.inside.messages.entries in
    let m = c.args.message in
    let room : length (values_of es) + 1 < 2 ^ 32 = rw c.self.view_is c.requires.room in
    let above : All (λ (x : Message). x.seq < m.seq) (values_of es) = rw c.self.view_is c.requires.above in
    let is = c.in_ok-insert.ensures.entries ∙ insert_end m es c.self.invariant.numbered above in
    rw c.size-size.ensures.value (stored_more es _ c.self.inside.bytes m c.self.invariant c.requires.small room c.insert.ensures.ordered is)

pub returns-clause-ok : goal.returns-clause-ok
returns-clause-ok c =
    let es = c.self.inside.messages.entries in
    let m = c.args.message in
    let above : All (λ (x : Message). x.seq < m.seq) (values_of es) = rw c.self.view_is c.requires.above in
    let is = c.in_ok-insert.ensures.entries ∙ insert_end m es c.self.invariant.numbered above in
    rw (← c.self.view_is) (ap (λ (p : Entries). values_of p) is ∙ map-append (λ (e : ℕ × Message). e.1) es ((m.seq, m) ∷ []))
