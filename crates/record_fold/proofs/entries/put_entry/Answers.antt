use Rattle.std.proofs.Common.{◌≡◌, ◌≢◌, ◌<◌, ℕ, nat_le, length, get_or, set, sym, ap, subst, ◌∙◌, arith}
use Rattle.std.specs.List.{insert, position, position_or_len}
use Rattle.std.proofs.lemmas.List.{get_or_read}
use Rattle.js_model.specs.declared.consumer.Pending.{Pending}
use Rattle.record_fold.proofs.Placing.{place_is, entry_at, entry_over}
use Rattle.record_fold.proofs.entries.put_entry.Goals as goal
use Rattle.record_fold.proofs.entries.put_entry.Goals.{else-place-len-via-then-place-len+else-index-entry, else-place-len-via-else-place-len}

pub returns-then-index-entry : goal.returns-then-index-entry
returns-then-index-entry c =
    let entries = c.args.entries.now.items in
    let entry = c.args.entry in
    let k = c.unwrap_or-place.result in
    let test = λ (p : Pending). nat_le entry.seq p.seq in
    let is : k ≡ position_or_len test entries = place_is test entries c.entry_place.result k c.len.result (c.entry_place.ensures.value ∙ ap (position test) c.as_slice.ensures.value) c.unwrap_or-place.ensures (c.len.ensures ∙ c.args.entries.now.ok.0) in
    let within : k < length entries = omega (arith, c.if-place-len.true, c.len-2.ensures, c.args.entries.now.ok.0) in
    let read = ap (λ (p : Pending). p.seq) (get_or_read entries k c.index.result.now within c.index.ensures entry) in
    record { ok = ap (λ (n : ℕ). set entries n entry) is ∙ entry_over entry entries (subst (λ (n : ℕ). n < length entries) is within) (ap (λ (n : ℕ). (get_or entries n entry).seq) (sym is) ∙ sym read ∙ c.if-index-entry.true) }

pub returns : goal.returns
returns c =
    let entries = c.args.entries.now.items in
    let entry = c.args.entry in
    let k = c.unwrap_or-place.result in
    let test = λ (p : Pending). nat_le entry.seq p.seq in
    let is : k ≡ position_or_len test entries = place_is test entries c.entry_place.result k c.len.result (c.entry_place.ensures.value ∙ ap (position test) c.as_slice.ensures.value) c.unwrap_or-place.ensures (c.len.ensures ∙ c.args.entries.now.ok.0) in
    let other : position_or_len test entries < length entries → (get_or entries (position_or_len test entries) entry).seq ≢ entry.seq =
    elim c.else-place-len.branch [
      | else-place-len-via-then-place-len+else-index-entry w ↦
          λ l e. w.if-index-entry.false
          (ap (λ (p : Pending). p.seq) (get_or_read entries k w.index.result.now (subst (λ (n : ℕ). n < length entries) (sym is) l) w.index.ensures entry) ∙ ap (λ (n : ℕ). (get_or entries n entry).seq) is ∙ e)
      | else-place-len-via-else-place-len w ↦ λ l e. absurd (omega (arith, l, is, w.if-place-len.false, c.len-2.ensures, c.args.entries.now.ok.0))
    ] in
    record { ok = c.in_ok-insert.ensures.items ∙ ap (λ (n : ℕ). insert entries n entry) is ∙ entry_at entry entries other }
