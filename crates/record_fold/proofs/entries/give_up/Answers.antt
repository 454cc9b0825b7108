use Rattle.std.proofs.Common.{rules, tests, ℕ, not, List, map, ap, ◌∙◌}
use Rattle.std.specs.Prelude.{filter, fold}
use Rattle.std.proofs.lemmas.Fn.{filter_same}
use Rattle.js_base.specs.Bytes.{last_of}
use Rattle.js_model.specs.declared.consumer.Pending.{Pending}
use Rattle.js_model.specs.Advance.{placed}
use Rattle.record_fold.specs.Entries.{is_spent_by}
use Rattle.record_fold.proofs.entries.give_up.Goals as goal

pub returns : goal.returns
returns c =
    let old = c.args.consumer.now in
    let spent = is_spent_by c.args.moment old.config.max_deliver in
    let test = λ (p : Pending). not (spent p) in
    let pending = c.from_vec-2.ensures ∙ filter_same _ test _ (λ x b f' k. search (rules, tests)) _ _ c.retain.ensures.filtered ∙ ap (filter test) c.take-pending.ensures.items in
    let placed_all = c.in_ok-put_spent.ensures.ok ∙ ap (λ (l : List ℕ). fold placed l (map (λ p. p.seq) (filter spent c.as_slice.result.now))) c.take-given_up.ensures.items
    ∙ ap (λ (l : List Pending). fold placed old.given_up (map (λ p. p.seq) (filter spent l))) (c.as_slice.ensures.value ∙ c.take-pending.ensures.items) in
    let given_up = c.from_vec.ensures ∙ c.keep_last.ensures.left ∙ ap (last_of 65536) placed_all in
    record {
      ok = ap (λ (l : List Pending). record old { pending = l; given_up = c.from_vec.result }) pending
          ∙ ap (λ (l : List ℕ). record old { pending = filter test old.pending; given_up = l }) given_up;
    }
