-- The records that raise nothing: those of passing time, of what leaves a stream's messages, and of deliveries.
use Rattle.std.proofs.Common.{ℕ, Bool, true, false, cond, List, [], ◌∷◌, ◌++◌, map, refl, ◌∙◌, Option, Some, None}
use Rattle.std.specs.Prelude.{max, filter, not, ◌==◌, ◌&&◌}
use Rattle.std.specs.List.{list_any, flat_map}
use Rattle.std.proofs.lemmas.Bool.{or_from}
use Rattle.std.proofs.lemmas.List.Folds.{list_any-append}
use Rattle.js_base.specs.Bytes.{has}
use Rattle.js_model.specs.declared.ack.AckKind.{AckKind}
use Rattle.js_model.specs.declared.ack.AckKind.TheVariants.{Ack as Acknowledge, Nak, Wpi, Next, Term}
use Rattle.js_model.specs.declared.consumer.Consumer.{Consumer}
use Rattle.js_model.specs.declared.entry.Delivered.{Delivered}
use Rattle.js_model.specs.declared.entry.Delivered.TheVariants.{Sent, TooSmall, Emptied}
use Rattle.js_model.specs.declared.entry.Delivery.{Delivery}
use Rattle.js_model.specs.declared.stream.Message.{Message}
use Rattle.js_model.specs.declared.stream.Stream.{Stream}
use Rattle.js_model.specs.declared.stream.State.{State}
use Rattle.js_model.specs.declared.stream.State.TheVariants.{Vacant, Live}
use Rattle.js_model.specs.Acknowledge.{ends, is_no_delivery}
use Rattle.js_model.specs.Advance.{advance, aged, is_spent, young}
use Rattle.js_model.specs.Retention.{kept}
use Rattle.js_model.specs.Runs.{messages_of}
use Rattle.js_model.specs.Streams.{by_name, seqs}
use Rattle.js_model.specs.Trim.{trim, trim_subjects, trim_count}
use Rattle.effects.specs.declared.effect.Effect.{Effect}
use Rattle.effects.specs.declared.effect.Effect.TheVariants.{GivenUp, Now, Acked, Due}
use Rattle.effects.specs.Effects.{ack_effects, acknowledged_effects, changes_due, delete_effects, delivery_effects, drop_effects, due_effects, ended_effects, ends_some, purge_effects, sent_effects, settle_effects}
use Rattle.effects.specs.Ranges.{Range, ranges}
use Rattle.effects.specs.TimeEffects.{effects_at, given_up_effects, has_spent_ids, now_effects, removals, remove_of, time_effects}
use Rattle.snapshot_bound.specs.Growth.{is_growing, AreQuiet}

pub quiet_both : (xs ys : List Effect) → AreQuiet xs → AreQuiet ys → AreQuiet (xs ++ ys)
quiet_both xs ys p q = list_any-append is_growing xs ys ∙ or_from (list_any is_growing xs) (list_any is_growing ys) p q

-- ---- passing time, and what leaves

quiet_removes : (rs : List Range) → AreQuiet (map remove_of rs)
quiet_removes [] = refl
quiet_removes (r ∷ rs) = quiet_removes rs

pub quiet_removals : (skipped : List ℕ) (before after : List Message) → AreQuiet (removals skipped before after)
quiet_removals skipped before after = quiet_removes (ranges (λ n. not (has (seqs after) n)) (filter (λ n. not (has skipped n)) (seqs before)))

quiet_now : (s : Stream) (moment : ℕ) → AreQuiet (now_effects s moment)
quiet_now s moment = go ((s.moment == moment) && not (has_spent_ids s moment))
  where
    go : (b : Bool) → AreQuiet (cond b [] (Now moment ∷ []))
    go true = refl
    go false = refl

quiet_given_up : (moment : ℕ) (c : Consumer) → AreQuiet (given_up_effects moment c)
quiet_given_up moment c = go (list_any (is_spent moment c) c.pending)
  where
    go : (b : Bool) → AreQuiet (cond b (GivenUp c.name moment ∷ []) [])
    go true = refl
    go false = refl

quiet_given_up_all : (moment : ℕ) (cs : List Consumer) → AreQuiet (flat_map (given_up_effects moment) cs)
quiet_given_up_all moment [] = refl
quiet_given_up_all moment (c ∷ cs) = quiet_both (given_up_effects moment c) (flat_map (given_up_effects moment) cs) (quiet_given_up moment c) (quiet_given_up_all moment cs)

quiet_at : (s : Stream) (moment : ℕ) → AreQuiet (effects_at s moment)
quiet_at s moment =
    let leaving = removals [] s.messages (young s moment) in
    let given_up = flat_map (given_up_effects moment) (aged s moment).consumers in
    quiet_both (now_effects s moment) (leaving ++ given_up) (quiet_now s moment)
    (quiet_both leaving given_up (quiet_removals [] s.messages (young s moment)) (quiet_given_up_all moment (aged s moment).consumers))

pub quiet_time : (s : Stream) (now : ℕ) → AreQuiet (time_effects s now)
quiet_time s now = quiet_at s (max s.moment now)

pub quiet_settled : (skipped : List ℕ) (state : State) → AreQuiet (settle_effects skipped state)
quiet_settled skipped (Vacant i) = refl
quiet_settled skipped (Live s) =
    let first = removals skipped s.messages (trim_subjects s).messages in
    let second = removals skipped (trim_subjects s).messages (trim_count (trim_subjects s)).messages in
    let third = removals skipped (trim_count (trim_subjects s)).messages (trim s).messages in
    let fourth = removals skipped (trim s).messages (kept (trim s)).messages in
    quiet_both first (second ++ (third ++ fourth)) (quiet_removals skipped s.messages (trim_subjects s).messages)
    (quiet_both second (third ++ fourth) (quiet_removals skipped (trim_subjects s).messages (trim_count (trim_subjects s)).messages)
    (quiet_both third fourth (quiet_removals skipped (trim_count (trim_subjects s)).messages (trim s).messages) (quiet_removals skipped (trim s).messages (kept (trim s)).messages)))

-- ---- events that only take away

pub quiet_purged : (s : Stream) (gone : List Message) → AreQuiet (purge_effects s gone)
quiet_purged s gone = quiet_removals [] s.messages _

pub quiet_deleted : (s : Stream) (found : Option Message) → AreQuiet (delete_effects s found)
quiet_deleted s None = refl
quiet_deleted s (Some m) = quiet_purged s (m ∷ [])

pub quiet_dropped : (found : Option Consumer) → AreQuiet (drop_effects found)
quiet_dropped None = refl
quiet_dropped (Some c) = refl

quiet_ended : (ended : ℕ → Bool) (low high : ℕ) (c : Consumer) → AreQuiet (ended_effects ended low high c)
quiet_ended ended low high c = go (ends_some ended c)
  where
    go : (b : Bool) → AreQuiet (cond b (Acked c.name low high ∷ []) [])
    go true = refl
    go false = refl

quiet_due : (n due : ℕ) (c : Consumer) → AreQuiet (due_effects n due c)
quiet_due n due c = go (changes_due n due c)
  where
    go : (b : Bool) → AreQuiet (cond b (Due c.name n due ∷ []) [])
    go true = refl
    go false = refl

quiet_acknowledged : (now n : ℕ) (kind : AckKind) (c : Consumer) → AreQuiet (acknowledged_effects now n kind c)
quiet_acknowledged now n Acknowledge c = quiet_ended (ends c.config.ack_policy n) _ n c
quiet_acknowledged now n (Nak delay) c = quiet_due n _ c
quiet_acknowledged now n Wpi c = quiet_due n _ c
quiet_acknowledged now n (Next ask) c = quiet_ended (ends c.config.ack_policy n) _ n c
quiet_acknowledged now n Term c = quiet_ended (λ m. m == n) n n c

pub quiet_acked : (s : Stream) (n : ℕ) (kind : AckKind) (found : Option Consumer) → AreQuiet (ack_effects s n kind found)
quiet_acked s n kind None = refl
quiet_acked s n kind (Some c) = go (is_no_delivery c n)
  where
    go : (b : Bool) → AreQuiet (cond b [] (acknowledged_effects s.moment n kind c))
    go true = refl
    go false = quiet_acknowledged s.moment n kind c

-- ---- deliveries

quiet_sent : (s : Stream) (d : Delivered) (found : Option Consumer) → AreQuiet (sent_effects s d found)
quiet_sent s d None = refl
quiet_sent s (Sent seq count dseq) (Some c) = refl
quiet_sent s TooSmall (Some c) = refl
quiet_sent s Emptied (Some c) = refl

pub quiet_delivery : (old : State) (now : ℕ) (d : Delivery) (new : State) → AreQuiet (delivery_effects old now d new)
quiet_delivery (Vacant i) now d new = refl
quiet_delivery (Live s) now d new =
    let sent = sent_effects (advance s now) d.what (by_name (advance s now).consumers d.consumer) in
    let left = removals [] (advance s now).messages (messages_of new) in
    quiet_both (time_effects s now) (sent ++ left) (quiet_time s now)
    (quiet_both sent left (quiet_sent (advance s now) d.what (by_name (advance s now).consumers d.consumer)) (quiet_removals [] (advance s now).messages (messages_of new)))
