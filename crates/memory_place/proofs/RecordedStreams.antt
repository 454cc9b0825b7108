-- The records of what changes a stream and its messages.
use Rattle.std.proofs.Common.{◌≡◌, ◌∙◌, ℕ, ◌+◌, Bool, true, false, ◌&&◌, not, cond, List, [], ◌∷◌, ◌++◌, map, refl, sym, ap, subst, arith}
use Rattle.std.specs.Prelude.{Option, Some, None, is_some, find, ◌==◌, ◌||◌}
use Rattle.std.specs.Option.{option_to_list}
use Rattle.std.proofs.lemmas.Bool.{true≢false, not-false}
use Rattle.js_base.specs.Bytes.{Bytes, has}
use Rattle.js_model.specs.declared.stream_config.StreamConfig.{StreamConfig}
use Rattle.js_model.specs.declared.stream.Message.{Message}
use Rattle.js_model.specs.declared.stream.Stream.{Stream}
use Rattle.js_model.specs.declared.stream.State.TheVariants.{Live}
use Rattle.js_model.specs.declared.consumer.Consumer.{Consumer}
use Rattle.js_model.specs.declared.event.GetBy.{GetBy}
use Rattle.js_model.specs.declared.event.Publish.{Publish}
use Rattle.js_model.specs.declared.event.What.TheVariants as asked
use Rattle.js_model.specs.declared.reply.Answer.{Answer}
use Rattle.js_model.specs.declared.reply.Verdict.{Verdict}
use Rattle.js_model.specs.declared.reply.Verdict.TheVariants.{Take}
use Rattle.js_model.specs.Configs.{same_retention, same_stream_config}
use Rattle.js_model.specs.Events.{consumer_told, deleted, made_again, message_at, message_by, message_told, published, purge_list, refused, settled, stream_told, told_of, with_id, with_message, without_messages}
use Rattle.js_model.specs.Lists.{Between}
use Rattle.js_model.specs.Refusals.{other_config, retention_cannot_change}
use Rattle.js_model.specs.Retention.{kept}
use Rattle.js_model.specs.Streams.{by_name, seqs}
use Rattle.js_model.specs.Trim.{trim}
use Rattle.js_model.specs.Verdict.{message_of, verdict}
use Rattle.js_model.proofs.Parts.{between_push}
use Rattle.effects.specs.declared.effect.Effect.{Effect}
use Rattle.effects.specs.declared.effect.Effect.TheVariants.{ChangeStream, PutHere, Skip}
use Rattle.effects.specs.Effects.{change_effects, delete_effects, is_skipped, live_effects, publish_effects, published_skipped, put_effect, settle_effects}
use Rattle.effects.specs.Ranges.{Range}
use Rattle.effects.specs.TimeEffects.{remove_of}
use Rattle.stream_view.specs.Order.{IsInOrder}
use Rattle.removals.specs.Leaving.{leaving, trim_ranges}
use Rattle.removals.proofs.Records.{all_noted, missed_last, settle_noted}
use Rattle.removals.specs.Removed.{Notes, Removed}
use Rattle.place_records.specs.declared.made.OwnRecords.{OwnRecords}
use Rattle.place_records.specs.Records.{own_in, IsFreshOwn}
use Rattle.memory_place.specs.Recording.{own_then}
use Rattle.memory_place.proofs.Answering.{changed_same}
use Rattle.memory_place.proofs.Recorded.{done, kept_then, none_in, noted_more, rests, trimmed_then}

-- ---- another configuration

module _ (s : Stream) (to : Option Bytes) (config : StreamConfig) where
  abbrev with_config : Stream
  with_config = record s { config = config }

  change_is : (own : OwnRecords) → same_retention config.retention s.config.retention ≡ true → own.effect ≡ cond (same_stream_config config s.config) None (Some (ChangeStream config)) → own.removed.ranges ≡ []
      → own_in own ≡ change_effects s config true
  change_is own kept effect none =
      ap (λ (e : Option Effect). option_to_list e ++ map remove_of own.removed.ranges) effect
      ∙ ap (λ (rs : List Range). option_to_list (cond (same_stream_config config s.config) None (Some (ChangeStream config))) ++ map remove_of rs) none
      ∙ go (same_stream_config config s.config)
      ∙ ap (λ (b : Bool). cond (b && not (same_stream_config config s.config)) (ChangeStream config ∷ []) []) (sym kept)
    where
      go : (b : Bool) → option_to_list (cond b None (Some (ChangeStream config))) ++ [] ≡ cond (true && not b) (ChangeStream config ∷ []) []
      go true = refl
      go false = refl

  pub changes : (old own : OwnRecords) (t : Stream) → IsInOrder s → same_retention config.retention s.config.retention ≡ true → old.effect ≡ cond (same_stream_config config s.config) None (Some (ChangeStream config))
      → old.removed.ranges ≡ [] → old.removed.below ≡ None → own.effect ≡ old.effect → Notes old.removed (trim_ranges old.removed.below with_config) own.removed → t ≡ trim with_config
      → own_then own t ≡ live_effects s (asked.Change to config) true
  changes old own t order kept_is effect none noted same notes left =
      trimmed_then old own with_config t same notes left
      ∙ ap (λ (below : Option ℕ). own_in old ++ map remove_of (trim_ranges below with_config ++ leaving below (trim with_config).messages (kept (trim with_config)).messages)) noted
      ∙ ap (λ (es : List Effect). own_in old ++ es) (sym (settle_noted [] None 1 (s.last + 1) with_config order.ascends (all_noted s.messages (kept (trim with_config)).messages)))
      ∙ ap (λ (es : List Effect). es ++ settle_effects [] (Live with_config)) (change_is old kept_is effect none)
      ∙ ap (λ (a : Answer). change_effects s config true ++ settle_effects [] a.state) (sym (changed_same s config kept_is))

  pub changes_nothing : (own : OwnRecords) → same_retention config.retention s.config.retention ≡ false → IsFreshOwn own → trim s ≡ s → own_then own s ≡ live_effects s (asked.Change to config) true
  changes_nothing own other fresh within =
      rests own s fresh within
      ∙ ap (λ (b : Bool). cond (b && not (same_stream_config config s.config)) (ChangeStream config ∷ []) [] ++ settle_effects [] (cond b (stream_told with_config) (refused retention_cannot_change s)).state) (sym other)

-- ---- messages that are removed

pub removes : (old own : OwnRecords) (s t : Stream) → IsFreshOwn old → own.effect ≡ old.effect → Notes old.removed (leaving old.removed.below s.messages t.messages) own.removed → trim t ≡ t
    → own_then own t ≡ map remove_of (leaving None s.messages t.messages) ++ settle_effects [] (Live t)
removes old own s t fresh same notes within =
    kept_then own t (notes.below_same ∙ fresh.noted) within
    ∙ ap (λ (es : List Effect). es ++ settle_effects [] (Live t))
    (noted_more old own (leaving old.removed.below s.messages t.messages) same notes
    ∙ ap (λ (es : List Effect). es ++ map remove_of (leaving old.removed.below s.messages t.messages)) (none_in old fresh)
    ∙ ap (λ (below : Option ℕ). map remove_of (leaving below s.messages t.messages)) fresh.noted)

pub purges_all : (old own : OwnRecords) (s t : Stream) (to : Option Bytes) (pattern : Bytes) (below keep : Option ℕ) → IsFreshOwn old → own.effect ≡ old.effect
    → Notes old.removed (leaving old.removed.below s.messages t.messages) own.removed → t ≡ without_messages s (purge_list s pattern below keep) → trim t ≡ t
    → own_then own t ≡ live_effects s (asked.Purge to pattern below keep) true
purges_all old own s t to pattern below keep fresh same notes left within =
    removes old own s t fresh same notes within
    ∙ ap (λ (u : Stream). map remove_of (leaving None s.messages u.messages) ++ settle_effects [] (Live u)) left

pub deletes_one : (old own : OwnRecords) (s t : Stream) (to : Option Bytes) (n : ℕ) → is_some (message_at s n) ≡ true → IsFreshOwn old → own.effect ≡ old.effect
    → Notes old.removed (leaving old.removed.below s.messages t.messages) own.removed → t ≡ without_messages s (option_to_list (message_at s n)) → trim t ≡ t
    → own_then own t ≡ live_effects s (asked.Delete to n) true
deletes_one old own s t to n there fresh same notes left within =
    removes old own s t fresh same notes within
    ∙ ap (λ (u : Stream). map remove_of (leaving None s.messages u.messages) ++ settle_effects [] (Live u)) left
    ∙ go (message_at s n) there
  where
    go : (o : Option Message) → is_some o ≡ true
        → map remove_of (leaving None s.messages (without_messages s (option_to_list o)).messages) ++ settle_effects [] (Live (without_messages s (option_to_list o)))
        ≡ delete_effects s o ++ settle_effects [] (deleted s o).state
    go None e = absurd (true≢false (sym e))
    go (Some m) e = refl

pub deletes_none : (own : OwnRecords) (s : Stream) (to : Option Bytes) (n : ℕ) → is_some (message_at s n) ≡ false → IsFreshOwn own → trim s ≡ s → own_then own s ≡ live_effects s (asked.Delete to n) true
deletes_none own s to n absent fresh within = rests own s fresh within ∙ go (message_at s n) absent
  where
    go : (o : Option Message) → is_some o ≡ false → settle_effects [] (Live s) ≡ delete_effects s o ++ settle_effects [] (deleted s o).state
    go None e = refl
    go (Some m) e = absurd (true≢false e)

-- ---- messages that are stored

-- one that is not taken
pub publishes_not : (own : OwnRecords) (s : Stream) (p : Publish) (v : Verdict) → verdict s p true ≡ v → publish_effects s p v ≡ [] → published_skipped s p v ≡ [] → (published s p v).state ≡ Live s
    → IsFreshOwn own → trim s ≡ s → own_then own s ≡ live_effects s (asked.Publish p) true
publishes_not own s p v said none all stays fresh within =
    rests own s fresh within
    ∙ sym (ap (λ (v : Verdict). publish_effects s p v ++ settle_effects (published_skipped s p v) (published s p v).state) said
    ∙ ap (λ (es : List Effect). es ++ settle_effects (published_skipped s p v) (published s p v).state) none
    ∙ ap (λ (missing : List ℕ). settle_effects missing (published s p v).state) all
    ∙ ap (settle_effects []) stays)

module _ (s : Stream) (p : Publish) (order : IsInOrder s) where
  abbrev stored : Stream
  stored = with_message s p

  messages_are : stored.messages ≡ s.messages ++ message_of s p ∷ []
  messages_are = go p.wants.id
    where
      go : (id : Bytes) → (with_id (record s { messages = s.messages ++ message_of s p ∷ []; last = s.last + 1 }) id).messages ≡ s.messages ++ message_of s p ∷ []
      go [] = refl
      go (byte ∷ more) = refl

  all_ascend : Between (λ m. m.seq) 1 (s.last + 2) stored.messages
  all_ascend =
      subst (λ (messages : List Message). Between (λ m. m.seq) 1 (s.last + 2) messages) (sym messages_are)
      (subst (λ (high : ℕ). Between (λ (m : Message). m.seq) 1 high (s.messages ++ message_of s p ∷ [])) (omega arith) (between_push (λ m. m.seq) 1 (s.last + 1) s.messages (message_of s p) refl order.ascends))

  settle_stored : settle_effects (cond (is_skipped s p) ((s.last + 1) ∷ []) []) (Live stored)
      ≡ map remove_of (trim_ranges (Some (s.last + 1)) stored ++ leaving (Some (s.last + 1)) (trim stored).messages (kept (trim stored)).messages)
  settle_stored =
      settle_noted (cond (is_skipped s p) ((s.last + 1) ∷ []) []) (Some (s.last + 1)) 1 (s.last + 2) stored all_ascend
      (missed_last (is_skipped s p) s.last stored.messages (kept (trim stored)).messages all_ascend (not-false (has (seqs (settled stored).messages) (s.last + 1))))

  -- what the limits and the retention drop
  abbrev dropped : List Range
  dropped = trim_ranges (Some (s.last + 1)) stored ++ leaving (Some (s.last + 1)) (trim stored).messages (kept (trim stored)).messages

  pub stored_then : (old own : OwnRecords) (t : Stream) → IsFreshOwn old → own.effect ≡ old.effect → Notes (record old.removed { below = Some (s.last + 1) }) (trim_ranges (Some (s.last + 1)) stored) own.removed
      → t ≡ trim stored → own_then own t ≡ map remove_of dropped
  stored_then old own t fresh same notes left =
      trimmed_then (record old { removed = record old.removed { below = Some (s.last + 1) } }) own stored t same notes left
      ∙ ap (λ (es : List Effect). es ++ map remove_of dropped) (none_in old fresh)

  -- one that is taken, and kept or not
  pub publishes : (own last : OwnRecords) (u : Stream) (is_kept : Bool) → verdict s p true ≡ Take → own.effect ≡ None → own_in own ≡ map remove_of dropped
      → last.effect ≡ Some (cond is_kept (PutHere (s.last + 1) s.moment p.wants.id p.subject p.headers p.payload) (Skip (s.last + 1) s.moment p.wants.id)) → last.removed ≡ own.removed
      → u ≡ settled stored → kept u ≡ u → is_kept ≡ is_some (message_at u (s.last + 1)) → own_then last u ≡ live_effects s (asked.Publish p) true
  publishes own last u is_kept said none recorded put same left again found =
      done last u again
      ∙ ap (λ (e : Option Effect). option_to_list e ++ map remove_of last.removed.ranges) put
      ∙ ap (λ (r : Removed). cond is_kept (PutHere (s.last + 1) s.moment p.wants.id p.subject p.headers p.payload) (Skip (s.last + 1) s.moment p.wants.id) ∷ map remove_of r.ranges) same
      ∙ ap (λ (es : List Effect). cond is_kept (PutHere (s.last + 1) s.moment p.wants.id p.subject p.headers p.payload) (Skip (s.last + 1) s.moment p.wants.id) ∷ es) ranges_are
      ∙ ap (λ (e : Effect). e ∷ settle_effects (cond (is_skipped s p) ((s.last + 1) ∷ []) []) (Live stored)) put_is
      ∙ ap (λ (v : Verdict). publish_effects s p v ++ settle_effects (published_skipped s p v) (published s p v).state) (sym said)
    where
      ranges_are : map remove_of own.removed.ranges ≡ settle_effects (cond (is_skipped s p) ((s.last + 1) ∷ []) []) (Live stored)
      ranges_are = ap (λ (e : Option Effect). option_to_list e ++ map remove_of own.removed.ranges) (sym none) ∙ recorded ∙ sym settle_stored

      found_has : (messages : List Message) → is_some (find (λ m. m.seq == (s.last + 1)) messages) ≡ has (seqs messages) (s.last + 1)
      found_has [] = refl
      found_has (m ∷ messages) = go (m.seq == (s.last + 1)) (found_has messages)
        where
          go : (b : Bool) → is_some (find (λ m. m.seq == (s.last + 1)) messages) ≡ has (seqs messages) (s.last + 1)
              → is_some (cond b (Some m) (find (λ m. m.seq == (s.last + 1)) messages)) ≡ (b || has (seqs messages) (s.last + 1))
          go true e = refl
          go false e = e

      kept_is : is_kept ≡ has (seqs (settled stored).messages) (s.last + 1)
      kept_is = found ∙ found_has u.messages ∙ ap (λ (t : Stream). has (seqs t.messages) (s.last + 1)) left

      put_is : cond is_kept (PutHere (s.last + 1) s.moment p.wants.id p.subject p.headers p.payload) (Skip (s.last + 1) s.moment p.wants.id) ≡ put_effect s p
      put_is = ap (λ (b : Bool). cond b (PutHere (s.last + 1) s.moment p.wants.id p.subject p.headers p.payload) (Skip (s.last + 1) s.moment p.wants.id)) kept_is ∙ go (has (seqs (settled stored).messages) (s.last + 1))
        where
          go : (b : Bool) → cond b (PutHere (s.last + 1) s.moment p.wants.id p.subject p.headers p.payload) (Skip (s.last + 1) s.moment p.wants.id)
              ≡ cond (not b) (Skip (s.last + 1) s.moment p.wants.id) (PutHere (s.last + 1) s.moment p.wants.id p.subject p.headers p.payload)
          go true = refl
          go false = refl

-- ---- a stream that is looked at

pub making_again : (s : Stream) (config : StreamConfig) → settle_effects [] (Live s) ≡ settle_effects [] (made_again s config).state
making_again s config = go (same_stream_config config s.config)
  where
    go : (b : Bool) → settle_effects [] (Live s) ≡ settle_effects [] (cond b (stream_told s) (refused other_config s)).state
    go true = refl
    go false = refl

pub reading : (s : Stream) (by : GetBy) → settle_effects [] (Live s) ≡ settle_effects [] (message_told s (message_by s by)).state
reading s by = go (message_by s by)
  where
    go : (o : Option Message) → settle_effects [] (Live s) ≡ settle_effects [] (message_told s o).state
    go None = refl
    go (Some m) = refl

pub showing : (s : Stream) (name : Bytes) → settle_effects [] (Live s) ≡ settle_effects [] (consumer_told s name).state
showing s name = go (by_name (settled s).consumers name)
  where
    go : (o : Option Consumer) → settle_effects [] (Live s) ≡ settle_effects [] (told_of s o).state
    go None = refl
    go (Some c) = refl
