-- What a place comes to, and by how much what is asked raises that, as it is told by counts.
use Rattle.std.proofs.Common.{◌≡◌, ◌≢◌, ◌≤◌, ◌+◌, ◌-◌, ◌*◌, ◌^◌, Bor, ℕ, Bool, true, false, cond, not, List, [], ◌∷◌, length, Option, None, Some, refl, sym, ap, subst, ◌∙◌, arith}
use Rattle.std.specs.Prelude.{All, is_none, is_some, option_copied, sum_by}
use Rattle.std.proofs.lemmas.Bool.{true≢false}
use Rattle.std.proofs.lemmas.List.Elements.{All-head, All-tail}
use Rattle.std.proofs.lemmas.List.Sums.{sum_by-cons}
use Rattle.js_base.specs.Bytes.{Bytes}
use Rattle.config_texts.specs.Texts.{consumer_text, stream_text}
use Rattle.js_model.specs.declared.consumer_config.ConsumerConfig.{ConsumerConfig}
use Rattle.js_model.specs.declared.event.Publish.{Publish}
use Rattle.js_model.specs.declared.event.What.{What}
use Rattle.js_model.specs.declared.event.What.TheVariants as whats
use Rattle.js_model.specs.declared.stream.Id.{Id}
use Rattle.js_model.specs.declared.stream.State.{State}
use Rattle.js_model.specs.declared.stream.State.TheVariants.{Vacant, Live}
use Rattle.js_model.specs.declared.stream_config.StreamConfig.{StreamConfig}
use Rattle.js_model.specs.Events.{asks_room}
use Rattle.js_model.specs.Streams.{by_name}
use Rattle.model_laws.specs.Bounds.{IsBounded, IsBoundedId}
use Rattle.snapshot_bound.specs.Asking.{event_counted, event_fixed, event_growth, most_picked}
use Rattle.snapshot_bound.specs.Bounds.{bound_by, bound_with, capped, id_length, most_held}
use Rattle.snapshot_bound.proofs.Asked.{law_asked}
use Rattle.place_engine.specs.Places.{consumers_in, ids_in, is_config, messages_in, name_in}
use Rattle.volume_place.specs.Growing.{IsGrowth}
use Rattle.volume_place.specs.declared.asking.Growth.{Growth}

-- a value is there just if it is behind the reference
pub none_told : {T : Type 0} (o : Option (Bor T)) (p : Option T) (b : Bool) → is_some o ≡ not b → option_copied o ≡ p → b ≡ is_none p
none_told {T} None p true told same = subst (λ (x : Option T). true ≡ is_none x) same refl
none_told {T} None p false told same = absurd (true≢false (sym told))
none_told {T} (Some x) p true told same = absurd (true≢false told)
none_told {T} (Some x) p false told same = subst (λ (y : Option T). false ≡ is_none y) same refl

-- ---- what it comes to

-- the ids of a window are few and short
sum_short : (ids : List Id) → All IsBoundedId ids → sum_by (λ (i : Id). length i.id) ids ≤ 256 * length ids
sum_short [] h = omega arith
sum_short (i ∷ ids) h =
    let first = (All-head IsBoundedId i ids h).bytes in
    let rest = sum_short ids (All-tail IsBoundedId i ids h) in
    omega (arith, first, rest, sum_by-cons (λ (x : Id). length x.id) i ids)

pub few_ids : (state : State) → IsBounded state → length (ids_in state) ≤ 2 ^ 20
few_ids (Vacant i) h = omega arith
few_ids (Live s) h = h.ids

pub short_ids : (state : State) → IsBounded state → sum_by (λ (i : Id). length i.id) (ids_in state) ≤ 2 ^ 61
short_ids (Vacant i) h = omega arith
short_ids (Live s) h =
    let few = h.ids in
    let sum = sum_short s.ids h.each_id in
    omega (arith, few, sum)

pub few_counted : (state : State) (count : ℕ) → IsBounded state → count ≡ length (ids_in state) → count ≤ 2 ^ 20
few_counted state count h is = let few = few_ids state h in omega (arith, few, is)

pub short_counted : (state : State) (bytes : ℕ) → IsBounded state → bytes ≡ sum_by (λ (i : Id). length i.id) (ids_in state) → bytes ≤ 2 ^ 61
short_counted state bytes h is = let short = short_ids state h in omega (arith, short, is)

-- It is told whether there is a stream.
pub vacant_bound : (state : State) (known : ℕ) (b : Bool) → b ≡ is_none (name_in state) → b ≡ true → known + 39 ≡ bound_with known state
vacant_bound (Vacant i) known b told none = refl
vacant_bound (Live s) known b told none = absurd (true≢false (sym none ∙ told))

pub live_bound : (state : State) (known ids messages consumers : ℕ) (b : Bool) → b ≡ is_none (name_in state) → b ≡ false → ids ≡ sum_by id_length (ids_in state) → messages ≡ messages_in state
    → consumers ≡ length (consumers_in state) → bound_by known ids messages consumers ≡ bound_with known state
live_bound (Vacant i) known ids messages consumers b told some ids_are messages_are consumers_are = absurd (true≢false (sym told ∙ some))
live_bound (Live s) known ids messages consumers b told some ids_are messages_are consumers_are =
    ap (λ (n : ℕ). bound_by known n messages consumers) ids_are
    ∙ ap (λ (n : ℕ). bound_by known (sum_by id_length s.ids) n consumers) messages_are
    ∙ ap (λ (n : ℕ). bound_by known (sum_by id_length s.ids) (length s.messages) n) consumers_are

-- ---- by how much it is raised

abbrev pub no_growth : Growth
no_growth = record { fixed = 0; counted = 0 }

-- by nothing
pub none_raised : (state : State) (what : What) (growth : Growth) → event_fixed state what ≡ 0 → event_counted state what ≡ 0 → growth ≡ no_growth → IsGrowth state what growth
none_raised state what growth fixed_none counted_none is = subst (IsGrowth state what) (sym is) (record { fixed = omega (arith, fixed_none); counted = omega (arith, counted_none) })

-- a number of eight bytes is not cut off
uncut : (n exact : ℕ) → n ≤ 2 ^ 64 - 1 → n ≡ exact → n ≡ capped exact
uncut n exact small is = omega (arith, small, is)

pub vacant_publish : (state : State) (p : Publish) (growth : Growth) (b : Bool) → b ≡ is_none (name_in state) → b ≡ true → growth ≡ no_growth → IsGrowth state (whats.Publish p) growth
vacant_publish (Vacant i) p growth b told none is = none_raised (Vacant i) (whats.Publish p) growth refl refl is
vacant_publish (Live s) p growth b told none is = absurd (true≢false (sym none ∙ told))

pub live_publish : (state : State) (p : Publish) (count counted : ℕ) (b : Bool) → b ≡ is_none (name_in state) → b ≡ false → count ≡ length (consumers_in state)
    → counted ≡ 50 + length p.wants.id + 32 * count → IsGrowth state (whats.Publish p) (record { fixed = 0; counted = counted })
live_publish (Vacant i) p count counted b told some are is = absurd (true≢false (sym told ∙ some))
live_publish (Live s) p count counted b told some are is = record { fixed = omega arith; counted = is ∙ ap (λ (n : ℕ). 50 + length p.wants.id + 32 * n) are }

module _ (reply : Option Bytes) (config : StreamConfig) where
  pub live_make : (state : State) (growth : Growth) (b : Bool) → b ≡ is_none (name_in state) → b ≡ false → growth ≡ no_growth → IsGrowth state (whats.Make reply config) growth
  live_make (Vacant i) growth b told some is = absurd (true≢false (sym told ∙ some))
  live_make (Live s) growth b told some is = none_raised (Live s) (whats.Make reply config) growth refl refl is

  pub vacant_make : (state : State) (text : ℕ) (b : Bool) → b ≡ is_none (name_in state) → b ≡ true → text ≤ 2 ^ 64 - 1 → text ≡ length (stream_text config)
      → IsGrowth state (whats.Make reply config) (record { fixed = text; counted = 54 })
  vacant_make (Vacant i) text b told none small is = record { fixed = uncut text (length (stream_text config)) small is; counted = refl }
  vacant_make (Live s) text b told none small is = absurd (true≢false (sym none ∙ told))

  pub vacant_change : (state : State) (growth : Growth) (b : Bool) → b ≡ is_none (name_in state) → b ≡ true → growth ≡ no_growth → IsGrowth state (whats.Change reply config) growth
  vacant_change (Vacant i) growth b told none is = none_raised (Vacant i) (whats.Change reply config) growth refl refl is
  vacant_change (Live s) growth b told none is = absurd (true≢false (sym none ∙ told))

  pub same_change : (state : State) (growth : Growth) (c : Bool) → c ≡ is_config state config → c ≡ true → growth ≡ no_growth → IsGrowth state (whats.Change reply config) growth
  same_change (Vacant i) growth c told same is = absurd (true≢false (sym same ∙ told))
  same_change (Live s) growth c told same is =
      none_raised (Live s) (whats.Change reply config) growth (ap (λ (b : Bool). cond b 0 (length (stream_text config))) (sym told ∙ same)) refl is

  pub other_change : (state : State) (text : ℕ) (b c : Bool) → b ≡ is_none (name_in state) → b ≡ false → c ≡ is_config state config → c ≡ false → text ≤ 2 ^ 64 - 1
      → text ≡ length (stream_text config) → IsGrowth state (whats.Change reply config) (record { fixed = text; counted = 0 })
  other_change (Vacant i) text b c told some told_same other small is = absurd (true≢false (sym told ∙ some))
  other_change (Live s) text b c told some told_same other small is = record {
    fixed = uncut text (event_fixed (Live s) (whats.Change reply config)) small (is ∙ sym (ap (λ (x : Bool). cond x 0 (length (stream_text config))) (sym told_same ∙ other)));
    counted = refl;
  }

module _ (reply : Option Bytes) (name : Bytes) (config : ConsumerConfig) (update : Bool) where
  pub vacant_consumer : (state : State) (growth : Growth) (b : Bool) → b ≡ is_none (name_in state) → b ≡ true → growth ≡ no_growth
      → IsGrowth state (whats.MakeConsumer reply name config update) growth
  vacant_consumer (Vacant i) growth b told none is = none_raised (Vacant i) (whats.MakeConsumer reply name config update) growth refl refl is
  vacant_consumer (Live s) growth b told none is = absurd (true≢false (sym none ∙ told))

  pub same_consumer : (state : State) (growth : Growth) (c : Bool) → c ≡ is_some (by_name (consumers_in state) name) → c ≡ true → growth ≡ no_growth
      → IsGrowth state (whats.MakeConsumer reply name config update) growth
  same_consumer (Vacant i) growth c told same is = absurd (true≢false (sym same ∙ told))
  same_consumer (Live s) growth c told same is =
      none_raised (Live s) (whats.MakeConsumer reply name config update) growth
      (ap (λ (b : Bool). cond b 0 (41 + length name + length (consumer_text config) + 8 * most_picked config.deliver_policy (length s.messages))) (sym told ∙ same))
      (ap (λ (b : Bool). cond b 0 (32 * most_held (length s.messages))) (sym told ∙ same)) is

  pub other_consumer : (state : State) (messages picked text held : ℕ) (b c : Bool) → b ≡ is_none (name_in state) → b ≡ false → c ≡ is_some (by_name (consumers_in state) name) → c ≡ false
      → messages ≡ messages_in state → picked ≡ most_picked config.deliver_policy messages → text ≡ capped (41 + length name + length (consumer_text config) + 8 * picked)
      → held ≡ 32 * most_held messages → IsGrowth state (whats.MakeConsumer reply name config update) (record { fixed = text; counted = held })
  other_consumer (Vacant i) messages picked text held b c told some told_same other are picks is holds = absurd (true≢false (sym told ∙ some))
  other_consumer (Live s) messages picked text held b c told some told_same other are picks is holds = record {
    fixed =
        is ∙ ap (λ (n : ℕ). capped (41 + length name + length (consumer_text config) + 8 * n)) (picks ∙ ap (most_picked config.deliver_policy) are)
        ∙ ap capped (sym (ap (λ (x : Bool). cond x 0 (41 + length name + length (consumer_text config) + 8 * most_picked config.deliver_policy (length s.messages))) (sym told_same ∙ other)));
    counted = holds ∙ ap (λ (n : ℕ). 32 * most_held n) are ∙ sym (ap (λ (x : Bool). cond x 0 (32 * most_held (length s.messages))) (sym told_same ∙ other));
  }

-- what asks for no room
pub not_asked : (what : What) → ((p : Publish) → what ≢ whats.Publish p) → ((reply : Option Bytes) (config : StreamConfig) → what ≢ whats.Make reply config)
    → ((reply : Option Bytes) (config : StreamConfig) → what ≢ whats.Change reply config)
    → ((reply : Option Bytes) (name : Bytes) (config : ConsumerConfig) (update : Bool) → what ≢ whats.MakeConsumer reply name config update) → asks_room what ≡ false
not_asked (whats.Make reply config) p m c n = absurd (m reply config refl)
not_asked (whats.Change reply config) p m c n = absurd (c reply config refl)
not_asked (whats.Drop reply) p m c n = refl
not_asked (whats.Publish q) p m c n = absurd (p q refl)
not_asked (whats.Purge reply pattern below keep) p m c n = refl
not_asked (whats.Delete reply seq) p m c n = refl
not_asked (whats.MakeConsumer reply name config update) p m c n = absurd (n reply name config update refl)
not_asked (whats.DropConsumer reply name) p m c n = refl
not_asked (whats.Ack reply ack) p m c n = refl
not_asked (whats.Pull reply name ask) p m c n = refl
not_asked whats.Tick p m c n = refl
not_asked (whats.StreamInfo reply) p m c n = refl
not_asked (whats.MessageGet reply by) p m c n = refl
not_asked (whats.ConsumerInfo reply name) p m c n = refl
not_asked (whats.ConsumerNames reply offset) p m c n = refl
not_asked (whats.ConsumerList reply offset) p m c n = refl

pub unasked_raised : (state : State) (what : What) (growth : Growth) → asks_room what ≡ false → growth ≡ no_growth → IsGrowth state what growth
unasked_raised state what growth quiet is =
    let none : event_growth state what ≡ 0 = law_asked.unasked state what quiet in
    none_raised state what growth (omega (arith, none)) (omega (arith, none)) is
