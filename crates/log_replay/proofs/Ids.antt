-- An id that is added.
use Rattle.std.proofs.Common.{◌≡◌, ℕ, ◌+◌, ◌<◌, ◌≤◌, ◌^◌, ◌==◌, Bool, true, false, not, List, [], ◌∷◌, ◌++◌, length, Option, Some, None, refl, sym, ap, subst, ◌∙◌, arith}
use Rattle.std.specs.Prelude.{All, filter, is_some, nat_lt, option_map}
use Rattle.std.proofs.lemmas.Bool.{eqb-true, true≢false}
use Rattle.std.proofs.lemmas.List.Elements.{All-push, All-filter, All-weaker}
use Rattle.js_base.specs.Bytes.{Bytes}
use Rattle.js_base.specs.Moments.{plus}
use Rattle.js_model.specs.declared.stream_config.StreamConfig.{StreamConfig}
use Rattle.js_model.specs.declared.stream.Id.{Id}
use Rattle.js_model.specs.declared.stream.Message.{Message}
use Rattle.js_model.specs.declared.consumer.Consumer.{Consumer}
use Rattle.dedup_window.specs.Window.{Window, id_of, seq_of, remembered, IsLatest}
use Rattle.effects.specs.Folding.{added_id, at_moment}
use Rattle.log_replay.specs.Kept.{shown, IsKept}
use Rattle.log_replay.specs.Taken.{IsFresh, IsNewId}

-- ---- an empty text is none

pub empty_added : (ids : List Id) (id : Bytes) (seq at : ℕ) → true ≡ (length id == 0) → added_id ids id seq at ≡ ids
empty_added ids [] seq at e = refl
empty_added ids (byte ∷ more) seq at e = let none : length (byte ∷ more) ≡ 0 = eqb-true (length (byte ∷ more)) 0 (sym e) in absurd (omega (arith, none))

pub empty_new : (ids : List Id) (id : Bytes) → true ≡ (length id == 0) → IsNewId ids id
empty_new ids [] e = tt
empty_new ids (byte ∷ more) e = let none : length (byte ∷ more) ≡ 0 = eqb-true (length (byte ∷ more)) 0 (sym e) in absurd (omega (arith, none))

-- ---- and any other is one

pub other_added : (ids : List Id) (id : Bytes) (seq at : ℕ) → false ≡ (length id == 0) → added_id ids id seq at ≡ ids ++ record { id = id; seq = seq; at = at } ∷ []
other_added ids [] seq at e = absurd (true≢false (sym e))
other_added ids (byte ∷ more) seq at e = refl

pub other_fresh : (ids : List Id) (id : Bytes) → false ≡ (length id == 0) → IsNewId ids id → IsFresh ids id
other_fresh ids [] e h = absurd (true≢false (sym e))
other_fresh ids (byte ∷ more) e h = h

pub fresh_new : (ids : List Id) (id : Bytes) → IsFresh ids id → IsNewId ids id
fresh_new ids [] h = tt
fresh_new ids (byte ∷ more) h = h

pub is_none_at : {X : Type 0} (o : Option X) (none : Bool) → is_some o ≡ not none → none ≡ true → o ≡ None
is_none_at None none e h = refl
is_none_at (Some x) none e h = absurd (true≢false (e ∙ ap not h))

none_known : (o : Option Id) → option_map (λ (i : Id). i.seq) o ≡ None → o ≡ None
none_known None e = refl
none_known (Some i) e = absurd cc

pub fresh : (ids : List Id) (id : Bytes) → length id ≤ 256 → length ids < 2 ^ 20 → seq_of ids id ≡ None → IsFresh ids id
fresh ids id short room none = record { absent = none_known (id_of ids id) none; short = short; room = room }

-- ---- it is the latest

latest_added : (moment : ℕ) (ids : List Id) (id : Bytes) (seq at : ℕ) → at ≤ moment → IsLatest moment ids → IsLatest moment (added_id ids id seq at)
latest_added moment ids [] seq at le h = h
latest_added moment ids (byte ∷ more) seq at le h = All-push (λ (i : Id). i.at ≤ moment) ids (record { id = byte ∷ more; seq = seq; at = at }) h le

pub kept_added : (config : StreamConfig) (moment : ℕ) (w : Window) (id : Bytes) (seq at : ℕ) → at ≡ moment → IsKept config moment w → IsKept config moment (record w { ids = added_id w.ids id seq at })
kept_added config moment w id seq at is k = record { counts = k.counts; latest = latest_added moment w.ids id seq at (omega (arith, is)) k.latest }

-- ---- those that still count

pub kept_later : (config : StreamConfig) (moment later : ℕ) (w : Window) → moment ≤ later → IsKept config moment w → IsKept config later (record w { ids = remembered w later })
kept_later config moment later w le k = record {
  counts = k.counts;
  latest = All-filter _ (λ (i : Id). i.at ≤ later) w.ids (All-weaker (λ (i : Id). i.at ≤ moment) (λ (i : Id). i.at ≤ later) (λ i h. omega (arith, h, le)) w.ids k.latest);
}

pub seen_is : (made moment last later : ℕ) (config : StreamConfig) (messages : List Message) (w : Window) (consumers : List Consumer) → IsKept config moment w
    → shown made later last config messages (record w { ids = remembered w later }) consumers ≡ at_moment later (shown made moment last config messages w consumers)
seen_is made moment last later config messages w consumers k =
    ap (λ (n : ℕ). record (shown made later last config messages w consumers) { ids = filter (λ (i : Id). nat_lt later (plus i.at n)) w.ids }) k.counts
