-- That messages go to files behind those of the logs.
use Rattle.std.proofs.Common.{◌≡◌, ◌≤◌, ◌<◌, ◌+◌, ◌-◌, ◌^◌, ℕ, Bool, true, false, cond, List, [], ◌∷◌, Option, Some, None, IfSome, length, max, option_map, refl, subst, arith}
use Rattle.std.specs.Option.{option_to_list}
use Rattle.std.proofs.lemmas.Bool.{leb-true}
use Rattle.std.proofs.lemmas.List.Elements.{All-head}
use Rattle.js_base.specs.declared.spot.Spot.{Spot}
use Rattle.effects.specs.declared.effect.Effect.{Effect}
use Rattle.effects.specs.declared.effect.Effect.TheVariants.{MakeStream, ChangeStream, DropStream, PutHere, Skip, Remove, MakeConsumer, DropConsumer, Deliver, Acked, Due, GivenUp, Now}
use Rattle.op_records.specs.Blocks.{spelled_message}
use Rattle.block_table.specs.declared.block.Block.{Block}
use Rattle.block_table.specs.declared.placing.Placing.{Placing}
use Rattle.block_table.specs.Blocks.{Blocks}
use Rattle.block_table.specs.Placings.{free_from, place, place_at, place_on, placing, stays}
use Rattle.block_table.specs.Tables.{IsTable}
use Rattle.block_table.proofs.Batches.{found_free}
use Rattle.block_writing.specs.Planning.{message_by}
use Rattle.stream_store.specs.Placing.{IsMessageSpot, placing_behind, placing_then, spot_behind, spot_by}
use Rattle.stream_store.specs.Staging.{AreBehindLogs}
use Rattle.stream_store.proofs.Placings.{placings, placings_begun, then_placing}
use Rattle.stream_store.proofs.Stages.{behind_logs}

-- the block being written, if there is one
abbrev WritesHigh : Placing → Type 0
WritesHigh p = IfSome p.writing (λ k. 2 ≤ k.file)

-- ---- one message

-- where it goes
module _ (b : Blocks) (len : ℕ) (p : Placing) (high : WritesHigh p) where
  abbrev IsHigh : Spot × Placing → Type 0
  IsHigh r = ((2 ≤ r.0.file) × (len < 2 ^ 32 → r.0.at + r.0.len < 2 ^ 32)) × WritesHigh r.1

  placed_high : IfSome (place b len p) IsHigh
  placed_high = go (stays len p.writing) refl
    where
      on : (o : Option Block) → IfSome o (λ k. 2 ≤ k.file) → stays len o ≡ true → IfSome (place_on len p o) IsHigh
      on None h fits = tt
      on (Some k) h fits = let low = leb-true (k.end + len) 8388608 fits in ((h, λ short. omega (arith, low)), h)

      new : (o : Option ℕ) → free_from p.from b ≡ o → IfSome (option_map (place_at len) o) IsHigh
      new None is = tt
      new (Some file) is =
          let found = found_free b (max 2 p.from) (65536 - max 2 p.from) file is in
          let behind : 2 ≤ file = let from = found.1 in omega (arith, from) in
          ((behind, λ short. omega (arith, short)), behind)

      go : (t : Bool) → stays len p.writing ≡ t → IfSome (cond t (place_on len p p.writing) (option_map (place_at len) (free_from p.from b))) IsHigh
      go true fits = on p.writing high fits
      go false past = new (free_from p.from b) refl

-- ---- behind changes

then_high : (b : Blocks) (p : Placing) (e : Effect) → WritesHigh p → IfSome (placing_then b p e) WritesHigh
then_high b p (MakeStream incarnation made config) high = tt
then_high b p (ChangeStream config) high = high
then_high b p DropStream high = tt
then_high b p (PutHere seq at id subject headers payload) high = go (place b len p) (placed_high b len p high)
  where
    len : ℕ
    len = length (spelled_message (message_by seq at subject headers payload))

    go : (o : Option (Spot × Placing)) → IfSome o (IsHigh b len p high) → IfSome (option_map (λ (r : Spot × Placing). r.1) o) WritesHigh
    go None h = tt
    go (Some r) h = h.1
then_high b p (Skip seq at id) high = high
then_high b p (Remove low up) high = high
then_high b p (MakeConsumer name made config cursor picks) high = high
then_high b p (DropConsumer name) high = high
then_high b p (Deliver name seq count due dseq) high = high
then_high b p (Acked name low up) high = high
then_high b p (Due name seq due) high = high
then_high b p (GivenUp name moment) high = high
then_high b p (Now moment) high = high

all_high : (b : Blocks) (es : List Effect) (o : Option Placing) → IfSome o WritesHigh → IfSome (placings b es o) WritesHigh
all_high b [] o high = high
all_high b (e ∷ es) o high = all_high b es (then_placing b o e) (one o high)
  where
    one : (o : Option Placing) → IfSome o WritesHigh → IfSome (then_placing b o e) WritesHigh
    one None h = tt
    one (Some p) h = then_high b p e h

first_high : (b : Blocks) → IsTable b → WritesHigh (placing b)
first_high b table = go b.writing (behind_logs b false table)
  where
    go : (o : Option Block) → AreBehindLogs (option_to_list o) → IfSome o (λ k. 2 ≤ k.file)
    go None h = tt
    go (Some k) h = All-head (λ (j : Block). 2 ≤ j.file) k [] h

-- a message of a length of four bytes goes behind the logs, and ends below 2^32
pub message_spot : (b : Blocks) (es : List Effect) (len : ℕ) → IsTable b → len < 2 ^ 32 → IfSome (spot_behind b es len) IsMessageSpot
message_spot b es len table short = go (placing_behind b es) (subst (λ (o : Option Placing). IfSome o WritesHigh) (placings_begun b es) (all_high b es (Some (placing b)) (first_high b table)))
  where
    spot_of : (p : Placing) (high : WritesHigh p) (o : Option (Spot × Placing)) → IfSome o (IsHigh b len p high) → IfSome (option_map (λ (r : Spot × Placing). r.0) o) IsMessageSpot
    spot_of p high None h = tt
    spot_of p high (Some r) h = record { behind_logs = h.0.0; ends = h.0.1 short }

    go : (o : Option Placing) → IfSome o WritesHigh → IfSome (spot_by b len o) IsMessageSpot
    go None h = tt
    go (Some p) h = spot_of p h (place b len p) (placed_high b len p h)
