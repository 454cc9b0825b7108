-- What the records of a log make: what outlives a crash of a place, with its messages unread, and the blocks in which these lie. By a format of this server's
-- own.
use Rattle.std.specs.Prelude.{◌≡◌, ℕ, List, [], ◌∷◌, Option, Some, None, ⊤}
use Rattle.effects.specs.declared.durable.Body.{Body}
use Rattle.effects.specs.declared.durable.Durable.{Durable}
use Rattle.effects.specs.declared.effect.Effect.{Effect}
use Rattle.effects.specs.declared.effect.Effect.TheVariants.{MakeStream, ChangeStream, DropStream, PutHere, Skip, Remove, MakeConsumer, DropConsumer, Deliver, Acked, Due, GivenUp, Now}
use Rattle.effects.specs.Folding.{vacant, fold}
use Rattle.op_records.specs.declared.record.Record.{Record}
use Rattle.op_records.specs.declared.record.Record.TheVariants.{Put, Change}
use Rattle.block_table.specs.Blocks.{Blocks, no_blocks}
use Rattle.block_table.specs.Puts.{put, removed}
use Rattle.durable_checks.specs.Storable.{IsFormed}
use Rattle.state_snapshot.specs.Snapshots.{HasSpots}
use Rattle.log_records.specs.Unread.{unread_subject, unread}

pub record Logged : Type 0 where
  pub durable : Durable
  pub blocks : Blocks

-- where a log begins
abbrev pub beginning : ℕ → Logged
beginning incarnation = record { durable = vacant incarnation; blocks = no_blocks }

-- ---- what a record makes

-- the change of what outlives a crash, its message unread
abbrev pub effect_of : Record → Effect
effect_of (Put seq at id spot) = PutHere seq at id unread_subject [] []
effect_of (Change e) = e

-- a stream that is made or dropped has no messages
abbrev pub blocks_by : Effect → Blocks → Blocks
blocks_by (MakeStream incarnation made config) b = no_blocks
blocks_by (ChangeStream config) b = b
blocks_by DropStream b = no_blocks
blocks_by (PutHere seq at id subject headers payload) b = b
blocks_by (Skip seq at id) b = b
blocks_by (Remove low high) b = removed low high b
blocks_by (MakeConsumer name made config cursor picks) b = b
blocks_by (DropConsumer name) b = b
blocks_by (Deliver name seq count due dseq) b = b
blocks_by (Acked name low high) b = b
blocks_by (Due name seq due) b = b
blocks_by (GivenUp name moment) b = b
blocks_by (Now moment) b = b

-- a stored message has to lie where the next one may
abbrev pub blocks_after : Record → Blocks → Option Blocks
blocks_after (Put seq at id spot) b = put seq spot b
blocks_after (Change e) b = Some (blocks_by e b)

abbrev pub with_blocks : Durable → Option Blocks → Option Logged
with_blocks d None = None
with_blocks d (Some b) = Some (record { durable = d; blocks = b })

abbrev pub both : Option Durable → Option Blocks → Option Logged
both None b = None
both (Some d) b = with_blocks d b

-- what the record makes of it, or None if it does not fit the one or the other
unfoldable pub fold_record : Logged → Record → Option Logged
fold_record g r = both (fold g.durable (effect_of r)) (blocks_after r g.blocks)

abbrev pub then_record : Option Logged → Record → Option Logged
then_record None r = None
then_record (Some g) r = fold_record g r

-- one record after the other
abbrev pub fold_records : List Record → Option Logged → Option Logged
fold_records [] g = g
fold_records (r ∷ rs) g = fold_records rs (then_record g r)

-- ---- what holds behind each record

-- a vacant place has no blocks
abbrev pub HasBlocksOf : Option Body → Blocks → Type 0
HasBlocksOf None b = b ≡ no_blocks
HasBlocksOf (Some body) b = ⊤

-- what outlives a crash is formed, its messages are unread, and the blocks have a spot for each of them
pub record IsLogged (g : Logged) : Type 0 where
  pub formed : IsFormed g.durable
  pub vacant : HasBlocksOf g.durable.body g.blocks
  pub messages : unread g.durable ≡ g.durable
  pub placed : HasSpots g.durable g.blocks
