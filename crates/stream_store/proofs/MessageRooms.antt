-- Room for the messages of changes that wait.
use Rattle.std.proofs.Common.{◌≡◌, ◌≤◌, ◌+◌, ℕ, false, IsTrue, List, [], ◌∷◌, ◌++◌, Option, Some, None, IfSome, length, option_map, sym, subst, arith, refl}
use Rattle.std.specs.List.{list_all}
use Rattle.std.proofs.lemmas.Bool.{true≢false}
use Rattle.std.proofs.lemmas.List.Elements.{All-nil, All-weaker}
use Rattle.vol_disk.specs.Disk.{Disk}
use Rattle.js_base.specs.Bytes.{Bytes}
use Rattle.js_base.specs.declared.spot.Spot.{Spot}
use Rattle.js_model.proofs.Named.{some_is}
use Rattle.js_model.specs.declared.stream.Message.{Message}
use Rattle.effects.specs.declared.effect.Effect.{Effect}
use Rattle.effects.specs.declared.effect.Effect.TheVariants.{MakeStream, ChangeStream, DropStream, PutHere, Skip, Remove, MakeConsumer, DropConsumer, Deliver, Acked, Due, GivenUp, Now}
use Rattle.op_records.specs.Allowed.{is_put, is_record}
use Rattle.op_records.specs.Blocks.{spelled_message}
use Rattle.block_table.specs.declared.placing.Placing.{Placing}
use Rattle.block_table.specs.Blocks.{Blocks}
use Rattle.block_table.specs.Placings.{place, restarted}
use Rattle.block_table.specs.Tables.{IsTable}
use Rattle.block_writing.specs.declared.run.Run.{Run}
use Rattle.block_writing.specs.Planning.{Planned, begun, message_by, planned_one, then_planned, with_change, with_put}
use Rattle.block_writing.specs.Writing.{AreWithin}
use Rattle.block_writing.proofs.Commits.{law_plans}
use Rattle.stream_store.specs.Placing.{plan_of, spot_behind, spot_by}
use Rattle.stream_store.specs.Reserving.{HasMessageRoom, LawReserving}
use Rattle.stream_store.specs.Rooms.{AreLonger}
use Rattle.stream_store.proofs.Placings.{planned_push}

abbrev pub ArePlannedWithin : Disk → Option Planned → Type 0
ArePlannedWithin disk o = IfSome o (λ made. AreWithin disk made.runs)

-- ---- a change that stores no message

plain_one : (b : Blocks) (so_far : Planned) (e : Effect) → is_put e ≡ false → (q : Placing) × (planned_one b so_far e ≡ Some (with_change so_far e q))
plain_one b so_far (MakeStream incarnation made config) plain = (restarted so_far.placing, refl)
plain_one b so_far (ChangeStream config) plain = (so_far.placing, refl)
plain_one b so_far DropStream plain = (restarted so_far.placing, refl)
plain_one b so_far (PutHere seq at id subject headers payload) plain = absurd (true≢false plain)
plain_one b so_far (Skip seq at id) plain = (so_far.placing, refl)
plain_one b so_far (Remove low high) plain = (so_far.placing, refl)
plain_one b so_far (MakeConsumer name made config cursor picks) plain = (so_far.placing, refl)
plain_one b so_far (DropConsumer name) plain = (so_far.placing, refl)
plain_one b so_far (Deliver name seq count due dseq) plain = (so_far.placing, refl)
plain_one b so_far (Acked name low high) plain = (so_far.placing, refl)
plain_one b so_far (Due name seq due) plain = (so_far.placing, refl)
plain_one b so_far (GivenUp name moment) plain = (so_far.placing, refl)
plain_one b so_far (Now moment) plain = (so_far.placing, refl)

plain_then : (b : Blocks) (disk : Disk) (o : Option Planned) (e : Effect) → is_put e ≡ false → ArePlannedWithin disk o → ArePlannedWithin disk (then_planned b o e)
plain_then b disk None e plain h = tt
plain_then b disk (Some so_far) e plain h = let one = plain_one b so_far e plain in subst (ArePlannedWithin disk) (sym one.1) h

plain_back : (b : Blocks) (disk : Disk) (o : Option Planned) (e : Effect) → is_put e ≡ false → ArePlannedWithin disk (then_planned b o e) → ArePlannedWithin disk o
plain_back b disk None e plain h = tt
plain_back b disk (Some so_far) e plain h = let one = plain_one b so_far e plain in subst (ArePlannedWithin disk) one.1 h

change : (b : Blocks) (es : List Effect) (e : Effect) (disk : Disk) → is_put e ≡ false → HasMessageRoom b es disk → HasMessageRoom b (es ++ e ∷ []) disk
change b es e disk plain h = subst (ArePlannedWithin disk) (sym (planned_push b es e (Some (begun b)))) (plain_then b disk (plan_of b es) e plain h)

fewer : (b : Blocks) (es : List Effect) (e : Effect) (disk : Disk) → is_put e ≡ false → HasMessageRoom b (es ++ e ∷ []) disk → HasMessageRoom b es disk
fewer b es e disk plain h = plain_back b disk (plan_of b es) e plain (subst (ArePlannedWithin disk) (planned_push b es e (Some (begun b))) h)

-- ---- a message

message : (b : Blocks) (es : List Effect) (seq at : ℕ) (id subject headers payload : Bytes) (spot : Spot) (disk : Disk) → IsTable b → IsTrue (list_all is_record es)
    → spot_behind b es (length (spelled_message (message_by seq at subject headers payload))) ≡ Some spot → spot.at + spot.len ≤ length (disk.seen spot.file)
    → HasMessageRoom b es disk → HasMessageRoom b (es ++ PutHere seq at id subject headers payload ∷ []) disk
message b es seq at id subject headers payload spot disk table records goes room h =
    subst (ArePlannedWithin disk) (sym (planned_push b es (PutHere seq at id subject headers payload) (Some (begun b)))) (go (plan_of b es) refl goes h)
  where
    m : Message
    m = message_by seq at subject headers payload

    len : ℕ
    len = length (spelled_message m)

    put : (made : Planned) → plan_of b es ≡ Some made → AreWithin disk made.runs → (o : Option (Spot × Placing)) → place b len made.placing ≡ o → option_map (λ r. r.0) o ≡ Some spot → ArePlannedWithin disk (option_map (with_put made id m) o)
    put made is within None placed e = tt
    put made is within (Some r) placed e =
        let same : r.0 ≡ spot = some_is e in
        law_plans.within b es made m r.0 r.1 disk (record { table = table; allowed = records; made_is = is }) placed within (subst (λ (s : Spot). s.at + s.len ≤ length (disk.seen s.file)) (sym same) room)

    go : (o : Option Planned) → plan_of b es ≡ o → spot_by b len (option_map (λ (made : Planned). made.placing) o) ≡ Some spot → ArePlannedWithin disk o → ArePlannedWithin disk (then_planned b o (PutHere seq at id subject headers payload))
    go None is e h = tt
    go (Some made) is e h = put made is h (place b len made.placing) refl e

-- ---- a volume that got longer

longer : (b : Blocks) (es : List Effect) (old new : Disk) → AreLonger old new → HasMessageRoom b es old → HasMessageRoom b es new
longer b es old new more h = go (plan_of b es) h
  where
    go : (o : Option Planned) → ArePlannedWithin old o → ArePlannedWithin new o
    go None h = tt
    go (Some made) h =
        All-weaker (λ (run : Run). run.at + length run.bytes ≤ length (old.seen run.file)) (λ (run : Run). run.at + length run.bytes ≤ length (new.seen run.file))
        (λ run within. let lengths = more run.file in omega (arith, within, lengths)) made.runs h

pub law_reserving : (old new : Disk) → LawReserving old new
law_reserving old new = record {
  none = λ b. All-nil (λ (run : Run). run.at + length run.bytes ≤ length (old.seen run.file));
  change = λ b es e. change b es e old;
  fewer = λ b es e. fewer b es e old;
  message = λ b es seq at id subject headers payload spot. message b es seq at id subject headers payload spot old;
  longer = λ b es. longer b es old new;
}
