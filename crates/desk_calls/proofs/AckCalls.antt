-- A message to a subject of acknowledgements is read as one, and its stream is told.
use Rattle.std.proofs.Common.{◌≡◌, ℕ, List, [], Option, Result, Ok, Err, refl, sym, inr, IsTrue}
use Rattle.std.specs.Prelude.{IfSome}
use Rattle.std.proofs.lemmas.Bool.{and_from}
use Rattle.js_base.specs.Bytes.{Bytes}
use Rattle.js_base.specs.Names.{name_of, ReadsName}
use Rattle.js_base.specs.Subjects.{is_subject_text}
use Rattle.js_base.specs.declared.name.NameFault.{NameFault}
use Rattle.js_base.specs.declared.out.Out.{Out}
use Rattle.js_model.specs.Configs.{is_number}
use Rattle.js_model.specs.Proper.{is_proper_kind}
use Rattle.js_model.specs.declared.ack.Ack.{Ack}
use Rattle.js_model.specs.declared.desk.Taken.{Taken}
use Rattle.js_model.specs.declared.event.What.TheVariants as whats
use Rattle.stream_config.proofs.Named.{read_name}
use Rattle.ack_parse.specs.Reading.{ack_of}
use Rattle.ack_parse.specs.declared.fault.AckFault.{AckFault}
use Rattle.js_api.specs.declared.fault.DeskFault.{DeskFault}
use Rattle.js_api.specs.Api.{PublishesAck, TakesByApi}
use Rattle.js_api.specs.Clients.{Client}
use Rattle.js_api.specs.Entries.{DeskEntry}
use Rattle.js_api.specs.Leading.{Makes}
use Rattle.js_api.specs.OneConsumer.{IsAcknowledging}
use Rattle.js_api.specs.Stages.{Then}
use Rattle.desk_answers.specs.Asking.{MayAsk}
use Rattle.desk_ground.proofs.Stages.{as_such}
use Rattle.desk_messaging.proofs.Published.{given}

-- its stream's name, which was read before, is read as itself
pub same_stream : (told : Result Bytes NameFault) (text bytes name : Bytes) → told ≡ Ok name → ReadsName told (name_of bytes) → bytes ≡ text → name_of text ≡ Ok text → name ≡ text
same_stream (Ok read) text bytes name is reads same named = cc
same_stream (Err fault) text bytes name is reads same named = absurd (cc)

-- what was read may be told to its stream
pub may_tell : (ack : Ack) (reply : Option Bytes) → name_of ack.stream ≡ Ok ack.stream → name_of ack.consumer ≡ Ok ack.consumer → IsTrue (is_number ack.seq) → IsTrue (is_proper_kind ack.kind)
    → IfSome reply (λ text. IsTrue (is_subject_text text)) → MayAsk (whats.Ack reply ack)
may_tell ack reply stream consumer seq kind to = record {
  reply = given reply to;
  proper = and_from _ _ (and_from _ _ (and_from _ _ (read_name _ stream) (read_name _ consumer)) seq) kind;
  built = tt;
}

module _ {D : Type 0} (made : D → List DeskEntry → D → Type 0) (client : Client) (message : Out) (now : ℕ) where
  -- it was read as this, by which the call went on
  pub read : (reading : Result Ack AckFault) (result : Result Taken DeskFault) (a b : D) → ack_of message.to message.payload ≡ reading
      → Makes made (Then (IsAcknowledging reading message.reply now) (TakesByApi client message) result) a b → Makes made (PublishesAck client message now result) a b
  read reading result a b is h =
      as_such made (Then (IsAcknowledging reading message.reply now) (TakesByApi client message) result) (PublishesAck client message now result) a b h
      (λ entries told. inr (record { given = reading; before = []; more = entries; entries_are = refl; first_is = (sym is, refl); next_is = told }))
