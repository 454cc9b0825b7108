-- Whether more than the moment changed of what outlives a crash, computed.
use Rattle.std.specs.Prelude.{Bool, true, false, ◌&&◌, not, ◌==◌, List, [], ◌∷◌}
use Rattle.js_base.specs.Bytes.{same}
use Rattle.js_model.specs.declared.stream.Message.{Message}
use Rattle.js_model.specs.declared.stream.Id.{Id}
use Rattle.js_model.specs.declared.stream.Stream.{Stream}
use Rattle.js_model.specs.declared.stream.State.{State}
use Rattle.js_model.specs.declared.stream.State.TheVariants.{Vacant, Live}
use Rattle.js_model.specs.declared.consumer.Pending.{Pending}
use Rattle.js_model.specs.declared.consumer.Consumer.{Consumer}
use Rattle.js_model.specs.Configs.{same_stream_config, same_consumer_config}

-- the same elements in the same order
abbrev pub same_list : {X : Type 0} → (X → X → Bool) → List X → List X → Bool
same_list alike [] [] = true
same_list alike [] (_ ∷ _) = false
same_list alike (_ ∷ _) [] = false
same_list alike (x ∷ xs) (y ∷ ys) = alike x y && same_list alike xs ys

abbrev pub same_message : Message → Message → Bool
same_message a b = (a.seq == b.seq) && (a.at == b.at) && same a.subject b.subject && same a.headers b.headers && same a.payload b.payload

abbrev pub same_id : Id → Id → Bool
same_id a b = same a.id b.id && (a.seq == b.seq) && (a.at == b.at)

abbrev pub same_pending : Pending → Pending → Bool
same_pending a b = (a.seq == b.seq) && (a.count == b.count) && (a.due == b.due)

-- all but the pulls that wait and the mark
abbrev pub same_consumer : Consumer → Consumer → Bool
same_consumer a b =
    same a.name b.name && (a.made == b.made) && same_consumer_config a.config b.config && same a.picks b.picks && (a.cursor == b.cursor)
    && (a.dseq == b.dseq) && same_list same_pending a.pending b.pending && same a.given_up b.given_up

-- all but the moment
abbrev pub same_stream : Stream → Stream → Bool
same_stream a b =
    (a.incarnation == b.incarnation) && (a.made == b.made) && same_stream_config a.config b.config && same_list same_message a.messages b.messages
    && (a.last == b.last) && same_list same_id a.ids b.ids && same_list same_consumer a.consumers b.consumers

abbrev pub changes : State → State → Bool
changes (Vacant i) (Vacant j) = not (i == j)
changes (Vacant i) (Live t) = true
changes (Live s) (Vacant j) = true
changes (Live s) (Live t) = not (same_stream s t)
