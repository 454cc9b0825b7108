-- What a place shows of consumers can be printed.
use Rattle.std.proofs.Common.{List}
use Rattle.std.specs.List.{All}
use Rattle.std.proofs.lemmas.List.Elements.{All-weaker}
use Rattle.js_model.specs.declared.reply.ConsumerInfo.{ConsumerInfo}
use Rattle.consumer_config.proofs.Parts.{printable}
use Rattle.api_replies.specs.Printed.{ConsumerIsText}
use Rattle.place_engine.specs.Shown.{IsSoundConsumerInfo}

pub consumer_texts : (info : ConsumerInfo) → IsSoundConsumerInfo info → ConsumerIsText info
consumer_texts info s = record { config = printable info.config s.config; name = s.name; stream = s.stream }

pub all_texts : (list : List ConsumerInfo) → All IsSoundConsumerInfo list → All ConsumerIsText list
all_texts list each = All-weaker IsSoundConsumerInfo ConsumerIsText consumer_texts list each
