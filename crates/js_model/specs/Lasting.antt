-- What of a state outlives a crash, by a rule of this server's own: all but the pulls that wait and the marks of consumers.
use Rattle.std.specs.Prelude.{[], map}
use Rattle.js_model.specs.declared.consumer.Consumer.{Consumer}
use Rattle.js_model.specs.declared.stream.State.{State}
use Rattle.js_model.specs.declared.stream.State.TheVariants.{Vacant, Live}

abbrev pub lasting_consumer : Consumer → Consumer
lasting_consumer c = record c { waiting = []; mark = c.made }

abbrev pub lasting : State → State
lasting (Vacant i) = Vacant i
lasting (Live s) = Live (record s { consumers = map lasting_consumer s.consumers })
