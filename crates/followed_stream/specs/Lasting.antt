-- What of a stream outlives a crash, by a rule of this server's own: all but the pulls that wait and the marks of its consumers.
use Rattle.std.specs.Prelude.{map}
use Rattle.js_model.specs.declared.stream.Stream.{Stream}
use Rattle.js_model.specs.Lasting.{lasting_consumer}

abbrev pub lasting_stream : Stream → Stream
lasting_stream s = record s { consumers = map lasting_consumer s.consumers }
