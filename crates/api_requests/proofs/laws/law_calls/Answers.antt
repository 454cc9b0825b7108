use Rattle.api_requests.proofs.Spelled.{general_spelled, on_stream_spelled}
use Rattle.api_requests.proofs.SpelledConsumers.{on_consumer_spelled}
use Rattle.api_requests.proofs.laws.law_calls.Goals as goal

pub returns : goal.returns
returns c = record { general = general_spelled; on_stream = on_stream_spelled; on_consumer = on_consumer_spelled }
