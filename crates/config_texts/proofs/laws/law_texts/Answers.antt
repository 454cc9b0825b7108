use Rattle.config_texts.proofs.StreamTexts.{law_stream_text}
use Rattle.config_texts.proofs.ConsumerTexts.{law_consumer_text}
use Rattle.config_texts.proofs.laws.law_texts.Goals as goal

pub returns : goal.returns
returns c = record { stream = law_stream_text; consumer = law_consumer_text }
