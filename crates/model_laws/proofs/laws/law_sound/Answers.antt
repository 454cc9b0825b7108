use Rattle.model_laws.proofs.Sounding.{law_sound}
use Rattle.model_laws.proofs.Lasting.{sound_lasting}
use Rattle.model_laws.proofs.SoundTests.{stored_test, matched_test}
use Rattle.model_laws.proofs.laws.law_sound.Goals as goal

pub returns : goal.returns
returns c = record { law = law_sound; lasting = sound_lasting; stored_test = stored_test; matched_test = matched_test }
