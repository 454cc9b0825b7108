-- The laws of configurations, by JetStream's consumer configuration: which ones can be printed, and that what is printed of one is read as the same.
use Rattle.std.specs.Prelude.{◌≡◌, IsTrue, Ok}
use Rattle.js_model.specs.Configs.{is_consumer_config}
use Rattle.js_model.specs.declared.consumer_config.ConsumerConfig.{ConsumerConfig}
use Rattle.consumer_config.specs.Reading.{reading}
use Rattle.consumer_config.specs.Printing.{printed, IsPrinted}

-- each configuration can be printed
abbrev pub LawPrintable : Type 0
LawPrintable = (c : ConsumerConfig) → IsTrue (is_consumer_config c) → IsPrinted c

-- what is printed of one is read as the same
abbrev pub LawPrintedRead : Type 0
LawPrintedRead = (c : ConsumerConfig) → IsTrue (is_consumer_config c) → reading c.name (printed c) ≡ Ok c
