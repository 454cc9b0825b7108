-- A consumer as its spent deliveries are given up, by JetStream's max_deliver. How many that are given up are kept is this server's own.
use Rattle.std.specs.Prelude.{ℕ, Option}
use Rattle.js_base.specs.Bytes.{last_of}
use Rattle.js_model.specs.declared.consumer.Consumer.{Consumer}
use Rattle.consumer_progress.specs.Progresses.{progress_of, with_progress}
use Rattle.consumer_progress.specs.GivingUp.{with_given_up}

-- all that are due at the moment and were made this often are given up
abbrev pub without_spent : ℕ → Option ℕ → Consumer → Consumer
without_spent now most c = with_progress c (with_given_up now most (progress_of c))

-- the greatest 65,536 of those that are given up are kept
abbrev pub with_greatest : Consumer → Consumer
with_greatest c = record c { given_up = last_of 65536 c.given_up }
