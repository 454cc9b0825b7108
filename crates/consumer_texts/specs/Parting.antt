-- What a waiting pull is told when its consumer is gone, by JetStream's consumer deletion.
use Rattle.std.specs.Prelude.{[], codes}
use Rattle.js_base.specs.Status.{status}
use Rattle.js_base.specs.declared.out.Out.{Out}
use Rattle.js_model.specs.declared.consumer.Pull.{Pull}
use Rattle.js_model.specs.Advance.{status_out}

abbrev pub farewell_of : Pull → Out
farewell_of p = status_out p.reply (status 409 (codes "Consumer Deleted") [])
