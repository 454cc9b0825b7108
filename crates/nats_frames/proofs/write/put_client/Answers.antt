use Rattle.std.proofs.Common.{codes, decimal, ◌++◌, ◌∙◌, ap}
use Rattle.std.proofs.lemmas.Result.{on_ok_weaker}
use Rattle.nats_frames.proofs.Written.{four_written}
use Rattle.nats_frames.proofs.write.put_client.Goals as goal

pub returns-clause-ok : goal.returns-clause-ok
returns-clause-ok c =
    on_ok_weaker c.put_bytes-3.result
    (λ e. four_written c.args.into.now.items c.put_bytes.new.into.items c.put_decimal.new.into.items c.put_bytes-2.new.into.items c.put_bytes-3.new.into.items
    (codes "INFO {\"client_id\":") (decimal c.args.client_id) (codes ",\"headers\":true,\"host\":\"") c.args.host.now
    c.in_ok-put_bytes.ensures.ok c.in_ok-put_decimal.ensures.ok c.in_ok-put_bytes-2.ensures.ok (e ∙ ap (λ h. c.put_bytes-2.new.into.items ++ h) c.as_slice.ensures))
    c.put_bytes-3.ensures.ok
