use Rattle.std.proofs.Common.{codes, decimal, ◌++◌, ◌∙◌, ap}
use Rattle.std.proofs.lemmas.Result.{on_ok_weaker}
use Rattle.nats_frames.proofs.Written.{four_written, line_ended}
use Rattle.nats_frames.proofs.write.put_info.Goals as goal

pub returns-clause-ok : goal.returns-clause-ok
returns-clause-ok c =
    let client = codes "INFO {\"client_id\":" ++ decimal c.args.client_id ++ codes ",\"headers\":true,\"host\":\"" ++ c.args.host.now in
    let middle = codes "\",\"jetstream\":true,\"max_payload\":1048576,\"port\":" in
    let last = codes ",\"proto\":1,\"server_id\":\"JSBLOCK\",\"server_name\":\"jsblock\",\"version\":\"2.10.0\"}" in
    on_ok_weaker c.put_bytes-2.result
    (λ e. four_written c.args.into.now.items c.put_client.new.into.items c.put_bytes.new.into.items c.put_decimal.new.into.items c.put_bytes-2.new.into.items
    client middle (decimal c.args.port) (codes ",\"proto\":1,\"server_id\":\"JSBLOCK\",\"server_name\":\"jsblock\",\"version\":\"2.10.0\"}\r\n")
    c.in_ok-put_client.ensures.ok c.in_ok-put_bytes.ensures.ok (c.in_ok-put_decimal.ensures.ok ∙ ap (λ n. c.put_bytes.new.into.items ++ decimal n) c.from.ensures) e
    ∙ line_ended c.args.into.now.items (client ++ middle ++ decimal c.args.port) last)
    c.put_bytes-2.ensures.ok
