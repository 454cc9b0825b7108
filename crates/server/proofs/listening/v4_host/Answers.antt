use Rattle.std.proofs.Common.{◌≡◌, ℕ, ◌<◌, ◌^◌, true, get_or, rules, arith}
use Rattle.std.proofs.lemmas.Grind.{common_steps}
use Rattle.std.specs.Net.Addr.{ipv4_octets}
use Rattle.std.specs.Net.Text.{ipv4_text}
use Rattle.session.specs.Host.{is_plain}
use Rattle.server.proofs.Hosts.{v4_plain}
use Rattle.server.proofs.listening.v4_host.Goals as goal

pub returns-in-Ok-clause-plain : goal.returns-in-Ok-clause-plain
returns-in-Ok-clause-plain c =
    let fits : (k : ℕ) → get_or (ipv4_octets c.args.ip) k 0 < 2 ^ 8 = search rules in
    let plain : is_plain (ipv4_text (ipv4_octets c.args.ip)) ≡ true = v4_plain _ fits in
    first_of (search rules, grind (arith, common_steps))
