use Rattle.std.proofs.Common.{◌≡◌, ℕ, ◌<◌, ◌^◌, true, get_or, rules, arith}
use Rattle.std.proofs.lemmas.Grind.{common_steps}
use Rattle.std.specs.Net.Addr.{ipv6_segments}
use Rattle.std.specs.Net.Text.{ipv6_text}
use Rattle.session.specs.Host.{is_plain}
use Rattle.server.proofs.Hosts.{v6_plain}
use Rattle.server.proofs.listening.v6_host.Goals as goal

pub returns-in-Ok-clause-plain : goal.returns-in-Ok-clause-plain
returns-in-Ok-clause-plain c =
    let fits : (k : ℕ) → get_or (ipv6_segments c.args.ip) k 0 < 2 ^ 16 = search rules in
    let plain : is_plain (ipv6_text (ipv6_segments c.args.ip)) ≡ true = v6_plain _ fits in
    first_of (search rules, grind (arith, common_steps))
