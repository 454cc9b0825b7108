-- Between which moments no entry becomes due, this server's own.
use Rattle.std.specs.Prelude.{ℕ, ◌≤◌, ◌<◌, Option, Some, None}
use Rattle.js_model.specs.declared.consumer.Pending.{Pending}
use Rattle.pending_table.specs.declared.outlook.Outlook.{Outlook}

-- the entry does not become due after the one moment and before the next; if there is no next, it does not after the one
abbrev pub IsQuiet : ℕ → Option ℕ → Pending → Type 0
IsQuiet since None p = p.due ≤ since
IsQuiet since (Some next) p = since < p.due → next ≤ p.due

-- so it is foreseen
abbrev pub IsForeseen : Outlook → Pending → Type 0
IsForeseen o p = IsQuiet o.since o.next p
