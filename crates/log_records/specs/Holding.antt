-- What the records of a log have made so far, replayed or folded over lists, by a rule of this server's own: what is replayed is storable behind each record.
use Rattle.std.specs.Prelude.{◌≡◌, ⊤}
use Rattle.effects.specs.declared.durable.Durable.{Durable}
use Rattle.durable_checks.specs.Storable.{IsStorable}
use Rattle.log_records.specs.Logged.{Logged, IsLogged}
use Rattle.log_records.specs.Unread.{unread_subject}
use Rattle.log_records.specs.declared.held.Held.{Held}
use Rattle.log_records.specs.declared.held.Held.TheVariants.{Replayed, Folded}
use Rattle.log_records.specs.declared.made.Made.{Made}
use Rattle.log_records.specs.declared.log.LogRead.{LogRead}

abbrev pub held_in : Held → Durable
held_in (Replayed replay) = replay
held_in (Folded durable) = durable

abbrev pub IsReplayStorable : Held → Type 0
IsReplayStorable (Replayed replay) = IsStorable replay
IsReplayStorable (Folded durable) = ⊤

abbrev pub IsReplayed : Held → Type 0
IsReplayed (Replayed replay) = ⊤
IsReplayed (Folded durable) = ⊥

pub record IsHeldOf (d : Durable) (held : Held) : Type 0 where
  pub is : held_in held ≡ d
  pub replay : IsReplayStorable held

abbrev pub made_in : Made → Logged
made_in made = record { durable = held_in made.held; blocks = made.table }

-- what holds behind each record
pub record IsSoundMade (made : Made) : Type 0 where
  pub logged : IsLogged (made_in made)
  pub replay : IsReplayStorable made.held
  pub subject : made.subject ≡ unread_subject

-- it is this, and sound
pub record IsMadeOf (g : Logged) (made : Made) : Type 0 where
  pub is : made_in made ≡ g
  pub sound : IsSoundMade made

-- what was read of a log
abbrev pub given_in : LogRead → Logged
given_in read = record { durable = read.durable; blocks = read.table }
