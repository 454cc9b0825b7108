-- What is known of a notice, who is told what a server found.
use Rattle.std.specs.Prelude.{ℕ, Option, None, Some, option_map}
use Rattle.js_base.specs.Causes.{raised}
use Rattle.link_edge.specs.declared.notice.Found.{Found}

-- how often it was told what was found, and what it was told last
pub record NoticeTold : Type 0 where
  pub times : ℕ
  pub last : Option Found

-- it was told nothing yet
abbrev pub untold : NoticeTold
untold = record { times = 0; last = None }

-- after it was told that this was found
abbrev pub with_found : NoticeTold → Found → NoticeTold
with_found told found = record { times = raised told.times; last = Some found }

-- the same, if it is known what it was told
abbrev pub noticed : Option NoticeTold → Found → Option NoticeTold
noticed known found = option_map (λ told. with_found told found) known
