-- A link that gives its input in pieces of one length.
use Rattle.std.specs.Prelude.{ℕ, ◌+◌, ◌-◌, ◌^◌, ◌==◌, min, length, drop, if◌then◌else◌}
use Rattle.js_base.specs.Bytes.{Bytes}
use Rattle.link_edge.specs.declared.answers.Take.{Take}
use Rattle.link_edge.specs.declared.answers.Take.TheVariants.{Got, Ended}

-- the bytes that are left, how long a piece is, and how many bytes it was given
pub record Cut : Type 0 where
  pub left : Bytes
  pub len : ℕ
  pub given : ℕ

abbrev pub cut_of : Bytes → ℕ → Cut
cut_of input len = record { left = input; len = len; given = 0 }

-- how long the next piece is, given so much room
abbrev pub piece_len : Cut → ℕ → ℕ
piece_len cut room = min (min cut.len (length cut.left)) room

abbrev pub take_of : Cut → ℕ → Take
take_of cut room = if piece_len cut room == 0 then Ended else Got (piece_len cut room)

abbrev pub after_take : Cut → ℕ → Cut
after_take cut room = record cut { left = drop (piece_len cut room) cut.left }

-- so many bytes were given
abbrev pub counted : Cut → ℕ → Cut
counted cut count = record cut { given = min (cut.given + count) (2 ^ 64 - 1) }
