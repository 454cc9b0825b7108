-- Where `serve` keeps its streams, where it listens, and for how many.
use Rattle.std.specs.Prelude.{ℕ, ◌==◌, Bool, ◌&&◌, List, Option, Some, None, option_map, option_and_then, length, codes, nat_le, not, if◌then◌else◌}
use Rattle.std.specs.Char.{is_ascii_digit}
use Rattle.std.specs.List.{list_all}
use Rattle.std.specs.Str.Parse.{digits_value}
use Rattle.std.specs.declared.net.socket_addr.SocketAddr.{SocketAddr}
use Rattle.js_base.specs.Bytes.{Bytes, is_empty}
use Rattle.server.specs.Addresses.{address_of}
use Rattle.server.specs.Settings.{Setting, value_of, dir_option, listen_option, workers_option, accepts_option}
use Rattle.server.specs.declared.listening.AcceptLimit.{AcceptLimit}
use Rattle.server.specs.declared.listening.AcceptLimit.TheVariants.{Unlimited, Connections}
use Rattle.server.specs.declared.listening.Listening.{Listening}

-- a number has 1 to 19 decimal digits, and may begin with zeros
abbrev pub is_number : Bytes → Bool
is_number text = not (is_empty text) && nat_le (length text) 19 && list_all is_ascii_digit text

-- the number that the text spells
abbrev pub number_of : Bytes → Option ℕ
number_of text = if is_number text then Some (digits_value 10 text) else None

-- this machine alone, at the port of NATS
abbrev pub usual_listen : Bytes
usual_listen = codes "127.0.0.1:4222"

-- the address that is told, or the usual one
abbrev pub listen_of : Option Bytes → Option SocketAddr
listen_of None = address_of usual_listen
listen_of (Some text) = address_of text

-- there are 1 to 32 workers
abbrev pub few_workers : ℕ → Option ℕ
few_workers n = if nat_le 1 n && nat_le n 32 then Some n else None

-- how many workers are told, or 16
abbrev pub workers_of : Option Bytes → Option ℕ
workers_of None = Some 16
workers_of (Some text) = option_and_then few_workers (number_of text)

-- 0 is no limit
abbrev pub limit_of : ℕ → AcceptLimit
limit_of n = if n == 0 then Unlimited else Connections n

-- how many connections are told, or no limit
abbrev pub accepts_of : Option Bytes → Option AcceptLimit
accepts_of None = Some Unlimited
accepts_of (Some text) = option_map limit_of (number_of text)

infixl 10 ◌>>=◌
abbrev ◌>>=◌ : {A B : Type 0} → Option A → (A → Option B) → Option B
o >>= f = option_and_then f o

-- what is said, if each part of it is there
abbrev pub said : Option Bytes → Option SocketAddr → Option ℕ → Option AcceptLimit → Option Listening
said folder address count limit = do
  dir ← folder
  listen ← address
  workers ← count
  accepts ← limit
  Some (record { dir = dir; listen = listen; workers = workers; accepts = accepts })

-- what the settings of `serve` say; the folder is told always
abbrev pub listening_of : List Setting → Option Listening
listening_of settings = said (value_of dir_option settings) (listen_of (value_of listen_option settings)) (workers_of (value_of workers_option settings)) (accepts_of (value_of accepts_option settings))
