-- What a desk knows of the client of its session.
use Rattle.std.specs.Prelude.{ℕ, Bool, true, false, ◌&&◌, Result, Ok, Err}
use Rattle.js_api.specs.declared.fault.DeskFault.{DeskFault}
use Rattle.js_api.specs.Answering.{DeskCall, Open, Options, Sub, Unsub, Publish, Tick, Settle, Collect, Close, DeskAnswer, Opened, Done, Took, Settled, Gave, Slow}

-- the number of the last session of the desk, whether it is open, and whether its client is told if nobody took a message
pub record Client : Type 0 where
  pub session : ℕ
  pub is_open : Bool
  pub told : Bool

-- a client that was just opened is not told
abbrev pub new_client : ℕ → Client
new_client number = record { session = number; is_open = true; told = false }

-- it is told if it takes header blocks and asks for it
abbrev pub with_options : Client → Bool → Bool → Client
with_options client headers no_responders = record client { told = headers && no_responders }

abbrev pub closed : Client → Client
closed client = record client { is_open = false }

abbrev pub client_opened : Client → Result DeskAnswer DeskFault → Client
client_opened client (Ok (Opened number)) = new_client number
client_opened client (Ok Done) = client
client_opened client (Ok (Took taken)) = client
client_opened client (Ok (Settled ready)) = client
client_opened client (Ok (Gave list more)) = client
client_opened client (Ok (Slow length)) = client
client_opened client (Err fault) = client

abbrev pub client_set : Client → Bool → Bool → Result DeskAnswer DeskFault → Client
client_set client headers no_responders (Ok answer) = with_options client headers no_responders
client_set client headers no_responders (Err fault) = client

-- the client after a call. One that was closed is so also if the numbers of turns are used up
abbrev pub client_after : Client → DeskCall → Result DeskAnswer DeskFault → Client
client_after client Open result = client_opened client result
client_after client (Options echo headers no_responders) result = client_set client headers no_responders result
client_after client (Sub subject queue sid) result = client
client_after client (Unsub sid max) result = client
client_after client (Publish message now) result = client
client_after client (Tick now) result = client
client_after client (Settle now) result = client
client_after client (Collect max) result = client
client_after client Close result = closed client
