-- What a session knows of its client, what an operation or a tick asks of the desk, and how it is answered, by the NATS client protocol.
use Rattle.std.specs.Prelude.{ℕ, Bool, true, false, ◌&&◌, List, [], codes, if◌then◌else◌, Option, Some, None, Result, Ok, Err}
use Rattle.js_base.specs.Bytes.{Bytes}
use Rattle.js_base.specs.Headers.{is_block}
use Rattle.js_base.specs.Subjects.{is_pattern_text, is_publish_text, is_subject_text}
use Rattle.js_base.specs.Framing.{frame}
use Rattle.js_base.specs.declared.out.Out.{Out}
use Rattle.js_base.specs.declared.frame.Frame.TheVariants.{Pong as Answer, Ok as Fine, Err as Error}
use Rattle.nats_frames.specs.declared.op.Op.{Op}
use Rattle.nats_frames.specs.declared.op.Op.TheVariants.{Connect, Pub, HPub, Sub, Unsub, Ping, Pong}
use Rattle.js_api.specs.Clients as clients
use Rattle.js_api.specs.Answering as desk
use Rattle.js_api.specs.declared.fault.DeskFault.{DeskFault}
use Rattle.js_api.specs.declared.fault.DeskFault.TheVariants as faults
use Rattle.session.specs.Connecting.{connect_options}
use Rattle.session.specs.declared.connect.ConnectOptions.{ConnectOptions}
use Rattle.session.specs.declared.ending.Refusal.{Refusal}
use Rattle.session.specs.declared.ending.Refusal.TheVariants.{BadConnect, BadHeaders}

-- the client as the desk has it, whether its operations are answered by `+OK`, whether a wrong subject of a publish is told, the moments of the PINGs
-- that it has not answered, and whether its session lets time pass behind each turn
pub record Peer : Type 0 where
  pub client : clients.Client
  pub verbose : Bool
  pub pedantic : Bool
  pub pings : List ℕ
  pub ticks : Bool

-- before the first CONNECT each operation is answered, and each wrong subject told
abbrev pub new_peer : Bool → ℕ → Peer
new_peer ticks session = record { client = clients.new_client session; verbose = true; pedantic = true; pings = []; ticks = ticks }

-- ---- what an operation and a tick ask

-- what a session carries out in its turn: operations, and then one tick, which ends the turn
pub data Act : Type 0 where
  Hears : Op → Act
  Ticks : Act

-- a call of the desk, or none; an error line that leaves the connection open; a publish that goes to nobody; or the end of the session
pub data Request : Type 0 where
  Calls : desk.DeskCall → Request
  CallsNothing : Request
  IsWrong : (text : Bytes) → Request
  IsUnpublishable : Request
  IsRefused : Refusal → Request

abbrev pub connecting : Option ConnectOptions → Request
connecting None = IsRefused BadConnect
connecting (Some options) = Calls (desk.Options options.echo options.headers options.no_responders)

abbrev pub is_reply : Option Bytes → Bool
is_reply None = true
is_reply (Some reply) = is_subject_text reply

-- a message of a client, with its header block or none
abbrev pub message : Bytes → Option Bytes → Bytes → Bytes → Out
message subject reply headers payload = record { to = subject; subject = subject; reply = reply; headers = headers; payload = payload }

abbrev pub publishing : ℕ → Out → Request
publishing now out = if is_publish_text out.to && is_reply out.reply then Calls (desk.Publish out now) else IsUnpublishable

abbrev pub subscribing : Bytes → Option Bytes → Bytes → Request
subscribing subject queue sid = if is_pattern_text subject then Calls (desk.Sub subject queue sid) else IsWrong (codes "Invalid Subject")

-- what an operation asks at a moment. A header block is looked at before the subject
abbrev pub op_request : ℕ → Op → Request
op_request now (Connect text) = connecting (connect_options text)
op_request now (Pub subject reply payload) = publishing now (message subject reply [] payload)
op_request now (HPub subject reply headers payload) = if is_block headers then publishing now (message subject reply headers payload) else IsRefused BadHeaders
op_request now (Sub subject queue sid) = subscribing subject queue sid
op_request now (Unsub sid max) = Calls (desk.Unsub sid max)
op_request now Ping = CallsNothing
op_request now Pong = CallsNothing

-- At a tick, time passes at the desk's next place. A session that does not let it pass itself asks nothing there: somebody else does so for all sessions.
abbrev pub request : Peer → ℕ → Act → Request
request peer now (Hears op) = op_request now op
request peer now Ticks = if peer.ticks then Calls (desk.Tick now) else CallsNothing

-- ---- the client after an operation

abbrev pub connected : Peer → Option ConnectOptions → Peer
connected peer None = peer
connected peer (Some options) =
    record peer {
      client = clients.with_options peer.client options.headers options.no_responders;
      verbose = options.verbose;
      pedantic = options.pedantic;
    }

abbrev pub peer_after_op : Peer → Op → Peer
peer_after_op peer (Connect text) = connected peer (connect_options text)
peer_after_op peer (Pub subject reply payload) = peer
peer_after_op peer (HPub subject reply headers payload) = peer
peer_after_op peer (Sub subject queue sid) = peer
peer_after_op peer (Unsub sid max) = peer
peer_after_op peer Ping = peer
peer_after_op peer Pong = record peer { pings = [] }

abbrev pub peer_after : Peer → Act → Peer
peer_after peer (Hears op) = peer_after_op peer op
peer_after peer Ticks = peer

-- ---- how it is answered

abbrev pub error_line : Bytes → Bytes
error_line text = frame (Error text)

abbrev pub fine : Bool → Bytes
fine true = frame Fine
fine false = []

-- A publish whose subjects are wrong: a pedantic client is told, and for any other one it is an operation like the rest. The answer is that of the
-- NATS server.
abbrev pub unpublishable_bytes : (verbose pedantic : Bool) → Bytes
unpublishable_bytes verbose true = error_line (codes "Invalid Publish Subject")
unpublishable_bytes verbose false = fine verbose

-- a call of the desk that was answered, or a fault of it; the session ends by each other fault, and nothing is said for it
abbrev pub called_bytes : Bool → Result desk.DeskAnswer DeskFault → Bytes
called_bytes verbose (Ok answer) = fine verbose
called_bytes verbose (Err faults.NoMemory) = []
called_bytes verbose (Err faults.TooManySubs) = error_line (codes "maximum subscriptions exceeded")
called_bytes verbose (Err (faults.Worn number)) = []
called_bytes verbose (Err (faults.NoSession latest)) = []

-- PING and PONG are not answered by `+OK`
abbrev pub uncalled_bytes : Op → Bytes
uncalled_bytes Ping = frame Answer
uncalled_bytes Pong = []
uncalled_bytes (Connect text) = []
uncalled_bytes (Pub subject reply payload) = []
uncalled_bytes (HPub subject reply headers payload) = []
uncalled_bytes (Sub subject queue sid) = []
uncalled_bytes (Unsub sid max) = []
