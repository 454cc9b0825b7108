-- The router: sessions, subscriptions, queue groups and waiting frames, by the NATS client protocol.
use Rattle.std.specs.Prelude.{◌⊎◌, ◌-◌, ◌≡◌, ℕ, ◌+◌, ◌^◌, nat_lt, nat_le, Bool, true, false, ◌&&◌, not, ◌==◌, List, [], ◌∷◌, ◌++◌, length, map, filter, fold, sum, Contains, if◌then◌else◌, Option, Some, None, is_none, find, drop}
use Rattle.std.specs.List.{list_any}
use Rattle.js_base.specs.Bytes.{Bytes, same, same_option}
use Rattle.js_base.specs.Subjects.{tokens, matches}
use Rattle.js_base.specs.Framing.{frame}
use Rattle.js_base.specs.declared.out.Out.{Out}
use Rattle.js_base.specs.declared.frame.Frame.{Frame}
use Rattle.js_base.specs.declared.frame.Frame.TheVariants.{Msg}

-- ---- what there is

-- what waits for a session: frames in their order; or a mark, since with one more they would have been so long together
pub data Waiting : Type 0 where
  Queue : (frames : List Frame) → Waiting
  Marked : (length : ℕ) → Waiting

-- an open session: whether it hears itself, whether it takes header blocks, and what waits for it
pub record Session : Type 0 where
  pub number : ℕ
  pub echo : Bool
  pub headers : Bool
  pub waiting : Waiting

-- a session's subscription under an identifier: its pattern, its queue group if it is in one, how many messages were sent to it, and with
-- how many it ends
pub record Subscription : Type 0 where
  pub session : ℕ
  pub sid : Bytes
  pub pattern : Bytes
  pub queue : Option Bytes
  pub sent : ℕ
  pub max : Option ℕ

-- the sessions in order of their opening, the subscriptions in order of their SUBs, and the last session number
pub record Router : Type 0 where
  pub sessions : List Session
  pub subscriptions : List Subscription
  pub latest : ℕ

abbrev pub empty_router : Router
empty_router = record { sessions = []; subscriptions = []; latest = 0 }

-- what the router is asked
pub data RouteCall : Type 0 where
  Open : RouteCall
  Close : (session : ℕ) → RouteCall
  Options : (session : ℕ) (echo headers : Bool) → RouteCall
  Sub : (session : ℕ) (pattern : Bytes) (queue : Option Bytes) (sid : Bytes) → RouteCall
  Unsub : (session : ℕ) (sid : Bytes) (max : Option ℕ) → RouteCall
  Publish : (out : Out) (from : Option ℕ) → RouteCall
  Interest : (subject : Bytes) (queue : Option Bytes) → RouteCall
  Collect : (session max : ℕ) → RouteCall

-- what it answers
pub data RouteTold : Type 0 where
  Done : RouteTold
  Opened : (session : ℕ) → RouteTold
  Taken : (count : ℕ) → RouteTold
  Listens : Bool → RouteTold
  Frames : (list : List Frame) (more : Bool) → RouteTold
  Slow : (length : ℕ) → RouteTold
  NoSession : (latest : ℕ) → RouteTold
  TooManySubs : RouteTold
  Worn : RouteTold
  NoMemory : RouteTold

-- ---- sessions

abbrev pub is_session : ℕ → Session → Bool
is_session n s = s.number == n

abbrev pub session_of : Router → ℕ → Option Session
session_of r n = find (is_session n) r.sessions

abbrev pub is_open : Router → ℕ → Bool
is_open r n = list_any (is_session n) r.sessions

-- a new session hears itself and takes no header blocks
abbrev pub new_session : ℕ → Session
new_session n = record { number = n; echo = true; headers = false; waiting = Queue [] }

abbrev pub opened : Router → Router
opened r = record r { sessions = r.sessions ++ new_session (r.latest + 1) ∷ []; latest = r.latest + 1 }

abbrev pub closed : Router → ℕ → Router
closed r n = record r {
  sessions = filter (λ s. not (is_session n s)) r.sessions;
  subscriptions = filter (λ sub. not (sub.session == n)) r.subscriptions;
}

abbrev pub with_options : ℕ → Bool → Bool → Session → Session
with_options n echo headers s = if is_session n s then record s { echo = echo; headers = headers } else s

abbrev pub configured : Router → ℕ → Bool → Bool → Router
configured r n echo headers = record r { sessions = map (with_options n echo headers) r.sessions }

-- ---- subscribing

abbrev pub is_sub : ℕ → Bytes → Subscription → Bool
is_sub n sid sub = sub.session == n && same sub.sid sid

abbrev pub is_in_use : Router → ℕ → Bytes → Bool
is_in_use r n sid = list_any (is_sub n sid) r.subscriptions

-- how many subscriptions a session has at most
abbrev pub most_subscriptions : ℕ
most_subscriptions = 65536

abbrev pub is_full : Router → ℕ → Bool
is_full r n = nat_le most_subscriptions (length (filter (λ sub. sub.session == n) r.subscriptions))

abbrev pub new_subscription : ℕ → Bytes → Option Bytes → Bytes → Subscription
new_subscription n pattern queue sid = record { session = n; sid = sid; pattern = pattern; queue = queue; sent = 0; max = None }

abbrev pub with_subscription : Router → Subscription → Router
with_subscription r sub = record r { subscriptions = r.subscriptions ++ sub ∷ [] }

-- ---- ending a subscription

-- as many messages were sent as it may get
abbrev pub is_over : Option ℕ → ℕ → Bool
is_over None sent = false
is_over (Some max) sent = nat_le max sent

abbrev pub is_spent : Subscription → Bool
is_spent sub = is_over sub.max sub.sent

-- the subscriptions without this one, if it is spent
abbrev pub without_spent : ℕ → Bytes → List Subscription → List Subscription
without_spent n sid subs = filter (λ sub. not (is_sub n sid sub && is_spent sub)) subs

abbrev pub limited : ℕ → Bytes → ℕ → Subscription → Subscription
limited n sid max sub = if is_sub n sid sub then record sub { max = Some max } else sub

-- a subscription ends at once, or once it was sent this many messages since its SUB
abbrev pub unsubscribed : Router → ℕ → Bytes → Option ℕ → Router
unsubscribed r n sid None = record r { subscriptions = filter (λ sub. not (is_sub n sid sub)) r.subscriptions }
unsubscribed r n sid (Some max) = record r { subscriptions = without_spent n sid (map (limited n sid max) r.subscriptions) }

-- ---- who takes a message

-- a session that does not hear itself
abbrev pub is_deaf : ℕ → Session → Bool
is_deaf n s = is_session n s && not s.echo

abbrev pub is_deaf_to : Router → Option ℕ → ℕ → Bool
is_deaf_to r None n = false
is_deaf_to r (Some from) n = from == n && list_any (is_deaf n) r.sessions

abbrev pub is_match : Bytes → Subscription → Bool
is_match subject sub = matches (tokens sub.pattern) (tokens subject)

abbrev pub hears : Router → Bytes → Option ℕ → Subscription → Bool
hears r subject from sub = is_match subject sub && not (is_deaf_to r from sub.session)

-- the subscriptions that match and are not deaf to the publisher, in order of their SUBs
abbrev pub candidates : Router → Bytes → Option ℕ → List Subscription
candidates r subject from = filter (hears r subject from) r.subscriptions

abbrev pub is_plain : Subscription → Bool
is_plain sub = is_none sub.queue

abbrev pub with_group : Option Bytes → List Bytes → List Bytes
with_group None names = names
with_group (Some name) names = name ∷ filter (λ other. not (same other name)) names

-- the names of the groups, in the order in which their first ones stand
abbrev pub groups : List Subscription → List Bytes
groups [] = []
groups (sub ∷ subs) = with_group sub.queue (groups subs)

pub record IsMember (name : Bytes) (subs : List Subscription) (sub : Subscription) : Type 0 where
  pub candidate : Contains subs sub
  pub member : sub.queue ≡ Some name

-- one member of each group, in the order of the groups: which one is free
abbrev pub AreMembers : List Bytes → List Subscription → List Subscription → Type 0
AreMembers [] subs chosen = chosen ≡ []
AreMembers (name ∷ names) subs chosen =
    (sub : Subscription) × (more : List Subscription) × (chosen ≡ sub ∷ more) × IsMember name subs sub × AreMembers names subs more

-- the takers of a message: each plain candidate, and then those chosen of the groups
abbrev pub takers : Router → Bytes → Option ℕ → List Subscription → List Subscription
takers r subject from chosen = filter is_plain (candidates r subject from) ++ chosen

-- ---- handing it to them

-- a client without headers gets the block left off
abbrev pub frame_for : Out → Bytes → Bool → Frame
frame_for out sid headers = Msg out.subject sid out.reply (if headers then out.headers else []) out.payload

-- how long what waits for a session may be, in bytes: 16 MiB
abbrev pub most_waiting : ℕ
most_waiting = 16777216

abbrev pub bytes_together : List Frame → ℕ
bytes_together frames = sum (map (λ f. length (frame f)) frames)

-- frames that are too long together mark the session
abbrev pub queue_or_mark : List Frame → Waiting
queue_or_mark frames = if nat_lt most_waiting (bytes_together frames) then Marked (bytes_together frames) else Queue frames

-- one more frame waits; a marked session takes it, and it is not queued
abbrev pub with_frame : Frame → Waiting → Waiting
with_frame f (Queue frames) = queue_or_mark (frames ++ f ∷ [])
with_frame f (Marked length) = Marked length

abbrev pub handed_to : Out → Subscription → Session → Session
handed_to out sub s =
    if is_session sub.session s then record s { waiting = with_frame (frame_for out sub.sid s.headers) s.waiting } else s

-- a count stands still at the end of its 64 bits
abbrev pub one_more : ℕ → ℕ
one_more n = if nat_lt (n + 1) (2 ^ 64) then n + 1 else n

abbrev pub counted : ℕ → Bytes → Subscription → Subscription
counted n sid sub = if is_sub n sid sub then record sub { sent = one_more sub.sent } else sub

-- the router after one subscription was sent the message, which may be its last
abbrev pub handed : Out → Router → Subscription → Router
handed out r sub = record r {
  sessions = map (handed_to out sub) r.sessions;
  subscriptions = without_spent sub.session sub.sid (map (counted sub.session sub.sid) r.subscriptions);
}

abbrev pub routed : Router → Out → List Subscription → Router
routed r out subs = fold (handed out) r subs

-- ---- interest and collecting

abbrev pub is_in_group : Option Bytes → Subscription → Bool
is_in_group None sub = true
is_in_group (Some name) sub = same_option sub.queue (Some name)

-- some subscription matches: any, or one of this queue group
abbrev pub is_interest : Router → Bytes → Option Bytes → Bool
is_interest r subject queue = list_any (λ sub. is_match subject sub && is_in_group queue sub) r.subscriptions

-- the longest prefix whose frames are together at most this long
abbrev pub front_within : ℕ → List Frame → List Frame
front_within max [] = []
front_within max (f ∷ fs) = if nat_lt max (length (frame f)) then [] else f ∷ front_within (max - length (frame f)) fs

-- that prefix, or one frame if any waits
abbrev pub collected : ℕ → List Frame → List Frame
collected max [] = []
collected max (f ∷ fs) = f ∷ front_within (max - length (frame f)) fs

abbrev pub left_over : ℕ → List Frame → List Frame
left_over max fs = drop (length (collected max fs)) fs

abbrev pub without_collected : ℕ → Waiting → Waiting
without_collected max (Queue frames) = Queue (left_over max frames)
without_collected max (Marked length) = Marked length

abbrev pub collected_from : ℕ → ℕ → Session → Session
collected_from n max s = if is_session n s then record s { waiting = without_collected max s.waiting } else s

abbrev pub emptied : Router → ℕ → ℕ → Router
emptied r n max = record r { sessions = map (collected_from n max) r.sessions }

-- ---- one call

-- what a call answers and what it leaves
pub record Routed : Type 0 where
  pub told : RouteTold
  pub router : Router

abbrev pub telling : RouteTold → Router → Routed
telling told r = record { told = told; router = r }

-- a call of a session that is open, or the refusal
abbrev pub if_open : Router → ℕ → Routed → Routed
if_open r n after = if is_open r n then after else telling (NoSession r.latest) r

abbrev pub if_publisher_open : Router → Option ℕ → Routed → Routed
if_publisher_open r None after = after
if_publisher_open r (Some n) after = if_open r n after

-- an identifier that is in use stays as it is, even if the session has all the subscriptions that it may have
abbrev pub subscribing : Router → ℕ → Bytes → Option Bytes → Bytes → Routed
subscribing r n pattern queue sid =
    if is_in_use r n sid then telling Done r
    else if is_full r n then telling TooManySubs r
    else telling Done (with_subscription r (new_subscription n pattern queue sid))

abbrev pub publishing : Router → Out → Option ℕ → List Subscription → Routed
publishing r out from chosen =
    let subs = takers r out.to from chosen in telling (Taken (length subs)) (routed r out subs)

abbrev pub frames_told : ℕ → Waiting → RouteTold
frames_told max (Queue fs) = Frames (collected max fs) (nat_lt (length (collected max fs)) (length fs))
frames_told max (Marked length) = Slow length

abbrev pub collect_told : ℕ → Router → Option Session → RouteTold
collect_told max r None = NoSession r.latest
collect_told max r (Some s) = frames_told max s.waiting

-- one call, with these members chosen of the queue groups
unfoldable pub route : Router → RouteCall → List Subscription → Routed
route r Open chosen = if r.latest + 1 == 2 ^ 62 then telling Worn r else telling (Opened (r.latest + 1)) (opened r)
route r (Close n) chosen = telling Done (closed r n)
route r (Options n echo headers) chosen = telling Done (configured r n echo headers)
route r (Sub n pattern queue sid) chosen = if_open r n (subscribing r n pattern queue sid)
route r (Unsub n sid max) chosen = if_open r n (telling Done (unsubscribed r n sid max))
route r (Publish out from) chosen = if_publisher_open r from (publishing r out from chosen)
route r (Interest subject queue) chosen = telling (Listens (is_interest r subject queue)) r
route r (Collect n max) chosen = if_open r n (telling (collect_told max r (session_of r n)) (emptied r n max))

-- one member of each group that a message comes to; no other call chooses
abbrev pub IsChoice : Router → RouteCall → List Subscription → Type 0
IsChoice r (Publish out from) chosen = AreMembers (groups (candidates r out.to from)) (candidates r out.to from) chosen
IsChoice r call chosen = chosen ≡ []

-- the call allocates memory, so it may fail for lack of memory
abbrev pub may_want : RouteCall → Bool
may_want Open = true
may_want (Close n) = false
may_want (Options n echo headers) = false
may_want (Sub n pattern queue sid) = true
may_want (Unsub n sid max) = false
may_want (Publish out from) = true
may_want (Interest subject queue) = false
may_want (Collect n max) = true

-- by some choice the call answers this and leaves this
pub record IsChosen (r : Router) (call : RouteCall) (told : RouteTold) (new : Router) : Type 0 where
  pub chosen : List Subscription
  pub choice : IsChoice r call chosen
  pub routed : route r call chosen ≡ telling told new

-- the call is out of memory, and nothing changed
pub record IsWanting (r : Router) (call : RouteCall) (told : RouteTold) (new : Router) : Type 0 where
  pub told_is : told ≡ NoMemory
  pub same : new ≡ r
  pub may : may_want call ≡ true

-- the call answers this and leaves this
abbrev pub IsRoute : Router → RouteCall → RouteTold → Router → Type 0
IsRoute r call told new = IsChosen r call told new ⊎ IsWanting r call told new

-- ---- runs

pub record RouteEntry : Type 0 where
  pub seat : ℕ
  pub call : RouteCall
  pub told : RouteTold

-- the entries lead from old to new
abbrev pub RouteRun : Router → List RouteEntry → Router → Type 0
RouteRun old [] new = old ≡ new
RouteRun old (entry ∷ entries) new = (mid : Router) × IsRoute old entry.call entry.told mid × RouteRun mid entries new
