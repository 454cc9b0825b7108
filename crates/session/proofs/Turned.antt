-- Laws of one turn.
use Rattle.std.proofs.Common.{◌≡◌, ℕ, ◌+◌, ◌≤◌, ◌⊎◌, List, [], ◌∷◌, ◌++◌, length, Option, Some, Result, Ok, Err, unwrap_or, refl, sym, ap, subst, ◌∙◌, append_assoc, inl, inr, arith}
use Rattle.std.proofs.lemmas.List.{append-nil}
use Rattle.js_base.specs.Bytes.{Bytes}
use Rattle.js_base.specs.Framing.{frame}
use Rattle.js_base.specs.declared.frame.Frame.TheVariants.{Ping}
use Rattle.link_edge.specs.Told.{grown}
use Rattle.link_edge.specs.Moments.{ReadsMoment, ReadsMoments}
use Rattle.link_edge.specs.Failings.{HasNoFailings}
use Rattle.link_edge.specs.declared.answers.Answer.{Answer}
use Rattle.link_edge.specs.declared.answers.Answer.TheVariants as answers
use Rattle.link_edge.specs.declared.failings.Failings.{Failings}
use Rattle.link_edge.proofs.Told.{grown-nil, grown_on}
use Rattle.js_api.specs.Entries.{DeskEntry}
use Rattle.js_api.specs.Clients.{Client}
use Rattle.session.specs.Calling.{Called}
use Rattle.session.specs.Keeping.{pinged, ping_bytes}
use Rattle.session.specs.Peer.{Act, Peer}
use Rattle.session.specs.Talk.{Spoken, Stage, start, Turn, Within, Waiting, Told, Nothing, IsUnspent, IsWithin, IsCause, Ends, EndsBetween, EndsStopped, EndsPinging, EndsBy, IsUnwritten, IsCutOff, last_line, is_due, greeting, heard_bytes, heard_in, peer_in, pinged_peer, spoken_bytes, entries_of_spoken}
use Rattle.session.specs.Ticking.{IsTicked, IsTickCut, Stops, Within as StopsWithin, Between as StopsBetween}
use Rattle.session.specs.Failing.{FailsBy, FailsIn}
use Rattle.session.specs.Hearing.{IsHeard, IsCut, StopsAt}
use Rattle.session.proofs.Behind.{front_of, ends_behind}
use Rattle.session.proofs.Stopped.{IsStopEnd, stop_ends}
use Rattle.session.specs.Turning.{IsTurn, IsLastTurn, IsKept, IsGivenUp, IsUnpinged, IsRested, IsUnkept, IsUnticked, Rests, Turns}
use Rattle.session.specs.declared.ending.Limits.{Limits}
use Rattle.session.specs.declared.ending.Ended.{Ended}
use Rattle.session.specs.declared.ending.Ended.TheVariants as ends
use Rattle.session.specs.declared.ending.Refusal.TheVariants as refusals

abbrev piece_turn : Bytes → ℕ → List Spoken → Turn
piece_turn piece now spoken = record { answer = answers.Piece piece; moment = now; spoken = spoken }

abbrev quiet_turn : ℕ → List Spoken → Turn
quiet_turn now spoken = record { answer = answers.Quiet; moment = now; spoken = spoken }

-- one moment was read
reads_one : (c c1 : Option (List ℕ)) (now : ℕ) → ReadsMoment c now c1 → ReadsMoments c (now ∷ []) c1
reads_one c c1 now h = (h.first, h.rest)

-- ---- the cause of an end within a turn

module _ (limits : Limits) (session : ℕ) (old : Stage) (turn : Turn) where
  none_begun : (begun : List Act) (rest : Bytes) (taken : ℕ) → begun ≡ [] → IsWithin limits old turn begun rest taken → IsWithin limits old turn [] rest taken
  none_begun begun rest taken e w = subst (λ (acts : List Act). IsWithin limits old turn acts rest taken) e w

  one_begun : (act : Act) (begun : List Act) (rest : Bytes) (taken : ℕ) → begun ≡ act ∷ [] → IsWithin limits old turn begun rest taken
      → IsWithin limits old turn (act ∷ []) rest taken
  one_begun act begun rest taken e w = subst (λ (acts : List Act). IsWithin limits old turn acts rest taken) e w

  last-is : (begun acts : List Act) (calls made : List Called) → begun ≡ acts → calls ≡ made → Within turn begun calls ≡ Within turn acts made
  last-is begun acts calls made e f = cc

  no_more : (said : Bytes) → said ≡ [] → heard_in old turn ++ said ≡ heard_in old turn
  no_more said e = ap (λ (bytes : Bytes). heard_in old turn ++ bytes) e ∙ append-nil (heard_in old turn)

  abbrev IsEnd : Ended → List Act → List Called → Bytes → Type 0
  IsEnd cause begun calls said = IsCause limits (start limits session) old (greeting limits session) cause (Within turn begun calls) (heard_in old turn ++ said)

  -- within an operation or the tick
  stopped_cause : (cause : Ended) (begun : List Act) (calls : List Called) (said : Bytes) → IsStopEnd cause
      → EndsStopped limits old cause (Within turn begun calls) (heard_in old turn ++ said) → IsEnd cause begun calls said
  stopped_cause ends.Closed begun calls said s h = absurd s
  stopped_cause (ends.Refused (refusals.Frame fault)) begun calls said s h = absurd s
  stopped_cause (ends.Refused refusals.BadConnect) begun calls said s h = h
  stopped_cause (ends.Refused refusals.BadHeaders) begun calls said s h = h
  stopped_cause (ends.Refused refusals.NumbersUsed) begun calls said s h = h
  stopped_cause (ends.Slow size) begun calls said s h = h
  stopped_cause ends.Stale begun calls said s h = absurd s
  stopped_cause ends.LinkFault begun calls said s h = absurd s
  stopped_cause ends.InputLimit begun calls said s h = absurd s
  stopped_cause ends.NoMemory begun calls said s h = inr (inr (inr (inl h)))

  -- behind all that was carried out
  between_cause : (cause : Ended) (begun : List Act) (calls : List Called) (said : Bytes) → IsUnwritten cause
      → EndsBetween limits old (Within turn begun calls) (heard_in old turn ++ said) → IsEnd cause begun calls said
  between_cause cause begun calls said (inl e) h = subst (λ (x : Ended). IsEnd x begun calls said) (sym e) (inr (inr (inl h)))
  between_cause cause begun calls said (inr e) h = subst (λ (x : Ended). IsEnd x begun calls said) (sym e) (inr (inr (inl h)))

  -- what stops the turn is the cause of the session's end
  stop_cause : (cause : Ended) (begun : List Act) (calls : List Called) (taken : ℕ) (rest said : Bytes) → IsWithin limits old turn begun rest taken
      → Stops cause (peer_in old turn) turn.moment begun calls said → IsEnd cause begun calls said
  stop_cause cause begun calls taken rest said w (StopsWithin act e h) =
      stopped_cause cause begun calls said (stop_ends (peer_in old turn) turn.moment act cause calls said h)
      (record {
        turn = turn;
        act = act;
        calls = calls;
        rest = rest;
        taken = taken;
        more = said;
        last_is = last-is begun (act ∷ []) calls calls e refl;
        within = one_begun act begun rest taken e w;
        stopped = h;
        said_is = refl;
      })
  stop_cause cause begun calls taken rest said w (StopsBetween e c s u) =
      between_cause cause begun calls said u
      (record {
        turn = turn;
        rest = rest;
        taken = taken;
        last_is = last-is begun [] calls [] e c;
        within = none_begun begun rest taken e w;
        said_is = no_more said s;
      })

  cut_cause : (cause : Ended) (begun : List Act) (calls : List Called) (before taken : ℕ) (rest said : Bytes) → IsWithin limits old turn begun rest taken
      → before + length rest ≡ taken → StopsAt cause (peer_in old turn) turn.moment begun calls before rest said → IsEnd cause begun calls said
  cut_cause cause begun calls before taken rest said w p (inl h) = stop_cause cause begun calls taken rest said w h
  cut_cause cause begun calls before taken rest said w p (inr h) =
      subst (λ (x : Ended). IsEnd x begun calls said) (sym h.cause_is)
      (record {
        turn = turn;
        rest = rest;
        taken = taken;
        before = before;
        last_is = last-is begun [] calls [] h.none_begun h.no_calls;
        within = none_begun begun rest taken h.none_begun w;
        place = p;
        refused = h.refused;
        said_is = no_more said h.unsaid;
      })

-- ---- a piece

-- it was heard whole
pub turned_heard : {D : Type 0} (made : D → List DeskEntry → D → Type 0) (limits : Limits) (old : Stage) (peer : Peer) (now taken : ℕ) (piece held : Bytes) (d d1 : D)
    (a0 a1 a2 : Option (List Answer)) (g0 g1 g2 : Option Bytes) (c0 c1 : Option (List ℕ)) (f0 f1 : Option Failings) → IsUnspent limits old → a1 ≡ grown a0 (answers.Piece piece ∷ [])
    → g1 ≡ g0 → ReadsMoment c0 now c1 → (HasNoFailings f0 → f1 ≡ f0) → IsHeard made now old.peer peer d d1 (old.held ++ piece) held g1 g2 → a2 ≡ a1 → taken ≡ old.taken + length piece → taken ≤ limits.input
    → IsTurn made limits old (record { held = held; taken = taken; quiets = 0; peer = peer; came = Some now }) d d1 a0 a2 g0 g2 c0 c1 f0 f1
turned_heard made limits old peer now taken piece held d d1 a0 a1 a2 g0 g1 g2 c0 c1 f0 f1 unspent said kept read none k same t fits = record {
  turn = piece_turn piece now k.spoken;
  said = heard_bytes old.peer now k.spoken;
  whole = record {
    unspent = unspent;
    goes = record {
      ops = k.ops;
      are_spoken = k.are_spoken;
      acts = k.acts;
      split = k.split;
      idle = k.idle;
      taken = t;
      quiets = refl;
      peer = k.peer;
      came = refl;
      said_is = refl;
    };
    fits = fits;
  };
  answered = same ∙ said;
  moment = read;
  led = k.led;
  given = k.given ∙ ap (λ (o : Option Bytes). grown o (heard_bytes old.peer now k.spoken)) kept;
  unfailing = none;
}

-- the session ends within it
pub turned_cut : {D : Type 0} (made : D → List DeskEntry → D → Type 0) (limits : Limits) (session : ℕ) (old : Stage) (ended : Ended) (now all : ℕ) (piece : Bytes) (d d1 : D)
    (a0 a1 a2 : Option (List Answer)) (g0 g1 g2 : Option Bytes) (c0 c1 : Option (List ℕ)) (f0 f1 : Option Failings) → IsUnspent limits old
    → a1 ≡ grown a0 (answers.Piece piece ∷ []) → g1 ≡ g0 → ReadsMoment c0 now c1 → (HasNoFailings f0 → FailsBy ended f0 f1) → IsCut ended made now old.peer d d1 (old.held ++ piece) all g1 g2 → a2 ≡ a1 → all ≡ old.taken + length piece
    → old.taken + length piece ≤ limits.input → IsLastTurn made limits session ended old d d1 a0 a2 g0 g2 c0 c1 f0 f1
turned_cut made limits session old ended now all piece d d1 a0 a1 a2 g0 g1 g2 c0 c1 f0 f1 unspent said kept read fails k same t fits =
    let turn = piece_turn piece now k.spoken in
    let heard = heard_bytes old.peer now k.spoken in
    let within : IsWithin limits old turn k.begun k.rest (old.taken + length piece) = record { unspent = unspent; are_spoken = k.are_spoken; begins = (k.acts, refl, fits) } in
    record {
      last = Within turn k.begun k.calls;
      more = k.out;
      greeted = tt;
      ends = record {
        cause = k.cause;
        said = heard ++ k.said;
        is_cause = cut_cause limits session old turn k.cause k.begun k.calls k.before (old.taken + length piece) k.rest k.said within (k.place ∙ t) k.stops;
        ends_as = subst (EndsBy k.cause ended k.out) (sym (append_assoc heard k.said (last_line k.cause))) k.ends_by;
      };
      answered = same ∙ said;
      moments = reads_one c0 c1 now read;
      led = k.led;
      given = k.given ∙ ap (λ (o : Option Bytes). grown o k.out) kept;
      failings = fails;
    }

-- ---- a quiet turn

-- one Quiet more came in a row, and these PINGs are not answered
abbrev quiet_stage : Stage → Client → List ℕ → ℕ → Stage
quiet_stage old client pings came = record {
  held = old.held;
  taken = old.taken;
  quiets = old.quiets + 1;
  peer = record { client = client; verbose = old.peer.verbose; pedantic = old.peer.pedantic; pings = pings; ticks = old.peer.ticks };
  came = Some came;
}

module _ {D : Type 0} (made : D → List DeskEntry → D → Type 0) (now : ℕ) (old : Stage) (d d1 : D) (g0 g1 g2 : Option Bytes) where
  -- the client was kept, and the tick was carried out
  pub rested : (client : Client) (pings : List ℕ) (came : ℕ) → client ≡ old.peer.client → came ≡ unwrap_or old.came now → IsKept came now old.peer.pings pings g0 g1
      → IsTicked made (record { client = old.peer.client; verbose = old.peer.verbose; pedantic = old.peer.pedantic; pings = pings; ticks = old.peer.ticks }) now d d1 [] g1 g2
      → IsRested made now old (quiet_stage old client pings came) d d1 g0 g2
  rested client pings came same e k t =
      let k1 = subst (λ (n : ℕ). IsKept n now old.peer.pings pings g0 g1) e k in
      let peer = pinged_peer old now in
      let due = is_due old now in
      let after = ap (λ (c : Client). quiet_stage old c pings came) same ∙ ap (λ (ps : List ℕ). quiet_stage old old.peer.client ps came) k1.pings
      ∙ ap (λ (n : ℕ). quiet_stage old old.peer.client (pinged due old.peer.pings now) n) e in
      let t1 = subst (λ (ps : List ℕ). IsTicked made (record { client = old.peer.client; verbose = old.peer.verbose; pedantic = old.peer.pedantic; pings = ps; ticks = old.peer.ticks }) now d d1 [] g1 g2) k1.pings t in
      let heard = heard_bytes peer now (t1.spoken ∷ []) in
      record {
        spoken = t1.spoken ∷ [];
        said = ping_bytes due ++ heard;
        waits = record { alive = k1.alive; are_spoken = (t1.is_spoken, tt); acts = ap (λ (act : Act). act ∷ []) t1.act_is; after = after; said_is = refl };
        led = subst (λ (es : List DeskEntry). made d es d1) (sym (append-nil (entries_of_spoken t1.spoken))) t1.led;
        given = grown_on g0 g1 g2 (ping_bytes due) heard k1.given (t1.given ∙ ap (grown g1) (sym (append-nil (spoken_bytes peer now t1.spoken))));
      }

  -- the client was kept, and the session ended within the tick or behind it
  pub unticked : (pings : List ℕ) (came : ℕ) (ended : Ended) → came ≡ unwrap_or old.came now → IsKept came now old.peer.pings pings g0 g1
      → IsTickCut ended made (record { client = old.peer.client; verbose = old.peer.verbose; pedantic = old.peer.pedantic; pings = pings; ticks = old.peer.ticks }) now d d1 [] g1 g2
      → IsUnticked ended made now old d d1 g0 g2
  unticked pings came ended e k t =
      let k1 = subst (λ (n : ℕ). IsKept n now old.peer.pings pings g0 g1) e k in
      record {
        alive = k1.alive;
        mid = g1;
        pinged = k1.given;
        cut = subst (λ (ps : List ℕ). IsTickCut ended made (record { client = old.peer.client; verbose = old.peer.verbose; pedantic = old.peer.pedantic; pings = ps; ticks = old.peer.ticks }) now d d1 [] g1 g2) k1.pings t;
      }

-- the session ended before the tick
pub unkept : {D : Type 0} (made : D → List DeskEntry → D → Type 0) (now : ℕ) (old : Stage) (d : D) (g0 g1 : Option Bytes) (came : ℕ) (ended : Ended) → made d [] d
    → came ≡ unwrap_or old.came now → IsGivenUp ended now old.peer.pings g0 g1 ⊎ IsUnpinged ended came now old.peer.pings g0 g1 → IsUnkept ended made now old d d g0 g1
unkept made now old d g0 g1 came ended h e k = record {
  led = h;
  ends = subst (λ (n : ℕ). IsGivenUp ended now old.peer.pings g0 g1 ⊎ IsUnpinged ended n now old.peer.pings g0 g1) e k;
}

module _ {D : Type 0} (made : D → List DeskEntry → D → Type 0) (limits : Limits) (session : ℕ) (old : Stage) (now : ℕ) (d d1 : D) (a0 a1 a2 : Option (List Answer)) (g0 g1 g2 : Option Bytes)
    (c0 c1 : Option (List ℕ)) (f0 f1 : Option Failings) (unspent : IsUnspent limits old) (said : a1 ≡ grown a0 (answers.Quiet ∷ [])) (kept : g1 ≡ g0) (read : ReadsMoment c0 now c1) (same : a2 ≡ a1) where
  -- the turn is whole
  turned_rested : (new : Stage) → (HasNoFailings f0 → f1 ≡ f0) → IsRested made now old new d d1 g1 g2 → IsTurn made limits old new d d1 a0 a2 g0 g2 c0 c1 f0 f1
  turned_rested new none k = record {
    turn = quiet_turn now k.spoken;
    said = k.said;
    whole = record { unspent = unspent; goes = k.waits; fits = fits };
    answered = same ∙ said;
    moment = read;
    led = k.led;
    given = k.given ∙ ap (λ (o : Option Bytes). grown o k.said) kept;
    unfailing = none;
  }
    where
      taken : new.taken ≡ old.taken
      taken = ap (λ (s : Stage). s.taken) k.waits.after

      fits : new.taken ≤ limits.input
      fits = omega (arith, taken, unspent.input)

  -- the session ended within the tick or behind it
  unticked_end : (ended : Ended) → (HasNoFailings f0 → FailsBy ended f0 f1) → IsUnticked ended made now old d d1 g1 g2 → IsLastTurn made limits session ended old d d1 a0 a2 g0 g2 c0 c1 f0 f1
  unticked_end ended fails k =
      let t = k.cut in
      let turn = quiet_turn now t.spoken in
      let ping = ping_bytes (is_due old now) in
      let heard = heard_bytes (pinged_peer old now) now t.spoken in
      let line = last_line t.cause in
      let within : IsWithin limits old turn t.begun old.held old.taken = record { unspent = unspent; are_spoken = t.are_spoken; begins = (refl, refl, k.alive, inr t.acts) } in
      let whole : ping ++ (heard ++ (t.said ++ line)) ≡ ((ping ++ heard) ++ t.said) ++ line =
      sym (append_assoc ping heard (t.said ++ line)) ∙ sym (append_assoc (ping ++ heard) t.said line) in
      record {
        last = Within turn t.begun t.calls;
        more = ping ++ t.out;
        greeted = tt;
        ends = record {
          cause = t.cause;
          said = (ping ++ heard) ++ t.said;
          is_cause = stop_cause limits session old turn t.cause t.begun t.calls old.taken old.held t.said within t.stops;
          ends_as = subst (EndsBy t.cause ended (ping ++ t.out)) whole (ends_behind t.cause ended ping t.out (heard ++ (t.said ++ line)) t.ends_by);
        };
        answered = same ∙ said;
        moments = reads_one c0 c1 now read;
        led = t.led;
        given = grown_on g1 k.mid g2 ping t.out k.pinged t.given ∙ ap (λ (o : Option Bytes). grown o (ping ++ t.out)) kept;
        failings = fails;
      }

  waiting_end : (ended : Ended) (more : Bytes) → (HasNoFailings f0 → FailsBy ended f0 f1) → made d [] d1 → Ends limits (start limits session) old (greeting limits session) (Waiting now) ended more → g2 ≡ grown g1 more
      → IsLastTurn made limits session ended old d d1 a0 a2 g0 g2 c0 c1 f0 f1
  waiting_end ended more fails h e k = record {
    last = Waiting now;
    more = more;
    greeted = tt;
    ends = e;
    answered = same ∙ said;
    moments = reads_one c0 c1 now read;
    led = h;
    given = k ∙ ap (λ (o : Option Bytes). grown o more) kept;
    failings = fails;
  }

  given_up : (ended : Ended) → (HasNoFailings f0 → FailsBy ended f0 f1) → made d [] d1 → IsGivenUp ended now old.peer.pings g1 g2 → IsLastTurn made limits session ended old d d1 a0 a2 g0 g2 c0 c1 f0 f1
  given_up ended fails h k =
      waiting_end ended k.parts.out fails h
      (record {
        cause = ends.Stale;
        said = [];
        is_cause = record { moment = now; last_is = refl; unspent = unspent; stale = k.stale; said_is = refl };
        ends_as = k.parts.ends_by;
      })
      k.parts.given

  -- the PING that is due is the last that was said
  pinging : (ended : Ended) → IsUnpinged ended (unwrap_or old.came now) now old.peer.pings g1 g2 → EndsPinging limits old (Waiting now) (frame Ping)
  pinging ended k = record { moment = now; last_is = refl; unspent = unspent; alive = k.alive; due = k.due; said_is = refl }

  unpinged : (ended : Ended) → (HasNoFailings f0 → FailsBy ended f0 f1) → made d [] d1 → IsUnpinged ended (unwrap_or old.came now) now old.peer.pings g1 g2
      → IsLastTurn made limits session ended old d d1 a0 a2 g0 g2 c0 c1 f0 f1
  unpinged ended fails h k = go k.unwritten
    where
      cut : IsCutOff k.given.0 (frame Ping ++ [])
      cut = subst (IsCutOff k.given.0) (sym (append-nil (frame Ping))) k.given.1

      failed : Ends limits (start limits session) old (greeting limits session) (Waiting now) ends.LinkFault k.given.0
      failed = record { cause = ends.LinkFault; said = frame Ping; is_cause = inr (inr (inr (pinging ended k))); ends_as = inl (refl, cut) }

      starved : Ends limits (start limits session) old (greeting limits session) (Waiting now) ends.NoMemory k.given.0
      starved = record {
        cause = ends.NoMemory;
        said = frame Ping;
        is_cause = inr (inr (inr (inr (pinging ended k))));
        ends_as = inl (refl, front_of k.given.0 (frame Ping ++ []) cut);
      }

      ending : (x : Ended) → ended ≡ x → Ends limits (start limits session) old (greeting limits session) (Waiting now) x k.given.0 → IsLastTurn made limits session ended old d d1 a0 a2 g0 g2 c0 c1 f0 f1
      ending x f w = waiting_end ended k.given.0 fails h (subst (λ (y : Ended). Ends limits (start limits session) old (greeting limits session) (Waiting now) y k.given.0) (sym f) w) k.given.2

      go : IsUnwritten ended → IsLastTurn made limits session ended old d d1 a0 a2 g0 g2 c0 c1 f0 f1
      go (inl f) = ending ends.LinkFault f failed
      go (inr f) = ending ends.NoMemory f starved

  unkept_end : (ended : Ended) → (HasNoFailings f0 → FailsBy ended f0 f1) → made d [] d1 → IsGivenUp ended now old.peer.pings g1 g2 ⊎ IsUnpinged ended (unwrap_or old.came now) now old.peer.pings g1 g2
      → IsLastTurn made limits session ended old d d1 a0 a2 g0 g2 c0 c1 f0 f1
  unkept_end ended fails h (inl k) = given_up ended fails h k
  unkept_end ended fails h (inr k) = unpinged ended fails h k

  -- the session ended in it
  unrested_end : (ended : Ended) → (HasNoFailings f0 → FailsBy ended f0 f1) → IsUnkept ended made now old d d1 g1 g2 ⊎ IsUnticked ended made now old d d1 g1 g2
      → IsLastTurn made limits session ended old d d1 a0 a2 g0 g2 c0 c1 f0 f1
  unrested_end ended fails (inl k) = unkept_end ended fails k.led k.ends
  unrested_end ended fails (inr k) = unticked_end ended fails k

  pub turned_quiet : (result : Result (Unit {0}) Ended) (new : Stage) → (HasNoFailings f0 → FailsIn result f0 f1) → Rests result made now old new d d1 g1 g2
      → Turns result made limits session old new d d1 a0 a2 g0 g2 c0 c1 f0 f1
  turned_quiet (Ok x) new none k = turned_rested new none k
  turned_quiet (Err ended) new fails k = unrested_end ended fails k

-- ---- the link's own ends

module _ {D : Type 0} (made : D → List DeskEntry → D → Type 0) (limits : Limits) (session : ℕ) (old : Stage) (d : D) (a0 a1 : Option (List Answer)) (g0 g1 : Option Bytes) (c : Option (List ℕ))
    (f0 f1 : Option Failings) (nothing_led : made d [] d) (kept : g1 ≡ g0) where
  told_end : (ended : Ended) (answer : Answer) → (HasNoFailings f0 → f1 ≡ f0) → a1 ≡ grown a0 (answer ∷ []) → Ends limits (start limits session) old (greeting limits session) (Told answer) ended []
      → IsLastTurn made limits session ended old d d a0 a1 g0 g1 c c f0 f1
  told_end ended answer none said e = record {
    last = Told answer;
    more = [];
    greeted = tt;
    ends = e;
    answered = said;
    moments = refl;
    led = nothing_led;
    given = kept ∙ sym (grown-nil g0);
    failings = none;
  }

  pub turned_closed : (HasNoFailings f0 → f1 ≡ f0) → IsUnspent limits old → a1 ≡ grown a0 (answers.Ended ∷ []) → IsLastTurn made limits session ends.Closed old d d a0 a1 g0 g1 c c f0 f1
  turned_closed none unspent said =
      told_end ends.Closed answers.Ended none said
      (record { cause = ends.Closed; said = []; is_cause = (unspent, record { last_is = refl; said_is = refl }); ends_as = (refl, refl) })

  pub turned_failed : (HasNoFailings f0 → f1 ≡ f0) → IsUnspent limits old → a1 ≡ grown a0 (answers.Failed ∷ []) → IsLastTurn made limits session ends.LinkFault old d d a0 a1 g0 g1 c c f0 f1
  turned_failed none unspent said =
      told_end ends.LinkFault answers.Failed none said
      (record { cause = ends.LinkFault; said = []; is_cause = inl (unspent, record { last_is = refl; said_is = refl }); ends_as = (refl, refl) })

  pub turned_starved : (HasNoFailings f0 → FailsBy ends.NoMemory f0 f1) → a1 ≡ grown a0 [] → IsLastTurn made limits session ends.NoMemory old d d a0 a1 g0 g1 c c f0 f1
  turned_starved fails said = record {
    last = Nothing;
    more = [];
    greeted = tt;
    ends = record { cause = ends.NoMemory; said = []; is_cause = inl (record { last_is = refl; said_is = refl }); ends_as = inl (refl, ([], refl)) };
    answered = said;
    moments = refl;
    led = nothing_led;
    given = kept ∙ sym (grown-nil g0);
    failings = fails;
  }
