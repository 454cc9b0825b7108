-- Laws of the operations that a session hears, and of the tick behind them.
use Rattle.std.proofs.Common.{◌≡◌, ℕ, ◌+◌, List, [], ◌∷◌, ◌++◌, length, Option, Result, Ok, Err, refl, sym, ap, subst, ◌∙◌, append_assoc, inl, inr, arith, length-append}
use Rattle.std.proofs.lemmas.List.{append-nil}
use Rattle.std.proofs.lemmas.Grind.{flat_map-append}
use Rattle.js_base.specs.Bytes.{Bytes}
use Rattle.link_edge.specs.Told.{grown}
use Rattle.link_edge.proofs.Told.{grown-nil, grown_on}
use Rattle.nats_frames.specs.declared.op.Op.{Op}
use Rattle.nats_frames.specs.Decoding.{Held, total, IsFront}
use Rattle.nats_frames.specs.Grammar.{Fronts}
use Rattle.nats_frames.specs.Reading.{op_at, Partial}
use Rattle.js_api.specs.Entries.{DeskEntry}
use Rattle.session.specs.Calling.{entries_of_calls}
use Rattle.session.specs.Peer.{Act, Hears as Hearing, Ticks, Peer, peer_after}
use Rattle.session.specs.Talk.{Spoken, IsSpoken, AreSpoken, AreActs, EndsBy, IsWritten, IsFrontOf, IsCutOff, last_line, acts_of, hearings, heard_bytes, spoken_bytes, peer_at_end, entries_of_all, entries_of_spoken}
use Rattle.session.specs.Giving.{GivesPart, IsFlushed, end_of}
use Rattle.session.specs.Parting.{Parts, PartsAt}
use Rattle.session.specs.Stopping.{cause_of}
use Rattle.session.specs.Ticking.{Stops, Between, IsTicked, IsTickCut, EndsTurn}
use Rattle.session.specs.Hearing.{IsNext, IsIdle, IsHalted, IsHeard, IsCut, Hears, StopsAt}
use Rattle.session.proofs.Behind.{front_of, cut_behind, ends_behind}
use Rattle.session.specs.declared.ending.Ended.{Ended}
use Rattle.session.specs.declared.ending.Ended.TheVariants as ends
use Rattle.session.specs.declared.giving.GiveFault.{GiveFault}
use Rattle.session.specs.declared.giving.GiveFault.TheVariants as faults
use Rattle.session.specs.declared.stop.Stop.{Stop}
use Rattle.session.specs.declared.stop.Stop.TheVariants as stops

-- ---- operations, and then operations

abbrev one : Spoken → List Spoken
one s = s ∷ []

fronts_on : (ops more : List Op) (a b c : Bytes) → Fronts a ops b → Fronts b more c → Fronts a (ops ++ more) c
fronts_on [] more a b c h k = subst (λ (bytes : Bytes). Fronts bytes more c) (sym h) k
fronts_on (op ∷ ops) more a b c h k = (h.0, h.1, h.2, h.3, fronts_on ops more h.1 b c h.4 k)

fronts_one : (op : Op) (a b : Bytes) → IsFront op a b → Fronts a (op ∷ []) b
fronts_one op a b h = (h.front, b, h.spelled, h.whole, refl)

acts-append : (spoken more : List Spoken) → acts_of (spoken ++ more) ≡ acts_of spoken ++ acts_of more
acts-append [] more = refl
acts-append (first ∷ spoken) more = ap (λ (acts : List Act). first.act ∷ acts) (acts-append spoken more)

hearings-append : (ops more : List Op) → hearings (ops ++ more) ≡ hearings ops ++ hearings more
hearings-append [] more = refl
hearings-append (op ∷ ops) more = ap (λ (acts : List Act). Hearing op ∷ acts) (hearings-append ops more)

peer-append : (peer : Peer) (spoken more : List Spoken) → peer_at_end peer (spoken ++ more) ≡ peer_at_end (peer_at_end peer spoken) more
peer-append peer [] more = refl
peer-append peer (first ∷ spoken) more = peer-append (peer_after peer first.act) spoken more

spoken_on : (peer : Peer) (now : ℕ) (spoken more : List Spoken) → AreSpoken peer now spoken → AreSpoken (peer_at_end peer spoken) now more → AreSpoken peer now (spoken ++ more)
spoken_on peer now [] more h k = k
spoken_on peer now (first ∷ spoken) more h k = (h.0, spoken_on (peer_after peer first.act) now spoken more h.1 k)

heard-append : (peer : Peer) (now : ℕ) (spoken more : List Spoken)
    → heard_bytes peer now (spoken ++ more) ≡ heard_bytes peer now spoken ++ heard_bytes (peer_at_end peer spoken) now more
heard-append peer now [] more = refl
heard-append peer now (first ∷ spoken) more =
    ap (λ (bytes : Bytes). spoken_bytes peer now first ++ bytes) (heard-append (peer_after peer first.act) now spoken more)
    ∙ sym (append_assoc (spoken_bytes peer now first) (heard_bytes (peer_after peer first.act) now spoken) (heard_bytes (peer_at_end (peer_after peer first.act) spoken) now more))

entries-append : (spoken more : List Spoken) → entries_of_all (spoken ++ more) ≡ entries_of_all spoken ++ entries_of_all more
entries-append spoken more = flat_map-append entries_of_spoken spoken more

-- ---- between two operations

-- the operations so far were carried out, and their bytes were given or wait to be
pub record Answering {D : Type 0} (made : D → List DeskEntry → D → Type 0) (now : ℕ) (peer peer_now : Peer) (old new : D) (bytes rest : Bytes) (given_old given_now : Option Bytes) (out : Bytes) : Type 0 where
  pub ops : List Op
  pub spoken : List Spoken
  pub sent : Bytes
  pub are_spoken : AreSpoken peer now spoken
  pub acts : acts_of spoken ≡ hearings ops
  pub split : Fronts bytes ops rest
  pub led : made old (entries_of_all spoken) new
  pub given : given_now ≡ grown given_old sent
  pub together : sent ++ out ≡ heard_bytes peer now spoken
  pub peer_is : peer_now ≡ peer_at_end peer spoken

pub answering_first : {D : Type 0} (made : D → List DeskEntry → D → Type 0) (now : ℕ) (peer : Peer) (old : D) (bytes : Bytes) (given : Option Bytes) (out : Bytes)
    → made old [] old → out ≡ [] → Answering made now peer peer old old bytes bytes given given out
answering_first made now peer old bytes given out h e = record {
  ops = [];
  spoken = [];
  sent = [];
  are_spoken = tt;
  acts = refl;
  split = refl;
  led = h;
  given = sym (grown-nil given);
  together = e;
  peer_is = refl;
}

-- bytes that waited were given
pub answering_flushed : {D : Type 0} (made : D → List DeskEntry → D → Type 0) (now : ℕ) (peer peer_now : Peer) (old new : D) (bytes rest : Bytes) (a b c : Option Bytes) (out waiting : Bytes)
    → Answering made now peer peer_now old new bytes rest a b out → IsFlushed b c out waiting → Answering made now peer peer_now old new bytes rest a c waiting
answering_flushed made now peer peer_now old new bytes rest a b c out waiting h k = record {
  ops = h.ops;
  spoken = h.spoken;
  sent = h.sent ++ k.out;
  are_spoken = h.are_spoken;
  acts = h.acts;
  split = h.split;
  led = h.led;
  given = grown_on a b c h.sent k.out h.given k.given;
  together = append_assoc h.sent k.out waiting ∙ ap (λ (more : Bytes). h.sent ++ more) (sym k.kept) ∙ h.together;
  peer_is = h.peer_is;
}

-- nothing was done
pub answering_idle : {D : Type 0} (made : D → List DeskEntry → D → Type 0) (now : ℕ) (peer peer_now after : Peer) (old mid new : D) (bytes : Bytes) (held rest : Held) (a b : Option Bytes) (out more : Bytes)
    → Answering made now peer peer_now old mid bytes held.bytes a b out → IsIdle peer_now after mid new held rest out more
    → Answering made now peer after old new bytes rest.bytes a b more
answering_idle {D = D} made now peer peer_now after old mid new bytes held rest a b out more h k = record {
  ops = h.ops;
  spoken = h.spoken;
  sent = h.sent;
  are_spoken = h.are_spoken;
  acts = h.acts;
  split = subst (λ (r : Held). Fronts bytes h.ops r.bytes) (sym k.held) h.split;
  led = subst (λ (d : D). made old (entries_of_all h.spoken) d) (sym k.desk) h.led;
  given = h.given;
  together = ap (λ (waiting : Bytes). h.sent ++ waiting) k.out ∙ h.together;
  peer_is = k.peer ∙ h.peer_is;
}

-- what waited, and more behind it
both : (sent out more whole : Bytes) → sent ++ out ≡ whole → sent ++ (out ++ more) ≡ whole ++ more
both sent out more whole e = sym (append_assoc sent out more) ∙ ap (λ (bytes : Bytes). bytes ++ more) e

module _ {D : Type 0} (made : D → List DeskEntry → D → Type 0) (more_led : (a b c : D) (xs ys : List DeskEntry) → made a xs b → made b ys c → made a (xs ++ ys) c) (now : ℕ) (peer : Peer) where
  all_led : (old mid new : D) (spoken more : List Spoken) → made old (entries_of_all spoken) mid → made mid (entries_of_all more) new
      → made old (entries_of_all (spoken ++ more)) new
  all_led old mid new spoken more h k =
      subst (λ (es : List DeskEntry). made old es new) (sym (entries-append spoken more)) (more_led old mid new (entries_of_all spoken) (entries_of_all more) h k)

  -- an operation or a tick is led by its entries
  one_led : (mid new : D) (s : Spoken) → made mid (entries_of_spoken s) new → made mid (entries_of_all (one s)) new
  one_led mid new s h = subst (λ (es : List DeskEntry). made mid es new) (sym (append-nil (entries_of_spoken s))) h

  -- one operation more was carried out
  pub answering_more : (peer_now after : Peer) (old mid new : D) (bytes : Bytes) (held rest : Held) (a b : Option Bytes) (out more : Bytes)
      → Answering made now peer peer_now old mid bytes held.bytes a b out → IsNext made now peer_now after mid new held rest out more
      → Answering made now peer after old new bytes rest.bytes a b more
  answering_more peer_now after old mid new bytes held rest a b out more h k =
      let s = k.carried.spoken in
      let here : IsSpoken (peer_at_end peer h.spoken) now s = subst (λ (p : Peer). IsSpoken p now s) h.peer_is k.carried.is_spoken in
      record {
        ops = h.ops ++ k.op ∷ [];
        spoken = h.spoken ++ one s;
        sent = h.sent;
        are_spoken = spoken_on peer now h.spoken (one s) h.are_spoken (here, tt);
        acts = acts-append h.spoken (one s) ∙ ap (λ (acts : List Act). acts ++ s.act ∷ []) h.acts ∙ ap (λ (act : Act). hearings h.ops ++ act ∷ []) k.carried.act_is
            ∙ sym (hearings-append h.ops (k.op ∷ []));
        split = fronts_on h.ops (k.op ∷ []) bytes held.bytes rest.bytes h.split (fronts_one k.op held.bytes rest.bytes k.front);
        led = all_led old mid new h.spoken (one s) h.led (one_led mid new s k.carried.led);
        given = h.given;
        together = ap (λ (bytes : Bytes). h.sent ++ bytes) k.carried.written ∙ both h.sent out (spoken_bytes peer_now now s) (heard_bytes peer now h.spoken) h.together
            ∙ ap (λ (p : Peer). heard_bytes peer now h.spoken ++ spoken_bytes p now s) h.peer_is
            ∙ ap (λ (bytes : Bytes). heard_bytes peer now h.spoken ++ bytes) (sym (append-nil (spoken_bytes (peer_at_end peer h.spoken) now s)))
            ∙ sym (heard-append peer now h.spoken (one s));
        peer_is = k.peer ∙ ap (λ (p : Peer). peer_after p (Hearing k.op)) h.peer_is ∙ ap (λ (act : Act). peer_after (peer_at_end peer h.spoken) act) (sym k.carried.act_is)
            ∙ sym (peer-append peer h.spoken (one s));
      }

  -- ---- the end within the operations

  -- behind the operations one was begun, or none is there
  acts_begun : (peer_now : Peer) (old mid : D) (bytes rest next : Bytes) (begun : List Op) (a b : Option Bytes) (waiting : Bytes)
      → (h : Answering made now peer peer_now old mid bytes rest a b waiting) → Fronts rest begun next → AreActs bytes (acts_of h.spoken ++ hearings begun) next
  acts_begun peer_now old mid bytes rest next begun a b waiting h f = record {
    ops = h.ops ++ begun;
    split = fronts_on h.ops begun bytes rest next h.split f;
    acts_are = inl (ap (λ (acts : List Act). acts ++ hearings begun) h.acts ∙ sym (hearings-append h.ops begun));
  }

  -- and then the session parted
  cut_at : (stop : Stop) (ended : Ended) (peer_now : Peer) (old mid new : D) (bytes out : Bytes) (held : Held) (all : ℕ) (a b c : Option Bytes) (waiting more : Bytes)
      → (h : Answering made now peer peer_now old mid bytes held.bytes a b waiting) (k : IsHalted stop made now peer_now mid new held waiting more) → total held ≡ all
      → EndsBy (cause_of stop) ended (h.sent ++ out) (heard_bytes peer now h.spoken ++ (k.said ++ last_line (cause_of stop)))
      → c ≡ grown b out → IsCut ended made now peer old new bytes all a c
  cut_at stop ended peer_now old mid new bytes out held all a b c waiting more h k fed e g = record {
    spoken = h.spoken;
    begun = hearings k.begun;
    calls = k.calls;
    before = k.before;
    rest = k.rest;
    cause = cause_of stop;
    said = k.said;
    out = h.sent ++ out;
    are_spoken = h.are_spoken;
    acts = acts_begun peer_now old mid bytes held.bytes k.rest k.begun a b waiting h k.split;
    place = k.place ∙ fed;
    stops = subst (λ (p : Peer). StopsAt (cause_of stop) p now (hearings k.begun) k.calls k.before k.rest k.said) h.peer_is k.stops;
    led = more_led old mid new (entries_of_all h.spoken) (entries_of_calls k.calls) h.led k.led;
    ends_by = e;
    given = grown_on a b c h.sent out h.given g;
  }

  -- all that waited and the error line were given, or a front of them
  cut_parted : (stop : Stop) (ended : Ended) (peer_now : Peer) (old mid new : D) (bytes : Bytes) (held : Held) (all : ℕ) (a b c : Option Bytes) (waiting more : Bytes)
      → Answering made now peer peer_now old mid bytes held.bytes a b waiting → (k : IsHalted stop made now peer_now mid new held waiting more) → total held ≡ all
      → more ≡ waiting ++ k.said → Parts (cause_of stop) ended b c more → IsCut ended made now peer old new bytes all a c
  cut_parted stop ended peer_now old mid new bytes held all a b c waiting more h k fed e p =
      let line = last_line (cause_of stop) in
      let whole : h.sent ++ (more ++ line) ≡ heard_bytes peer now h.spoken ++ (k.said ++ line) =
      ap (λ (all : Bytes). h.sent ++ (all ++ line)) e ∙ ap (λ (all : Bytes). h.sent ++ all) (append_assoc waiting k.said line)
      ∙ both h.sent waiting (k.said ++ line) (heard_bytes peer now h.spoken) h.together in
      cut_at stop ended peer_now old mid new bytes p.out held all a b c waiting more h k fed
      (subst (EndsBy (cause_of stop) ended (h.sent ++ p.out)) whole (ends_behind (cause_of stop) ended h.sent p.out (more ++ line) p.ends_by)) p.given

  pub cut_halted : (stop : Stop) (ended : Ended) (peer_now : Peer) (old mid new : D) (bytes : Bytes) (held : Held) (all : ℕ) (a b c : Option Bytes) (waiting more : Bytes)
      → Answering made now peer peer_now old mid bytes held.bytes a b waiting → IsHalted stop made now peer_now mid new held waiting more → total held ≡ all
      → PartsAt stop ended b c more → IsCut ended made now peer old new bytes all a c
  cut_halted (stops.Refused refusal) ended peer_now old mid new bytes held all a b c waiting more h k fed p =
      cut_parted (stops.Refused refusal) ended peer_now old mid new bytes held all a b c waiting more h k fed (k.added refl) p
  cut_halted (stops.Slow size) ended peer_now old mid new bytes held all a b c waiting more h k fed p =
      cut_parted (stops.Slow size) ended peer_now old mid new bytes held all a b c waiting more h k fed (k.added refl) p
  cut_halted stops.NoMemory ended peer_now old mid new bytes held all a b c waiting more h k fed p =
      let front : IsFrontOf (h.sent ++ []) (heard_bytes peer now h.spoken ++ (k.said ++ [])) =
      (waiting ++ (k.said ++ []), append_assoc h.sent [] (waiting ++ (k.said ++ [])) ∙ both h.sent waiting (k.said ++ []) (heard_bytes peer now h.spoken) h.together) in
      cut_at stops.NoMemory ended peer_now old mid new bytes [] held all a b c waiting more h k fed
      (inl (p.0, subst (λ (x : Ended). IsWritten x (h.sent ++ []) (heard_bytes peer now h.spoken ++ (k.said ++ []))) (sym p.0) front)) (p.1 ∙ sym (grown-nil b))

  -- what waited could not be given whole
  pub cut_given : (fault : GiveFault) (ended : Ended) (peer_now : Peer) (old new : D) (bytes : Bytes) (held : Held) (all : ℕ) (a b c : Option Bytes) (waiting : Bytes)
      → Answering made now peer peer_now old new bytes held.bytes a b waiting → total held ≡ all → GivesPart b c waiting → ended ≡ end_of fault
      → IsCut ended made now peer old new bytes all a c
  cut_given fault ended peer_now old new bytes held all a b c waiting h fed k e =
      subst (λ (x : Ended). IsCut x made now peer old new bytes all a c) (sym e) (go fault)
    where
      whole : heard_bytes peer now h.spoken ≡ heard_bytes peer now h.spoken ++ ([] ++ [])
      whole = sym (append-nil (heard_bytes peer now h.spoken))

      cut : IsCutOff (h.sent ++ k.0) (heard_bytes peer now h.spoken ++ ([] ++ []))
      cut = subst (IsCutOff (h.sent ++ k.0)) (h.together ∙ whole) (cut_behind h.sent k.0 waiting k.1)

      led : made old (entries_of_all h.spoken ++ []) new
      led = subst (λ (es : List DeskEntry). made old es new) (sym (append-nil (entries_of_all h.spoken))) h.led

      acts : AreActs bytes (acts_of h.spoken ++ []) held.bytes
      acts = acts_begun peer_now old new bytes held.bytes held.bytes [] a b waiting h refl

      go : (fault : GiveFault) → IsCut (end_of fault) made now peer old new bytes all a c
      go faults.LinkFault = record {
        spoken = h.spoken;
        begun = [];
        calls = [];
        before = held.before;
        rest = held.bytes;
        cause = ends.LinkFault;
        said = [];
        out = h.sent ++ k.0;
        are_spoken = h.are_spoken;
        acts = acts;
        place = fed;
        stops = inl (Between refl refl refl (inl refl));
        led = led;
        ends_by = inl (refl, cut);
        given = grown_on a b c h.sent k.0 h.given k.2;
      }
      go faults.NoMemory = record {
        spoken = h.spoken;
        begun = [];
        calls = [];
        before = held.before;
        rest = held.bytes;
        cause = ends.NoMemory;
        said = [];
        out = h.sent ++ k.0;
        are_spoken = h.are_spoken;
        acts = acts;
        place = fed;
        stops = inl (Between refl refl refl (inr refl));
        led = led;
        ends_by = inl (refl, front_of (h.sent ++ k.0) (heard_bytes peer now h.spoken ++ ([] ++ [])) cut);
        given = grown_on a b c h.sent k.0 h.given k.2;
      }

  -- ---- the end behind the operations

  -- the tick was carried out, and all was given
  heard_ticked : (peer_now after : Peer) (old mid new : D) (bytes rest : Bytes) (a b c : Option Bytes) (waiting : Bytes)
      → Answering made now peer peer_now old mid bytes rest a b waiting → op_at rest ≡ Partial → IsTicked made peer_now now mid new waiting b c → after ≡ peer_now
      → IsHeard made now peer after old new bytes rest a c
  heard_ticked peer_now after old mid new bytes rest a b c waiting h e k same =
      let s = k.spoken in
      let here : IsSpoken (peer_at_end peer h.spoken) now s = subst (λ (p : Peer). IsSpoken p now s) h.peer_is k.is_spoken in
      let said = heard_bytes peer now h.spoken in
      record {
        ops = h.ops;
        spoken = h.spoken ++ one s;
        are_spoken = spoken_on peer now h.spoken (one s) h.are_spoken (here, tt);
        acts = acts-append h.spoken (one s) ∙ ap (λ (acts : List Act). acts ++ s.act ∷ []) h.acts ∙ ap (λ (act : Act). hearings h.ops ++ act ∷ []) k.act_is;
        split = h.split;
        idle = e;
        peer = same ∙ h.peer_is ∙ ap (peer_after (peer_at_end peer h.spoken)) (sym k.act_is) ∙ sym (peer-append peer h.spoken (one s));
        led = all_led old mid new h.spoken (one s) h.led (one_led mid new s k.led);
        given = grown_on a b c h.sent (waiting ++ spoken_bytes peer_now now s) h.given k.given
            ∙ ap (grown a)
            (both h.sent waiting (spoken_bytes peer_now now s) said h.together ∙ ap (λ (p : Peer). said ++ spoken_bytes p now s) h.peer_is
            ∙ ap (λ (bytes : Bytes). said ++ bytes) (sym (append-nil (spoken_bytes (peer_at_end peer h.spoken) now s))) ∙ sym (heard-append peer now h.spoken (one s)));
      }

  -- operations and a tick that was begun or carried out, in their order
  acts_ticked : (ops : List Op) (spoken more : List Spoken) (begun : List Act) → acts_of spoken ≡ hearings ops → acts_of more ++ begun ≡ Ticks ∷ []
      → acts_of (spoken ++ more) ++ begun ≡ hearings ops ++ Ticks ∷ []
  acts_ticked ops spoken more begun e f =
      ap (λ (acts : List Act). acts ++ begun) (acts-append spoken more) ∙ append_assoc (acts_of spoken) (acts_of more) begun
      ∙ ap (λ (acts : List Act). acts ++ (acts_of more ++ begun)) e ∙ ap (λ (acts : List Act). hearings ops ++ acts) f

  -- the session ended within the tick, or behind it
  cut_ticked : (ended : Ended) (peer_now : Peer) (old mid new : D) (bytes : Bytes) (held : Held) (all : ℕ) (a b c : Option Bytes) (waiting : Bytes)
      → Answering made now peer peer_now old mid bytes held.bytes a b waiting → total held ≡ all → op_at held.bytes ≡ Partial → IsTickCut ended made peer_now now mid new waiting b c
      → IsCut ended made now peer old new bytes all a c
  cut_ticked ended peer_now old mid new bytes held all a b c waiting h fed partial k =
      let said = heard_bytes peer now h.spoken in
      let there = peer_at_end peer h.spoken in
      let tail = k.said ++ last_line k.cause in
      let whole : h.sent ++ (waiting ++ (heard_bytes peer_now now k.spoken ++ tail)) ≡ heard_bytes peer now (h.spoken ++ k.spoken) ++ tail =
      both h.sent waiting (heard_bytes peer_now now k.spoken ++ tail) said h.together ∙ ap (λ (p : Peer). said ++ (heard_bytes p now k.spoken ++ tail)) h.peer_is
      ∙ sym (append_assoc said (heard_bytes there now k.spoken) tail) ∙ ap (λ (bytes : Bytes). bytes ++ tail) (sym (heard-append peer now h.spoken k.spoken)) in
      let stopped = subst (λ (p : Peer). Stops k.cause (peer_at_end p k.spoken) now k.begun k.calls k.said) h.peer_is k.stops in
      let led_on = more_led old mid new (entries_of_all h.spoken) (entries_of_all k.spoken ++ entries_of_calls k.calls) h.led k.led in
      record {
        spoken = h.spoken ++ k.spoken;
        begun = k.begun;
        calls = k.calls;
        before = held.before;
        rest = held.bytes;
        cause = k.cause;
        said = k.said;
        out = h.sent ++ k.out;
        are_spoken = spoken_on peer now h.spoken k.spoken h.are_spoken (subst (λ (p : Peer). AreSpoken p now k.spoken) h.peer_is k.are_spoken);
        acts = record { ops = h.ops; split = h.split; acts_are = inr (acts_ticked h.ops h.spoken k.spoken k.begun h.acts k.acts, partial) };
        place = fed;
        stops = inl (subst (λ (p : Peer). Stops k.cause p now k.begun k.calls k.said) (sym (peer-append peer h.spoken k.spoken)) stopped);
        led = subst (λ (es : List DeskEntry). made old es new)
            (sym (append_assoc (entries_of_all h.spoken) (entries_of_all k.spoken) (entries_of_calls k.calls))
            ∙ ap (λ (es : List DeskEntry). es ++ entries_of_calls k.calls) (sym (entries-append h.spoken k.spoken)))
            led_on;
        ends_by = subst (EndsBy k.cause ended (h.sent ++ k.out)) whole
            (ends_behind k.cause ended h.sent k.out (waiting ++ (heard_bytes peer_now now k.spoken ++ tail)) k.ends_by);
        given = grown_on a b c h.sent k.out h.given k.given;
      }

  pub hears_ticked : (result : Result (Unit {0}) Ended) (peer_now after : Peer) (old mid new : D) (bytes : Bytes) (held : Held) (all : ℕ) (a b c : Option Bytes) (waiting : Bytes)
      → Answering made now peer peer_now old mid bytes held.bytes a b waiting → total held ≡ all → op_at held.bytes ≡ Partial → EndsTurn result made peer_now now mid new waiting b c
      → after ≡ peer_now → Hears result made now peer after old new bytes held.bytes all a c
  hears_ticked (Ok x) peer_now after old mid new bytes held all a b c waiting h fed partial k same =
      heard_ticked peer_now after old mid new bytes held.bytes a b c waiting h partial k same
  hears_ticked (Err ended) peer_now after old mid new bytes held all a b c waiting h fed partial k same =
      cut_ticked ended peer_now old mid new bytes held all a b c waiting h fed partial k

  -- the piece was not fed
  pub cut_unfed : (old : D) (held : Held) (piece : Bytes) (a : Option Bytes) → made old [] old
      → IsCut ends.NoMemory made now peer old old (held.bytes ++ piece) (total held + length piece) a a
  cut_unfed old held piece a h = record {
    spoken = [];
    begun = [];
    calls = [];
    before = held.before;
    rest = held.bytes ++ piece;
    cause = ends.NoMemory;
    said = [];
    out = [];
    are_spoken = tt;
    acts = record { ops = []; split = refl; acts_are = inl refl };
    place = omega (arith, length-append held.bytes piece);
    stops = inl (Between refl refl refl (inr refl));
    led = h;
    ends_by = inl (refl, ([], refl));
    given = sym (grown-nil a);
  }
