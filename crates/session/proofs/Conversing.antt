-- Laws of a session between its turns, and of its ends.
use Rattle.std.proofs.Common.{◌≡◌, ℕ, ◌≤◌, List, [], ◌∷◌, ◌++◌, Option, Result, Err, refl, sym, ap, subst, ◌∙◌, append_assoc, inl, inr}
use Rattle.std.specs.Prelude.{map}
use Rattle.std.specs.List.{flat_map}
use Rattle.std.proofs.lemmas.List.{append-nil}
use Rattle.std.proofs.lemmas.Grind.{flat_map-append}
use Rattle.js_base.specs.Bytes.{Bytes}
use Rattle.link_edge.specs.Told.{grown}
use Rattle.link_edge.specs.Moments.{ReadsMoments}
use Rattle.link_edge.specs.Failings.{HasNoFailings}
use Rattle.link_edge.specs.declared.answers.Answer.{Answer}
use Rattle.link_edge.specs.declared.failings.Failings.{Failings}
use Rattle.link_edge.proofs.Told.{grown-nil, grown_on}
use Rattle.link_edge.proofs.Moments.{reads_push, reads_on}
use Rattle.js_api.specs.Entries.{DeskEntry}
use Rattle.session.specs.Talk.{Turn, Last, Greeting, Nothing, Told, Within, Waiting, Stage, start, IsWhole, IsSpent, AreTurns, Ends, IsCutOff, greeting, before_last, entries_of_turn, entries_of_last, last_answers, last_moments}
use Rattle.session.specs.Giving.{GivesPart, IsLinkFault, end_of}
use Rattle.js_base.specs.Causes.{HasCause}
use Rattle.session.specs.Turning.{IsTurn, IsLastTurn, IsGreeted}
use Rattle.session.specs.Failing.{FailsBy}
use Rattle.session.specs.Session.{Converses}
use Rattle.session.proofs.Failed.{fails_at_after}
use Rattle.session.proofs.Framed.{greeting_cut}
use Rattle.session.proofs.Behind.{front_of}
use Rattle.session.specs.declared.giving.GiveFault.{GiveFault}
use Rattle.session.specs.declared.giving.GiveFault.TheVariants as faults
use Rattle.session.specs.declared.ending.Limits.{Limits}
use Rattle.session.specs.declared.ending.Ended.{Ended}
use Rattle.session.specs.declared.ending.Ended.TheVariants as ends

-- ---- lists that grow at their end

abbrev one : Turn → List Turn
one turn = turn ∷ []

abbrev answer : Turn → Answer
answer turn = turn.answer

abbrev moment : Turn → ℕ
moment turn = turn.moment

answers-push : (turns : List Turn) (turn : Turn) → map answer (turns ++ one turn) ≡ map answer turns ++ turn.answer ∷ []
answers-push [] turn = refl
answers-push (first ∷ turns) turn = ap (λ (xs : List Answer). first.answer ∷ xs) (answers-push turns turn)

moments-push : (turns : List Turn) (turn : Turn) → map moment (turns ++ one turn) ≡ map moment turns ++ turn.moment ∷ []
moments-push [] turn = refl
moments-push (first ∷ turns) turn = ap (λ (xs : List ℕ). first.moment ∷ xs) (moments-push turns turn)

entries-push : (turns : List Turn) (turn : Turn) → flat_map entries_of_turn (turns ++ one turn) ≡ flat_map entries_of_turn turns ++ entries_of_turn turn
entries-push turns turn =
    flat_map-append entries_of_turn turns (one turn) ∙ ap (λ (xs : List DeskEntry). flat_map entries_of_turn turns ++ xs) (append-nil (entries_of_turn turn))

turns_push : (limits : Limits) (a b c : Stage) (turns : List Turn) (turn : Turn) (said first : Bytes) → AreTurns limits a turns b said → IsWhole limits b turn c first
    → AreTurns limits a (turns ++ one turn) c (said ++ first)
turns_push limits a b c [] turn said first h k = (
  c,
  first,
  [],
  subst (λ (s : Stage). IsWhole limits s turn c first) (sym h.0) k,
  (refl, refl),
  ap (λ (bytes : Bytes). bytes ++ first) h.1 ∙ sym (append-nil first),
)
turns_push limits a b c (turn1 ∷ turns) turn said first h k = (
  h.0,
  h.1,
  h.2 ++ first,
  h.3,
  turns_push limits h.0 b c turns turn h.2 first h.4 k,
  ap (λ (bytes : Bytes). bytes ++ first) h.5 ∙ append_assoc h.1 h.2 first,
)

-- ---- between two turns

-- whole turns so far, behind the server's information, and where they led
pub record Conversing {D : Type 0} (made : D → List DeskEntry → D → Type 0) (limits : Limits) (session : ℕ) (d0 d : D) (a0 a : Option (List Answer)) (g0 g : Option Bytes) (c0 c : Option (List ℕ)) (stage : Stage) : Type 0 where
  pub turns : List Turn
  pub said : Bytes
  pub are_turns : AreTurns limits (start limits session) turns stage said
  pub answered : a ≡ grown a0 (map answer turns)
  pub moments : ReadsMoments c0 (map moment turns) c
  pub led : made d0 (flat_map entries_of_turn turns) d
  pub given : g ≡ grown g0 (greeting limits session ++ said)

pub conversing_first : {D : Type 0} (made : D → List DeskEntry → D → Type 0) (limits : Limits) (session : ℕ) (d : D) (a0 a : Option (List Answer)) (g0 g : Option Bytes) (c : Option (List ℕ)) (stage : Stage)
    → made d [] d → stage ≡ start limits session → a ≡ a0 → g ≡ grown g0 (greeting limits session) → Conversing made limits session d d a0 a g0 g c c stage
conversing_first made limits session d a0 a g0 g c stage h e same given = record {
  turns = [];
  said = [];
  are_turns = (sym e, refl);
  answered = same ∙ sym (grown-nil a0);
  moments = refl;
  led = h;
  given = given ∙ ap (grown g0) (sym (append-nil (greeting limits session)));
}

module _ {D : Type 0} (made : D → List DeskEntry → D → Type 0) (more_led : (a b c : D) (xs ys : List DeskEntry) → made a xs b → made b ys c → made a (xs ++ ys) c) (limits : Limits) (session : ℕ) where
  -- a turn more was taken
  pub conversing_more : (d0 d d1 : D) (a0 a a1 : Option (List Answer)) (g0 g g1 : Option Bytes) (c0 c c1 : Option (List ℕ)) (stage next : Stage)
      (f f1 : Option Failings) → Conversing made limits session d0 d a0 a g0 g c0 c stage → IsTurn made limits stage next d d1 a a1 g g1 c c1 f f1
      → Conversing made limits session d0 d1 a0 a1 g0 g1 c0 c1 next
  conversing_more d0 d d1 a0 a a1 g0 g g1 c0 c c1 stage next f f1 h k = record {
    turns = h.turns ++ one k.turn;
    said = h.said ++ k.said;
    are_turns = turns_push limits (start limits session) stage next h.turns k.turn h.said k.said h.are_turns k.whole;
    answered = grown_on a0 a a1 (map answer h.turns) (k.turn.answer ∷ []) h.answered k.answered ∙ ap (grown a0) (sym (answers-push h.turns k.turn));
    moments = subst (λ (ms : List ℕ). ReadsMoments c0 ms c1) (sym (moments-push h.turns k.turn)) (reads_push c0 c c1 (map moment h.turns) k.turn.moment h.moments k.moment);
    led = subst (λ (es : List DeskEntry). made d0 es d1) (sym (entries-push h.turns k.turn))
        (more_led d0 d d1 (flat_map entries_of_turn h.turns) (entries_of_turn k.turn) h.led k.led);
    given = grown_on g0 g g1 (greeting limits session ++ h.said) k.said h.given k.given ∙ ap (grown g0) (append_assoc (greeting limits session) h.said k.said);
  }

  -- ---- the end

  behind_greeting : (last : Last) (front said : Bytes) → IsGreeted last → before_last front last said ≡ front ++ said
  behind_greeting Greeting front said h = absurd h
  behind_greeting Nothing front said h = refl
  behind_greeting (Told answer) front said h = refl
  behind_greeting (Within turn begun calls) front said h = refl
  behind_greeting (Waiting moment) front said h = refl

  -- the turn in which it ended
  pub converses_last : (ended : Ended) (d0 d d1 : D) (a0 a a1 : Option (List Answer)) (g0 g g1 : Option Bytes) (c0 c c1 : Option (List ℕ)) (stage : Stage)
      (f0 f f1 : Option Failings) → (HasNoFailings f0 → f ≡ f0) → Conversing made limits session d0 d a0 a g0 g c0 c stage → IsLastTurn made limits session ended stage d d1 a a1 g g1 c c1 f f1
      → Converses made limits session d0 d1 a0 a1 g0 g1 c0 c1 f0 f1 ended
  converses_last ended d0 d d1 a0 a a1 g0 g g1 c0 c c1 stage f0 f f1 none h k = record {
    turns = h.turns;
    last = k.last;
    stage = stage;
    said = h.said;
    more = k.more;
    are_turns = h.are_turns;
    ends = k.ends;
    answered = grown_on a0 a a1 (map answer h.turns) (last_answers k.last) h.answered k.answered;
    moments = reads_on c0 c c1 (map moment h.turns) (last_moments k.last) h.moments k.moments;
    led = more_led d0 d d1 (flat_map entries_of_turn h.turns) (entries_of_last k.last) h.led k.led;
    given = grown_on g0 g g1 (greeting limits session ++ h.said) k.more h.given k.given
        ∙ ap (λ (bytes : Bytes). grown g0 (bytes ++ k.more)) (sym (behind_greeting k.last (greeting limits session) h.said k.greeted));
    failings = fails_at_after k.last ended f0 f f1 none k.failings;
  }

-- as much was taken, or was quiet in a row, as may be
pub converses_spent : {D : Type 0} (made : D → List DeskEntry → D → Type 0) (limits : Limits) (session : ℕ) (d0 d : D) (a0 a : Option (List Answer)) (g0 g : Option Bytes) (c0 c : Option (List ℕ)) (stage : Stage)
    (f0 f : Option Failings) → (HasNoFailings f0 → f ≡ f0) → Conversing made limits session d0 d a0 a g0 g c0 c stage → IsSpent limits stage → Converses made limits session d0 d a0 a g0 g c0 c f0 f ends.InputLimit
converses_spent made limits session d0 d a0 a g0 g c0 c stage f0 f none h spent = record {
  turns = h.turns;
  last = Nothing;
  stage = stage;
  said = h.said;
  more = [];
  are_turns = h.are_turns;
  ends = record { cause = ends.InputLimit; said = []; is_cause = (spent, record { last_is = refl; said_is = refl }); ends_as = inl (refl, refl) };
  answered = h.answered ∙ ap (grown a0) (sym (append-nil (map answer h.turns)));
  moments = subst (λ (ms : List ℕ). ReadsMoments c0 ms c) (sym (append-nil (map moment h.turns))) h.moments;
  led = subst (λ (es : List DeskEntry). made d0 es d) (sym (append-nil (flat_map entries_of_turn h.turns))) h.led;
  given = h.given ∙ ap (grown g0) (sym (append-nil (greeting limits session ++ h.said)));
  failings = none;
}

-- the server's information was not given whole
pub converses_ungreeted : {D : Type 0} (made : D → List DeskEntry → D → Type 0) (limits : Limits) (session : ℕ) (fault : GiveFault) (ended : Ended) (d : D) (a0 a : Option (List Answer)) (g0 g : Option Bytes) (c : Option (List ℕ))
    (f0 f : Option Failings) → made d [] d → a ≡ a0 → GivesPart g0 g (greeting limits session) → (HasNoFailings f0 → FailsBy (end_of fault) f0 f) → ended ≡ end_of fault
    → Converses made limits session d d a0 a g0 g c c f0 f ended
converses_ungreeted {D = D} made limits session fault ended d a0 a g0 g c f0 f h same k fails e =
    subst (λ (x : Ended). Converses made limits session d d a0 a g0 g c c f0 f x) (sym e) (go fault fails)
  where
    cut : IsCutOff k.0 (greeting limits session ++ [])
    cut = subst (IsCutOff k.0) (sym (append-nil (greeting limits session))) k.1

    ungreeted : (x : Ended) → (HasNoFailings f0 → FailsBy x f0 f) → Ends limits (start limits session) (start limits session) (greeting limits session) Greeting x k.0
        → Converses made limits session d d a0 a g0 g c c f0 f x
    ungreeted x failings ends = record {
      turns = [];
      last = Greeting;
      stage = start limits session;
      said = [];
      more = k.0;
      are_turns = (refl, refl);
      ends = ends;
      answered = same ∙ sym (grown-nil a0);
      moments = refl;
      led = h;
      given = k.2;
      failings = failings;
    }

    go : (fault : GiveFault) → (HasNoFailings f0 → FailsBy (end_of fault) f0 f) → Converses made limits session d d a0 a g0 g c c f0 f (end_of fault)
    go faults.LinkFault failings =
        ungreeted ends.LinkFault failings
        (record {
          cause = ends.LinkFault;
          said = greeting limits session;
          is_cause = inr (inl (record { last_is = refl; first_is = refl; said_is = refl }));
          ends_as = inl (refl, cut);
        })
    go faults.NoMemory failings =
        ungreeted ends.NoMemory failings
        (record {
          cause = ends.NoMemory;
          said = greeting limits session;
          is_cause = inr (inl (record { last_is = refl; first_is = refl; said_is = refl }));
          ends_as = inl (refl, front_of k.0 (greeting limits session ++ []) cut);
        })

-- there was no memory before the server's information
pub converses_starved : {D : Type 0} (made : D → List DeskEntry → D → Type 0) (limits : Limits) (session : ℕ) (d : D) (a : Option (List Answer)) (g : Option Bytes) (c : Option (List ℕ))
    (f : Option Failings) → made d [] d → Converses made limits session d d a a g g c c f f ends.NoMemory
converses_starved made limits session d a g c f h =
    converses_ungreeted made limits session faults.NoMemory ends.NoMemory d a a g g c f f h refl ([], greeting_cut limits session, sym (grown-nil g)) (λ none. inl refl) refl

-- ---- the cause of an end that the link made

starved : (ended : Ended) → ended ≡ ends.NoMemory → ended ≡ ends.LinkFault → ⊥
starved ended e f = cc

spent : ends.InputLimit ≡ ends.LinkFault → ⊥
spent e = cc

pub fault_has_cause : (fault : GiveFault) (ended : Ended) (a b : ℕ) → ended ≡ end_of fault → HasCause a b (IsLinkFault {T = Unit {0}} (Err fault)) → HasCause a b (ended ≡ ends.LinkFault)
fault_has_cause faults.LinkFault ended a b e h = record { later = h.later; failed = λ f. h.failed refl }
fault_has_cause faults.NoMemory ended a b e h = record { later = h.later; failed = λ f. absurd (starved ended e f) }

abbrev told : Ended → Result (Unit {0}) Ended
told ended = Err ended

pub end_has_cause : (ended : Ended) (a b : ℕ) → HasCause a b (told ended ≡ told ends.LinkFault) → HasCause a b (ended ≡ ends.LinkFault)
end_has_cause ended a b h = record { later = h.later; failed = λ f. h.failed (ap told f) }

pub spent_has_cause : (a b : ℕ) → a ≤ b → HasCause a b (ends.InputLimit ≡ ends.LinkFault)
spent_has_cause a b le = record { later = le; failed = λ e. absurd (spent e) }
