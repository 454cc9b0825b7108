-- Laws of a gathering: its rounds, one after the other.
use Rattle.std.proofs.Common.{◌≡◌, ◌<◌, ℕ, ◌+◌, Bool, true, false, List, [], ◌∷◌, ◌++◌, length, Result, Ok, Err, refl, sym, ap, subst, ◌∙◌, append_assoc, inl, inr, arith, length-append}
use Rattle.std.proofs.lemmas.List.{append-nil}
use Rattle.std.proofs.lemmas.Grind.{flat_map-append}
use Rattle.js_base.specs.Bytes.{Bytes}
use Rattle.js_api.specs.declared.fault.DeskFault.{DeskFault}
use Rattle.js_api.specs.Entries.{DeskEntry}
use Rattle.js_api.specs.Leading.{Makes}
use Rattle.js_api.specs.Clients.{Client}
use Rattle.js_api.specs.Answering.{DeskCall, DeskAnswer, Settle, Settled}
use Rattle.js_api.specs.Calls.{Does}
use Rattle.session.specs.Calling.{Called}
use Rattle.session.specs.Gathering.{Round, IsRound, AreReady, AreCollecting, AreCollects, AreGathered, IsGathering, IsSettle, IsBeforeSettle, all_round_calls, round_calls, most_rounds}
use Rattle.session.specs.Leading.{Adds}
use Rattle.session.specs.Stopping.{cause_of, end_after}
use Rattle.session.specs.Collecting.{IsNextCollect, Collects}
use Rattle.session.specs.Settling.{AreSettled, IsInRound, SettlesOnce, Gathers}
use Rattle.session.proofs.Led.{IsOne, adds_one, adds_as, adds_on, cut_as, cut_on, cut_one}
use Rattle.session.specs.declared.stop.Stop.{Stop}

-- ---- one settle

-- a settle, and then what its collects were
settled_then : (client : Client) (now : ℕ) (ready : Bool) (P : List Called → Type 0) (calls more : List Called) → IsOne (IsSettle client now ready) calls → P more
    → AreSettled client now ready P (calls ++ more)
settled_then client now ready P calls more h p = (h.0, more, ap (λ (xs : List Called). xs ++ more) h.1, h.2, p)

-- a collect behind it
settled_next : (client : Client) (now : ℕ) (ready : Bool) (calls before : List Called) (call : DeskCall) → IsOne (IsSettle client now ready) calls → IsNextCollect client before call
    → IsInRound client now (calls ++ before) call
settled_next client now ready calls before call h k = inr (ready, settled_then client now ready (AreCollecting client) calls before h k.0, k.1)

module _ {D : Type 0} (made : D → List DeskEntry → D → Type 0) (client : Client) (now : ℕ) where
  settles : (old new : D) (a : Bytes) (ready : Bool) → Makes made (Does client (Settle now) (Ok (Settled ready))) old new → Adds made old new a a (IsOne (IsSettle client now ready))
  settles old new a ready m =
      adds_one made old new a a (IsSettle client now ready) (record { call = Settle now; answer = Ok (Settled ready); entries = m.entries })
      (record { call_is = refl; answer_is = refl; made = m.are }) m.led (sym (append-nil a))

  -- the session ends for the answer of the settle
  pub settle_ends : (stop : Stop) (old new : D) (a : Bytes) (answer : Result DeskAnswer DeskFault) → Makes made (Does client (Settle now) answer) old new
      → cause_of stop ≡ end_after answer → SettlesOnce made client now old new a a (Err stop)
  settle_ends stop old new a answer m e =
      cut_one made (IsInRound client now) client (cause_of stop) old new a a (record { call = Settle now; answer = answer; entries = m.entries }) (inl (refl, refl))
      (record { made = m.are; cause_is = e }) m.led (λ n. refl)

module _ {D : Type 0} (made : D → List DeskEntry → D → Type 0) (more_led : (a b c : D) (xs ys : List DeskEntry) → made a xs b → made b ys c → made a (xs ++ ys) c) (client : Client) (now : ℕ) where
  -- all that waited by then was collected
  pub settled_whole : (old mid new : D) (a b : Bytes) (ready : Bool) (other : Client) → other ≡ client → Makes made (Does client (Settle now) (Ok (Settled ready))) old mid
      → Adds made mid new a b (AreCollects other) → Adds made old new a b (AreSettled client now ready (AreCollects client))
  settled_whole old mid new a b ready other e m k =
      adds_on made more_led old mid new a a b (IsOne (IsSettle client now ready)) (AreCollects client) (AreSettled client now ready (AreCollects client))
      (settled_then client now ready (AreCollects client)) (settles made client now old mid a ready m)
      (subst (λ (one : Client). Adds made mid new a b (AreCollects one)) e k)

  -- the session ends in the collects
  pub settled_cut : (old mid new : D) (a b : Bytes) (ready : Bool) (stop : Stop) (other : Client) → other ≡ client → Makes made (Does client (Settle now) (Ok (Settled ready))) old mid
      → Collects made other mid new a b (Err stop) → SettlesOnce made client now old new a b (Err stop)
  settled_cut old mid new a b ready stop other e m k =
      cut_on made more_led client (cause_of stop) (IsOne (IsSettle client now ready)) (IsNextCollect client) (IsInRound client now) old mid new a a b
      (settled_next client now ready) (settles made client now old mid a ready m) (subst (λ (one : Client). Collects made one mid new a b (Err stop)) e k)

-- ---- rounds

-- the collects with which a gathering begins, and so many rounds after each of which a consumer was ready
pub record AreRounds (client : Client) (now count : ℕ) (calls : List Called) : Type 0 where
  pub collects : List Called
  pub rounds : List Round
  pub calls_are : calls ≡ collects ++ all_round_calls rounds
  pub are_collects : AreCollects client collects
  pub are_ready : AreReady client now rounds
  pub count_is : length rounds ≡ count

ready_push : (client : Client) (now : ℕ) (rounds : List Round) (round : Round) → AreReady client now rounds → IsRound client now true round → AreReady client now (rounds ++ round ∷ [])
ready_push client now [] round h k = (k, tt)
ready_push client now (first ∷ rounds) round h k = (h.0, ready_push client now rounds round h.1 k)

round_calls-push : (rounds : List Round) (round : Round) → all_round_calls (rounds ++ round ∷ []) ≡ all_round_calls rounds ++ round_calls round
round_calls-push rounds round =
    flat_map-append round_calls rounds (round ∷ []) ∙ ap (λ (calls : List Called). all_round_calls rounds ++ calls) (append-nil (round_calls round))

-- rounds, and the calls of one round more
rounds_and : (calls more collects : List Called) (rounds : List Round) (round : Round) → calls ≡ collects ++ all_round_calls rounds → more ≡ round_calls round
    → calls ++ more ≡ collects ++ (all_round_calls rounds ++ round_calls round)
rounds_and calls more collects rounds round e f =
    ap (λ (xs : List Called). xs ++ more) e ∙ append_assoc collects (all_round_calls rounds) more ∙ ap (λ (xs : List Called). collects ++ (all_round_calls rounds ++ xs)) f

module _ (client : Client) (now : ℕ) where
  rounds_first : (calls : List Called) → AreCollects client calls → AreRounds client now 0 calls
  rounds_first calls h = record { collects = calls; rounds = []; calls_are = sym (append-nil calls); are_collects = h; are_ready = tt; count_is = refl }

  rounds_more : (count : ℕ) (calls more : List Called) → AreRounds client now count calls → AreSettled client now true (AreCollects client) more
      → AreRounds client now (count + 1) (calls ++ more)
  rounds_more count calls more h k =
      let round : Round = record { settle = k.0; collects = k.1 } in
      let long : length (h.rounds ++ round ∷ []) ≡ length h.rounds + 1 = length-append h.rounds (round ∷ []) in
      record {
        collects = h.collects;
        rounds = h.rounds ++ round ∷ [];
        calls_are = rounds_and calls more h.collects h.rounds round h.calls_are k.2 ∙ ap (λ (xs : List Called). h.collects ++ xs) (sym (round_calls-push h.rounds round));
        are_collects = h.are_collects;
        are_ready = ready_push client now h.rounds round h.are_ready (record { settle = k.3; collects = k.4 });
        count_is = long ∙ ap (λ (n : ℕ). n + 1) h.count_is;
      }

  before_settle : (count : ℕ) (calls : List Called) → count < most_rounds → AreRounds client now count calls → IsBeforeSettle client now calls
  before_settle count calls less h = record {
    collects = h.collects;
    rounds = h.rounds;
    calls_are = h.calls_are;
    are_collects = h.are_collects;
    are_ready = h.are_ready;
    within = omega (arith, less, h.count_is);
  }

  -- no consumer was ready after the last one
  gathered_last : (count : ℕ) → count < most_rounds → (calls more : List Called) → AreRounds client now count calls → AreSettled client now false (AreCollects client) more
      → AreGathered client now (calls ++ more)
  gathered_last count less calls more h k =
      let round : Round = record { settle = k.0; collects = k.1 } in
      record {
        collects = h.collects;
        rounds = h.rounds;
        last = round;
        calls_are = rounds_and calls more h.collects h.rounds round h.calls_are k.2;
        are_collects = h.are_collects;
        are_ready = h.are_ready;
        is_last = record { ready = false; is_round = record { settle = k.3; collects = k.4 }; within = omega (arith, less, h.count_is); ends = tt };
      }

  -- all but the last of some rounds, and the last
  record AreParted (rounds : List Round) : Type 0 where
    before : List Round
    last : Round
    rounds_are : rounds ≡ before ++ last ∷ []
    are_ready : AreReady client now before
    is_last : IsRound client now true last

  parted : (first : Round) (rounds : List Round) → AreReady client now (first ∷ rounds) → AreParted (first ∷ rounds)
  parted first [] h = record { before = []; last = first; rounds_are = refl; are_ready = tt; is_last = h.0 }
  parted first (second ∷ rounds) h =
      let k = parted second rounds h.1 in
      record {
        before = first ∷ k.before;
        last = k.last;
        rounds_are = ap (λ (rs : List Round). first ∷ rs) k.rounds_are;
        are_ready = (h.0, k.are_ready);
        is_last = k.is_last;
      }

  spent_by : (calls collects : List Called) (rounds : List Round) → calls ≡ collects ++ all_round_calls rounds → AreCollects client collects → AreReady client now rounds
      → length rounds ≡ most_rounds → AreGathered client now calls
  spent_by calls collects [] e cs h n = absurd (omega (arith, n))
  spent_by calls collects (first ∷ rounds) e cs h n =
      let k = parted first rounds h in
      let long : length (first ∷ rounds) ≡ length k.before + 1 = ap length k.rounds_are ∙ length-append k.before (k.last ∷ []) in
      let spent : length k.before + 1 ≡ most_rounds = sym long ∙ n in
      record {
        collects = collects;
        rounds = k.before;
        last = k.last;
        calls_are = e ∙ ap (λ (rs : List Round). collects ++ all_round_calls rs) k.rounds_are ∙ ap (λ (xs : List Called). collects ++ xs) (round_calls-push k.before k.last);
        are_collects = cs;
        are_ready = k.are_ready;
        is_last = record { ready = true; is_round = k.is_last; within = omega (arith, spent); ends = spent };
      }

  -- there may be no more rounds
  gathered_spent : (count : ℕ) → count ≡ most_rounds → (calls : List Called) → AreRounds client now count calls → AreGathered client now calls
  gathered_spent count e calls h = spent_by calls h.collects h.rounds h.calls_are h.are_collects h.are_ready (h.count_is ∙ e)

  -- ---- the session ends within it

  first_comes : (before : List Called) (call : DeskCall) → IsNextCollect client before call → IsGathering client now before call
  first_comes before call h = inl (inl h.0, h.1)

  next_comes : (count : ℕ) → count < most_rounds → (calls before : List Called) (call : DeskCall) → AreRounds client now count calls → IsInRound client now before call
      → IsGathering client now (calls ++ before) call
  next_comes count less calls before call h (inl k) =
      let same : calls ++ before ≡ calls = ap (λ (xs : List Called). calls ++ xs) k.0 ∙ append-nil calls in
      inr (subst (λ (xs : List Called). IsBeforeSettle client now xs) (sym same) (before_settle count calls less h), k.1)
  next_comes count less calls before call h (inr (ready, (settle, collects, e, s, p), k)) = inl (
    inr (record {
      before = calls;
      ready = ready;
      settle = settle;
      collecting = collects;
      calls_are = ap (λ (xs : List Called). calls ++ xs) e;
      is_before = before_settle count calls less h;
      is_settle = s;
      are_collecting = p;
    }),
    k,
  )

-- ---- what a gathering made

module _ {D : Type 0} (made : D → List DeskEntry → D → Type 0) (client : Client) (now : ℕ) where
  pub gathering_first : (old new : D) (a b : Bytes) → Adds made old new a b (AreCollects client) → Adds made old new a b (AreRounds client now 0)
  gathering_first old new a b h = adds_as made old new a b (AreCollects client) (AreRounds client now 0) (rounds_first client now) h

  -- it stopped at the collects with which it begins
  pub gathering_unbegun : (old new : D) (a b : Bytes) (stop : Stop) → Collects made client old new a b (Err stop) → Gathers made client now old new a b (Err stop)
  gathering_unbegun old new a b stop k = cut_as made client (cause_of stop) (IsNextCollect client) (IsGathering client now) old new a b (first_comes client now) k

  pub gathering_spent : (old new : D) (a b : Bytes) (count : ℕ) → count ≡ most_rounds → Adds made old new a b (AreRounds client now count) → Adds made old new a b (AreGathered client now)
  gathering_spent old new a b count e h = adds_as made old new a b (AreRounds client now count) (AreGathered client now) (gathered_spent client now count e) h

module _ {D : Type 0} (made : D → List DeskEntry → D → Type 0) (more_led : (a b c : D) (xs ys : List DeskEntry) → made a xs b → made b ys c → made a (xs ++ ys) c) (client : Client) (now : ℕ) where
  pub gathering_more : (old mid new : D) (a b c : Bytes) (count : ℕ) → Adds made old mid a b (AreRounds client now count)
      → Adds made mid new b c (AreSettled client now true (AreCollects client)) → Adds made old new a c (AreRounds client now (count + 1))
  gathering_more old mid new a b c count h k =
      adds_on made more_led old mid new a b c (AreRounds client now count) (AreSettled client now true (AreCollects client)) (AreRounds client now (count + 1))
      (rounds_more client now count) h k

  pub gathering_last : (old mid new : D) (a b c : Bytes) (count : ℕ) → count < most_rounds → Adds made old mid a b (AreRounds client now count)
      → Adds made mid new b c (AreSettled client now false (AreCollects client)) → Adds made old new a c (AreGathered client now)
  gathering_last old mid new a b c count less h k =
      adds_on made more_led old mid new a b c (AreRounds client now count) (AreSettled client now false (AreCollects client)) (AreGathered client now)
      (gathered_last client now count less) h k

  -- it stopped at a round
  pub gathering_stop : (old mid new : D) (a b c : Bytes) (count : ℕ) (stop : Stop) (other : Client) → count < most_rounds → Adds made old mid a b (AreRounds client now count)
      → other ≡ client → SettlesOnce made other now mid new b c (Err stop) → Gathers made client now old new a c (Err stop)
  gathering_stop old mid new a b c count stop other less h e k =
      cut_on made more_led client (cause_of stop) (AreRounds client now count) (IsInRound client now) (IsGathering client now) old mid new a b c (next_comes client now count less) h
      (subst (λ (one : Client). SettlesOnce made one now mid new b c (Err stop)) e k)
