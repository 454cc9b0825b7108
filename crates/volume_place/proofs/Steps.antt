-- What a step of a place on a volume comes to.
use Rattle.std.proofs.Common.{◌≡◌, ◌≢◌, ◌≤◌, ◌+◌, ◌⊎◌, inl, inr, ℕ, Bool, true, false, List, ◌++◌, length, take, Some, None, Result, Ok, Err, refl, sym, ap, subst, ◌∙◌, arith}
use Rattle.std.proofs.Math.Nat.{le_refl}
use Rattle.std.proofs.Math.Seq.{take-append_seam}
use Rattle.std.proofs.lemmas.Bool.{true≢false}
use Rattle.std.proofs.lemmas.Option.{none-some}
use Rattle.std.proofs.lemmas.List.{append-nil}
use Rattle.std.specs.Prelude.{Decides, IfSome, Option, unwrap_or}
use Rattle.js_base.specs.declared.out.Out.{Out}
use Rattle.js_model.specs.declared.stream.State.{State}
use Rattle.js_model.specs.declared.event.Event.{Event}
use Rattle.js_model.specs.declared.event.What.TheVariants.{Tick}
use Rattle.js_model.specs.declared.reply.Reply.{Reply}
use Rattle.js_model.specs.Events.{answered, is_refused, kept_incarnation}
use Rattle.js_model.specs.Firm.{IsFirmStep}
use Rattle.js_model.specs.Runs.{new_messages}
use Rattle.model_laws.specs.Sound.{IsSound}
use Rattle.effects.specs.Durables.{durable_of}
use Rattle.effects.specs.Effects.{event_effects}
use Rattle.effects.specs.declared.effect.Effect.{Effect}
use Rattle.vol_disk.specs.Disk.{Disk}
use Rattle.place_engine.specs.Following.{followed}
use Rattle.stream_store.specs.StoreState.{StoreState}
use Rattle.memory_place.specs.Answers.{LeftBy}
use Rattle.memory_place.specs.Recording.{TellsLeft}
use Rattle.place_engine.specs.Flushing.{Unflushed}
use Rattle.place_engine.specs.Stepping.{Elapses, Ends, IsUndone, Passes, Rests, Steps, Tells, Withholds, batch_of}
use Rattle.place_engine.specs.declared.faults.Left.{Left}
use Rattle.place_engine.specs.declared.faults.Left.TheVariants.{Nothing, Ticked, Unsaid}
use Rattle.place_engine.specs.declared.faults.PlaceFault.{PlaceFault}
use Rattle.place_engine.specs.declared.faults.PlaceFault.TheVariants.{NoMemory, StoreFault, Stopped, Gone, Worn}
use Rattle.volume_place.specs.Bringing.{Confirms, GoesOn}
use Rattle.volume_place.specs.Contents.{Contents}
use Rattle.volume_place.specs.Images.{Keeps, holds}
use Rattle.volume_place.specs.Leaving.{GoesTo, LogGoes, bound_of}
use Rattle.volume_place.specs.Making.{Answers, KeepsStore, RecordsEvent, has_room_for}
use Rattle.volume_place.specs.Rooms.{stored_by}
use Rattle.volume_place.specs.Seeing.{seen_of}
use Rattle.volume_place.specs.Since.{IsOverdue}
use Rattle.volume_place.specs.Tail.{SharesStep, is_small}
use Rattle.volume_place.proofs.Asked.{quiet_room}
use Rattle.volume_place.proofs.Storing.{left_plain, none_stored, stored_new}

-- the call's result, once something was made and its reply is known
abbrev pub told_as : {T : Type 0} → T → Result (Unit {0}) PlaceFault → Result T PlaceFault
told_as value (Ok done) = Ok value
told_as value (Err fault) = Err fault

-- the log of a place goes on from what it was before something was made, by which it was not touched
pub log_from : {V : Type 0} (a m n : Contents V) (effects : List Effect) → m.store ≡ a.store → m.waiting ≡ effects → LogGoes m.waiting m n → LogGoes effects a n
log_from {V} a m n effects same are (inl rests) = inl (rests ∙ same)
log_from {V} a m n effects same are (inr goes) =
    inr (subst (λ (s : StoreState). GoesTo s effects (bound_of n) (durable_of n.state) n.store.log) same (subst (λ (l : List Effect). GoesTo m.store l (bound_of n) (durable_of n.state) n.store.log) are goes))

module _ {V : Type 0} (told : Type 0) (disk : V → Disk) (faults refusals : V → ℕ) where
  pub keeps_of : (a b : Contents V) → Elapses holds (seen_of told disk faults refusals a) (seen_of told disk faults refusals b) → Keeps disk faults refusals a.vol b.vol
  keeps_of a b time = record { faults_later = time.faults; refusals_later = time.refusals; moment_later = time.moments }

  -- ---- calls that make nothing

  pub rests_still : (a : Contents V) (outs : List Out) → Rests (seen_of told disk faults refusals a) (seen_of told disk faults refusals a) outs outs
  rests_still a outs = record { state = refl; stored = refl; stopped = refl; base = λ b on. on; waiting = refl; outs = refl }

  -- whatever stands and waits then
  pub no_time : (a : Contents V) (state : State) (waiting : List Effect) (stored fixed : ℕ)
      → Elapses holds (seen_of told disk faults refusals a) (seen_of told disk faults refusals (record a { state = state; waiting = waiting; stored = stored; fixed = fixed }))
  no_time a state waiting stored fixed = record {
    faults = le_refl (faults a.vol);
    refusals = le_refl (refusals a.vol);
    moments = le_refl (disk a.vol).moment;
    generations = le_refl (unwrap_or a.store.log.head 0);
    goes_on = λ t image le is. inl is;
  }

  pub is_stopped : (a : Contents V) (count : ℕ) (e : Event) (now : ℕ) (outs : List Out) → a.stopped ≡ Some count
      → Steps holds (Err (Stopped count)) e now (seen_of told disk faults refusals a) (seen_of told disk faults refusals a) outs outs
  is_stopped a count e now outs is = record {
    ends = record { stopped = is; rests = rests_still a outs; volume = record { volume = refl; images = λ t image left. left } };
    stored = omega arith;
    time = no_time a a.state a.waiting a.stored a.fixed;
  }

  pub is_gone : (a : Contents V) (kept : ℕ) (e : Event) (now : ℕ) (outs : List Out) → a.stopped ≡ None → kept ≡ kept_incarnation a.state → e.incarnation ≢ kept
      → Steps holds (Err (Gone kept)) e now (seen_of told disk faults refusals a) (seen_of told disk faults refusals a) outs outs
  is_gone a kept e now outs going is other = record {
    ends = record { going = going; kept_is = is; other = other; rests = rests_still a outs; volume = record { volume = refl; images = λ t image left. left } };
    stored = omega arith;
    time = no_time a a.state a.waiting a.stored a.fixed;
  }

  -- ---- calls that find no memory

  -- Of a place that goes on, and an event for what it keeps.
  module _ (a : Contents V) (going : a.stopped ≡ None) where
    pub undone : (state : State) (waiting : List Effect) (stored fixed : ℕ) (before after : List Out) → state ≡ a.state → waiting ≡ a.waiting → stored ≡ a.stored → after ≡ before
        → IsUndone (seen_of told disk faults refusals a) (seen_of told disk faults refusals (record a { state = state; waiting = waiting; stored = stored; fixed = fixed })) before after
    undone state waiting stored fixed before after same waits counts outs = record {
      rests = record { state = same; stored = counts; stopped = refl; base = λ b on. on; waiting = waits; outs = outs };
      volume = λ count is. absurd (none-some count (sym going ∙ is));
    }

    pub passes : (state : State) (waiting : List Effect) (stored fixed : ℕ) (e : Event) (now : ℕ) (before after : List Out) → e.incarnation ≡ kept_incarnation a.state
        → LeftBy Ticked a.state now before after state → waiting ≡ followed a.waiting (event_effects a.state Tick now true)
        → Passes e now (seen_of told disk faults refusals a) (seen_of told disk faults refusals (record a { state = state; waiting = waiting; stored = stored; fixed = fixed })) before after
    passes state waiting stored fixed e now before after kept ticks waits =
        let given = ticks e.incarnation in
        let tick = record e { what = Tick } in
        let room = sym (quiet_room a.stopped a.fixed a.store a.state a.waiting Tick refl) in
        record {
          does = record { going = going; kept = kept; state = given.state_is ∙ ap (λ (r : Bool). (answered a.state tick now r).state) room };
          goes = going;
          outs = given.outs_are ∙ ap (λ (r : Bool). before ++ (answered a.state tick now r).outs) room;
          may = inr (record { base = λ b on. on; waiting = waits ∙ ap (λ (r : Bool). followed a.waiting (event_effects a.state Tick now r)) room });
        }

    starved : (left : Left) (state : State) (waiting effects : List Effect) (stored fixed : ℕ) (e : Event) (now : ℕ) (before after : List Out) → e.incarnation ≡ kept_incarnation a.state
        → LeftBy left a.state now before after state → TellsLeft left a.state now effects → waiting ≡ followed a.waiting effects → stored ≡ a.stored
        → Ends (Err (NoMemory left)) e now (seen_of told disk faults refusals a) (seen_of told disk faults refusals (record a { state = state; waiting = waiting; stored = stored; fixed = fixed })) before after
    starved Nothing state waiting effects stored fixed e now before after kept leaves tells waits counts =
        undone state waiting stored fixed before after leaves.0 (waits ∙ ap (followed a.waiting) tells ∙ append-nil a.waiting) counts leaves.1
    starved Ticked state waiting effects stored fixed e now before after kept leaves tells waits counts =
        passes state waiting stored fixed e now before after kept leaves (waits ∙ ap (followed a.waiting) tells)
    starved (Unsaid refused) state waiting effects stored fixed e now before after kept leaves tells waits counts = absurd leaves

    pub starves : (left : Left) (m : Contents V) (e : Event) (now : ℕ) (before after : List Out) → e.incarnation ≡ kept_incarnation a.state → KeepsStore a m
        → LeftBy left a.state now before after m.state → RecordsEvent (Err left) e.what now a m
        → Steps holds (Err (NoMemory left)) e now (seen_of told disk faults refusals a) (seen_of told disk faults refusals m) before after
    starves left m e now before after kept rests leaves records =
        let counts : m.stored ≡ a.stored = records.counted.none (none_stored records.effects (left_plain left a.state now records.effects records.told)) in
        subst (λ (n : Contents V). Steps holds (Err (NoMemory left)) e now (seen_of told disk faults refusals a) (seen_of told disk faults refusals n) before after) (sym rests)
        (record {
          ends = starved left m.state m.waiting records.effects m.stored m.fixed e now before after kept leaves records.told records.waiting counts;
          stored = omega (arith, counts);
          time = no_time a m.state m.waiting m.stored m.fixed;
        })

    -- ---- calls that make the event

    -- it is made in memory, and waits
    module _ (state : State) (waiting : List Effect) (stored fixed : ℕ) (e : Event) (now : ℕ) (reply : Reply) (before middle : List Out) (kept : e.incarnation ≡ kept_incarnation a.state)
        (answers : Answers e.what now reply before middle a (record a { state = state; waiting = waiting; stored = stored; fixed = fixed })) (waits : waiting ≡ followed a.waiting (event_effects a.state e.what now (has_room_for a e.what))) where
      abbrev Made : Contents V
      Made = record a { state = state; waiting = waiting; stored = stored; fixed = fixed }

      abbrev Room : Bool
      Room = has_room_for a e.what

      given_reply : reply ≡ (answered a.state e now Room).reply
      given_reply = (answers e.incarnation).reply_is

      given_outs : middle ≡ before ++ (answered a.state e now Room).outs
      given_outs = (answers e.incarnation).outs_are

      given_state : state ≡ (answered a.state e now Room).state
      given_state = (answers e.incarnation).state_is

      cut_back : (after : List Out) → after ≡ take (length before) middle → after ≡ before
      cut_back after is = is ∙ ap (take (length before)) given_outs ∙ take-append_seam before (answered a.state e now Room).outs

      abbrev Urgent : State → Type 0
      Urgent new = IsFirmStep a.state e.what reply new ⊎ IsOverdue a.since e.what now

      never_urgent : (u : Bool) → Decides u (Urgent state) → (new : State) → new ≡ state → u ≡ false → ¬ Urgent new
      never_urgent u decides new same patient is = true≢false (sym (decides.1 (subst Urgent same is)) ∙ patient)

      -- it is told, and committed or held back
      tells : (o : Option Bool) → IfSome o (λ u. Decides u (Urgent state)) → (n : Contents V) (after : List Out) → after ≡ middle
          → GoesOn o (seen_of told disk faults refusals Made) (seen_of told disk faults refusals n) → Tells reply e now (seen_of told disk faults refusals a) (seen_of told disk faults refusals n) before after
      tells None decides n after same on = absurd on
      tells (Some u) decides n after same (inl all) = record {
        does = record { going = going; kept = kept; state = all.all.keeps.state ∙ given_state };
        goes = all.all.goes;
        reply_is = given_reply;
        outs = same ∙ given_outs;
        commits = record {
          firm = λ is. all.all.flushed;
          may = inl all.all.flushed;
        };
      }
      tells (Some u) decides n after same (inr held) = record {
        does = record { going = going; kept = kept; state = held.rests.rests.state ∙ given_state };
        goes = held.rests.rests.stopped ∙ going;
        reply_is = given_reply;
        outs = same ∙ given_outs;
        commits = record {
          firm = λ is. absurd (never_urgent u decides n.state held.rests.rests.state held.patient (inl is));
          may = inr (record { base = held.rests.rests.base; waiting = held.rests.rests.waiting ∙ waits });
        };
      }

      -- just if it is urgent, or if what waits is not little
      shares : (o : Option Bool) → IfSome o (λ u. Decides u (Urgent state)) → (n : Contents V)
          → GoesOn o (seen_of told disk faults refusals Made) (seen_of told disk faults refusals n) → SharesStep a.since reply e now (seen_of told disk faults refusals a) (seen_of told disk faults refusals n)
      shares None decides n on = absurd on
      shares (Some u) decides n (inl all) = inl (record { cause = because all.cause; flushed = all.all.flushed })
        where
          because : (u ≡ true) ⊎ (is_small waiting ≡ false) → Urgent n.state ⊎ (is_small (followed a.waiting (event_effects a.state e.what now Room)) ≡ false)
          because (inl is) = inl (subst Urgent (sym all.all.keeps.state) (decides.0 is))
          because (inr big) = inr (ap is_small (sym waits) ∙ big)
      shares (Some u) decides n (inr held) = inr (record {
        patient = never_urgent u decides n.state held.rests.rests.state held.patient;
        small = ap is_small (sym waits) ∙ held.small;
        put_off = record { base = held.rests.rests.base; waiting = held.rests.rests.waiting ∙ waits };
        volume = record { volume = held.rests.volume.volume; images = held.rests.volume.images };
      })

      -- nothing is committed, and of the reply it is told whether it is a refusal
      withheld : (refused : Bool) (n : Contents V) (after : List Out) → Unflushed (seen_of told disk faults refusals Made) (seen_of told disk faults refusals n) → refused ≡ is_refused reply → after ≡ middle
          → Withholds refused e now (seen_of told disk faults refusals a) (seen_of told disk faults refusals n) before after
      withheld refused n after rests refuses same = record {
        hides = record {
          does = record { going = going; kept = kept; state = rests.rests.state ∙ given_state };
          goes = rests.rests.stopped ∙ going;
          outs = same ∙ given_outs;
          put_off = record { base = rests.rests.base; waiting = rests.rests.waiting ∙ waits };
          volume = record { volume = rests.volume.volume; images = rests.volume.images };
        };
        refused_is = refuses ∙ ap is_refused given_reply;
      }

      ends_as : (o : Option Bool) → IfSome o (λ u. Decides u (Urgent state)) → (result : Result (Unit {0}) PlaceFault) (n : Contents V) (after : List Out)
          → Confirms o (is_refused reply) (length before) result (seen_of told disk faults refusals Made) (seen_of told disk faults refusals n) middle after
          → Ends (told_as reply result) e now (seen_of told disk faults refusals a) (seen_of told disk faults refusals n) before after
      ends_as o decides (Ok done) n after h = tells o decides n after h.1 h.0
      ends_as o decides (Err (NoMemory (Unsaid refused))) n after h = withheld refused n after h.0 h.1 h.2
      ends_as o decides (Err StoreFault) n after h = record {
        does = record { going = going; kept = kept; state = h.0.keeps.state ∙ given_state };
        stops = h.0.stops;
        cause = h.0.cause;
        base = h.0.base;
        outs = cut_back after h.1;
      }
      ends_as o decides (Err (NoMemory Nothing)) n after h = absurd h
      ends_as o decides (Err (NoMemory Ticked)) n after h = absurd h
      ends_as o decides (Err (Stopped kept)) n after h = absurd h
      ends_as o decides (Err (Gone kept)) n after h = absurd h
      ends_as o decides (Err (Worn refused)) n after h = record {
        withholds = withheld refused n after h.0.unflushed h.1 h.2;
        last = h.0.last;
      }

      kept_state : (o : Option Bool) (result : Result (Unit {0}) PlaceFault) (n : Contents V) (after : List Out)
          → Confirms o (is_refused reply) (length before) result (seen_of told disk faults refusals Made) (seen_of told disk faults refusals n) middle after → (n.state ≡ state) × (n.stored ≡ stored)
      kept_state None (Ok done) n after h = absurd h.0
      kept_state (Some u) (Ok done) n after h = go h.0
        where
          go : GoesOn (Some u) (seen_of told disk faults refusals Made) (seen_of told disk faults refusals n) → (n.state ≡ state) × (n.stored ≡ stored)
          go (inl all) = (all.all.keeps.state, all.all.keeps.stored)
          go (inr held) = (held.rests.rests.state, held.rests.rests.stored)
      kept_state o (Err (NoMemory (Unsaid refused))) n after h = (h.0.rests.state, h.0.rests.stored)
      kept_state o (Err StoreFault) n after h = (h.0.keeps.state, h.0.keeps.stored)
      kept_state o (Err (NoMemory Nothing)) n after h = absurd h
      kept_state o (Err (NoMemory Ticked)) n after h = absurd h
      kept_state o (Err (Stopped kept)) n after h = absurd h
      kept_state o (Err (Gone kept)) n after h = absurd h
      kept_state o (Err (Worn refused)) n after h = (h.0.unflushed.rests.state, h.0.unflushed.rests.stored)

      module _ (sound : IsSound a.state) (most : stored ≤ a.stored + stored_by (event_effects a.state e.what now Room)) where
        counts : (n : Contents V) → n.state ≡ state → n.stored ≡ stored → n.stored ≤ a.stored + length (new_messages a.state n.state)
        counts n same same_stored =
            let some : stored_by (event_effects a.state e.what now Room) ≤ length (new_messages a.state n.state) =
            subst (λ (s : State). stored_by (event_effects a.state e.what now Room) ≤ length (new_messages a.state s)) (sym (same ∙ given_state)) (stored_new a.state e now Room sound) in
            omega (arith, same_stored, most, some)

        steps_as : (o : Option Bool) → IfSome o (λ u. Decides u (Urgent state)) → (result : Result (Unit {0}) PlaceFault) (n : Contents V) (after : List Out)
            → Confirms o (is_refused reply) (length before) result (seen_of told disk faults refusals Made) (seen_of told disk faults refusals n) middle after
            → Elapses holds (seen_of told disk faults refusals Made) (seen_of told disk faults refusals n)
            → Steps holds (told_as reply result) e now (seen_of told disk faults refusals a) (seen_of told disk faults refusals n) before after
        steps_as o decides result n after h time =
            let same = kept_state o result n after h in
            record {
              ends = ends_as o decides result n after h;
              stored = counts n same.0 same.1;
              time = record { faults = time.faults; refusals = time.refusals; moments = time.moments; generations = time.generations; goes_on = time.goes_on };
            }

    -- what waits then, and how many messages count
    waits_by : (m : Contents V) (e : Event) (now : ℕ) (reply : Reply) → RecordsEvent (Ok reply) e.what now a m → m.waiting ≡ followed a.waiting (event_effects a.state e.what now (has_room_for a e.what))
    waits_by m e now reply records = records.waiting ∙ ap (followed a.waiting) records.told

    most_by : (m : Contents V) (e : Event) (now : ℕ) (reply : Reply) → RecordsEvent (Ok reply) e.what now a m → m.stored ≤ a.stored + stored_by (event_effects a.state e.what now (has_room_for a e.what))
    most_by m e now reply records = subst (λ (l : List Effect). m.stored ≤ a.stored + stored_by l) records.told records.counted.most

    pub steps_made : (m n : Contents V) (e : Event) (now : ℕ) (reply : Reply) (before middle after : List Out) (o : Option Bool) (refused : Bool) (count : ℕ) (result : Result (Unit {0}) PlaceFault)
        → IsSound a.state → e.incarnation ≡ kept_incarnation a.state → KeepsStore a m → Answers e.what now reply before middle a m → RecordsEvent (Ok reply) e.what now a m
        → IfSome o (λ u. Decides u (IsFirmStep a.state e.what reply m.state ⊎ IsOverdue a.since e.what now)) → refused ≡ is_refused reply → count ≡ length before
        → Confirms o refused count result (seen_of told disk faults refusals m) (seen_of told disk faults refusals n) middle after → Elapses holds (seen_of told disk faults refusals m) (seen_of told disk faults refusals n)
        → Steps holds (told_as reply result) e now (seen_of told disk faults refusals a) (seen_of told disk faults refusals n) before after
    steps_made m n e now reply before middle after o refused count result sound kept rests answers records decides refuses counts confirms time =
        let told_so = subst (λ (b : Bool). Confirms o b count result (seen_of told disk faults refusals m) (seen_of told disk faults refusals n) middle after) refuses confirms in
        let so_many = subst (λ (k : ℕ). Confirms o (is_refused reply) k result (seen_of told disk faults refusals m) (seen_of told disk faults refusals n) middle after) counts told_so in
        let from = subst (λ (p : Contents V). Confirms o (is_refused reply) (length before) result (seen_of told disk faults refusals p) (seen_of told disk faults refusals n) middle after) rests so_many in
        steps_as m.state m.waiting m.stored m.fixed e now reply before middle kept answers (waits_by m e now reply records) sound (most_by m e now reply records) o decides result n after from
        (subst (λ (p : Contents V). Elapses holds (seen_of told disk faults refusals p) (seen_of told disk faults refusals n)) rests time)

    -- what its log comes to
    pub log_made : (m n : Contents V) (e : Event) (now : ℕ) (reply : Reply) → KeepsStore a m → RecordsEvent (Ok reply) e.what now a m → LogGoes m.waiting m n
        → LogGoes (batch_of e now (seen_of told disk faults refusals a)) a n
    log_made m n e now reply rests records goes =
        log_from a m n (batch_of e now (seen_of told disk faults refusals a)) (ap (λ (p : Contents V). p.store) rests) (waits_by m e now reply records) goes

    pub shares_made : (m n : Contents V) (e : Event) (now : ℕ) (reply : Reply) (before middle after : List Out) (o : Option Bool) (refused : Bool) (count : ℕ)
        → e.incarnation ≡ kept_incarnation a.state → KeepsStore a m → Answers e.what now reply before middle a m → RecordsEvent (Ok reply) e.what now a m
        → IfSome o (λ u. Decides u (IsFirmStep a.state e.what reply m.state ⊎ IsOverdue a.since e.what now)) → Confirms o refused count (Ok tt) (seen_of told disk faults refusals m) (seen_of told disk faults refusals n) middle after
        → SharesStep a.since reply e now (seen_of told disk faults refusals a) (seen_of told disk faults refusals n)
    shares_made m n e now reply before middle after o refused count kept rests answers records decides confirms =
        shares m.state m.waiting m.stored m.fixed e now reply before middle kept answers (waits_by m e now reply records) o decides n
        (subst (λ (p : Contents V). GoesOn o (seen_of told disk faults refusals p) (seen_of told disk faults refusals n)) rests confirms.0)
