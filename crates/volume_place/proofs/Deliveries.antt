-- What a delivery of a place on a volume comes to.
use Rattle.std.proofs.Common.{◌≡◌, ◌⊎◌, inl, inr, ℕ, true, false, List, length, take, Some, None, Result, Ok, Err, refl, sym, ap, subst, ◌∙◌, arith}
use Rattle.std.proofs.Math.Seq.{take-append_seam}
use Rattle.std.proofs.lemmas.Bool.{true≢false}
use Rattle.std.proofs.lemmas.List.{append-nil}
use Rattle.js_base.specs.Bytes.{Bytes}
use Rattle.js_base.specs.declared.out.Out.{Out}
use Rattle.js_model.specs.declared.stream.State.{State}
use Rattle.js_model.specs.declared.entry.Delivery.{Delivery}
use Rattle.js_model.specs.Deliver.{IsDelivered}
use Rattle.effects.specs.Effects.{delivery_effects}
use Rattle.effects.specs.declared.effect.Effect.{Effect}
use Rattle.vol_disk.specs.Disk.{Disk}
use Rattle.memory_place.specs.Answers.{DeliversNone, DeliversSome, LeftBy}
use Rattle.place_engine.specs.Delivering.{Delivers, EndsDelivery, HidesDelivery, TellsDelivery, batch_with, tick_at}
use Rattle.place_engine.specs.Flushing.{Unflushed}
use Rattle.place_engine.specs.Following.{followed}
use Rattle.memory_place.specs.Recording.{TellsLeft}
use Rattle.place_engine.specs.Stepping.{Elapses}
use Rattle.place_engine.specs.declared.faults.Left.{Left}
use Rattle.place_engine.specs.declared.faults.Left.TheVariants.{Nothing, Ticked, Unsaid}
use Rattle.place_engine.specs.declared.faults.PlaceFault.{PlaceFault}
use Rattle.place_engine.specs.declared.faults.PlaceFault.TheVariants.{NoMemory, StoreFault, Stopped, Gone, Worn}
use Rattle.volume_place.specs.Bringing.{Confirms, GoesOn}
use Rattle.volume_place.specs.Contents.{Contents}
use Rattle.volume_place.specs.Images.{holds}
use Rattle.volume_place.specs.Leaving.{LogGoes}
use Rattle.volume_place.specs.Making.{KeepsStore, RecordsDelivery}
use Rattle.volume_place.specs.Seeing.{seen_of}
use Rattle.volume_place.specs.Tail.{SharesDelivery, is_small}
use Rattle.volume_place.proofs.Steps.{log_from, no_time, passes, rests_still, told_as, undone}

module _ {V : Type 0} (told : Type 0) (disk : V → Disk) (faults refusals : V → ℕ) (a : Contents V) where
  pub delivery_stopped : (count now : ℕ) (listening : List Bytes) (outs : List Out) → a.stopped ≡ Some count
      → Delivers holds (Err (Stopped count)) now listening (seen_of told disk faults refusals a) (seen_of told disk faults refusals a) outs outs
  delivery_stopped count now listening outs is = record {
    ends = record { stopped = is; rests = rests_still told disk faults refusals a outs; volume = record { volume = refl; images = λ t image left. left } };
    stored = omega arith;
    time = no_time told disk faults refusals a a.state a.waiting a.stored a.fixed;
  }

  module _ (going : a.stopped ≡ None) where
    starved : (left : Left) (state : State) (waiting effects : List Effect) (stored fixed : ℕ) (now : ℕ) (listening : List Bytes) (before after : List Out) → LeftBy left a.state now before after state
        → TellsLeft left a.state now effects → waiting ≡ followed a.waiting effects → stored ≡ a.stored
        → EndsDelivery (Err (NoMemory left)) now listening (seen_of told disk faults refusals a) (seen_of told disk faults refusals (record a { state = state; waiting = waiting; stored = stored; fixed = fixed })) before after
    starved Nothing state waiting effects stored fixed now listening before after leaves tells waits counts =
        undone told disk faults refusals a going state waiting stored fixed before after leaves.0 (waits ∙ ap (followed a.waiting) tells ∙ append-nil a.waiting) counts leaves.1
    starved Ticked state waiting effects stored fixed now listening before after leaves tells waits counts =
        passes told disk faults refusals a going state waiting stored fixed (tick_at a.state) now before after refl leaves (waits ∙ ap (followed a.waiting) tells)
    starved (Unsaid refused) state waiting effects stored fixed now listening before after leaves tells waits counts = absurd leaves

    pub delivery_starves : (left : Left) (m : Contents V) (now : ℕ) (listening : List Bytes) (before after : List Out) → KeepsStore a m → LeftBy left a.state now before after m.state
        → RecordsDelivery (Err left) now a m → Delivers holds (Err (NoMemory left)) now listening (seen_of told disk faults refusals a) (seen_of told disk faults refusals m) before after
    delivery_starves left m now listening before after rests leaves records =
        subst (λ (n : Contents V). Delivers holds (Err (NoMemory left)) now listening (seen_of told disk faults refusals a) (seen_of told disk faults refusals n) before after) (sym rests)
        (record {
          ends = starved left m.state m.waiting records.effects m.stored m.fixed now listening before after leaves records.told records.waiting records.counted;
          stored = omega (arith, records.counted);
          time = no_time told disk faults refusals a m.state m.waiting m.stored m.fixed;
        })

    -- no consumer is ready
    pub delivers_none : (m : Contents V) (now : ℕ) (listening : List Bytes) (before after : List Out) → KeepsStore a m → DeliversNone a.state now listening before after m.state
        → RecordsDelivery (Ok None) now a m → Delivers holds (Ok None) now listening (seen_of told disk faults refusals a) (seen_of told disk faults refusals m) before after
    delivers_none m now listening before after rests none records =
        subst (λ (n : Contents V). Delivers holds (Ok None) now listening (seen_of told disk faults refusals a) (seen_of told disk faults refusals n) before after) (sym rests)
        (record {
          ends = record {
            going = going;
            none = none.none;
            rests = record {
              state = none.same;
              stored = records.counted;
              stopped = refl;
              base = λ b on. on;
              waiting = records.waiting ∙ ap (followed a.waiting) records.told ∙ append-nil a.waiting;
              outs = none.outs_same;
            };
            volume = refl;
          };
          stored = omega (arith, records.counted);
          time = no_time told disk faults refusals a m.state m.waiting m.stored m.fixed;
        })

    -- some delivery is made in memory, and waits
    module _ (state : State) (waiting : List Effect) (stored fixed : ℕ) (counted : stored ≡ a.stored) (delivery : Delivery) (now : ℕ) (listening : List Bytes) (before middle : List Out)
        (delivers : DeliversSome a.state now listening delivery before middle state) (waits : waiting ≡ followed a.waiting (delivery_effects a.state now delivery state)) where
      abbrev Made : Contents V
      Made = record a { state = state; waiting = waiting; stored = stored; fixed = fixed }

      cut_back : (after : List Out) → after ≡ take (length before) middle → after ≡ before
      cut_back after is = is ∙ ap (take (length before)) delivers.outs_are ∙ take-append_seam before delivers.sent

      -- what stands then is what was made
      delivered_as : (new : State) → new ≡ state → IsDelivered a.state now listening delivery delivers.sent new
      delivered_as new same = subst (λ (s : State). IsDelivered a.state now listening delivery delivers.sent s) (sym same) delivers.delivered

      waits_as : (new : State) → new ≡ state → waiting ≡ followed a.waiting (delivery_effects a.state now delivery new)
      waits_as new same = subst (λ (s : State). waiting ≡ followed a.waiting (delivery_effects a.state now delivery s)) (sym same) waits

      -- it is told, and committed or held back
      tells : (n : Contents V) (after : List Out) → after ≡ middle → GoesOn (Some false) (seen_of told disk faults refusals Made) (seen_of told disk faults refusals n)
          → TellsDelivery delivery now listening (seen_of told disk faults refusals a) (seen_of told disk faults refusals n) before after
      tells n after same (inl all) = record {
        sent = delivers.sent;
        makes = record { going = going; delivered = delivered_as n.state all.all.keeps.state };
        goes = all.all.goes;
        outs = same ∙ delivers.outs_are;
        may = inl all.all.flushed;
      }
      tells n after same (inr held) = record {
        sent = delivers.sent;
        makes = record { going = going; delivered = delivered_as n.state held.rests.rests.state };
        goes = held.rests.rests.stopped ∙ going;
        outs = same ∙ delivers.outs_are;
        may = inr (record { base = held.rests.rests.base; waiting = held.rests.rests.waiting ∙ waits_as n.state held.rests.rests.state });
      }

      -- just if what waits is not little
      shares : (n : Contents V) → GoesOn (Some false) (seen_of told disk faults refusals Made) (seen_of told disk faults refusals n) → SharesDelivery delivery now (seen_of told disk faults refusals a) (seen_of told disk faults refusals n)
      shares n (inl all) = inl (record { cause = because all.cause; flushed = all.all.flushed })
        where
          because : (false ≡ true) ⊎ (is_small waiting ≡ false) → ⊥ ⊎ (is_small (followed a.waiting (delivery_effects a.state now delivery n.state)) ≡ false)
          because (inl never) = absurd (true≢false (sym never))
          because (inr big) = inr (ap is_small (sym (waits_as n.state all.all.keeps.state)) ∙ big)
      shares n (inr held) = inr (record {
        patient = λ never. never;
        small = ap is_small (sym (waits_as n.state held.rests.rests.state)) ∙ held.small;
        put_off = record { base = held.rests.rests.base; waiting = held.rests.rests.waiting ∙ waits_as n.state held.rests.rests.state };
        volume = record { volume = held.rests.volume.volume; images = held.rests.volume.images };
      })

      -- what its log comes to
      log : (n : Contents V) → GoesOn (Some false) (seen_of told disk faults refusals Made) (seen_of told disk faults refusals n) → LogGoes waiting Made n
          → LogGoes (batch_with now delivery (seen_of told disk faults refusals a) (seen_of told disk faults refusals n)) a n
      log n (inl all) goes = log_from a Made n (batch_with now delivery (seen_of told disk faults refusals a) (seen_of told disk faults refusals n)) refl (waits_as n.state all.all.keeps.state) goes
      log n (inr held) goes = log_from a Made n (batch_with now delivery (seen_of told disk faults refusals a) (seen_of told disk faults refusals n)) refl (waits_as n.state held.rests.rests.state) goes

      -- nothing is committed
      hidden : (n : Contents V) (after : List Out) → Unflushed (seen_of told disk faults refusals Made) (seen_of told disk faults refusals n) → after ≡ middle
          → HidesDelivery now listening (seen_of told disk faults refusals a) (seen_of told disk faults refusals n) before after
      hidden n after rests same = record {
        delivery = delivery;
        sent = delivers.sent;
        makes = record { going = going; delivered = delivered_as n.state rests.rests.state };
        goes = rests.rests.stopped ∙ going;
        outs = same ∙ delivers.outs_are;
        put_off = record { base = rests.rests.base; waiting = rests.rests.waiting ∙ waits_as n.state rests.rests.state };
        volume = record { volume = rests.volume.volume; images = rests.volume.images };
      }

      ends_as : (result : Result (Unit {0}) PlaceFault) (n : Contents V) (after : List Out)
          → Confirms (Some false) false (length before) result (seen_of told disk faults refusals Made) (seen_of told disk faults refusals n) middle after
          → EndsDelivery (told_as (Some delivery) result) now listening (seen_of told disk faults refusals a) (seen_of told disk faults refusals n) before after
      ends_as (Ok done) n after h = tells n after h.1 h.0
      ends_as (Err (NoMemory (Unsaid refused))) n after h = hidden n after h.0 h.2
      ends_as (Err StoreFault) n after h = record {
        delivery = delivery;
        sent = delivers.sent;
        makes = record { going = going; delivered = delivered_as n.state h.0.keeps.state };
        stops = h.0.stops;
        cause = h.0.cause;
        base = h.0.base;
        outs = cut_back after h.1;
      }
      ends_as (Err (NoMemory Nothing)) n after h = absurd h
      ends_as (Err (NoMemory Ticked)) n after h = absurd h
      ends_as (Err (Stopped kept)) n after h = absurd h
      ends_as (Err (Gone kept)) n after h = absurd h
      ends_as (Err (Worn refused)) n after h = record { hides = hidden n after h.0.unflushed h.2; last = h.0.last }

      kept_stored : (result : Result (Unit {0}) PlaceFault) (n : Contents V) (after : List Out)
          → Confirms (Some false) false (length before) result (seen_of told disk faults refusals Made) (seen_of told disk faults refusals n) middle after → n.stored ≡ a.stored
      kept_stored (Ok done) n after h = go h.0
        where
          go : GoesOn (Some false) (seen_of told disk faults refusals Made) (seen_of told disk faults refusals n) → n.stored ≡ a.stored
          go (inl all) = all.all.keeps.stored ∙ counted
          go (inr held) = held.rests.rests.stored ∙ counted
      kept_stored (Err (NoMemory (Unsaid refused))) n after h = h.0.rests.stored ∙ counted
      kept_stored (Err StoreFault) n after h = h.0.keeps.stored ∙ counted
      kept_stored (Err (NoMemory Nothing)) n after h = absurd h
      kept_stored (Err (NoMemory Ticked)) n after h = absurd h
      kept_stored (Err (Stopped kept)) n after h = absurd h
      kept_stored (Err (Gone kept)) n after h = absurd h
      kept_stored (Err (Worn refused)) n after h = h.0.unflushed.rests.stored ∙ counted

      delivers_as : (result : Result (Unit {0}) PlaceFault) (n : Contents V) (after : List Out)
          → Confirms (Some false) false (length before) result (seen_of told disk faults refusals Made) (seen_of told disk faults refusals n) middle after
          → Elapses holds (seen_of told disk faults refusals Made) (seen_of told disk faults refusals n)
          → Delivers holds (told_as (Some delivery) result) now listening (seen_of told disk faults refusals a) (seen_of told disk faults refusals n) before after
      delivers_as result n after h time = record {
        ends = ends_as result n after h;
        stored = let same = kept_stored result n after h in omega (arith, same);
        time = record { faults = time.faults; refusals = time.refusals; moments = time.moments; generations = time.generations; goes_on = time.goes_on };
      }

    pub delivers_made : (m n : Contents V) (delivery : Delivery) (now : ℕ) (listening : List Bytes) (before middle after : List Out) (count : ℕ) (result : Result (Unit {0}) PlaceFault)
        → KeepsStore a m → DeliversSome a.state now listening delivery before middle m.state → RecordsDelivery (Ok (Some delivery)) now a m → count ≡ length before
        → Confirms (Some false) false count result (seen_of told disk faults refusals m) (seen_of told disk faults refusals n) middle after → Elapses holds (seen_of told disk faults refusals m) (seen_of told disk faults refusals n)
        → Delivers holds (told_as (Some delivery) result) now listening (seen_of told disk faults refusals a) (seen_of told disk faults refusals n) before after
    delivers_made m n delivery now listening before middle after count result rests delivers records counts confirms time =
        let so_many = subst (λ (k : ℕ). Confirms (Some false) false k result (seen_of told disk faults refusals m) (seen_of told disk faults refusals n) middle after) counts confirms in
        let from = subst (λ (p : Contents V). Confirms (Some false) false (length before) result (seen_of told disk faults refusals p) (seen_of told disk faults refusals n) middle after) rests so_many in
        let waits = records.waiting ∙ ap (followed a.waiting) records.told in
        delivers_as m.state m.waiting m.stored m.fixed records.counted delivery now listening before middle delivers waits result n after from
        (subst (λ (p : Contents V). Elapses holds (seen_of told disk faults refusals p) (seen_of told disk faults refusals n)) rests time)

    pub delivery_shares : (m n : Contents V) (delivery : Delivery) (now : ℕ) (listening : List Bytes) (before middle after : List Out) (count : ℕ)
        → KeepsStore a m → DeliversSome a.state now listening delivery before middle m.state → RecordsDelivery (Ok (Some delivery)) now a m
        → Confirms (Some false) false count (Ok tt) (seen_of told disk faults refusals m) (seen_of told disk faults refusals n) middle after
        → SharesDelivery delivery now (seen_of told disk faults refusals a) (seen_of told disk faults refusals n)
    delivery_shares m n delivery now listening before middle after count rests delivers records confirms =
        let waits = records.waiting ∙ ap (followed a.waiting) records.told in
        shares m.state m.waiting m.stored m.fixed records.counted delivery now listening before middle delivers waits n
        (subst (λ (p : Contents V). GoesOn (Some false) (seen_of told disk faults refusals p) (seen_of told disk faults refusals n)) rests confirms.0)

    -- and so what its log comes to
    pub delivery_log : (m n : Contents V) (delivery : Delivery) (now : ℕ) (listening : List Bytes) (before middle after : List Out) (count : ℕ)
        → KeepsStore a m → DeliversSome a.state now listening delivery before middle m.state → RecordsDelivery (Ok (Some delivery)) now a m
        → Confirms (Some false) false count (Ok tt) (seen_of told disk faults refusals m) (seen_of told disk faults refusals n) middle after → LogGoes m.waiting m n
        → LogGoes (batch_with now delivery (seen_of told disk faults refusals a) (seen_of told disk faults refusals n)) a n
    delivery_log m n delivery now listening before middle after count rests delivers records confirms goes =
        let waits = records.waiting ∙ ap (followed a.waiting) records.told in
        log m.state m.waiting m.stored m.fixed records.counted delivery now listening before middle delivers waits n
        (subst (λ (p : Contents V). GoesOn (Some false) (seen_of told disk faults refusals p) (seen_of told disk faults refusals n)) rests confirms.0)
        (subst (λ (p : Contents V). LogGoes p.waiting p n) rests goes)
