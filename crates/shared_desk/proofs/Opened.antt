-- What a hub is opened to, or why it was not opened.
use Rattle.std.proofs.Common.{◌≡◌, ◌≤◌, ◌<◌, ◌++◌, ℕ, List, [], ◌∷◌, length, map, Option, refl, sym, ap, subst, ◌∙◌, inl, inr, arith, Result, Ok, Err, IfErr, IsErrAnd}
use Rattle.std.specs.Prelude.{reverse, sum_by}
use Rattle.std.specs.List.{AllByRecursion, AllZip}
use Rattle.std.specs.Global.{Vec}
use Rattle.std.proofs.lemmas.List.{append-nil, length-map}
use Rattle.std.proofs.lemmas.List.Sums.{sum_by-cons}
use Rattle.std.proofs.lemmas.Slice.Zip.{AllZip-long}
use Rattle.atomic_table.specs.Seated.{TableId}
use Rattle.js_model.specs.declared.stream.State.{State}
use Rattle.js_model.specs.Catalog.{Catalog, kept_place}
use Rattle.catalog.specs.Apart.{IsApart}
use Rattle.place_engine.specs.Stepping.{Image, Seen}
use Rattle.place_engine.specs.declared.faults.OpenFault.{OpenFault}
use Rattle.place_engine.specs.Preparing.{RoomCauses}
use Rattle.js_api.specs.Worlds.{kept_in}
use Rattle.histories.specs.Entries.{Opening, OfCatalog}
use Rattle.turn_lock.specs.Seats.{LockView}
use Rattle.hub_catalog.specs.Kinds.{places_of}
use Rattle.hub_fronts.specs.Fronts.{SharedScene}
use Rattle.hub_place.specs.Holds.{SendsTo}
use Rattle.desk_places.specs.Cataloging.{IsUncataloged}
use Rattle.desk_places.specs.Places.{places_by}
use Rattle.desk_places.specs.Opening.{FailsToOpen, OpensOn}
use Rattle.desk_places.specs.declared.cataloging.Uncataloged.{Uncataloged}
use Rattle.desk_places.specs.declared.cataloging.Uncataloged.TheVariants as stops
use Rattle.desk_places.specs.declared.faults.HubFault.{HubFault}
use Rattle.desk_places.specs.declared.faults.HubFault.TheVariants as faults_of
use Rattle.shared_desk.specs.Faults.{fault_of}
use Rattle.shared_desk.specs.declared.finding.Tally.{Tally}
use Rattle.shared_desk.specs.Finding.{messages_at, messages_of, streams_at, streams_of}
use Rattle.shared_desk.specs.Hubs.{HubView, IsEquipped, IsHub}
use Rattle.shared_desk.specs.Laying.{IsLaid}
use Rattle.shared_desk.specs.Opening.{ComesBack, FailsToOpenHub, IsLocked, OpensHub, catalog_by}

module _ {P : Type 0} (seen : P → Seen) where
  each_sends : (router : TableId) (workers : ℕ) (row : List P) (locks : List LockView) → AllZip (IsLocked seen router workers) row locks → AllByRecursion (λ (place : LockView). SendsTo place.opening router) locks
  each_sends router workers [] [] z = tt
  each_sends router workers [] (l ∷ locks) z = absurd z
  each_sends router workers (p ∷ row) [] z = absurd z
  each_sends router workers (p ∷ row) (l ∷ locks) z = (subst (λ (o : Opening). SendsTo o router) (sym z.0.opening) refl, each_sends router workers row locks z.1)

  catalog_long : (row : List P) → length (catalog_by seen row) ≡ length row
  catalog_long row = length-map (map kept_in (places_by seen row)) kept_place ∙ length-map (places_by seen row) kept_in ∙ length-map row (λ (p : P). (seen p).place)

  laid_hub : (kept : Catalog) (workers : ℕ) (row : List P) (hub : HubView) (passes : List SharedScene) → kept ≡ catalog_by seen row → length row ≤ 32 → 0 < workers → IsLaid seen kept workers row hub passes → IsHub hub
  laid_hub kept workers row hub passes is few some l =
      let long : length hub.places ≡ length row = AllZip-long (IsLocked seen hub.router.lock workers) row hub.places l.places in
      record {
        some = subst (λ (n : ℕ). 0 < n) (sym l.catalog_seats) some;
        few = omega (arith, long, few);
        router = l.router;
        catalog = ap places_of l.catalog_is ∙ ap length is ∙ catalog_long row ∙ sym long;
        ports = each_sends hub.router.lock workers row hub.places l.places;
      }

-- what is counted of each two alike comes to the same
same_sum : {X Y : Type 0} (R : X → Y → Type 0) (f : X → ℕ) (g : Y → ℕ) → ((x : X) (y : Y) → R x y → f x ≡ g y) → (xs : List X) (ys : List Y) → AllZip R xs ys → sum_by f xs ≡ sum_by g ys
same_sum R f g each [] [] z = refl
same_sum R f g each [] (y ∷ ys) z = absurd z
same_sum R f g each (x ∷ xs) [] z = absurd z
same_sum R f g each (x ∷ xs) (y ∷ ys) z = omega (arith, sum_by-cons f x xs, sum_by-cons g y ys, each x y z.0, same_sum R f g each xs ys z.1)

module _ {P V : Type 0} (seen : P → Seen) where
  -- it is a hub, it has room for its places and their volumes, and the numbers are those of its places
  pub equipped : (kept : Catalog) (workers : ℕ) (row : List P) (hub : HubView) (passes : List SharedScene) (rest : List P) (row_room : ℕ) (vols : List V) (vols_room : ℕ) (opened : Tally) → kept ≡ catalog_by seen row → length row ≤ 32 → 0 < workers
      → IsLaid seen kept workers row hub passes → rest ≡ [] → length row ≤ row_room → vols ≡ [] → length row ≤ vols_room → opened.streams ≡ streams_of seen row → opened.messages ≡ messages_of seen row
      → IsEquipped hub rest row_room vols vols_room opened
  equipped kept workers row hub passes rest row_room vols vols_room opened is few some l none fits no_vols fit streams messages =
      let long : length hub.places ≡ length row = AllZip-long (IsLocked seen hub.router.lock workers) row hub.places l.places in
      record {
        is_hub = laid_hub seen kept workers row hub passes is few some l;
        none = none;
        row_fits = omega (arith, long, fits);
        no_vols = no_vols;
        vols_fit = omega (arith, long, fit);
        streams = streams ∙ same_sum (IsLocked seen hub.router.lock workers) _ (λ of. streams_at of.opening) (λ place of z. ap streams_at (sym z.opening)) row hub.places l.places;
        messages = messages ∙ same_sum (IsLocked seen hub.router.lock workers) _ (λ of. messages_at of.opening) (λ place of z. ap messages_at (sym z.opening)) row hub.places l.places;
      }

  module _ (vol : P → V) (holds : Image → State → Type 0) (reads : V → Image → Type 0) (left : V → ℕ → Image → Type 0) (clock faults : V → ℕ) (causes : RoomCauses V)
      (base : Option ℕ → V → State → Type 0) (opens : V → State → Type 0) (refuses : V → OpenFault → Type 0) (keeps : V → V → Type 0) where
    pub opens_hub : (before : List V) (kept : Catalog) (workers : ℕ) (row : List P) (hub : HubView) (passes : List SharedScene) → AllZip (OpensOn seen vol holds reads left clock faults causes base opens refuses keeps) before row
        → kept ≡ catalog_by seen row → IsApart kept → IsLaid seen kept workers row hub passes → OpensHub seen vol holds reads left clock faults causes base opens refuses keeps before workers hub passes
    opens_hub before kept workers row hub passes opened is apart l = record {
      row = row;
      opened = opened;
      apart = subst IsApart is apart;
      router = l.router;
      router_seats = l.router_seats;
      catalog = subst (λ (c : Catalog). hub.catalog.opening ≡ OfCatalog c) is l.catalog_is;
      catalog_seats = l.catalog_seats;
      places = l.places;
      count = l.count;
      all = l.all;
      new = l.new;
    }

    fails_so : (before : List V) (fault : HubFault V) → FailsToOpen seen vol holds reads left clock faults causes base opens refuses keeps before fault → FailsToOpenHub seen vol holds reads left clock faults causes base opens refuses keeps before fault
    fails_so before (faults_of.Open place why back) h = h
    fails_so before (faults_of.Conflict first second back) h = h
    fails_so before (faults_of.NoMemory back) h = inl h

    -- a place was not opened, which is handed on
    pub unopened : {T : Type 0} (before : List V) (fault : HubFault V) (result : Result T (HubFault V)) → IsErrAnd result (λ e. e ≡ fault) → FailsToOpen seen vol holds reads left clock faults causes base opens refuses keeps before fault
        → IfErr result (FailsToOpenHub seen vol holds reads left clock faults causes base opens refuses keeps before)
    unopened before fault (Ok value) is h = absurd is
    unopened before fault (Err e) is h = subst (FailsToOpenHub seen vol holds reads left clock faults causes base opens refuses keeps before) (sym is) (fails_so before fault h)

    -- there is no catalog
    pub uncataloged : (before : List V) (row : List P) (stop : Uncataloged) (vols : Vec V) → AllZip (OpensOn seen vol holds reads left clock faults causes base opens refuses keeps) before row
        → IsUncataloged (map kept_in (places_by seen row)) stop → vols.items ≡ map vol row ++ reverse [] → FailsToOpenHub seen vol holds reads left clock faults causes base opens refuses keeps before (fault_of stop vols)
    uncataloged before row (stops.Conflict first second) vols opened h back = record { row = row; lets_go = record { opened = opened; after_are = back ∙ append-nil (map vol row) }; conflict = h }
    uncataloged before row stops.NoMemory vols opened h back = inl (inr (row, record { opened = opened; after_are = back ∙ append-nil (map vol row) }))

    -- there is no memory for a lock
    pub unlocked : (before : List V) (row back : List P) (vols : Vec V) → AllZip (OpensOn seen vol holds reads left clock faults causes base opens refuses keeps) before row
        → AllZip (ComesBack seen vol holds reads left clock faults causes base opens refuses keeps) row back → vols.items ≡ map vol back ++ reverse [] → FailsToOpenHub seen vol holds reads left clock faults causes base opens refuses keeps before (faults_of.NoMemory vols)
    unlocked before row back vols opened came given = inr (record { row = row; opened = opened; back = back; came = came; after_are = given ∙ append-nil (map vol back) })
