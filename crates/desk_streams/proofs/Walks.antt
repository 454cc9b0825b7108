-- The walk over all streams, place by place, and the answer by what they told.
use Rattle.std.proofs.Common.{◌≡◌, ℕ, Bool, true, false, List, [], ◌∷◌, ◌++◌, Option, None, Some, refl, sym, ap, subst, ◌∙◌, inl, inr, append_assoc, append-nil, if◌then◌else◌, nat_lt, IsErrAnd, arith}
use Rattle.std.proofs.lemmas.List.{length-append}
use Rattle.std.proofs.lemmas.List.Elements.{All-append, All-cons, All-nil}
use Rattle.std.specs.Prelude.{Result, Ok, Err}
use Rattle.js_base.specs.Bytes.{Bytes}
use Rattle.js_base.specs.declared.out.Out.{Out}
use Rattle.js_base.specs.declared.out.ApiError.{ApiError}
use Rattle.js_model.specs.declared.reply.StreamInfo.{StreamInfo}
use Rattle.js_model.specs.declared.desk.PlaceAt.{PlaceAt}
use Rattle.js_model.specs.Catalog as catalog
use Rattle.place_engine.specs.Shown.{IsSoundInfo}
use Rattle.js_api.specs.declared.fault.DeskFault.{DeskFault}
use Rattle.js_api.specs.declared.fault.DeskFault.TheVariants as faults
use Rattle.js_api.specs.Entries.{DeskEntry}
use Rattle.js_api.specs.Leading.{Makes}
use Rattle.js_api.specs.Stages.{LooksUp}
use Rattle.js_api.specs.OneStream.{Answers, refusal}
use Rattle.js_api.specs.AllStreams.{Visit, Walks, WalksOn, IsOverAll, GoesOnWalked, answer_or, behind, failure, infos_of, info_told, is_further}
use Rattle.desk_ground.specs.declared.reason.Reason.{Reason}
use Rattle.desk_ground.specs.Reasons.{error_of}
use Rattle.desk_streams.specs.Walking.{further, failing, IsVisit, IsVisitTold, IsWalk, AddsInfos, AddsSound}
use Rattle.desk_ground.proofs.Stages.{as_such, nothing}

-- ---- the next place

-- what is further is there
pub record Next (last found : Option PlaceAt) (at : PlaceAt) : Type 0 where
  pub found_is : found ≡ Some at
  pub is_further : is_further last (Some at) ≡ true

pub next : (last found : Option PlaceAt) (at : PlaceAt) → further last found ≡ Some at → Next last found at
next None None at h = absurd (cc)
next None (Some other) at h = record { found_is = h; is_further = refl }
next (Some before) None at h = absurd (cc)
next (Some before) (Some other) at h = by (nat_lt before.place other.place) refl h
  where
    by : (b : Bool) → nat_lt before.place other.place ≡ b → (if b then Some other else None) ≡ Some at → Next (Some before) (Some other) at
    by true e k =
        let same : other ≡ at = cc in
        record { found_is = k; is_further = ap (λ (x : PlaceAt). nat_lt before.place x.place) (sym same) ∙ e }
    by false e k = absurd (cc)

-- no further one is left
pub none_further : (last found : Option PlaceAt) → further last found ≡ None → is_further last found ≡ false
none_further None None h = refl
none_further None (Some other) h = absurd (cc)
none_further (Some before) None h = refl
none_further (Some before) (Some other) h = by (nat_lt before.place other.place) h
  where
    by : (b : Bool) → (if b then Some other else None) ≡ None → b ≡ false
    by true k = absurd (cc)
    by false k = refl

-- ---- the walk

module _ {D : Type 0} (made : D → List DeskEntry → D → Type 0) (now : ℕ) (last : Option PlaceAt) where
  -- memory ran out before the next look-up
  pub walk_short : (infos infos_new : List StreamInfo) (a : D) → made a [] a → Makes made (IsWalk now last (Err faults.NoMemory) infos infos_new) a a
  walk_short infos infos_new a led =
      nothing made (IsWalk now last (Err faults.NoMemory) infos infos_new) a led (record { visits = []; walks = inr (inr (refl, refl)); adds = tt })

  -- the turn of the next look-up cannot be entered
  pub walk_unlooked : (told : Result (Option PlaceAt) DeskFault) (fault : DeskFault) (result : Result (Option Reason) DeskFault) (infos infos_new : List StreamInfo) (a b : D) → told ≡ Err fault → IsErrAnd result (λ e. e ≡ fault)
      → Makes made (LooksUp (catalog.NextUsed (behind last)) told) a b → Makes made (IsWalk now last result infos infos_new) a b
  walk_unlooked told fault (Ok reason) infos infos_new a b is handed h = absurd handed
  walk_unlooked told fault (Err e) infos infos_new a b is handed h =
      as_such made (LooksUp (catalog.NextUsed (behind last)) told) (IsWalk now last (Err e) infos infos_new) a b h
      (λ entries l. record {
        visits = [];
        walks = inr (inl (fault, subst (λ (r : Result (Option PlaceAt) DeskFault). LooksUp (catalog.NextUsed (behind last)) r entries) is l, ap Err handed));
        adds = tt;
      })

  -- there is no further place
  pub walk_ended : (told : Result (Option PlaceAt) DeskFault) (found : Option PlaceAt) (infos infos_new : List StreamInfo) (a b : D) → told ≡ Ok found
      → Makes made (LooksUp (catalog.NextUsed (behind last)) told) a b → further last found ≡ None → infos_new ≡ infos → Makes made (IsWalk now last (Ok None) infos infos_new) a b
  walk_ended told found infos infos_new a b is h none same =
      as_such made (LooksUp (catalog.NextUsed (behind last)) told) (IsWalk now last (Ok None) infos infos_new) a b h
      (λ entries l. record {
        visits = [];
        walks = inl (found, none_further last found none, subst (λ (r : Result (Option PlaceAt) DeskFault). LooksUp (catalog.NextUsed (behind last)) r entries) is l, refl);
        adds = same ∙ sym (append-nil infos);
      })

  module _ (more : (a b c : D) (first more : List DeskEntry) → made a first b → made b more c → made a (first ++ more) c)
      (told : Result (Option PlaceAt) DeskFault) (found : Option PlaceAt) (at : PlaceAt) (a b : D) (is : told ≡ Ok found) (h : Makes made (LooksUp (catalog.NextUsed (behind last)) told) a b) (next_is : further last found ≡ Some at) where
    looked : LooksUp (catalog.NextUsed (behind last)) (Ok (Some at)) h.entries
    looked = subst (λ (o : Option PlaceAt). LooksUp (catalog.NextUsed (behind last)) (Ok o) h.entries) (next last found at next_is).found_is
        (subst (λ (r : Result (Option PlaceAt) DeskFault). LooksUp (catalog.NextUsed (behind last)) r h.entries) is h.are)

    abbrev visited : {reason : Result (Option Reason) DeskFault} {infos mids : List StreamInfo} {entries : List DeskEntry} → IsVisit at now reason infos mids entries → Visit
    visited v = record { at = at; outcome = v.outcome }

    -- the walk goes on after this place
    pub walk_on : (seen : Result (Option Reason) DeskFault) (result : Result (Option Reason) DeskFault) (infos mids infos_new : List StreamInfo) (c d : D) → seen ≡ Ok None
        → Makes made (IsVisit at now seen infos mids) b c → Makes made (IsWalk now (Some at) result mids infos_new) c d → Makes made (IsWalk now last result infos infos_new) a d
    walk_on seen result infos mids infos_new c d went v w = record {
      entries = h.entries ++ (v.entries ++ w.entries);
      are = record {
        visits = visited v.are ∷ w.are.visits;
        walks = (
          h.entries,
          v.entries,
          w.entries,
          refl,
          looked,
          (next last found at next_is).is_further,
          v.are.holds,
          goes v.are.outcome.fault (failure v.are.outcome.became) (told_by.0) (told_by.1),
        );
        adds = adds_more result w.are.adds;
      };
      led = more a b d h.entries (v.entries ++ w.entries) h.led (more b c d v.entries w.entries v.led w.led);
    }
      where
        told_by : (v.are.outcome.fault ≡ None) × (failure v.are.outcome.became ≡ None) × (mids ≡ infos ++ info_told v.are.outcome.became)
        told_by = subst (λ (r : Result (Option Reason) DeskFault). IsVisitTold r v.are.outcome infos mids) went v.are.told

        goes : (fault : Option DeskFault) (failed : Option ApiError) → fault ≡ None → failed ≡ None → WalksOn w.are.visits fault failed (Walks now (Some at) w.are.visits) (failing result) w.entries
        goes None None e f = w.are.walks
        goes (Some fault) failed e f = absurd (cc)
        goes None (Some error) e f = absurd (cc)

        adds_more : (r : Result (Option Reason) DeskFault) → AddsInfos r w.are.visits mids infos_new → AddsInfos r (visited v.are ∷ w.are.visits) infos infos_new
        adds_more (Ok None) k = k ∙ ap (λ (is : List StreamInfo). is ++ infos_of w.are.visits) told_by.2 ∙ append_assoc infos (info_told v.are.outcome.became) (infos_of w.are.visits)
        adds_more (Ok (Some reason)) k = tt
        adds_more (Err fault) k = tt

    -- the walk stops at this place
    walk_stopped : (seen : Result (Option Reason) DeskFault) (infos mids : List StreamInfo) (c : D) → (seen ≡ Ok None → ⊥) → Makes made (IsVisit at now seen infos mids) b c
        → Makes made (IsWalk now last seen infos mids) a c
    walk_stopped seen infos mids c other v = record {
      entries = h.entries ++ v.entries;
      are = record {
        visits = visited v.are ∷ [];
        walks = (
          h.entries,
          v.entries,
          [],
          ap (λ (entries : List DeskEntry). h.entries ++ entries) (sym (append-nil v.entries)),
          looked,
          (next last found at next_is).is_further,
          v.are.holds,
          stops seen v.are.outcome.fault (failure v.are.outcome.became) refl refl other v.are.told,
        );
        adds = adds_none seen other;
      };
      led = more a b c h.entries v.entries h.led v.led;
    }
      where
        stops : (r : Result (Option Reason) DeskFault) (fault : Option DeskFault) (failed : Option ApiError) → v.are.outcome.fault ≡ fault → failure v.are.outcome.became ≡ failed → (r ≡ Ok None → ⊥)
            → IsVisitTold r v.are.outcome infos mids → WalksOn [] fault failed (Walks now (Some at) []) (failing r) []
        stops (Ok None) fault failed e f o k = absurd (o refl)
        stops (Ok (Some reason)) None (Some error) e f o k = record { none = refl; result_is = let same : error_of reason ≡ error = cc (k.1, f) in ap (λ (x : ApiError). Ok (Some x)) same; entries_are = refl }
        stops (Ok (Some reason)) None None e f o k = absurd (cc (k.1, f))
        stops (Ok (Some reason)) (Some fault) failed e f o k = absurd (cc (k.0, e))
        stops (Err end) (Some fault) failed e f o k = record { none = refl; result_is = let same : end ≡ fault = cc (k, e) in ap (λ (x : DeskFault). Err x) same; entries_are = refl }
        stops (Err end) None failed e f o k = absurd (cc (k, e))

        adds_none : (r : Result (Option Reason) DeskFault) → (r ≡ Ok None → ⊥) → AddsInfos r (visited v.are ∷ []) infos mids
        adds_none (Ok None) o = absurd (o refl)
        adds_none (Ok (Some reason)) o = tt
        adds_none (Err fault) o = tt

    -- the walk stops at this place, since its volume failed
    pub walk_failed : (seen : Result (Option Reason) DeskFault) (reason : Reason) (infos mids : List StreamInfo) (c : D) → seen ≡ Ok (Some reason) → Makes made (IsVisit at now seen infos mids) b c
        → Makes made (IsWalk now last (Ok (Some reason)) infos mids) a c
    walk_failed seen reason infos mids c is v =
        subst (λ (r : Result (Option Reason) DeskFault). Makes made (IsWalk now last r infos mids) a c) is (walk_stopped seen infos mids c (λ none. absurd (let no : Ok (Some reason) ≡ Ok None = sym is ∙ none in cc)) v)

    -- the call ended in the visit
    pub walk_cut : (seen : Result (Option Reason) DeskFault) (fault : DeskFault) (result : Result (Option Reason) DeskFault) (infos mids : List StreamInfo) (c : D) → seen ≡ Err fault → IsErrAnd result (λ e. e ≡ fault)
        → Makes made (IsVisit at now seen infos mids) b c → Makes made (IsWalk now last result infos mids) a c
    walk_cut seen fault (Ok reason) infos mids c is handed v = absurd handed
    walk_cut seen fault (Err e) infos mids c is handed v =
        subst (λ (r : Result (Option Reason) DeskFault). Makes made (IsWalk now last r infos mids) a c) (is ∙ sym (ap Err handed)) (walk_stopped seen infos mids c (λ none. absurd (let no : Err fault ≡ Ok None = sym is ∙ none in cc)) v)

-- ---- the answer

module _ {D : Type 0} (made : D → List DeskEntry → D → Type 0) (more : (a b c : D) (first more : List DeskEntry) → made a first b → made b more c → made a (first ++ more) c)
    (name : Bytes) (to : Option Bytes) (now : ℕ) (answering : List StreamInfo → List Out) (told : Result (Option Reason) DeskFault) (infos : List StreamInfo) (a b : D)
    (w : Makes made (IsWalk now None told [] infos) a b) where
  over : (result : Result Bool DeskFault) (c : D) (ended : List DeskEntry) → made b ended c → GoesOnWalked (answer_or answering name to w.are.visits) (failing told) result ended
      → Makes made (IsOverAll name to now answering result) a c
  over result c ended led goes = record {
    entries = w.entries ++ ended;
    are = record { visits = w.are.visits; told = failing told; walked = w.entries; ended = ended; entries_are = refl; walks = w.are.walks; ends = goes };
    led = more a b c w.entries ended w.led led;
  }

  -- all were asked
  pub over_all : (result : Result Bool DeskFault) (c : D) → told ≡ Ok None → Makes made (Answers (answering infos) result) b c → Makes made (IsOverAll name to now answering result) a c
  over_all result c is h = over result c h.entries h.led
      (subst (λ (r : Result (Option Reason) DeskFault). GoesOnWalked (answer_or answering name to w.are.visits) (failing r) result h.entries) (sym is)
      (subst (λ (xs : List StreamInfo). Answers (answering xs) result h.entries) (subst (λ (r : Result (Option Reason) DeskFault). AddsInfos r w.are.visits [] infos) is w.are.adds) h.are))

  -- the volume of a place failed
  pub over_failed : (reason : Reason) (result : Result Bool DeskFault) (c : D) → told ≡ Ok (Some reason) → Makes made (Answers (refusal name to (error_of reason)) result) b c
      → Makes made (IsOverAll name to now answering result) a c
  over_failed reason result c is h =
      over result c h.entries h.led (subst (λ (r : Result (Option Reason) DeskFault). GoesOnWalked (answer_or answering name to w.are.visits) (failing r) result h.entries) (sym is) h.are)

  -- the call ended in the walk
  pub over_cut : (fault : DeskFault) (result : Result Bool DeskFault) → told ≡ Err fault → IsErrAnd result (λ e. e ≡ fault) → made b [] b → Makes made (IsOverAll name to now answering result) a b
  over_cut fault (Ok taken) is handed led = absurd handed
  over_cut fault (Err e) is handed led =
      over (Err e) b [] led (subst (λ (r : Result (Option Reason) DeskFault). GoesOnWalked (answer_or answering name to w.are.visits) (failing r) (Err e) []) (sym is) (ap Err handed, refl))

-- ---- the informations

pub adds_one : (infos : List StreamInfo) (info : StreamInfo) → IsSoundInfo info → AddsSound infos (infos ++ info ∷ [])
adds_one infos info h = record {
  few = omega (arith, length-append infos (info ∷ []));
  each = λ each. All-append IsSoundInfo infos (info ∷ []) each (All-cons IsSoundInfo info [] h (All-nil IsSoundInfo));
}

pub adds_none : (infos mids : List StreamInfo) → mids ≡ infos → AddsSound infos mids
adds_none infos mids same = subst (λ (is : List StreamInfo). AddsSound infos is) (sym same) (record { few = omega arith; each = λ each. each })
