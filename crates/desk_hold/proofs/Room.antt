-- While a hold has room for a further delivery.
use Rattle.std.proofs.Common.{◌≡◌, ◌+◌, ◌<◌, List, [], ◌∷◌, ◌++◌, refl, ap, subst, arith}
use Rattle.std.specs.Prelude.{sum_by}
use Rattle.std.proofs.lemmas.List.Sums.{sum_by-append}
use Rattle.js_base.specs.Bytes.{Bytes}
use Rattle.js_base.specs.declared.out.Out.{Out}
use Rattle.js_model.specs.declared.stream.State.{State}
use Rattle.js_model.specs.declared.entry.PlaceEntry.{PlaceEntry}
use Rattle.js_api.specs.Holding.{bytes_of, most_bytes}
use Rattle.js_api.specs.Outputs.{entry_outs, name_behind, outs_from, outs_of, stream_name}
use Rattle.desk_hold.specs.Deliveries.{HasRoom}

-- a list without elements has no last one
pub no_last : {X : Type 0} (earlier : List X) (last : X) → [] ≡ earlier ++ last ∷ [] → ⊥
no_last [] last is = let no : ⊥ = cc in no
no_last (x ∷ earlier) last is = let no : ⊥ = cc in no

-- what stands before the last one
before_last : {X : Type 0} (first earlier : List X) (x last : X) → first ++ x ∷ [] ≡ earlier ++ last ∷ [] → first ≡ earlier
before_last [] [] x last is = refl
before_last [] (y ∷ earlier) x last is = let rest : [] ≡ earlier ++ last ∷ [] = cc in absurd (no_last earlier last rest)
before_last (y ∷ first) [] x last is = let rest : [] ≡ first ++ x ∷ [] = cc in absurd (no_last first x rest)
before_last (y ∷ first) (z ∷ earlier) x last is =
    let rest : first ++ x ∷ [] ≡ earlier ++ last ∷ [] = cc in
    let below : first ≡ earlier = before_last first earlier x last rest in cc

pub none_room : (outs : List Out) → HasRoom outs []
none_room outs earlier last is stream = absurd (no_last earlier last is)

pub more_room : (outs : List Out) (first : List PlaceEntry) (entry : PlaceEntry) → ((stream : Bytes) → sum_by bytes_of outs + sum_by bytes_of (outs_from stream first) < most_bytes)
    → HasRoom outs (first ++ entry ∷ [])
more_room outs first entry small earlier last is stream =
    subst (λ (es : List PlaceEntry). sum_by bytes_of outs + sum_by bytes_of (outs_from stream es) < most_bytes) (before_last first earlier entry last is) (small stream)

pub one_room : (outs : List Out) (entry : PlaceEntry) → sum_by bytes_of outs < most_bytes → HasRoom outs (entry ∷ [])
one_room outs entry small = more_room outs [] entry (λ stream. omega (arith, small))

pub room_for_one : (outs : List Out) (entry : PlaceEntry) → HasRoom outs (entry ∷ []) → sum_by bytes_of outs < most_bytes
room_for_one outs entry room = let small : sum_by bytes_of outs + sum_by bytes_of (outs_from [] []) < most_bytes = room [] entry refl [] in omega (arith, small)

-- so it is of all that a hold sends, behind the step that it began with
pub hold_room : (old : State) (step : PlaceEntry) (outs : List Out) (entries : List PlaceEntry) → outs ≡ entry_outs (stream_name old) step → HasRoom outs entries
    → (earlier : List PlaceEntry) (last : PlaceEntry) → entries ≡ earlier ++ last ∷ [] → sum_by bytes_of (outs_of old (step ∷ earlier)) < most_bytes
hold_room old step outs entries own room [] last is =
    let same : sum_by bytes_of outs ≡ sum_by bytes_of (entry_outs (stream_name old) step) = ap (λ (os : List Out). sum_by bytes_of os) own in
    let small : sum_by bytes_of outs + sum_by bytes_of (outs_from [] []) < most_bytes = room [] last is [] in
    omega (arith, small, same)
hold_room old step outs entries own room (entry ∷ earlier) last is =
    let name : Bytes = name_behind (stream_name old) step in
    let same : sum_by bytes_of outs ≡ sum_by bytes_of (entry_outs (stream_name old) step) = ap (λ (os : List Out). sum_by bytes_of os) own in
    let small : sum_by bytes_of outs + sum_by bytes_of (outs_from name (entry ∷ earlier)) < most_bytes = room (entry ∷ earlier) last is name in
    let whole = sum_by-append bytes_of (entry_outs (stream_name old) step) (outs_from name (entry ∷ earlier)) in
    omega (arith, small, same, whole)
