-- The timers of consumers, one after another.
use Rattle.std.proofs.Common.{◌≡◌, ℕ, ◌+◌, ◌<◌, suc, List, [], ◌∷◌, ◌++◌, get_or, length, map, take, sym, ap, ◌∙◌, append-nil, arith}
use Rattle.std.specs.List.{flat_map}
use Rattle.std.proofs.Math.Seq.{take-suc}
use Rattle.std.proofs.lemmas.Grind.{flat_map-append}
use Rattle.std.proofs.lemmas.List.{map-append}
use Rattle.std.proofs.lemmas.List.Concat.{flat_map-cons}
use Rattle.timers.specs.Timers.{consumer_timers, later}
use Rattle.timer_bounds.proofs.Bounding.{later_append}
use Rattle.followed_stream.specs.Followers.{Following}

abbrev pub timers_of : List Following → List ℕ
timers_of fs = flat_map consumer_timers (map (λ f. f.consumer) fs)

timers_one : (f : Following) → timers_of (f ∷ []) ≡ consumer_timers f.consumer
timers_one f = flat_map-cons consumer_timers f.consumer [] ∙ append-nil (consumer_timers f.consumer)

timers_append : (fs gs : List Following) → timers_of (fs ++ gs) ≡ timers_of fs ++ timers_of gs
timers_append fs gs =
    ap (flat_map consumer_timers) (map-append (λ (f : Following). f.consumer) fs gs)
    ∙ flat_map-append consumer_timers (map (λ f. f.consumer) fs) (map (λ f. f.consumer) gs)

-- one consumer more
pub later_more : (now : ℕ) (fs : List Following) (i : ℕ) (f : Following) → i < length fs → f ≡ get_or fs i f
    → later now (timers_of (take i fs)) ++ later now (consumer_timers f.consumer) ≡ later now (timers_of (take (i + 1) fs))
later_more now fs i f within is =
    later_append now (timers_of (take i fs)) (consumer_timers f.consumer)
    ∙ ap (later now) (ap (λ ts. timers_of (take i fs) ++ ts) (sym (timers_one f)) ∙ sym (timers_append (take i fs) (f ∷ [])))
    ∙ ap (λ (gs : List Following). later now (timers_of gs)) (ap (λ (g : Following). take i fs ++ g ∷ []) is ∙ sym (take-suc fs i f within) ∙ ap (λ n. take n fs) next)
  where
    next : suc i ≡ i + 1
    next = omega arith
