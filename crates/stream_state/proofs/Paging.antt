-- Pages of consumers, and what consumers send one after the other.
use Rattle.std.proofs.Common.{◌≡◌, ℕ, List, [], ◌∷◌, ◌++◌, drop, map, take, max, refl, sym, ap, ◌∙◌}
use Rattle.std.specs.List.{flat_map}
use Rattle.std.proofs.lemmas.List.{drop-map, take-map}
use Rattle.std.proofs.lemmas.List.Folds.{flat_map-map}
use Rattle.js_base.specs.declared.out.Out.{Out}
use Rattle.js_model.specs.declared.stream.Stream.{Stream}
use Rattle.js_model.specs.declared.consumer.Consumer.{Consumer}
use Rattle.js_model.specs.Advance.{advance_outs, consumer_outs, young}
use Rattle.js_model.specs.Events.{page_of}
use Rattle.js_model.specs.Streams.{confined, seqs}
use Rattle.followed_stream.specs.Followers.{Following}

pub page_map : {X Y : Type 0} (f : X → Y) (most offset : ℕ) (xs : List X) → map f (page_of most offset xs) ≡ page_of most offset (map f xs)
page_map f most offset xs = sym (take-map f most (drop offset xs)) ∙ ap (take most) (sym (drop-map f offset xs))

-- ---- what is sent

-- what a consumer holds has no part in it
outs_confined : (now : ℕ) (ns : List ℕ) (cs : List Consumer) → flat_map (consumer_outs now) (map (confined ns) cs) ≡ flat_map (consumer_outs now) cs
outs_confined now ns [] = refl
outs_confined now ns (c ∷ cs) = ap (λ (outs : List Out). consumer_outs now c ++ outs) (outs_confined now ns cs)

pub told_by : (s : Stream) (now : ℕ) (fs : List Following) → map (λ f. f.consumer) fs ≡ s.consumers → flat_map (λ f. consumer_outs (max s.moment now) f.consumer) fs ≡ advance_outs s now
unfolding advance_outs
told_by s now fs is =
    sym (flat_map-map (consumer_outs (max s.moment now)) (λ (f : Following). f.consumer) fs) ∙ ap (flat_map (consumer_outs (max s.moment now))) is ∙ sym (outs_confined (max s.moment now) (seqs (young s (max s.moment now))) s.consumers)
