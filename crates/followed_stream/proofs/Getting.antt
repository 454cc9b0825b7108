-- What is got of the consumers at a place.
use Rattle.std.proofs.Common.{◌≡◌, ℕ, ◌<◌, ◌≤◌, Bool, false, List, Option, Some, None, get_or, length, map, refl, sym, ap, subst, ◌∙◌}
use Rattle.std.specs.Prelude.{option_map, slice_get}
use Rattle.std.proofs.lemmas.Option.{slice_get-map, slice_get_past}
use Rattle.js_model.specs.declared.consumer.Consumer.{Consumer}
use Rattle.js_model.specs.declared.stream.Stream.{Stream}
use Rattle.js_model.specs.Advance.{consumer_at, stream_at, young}
use Rattle.js_model.specs.Streams.{confined, seqs}
use Rattle.followed_stream.specs.Delivering.{IsReadyAt, IsReadyIf}
use Rattle.followed_stream.specs.Followers.{attended, Following}
use Rattle.followed_stream.proofs.Changing.{consumers_of, there}

pub got : (fs : List Following) (i : ℕ) (f : Following) → i < length fs → f ≡ get_or fs i f → slice_get (consumers_of fs) i ≡ Some f.consumer
got fs i f within at = there fs i f within ∙ ap (λ (g : Following). Some g.consumer) (sym at)

pub nothing_got : (fs : List Following) (i : ℕ) → length fs ≤ i → slice_get (consumers_of fs) i ≡ None
nothing_got fs i past = slice_get-map (λ (f : Following). f.consumer) fs i ∙ ap (option_map (λ (f : Following). f.consumer)) (slice_get_past fs i past)

-- nor at a later moment
pub unready_by_there : (s : Stream) (fs : List Following) (i : ℕ) → length fs ≤ i → (now : ℕ) (listened : Bool) → IsReadyAt (stream_at (attended s fs) now) i listened false
unready_by_there s fs i past now listened = subst (λ (o : Option Consumer). IsReadyIf (stream_at (attended s fs) now) o listened false) (sym none) refl
  where
    confine : Consumer → Consumer
    confine = confined (seqs (young s now))

    none : slice_get (stream_at (attended s fs) now).consumers i ≡ None
    none =
        slice_get-map (consumer_at now) (map confine (consumers_of fs)) i
        ∙ ap (option_map (consumer_at now)) (slice_get-map confine (consumers_of fs) i ∙ ap (option_map confine) (nothing_got fs i past))
