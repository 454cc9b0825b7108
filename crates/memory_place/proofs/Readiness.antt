-- Whether a consumer of a stream is ready, as a place tells it.
use Rattle.std.proofs.Common.{◌≡◌, ◌∙◌, ◌⊎◌, ◌<◌, ◌≤◌, ℕ, true, List, Option, Some, None, get_or, inl, inr, length, sym, ap, subst}
use Rattle.std.specs.Prelude.{is_some, slice_get}
use Rattle.std.specs.List.{list_any}
use Rattle.std.proofs.lemmas.Bool.{true≢false}
use Rattle.std.proofs.lemmas.List.Folds.{list_any_at}
use Rattle.std.proofs.lemmas.Option.{slice_get_cases}
use Rattle.js_base.specs.Bytes.{Bytes}
use Rattle.js_model.specs.declared.stream.Stream.{Stream}
use Rattle.js_model.specs.declared.consumer.Consumer.{Consumer}
use Rattle.js_model.specs.Ready.{is_ready}
use Rattle.stream_state.specs.Serving.{is_ready_if, FindsReady}

-- a consumer that is found ready is one of them
ready_among : (a : Stream) (listening : List Bytes) (place : ℕ) → is_ready_if a listening (slice_get a.consumers place) ≡ true → list_any (is_ready a listening) a.consumers ≡ true
ready_among a listening place ready = go (slice_get_cases a.consumers place).1
  where
    go : ((c : Consumer) × (place < length a.consumers) × (slice_get a.consumers place ≡ Some c) × (get_or a.consumers place c ≡ c)) ⊎ ((length a.consumers ≤ place) × (slice_get a.consumers place ≡ None))
        → list_any (is_ready a listening) a.consumers ≡ true
    go (inl (c, l, f, o)) =
        list_any_at (is_ready a listening) a.consumers place c l (ap (is_ready a listening) o ∙ subst (λ (x : Option Consumer). is_ready_if a listening x ≡ true) f ready)
    go (inr (l, f)) = absurd (true≢false (sym ready ∙ ap (is_ready_if a listening) f))

pub ready_is : (a : Stream) (listening : List Bytes) (o : Option ℕ) → FindsReady a listening o → is_some o ≡ list_any (is_ready a listening) a.consumers
ready_is a listening None h = sym h
ready_is a listening (Some place) h = sym (ready_among a listening place h)
