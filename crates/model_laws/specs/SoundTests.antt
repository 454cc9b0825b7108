-- Whether a state is sound, computed: of what is stored, and of what filters match.
use Rattle.std.specs.Prelude.{ℕ, ◌+◌, nat_le, Bool, true, ◌&&◌, ◌||◌, not, List, [], ◌∷◌, Option}
use Rattle.std.specs.List.{list_any, list_all}
use Rattle.js_base.specs.Bytes.{Bytes, same, has, is_empty}
use Rattle.js_model.specs.declared.stream.Message.{Message}
use Rattle.js_model.specs.declared.stream.Id.{Id}
use Rattle.js_model.specs.declared.stream.State.{State}
use Rattle.js_model.specs.declared.stream.State.TheVariants.{Vacant, Live}
use Rattle.js_model.specs.declared.consumer.Pending.{Pending}
use Rattle.js_model.specs.declared.consumer.Consumer.{Consumer}
use Rattle.js_model.specs.Streams.{seqs, passes_filter, pending_seqs, is_unacknowledged, is_push, over_limit}
use Rattle.js_model.specs.Configs.{is_stream_config, is_consumer_config}
use Rattle.js_model.specs.Consumers.{is_before}

-- ---- what is stored

-- the elements ascend, from low on and below high
abbrev pub are_between : {X : Type 0} → (X → ℕ) → ℕ → ℕ → List X → Bool
are_between f low high [] = nat_le low high
are_between f low high (x ∷ xs) = nat_le low (f x) && are_between f (f x + 1) high xs

abbrev pub are_stored : List Message → List ℕ → Bool
are_stored messages ns = list_all (has (seqs messages)) ns

abbrev pub are_apart : List ℕ → List ℕ → Bool
are_apart xs ys = list_all (λ n. not (has ys n)) xs

abbrev pub is_counted : ℕ → Option ℕ → Pending → Bool
is_counted dseq limit p = nat_le 1 p.count && nat_le p.count dseq && not (over_limit p.count limit)

-- the sequences ascend below the cursor
abbrev pub are_ascending : ℕ → Consumer → Bool
are_ascending last c =
    nat_le c.cursor (last + 1) && are_between (λ n. n) 1 c.cursor c.picks && are_between (λ p. p.seq) 1 c.cursor c.pending && are_between (λ n. n) 1 c.cursor c.given_up

-- they are stored, and stand once
abbrev pub are_placed : List Message → Consumer → Bool
are_placed messages c =
    are_stored messages c.picks && are_stored messages (pending_seqs c) && are_stored messages c.given_up
    && are_apart c.picks (pending_seqs c) && are_apart c.picks c.given_up && are_apart (pending_seqs c) c.given_up

-- the entries and pulls are such as the configuration allows
abbrev pub are_allowed : Consumer → Bool
are_allowed c =
    list_all (is_counted c.dseq c.config.max_deliver) c.pending
    && (not (is_unacknowledged c) || is_empty c.pending) && (not (is_unacknowledged c) || is_empty c.given_up) && (not (is_push c) || is_empty c.waiting)

abbrev pub is_well_stored_consumer : List Message → ℕ → Consumer → Bool
is_well_stored_consumer messages last c = is_consumer_config c.config && same c.config.name c.name && are_ascending last c && are_placed messages c && are_allowed c

-- no id comes twice
abbrev pub are_different : List Id → Bool
are_different [] = true
are_different (i ∷ is) = not (list_any (λ j. same j.id i.id) is) && are_different is

-- each name comes before those after it
abbrev pub are_ordered : List Consumer → Bool
are_ordered [] = true
are_ordered (c ∷ cs) = list_all (λ d. is_before c.name d.name) cs && are_ordered cs

abbrev pub is_well_stored : State → Bool
is_well_stored (Vacant i) = true
is_well_stored (Live s) =
    is_stream_config s.config && are_between (λ m. m.seq) 1 (s.last + 1) s.messages && list_all (is_well_stored_consumer s.messages s.last) s.consumers
    && are_ordered s.consumers && are_different s.ids

-- ---- what filters match

abbrev pub are_matched : List Message → Bytes → List ℕ → Bool
are_matched messages pattern ns = list_all (λ m. not (has ns m.seq) || passes_filter pattern m.subject) messages

abbrev pub is_matched_consumer : List Message → Consumer → Bool
is_matched_consumer messages c =
    are_matched messages c.config.filter_subject c.picks && are_matched messages c.config.filter_subject (pending_seqs c) && are_matched messages c.config.filter_subject c.given_up

abbrev pub is_matched : State → Bool
is_matched (Vacant i) = true
is_matched (Live s) = list_all (is_matched_consumer s.messages) s.consumers
