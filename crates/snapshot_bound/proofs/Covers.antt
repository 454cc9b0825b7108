-- The snapshot of what a volume may hold is no longer than what its place comes to.
use Rattle.std.proofs.Common.{◌≡◌, ℕ, suc, ◌+◌, ◌*◌, ◌≤◌, ◌<◌, ◌⊎◌, inl, inr, true, List, [], ◌∷◌, ◌++◌, map, length, Option, Some, None, refl, sym, ap, arith}
use Rattle.std.specs.Prelude.{All, option_map, sum_by, zip, ◌==◌}
use Rattle.std.specs.Option.{option_to_list}
use Rattle.std.proofs.lemmas.Bool.{true≢false, or_cases, or_left, or_right, eqb-true, eq-eqb}
use Rattle.std.proofs.lemmas.List.{length-append, length-map}
use Rattle.std.proofs.lemmas.List.Concat.{length-flat_map}
use Rattle.std.proofs.lemmas.List.Elements.{All-head, All-tail}
use Rattle.std.proofs.lemmas.List.Sums.{sum_by-cons, sum_by-le-sum_by}
use Rattle.std.proofs.lemmas.Slice.Zip.{length-zip}
use Rattle.js_base.specs.Bytes.{Bytes, has}
use Rattle.config_texts.specs.Texts.{stream_text, consumer_text}
use Rattle.js_model.specs.declared.consumer.Consumer.{Consumer}
use Rattle.js_model.specs.declared.consumer.Pending.{Pending}
use Rattle.js_model.specs.declared.stream.Id.{Id}
use Rattle.js_model.specs.declared.stream.Message.{Message}
use Rattle.js_model.specs.Lists.{Between}
use Rattle.js_model.specs.Runs.{messages_of}
use Rattle.js_model.specs.Streams.{pending_seqs, seqs}
use Rattle.js_model.proofs.Parts.{between_map}
use Rattle.model_laws.specs.Bounds.{IsBounded, IsBoundedConsumer}
use Rattle.model_laws.specs.Sound.{AreStored, IsWellStored, IsWellStoredConsumer}
use Rattle.model_laws.proofs.SoundTime.{has_between}
use Rattle.effects.specs.declared.durable.Body.{Body}
use Rattle.effects.specs.Durables.{state_in}
use Rattle.op_records.specs.Spelling.{long, number, numbers, spelled_list, spelled_vacant}
use Rattle.block_table.specs.declared.block.Block.{Block}
use Rattle.block_table.specs.declared.placed.Placed.{Placed}
use Rattle.block_table.specs.Blocks.{Blocks, blocks}
use Rattle.block_table.specs.Tables.{IsTable}
use Rattle.block_table.proofs.Rooms.{law_room}
use Rattle.state_snapshot.specs.declared.snapshot.SnapshotBody.{SnapshotBody}
use Rattle.state_snapshot.specs.declared.snapshot.StoredMessage.{StoredMessage}
use Rattle.state_snapshot.specs.Snapshots.{body_in, stored_at, stored_in}
use Rattle.state_snapshot.specs.Spelling.{spelled_block, spelled_body, spelled_consumer, spelled_head, spelled_id, spelled_made, spelled_message, spelled_pending, spelled_progress, spelled_snapshot, spelled_stored, spelled_with}
use Rattle.snapshot_bound.specs.Bounds.{consumer_fixed, counted_in, fixed_in, id_length, most_held}
use Rattle.snapshot_bound.specs.Laws.{LawCovers}

-- ---- lists

suc_times : (n k : ℕ) → suc n * k ≡ k + n * k
suc_times n k = grind arith

-- each has so many bytes at most
summed : {A : Type 0} (f : A → ℕ) (most : ℕ) → ((a : A) → f a ≤ most) → (xs : List A) → sum_by f xs ≤ length xs * most
summed f most h [] = omega arith
summed f most h (x ∷ xs) =
    let first : f x ≤ most = h x in
    let rest : sum_by f xs ≤ length xs * most = summed f most h xs in
    let whole : sum_by f (x ∷ xs) ≡ f x + sum_by f xs = sum_by-cons f x xs in
    omega (arith, first, rest, whole, suc_times (length xs) most)

-- behind their count
listed : {A : Type 0} (text : A → Bytes) (xs : List A) → length (spelled_list text xs) ≡ 4 + sum_by (λ a. length (text a)) xs
listed text xs = omega (arith, length-flat_map text xs)

-- ---- numbers that ascend

-- behind the first of them the others have what lies above it
behind : (m low high : ℕ) (ns ms : List ℕ) → m < low → Between (λ n. n) low high ns → ((n : ℕ) → has ns n ≡ true → has (m ∷ ms) n ≡ true) → (n : ℕ) → has ns n ≡ true → has ms n ≡ true
behind m low high ns ms l b h n is = go (or_cases (m == n) (has ms n) (h n is))
  where
    above : low ≤ n
    above = has_between n low high ns b is

    go : ((m == n) ≡ true) ⊎ (has ms n ≡ true) → has ms n ≡ true
    go (inl same) = let e : m ≡ n = eqb-true m n same in absurd (omega (arith, l, above, e))
    go (inr there) = there

-- what ascends in a list that ascends is no longer
no_longer : (low high : ℕ) (ns : List ℕ) (low_all high_all : ℕ) (ms : List ℕ) → Between (λ n. n) low high ns → Between (λ n. n) low_all high_all ms
    → ((n : ℕ) → has ns n ≡ true → has ms n ≡ true) → length ns ≤ length ms
no_longer low high [] low_all high_all ms b c h = omega arith
no_longer low high (n ∷ ns) low_all high_all [] b c h = absurd (true≢false (sym (h n (or_left (n == n) (has ns n) (eq-eqb n n refl)))))
no_longer low high (n ∷ ns) low_all high_all (m ∷ ms) b c h =
    go (or_cases (m == n) (has ms n) (h n (or_left (n == n) (has ns n) (eq-eqb n n refl))))
    (λ k. no_longer (n + 1) high ns (m + 1) high_all ms b.1 c.1 k) (λ l k. no_longer n high (n ∷ ns) (m + 1) high_all ms l c.1 k)
  where
    go : ((m == n) ≡ true) ⊎ (has ms n ≡ true)
        → (((k : ℕ) → has ns k ≡ true → has ms k ≡ true) → length ns ≤ length ms)
        → (Between (λ k. k) n high (n ∷ ns) → ((k : ℕ) → has (n ∷ ns) k ≡ true → has ms k ≡ true) → length (n ∷ ns) ≤ length ms)
        → length (n ∷ ns) ≤ length (m ∷ ms)
    go (inl same) others all =
        let e : m ≡ n = eqb-true m n same in
        let rest : length ns ≤ length ms = others (behind m (n + 1) high ns ms (omega (arith, e)) b.1 (λ k is. h k (or_right (n == k) (has ns k) is))) in
        omega (arith, rest)
    go (inr there) others all =
        let above : m + 1 ≤ n = has_between n (m + 1) high_all ms c.1 there in
        let ascends : Between (λ k. k) n high (n ∷ ns) = (omega arith, b.1) in
        let rest : length (n ∷ ns) ≤ length ms = all ascends (behind m n high (n ∷ ns) ms (omega (arith, above)) ascends h) in
        omega (arith, rest)

-- ---- what stands in lists

message_size : (m : StoredMessage) → length (spelled_message m) ≡ 26
unfolding spelled_message
message_size m = refl

block_size : (b : Block) → length (spelled_block b) ≡ 6
unfolding spelled_block
block_size b = refl

pending_size : (p : Pending) → length (spelled_pending p) ≡ 24
unfolding spelled_pending
pending_size p = refl

number_size : (n : ℕ) → length (number n) ≡ 8
number_size n = refl

id_size : (i : Id) → length (spelled_id i) ≤ id_length i
unfolding spelled_id
id_size i = omega (arith, length-append i.id (number i.seq ++ number i.at))

-- ---- a consumer

consumer_size : (c : Consumer) → length (spelled_consumer c) ≤ consumer_fixed c + 24 * length c.pending + 8 * length c.given_up
unfolding spelled_consumer
consumer_size c =
    let picks : length (spelled_list number c.picks) ≤ 4 + length c.picks * 8 = omega (arith, listed number c.picks, summed (λ n. length (number n)) 8 (λ n. omega arith) c.picks) in
    let given_up : length (spelled_list number c.given_up) ≤ 4 + length c.given_up * 8 = omega (arith, listed number c.given_up, summed (λ n. length (number n)) 8 (λ n. omega arith) c.given_up) in
    let pending : length (spelled_list spelled_pending c.pending) ≤ 4 + length c.pending * 24 =
    omega (arith, listed spelled_pending c.pending, summed (λ p. length (spelled_pending p)) 24 (λ p. omega (arith, pending_size p)) c.pending) in
    let held : Bytes = spelled_list spelled_pending c.pending ++ numbers c.given_up in
    let made : length (spelled_made c) ≡ 13 + length c.name + length (consumer_text c.config) = omega (arith, length-append c.name (number c.made ++ long (consumer_text c.config))) in
    let progress : length (spelled_progress c) ≤ 28 + 8 * length c.picks + 24 * length c.pending + 8 * length c.given_up =
    omega (arith, length-append (numbers c.picks) held, length-append (spelled_list spelled_pending c.pending) (numbers c.given_up), picks, given_up, pending) in
    omega (arith, length-append (spelled_made c) (spelled_progress c), made, progress)

-- what ascends and is stored is no more than what is stored
stored_few : (messages : List Message) (last high : ℕ) (ns : List ℕ) → Between (λ m. m.seq) 1 last messages → Between (λ n. n) 1 high ns → AreStored messages ns → length ns ≤ length messages
stored_few messages last high ns m b h =
    let few : length ns ≤ length (seqs messages) = no_longer 1 high ns 1 last (seqs messages) b (between_map (λ n. n) (λ x. x.seq) 1 last messages m) h.stored in
    omega (arith, few, length-map messages (λ (x : Message). x.seq))

consumer_most : (messages : List Message) (last : ℕ) (c : Consumer) → Between (λ m. m.seq) 1 (last + 1) messages → IsWellStoredConsumer messages last c → IsBoundedConsumer c
    → length (spelled_consumer c) ≤ consumer_fixed c + 32 * most_held (length messages)
consumer_most messages last c m h b =
    let waiting : length (pending_seqs c) ≤ length messages = stored_few messages (last + 1) c.cursor (pending_seqs c) m (between_map (λ n. n) (λ p. p.seq) 1 c.cursor c.pending h.pending) h.pending_stored in
    let entries : length (pending_seqs c) ≡ length c.pending = length-map c.pending (λ (p : Pending). p.seq) in
    let given_up : length c.given_up ≤ length messages = stored_few messages (last + 1) c.cursor c.given_up m h.given_up h.given_up_stored in
    omega (arith, consumer_size c, waiting, entries, given_up, b.pending, b.given_up)

consumers_most : (messages : List Message) (last : ℕ) (cs : List Consumer) → Between (λ m. m.seq) 1 (last + 1) messages → All (IsWellStoredConsumer messages last) cs → All IsBoundedConsumer cs
    → sum_by (λ c. length (spelled_consumer c)) cs ≤ sum_by consumer_fixed cs + length cs * (32 * most_held (length messages))
consumers_most messages last [] m h b = omega arith
consumers_most messages last (c ∷ cs) m h b =
    let first : length (spelled_consumer c) ≤ consumer_fixed c + 32 * most_held (length messages) =
    consumer_most messages last c m (All-head (IsWellStoredConsumer messages last) c cs h) (All-head IsBoundedConsumer c cs b) in
    let rest : sum_by (λ c. length (spelled_consumer c)) cs ≤ sum_by consumer_fixed cs + length cs * (32 * most_held (length messages)) =
    consumers_most messages last cs m (All-tail (IsWellStoredConsumer messages last) c cs h) (All-tail IsBoundedConsumer c cs b) in
    let more : suc (length cs) * (32 * most_held (length messages)) ≡ 32 * most_held (length messages) + length cs * (32 * most_held (length messages)) = suc_times (length cs) (32 * most_held (length messages)) in
    omega (arith, first, rest, more, sum_by-cons (λ (x : Consumer). length (spelled_consumer x)) c cs, sum_by-cons consumer_fixed c cs)

-- ---- a stream

-- its messages, and the blocks in which they lie
stored_size : (b : Blocks) (body : Body) → IsTable b → length b.placed ≡ length body.messages → length (spelled_stored (body_in b body)) ≤ 18 + 32 * length body.messages
stored_size b body t placed =
    let count : length (stored_in b.placed body.messages) ≤ length body.messages =
    omega (arith, length-map (zip body.messages b.placed) (λ (pair : Message × Placed). stored_at pair.0 pair.1), length-zip body.messages b.placed) in
    let messages : length (spelled_list spelled_message (stored_in b.placed body.messages)) ≤ 4 + 26 * length body.messages =
    omega (arith, listed spelled_message (stored_in b.placed body.messages), summed (λ m. length (spelled_message m)) 26 (λ m. omega (arith, message_size m)) (stored_in b.placed body.messages), count) in
    let older : length (spelled_list spelled_block b.older) ≤ 4 + length b.older * 6 =
    omega (arith, listed spelled_block b.older, summed (λ k. length (spelled_block k)) 6 (λ k. omega (arith, block_size k)) b.older) in
    let writing : length (spelled_list spelled_block (option_to_list b.writing)) ≤ 4 + length (option_to_list b.writing) * 6 =
    omega (arith, listed spelled_block (option_to_list b.writing), summed (λ k. length (spelled_block k)) 6 (λ k. omega (arith, block_size k)) (option_to_list b.writing)) in
    let blocks_all : length (blocks b) ≤ length b.placed + 1 = law_room.held b t in
    omega (
      arith,
      messages,
      older,
      writing,
      blocks_all,
      placed,
      length-append b.older (option_to_list b.writing),
      length-append (spelled_list spelled_message (stored_in b.placed body.messages)) (spelled_list spelled_block b.older ++ spelled_list spelled_block (option_to_list b.writing)),
      length-append (spelled_list spelled_block b.older) (spelled_list spelled_block (option_to_list b.writing)),
    )

ids_size : (ids : List Id) → length (spelled_list spelled_id ids) ≤ 4 + sum_by id_length ids
ids_size ids = omega (arith, listed spelled_id ids, sum_by-le-sum_by (λ (i : Id). length (spelled_id i)) id_length ids id_size)

body_size : (i : ℕ) (b : Blocks) (body : Body) → IsTable b → map (λ p. p.seq) b.placed ≡ seqs body.messages → IsWellStored (state_in i (Some body)) → IsBounded (state_in i (Some body))
    → 30 + length (spelled_with i (Some (body_in b body))) ≤ fixed_in (Some body) + counted_in (Some body)
unfolding spelled_body
body_size i b body t spots stored bounded =
    let placed : length b.placed ≡ length body.messages =
    omega (arith, length-map b.placed (λ (p : Placed). p.seq), length-map body.messages (λ (m : Message). m.seq), ap (λ (ns : List ℕ). length ns) spots) in
    let head : Bytes = spelled_head body.made body.moment body.last body.config in
    let told : SnapshotBody = body_in b body in
    let ids : Bytes = spelled_list spelled_id body.ids in
    let consumers : Bytes = spelled_list spelled_consumer body.consumers in
    let each : sum_by (λ c. length (spelled_consumer c)) body.consumers ≤ sum_by consumer_fixed body.consumers + length body.consumers * (32 * most_held (length body.messages)) =
    consumers_most body.messages body.last body.consumers stored.messages stored.consumers bounded.each_consumer in
    let consumers_size : length consumers ≤ 4 + sum_by consumer_fixed body.consumers + length body.consumers * (32 * most_held (length body.messages)) = omega (arith, listed spelled_consumer body.consumers, each) in
    let stored_bytes : length (spelled_stored told) ≤ 18 + 32 * length body.messages = stored_size b body t placed in
    let ids_bytes : length ids ≤ 4 + sum_by id_length body.ids = ids_size body.ids in
    let parts : length (spelled_stored told ++ (ids ++ consumers)) ≡ length (spelled_stored told) + (length ids + length consumers) =
    omega (arith, length-append (spelled_stored told) (ids ++ consumers), length-append ids consumers) in
    omega (arith, parts, consumers_size, stored_bytes, ids_bytes, length-append (stream_text body.config) (spelled_stored told ++ (ids ++ consumers)))

vacant_size : (i : ℕ) → length (spelled_vacant i) ≡ 9
unfolding spelled_vacant
vacant_size i = refl

covers : (i : ℕ) (o : Option Body) (b : Blocks) → IsWellStored (state_in i o) → IsBounded (state_in i o) → IsTable b → map (λ p. p.seq) b.placed ≡ seqs (messages_of (state_in i o))
    → 30 + length (spelled_with i (option_map (body_in b) o)) ≤ fixed_in o + counted_in o
covers i None b stored bounded t spots = omega (arith, vacant_size i)
covers i (Some body) b stored bounded t spots = body_size i b body t spots stored bounded

pub law_covers : LawCovers
unfolding spelled_snapshot
law_covers d b s t spots = covers d.incarnation d.body b s.stored s.bounded t spots
