-- Of what a volume may hold, with a table of blocks, a snapshot can be written.
use Rattle.std.proofs.Common.{◌≡◌, ◌⊎◌, inl, inr, ℕ, zero, suc, ◌+◌, ◌≤◌, ◌<◌, ◌^◌, Bool, true, false, ◌&&◌, ◌==◌, not, cond, nat_le, List, [], ◌∷◌, ◌++◌, length, map, Option, Some, None, IsTrue, refl, sym, ap, subst, arith, append-nil, length-append}
use Rattle.std.specs.Prelude.{All, filter, option_map}
use Rattle.std.specs.List.{list_all}
use Rattle.std.specs.Option.{option_to_list}
use Rattle.std.proofs.lemmas.Bool.{and_parts, and_from, or_cases, eq-eqb, eqb-true}
use Rattle.std.proofs.lemmas.Bool.Decides.{nat_tests}
use Rattle.std.proofs.lemmas.List.Elements.{All-head, All-tail, All-nil, All-cons, All-weaker}
use Rattle.std.proofs.lemmas.List.Sums.{list_all-from_AllPass}
use Rattle.js_base.specs.Bytes.{Bytes, is_empty}
use Rattle.js_base.specs.declared.spot.Spot.{Spot}
use Rattle.js_model.specs.Configs.{is_name, is_number, is_consumer_config}
use Rattle.js_model.specs.Lists.{Between}
use Rattle.js_model.specs.Runs.{messages_of}
use Rattle.js_model.specs.Streams.{seqs}
use Rattle.js_model.specs.declared.consumer.Consumer.{Consumer}
use Rattle.js_model.specs.declared.consumer.Pending.{Pending}
use Rattle.js_model.specs.declared.consumer.Pull.{Pull}
use Rattle.js_model.specs.declared.consumer_config.ConsumerConfig.{ConsumerConfig}
use Rattle.js_model.specs.declared.stream.Id.{Id}
use Rattle.js_model.specs.declared.stream.Message.{Message}
use Rattle.js_model.proofs.Named.{same_is}
use Rattle.js_model.proofs.Parts.{between_bounds}
use Rattle.model_laws.specs.Bounds.{IsBounded, IsBoundedConsumer, IsBoundedEntry, IsBoundedId, IsBoundedMessage}
use Rattle.model_laws.specs.Sound.{IsWellStored, IsWellStoredConsumer}
use Rattle.effects.specs.Durables.{state_in}
use Rattle.effects.specs.declared.durable.Body.{Body}
use Rattle.effects.specs.declared.durable.Durable.{Durable}
use Rattle.op_records.specs.Allowed.{is_list, are_picks, is_spot}
use Rattle.op_records.proofs.Exact.{is_lt, le_is, is_le}
use Rattle.block_table.specs.Blocks.{Blocks, blocks}
use Rattle.block_table.specs.Puts.{end_of}
use Rattle.block_table.specs.Tables.{AreApart, IsFile, IsTable, lies_in}
use Rattle.block_table.specs.declared.block.Block.{Block}
use Rattle.block_table.specs.declared.placed.Placed.{Placed}
use Rattle.block_table.proofs.Apart.{apart_kept}
use Rattle.block_table.proofs.Rooms.{elsewhere, but_one}
use Rattle.durable_checks.specs.Storable.{IsConfigured, IsFormed, IsFormedOf, IsStorable}
use Rattle.state_snapshot.specs.Allowed.{is_message, is_block, is_id, is_pending, is_made, is_progress, is_resting, is_consumer, is_head, is_body, is_body_if_any}
use Rattle.state_snapshot.specs.Laws.{LawWritable}
use Rattle.state_snapshot.specs.Snapshots.{HasSpots, stored_in, body_in}

-- ---- lists

all_pass : {X : Type 0} (P : X → Type 0) (t : X → Bool) → ((x : X) → P x → t x ≡ true) → (xs : List X) → All P xs → list_all t xs ≡ true
all_pass P t f xs h = list_all-from_AllPass t xs (All-weaker P (λ x. t x ≡ true) f xs h)

first_all : {X : Type 0} (P : X → Type 0) (xs ys : List X) → All P (xs ++ ys) → All P xs
first_all P [] ys h = All-nil P
first_all P (x ∷ xs) ys h = All-cons P x xs (All-head P x (xs ++ ys) h) (first_all P xs ys (All-tail P x (xs ++ ys) h))

last_all : {X : Type 0} (P : X → Type 0) (xs ys : List X) → All P (xs ++ ys) → All P ys
last_all P [] ys h = h
last_all P (x ∷ xs) ys h = last_all P xs ys (All-tail P x (xs ++ ys) h)

-- ---- blocks

abbrev EndsLow : Block → Type 0
EndsLow k = k.end < 2 ^ 32

record IsLowBlock (k : Block) : Type 0 where
  file : IsFile k.file
  end : EndsLow k

low_blocks : (ks : List Block) → All (λ k. IsFile k.file) ks → All EndsLow ks → All IsLowBlock ks
low_blocks [] f e = All-nil IsLowBlock
low_blocks (k ∷ ks) f e =
    All-cons IsLowBlock k ks (record { file = All-head (λ k. IsFile k.file) k ks f; end = All-head EndsLow k ks e }) (low_blocks ks (All-tail (λ k. IsFile k.file) k ks f) (All-tail EndsLow k ks e))

block_stands : (k : Block) → IsLowBlock k → is_block k ≡ true
block_stands k h = and_from _ _ (is_lt k.file (2 ^ 16) (omega (arith, h.file.high))) (is_lt k.end (2 ^ 32) h.end)

-- files up to so many
record IsUpTo (n : ℕ) (k : Block) : Type 0 where
  low : 2 ≤ k.file
  high : k.file < n + 2

lower : (file n : ℕ) → (file == n + 2) ≡ false → file < suc n + 2 → file < n + 2
lower file n other high = grind (arith, nat_tests)

fewer_up : (n : ℕ) (ks : List Block) → All (IsUpTo (suc n)) ks → All (IsUpTo n) (filter (elsewhere (n + 2)) ks)
fewer_up n [] h = All-nil (IsUpTo n)
fewer_up n (k ∷ ks) h = by (k.file == n + 2) refl (fewer_up n ks (All-tail (IsUpTo (suc n)) k ks h))
  where
    here : IsUpTo (suc n) k
    here = All-head (IsUpTo (suc n)) k ks h

    by : (is : Bool) → (k.file == n + 2) ≡ is → All (IsUpTo n) (filter (elsewhere (n + 2)) ks) → All (IsUpTo n) (cond (not is) (k ∷ filter (elsewhere (n + 2)) ks) (filter (elsewhere (n + 2)) ks))
    by true is rest = rest
    by false is rest = All-cons (IsUpTo n) k (filter (elsewhere (n + 2)) ks) (record { low = here.low; high = lower k.file n is here.high }) rest

no_more_files : (n : ℕ) (ks : List Block) → AreApart ks → All (IsUpTo n) ks → length ks ≤ n
no_more_files zero [] apart h = omega arith
no_more_files zero (k ∷ ks) apart h = let here = All-head (IsUpTo 0) k ks h in absurd (omega (arith, here.low, here.high))
no_more_files (suc n) ks apart h = by (no_more_files n (filter (elsewhere (n + 2)) ks) apart_left (fewer_up n ks h)) (but_one (n + 2) ks apart)
  where
    apart_left : AreApart (filter (elsewhere (n + 2)) ks)
    apart_left = subst AreApart (append-nil (filter (elsewhere (n + 2)) ks)) (apart_kept (elsewhere (n + 2)) ks [] (subst AreApart (sym (append-nil ks)) apart))

    by : length (filter (elsewhere (n + 2)) ks) ≤ n → length ks ≤ length (filter (elsewhere (n + 2)) ks) + 1 → length ks ≤ suc n
    by fewer one = omega (arith, fewer, one)

up_to_all : (ks : List Block) → All IsLowBlock ks → All (IsUpTo 65534) ks
up_to_all [] h = All-nil (IsUpTo 65534)
up_to_all (k ∷ ks) h =
    let file = (All-head IsLowBlock k ks h).file in
    All-cons (IsUpTo 65534) k ks (record { low = file.low; high = omega (arith, file.high) }) (up_to_all ks (All-tail IsLowBlock k ks h))

record StandBlocks (b : Blocks) : Type 0 where
  older : is_list is_block b.older ≡ true
  writing : is_list is_block (option_to_list b.writing) ≡ true

blocks_stand : (b : Blocks) → IsTable b → StandBlocks b
blocks_stand b h =
    let low = low_blocks (blocks b) h.blocks_are.files h.blocks_are.ends in
    let few = no_more_files 65534 (blocks b) h.blocks_are.apart (up_to_all (blocks b) low) in
    let many = length-append b.older (option_to_list b.writing) in
    record {
      older = and_from _ _ (is_lt (length b.older) (2 ^ 32) (omega (arith, few, many))) (all_pass IsLowBlock is_block block_stands b.older (first_all IsLowBlock b.older (option_to_list b.writing) low));
      writing = and_from _ _ (is_lt (length (option_to_list b.writing)) (2 ^ 32) (omega (arith, few, many)))
          (all_pass IsLowBlock is_block block_stands (option_to_list b.writing) (last_all IsLowBlock b.older (option_to_list b.writing) low));
    }

-- ---- messages

low_spot : (spot : Spot) (k : Block) → IsLowBlock k → (k.file == spot.file && nat_le (end_of spot) k.end) ≡ true → is_spot spot ≡ true
low_spot spot k h e =
    let parts = and_parts _ _ e in
    let file = eqb-true k.file spot.file parts.0 in
    let end = le_is (end_of spot) k.end parts.1 in
    and_from _ _ (and_from _ _ (is_lt spot.file (2 ^ 16) (omega (arith, file, h.file.high))) (is_lt spot.at (2 ^ 32) (omega (arith, end, h.end)))) (is_lt spot.len (2 ^ 32) (omega (arith, end, h.end)))

inside_low : (ks : List Block) (spot : Spot) → All IsLowBlock ks → lies_in ks spot ≡ true → is_spot spot ≡ true
inside_low [] spot h e = absurd (cc)
inside_low (k ∷ ks) spot h e = by (inside_low ks spot (All-tail IsLowBlock k ks h)) (or_cases (k.file == spot.file && nat_le (end_of spot) k.end) (lies_in ks spot) e)
  where
    by : (lies_in ks spot ≡ true → is_spot spot ≡ true) → ((k.file == spot.file && nat_le (end_of spot) k.end) ≡ true) ⊎ (lies_in ks spot ≡ true) → is_spot spot ≡ true
    by rest (inl here) = low_spot spot k (All-head IsLowBlock k ks h) here
    by rest (inr there) = rest there

-- each message stands with a spot that can be told
messages_stand : (ps : List Placed) (ms : List Message) → list_all (λ p. is_spot p.spot) ps ≡ true → All IsBoundedMessage ms → list_all is_message (stored_in ps ms) ≡ true
messages_stand ps [] spots bounded = refl
messages_stand [] (m ∷ ms) spots bounded = refl
messages_stand (p ∷ ps) (m ∷ ms) spots bounded =
    let one = All-head IsBoundedMessage m ms bounded in
    let parts = and_parts (is_spot p.spot) (list_all (λ (q : Placed). is_spot q.spot) ps) spots in
    and_from _ _ (and_from _ _ (and_from _ _ (is_lt m.seq (2 ^ 62) one.seq) (is_lt m.at (2 ^ 62) one.at)) parts.0) (messages_stand ps ms parts.1 (All-tail IsBoundedMessage m ms bounded))

no_more_stored : (ps : List Placed) (ms : List Message) → length (stored_in ps ms) ≤ length ms
no_more_stored ps [] = omega arith
no_more_stored [] (m ∷ ms) = omega arith
no_more_stored (p ∷ ps) (m ∷ ms) = omega (arith, no_more_stored ps ms)

stored_stand : (b : Blocks) → IsTable b → (ms : List Message) → length ms ≤ 2 ^ 24 → All IsBoundedMessage ms → is_list is_message (stored_in b.placed ms) ≡ true
stored_stand b h ms few bounded =
    let low = low_blocks (blocks b) h.blocks_are.files h.blocks_are.ends in
    let spots = all_pass (λ (p : Placed). lies_in (blocks b) p.spot ≡ true) (λ (p : Placed). is_spot p.spot) (λ p e. inside_low (blocks b) p.spot low e) b.placed h.inside in
    and_from _ _ (is_lt (length (stored_in b.placed ms)) (2 ^ 32) (omega (arith, few, no_more_stored b.placed ms))) (messages_stand b.placed ms spots bounded)

-- ---- ids

id_stands : (i : Id) → IsBoundedId i → is_id i ≡ true
id_stands i h = and_from _ _ (and_from _ _ (is_lt (length i.id) (2 ^ 16) (omega (arith, h.bytes))) (is_lt i.seq (2 ^ 62) h.seq)) (is_lt i.at (2 ^ 62) h.at)

-- ---- consumers

numbers_stand : (low high : ℕ) (ns : List ℕ) → high ≤ 2 ^ 62 → Between (λ n. n) low high ns → list_all is_number ns ≡ true
numbers_stand low high [] h e = refl
numbers_stand low high (n ∷ ns) h e =
    let end : n + 1 ≤ high = between_bounds (λ n. n) (n + 1) high ns e.1 in
    and_from _ _ (is_lt n (2 ^ 62) (omega (arith, end, h))) (numbers_stand (n + 1) high ns h e.1)

entries_stand : (low high : ℕ) (ps : List Pending) → high ≤ 2 ^ 62 → Between (λ p. p.seq) low high ps → All IsBoundedEntry ps → list_all is_pending ps ≡ true
entries_stand low high [] h e bounded = refl
entries_stand low high (p ∷ ps) h e bounded =
    let end : p.seq + 1 ≤ high = between_bounds (λ p. p.seq) (p.seq + 1) high ps e.1 in
    let one = All-head IsBoundedEntry p ps bounded in
    and_from _ _ (and_from _ _ (and_from _ _ (is_lt p.seq (2 ^ 62) (omega (arith, end, h))) (is_lt p.count (2 ^ 62) one.count)) (is_lt p.due (2 ^ 62) one.due))
    (entries_stand (p.seq + 1) high ps h e.1 (All-tail IsBoundedEntry p ps bounded))

config_name : (config : ConsumerConfig) → IsTrue (is_consumer_config config) → is_name config.name ≡ true
config_name config is =
    let a = and_parts _ _ (and_parts _ _ (and_parts _ _ is).0).0 in
    let b = and_parts _ _ (and_parts _ _ (and_parts _ _ a.0).0).0 in
    let c = and_parts _ _ (and_parts _ _ (and_parts _ _ b.0).0).0 in
    let d = and_parts _ _ (and_parts _ _ (and_parts _ _ c.0).0).0 in
    (and_parts _ _ d.0).0

empty_is : (w : List Pull) → w ≡ [] → is_empty w ≡ true
empty_is w e = ap (λ (l : List Pull). is_empty l) e

consumer_stands : (messages : List Message) (last : ℕ) (c : Consumer) → IsWellStoredConsumer messages last c → IsBoundedConsumer c → IsConfigured c → is_consumer c ≡ true
consumer_stands messages last c stored bounded configured =
    let name : is_name c.name ≡ true = subst (λ (l : Bytes). is_name l ≡ true) (same_is c.config.name c.name configured.named) (config_name c.config configured.config) in
    let made : is_made c ≡ true = and_from _ _ (and_from _ _ (and_from _ _ name (is_lt c.made (2 ^ 62) bounded.made)) configured.config) configured.named in
    let picks : are_picks c.picks ≡ true = and_from _ _ (is_lt (length c.picks) (2 ^ 32) (omega (arith, bounded.picks))) (numbers_stand 1 c.cursor c.picks bounded.cursor stored.picks) in
    let pending : is_list is_pending c.pending ≡ true =
    and_from _ _ (is_lt (length c.pending) (2 ^ 32) (omega (arith, bounded.pending))) (entries_stand 1 c.cursor c.pending bounded.cursor stored.pending bounded.entries) in
    let given_up : are_picks c.given_up ≡ true = and_from _ _ (is_lt (length c.given_up) (2 ^ 32) (omega (arith, bounded.given_up))) (numbers_stand 1 c.cursor c.given_up bounded.cursor stored.given_up) in
    let progress : is_progress c ≡ true =
    and_from _ _ (and_from _ _ (and_from _ _ (and_from _ _ (is_le c.cursor (2 ^ 62) bounded.cursor) (is_lt c.dseq (2 ^ 62) bounded.dseq)) picks) pending) given_up in
    let resting : is_resting c ≡ true = and_from _ _ (empty_is c.waiting configured.waiting) (eq-eqb c.mark c.made configured.mark) in
    and_from _ _ (and_from _ _ made progress) resting

consumers_stand : (messages : List Message) (last : ℕ) (cs : List Consumer) → All (IsWellStoredConsumer messages last) cs → All IsBoundedConsumer cs → All IsConfigured cs → list_all is_consumer cs ≡ true
consumers_stand messages last [] s b f = refl
consumers_stand messages last (c ∷ cs) s b f =
    let one = consumer_stands messages last c (All-head (IsWellStoredConsumer messages last) c cs s) (All-head IsBoundedConsumer c cs b) (All-head IsConfigured c cs f) in
    and_from _ _ one (consumers_stand messages last cs (All-tail (IsWellStoredConsumer messages last) c cs s) (All-tail IsBoundedConsumer c cs b) (All-tail IsConfigured c cs f))

-- ---- a snapshot

pub law_writable : LawWritable
law_writable d b formed storable table = by d.body formed storable.stored storable.bounded
  where
    by : (o : Option Body) → IsFormedOf o → IsWellStored (state_in d.incarnation o) → IsBounded (state_in d.incarnation o) → IsTrue (is_number d.incarnation && is_body_if_any (option_map (body_in b) o))
    by None formed stored bounded = and_from _ _ (is_lt d.incarnation (2 ^ 62) bounded) refl
    by (Some body) formed stored bounded =
        let head : is_head body.made body.moment body.last body.config ≡ true =
        and_from _ _ (and_from _ _ (and_from _ _ (is_lt body.made (2 ^ 62) bounded.made) (is_lt body.moment (2 ^ 62) bounded.moment)) (is_lt body.last (2 ^ 62) bounded.last)) formed.config in
        let blocks = blocks_stand b table in
        let messages = stored_stand b table body.messages bounded.messages bounded.each_message in
        let ids : is_list is_id body.ids ≡ true = and_from _ _ (is_lt (length body.ids) (2 ^ 32) (omega (arith, bounded.ids))) (all_pass IsBoundedId is_id id_stands body.ids bounded.each_id) in
        let consumers : is_list is_consumer body.consumers ≡ true =
        and_from _ _ (is_lt (length body.consumers) (2 ^ 32) (omega (arith, bounded.consumers))) (consumers_stand body.messages body.last body.consumers stored.consumers bounded.each_consumer formed.consumers) in
        let stands : is_body (body_in b body) ≡ true = and_from _ _ (and_from _ _ (and_from _ _ head (and_from _ _ (and_from _ _ messages blocks.older) blocks.writing)) ids) consumers in
        and_from _ _ (is_lt d.incarnation (2 ^ 62) bounded.incarnation) stands

-- ---- of a place with a stream

pub body_writable : (d : Durable) (b : Blocks) (body : Body) → d.body ≡ Some body → IsFormed d → IsStorable d → IsTable b → IsTrue (is_body (body_in b body))
body_writable d b body e formed storable table =
    let whole : IsTrue (is_number d.incarnation && is_body (body_in b body)) =
    subst (λ (o : Option Body). IsTrue (is_number d.incarnation && is_body_if_any (option_map (body_in b) o))) e (law_writable d b formed storable table) in
    (and_parts _ _ whole).1

pub body_spots : (d : Durable) (b : Blocks) (body : Body) → d.body ≡ Some body → HasSpots d b → map (λ (p : Placed). p.seq) b.placed ≡ seqs body.messages
body_spots d b body e h = subst (λ (o : Option Body). map (λ (p : Placed). p.seq) b.placed ≡ seqs (messages_of (state_in d.incarnation o))) e h

-- ---- of a vacant place

pub vacant_number : (d : Durable) → d.body ≡ None → IsStorable d → d.incarnation < 2 ^ 62
vacant_number d e storable = subst (λ (o : Option Body). IsBounded (state_in d.incarnation o)) e storable.bounded
