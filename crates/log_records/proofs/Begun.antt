-- What a snapshot tells is what a log makes, and is told by a snapshot again.
use Rattle.std.proofs.Common.{◌≡◌, ℕ, ◌+◌, ◌^◌, ◌<◌, true, List, [], ◌∷◌, ◌++◌, map, take, length, get_or, Option, Some, None, IsTrue, refl, sym, ap, subst, ◌∙◌, arith}
use Rattle.std.specs.Prelude.{◌↔◌, All, IfSome, IsSome, is_some}
use Rattle.std.proofs.lemmas.Bool.{and_parts, eqb-true, ltb-true, true≢false}
use Rattle.std.proofs.lemmas.List.{map-append, take_more}
use Rattle.std.proofs.lemmas.List.Elements.{All-nil, All-cons, All-weaker}
use Rattle.std.proofs.lemmas.List.Sums.{AllPass-from_list_all}
use Rattle.js_base.specs.Bytes.{Bytes, is_empty}
use Rattle.js_model.specs.declared.stream.Message.{Message}
use Rattle.js_model.specs.declared.consumer.Consumer.{Consumer}
use Rattle.js_model.specs.Configs.{is_number}
use Rattle.js_model.specs.Streams.{seqs}
use Rattle.js_model.proofs.Named.{some_is}
use Rattle.model_laws.specs.Bounds.{IsWritableMessage}
use Rattle.model_laws.specs.Sound.{AreOrdered}
use Rattle.effects.specs.declared.durable.Body.{Body}
use Rattle.effects.specs.declared.durable.Durable.{Durable}
use Rattle.effects.specs.Folding.{live}
use Rattle.block_table.specs.declared.placed.Placed.{Placed}
use Rattle.block_table.specs.Blocks.{Blocks}
use Rattle.block_table.proofs.Tables.{table_none}
use Rattle.durable_checks.specs.Storable.{IsConfigured, IsFormedBody, IsStorable}
use Rattle.state_snapshot.specs.Allowed.{is_body, is_consumer}
use Rattle.state_snapshot.specs.Snapshots.{HasSpots, body_in, snapshot_of, stored_at, stored_in}
use Rattle.state_snapshot.specs.declared.snapshot.SnapshotBody.{SnapshotBody}
use Rattle.state_snapshot.specs.declared.snapshot.StoredMessage.{StoredMessage}
use Rattle.log_records.specs.Unread.{unread, unread_body, unread_message, unread_subject}
use Rattle.log_records.specs.Logged.{Logged, HasBlocksOf, IsLogged, beginning}
use Rattle.log_records.specs.Beginnings.{CanBegin, blocks_told, body_told, logged_in, logged_of, message_told, place_told}
use Rattle.log_records.specs.Holding.{IsHeldOf, IsMadeOf, held_in}
use Rattle.log_records.specs.declared.held.Held.{Held}
use Rattle.log_records.proofs.Unreading.{hyphen_spelled}

-- ---- what is told is formed

no_more : {X : Type 0} (xs : List X) → is_empty xs ≡ true → xs ≡ []
no_more [] e = refl
no_more (x ∷ xs) e = absurd cc

configured : (c : Consumer) → is_consumer c ≡ true → IsConfigured c
configured c h =
    let parts = and_parts _ _ h in
    let made = and_parts _ _ (and_parts _ _ parts.0).0 in
    let rests = and_parts _ _ parts.1 in
    record { config = (and_parts _ _ made.0).1; named = made.1; waiting = no_more c.waiting rests.0; mark = eqb-true c.mark c.made rests.1 }

told_writable : (ms : List StoredMessage) → All IsWritableMessage (map message_told ms)
told_writable [] = All-nil IsWritableMessage
told_writable (m ∷ ms) = All-cons IsWritableMessage (message_told m) (map message_told ms) (record { subject = hyphen_spelled; headers = refl; bytes = omega arith }) (told_writable ms)

-- in order of their names, if they are so
pub told_formed : (told : SnapshotBody) → IsTrue (is_body told) → AreOrdered told.consumers → IsFormedBody (body_told told)
told_formed told h ordered =
    let parts = and_parts _ _ h in
    let heads = (and_parts _ _ (and_parts _ _ parts.0).0).0 in
    record {
      config = (and_parts _ _ heads).1;
      writable = told_writable told.messages;
      consumers = All-weaker (λ c. is_consumer c ≡ true) IsConfigured configured told.consumers (AllPass-from_list_all is_consumer told.consumers (and_parts _ _ parts.1).1);
      ordered = ordered;
    }

-- ---- one by one

pub mapped_more : {X Y : Type 0} (f : X → Y) (xs : List X) (i : ℕ) (x : X) (ys : List Y) → i < length xs → x ≡ get_or xs i x → ys ≡ map f (take i xs) → ys ++ f x ∷ [] ≡ map f (take (i + 1) xs)
mapped_more f xs i x ys within is h =
    ap (λ (l : List _). l ++ f x ∷ []) h ∙ sym (map-append f (take i xs) (x ∷ [])) ∙ ap (map f) (ap (λ (y : _). take i xs ++ y ∷ []) is ∙ sym (take_more xs i x within))

-- ---- it is such as a log makes

told_unread : (ms : List StoredMessage) → map unread_message (map message_told ms) ≡ map message_told ms
told_unread [] = refl
told_unread (m ∷ ms) = ap (λ (l : List Message). message_told m ∷ l) (told_unread ms)

told_placed : (ms : List StoredMessage) → map (λ p. p.seq) (map place_told ms) ≡ seqs (map message_told ms)
told_placed [] = refl
told_placed (m ∷ ms) = ap (λ (l : List ℕ). m.seq ∷ l) (told_placed ms)

pub told_logged : (i : ℕ) (told : SnapshotBody) → IsTrue (is_body told) → IsStorable (live i (body_told told)) → IsLogged (logged_of i (Some told))
told_logged i told h s = record {
  formed = told_formed told h s.stored.ordered;
  vacant = tt;
  messages = ap (λ (l : List Message). live i (record (body_told told) { messages = l })) (told_unread told.messages);
  placed = told_placed told.messages;
}

-- a stream of a snapshot, as it was made
pub made_sound : (i : ℕ) (told : SnapshotBody) (held : Held) (table : Blocks) (subject : Bytes) → IsTrue (is_body told) → IsHeldOf (live i (body_told told)) held → IsStorable (live i (body_told told)) → table ≡ blocks_told told
    → subject ≡ unread_subject → IsMadeOf (logged_of i (Some told)) (record { held = held; table = table; subject = subject })
made_sound i told held table subject allowed h s blocks is =
    let same : record { durable = held_in held; blocks = table } ≡ logged_of i (Some told) =
    ap (λ (d : Durable). record { durable = d; blocks = table }) h.is ∙ ap (λ (b : Blocks). record { durable = live i (body_told told); blocks = b }) blocks in
    record { is = same; sound = record { logged = subst IsLogged (sym same) (told_logged i told allowed s); replay = h.replay; subject = is } }

-- of a vacant place it is what a log begins with
pub vacant_can : (i : ℕ) → IsTrue (is_number i) → CanBegin (beginning i)
vacant_can i h = record { table = table_none; storable = record { stored = tt; bounded = ltb-true i (2 ^ 62) h } }

-- ---- told by a snapshot, and by that again

spots_told : (ps : List Placed) (ms : List Message) → map (λ (p : Placed). p.seq) ps ≡ seqs ms → map place_told (stored_in ps ms) ≡ ps
spots_told [] [] e = refl
spots_told [] (m ∷ ms) e = absurd cc
spots_told (p ∷ ps) [] e = absurd cc
spots_told (p ∷ ps) (m ∷ ms) e =
    let first : p.seq ≡ m.seq = cc in
    let rest : map (λ (q : Placed). q.seq) ps ≡ seqs ms = cc in
    ap (λ (n : ℕ). record { seq = n; spot = p.spot } ∷ map place_told (stored_in ps ms)) (sym first) ∙ ap (λ (l : List Placed). p ∷ l) (spots_told ps ms rest)

unread_told : (ps : List Placed) (ms : List Message) → map (λ (p : Placed). p.seq) ps ≡ seqs ms → map message_told (stored_in ps ms) ≡ map unread_message ms
unread_told [] [] e = refl
unread_told [] (m ∷ ms) e = absurd cc
unread_told (p ∷ ps) [] e = absurd cc
unread_told (p ∷ ps) (m ∷ ms) e =
    let rest : map (λ (q : Placed). q.seq) ps ≡ seqs ms = cc in
    ap (λ (l : List Message). unread_message m ∷ l) (unread_told ps ms rest)

abbrev with_body : ℕ → Option Body → Durable
with_body i o = record { incarnation = i; body = o }

pub told_again : (g : Logged) → IsLogged g → g ≡ logged_in (snapshot_of g.durable g.blocks)
told_again g l = go g.durable.body l.vacant l.messages l.placed
  where
    go : (o : Option Body) → HasBlocksOf o g.blocks → unread (with_body g.durable.incarnation o) ≡ with_body g.durable.incarnation o → HasSpots (with_body g.durable.incarnation o) g.blocks
        → record { durable = with_body g.durable.incarnation o; blocks = g.blocks } ≡ logged_in (snapshot_of (with_body g.durable.incarnation o) g.blocks)
    go None none same placed = ap (λ (b : Blocks). record { durable = with_body g.durable.incarnation None; blocks = b }) none
    go (Some b) none same placed =
        let body : unread_body b ≡ b = some_is (ap (λ (d : Durable). d.body) same) in
        let messages : map message_told (stored_in g.blocks.placed b.messages) ≡ b.messages = unread_told g.blocks.placed b.messages placed ∙ ap (λ (x : Body). x.messages) body in
        let spots : map place_told (stored_in g.blocks.placed b.messages) ≡ g.blocks.placed = spots_told g.blocks.placed b.messages placed in
        ap (λ (l : List Message). record { durable = with_body g.durable.incarnation (Some (record b { messages = l })); blocks = g.blocks }) (sym messages)
        ∙ ap (λ (l : List Placed). record { durable = with_body g.durable.incarnation (Some (body_told (body_in g.blocks b))); blocks = record g.blocks { placed = l } }) (sym spots)

-- a snapshot looks at no subject, header or payload
stored_unread : (placed : List Placed) (ms : List Message) → stored_in placed (map unread_message ms) ≡ stored_in placed ms
stored_unread placed [] = refl
stored_unread [] (m ∷ ms) = refl
stored_unread (p ∷ placed) (m ∷ ms) = ap (λ (l : List StoredMessage). stored_at m p ∷ l) (stored_unread placed ms)

pub snapshot_unread : (d : Durable) (b : Blocks) → snapshot_of (unread d) b ≡ snapshot_of d b
snapshot_unread d b = go d.body
  where
    go : (o : Option Body) → snapshot_of (unread (record { incarnation = d.incarnation; body = o })) b ≡ snapshot_of (record { incarnation = d.incarnation; body = o }) b
    go None = refl
    go (Some body) = ap (λ (l : List StoredMessage). record { incarnation = d.incarnation; body = Some (record (body_in b body) { messages = l }) }) (stored_unread b.placed body.messages)

-- ---- whether there is one

-- there was none, so what would need one does not hold
pub none_there : {X : Type 0} {P Q : Type 0} {o : Option X} → o ≡ None → IsSome o ↔ P → (Q → P) → Q → ⊥
none_there is found needs q = true≢false (sym (found.1 (needs q)) ∙ ap is_some is)

pub some_there : {X : Type 0} {P : Type 0} {o : Option X} {x : X} → o ≡ Some x → IsSome o ↔ P → P
some_there is found = found.0 (ap is_some is)

-- in the one that there is
pub told_there : {X : Type 0} (P : X → Type 0) {o : Option X} {x : X} → o ≡ Some x → IfSome o P → P x
told_there P is h = subst (λ (p : Option _). IfSome p P) is h
