-- What a log tells, with the messages of its blocks.
use Rattle.std.proofs.Common.{◌≡◌, inl, inr, ℕ, List, [], ◌∷◌, map, Option, Some, None, IsTrue, All, refl, sym, ap, subst, ◌∙◌, length, option_map, arith}
use Rattle.std.specs.List.{AllZip, list_all}
use Rattle.std.proofs.lemmas.Bool.{and_parts}
use Rattle.std.proofs.lemmas.List.Elements.{All-nil, All-cons}
use Rattle.js_base.specs.Bytes.{Bytes}
use Rattle.js_model.specs.Runs.{messages_of}
use Rattle.js_model.specs.Streams.{seqs}
use Rattle.js_model.specs.declared.stream.Message.{Message}
use Rattle.model_laws.specs.Bounds.{IsWritableMessage}
use Rattle.effects.specs.Durables.{state_in}
use Rattle.effects.specs.declared.durable.Body.{Body}
use Rattle.effects.specs.declared.durable.Durable.{Durable}
use Rattle.durable_checks.specs.Storable.{IsFormed, IsOpenable, IsStorable}
use Rattle.op_records.specs.Blocks.{is_block_message}
use Rattle.op_records.proofs.Exact.{le_is}
use Rattle.vol_disk.specs.Disk.{Disk}
use Rattle.gate_log.specs.LogState.{LogState}
use Rattle.gate_log.specs.Settled.{IsSettled}
use Rattle.block_table.specs.declared.placed.Placed.{Placed}
use Rattle.block_table.specs.Blocks.{Blocks}
use Rattle.block_reading.specs.Damage.{IsToldBy}
use Rattle.block_reading.specs.Standing.{AreStoredIn}
use Rattle.log_records.specs.Ends.{IsLastIn}
use Rattle.log_records.specs.Holding.{given_in}
use Rattle.log_records.specs.Logged.{IsLogged, Logged}
use Rattle.log_records.specs.Reading.{GivesIn}
use Rattle.log_records.specs.Unread.{unread, unread_body, unread_message, stored_messages}
use Rattle.log_records.specs.declared.log.LogRead.{LogRead}
use Rattle.log_records.proofs.Unreading.{law_unread}
use Rattle.stream_store.specs.Finding.{IsRecordsFault}
use Rattle.stream_store.specs.Holding.{last_in, last_of, logged}
use Rattle.stream_store.specs.Reading.{IsReadOf, IsStoredBy, body_with, with_messages}
use Rattle.stream_store.specs.declared.fault.OpenFault.TheVariants.{Damaged}
use Rattle.stream_store.specs.declared.reading.Found.{Found}
use Rattle.stream_store.proofs.OneReading.{durable_with}

-- ---- messages that are read

-- where a place is vacant, none is told
none_told : (ms : List Message) → AllZip IsToldBy [] ms → ms ≡ []
none_told [] h = refl
none_told (m ∷ ms) h = absurd h

-- they are those of what was read
pub messages_with : (d : Durable) (ms : List Message) → AllZip IsToldBy (stored_messages d) ms → stored_messages (with_messages d ms) ≡ ms
messages_with d ms told = go d.body told
  where
    go : (o : Option Body) → AllZip IsToldBy (messages_of (state_in d.incarnation o)) ms → messages_of (state_in d.incarnation (option_map (body_with ms) o)) ≡ ms
    go None told = sym (none_told ms told)
    go (Some b) told = refl

pub last_with : (d : Durable) (ms : List Message) → last_of (with_messages d ms) ≡ last_of d
last_with d ms = go d.body
  where
    go : (o : Option Body) → last_in (option_map (body_with ms) o) ≡ last_in o
    go None = refl
    go (Some b) = refl

-- what is told of a message is what it is unread
message_told : (t m : Message) → unread_message t ≡ t → IsToldBy t m → unread_message m ≡ t
message_told t m was told =
    ap (λ (n : ℕ). record (unread_message m) { seq = n }) told.seq ∙ ap (λ (n : ℕ). record (unread_message t) { at = n }) told.moment ∙ was

all_told : (ts ms : List Message) → map unread_message ts ≡ ts → AllZip IsToldBy ts ms → map unread_message ms ≡ ts
all_told [] [] was told = refl
all_told (t ∷ ts) (m ∷ ms) was told =
    ap (λ (x : Message). x ∷ map unread_message ms) (message_told t m (head_is (unread_message t) t (map unread_message ts) ts was) told.0)
    ∙ ap (λ (l : List Message). t ∷ l) (all_told ts ms (tail_is (unread_message t) t (map unread_message ts) ts was) told.1)
  where
    head_is : (x y : Message) (xs ys : List Message) → x ∷ xs ≡ y ∷ ys → x ≡ y
    head_is x y xs ys e = cc

    tail_is : (x y : Message) (xs ys : List Message) → x ∷ xs ≡ y ∷ ys → xs ≡ ys
    tail_is x y xs ys e = cc
all_told [] (m ∷ ms) was told = absurd told
all_told (t ∷ ts) [] was told = absurd told

-- unread it is what the log told
pub unread_with : (d : Durable) (ms : List Message) → unread d ≡ d → AllZip IsToldBy (stored_messages d) ms → unread (with_messages d ms) ≡ d
unread_with d ms was told = go d.body (ap (λ (x : Durable). x.body) was) told
  where
    some_is : (b c : Body) → Some b ≡ Some c → b ≡ c
    some_is b c e = cc

    go : (o : Option Body) → option_map unread_body o ≡ o → AllZip IsToldBy (messages_of (state_in d.incarnation o)) ms
        → durable_with d.incarnation (option_map unread_body (option_map (body_with ms) o)) ≡ durable_with d.incarnation o
    go None e told = refl
    go (Some b) e told =
        ap (λ (l : List Message). durable_with d.incarnation (Some (record b { messages = l })))
        (all_told b.messages ms (ap (λ (x : Body). x.messages) (some_is (unread_body b) b e)) told)

-- ---- what is known of it

writable : (m : Message) → IsTrue (is_block_message m) → IsWritableMessage m
writable m is =
    let fits = and_parts _ _ is in
    let header = and_parts _ _ fits.0 in
    let subject = and_parts _ _ header.0 in
    record { subject = subject.1; headers = header.1; bytes = le_is _ 1048576 fits.1 }

all_writable : (ms : List Message) → IsTrue (list_all is_block_message ms) → All IsWritableMessage ms
all_writable [] is = All-nil IsWritableMessage
all_writable (m ∷ ms) is = let parts = and_parts (is_block_message m) (list_all is_block_message ms) is in All-cons IsWritableMessage m ms (writable m parts.0) (all_writable ms parts.1)

module _ (read : LogRead) (ms : List Message) (l : IsLogged (given_in read)) (told : AllZip IsToldBy (stored_messages read.durable) ms) where
  unread_is : unread (with_messages read.durable ms) ≡ read.durable
  unread_is = unread_with read.durable ms l.messages told

  pub formed : IsTrue (list_all is_block_message ms) → IsFormed (with_messages read.durable ms)
  formed allowed =
      (law_unread.formed (with_messages read.durable ms)).1
      (subst IsFormed (sym unread_is) l.formed, subst (All IsWritableMessage) (sym (messages_with read.durable ms told)) (all_writable ms allowed))

  pub storable : IsStorable read.durable → IsStorable (with_messages read.durable ms)
  storable h = (law_unread.storable (with_messages read.durable ms)).0 (subst IsStorable (sym unread_is) h)

-- as many are placed as were read
placed_count : (ps : List Placed) (ts ms : List Message) → map (λ p. p.seq) ps ≡ seqs ts → AllZip IsToldBy ts ms → length ps ≡ length ms
placed_count [] [] [] same told = refl
placed_count (p ∷ ps) (t ∷ ts) (m ∷ ms) same told = let rest = placed_count ps ts ms (tail_is p.seq t.seq (map (λ p. p.seq) ps) (seqs ts) same) told.1 in omega (arith, rest)
  where
    tail_is : (x y : ℕ) (xs ys : List ℕ) → x ∷ xs ≡ y ∷ ys → xs ≡ ys
    tail_is x y xs ys e = cc
placed_count [] (t ∷ ts) ms same told = absurd (cc)
placed_count (p ∷ ps) [] ms same told = absurd (cc)
placed_count [] [] (m ∷ ms) same told = absurd told
placed_count (p ∷ ps) (t ∷ ts) [] same told = absurd told

-- ---- what was found

-- what the log told of what was found
pub logged_found : (read : LogRead) (f : Found) → IsLogged (given_in read) → IsReadOf read f → logged f.durable f.table ≡ given_in read
logged_found read f l is =
    ap (λ (d : Durable). logged d f.table) is.durable ∙ ap (λ (d : Durable). record { durable = d; blocks = f.table }) (unread_is read is.messages l is.told) ∙ ap (λ b. record { durable = read.durable; blocks = b }) is.table

pub found_last : (log : LogState) (disk : Disk) (read : LogRead) (f : Found) → IsLogged (given_in read) → IsReadOf read f → GivesIn log disk read
    → (batches : List Bytes) → IsSettled log batches disk → (at : ℕ) × IsLastIn batches (logged f.durable f.table) at
found_last log disk read f l is gives batches settled =
    (read.last, subst (λ (g : Logged). IsLastIn batches g read.last) (sym (logged_found read f l is)) (gives batches settled))

-- no stream can be restored to it
pub not_openable : (file : ℕ) (log : LogState) (disk : Disk) (read : LogRead) (f : Found) → IsLogged (given_in read) → IsReadOf read f → GivesIn log disk read → IsStoredBy disk f → ¬ IsOpenable f.durable
    → IsRecordsFault file log disk (Damaged file read.last)
not_openable file log disk read f l is gives stored bad = λ batches settled.
    inl (refl, inr (record { d = f.durable; b = f.table; last = subst (λ (g : Logged). IsLastIn batches g read.last) (sym (logged_found read f l is)) (gives batches settled); stored = stored; bad = bad }))

-- ---- of what was read

module _ (read : LogRead) (f : Found) (l : IsLogged (given_in read)) (is : IsReadOf read f) where
  pub formed_found : IsTrue (list_all is_block_message is.messages) → IsFormed f.durable
  formed_found allowed = subst IsFormed (sym is.durable) (formed read is.messages l is.told allowed)

  pub storable_found : IsStorable read.durable → IsStorable f.durable
  storable_found h = subst IsStorable (sym is.durable) (storable read is.messages l is.told h)

  pub placed_found : length f.table.placed ≡ length (stored_messages f.durable)
  placed_found =
      ap (λ (b : Blocks). length b.placed) is.table ∙ placed_count read.table.placed (stored_messages read.durable) is.messages l.placed is.told
      ∙ ap length (sym (messages_with read.durable is.messages is.told)) ∙ ap (λ (d : Durable). length (stored_messages d)) (sym is.durable)

  pub stored_found : (disk : Disk) → AreStoredIn disk.seen read.table (last_of read.durable) is.messages → IsStoredBy disk f
  stored_found disk h =
      let last : last_of f.durable ≡ last_of read.durable = ap last_of is.durable ∙ last_with read.durable is.messages in
      let messages : stored_messages f.durable ≡ is.messages = ap stored_messages is.durable ∙ messages_with read.durable is.messages is.told in
      subst (λ (b : Blocks). AreStoredIn disk.seen b (last_of f.durable) (stored_messages f.durable)) (sym is.table)
      (subst (λ (n : ℕ). AreStoredIn disk.seen read.table n (stored_messages f.durable)) (sym last)
      (subst (λ (ms : List Message). AreStoredIn disk.seen read.table (last_of read.durable) ms) (sym messages) h))
