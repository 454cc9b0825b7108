-- An image of a volume holds one thing.
use Rattle.std.proofs.Common.{◌≡◌, ◌⊎◌, inl, inr, ℕ, List, [], ◌∷◌, map, Option, Some, None, refl, sym, ap, ◌∙◌, subst}
use Rattle.std.specs.Prelude.{option_map}
use Rattle.std.specs.List.{AllZip}
use Rattle.vol_disk.specs.Disk.{Files}
use Rattle.js_base.specs.Bytes.{Bytes}
use Rattle.js_model.specs.Runs.{messages_of}
use Rattle.js_model.specs.declared.stream.Message.{Message}
use Rattle.js_model.proofs.Named.{some_is, none_some}
use Rattle.gate_log.specs.Faults.{IsDamagedAt, IsOfUnknownVersion}
use Rattle.gate_log.proofs.OneReading.{law}
use Rattle.effects.specs.Durables.{state_in}
use Rattle.effects.specs.declared.durable.Body.{Body}
use Rattle.effects.specs.declared.durable.Durable.{Durable}
use Rattle.block_table.specs.Blocks.{Blocks}
use Rattle.block_reading.specs.Damage.{IsToldBy}
use Rattle.block_reading.specs.Standing.{AreStoredIn}
use Rattle.block_reading.proofs.OneReading.{law_stored}
use Rattle.log_records.specs.Batches.{Gives}
use Rattle.log_records.specs.Logged.{Logged}
use Rattle.log_records.specs.Unread.{unread, unread_body, unread_message, stored_messages}
use Rattle.log_records.proofs.OneReading.{gives_same}
use Rattle.stream_store.specs.Logs.{LogIn, HasLog, HasLogs, current}
use Rattle.stream_store.specs.Holding.{Holds, last_in, last_of, logged}
use Rattle.stream_store.specs.Damage.{IsSomeLog, IsBadLog, IsOfAnotherVersion}

pub log_same : (bytes : Bytes) (a b : LogIn) → HasLog bytes a → HasLog bytes b → a ≡ b
log_same bytes a b h k =
    ap (λ g. record { generation = g; batches = a.batches }) (law.one_generation bytes a.generation b.generation a.batches b.batches h k)
    ∙ ap (λ l. record { generation = b.generation; batches = l }) (law.one_list bytes a.generation b.generation a.batches b.batches h k)

-- ---- what is unread

pub last_unread : (d : Durable) → last_of (unread d) ≡ last_of d
last_unread d = go d.body
  where
    go : (o : Option Body) → last_in (option_map unread_body o) ≡ last_in o
    go None = refl
    go (Some b) = refl

pub messages_unread : (d : Durable) → stored_messages (unread d) ≡ map unread_message (stored_messages d)
messages_unread d = go d.body
  where
    go : (o : Option Body) → messages_of (state_in d.incarnation (option_map unread_body o)) ≡ map unread_message (messages_of (state_in d.incarnation o))
    go None = refl
    go (Some b) = refl

-- what is unread tells of each message what a log does
all_told : (ms : List Message) → AllZip IsToldBy (map unread_message ms) ms
all_told [] = tt
all_told (m ∷ ms) = (record { seq = refl; moment = refl }, all_told ms)

pub told_unread : (d : Durable) → AllZip IsToldBy (stored_messages (unread d)) (stored_messages d)
told_unread d = subst (λ (l : List Message). AllZip IsToldBy l (stored_messages d)) (sym (messages_unread d)) (all_told (stored_messages d))

-- it and the messages are all there is
body_same : (b c : Body) → unread_body b ≡ unread_body c → b.messages ≡ c.messages → b ≡ c
body_same b c same messages = ap (λ (x : Body). record x { messages = b.messages }) same ∙ ap (λ (ms : List Message). record c { messages = ms }) messages

abbrev pub durable_with : ℕ → Option Body → Durable
durable_with i o = record { incarnation = i; body = o }

pub read_same : (d e : Durable) → unread d ≡ unread e → stored_messages d ≡ stored_messages e → d ≡ e
read_same d e same messages = go d.body e.body (ap (λ (x : Durable). x.incarnation) same) (ap (λ (x : Durable). x.body) same) messages
  where
    go : (o p : Option Body) → d.incarnation ≡ e.incarnation → option_map unread_body o ≡ option_map unread_body p → messages_of (state_in d.incarnation o) ≡ messages_of (state_in e.incarnation p)
        → durable_with d.incarnation o ≡ durable_with e.incarnation p
    go None None i k m = ap (λ (n : ℕ). durable_with n None) i
    go None (Some c) i k m = absurd (none_some k)
    go (Some b) None i k m = absurd (none_some (sym k))
    go (Some b) (Some c) i k m =
        ap (λ (n : ℕ). durable_with n (Some b)) i ∙ ap (λ (x : Body). durable_with e.incarnation (Some x)) (body_same b c (some_is k) m)

-- ---- the same batches and blocks

module _ (image : Files) (batches : List Bytes) (b c : Blocks) (d e : Durable) (g : Gives batches (logged d b)) (h : Gives batches (logged e c)) where
  given_same : logged d b ≡ logged e c
  given_same = gives_same batches (logged d b) (logged e c) g h

  blocks_same : b ≡ c
  blocks_same = ap (λ (x : Logged). x.blocks) given_same

  unread_same : unread d ≡ unread e
  unread_same = ap (λ (x : Logged). x.durable) given_same

  last_same : last_of d ≡ last_of e
  last_same = sym (last_unread d) ∙ ap last_of unread_same ∙ last_unread e

  pub read_one : AreStoredIn image b (last_of d) (stored_messages d) → AreStoredIn image c (last_of e) (stored_messages e) → d ≡ e
  read_one stored kept =
      let there = subst (λ (x : Blocks). AreStoredIn image x (last_of e) (stored_messages d)) blocks_same (subst (λ (n : ℕ). AreStoredIn image b n (stored_messages d)) last_same stored) in
      read_same d e unread_same (law_stored.one image c (last_of e) (stored_messages d) (stored_messages e) there kept)

pub holds_same : (image : Files) (d e : Durable) → Holds image d → Holds image e → d ≡ e
holds_same image d e (b, h) (c, k) =
    let zero = log_same (image 0) h.zero k.zero h.logs.in_zero k.logs.in_zero in
    let one = log_same (image 1) h.one k.one h.logs.in_one k.logs.in_one in
    let log : current h.zero h.one ≡ current k.zero k.one = ap (λ (l : LogIn). current l h.one) zero ∙ ap (λ (l : LogIn). current k.zero l) one in
    read_one image (current k.zero k.one).batches b c d e (subst (λ (l : LogIn). Gives l.batches (logged d b)) log h.gives) k.gives h.stored k.stored

-- ---- faults of the logs

pub known : (image : Files) (zero one : LogIn) (n : ℕ) → HasLogs image zero one → IsOfAnotherVersion image n → ⊥
known image zero one n h (file, bad) = go bad.which
  where
    go : ((file ≡ 0) × IsOfUnknownVersion (image 0) n) ⊎ ((file ≡ 1) × (IsSomeLog (image 0) × IsOfUnknownVersion (image 1) n)) → ⊥
    go (inl (is, v)) = law.known (image 0) zero.generation zero.batches n h.in_zero v
    go (inr (is, (z, v))) = law.known (image 1) one.generation one.batches n h.in_one v

-- no log has two
pub one_log_fault : (image : Files) (file at n : ℕ) → IsBadLog image file (λ bytes. IsDamagedAt bytes at) → IsOfAnotherVersion image n → ⊥
one_log_fault image file at n bad (other, version) = go bad.which version.which
  where
    go : ((file ≡ 0) × IsDamagedAt (image 0) at) ⊎ ((file ≡ 1) × (IsSomeLog (image 0) × IsDamagedAt (image 1) at))
        → ((other ≡ 0) × IsOfUnknownVersion (image 0) n) ⊎ ((other ≡ 1) × (IsSomeLog (image 0) × IsOfUnknownVersion (image 1) n)) → ⊥
    go (inl (is, d)) (inl (too, v)) = law.one_fault (image 0) at n d v
    go (inl (is, d)) (inr (too, ((z, log), v))) = law.whole (image 0) z.generation z.batches at log d
    go (inr (is, ((z, log), d))) (inl (too, v)) = law.known (image 0) z.generation z.batches n log v
    go (inr (is, ((z, log), d))) (inr (too, (w, v))) = law.one_fault (image 1) at n d v
