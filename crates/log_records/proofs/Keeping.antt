-- What the records of a log have made stays sound, whatever record is added.
use Rattle.std.proofs.Common.{◌≡◌, ℕ, ◌+◌, Bool, true, false, cond, ◌&&◌, not, List, [], ◌∷◌, ◌++◌, map, Option, Some, None, IsTrue, refl, sym, ap, subst, ◌∙◌}
use Rattle.std.specs.Prelude.{filter, nat_le, ◌==◌, option_map}
use Rattle.std.proofs.lemmas.Bool.{and_parts}
use Rattle.std.proofs.lemmas.List.{map-append}
use Rattle.js_base.specs.Subjects.{is_subject_text}
use Rattle.js_base.specs.declared.spot.Spot.{Spot}
use Rattle.js_model.specs.declared.stream.Message.{Message}
use Rattle.js_model.specs.declared.consumer.Consumer.{Consumer}
use Rattle.js_model.specs.Configs.{is_number}
use Rattle.js_model.specs.Streams.{by_name}
use Rattle.js_model.proofs.Named.{some_is, none_some}
use Rattle.effects.specs.declared.durable.Body.{Body}
use Rattle.effects.specs.declared.durable.Durable.{Durable}
use Rattle.effects.specs.declared.effect.Effect.{Effect}
use Rattle.effects.specs.declared.effect.Effect.TheVariants.{MakeStream, ChangeStream, DropStream, PutHere, Skip, Remove, MakeConsumer, DropConsumer, Deliver, Acked, Due, GivenUp, Now}
use Rattle.effects.specs.Folding.{live, live_if, fold, fold_in, fold_live, fold_vacant, empty_body, consumer_from, with_made, without_consumer, replaced, is_next, numbered, put, removed, at_moment, delivered, acked, due_at, given_up_by}
use Rattle.effects.specs.Ranges.{is_within}
use Rattle.block_table.specs.declared.placed.Placed.{Placed}
use Rattle.block_table.specs.Blocks.{Blocks, no_blocks}
use Rattle.block_table.specs.Puts.{fits, put_at, put as put_spot, removed as removed_blocks}
use Rattle.op_records.specs.declared.record.Record.{Record}
use Rattle.op_records.specs.declared.record.Record.TheVariants.{Put, Change}
use Rattle.op_records.specs.Allowed.{is_record, is_put, is_spot, is_text, is_header, fits_block, may_stand}
use Rattle.state_snapshot.specs.Snapshots.{HasSpots}
use Rattle.log_records.specs.Unread.{unread_subject, unread, unread_effect}
use Rattle.log_records.specs.Logged.{Logged, HasBlocksOf, IsLogged, beginning, effect_of, blocks_by}
use Rattle.log_records.proofs.Forming.{stays_formed}
use Rattle.log_records.proofs.Logging.{IsFoldOf}
use Rattle.log_records.proofs.Unreading.{hyphen_spelled, one_unread}

-- ---- the change of a record

pub recorded : (r : Record) → IsTrue (may_stand r) → IsTrue (is_record (effect_of r))
recorded (Put seq at id spot) h =
    let numbers : (is_number seq && is_number at && is_text id) ≡ true = (and_parts (is_number seq && is_number at && is_text id) (is_spot spot) h).0 in
    subst (λ (b : Bool). IsTrue (b && is_subject_text unread_subject && is_header [] && fits_block [] [])) (sym numbers) (subst (λ (b : Bool). IsTrue (b && is_header [] && fits_block [] [])) (sym hyphen_spelled) refl)
recorded (Change e) h = (and_parts (is_record e) (not (is_put e)) h).0

-- it has no message
abbrev IsNoPut : Effect → Type 0
IsNoPut e = not (is_put e) ≡ true

no_put : (e : Effect) → IsTrue (may_stand (Change e)) → IsNoPut e
no_put e h = (and_parts (is_record e) (not (is_put e)) h).1

change_unread : (e : Effect) → IsNoPut e → unread_effect e ≡ e
change_unread (MakeStream incarnation made config) h = refl
change_unread (ChangeStream config) h = refl
change_unread DropStream h = refl
change_unread (PutHere seq at id subject headers payload) h = absurd (cc)
change_unread (Skip seq at id) h = refl
change_unread (Remove low high) h = refl
change_unread (MakeConsumer name made config cursor picks) h = refl
change_unread (DropConsumer name) h = refl
change_unread (Deliver name seq count due dseq) h = refl
change_unread (Acked name low high) h = refl
change_unread (Due name seq due) h = refl
change_unread (GivenUp name moment) h = refl
change_unread (Now moment) h = refl

effect_unread : (r : Record) → IsTrue (may_stand r) → unread_effect (effect_of r) ≡ effect_of r
effect_unread (Put seq at id spot) h = refl
effect_unread (Change e) h = change_unread e (no_put e h)

stays_unread : (old : Durable) (e : Effect) (new : Durable) → unread old ≡ old → unread_effect e ≡ e → fold old e ≡ Some new → unread new ≡ new
stays_unread old e new was same made =
    some_is
    (ap (option_map unread) (sym made) ∙ sym (one_unread old e) ∙ ap (λ (d : Durable). fold d (unread_effect e)) was ∙ ap (fold old) same ∙ made)

-- ---- the blocks have a spot for each message

abbrev ArePlaced : Blocks → Durable → Type 0
ArePlaced b d = HasSpots d b

passing : {X : Type 0} (f : X → ℕ) (passes : ℕ → Bool) (xs : List X) → map f (filter (λ x. passes (f x)) xs) ≡ filter passes (map f xs)
passing f passes [] = refl
passing f passes (x ∷ xs) = go (passing f passes xs) (passes (f x))
  where
    go : map f (filter (λ x. passes (f x)) xs) ≡ filter passes (map f xs) → (t : Bool) → map f (cond t (x ∷ filter (λ x. passes (f x)) xs) (filter (λ x. passes (f x)) xs)) ≡ cond t (f x ∷ filter passes (map f xs)) (filter passes (map f xs))
    go more true = ap (λ (ns : List ℕ). f x ∷ ns) more
    go more false = more

tested_placed : (b : Blocks) (t : Bool) (made new : Durable) → ArePlaced b made → cond t (Some made) None ≡ Some new → ArePlaced b new
tested_placed b true made new h e = subst (ArePlaced b) (some_is e) h
tested_placed b false made new h e = absurd (none_some e)

-- the consumers are others
other_placed : (bs : Blocks) (i : ℕ) (b : Body) (o : Option Consumer) (new : Durable) → ArePlaced bs (live i b) → live_if i (replaced b o) ≡ Some new → ArePlaced bs new
other_placed bs i b None new h e = absurd (none_some e)
other_placed bs i b (Some c) new h e = subst (ArePlaced bs) (some_is e) h

vacant_placed : (b : Blocks) (i : ℕ) (e : Effect) (new : Durable) → fold_vacant i e ≡ Some new → ArePlaced (blocks_by e b) new
vacant_placed b i (MakeStream incarnation made config) new h = tested_placed no_blocks (incarnation == i + 1) (live incarnation (empty_body made config)) new refl h
vacant_placed b i (ChangeStream config) new h = absurd (none_some h)
vacant_placed b i DropStream new h = absurd (none_some h)
vacant_placed b i (PutHere seq at id subject headers payload) new h = absurd (none_some h)
vacant_placed b i (Skip seq at id) new h = absurd (none_some h)
vacant_placed b i (Remove low high) new h = absurd (none_some h)
vacant_placed b i (MakeConsumer name made config cursor picks) new h = absurd (none_some h)
vacant_placed b i (DropConsumer name) new h = absurd (none_some h)
vacant_placed b i (Deliver name seq count due dseq) new h = absurd (none_some h)
vacant_placed b i (Acked name low high) new h = absurd (none_some h)
vacant_placed b i (Due name seq due) new h = absurd (none_some h)
vacant_placed b i (GivenUp name moment) new h = absurd (none_some h)
vacant_placed b i (Now moment) new h = absurd (none_some h)

live_placed : (bs : Blocks) (i : ℕ) (b : Body) (e : Effect) (new : Durable) → IsNoPut e → ArePlaced bs (live i b) → fold_live i b e ≡ Some new → ArePlaced (blocks_by e bs) new
live_placed bs i b (MakeStream incarnation made config) new plain h made_is = absurd (none_some made_is)
live_placed bs i b (ChangeStream config) new plain h e = subst (ArePlaced bs) (some_is e) h
live_placed bs i b DropStream new plain h e = subst (ArePlaced no_blocks) (some_is e) refl
live_placed bs i b (PutHere seq at id subject headers payload) new plain h e = absurd (cc)
live_placed bs i b (Skip seq at id) new plain h e = tested_placed bs (is_next seq at b) (live i (numbered seq at id b)) new h e
live_placed bs i b (Remove low high) new plain h e =
    let passes = λ (n : ℕ). not (is_within low high n) in
    subst (ArePlaced (blocks_by (Remove low high) bs)) (some_is e)
    (passing (λ (p : Placed). p.seq) passes bs.placed ∙ ap (filter passes) h ∙ sym (passing (λ (m : Message). m.seq) passes b.messages))
live_placed bs i b (MakeConsumer name made config cursor picks) new plain h e = go (by_name b.consumers name) e
  where
    go : (o : Option Consumer) → live_if i (with_made b (consumer_from name made config cursor picks) o) ≡ Some new → ArePlaced bs new
    go None e = subst (ArePlaced bs) (some_is e) h
    go (Some c) e = absurd (none_some e)
live_placed bs i b (DropConsumer name) new plain h e = go (by_name b.consumers name) e
  where
    go : (o : Option Consumer) → live_if i (without_consumer b o) ≡ Some new → ArePlaced bs new
    go None e = absurd (none_some e)
    go (Some c) e = subst (ArePlaced bs) (some_is e) h
live_placed bs i b (Deliver name seq count due dseq) new plain h e =
    other_placed bs i b (delivered (record { seq = seq; count = count; due = due }) dseq (by_name b.consumers name)) new h e
live_placed bs i b (Acked name low high) new plain h e = other_placed bs i b (acked low high (by_name b.consumers name)) new h e
live_placed bs i b (Due name seq due) new plain h e = other_placed bs i b (due_at seq due (by_name b.consumers name)) new h e
live_placed bs i b (GivenUp name moment) new plain h e = other_placed bs i b (given_up_by moment (by_name b.consumers name)) new h e
live_placed bs i b (Now moment) new plain h e = tested_placed bs (nat_le b.moment moment) (live i (at_moment moment b)) new h e

change_placed : (bs : Blocks) (old : Durable) (e : Effect) (new : Durable) → IsNoPut e → ArePlaced bs old → fold old e ≡ Some new → ArePlaced (blocks_by e bs) new
change_placed bs old e new plain h made = go old.body h made
  where
    go : (o : Option Body) → ArePlaced bs (record { incarnation = old.incarnation; body = o }) → fold_in old.incarnation o e ≡ Some new → ArePlaced (blocks_by e bs) new
    go None h made = vacant_placed bs old.incarnation e new made
    go (Some b) h made = live_placed bs old.incarnation b e new plain h made

put_placed : (bs : Blocks) (old : Durable) (seq at : ℕ) (id : List ℕ) (spot : Spot) (new : Durable) (after : Blocks) → ArePlaced bs old → fold old (PutHere seq at id unread_subject [] []) ≡ Some new → put_spot seq spot bs ≡ Some after
    → ArePlaced after new
put_placed bs old seq at id spot new after h made puts = go old.body h made
  where
    m : Message
    m = record { seq = seq; at = at; subject = unread_subject; headers = []; payload = [] }

    spotted : (t : Bool) → cond t (Some (put_at seq spot bs)) None ≡ Some after → put_at seq spot bs ≡ after
    spotted true e = some_is e
    spotted false e = absurd (none_some e)

    go : (o : Option Body) → ArePlaced bs (record { incarnation = old.incarnation; body = o }) → fold_in old.incarnation o (PutHere seq at id unread_subject [] []) ≡ Some new → ArePlaced after new
    go None h made = absurd (none_some made)
    go (Some b) h made =
        let ends : ArePlaced (put_at seq spot bs) (live old.incarnation (put m id b)) =
        map-append (λ (p : Placed). p.seq) bs.placed (record { seq = seq; spot = spot } ∷ []) ∙ ap (λ (ns : List ℕ). ns ++ seq ∷ []) h ∙ sym (map-append (λ (m : Message). m.seq) b.messages (m ∷ [])) in
        subst (λ (x : Blocks). ArePlaced x new) (spotted (fits seq spot bs) puts) (tested_placed (put_at seq spot bs) (is_next seq at b) (live old.incarnation (put m id b)) new ends made)

stays_placed : (g : Logged) (r : Record) (d : Durable) (b : Blocks) → IsTrue (may_stand r) → ArePlaced g.blocks g.durable → IsFoldOf g r d b → ArePlaced b d
stays_placed g (Put seq at id spot) d b is h f = put_placed g.blocks g.durable seq at id spot d b h f.durable f.blocks
stays_placed g (Change e) d b is h f = subst (λ (x : Blocks). ArePlaced x d) (some_is f.blocks) (change_placed g.blocks g.durable e d (no_put e is) h f.durable)

-- ---- a vacant place has no blocks

tested_vacant : (b : Blocks) (t : Bool) (made new : Durable) → HasBlocksOf made.body b → cond t (Some made) None ≡ Some new → HasBlocksOf new.body b
tested_vacant b true made new h e = subst (λ (d : Durable). HasBlocksOf d.body b) (some_is e) h
tested_vacant b false made new h e = absurd (none_some e)

other_vacant : (bs : Blocks) (i : ℕ) (o : Option Body) (new : Durable) → live_if i o ≡ Some new → HasBlocksOf new.body bs
other_vacant bs i None new e = absurd (none_some e)
other_vacant bs i (Some b) new e = subst (λ (d : Durable). HasBlocksOf d.body bs) (some_is e) tt

vacant_vacant : (b : Blocks) (i : ℕ) (e : Effect) (new : Durable) → fold_vacant i e ≡ Some new → HasBlocksOf new.body (blocks_by e b)
vacant_vacant b i (MakeStream incarnation made config) new h = tested_vacant no_blocks (incarnation == i + 1) (live incarnation (empty_body made config)) new tt h
vacant_vacant b i (ChangeStream config) new h = absurd (none_some h)
vacant_vacant b i DropStream new h = absurd (none_some h)
vacant_vacant b i (PutHere seq at id subject headers payload) new h = absurd (none_some h)
vacant_vacant b i (Skip seq at id) new h = absurd (none_some h)
vacant_vacant b i (Remove low high) new h = absurd (none_some h)
vacant_vacant b i (MakeConsumer name made config cursor picks) new h = absurd (none_some h)
vacant_vacant b i (DropConsumer name) new h = absurd (none_some h)
vacant_vacant b i (Deliver name seq count due dseq) new h = absurd (none_some h)
vacant_vacant b i (Acked name low high) new h = absurd (none_some h)
vacant_vacant b i (Due name seq due) new h = absurd (none_some h)
vacant_vacant b i (GivenUp name moment) new h = absurd (none_some h)
vacant_vacant b i (Now moment) new h = absurd (none_some h)

live_vacant : (bs : Blocks) (i : ℕ) (b : Body) (e : Effect) (new : Durable) → fold_live i b e ≡ Some new → HasBlocksOf new.body (blocks_by e bs)
live_vacant bs i b (MakeStream incarnation made config) new h = absurd (none_some h)
live_vacant bs i b (ChangeStream config) new h = other_vacant bs i (Some (record b { config = config })) new h
live_vacant bs i b DropStream new h = subst (λ (d : Durable). HasBlocksOf d.body no_blocks) (some_is h) refl
live_vacant bs i b (PutHere seq at id subject headers payload) new h =
    tested_vacant bs (is_next seq at b) (live i (put (record { seq = seq; at = at; subject = subject; headers = headers; payload = payload }) id b)) new tt h
live_vacant bs i b (Skip seq at id) new h = tested_vacant bs (is_next seq at b) (live i (numbered seq at id b)) new tt h
live_vacant bs i b (Remove low high) new h = other_vacant (removed_blocks low high bs) i (Some (removed low high b)) new h
live_vacant bs i b (MakeConsumer name made config cursor picks) new h = other_vacant bs i (with_made b (consumer_from name made config cursor picks) (by_name b.consumers name)) new h
live_vacant bs i b (DropConsumer name) new h = other_vacant bs i (without_consumer b (by_name b.consumers name)) new h
live_vacant bs i b (Deliver name seq count due dseq) new h =
    other_vacant bs i (replaced b (delivered (record { seq = seq; count = count; due = due }) dseq (by_name b.consumers name))) new h
live_vacant bs i b (Acked name low high) new h = other_vacant bs i (replaced b (acked low high (by_name b.consumers name))) new h
live_vacant bs i b (Due name seq due) new h = other_vacant bs i (replaced b (due_at seq due (by_name b.consumers name))) new h
live_vacant bs i b (GivenUp name moment) new h = other_vacant bs i (replaced b (given_up_by moment (by_name b.consumers name))) new h
live_vacant bs i b (Now moment) new h = tested_vacant bs (nat_le b.moment moment) (live i (at_moment moment b)) new tt h

change_vacant : (bs : Blocks) (old : Durable) (e : Effect) (new : Durable) → fold old e ≡ Some new → HasBlocksOf new.body (blocks_by e bs)
change_vacant bs old e new made = go old.body made
  where
    go : (o : Option Body) → fold_in old.incarnation o e ≡ Some new → HasBlocksOf new.body (blocks_by e bs)
    go None made = vacant_vacant bs old.incarnation e new made
    go (Some b) made = live_vacant bs old.incarnation b e new made

-- where a message is put there is a stream
put_vacant : (old : Durable) (seq at : ℕ) (id : List ℕ) (new : Durable) (after : Blocks) → fold old (PutHere seq at id unread_subject [] []) ≡ Some new → HasBlocksOf new.body after
put_vacant old seq at id new after made = change_vacant after old (PutHere seq at id unread_subject [] []) new made

stays_vacant : (g : Logged) (r : Record) (d : Durable) (b : Blocks) → IsFoldOf g r d b → HasBlocksOf d.body b
stays_vacant g (Put seq at id spot) d b f = put_vacant g.durable seq at id d b f.durable
stays_vacant g (Change e) d b f = subst (λ (x : Blocks). HasBlocksOf d.body x) (some_is f.blocks) (change_vacant g.blocks g.durable e d f.durable)

-- ---- all of it

pub beginning_logged : (i : ℕ) → IsLogged (beginning i)
beginning_logged i = record { formed = tt; vacant = refl; messages = refl; placed = refl }

pub stays_logged : (g : Logged) (r : Record) (d : Durable) (b : Blocks) → IsLogged g → IsTrue (may_stand r) → IsFoldOf g r d b → IsLogged (record { durable = d; blocks = b })
stays_logged g r d b h is f = record {
  formed = stays_formed g.durable (effect_of r) d h.formed (recorded r is) f.durable;
  vacant = stays_vacant g r d b f;
  messages = stays_unread g.durable (effect_of r) d h.messages (effect_unread r is) f.durable;
  placed = stays_placed g r d b is h.placed f;
}
