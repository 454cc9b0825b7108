-- What the changes of a commit make of a base, its table and its blocks, one after the other.
use Rattle.std.proofs.Common.{◌≡◌, ◌≤◌, ◌<◌, ◌^◌, ℕ, ◌+◌, ◌&&◌, ◌||◌, Bool, true, false, cond, not, List, [], ◌∷◌, ◌++◌, Option, Some, None, All, IsTrue, length, option_map, refl, sym, ap, subst, ◌∙◌, arith}
use Rattle.std.specs.Prelude.{nat_le, unwrap_or}
use Rattle.std.specs.List.{AllZip, list_all, list_any}
use Rattle.std.proofs.lemmas.Bool.{and_parts, and_from, lt-ltb, leb-true}
use Rattle.std.proofs.lemmas.List.Elements.{All-nil, All-head, All-tail, All-push, All-filter, All-weaker}
use Rattle.js_base.specs.Bytes.{Bytes}
use Rattle.js_base.specs.declared.spot.Spot.{Spot}
use Rattle.js_model.specs.declared.stream.Message.{Message}
use Rattle.js_model.specs.Configs.{is_number}
use Rattle.js_model.proofs.Named.{some_is, none_some}
use Rattle.effects.specs.declared.durable.Durable.{Durable}
use Rattle.effects.specs.declared.effect.Effect.{Effect}
use Rattle.effects.specs.declared.effect.Effect.TheVariants.{MakeStream, ChangeStream, DropStream, PutHere, Skip, Remove, MakeConsumer, DropConsumer, Deliver, Acked, Due, GivenUp, Now}
use Rattle.effects.specs.Folding.{fold, fold_all}
use Rattle.op_records.specs.Allowed.{is_record, is_put, is_spot, is_text, may_stand}
use Rattle.op_records.specs.Blocks.{spelled_message}
use Rattle.op_records.specs.declared.record.Record.{Record}
use Rattle.op_records.specs.declared.record.Record.TheVariants.{Put, Change}
use Rattle.op_records.proofs.BlockSizes.{spelled_size}
use Rattle.vol_disk.specs.Disk.{Files}
use Rattle.block_table.specs.declared.block.Block.{Block}
use Rattle.block_table.specs.declared.placed.Placed.{Placed}
use Rattle.block_table.specs.declared.placing.Placing.{Placing}
use Rattle.block_table.specs.Blocks.{Blocks, blocks, no_blocks}
use Rattle.block_table.specs.Placings.{free_from, place, place_at, place_on, restarted, stays}
use Rattle.block_table.specs.Puts.{fits, is_above, put_at, removed}
use Rattle.block_table.specs.Tables.{IsTable}
use Rattle.block_table.proofs.Batches.{Serves, fits_at, fits_on, serves_at, serves_on, serves_removed, serves_restarted}
use Rattle.block_table.proofs.Tables.{fits_end, put_file, table_none, table_put, table_removed}
use Rattle.block_reading.specs.Standing.{AreStoredIn, IsThere, StandsAt}
use Rattle.block_writing.specs.Planning.{message_by, spots_in}
use Rattle.block_writing.specs.Runs.{AreStoredBy, IsStoredBy}
use Rattle.block_writing.proofs.Runs.{put_allowed}
use Rattle.log_records.specs.Logged.{blocks_after, both, effect_of, fold_record, fold_records, with_blocks}
use Rattle.log_records.specs.Unread.{unread, unread_effect, stored_messages}
use Rattle.log_records.proofs.Unreading.{one_unread}
use Rattle.stream_store.specs.Committing.{recorded_at}
use Rattle.stream_store.specs.Holding.{last_of, logged}
use Rattle.stream_store.specs.Steps.{steps_of, with_step, with_steps}
use Rattle.stream_store.specs.declared.steps.Step.{Step}
use Rattle.stream_store.specs.declared.steps.Step.TheVariants as step
use Rattle.stream_store.proofs.Blocks.{IsSame}
use Rattle.stream_store.proofs.Folding.{AreNext, Makes, Moves, makes, messages_by}
use Rattle.stream_store.proofs.Storing.{blocks_removed, same_put, stored_more, stored_none, stored_put, stored_removed}

-- ---- steps

-- the steps of one change
abbrev pub steps_one : Effect → Spot → List Step
steps_one (MakeStream incarnation made config) spot = step.Clear ∷ []
steps_one (ChangeStream config) spot = []
steps_one DropStream spot = step.Clear ∷ []
steps_one (PutHere seq at id subject headers payload) spot = step.Put seq spot ∷ []
steps_one (Skip seq at id) spot = []
steps_one (Remove low high) spot = step.Remove low high ∷ []
steps_one (MakeConsumer name made config cursor picks) spot = []
steps_one (DropConsumer name) spot = []
steps_one (Deliver name seq count due dseq) spot = []
steps_one (Acked name low high) spot = []
steps_one (Due name seq due) spot = []
steps_one (GivenUp name moment) spot = []
steps_one (Now moment) spot = []

pub steps_then : (e : Effect) (spot : Spot) (es : List Effect) (more : List Record) (b : Blocks) → with_steps (steps_of (e ∷ es) (spots_in (recorded_at spot e ∷ more))) b ≡ with_steps (steps_of es (spots_in more)) (with_steps (steps_one e spot) b)
steps_then (MakeStream incarnation made config) spot es more b = refl
steps_then (ChangeStream config) spot es more b = refl
steps_then DropStream spot es more b = refl
steps_then (PutHere seq at id subject headers payload) spot es more b = refl
steps_then (Skip seq at id) spot es more b = refl
steps_then (Remove low high) spot es more b = refl
steps_then (MakeConsumer name made config cursor picks) spot es more b = refl
steps_then (DropConsumer name) spot es more b = refl
steps_then (Deliver name seq count due dseq) spot es more b = refl
steps_then (Acked name low high) spot es more b = refl
steps_then (Due name seq due) spot es more b = refl
steps_then (GivenUp name moment) spot es more b = refl
steps_then (Now moment) spot es more b = refl

-- the record's change, its message unread
effect_is : (spot : Spot) (e : Effect) → effect_of (recorded_at spot e) ≡ unread_effect e
effect_is spot (MakeStream incarnation made config) = refl
effect_is spot (ChangeStream config) = refl
effect_is spot DropStream = refl
effect_is spot (PutHere seq at id subject headers payload) = refl
effect_is spot (Skip seq at id) = refl
effect_is spot (Remove low high) = refl
effect_is spot (MakeConsumer name made config cursor picks) = refl
effect_is spot (DropConsumer name) = refl
effect_is spot (Deliver name seq count due dseq) = refl
effect_is spot (Acked name low high) = refl
effect_is spot (Due name seq due) = refl
effect_is spot (GivenUp name moment) = refl
effect_is spot (Now moment) = refl

-- ---- a message that is placed

record IsPut (before : Blocks) (seq : ℕ) (spot : Spot) (q : Placing) (c : Blocks) : Type 0 where
  fit : fits seq spot c ≡ true
  serves : Serves before q (put_at seq spot c)

put_next : (before : Blocks) (p : Placing) (c : Blocks) (seq len : ℕ) (spot : Spot) (q : Placing) → Serves before p c → is_above seq c.placed ≡ true → len < 2 ^ 32 → place before len p ≡ Some (spot, q) → IsPut before seq spot q c
put_next before p c seq len spot q s above small h = go (stays len p.writing) refl h
  where
    Result : Spot × Placing → Type 0
    Result r = IsPut before seq r.0 r.1 c

    on : (o : Option Block) → p.writing ≡ o → stays len o ≡ true → place_on len p o ≡ Some (spot, q) → IsPut before seq spot q c
    on None is within e = absurd (none_some e)
    on (Some w) is within e = subst Result (some_is e) (record { fit = fits_on before p c seq len s w is above within; serves = serves_on before p c seq len s w is })

    new : (o : Option ℕ) → free_from p.from before ≡ o → option_map (place_at len) o ≡ Some (spot, q) → IsPut before seq spot q c
    new None is e = absurd (none_some e)
    new (Some file) is e = subst Result (some_is e) (record { fit = fits_at before p c seq len file s is above small; serves = serves_at before p c seq len file s is })

    go : (g : Bool) → stays len p.writing ≡ g → cond g (place_on len p p.writing) (option_map (place_at len) (free_from p.from before)) ≡ Some (spot, q) → IsPut before seq spot q c
    go true e h = on p.writing refl e h
    go false e h = new (free_from p.from before) refl h

none_above : (image : Files) (last : ℕ) (ps : List Placed) (ms : List Message) → AllZip (IsThere image) ps ms → All (λ m. m.seq ≤ last) ms → list_any (λ p. nat_le (last + 1) p.seq) ps ≡ false
none_above image last [] [] h below = refl
none_above image last (p ∷ ps) (m ∷ ms) h below = go (nat_le (last + 1) p.seq) refl (none_above image last ps ms h.1 (All-tail (λ (x : Message). x.seq ≤ last) m ms below))
  where
    go : (t : Bool) → nat_le (last + 1) p.seq ≡ t → list_any (λ p. nat_le (last + 1) p.seq) ps ≡ false → (t || list_any (λ p. nat_le (last + 1) p.seq) ps) ≡ false
    go true e rest =
        let low = All-head (λ (x : Message). x.seq ≤ last) m ms below in
        let high = leb-true (last + 1) p.seq e in
        absurd (omega (arith, low, high, h.0.seq))
    go false e rest = rest
none_above image last [] (m ∷ ms) h below = absurd h
none_above image last (p ∷ ps) [] h below = absurd h

-- a sequence above all messages is above all that are placed
above_all : (image : Files) (last : ℕ) (ps : List Placed) (ms : List Message) → AllZip (IsThere image) ps ms → All (λ m. m.seq ≤ last) ms → is_above (last + 1) ps ≡ true
above_all image last ps ms h below = ap not (none_above image last ps ms h below)

-- ---- what holds behind each change

-- of two images, of which the one begins each block as the other
pub record IsState (x y : Files) (before : Blocks) (p : Placing) (d : Durable) (c : Blocks) : Type 0 where
  pub stored : AreStoredIn x c (last_of d) (stored_messages d)
  pub below : All (λ m. m.seq ≤ last_of d) (stored_messages d)
  pub same : All (IsSame y x) (blocks c)
  pub table : IsTable c
  pub serves : Serves before p c

-- a change was made, and recorded
record IsStep (x y : Files) (before : Blocks) (q : Placing) (spot : Spot) (e : Effect) (d : Durable) (c after : Blocks) : Type 0 where
  fits : blocks_after (recorded_at spot e) c ≡ Some after
  stands : IsTrue (may_stand (recorded_at spot e))
  state : IsState x y before q d after

module _ (x y : Files) (before : Blocks) (p : Placing) (d new : Durable) (c : Blocks) (s : IsState x y before p d c) where
  -- the messages and the last sequence are the same
  still : stored_messages new ≡ stored_messages d → last_of new ≡ last_of d → IsState x y before p new c
  still messages last = record {
    stored = subst (λ (ms : List Message). AreStoredIn x c (last_of new) ms) (sym messages) (subst (λ (n : ℕ). AreStoredIn x c n (stored_messages d)) (sym last) s.stored);
    below = subst (λ (ms : List Message). All (λ m. m.seq ≤ last_of new) ms) (sym messages) (subst (λ (n : ℕ). All (λ m. m.seq ≤ n) (stored_messages d)) (sym last) s.below);
    same = s.same;
    table = s.table;
    serves = s.serves;
  }

  -- a stream that is made or dropped
  cleared : stored_messages new ≡ [] → IsState x y before (restarted p) new no_blocks
  cleared none = record {
    stored = subst (λ (ms : List Message). AreStoredIn x no_blocks (last_of new) ms) (sym none) (stored_none x (last_of new));
    below = subst (λ (ms : List Message). All (λ m. m.seq ≤ last_of new) ms) (sym none) (All-nil (λ (m : Message). m.seq ≤ last_of new));
    same = All-nil (IsSame y x);
    table = table_none;
    serves = serves_restarted before p c s.serves;
  }

  -- a sequence without a message
  skipped : stored_messages new ≡ stored_messages d → last_of new ≡ last_of d + 1 → IsState x y before p new c
  skipped messages last = record {
    stored = subst (λ (ms : List Message). AreStoredIn x c (last_of new) ms) (sym messages)
        (subst (λ (n : ℕ). AreStoredIn x c n (stored_messages d)) (sym last) (stored_more x (last_of d) c (stored_messages d) s.stored));
    below = subst (λ (ms : List Message). All (λ m. m.seq ≤ last_of new) ms) (sym messages)
        (All-weaker (λ (m : Message). m.seq ≤ last_of d) (λ m. m.seq ≤ last_of new) (λ m low. omega (arith, low, last)) (stored_messages d) s.below);
    same = s.same;
    table = s.table;
    serves = s.serves;
  }

  -- messages go
  gone : (low high : ℕ) → stored_messages new ≡ messages_by (Remove low high) (stored_messages d) → last_of new ≡ last_of d → IsState x y before p new (removed low high c)
  gone low high messages last = record {
    stored = subst (λ (ms : List Message). AreStoredIn x (removed low high c) (last_of new) ms) (sym messages)
        (subst (λ (n : ℕ). AreStoredIn x (removed low high c) n (messages_by (Remove low high) (stored_messages d))) (sym last) (stored_removed x (last_of d) low high c (stored_messages d) s.stored));
    below = subst (λ (ms : List Message). All (λ m. m.seq ≤ last_of new) ms) (sym messages)
        (All-weaker (λ (m : Message). m.seq ≤ last_of d) (λ m. m.seq ≤ last_of new) (λ m low. omega (arith, low, last)) (messages_by (Remove low high) (stored_messages d))
        (All-filter _ (λ (m : Message). m.seq ≤ last_of d) (stored_messages d) s.below));
    same = blocks_removed (IsSame y x) low high c s.same;
    table = table_removed low high c s.table;
    serves = serves_removed before p c low high s.serves;
  }

  -- a message is stored
  module _ (m : Message) (id : Bytes) (spot : Spot) (q : Placing) (is : IsTrue (is_record (PutHere m.seq m.at id m.subject m.headers m.payload))) (moves : place before (length (spelled_message m)) p ≡ Some (spot, q))
      (next : m.seq ≡ last_of d + 1) where
    is_put_at : IsPut before m.seq spot q c
    is_put_at =
        let size = spelled_size m (put_allowed m.seq m.at id m.subject m.headers m.payload is) in
        put_next before p c m.seq (length (spelled_message m)) spot q s.serves
        (subst (λ (n : ℕ). is_above n c.placed ≡ true) (sym next) (above_all x (last_of d) c.placed (stored_messages d) s.stored.found s.below)) (omega (arith, size.most)) moves

    added : stored_messages new ≡ stored_messages d ++ m ∷ [] → last_of new ≡ last_of d + 1 → StandsAt x spot m → StandsAt y spot m → IsState x y before q new (put_at m.seq spot c)
    added messages last there here =
        let f = is_put_at.fit in
        record {
          stored = subst (λ (ms : List Message). AreStoredIn x (put_at m.seq spot c) (last_of new) ms) (sym messages)
              (subst (λ (n : ℕ). AreStoredIn x (put_at m.seq spot c) n (stored_messages d ++ m ∷ [])) (sym last)
              (stored_put x (last_of d) m.seq spot c (stored_messages d) m f refl next there s.stored));
          below = subst (λ (ms : List Message). All (λ m. m.seq ≤ last_of new) ms) (sym messages)
              (All-push (λ (m : Message). m.seq ≤ last_of new) (stored_messages d) m
              (All-weaker (λ (m : Message). m.seq ≤ last_of d) (λ m. m.seq ≤ last_of new) (λ m low. omega (arith, low, last)) (stored_messages d) s.below) (omega (arith, next, last)));
          same = same_put x y m.seq spot c m f there here s.same;
          table = table_put m.seq spot c s.table f;
          serves = is_put_at.serves;
        }

    fitting : blocks_after (Put m.seq m.at id spot) c ≡ Some (put_at m.seq spot c)
    fitting = ap (λ (t : Bool). cond t (Some (put_at m.seq spot c)) None) is_put_at.fit

    taken : with_step (step.Put m.seq spot) c ≡ put_at m.seq spot c
    taken = ap (λ (o : Option Blocks). unwrap_or o c) fitting

    standing : IsTrue (may_stand (Put m.seq m.at id spot))
    standing =
        let f = is_put_at.fit in
        let content = and_parts _ _ is in
        let header = and_parts _ _ content.0 in
        let subject = and_parts _ _ header.0 in
        let file = put_file m.seq spot c s.table f in
        let end = fits_end m.seq spot c f in
        and_from (is_number m.seq && is_number m.at && is_text id) (is_spot spot) subject.0
        (and_from _ _ (and_from _ _ (lt-ltb spot.file (2 ^ 16) (omega (arith, file.high))) (lt-ltb spot.at (2 ^ 32) (omega (arith, end)))) (lt-ltb spot.len (2 ^ 32) (omega (arith, end))))

-- another change than a message that is stored may stand as it is
stands_as : (e : Effect) → not (is_put e) ≡ true → IsTrue (is_record e) → IsTrue (may_stand (Change e))
stands_as e plain is = and_from (is_record e) (not (is_put e)) is plain

next_state : (x y : Files) (before : Blocks) (p : Placing) (d new : Durable) (c : Blocks) (e : Effect) (spot : Spot) (q : Placing) → IsState x y before p d c → IsTrue (is_record e) → Moves before e p spot q → fold d e ≡ Some new
    → IsStoredBy (StandsAt x) e (recorded_at spot e) → IsStoredBy (StandsAt y) e (recorded_at spot e) → IsStep x y before q spot e new c (with_steps (steps_one e spot) c)
next_state x y before p d new c e spot q s is moves h there here = go e is moves (makes d e new h) there here
  where
    kept : (r : Placing) → r ≡ p → IsState x y before p new c → IsState x y before r new c
    kept r same t = subst (λ (r : Placing). IsState x y before r new c) (sym same) t

    go : (e : Effect) → IsTrue (is_record e) → Moves before e p spot q → Makes e d new → IsStoredBy (StandsAt x) e (recorded_at spot e) → IsStoredBy (StandsAt y) e (recorded_at spot e) → IsStep x y before q spot e new c (with_steps (steps_one e spot) c)
    go (MakeStream incarnation made config) is moves m there here = record {
      fits = refl;
      stands = stands_as (MakeStream incarnation made config) refl is;
      state = subst (λ (r : Placing). IsState x y before r new no_blocks) (sym moves) (cleared x y before p d new c s m.messages);
    }
    go (ChangeStream config) is moves m there here = record { fits = refl; stands = stands_as (ChangeStream config) refl is; state = kept q moves (still x y before p d new c s m.messages m.lasts) }
    go DropStream is moves m there here = record {
      fits = refl;
      stands = stands_as DropStream refl is;
      state = subst (λ (r : Placing). IsState x y before r new no_blocks) (sym moves) (cleared x y before p d new c s m.messages);
    }
    go (PutHere seq at id subject headers payload) is moves m there here =
        let message = message_by seq at subject headers payload in
        let state = added x y before p d new c s message id spot q is moves m.lasts.0 m.messages m.lasts.1 there here in
        record {
          fits = fitting x y before p d new c s message id spot q is moves m.lasts.0 ∙ ap (λ (b : Blocks). Some b) (sym (taken x y before p d new c s message id spot q is moves m.lasts.0));
          stands = standing x y before p d new c s message id spot q is moves m.lasts.0;
          state = subst (IsState x y before q new) (sym (taken x y before p d new c s message id spot q is moves m.lasts.0)) state;
        }
    go (Skip seq at id) is moves m there here = record { fits = refl; stands = stands_as (Skip seq at id) refl is; state = kept q moves (skipped x y before p d new c s m.messages m.lasts) }
    go (Remove low high) is moves m there here = record {
      fits = refl;
      stands = stands_as (Remove low high) refl is;
      state = subst (λ (r : Placing). IsState x y before r new (removed low high c)) (sym moves) (gone x y before p d new c s low high m.messages m.lasts);
    }
    go (MakeConsumer name made config cursor picks) is moves m there here = record { fits = refl; stands = stands_as (MakeConsumer name made config cursor picks) refl is; state = kept q moves (still x y before p d new c s m.messages m.lasts) }
    go (DropConsumer name) is moves m there here = record { fits = refl; stands = stands_as (DropConsumer name) refl is; state = kept q moves (still x y before p d new c s m.messages m.lasts) }
    go (Deliver name seq count due dseq) is moves m there here = record { fits = refl; stands = stands_as (Deliver name seq count due dseq) refl is; state = kept q moves (still x y before p d new c s m.messages m.lasts) }
    go (Acked name low high) is moves m there here = record { fits = refl; stands = stands_as (Acked name low high) refl is; state = kept q moves (still x y before p d new c s m.messages m.lasts) }
    go (Due name seq due) is moves m there here = record { fits = refl; stands = stands_as (Due name seq due) refl is; state = kept q moves (still x y before p d new c s m.messages m.lasts) }
    go (GivenUp name moment) is moves m there here = record { fits = refl; stands = stands_as (GivenUp name moment) refl is; state = kept q moves (still x y before p d new c s m.messages m.lasts) }
    go (Now moment) is moves m there here = record { fits = refl; stands = stands_as (Now moment) refl is; state = kept q moves (still x y before p d new c s m.messages m.lasts) }

-- ---- all changes

pub record IsEnd (x y : Files) (before : Blocks) (q : Placing) (rs : List Record) (d next : Durable) (c after : Blocks) : Type 0 where
  pub folded : fold_records rs (Some (logged d c)) ≡ Some (logged next after)
  pub stand : IsTrue (list_all may_stand rs)
  pub state : IsState x y before q next after

folded_one : (d new : Durable) (c after : Blocks) (spot : Spot) (e : Effect) → fold d e ≡ Some new → blocks_after (recorded_at spot e) c ≡ Some after → fold_record (logged d c) (recorded_at spot e) ≡ Some (logged new after)
unfolding fold_record
folded_one d new c after spot e h is =
    let made : fold (unread d) (effect_of (recorded_at spot e)) ≡ Some (unread new) = ap (fold (unread d)) (effect_is spot e) ∙ one_unread d e ∙ ap (option_map unread) h in
    ap (λ (o : Option Durable). both o (blocks_after (recorded_at spot e) c)) made ∙ ap (with_blocks (unread new)) is

fold_none : (es : List Effect) → fold_all es None ≡ None
fold_none [] = refl
fold_none (e ∷ es) = fold_none es

pub all_states : (x y : Files) (before : Blocks) (es : List Effect) (p : Placing) (rs : List Record) (q : Placing) (d next : Durable) (c : Blocks) → IsState x y before p d c → AreNext before es p rs q → IsTrue (list_all is_record es)
    → fold_all es (Some d) ≡ Some next → AreStoredBy (StandsAt x) es rs → AreStoredBy (StandsAt y) es rs → IsEnd x y before q rs d next c (with_steps (steps_of es (spots_in rs)) c)
all_states x y before [] p rs q d next c s (none, same) is h there here =
    let e : d ≡ next = some_is h in
    subst (λ (l : List Record). IsEnd x y before q l d next c (with_steps (steps_of [] (spots_in l)) c)) (sym none) (record {
      folded = ap (λ (x : Durable). Some (logged x c)) e;
      stand = refl;
      state = subst (λ (n : Durable). IsState x y before q n c) e (subst (λ (r : Placing). IsState x y before r d c) (sym same) s);
    })
all_states x y before (e ∷ es) p rs q d next c s (spot, mid, more, rs_are, moves, rest) is h there here =
    subst (λ (l : List Record). IsEnd x y before q l d next c (with_steps (steps_of (e ∷ es) (spots_in l)) c)) (sym rs_are)
    (go (fold d e) refl h (subst (λ (l : List Record). AreStoredBy (StandsAt x) (e ∷ es) l) rs_are there) (subst (λ (l : List Record). AreStoredBy (StandsAt y) (e ∷ es) l) rs_are here)
    (λ new after state made there here. all_states x y before es mid more q new next after state rest (and_parts (is_record e) (list_all is_record es) is).1 made there here))
  where
    allowed : IsTrue (is_record e) × IsTrue (list_all is_record es)
    allowed = and_parts (is_record e) (list_all is_record es) is

    Rest : Type 0
    Rest = (new : Durable) (after : Blocks) → IsState x y before mid new after → fold_all es (Some new) ≡ Some next → AreStoredBy (StandsAt x) es more → AreStoredBy (StandsAt y) es more
        → IsEnd x y before q more new next after (with_steps (steps_of es (spots_in more)) after)

    go : (o : Option Durable) → fold d e ≡ o → fold_all es o ≡ Some next → AreStoredBy (StandsAt x) (e ∷ es) (recorded_at spot e ∷ more) → AreStoredBy (StandsAt y) (e ∷ es) (recorded_at spot e ∷ more) → Rest
        → IsEnd x y before q (recorded_at spot e ∷ more) d next c (with_steps (steps_of (e ∷ es) (spots_in (recorded_at spot e ∷ more))) c)
    go None made h there here rest_of = absurd (none_some (sym (fold_none es) ∙ h))
    go (Some new) made h there here rest_of =
        let after = with_steps (steps_one e spot) c in
        let one = next_state x y before p d new c e spot mid s allowed.0 moves made there.0 here.0 in
        let all = rest_of new after one.state h there.1 here.1 in
        subst (IsEnd x y before q (recorded_at spot e ∷ more) d next c) (sym (steps_then e spot es more c)) (record {
          folded = ap (fold_records more) (folded_one d new c after spot e made one.fits) ∙ all.folded;
          stand = and_from (may_stand (recorded_at spot e)) (list_all may_stand more) one.stands all.stand;
          state = all.state;
        })
