-- A plan that is made change by change.
use Rattle.std.proofs.Common.{◌≡◌, ◌≢◌, ◌≤◌, ◌<◌, ◌⊎◌, ◌^◌, inl, inr, ℕ, suc, ◌+◌, ◌&&◌, Bool, true, false, List, [], ◌∷◌, ◌++◌, Option, Some, None, All, IfSome, IsTrue, length, take, drop, get_or, option_map, unwrap_or, refl, sym, ap, subst, ◌∙◌, arith}
use Rattle.std.specs.Prelude.{nat_lt}
use Rattle.std.specs.List.{flat_map, list_all}
use Rattle.std.specs.Option.{IsSomeAnd, option_to_list}
use Rattle.std.proofs.lemmas.Bool.{and_parts, and_from, true≢false, lt-ltb}
use Rattle.std.proofs.lemmas.List.{take_all, flat_map_more}
use Rattle.std.proofs.lemmas.List.Folds.{list_all_at}
use Rattle.js_base.specs.Bytes.{Bytes}
use Rattle.js_base.specs.declared.spot.Spot.{Spot}
use Rattle.js_model.specs.declared.stream.Message.{Message}
use Rattle.js_model.specs.declared.stream_config.StreamConfig.{StreamConfig}
use Rattle.effects.specs.declared.effect.Effect.{Effect}
use Rattle.effects.specs.declared.effect.Effect.TheVariants.{MakeStream, ChangeStream, DropStream, PutHere, Skip, Remove, MakeConsumer, DropConsumer, Deliver, Acked, Due, GivenUp, Now}
use Rattle.op_records.specs.Allowed.{is_record, is_text, is_spot, may_stand}
use Rattle.op_records.specs.Blocks.{is_block_message, spelled_message}
use Rattle.op_records.specs.Spelling.{spelled, spelled_record}
use Rattle.op_records.specs.declared.record.Record.{Record}
use Rattle.op_records.specs.declared.record.Record.TheVariants.{Put, Change}
use Rattle.block_table.specs.declared.block.Block.{Block}
use Rattle.block_table.specs.declared.placing.Placing.{Placing}
use Rattle.block_table.specs.Blocks.{Blocks, blocks}
use Rattle.block_table.specs.Placings.{placing, place, restarted}
use Rattle.block_table.specs.Tables.{IsFile, IsTable}
use Rattle.block_writing.specs.declared.commit.Plan.{Plan}
use Rattle.block_writing.specs.declared.run.Run.{Run}
use Rattle.block_writing.specs.Planning.{Planned, begun, with_message, with_put, with_change, message_by, plan_message, planned_one, then_planned, planned, spots_in}
use Rattle.block_writing.specs.Plans.{Has, HasNoSpot, IsAdded, IsPlan, IsPut, IsSoFar, WritesBlock}
use Rattle.block_writing.proofs.Runs.{GoesOn, BeginsFile, IsSpot, spot_is, planned_none}
use Rattle.block_writing.proofs.Written.{all_there, one_more, parts}

-- ---- lists with one more at the end

spots_put : (rs : List Record) (seq at : ℕ) (id : Bytes) (spot : Spot) → spots_in (rs ++ Put seq at id spot ∷ []) ≡ spots_in rs ++ spot ∷ []
spots_put [] seq at id spot = refl
spots_put (Put n m i s ∷ rs) seq at id spot = ap (λ (l : List Spot). s ∷ l) (spots_put rs seq at id spot)
spots_put (Change e ∷ rs) seq at id spot = spots_put rs seq at id spot

spots_change : (rs : List Record) (e : Effect) → spots_in (rs ++ Change e ∷ []) ≡ spots_in rs
spots_change [] e = refl
spots_change (Put n m i s ∷ rs) e = ap (λ (l : List Spot). s ∷ l) (spots_change rs e)
spots_change (Change f ∷ rs) e = spots_change rs e

-- ---- where a message goes

-- an answered spot, and the placing behind it
pub placed_is : (o : Option (Spot × Placing)) (spot : Spot) (old new : Placing) → Some spot ≡ option_map (λ (r : Spot × Placing). r.0) o →
    new ≡ unwrap_or (option_map (λ (r : Spot × Placing). r.1) o) old → o ≡ Some (spot, new)
placed_is None spot old new is rest = cc
placed_is (Some (s, q)) spot old new is rest = ap (λ (x : Spot). Some (x, q)) (same s spot is) ∙ ap (λ (x : Placing). Some (spot, x)) (sym rest)
  where
    same : (x y : Spot) → Some y ≡ Some x → x ≡ y
    same x y e = cc

-- a block being written in a file that a record can tell
pub record IsTold (spot : Spot) (q : Placing) : Type 0 where
  pub file : spot.file ≤ 65535
  pub block : WritesBlock q

pub told : (b : Blocks) (len : ℕ) (p : Placing) (spot : Spot) (q : Placing) → WritesBlock p → place b len p ≡ Some (spot, q) → IsTold spot q
told b len p spot q writes e = go (spot_is b len p spot q e)
  where
    go : IsSpot b len p spot q → IsTold spot q
    go (inl h) =
        let low : h.block.file ≤ 65535 = subst (λ (o : Option Block). IfSome o (λ k. k.file ≤ 65535)) h.writes writes in
        record { file = subst (λ (x : Spot). x.file ≤ 65535) (sym h.spot_is) low; block = subst WritesBlock (sym h.rest_is) low }
    go (inr h) = record { file = subst (λ (x : Spot). x.file ≤ 65535) (sym h.spot_is) h.high; block = subst WritesBlock (sym h.rest_is) h.high }

-- ---- what a plan has then

-- a message more
put_planned : (b : Blocks) (so_far : Planned) (old new : Plan) (p q : Placing) (id : Bytes) (m : Message) (spot : Spot) → IsSoFar so_far old p →
    place b (length (spelled_message m)) p ≡ Some (spot, q) → new.batch.items ≡ old.batch.items ++ spelled_record (Put m.seq m.at id spot) →
    new.spots.items ≡ old.spots.items ++ spot ∷ [] → new.runs.items ≡ with_message old.runs.items spot (spelled_message m) →
    IsSomeAnd (plan_message b so_far id m) (λ next. IsSoFar next new q)
put_planned b so_far old new p q id m spot h e batch spots runs =
    subst (λ (o : Option (Spot × Placing)). IsSomeAnd (option_map (with_put so_far id m) o) (λ next. IsSoFar next new q)) (sym (ap (place b (length (spelled_message m))) h.placing ∙ e)) (record {
      has = record {
        batch = batch ∙ ap (λ (l : Bytes). l ++ spelled_record (Put m.seq m.at id spot)) h.has.batch ∙ flat_map_more spelled_record [] so_far.records (Put m.seq m.at id spot);
        spots = spots ∙ ap (λ (l : List Spot). l ++ spot ∷ []) h.has.spots ∙ sym (spots_put so_far.records m.seq m.at id spot);
        runs = runs ∙ ap (λ (l : List Run). with_message l spot (spelled_message m)) h.has.runs;
      };
      placing = refl;
    })

pub put_added : (b : Blocks) (e : Effect) (id : Bytes) (m : Message) (old new : Plan) (p q : Placing) → e ≡ PutHere m.seq m.at id m.subject m.headers m.payload → IsPut b id m old new p q → IsAdded b e old new p q
put_added b e id m old new p q is h = record {
  step = λ so_far s.
      subst (λ (x : Effect). IsSomeAnd (planned_one b so_far x) (λ next. IsSoFar next new q)) (sym is)
      (put_planned b so_far old new p q id m h.spot s h.placed h.batch h.spots h.runs);
}

pub no_spot : (b : Blocks) (e : Effect) (id : Bytes) (m : Message) (p : Placing) → e ≡ PutHere m.seq m.at id m.subject m.headers m.payload → place b (length (spelled_message m)) p ≡ None → HasNoSpot b e p
no_spot b e id m p is none = record {
  none = λ so_far same.
      ap (planned_one b so_far) is ∙ ap (λ (o : Option (Spot × Placing)). option_map (with_put so_far id m) o) (ap (place b (length (spelled_message m))) same ∙ none);
}

-- another change more
change_planned : (so_far : Planned) (old new : Plan) (p r q : Placing) (e : Effect) → IsSoFar so_far old p → new.batch.items ≡ old.batch.items ++ spelled e →
    new.spots ≡ old.spots → new.runs ≡ old.runs → r ≡ q → IsSoFar (with_change so_far e r) new q
unfolding spelled_record
change_planned so_far old new p r q e h batch spots runs is = record {
  has = record {
    batch = batch ∙ ap (λ (l : Bytes). l ++ spelled e) h.has.batch ∙ flat_map_more spelled_record [] so_far.records (Change e);
    spots = ap (λ v. v.items) spots ∙ h.has.spots ∙ sym (spots_change so_far.records e);
    runs = ap (λ v. v.items) runs ∙ h.has.runs;
  };
  placing = is;
}

-- a change that stores no message and makes or drops no stream: the messages behind it go on where they would have gone
rest_planned : (b : Blocks) (so_far : Planned) (e : Effect) → ((seq at : ℕ) (id subject headers payload : Bytes) → e ≡ PutHere seq at id subject headers payload → ⊥) →
    ((incarnation made : ℕ) (config : StreamConfig) → e ≡ MakeStream incarnation made config → ⊥) → (e ≡ DropStream → ⊥) → planned_one b so_far e ≡ Some (with_change so_far e so_far.placing)
rest_planned b so_far (MakeStream incarnation made config) put make gone = absurd (make incarnation made config refl)
rest_planned b so_far (ChangeStream config) put make gone = refl
rest_planned b so_far DropStream put make gone = absurd (gone refl)
rest_planned b so_far (PutHere seq at id subject headers payload) put make gone = absurd (put seq at id subject headers payload refl)
rest_planned b so_far (Skip seq at id) put make gone = refl
rest_planned b so_far (Remove low high) put make gone = refl
rest_planned b so_far (MakeConsumer name made config cursor picks) put make gone = refl
rest_planned b so_far (DropConsumer name) put make gone = refl
rest_planned b so_far (Deliver name seq count due dseq) put make gone = refl
rest_planned b so_far (Acked name low high) put make gone = refl
rest_planned b so_far (Due name seq due) put make gone = refl
rest_planned b so_far (GivenUp name moment) put make gone = refl
rest_planned b so_far (Now moment) put make gone = refl

pub rest_added : (b : Blocks) (e : Effect) (old new : Plan) (p : Placing) → ((seq at : ℕ) (id subject headers payload : Bytes) → e ≡ PutHere seq at id subject headers payload → ⊥) →
    ((incarnation made : ℕ) (config : StreamConfig) → e ≡ MakeStream incarnation made config → ⊥) → (e ≡ DropStream → ⊥) →
    new.batch.items ≡ old.batch.items ++ spelled e → new.spots ≡ old.spots → new.runs ≡ old.runs → IsAdded b e old new p p
rest_added b e old new p put make gone batch spots runs = record {
  step = λ so_far s.
      subst (λ (o : Option Planned). IsSomeAnd o (λ next. IsSoFar next new p)) (sym (rest_planned b so_far e put make gone))
      (change_planned so_far old new p so_far.placing p e s batch spots runs s.placing);
}

-- and one that makes or drops a stream: they go on in no block
made_added : (b : Blocks) (e : Effect) (incarnation made : ℕ) (config : StreamConfig) (old new : Plan) (p q : Placing) → e ≡ MakeStream incarnation made config → q ≡ restarted p →
    new.batch.items ≡ old.batch.items ++ spelled e → new.spots ≡ old.spots → new.runs ≡ old.runs → IsAdded b e old new p q
made_added b e incarnation made config old new p q is anew batch spots runs = record {
  step = λ so_far s.
      subst (λ (x : Effect). IsSomeAnd (planned_one b so_far x) (λ next. IsSoFar next new q)) (sym is)
      (change_planned so_far old new p (restarted so_far.placing) q (MakeStream incarnation made config) s (subst (λ (x : Effect). new.batch.items ≡ old.batch.items ++ spelled x) is batch) spots runs (ap restarted s.placing ∙ sym anew));
}

dropped_added : (b : Blocks) (e : Effect) (old new : Plan) (p q : Placing) → e ≡ DropStream → q ≡ restarted p →
    new.batch.items ≡ old.batch.items ++ spelled e → new.spots ≡ old.spots → new.runs ≡ old.runs → IsAdded b e old new p q
dropped_added b e old new p q is anew batch spots runs = record {
  step = λ so_far s.
      subst (λ (x : Effect). IsSomeAnd (planned_one b so_far x) (λ next. IsSoFar next new q)) (sym is)
      (change_planned so_far old new p (restarted so_far.placing) q DropStream s (subst (λ (x : Effect). new.batch.items ≡ old.batch.items ++ spelled x) is batch) spots runs (ap restarted s.placing ∙ sym anew));
}

pub restart_added : (b : Blocks) (e : Effect) (old new : Plan) (p q : Placing) → ((incarnation : ℕ) × (made : ℕ) × (config : StreamConfig) × (e ≡ MakeStream incarnation made config)) ⊎ (e ≡ DropStream) →
    q ≡ restarted p → new.batch.items ≡ old.batch.items ++ spelled e → new.spots ≡ old.spots → new.runs ≡ old.runs → IsAdded b e old new p q
restart_added b e old new p q (inl h) anew batch spots runs = made_added b e h.0 h.1 h.2 old new p q h.3 anew batch spots runs
restart_added b e old new p q (inr h) anew batch spots runs = dropped_added b e old new p q h anew batch spots runs

-- ---- one change after the other

planned_push : (b : Blocks) (es : List Effect) (e : Effect) (s : Option Planned) → planned b (es ++ e ∷ []) s ≡ then_planned b (planned b es s) e
planned_push b [] e s = refl
planned_push b (x ∷ xs) e s = planned_push b xs e (then_planned b s x)

planned_more : (b : Blocks) (es fs : List Effect) (s : Option Planned) → planned b (es ++ fs) s ≡ planned b fs (planned b es s)
planned_more b [] fs s = refl
planned_more b (x ∷ xs) fs s = planned_more b xs fs (then_planned b s x)

-- the first changes are planned
pub record ArePlanned (b : Blocks) (es : List Effect) (i : ℕ) (plan : Plan) (p : Placing) : Type 0 where
  pub so_far : Planned
  pub so_far_is : planned b (take i es) (Some (begun b)) ≡ Some so_far
  pub has : IsSoFar so_far plan p

pub first_planned : (b : Blocks) (es : List Effect) (plan : Plan) → plan.batch.items ≡ [] → plan.spots.items ≡ [] → plan.runs.items ≡ [] → ArePlanned b es 0 plan (placing b)
first_planned b es plan batch spots runs = record {
  so_far = begun b;
  so_far_is = refl;
  has = record { has = record { batch = batch; spots = spots; runs = runs }; placing = refl };
}

pub next_planned : (b : Blocks) (es : List Effect) (i : ℕ) (e : Effect) (old new : Plan) (p q : Placing) → i < length es → e ≡ get_or es i e → (h : ArePlanned b es i old p) →
    IsAdded b e old new p q → ArePlanned b es (i + 1) new q
next_planned b es i e old new p q within is h added = go (planned_one b h.so_far e) refl (added.step h.so_far h.has)
  where
    go : (o : Option Planned) → planned_one b h.so_far e ≡ o → IsSomeAnd o (λ next. IsSoFar next new q) → ArePlanned b es (i + 1) new q
    go None one has = absurd has
    go (Some next) one has = record {
      so_far = next;
      so_far_is =
          ap (λ (l : List Effect). planned b l (Some (begun b))) (one_more es i e within is)
          ∙ planned_push b (take i es) e (Some (begun b)) ∙ ap (λ (s : Option Planned). then_planned b s e) h.so_far_is ∙ one;
      has = has;
    }

pub all_planned : (b : Blocks) (es : List Effect) (i : ℕ) (plan : Plan) (p : Placing) → length es ≤ i → ArePlanned b es i plan p → IsPlan b es plan
all_planned b es i plan p past h = record {
  made = h.so_far;
  made_is = ap (λ (l : List Effect). planned b l (Some (begun b))) (sym (take_all i es past)) ∙ h.so_far_is;
  has = h.has.has;
}

-- there is no place for a message
pub no_plan : (b : Blocks) (es : List Effect) (i : ℕ) (e : Effect) (plan : Plan) (p : Placing) → i < length es → e ≡ get_or es i e → (h : ArePlanned b es i plan p) →
    HasNoSpot b e p → planned b es (Some (begun b)) ≡ None
no_plan b es i e plan p within is h none =
    ap (λ (l : List Effect). planned b l (Some (begun b))) (sym (parts es i e within is))
    ∙ planned_more b (take i es) (e ∷ drop (suc i) es) (Some (begun b))
    ∙ ap (λ (s : Option Planned). planned b (drop (suc i) es) (then_planned b s e)) h.so_far_is
    ∙ ap (planned b (drop (suc i) es)) (none.none h.so_far h.has.placing)
    ∙ planned_none b (drop (suc i) es)

-- ---- at first

pub writes_first : (b : Blocks) → IsTable b → WritesBlock (placing b)
writes_first b table = go b.writing refl
  where
    go : (w : Option Block) → b.writing ≡ w → IfSome w (λ k. k.file ≤ 65535)
    go None is = tt
    go (Some k) is =
        (all_there (λ (x : Block). IsFile x.file) b.older k []
        (subst (λ (o : Option Block). All (λ (x : Block). IsFile x.file) (b.older ++ option_to_list o)) is table.blocks_are.files)).high

-- each of the changes may be recorded
pub allowed_there : (es : List Effect) (i : ℕ) (e : Effect) → IsTrue (list_all is_record es) → i < length es → e ≡ get_or es i e → IsTrue (is_record e)
allowed_there es i e all within is = go (is_record (get_or es i e)) refl
  where
    go : (b : Bool) → is_record (get_or es i e) ≡ b → is_record e ≡ true
    go true t = ap is_record is ∙ t
    go false f = absurd (true≢false (sym all ∙ list_all_at is_record es i e within f))
