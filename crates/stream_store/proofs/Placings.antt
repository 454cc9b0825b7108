-- Where the messages of changes go, one behind the other.
use Rattle.std.proofs.Common.{◌≡◌, ◌≤◌, ◌<◌, ◌^◌, ℕ, ◌+◌, Bool, true, false, cond, List, [], ◌∷◌, ◌++◌, Option, Some, None, IsTrue, get_or, drop, length, option_map, refl, sym, ap, ◌∙◌, arith}
use Rattle.std.specs.Prelude.{is_some, unwrap_or}
use Rattle.std.proofs.lemmas.Bool.{true≢false}
use Rattle.std.proofs.lemmas.List.{at_drop_all, at_drop_more}
use Rattle.js_base.specs.Bytes.{Bytes}
use Rattle.js_base.specs.declared.spot.Spot.{Spot}
use Rattle.js_model.specs.declared.stream.Message.{Message}
use Rattle.effects.specs.declared.effect.Effect.{Effect}
use Rattle.effects.specs.declared.effect.Effect.TheVariants.{MakeStream, ChangeStream, DropStream, PutHere, Skip, Remove, MakeConsumer, DropConsumer, Deliver, Acked, Due, GivenUp, Now}
use Rattle.op_records.specs.Allowed.{is_put, is_record}
use Rattle.op_records.specs.Blocks.{spelled_message}
use Rattle.op_records.proofs.BlockSizes.{sizes, spelled_len}
use Rattle.block_table.specs.declared.placing.Placing.{Placing}
use Rattle.block_table.specs.Blocks.{Blocks}
use Rattle.block_table.specs.Placings.{place, placing}
use Rattle.block_writing.specs.Planning.{Planned, begun, message_by, planned, planned_one, then_planned, with_put}
use Rattle.block_writing.proofs.Runs.{put_allowed}
use Rattle.stream_store.specs.Laws.{LawPlacing, keeps_placing}
use Rattle.stream_store.specs.Placing.{can_place, has_room, placing_behind, placing_then, plan_of, spot_behind, spot_by}

-- ---- one change more

pub planned_push : (b : Blocks) (es : List Effect) (e : Effect) (o : Option Planned) → planned b (es ++ e ∷ []) o ≡ then_planned b (planned b es o) e
planned_push b [] e o = refl
planned_push b (x ∷ es) e o = planned_push b es e (then_planned b o x)

placing_one : (b : Blocks) (so_far : Planned) (e : Effect) → option_map (λ m. m.placing) (planned_one b so_far e) ≡ placing_then b so_far.placing e
placing_one b so_far (MakeStream incarnation made config) = refl
placing_one b so_far (ChangeStream config) = refl
placing_one b so_far DropStream = refl
placing_one b so_far (PutHere seq at id subject headers payload) = go (place b (length (spelled_message m)) so_far.placing)
  where
    m : Message
    m = message_by seq at subject headers payload

    go : (o : Option (Spot × Placing)) → option_map (λ (x : Planned). x.placing) (option_map (with_put so_far id m) o) ≡ option_map (λ (r : Spot × Placing). r.1) o
    go None = refl
    go (Some r) = refl
placing_one b so_far (Skip seq at id) = refl
placing_one b so_far (Remove low high) = refl
placing_one b so_far (MakeConsumer name made config cursor picks) = refl
placing_one b so_far (DropConsumer name) = refl
placing_one b so_far (Deliver name seq count due dseq) = refl
placing_one b so_far (Acked name low high) = refl
placing_one b so_far (Due name seq due) = refl
placing_one b so_far (GivenUp name moment) = refl
placing_one b so_far (Now moment) = refl

abbrev pub then_placing : Blocks → Option Placing → Effect → Option Placing
then_placing b None e = None
then_placing b (Some p) e = placing_then b p e

placing_more : (b : Blocks) (o : Option Planned) (e : Effect) → option_map (λ m. m.placing) (then_planned b o e) ≡ then_placing b (option_map (λ m. m.placing) o) e
placing_more b None e = refl
placing_more b (Some so_far) e = placing_one b so_far e

pub placing_push : (b : Blocks) (es : List Effect) (e : Effect) → placing_behind b (es ++ e ∷ []) ≡ then_placing b (placing_behind b es) e
placing_push b es e = ap (option_map (λ (m : Planned). m.placing)) (planned_push b es e (Some (begun b))) ∙ placing_more b (plan_of b es) e

-- there is a plan exactly if there is a place behind it
pub planned_placing : (b : Blocks) (es : List Effect) → can_place b es ≡ is_some (placing_behind b es)
planned_placing b es = go (plan_of b es)
  where
    go : (o : Option Planned) → is_some o ≡ is_some (option_map (λ (m : Planned). m.placing) o)
    go None = refl
    go (Some made) = refl

-- ---- the laws

some_one : (b : Blocks) (e : Effect) (p : Placing) → is_put e ≡ false → is_some (placing_then b p e) ≡ true
some_one b (MakeStream incarnation made config) p plain = refl
some_one b (ChangeStream config) p plain = refl
some_one b DropStream p plain = refl
some_one b (PutHere seq at id subject headers payload) p plain = absurd (true≢false plain)
some_one b (Skip seq at id) p plain = refl
some_one b (Remove low high) p plain = refl
some_one b (MakeConsumer name made config cursor picks) p plain = refl
some_one b (DropConsumer name) p plain = refl
some_one b (Deliver name seq count due dseq) p plain = refl
some_one b (Acked name low high) p plain = refl
some_one b (Due name seq due) p plain = refl
some_one b (GivenUp name moment) p plain = refl
some_one b (Now moment) p plain = refl

keeps_one : (b : Blocks) (e : Effect) (p : Placing) → keeps_placing e ≡ true → placing_then b p e ≡ Some p
keeps_one b (MakeStream incarnation made config) p is = absurd (true≢false (sym is))
keeps_one b (ChangeStream config) p is = refl
keeps_one b DropStream p is = absurd (true≢false (sym is))
keeps_one b (PutHere seq at id subject headers payload) p is = absurd (true≢false (sym is))
keeps_one b (Skip seq at id) p is = refl
keeps_one b (Remove low high) p is = refl
keeps_one b (MakeConsumer name made config cursor picks) p is = refl
keeps_one b (DropConsumer name) p is = refl
keeps_one b (Deliver name seq count due dseq) p is = refl
keeps_one b (Acked name low high) p is = refl
keeps_one b (Due name seq due) p is = refl
keeps_one b (GivenUp name moment) p is = refl
keeps_one b (Now moment) p is = refl

change : (b : Blocks) (es : List Effect) (e : Effect) → is_put e ≡ false → can_place b es ≡ true → can_place b (es ++ e ∷ []) ≡ true
change b es e plain can = planned_placing b (es ++ e ∷ []) ∙ ap is_some (placing_push b es e) ∙ go (placing_behind b es) (sym (planned_placing b es) ∙ can)
  where
    go : (o : Option Placing) → is_some o ≡ true → is_some (then_placing b o e) ≡ true
    go None h = absurd (true≢false (sym h))
    go (Some p) h = some_one b e p plain

message : (b : Blocks) (es : List Effect) (seq at : ℕ) (id subject headers payload : Bytes) → has_room b es (length (spelled_message (message_by seq at subject headers payload))) ≡ true
    → can_place b (es ++ PutHere seq at id subject headers payload ∷ []) ≡ true
message b es seq at id subject headers payload room = planned_placing b (es ++ PutHere seq at id subject headers payload ∷ []) ∙ ap is_some (placing_push b es (PutHere seq at id subject headers payload)) ∙ go (placing_behind b es) room
  where
    len : ℕ
    len = length (spelled_message (message_by seq at subject headers payload))

    mapped : (o : Option (Spot × Placing)) → is_some (option_map (λ (r : Spot × Placing). r.1) o) ≡ is_some (option_map (λ (r : Spot × Placing). r.0) o)
    mapped None = refl
    mapped (Some r) = refl

    go : (o : Option Placing) → is_some (spot_by b len o) ≡ true → is_some (then_placing b o (PutHere seq at id subject headers payload)) ≡ true
    go None h = absurd (true≢false (sym h))
    go (Some p) h = mapped (place b len p) ∙ h

keeps : (b : Blocks) (es : List Effect) (e : Effect) (len : ℕ) → keeps_placing e ≡ true → spot_behind b (es ++ e ∷ []) len ≡ spot_behind b es len
keeps b es e len is = ap (spot_by b len) (placing_push b es e ∙ go (placing_behind b es))
  where
    go : (o : Option Placing) → then_placing b o e ≡ o
    go None = refl
    go (Some p) = keeps_one b e p is

pub law_placing : LawPlacing
law_placing = record { none = λ b. refl; change = change; message = message; keeps = keeps }

-- ---- as it is asked

-- where messages go behind changes, from a placing on
abbrev pub placings : Blocks → List Effect → Option Placing → Option Placing
placings b [] o = o
placings b (e ∷ es) o = placings b es (then_placing b o e)

placings_none : (b : Blocks) (es : List Effect) → placings b es None ≡ None
placings_none b [] = refl
placings_none b (e ∷ es) = placings_none b es

placings_all : (b : Blocks) (es : List Effect) (o : Option Planned) → placings b es (option_map (λ m. m.placing) o) ≡ option_map (λ m. m.placing) (planned b es o)
placings_all b [] o = refl
placings_all b (e ∷ es) o = ap (placings b es) (sym (placing_more b o e)) ∙ placings_all b es (then_planned b o e)

pub placings_begun : (b : Blocks) (es : List Effect) → placings b (drop 0 es) (Some (placing b)) ≡ placing_behind b es
placings_begun b es = placings_all b es (Some (begun b))

module _ (b : Blocks) (es : List Effect) (i : ℕ) (e : Effect) (p : Placing) (within : i < length es) (is : e ≡ get_or es i e) (so_far : placings b (drop i es) (Some p) ≡ placing_behind b es) where
  rest_is : placings b (drop (i + 1) es) (placing_then b p e) ≡ placing_behind b es
  rest_is =
      ap (λ (x : Effect). placings b (drop (i + 1) es) (placing_then b p x)) is ∙ sym (at_drop_more (λ (l : List Effect). placings b l (Some p)) es i e within) ∙ so_far

  -- a change was placed
  pub placings_next : (q : Placing) → placing_then b p e ≡ Some q → placings b (drop (i + 1) es) (Some q) ≡ placing_behind b es
  placings_next q made = ap (placings b (drop (i + 1) es)) (sym made) ∙ rest_is

  -- there is no place for it
  pub no_room : (len : ℕ) → placing_then b p e ≡ None → spot_behind b es len ≡ None
  no_room len none = ap (spot_by b len) (sym (sym (placings_none b (drop (i + 1) es)) ∙ ap (placings b (drop (i + 1) es)) (sym none) ∙ rest_is))

pub room_at_end : (b : Blocks) (es : List Effect) (i : ℕ) (p : Placing) (len : ℕ) → length es ≤ i → placings b (drop i es) (Some p) ≡ placing_behind b es → option_map (λ r. r.0) (place b len p) ≡ spot_behind b es len
room_at_end b es i p len past so_far = ap (spot_by b len) (sym (at_drop_all (λ (l : List Effect). placings b l (Some p)) es i past) ∙ so_far)

-- the length of the message of these parts
pub len_is : (seq at : ℕ) (subject headers payload : Bytes) (len : ℕ) → len ≡ 30 + (length subject + length headers + length payload) → len ≡ length (spelled_message (message_by seq at subject headers payload))
len_is seq at subject headers payload len is = is ∙ sym (spelled_len (message_by seq at subject headers payload))

-- what a place that was asked comes to
pub placed_some : (o : Option (Spot × Placing)) (old new : Placing) (spot : Option Spot) (some : Bool) → spot ≡ option_map (λ r. r.0) o → new ≡ unwrap_or (option_map (λ r. r.1) o) old → some ≡ is_some spot
    → option_map (λ r. r.1) o ≡ cond some (Some new) None
placed_some None old new spot some is same some_is = sym (ap (λ (t : Bool). cond t (Some new) None) (some_is ∙ ap is_some is))
placed_some (Some r) old new spot some is same some_is = ap (λ (p : Placing). Some p) (sym same) ∙ sym (ap (λ (t : Bool). cond t (Some new) None) (some_is ∙ ap is_some is))

-- of a message that may be handed over
pub short_parts : (seq at : ℕ) (id subject headers payload : Bytes) → IsTrue (is_record (PutHere seq at id subject headers payload)) → length subject + length headers + length payload < 2 ^ 31
short_parts seq at id subject headers payload is =
    let s = sizes (message_by seq at subject headers payload) (put_allowed seq at id subject headers payload is) in
    omega (arith, s.subject, s.content)

pub placed_message : (b : Blocks) (p new : Placing) (seq at : ℕ) (id subject headers payload : Bytes) (len : ℕ) (spot : Option Spot) (some : Bool) → len ≡ 30 + (length subject + length headers + length payload)
    → spot ≡ option_map (λ r. r.0) (place b len p) → new ≡ unwrap_or (option_map (λ r. r.1) (place b len p)) p → some ≡ is_some spot
    → placing_then b p (PutHere seq at id subject headers payload) ≡ cond some (Some new) None
placed_message b p new seq at id subject headers payload len spot some is found rest some_is =
    ap (λ (n : ℕ). option_map (λ (r : Spot × Placing). r.1) (place b n p)) (sym (len_is seq at subject headers payload len is)) ∙ placed_some (place b len p) p new spot some found rest some_is
