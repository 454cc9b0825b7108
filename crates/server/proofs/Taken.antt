-- Laws of the bytes that whole turns took, and of the operations in them.
use Rattle.std.proofs.Common.{◌≡◌, ℕ, ◌+◌, List, [], ◌∷◌, ◌++◌, length, map, replicate, refl, sym, ◌∙◌, ap, subst, append_assoc, arith, ◌⊎◌, inl, inr}
use Rattle.std.specs.List.{flat_map}
use Rattle.std.proofs.lemmas.List.{append-nil, length-append, map-append, replicate_more}
use Rattle.std.proofs.lemmas.Grind.{flat_map-append}
use Rattle.js_base.specs.Bytes.{Bytes}
use Rattle.link_edge.specs.declared.answers.Answer.{Answer}
use Rattle.link_edge.specs.declared.answers.Answer.TheVariants as answers
use Rattle.nats_frames.specs.declared.op.Op.{Op}
use Rattle.nats_frames.specs.Grammar.{Fronts}
use Rattle.nats_frames.specs.Reading.{Partial, op_at}
use Rattle.session.specs.Peer.{Act, Ticks}
use Rattle.session.specs.Talk.{Spoken, Turn, Stage, Goes, AreTurns, AreActs, acts_of, hearings, turn_spoken}
use Rattle.session.specs.declared.ending.Limits.{Limits}
use Rattle.server.specs.Laws.{piece_of, bytes_of, op_of, ops_of}
use Rattle.server.proofs.Whole.{fronts_on}

abbrev pub answers_in : List Turn → List Answer
answers_in turns = map (λ (turn : Turn). turn.answer) turns

abbrev pub ops_in : List Turn → List Op
ops_in turns = ops_of (acts_of (flat_map turn_spoken turns))

-- ---- the operations among acts

pub acts-append : (acts more : List Act) → ops_of (acts ++ more) ≡ ops_of acts ++ ops_of more
acts-append acts more = flat_map-append op_of acts more

heard_ops : (ops : List Op) (more : List Act) → ops_of (hearings ops ++ more) ≡ ops ++ ops_of more
heard_ops [] more = refl
heard_ops (op ∷ ops) more = ap (λ (xs : List Op). op ∷ xs) (heard_ops ops more)

-- a tick behind them is none
ticked_ops : (ops : List Op) (acts : List Act) → acts ≡ hearings ops ++ Ticks ∷ [] → ops_of acts ≡ ops
ticked_ops ops acts e = ap ops_of e ∙ heard_ops ops (Ticks ∷ []) ∙ append-nil ops

-- those in a prefix of some bytes
pub front_ops : (bytes rest : Bytes) (acts : List Act) (a : AreActs bytes acts rest) → Fronts bytes (ops_of acts) rest
front_ops bytes rest acts a = subst (λ (ops : List Op). Fronts bytes ops rest) (sym (by a.acts_are)) a.split
  where
    by : (acts ≡ hearings a.ops) ⊎ ((acts ≡ hearings a.ops ++ Ticks ∷ []) × (op_at rest ≡ Partial)) → ops_of acts ≡ a.ops
    by (inl e) = ap ops_of (e ∙ sym (append-nil (hearings a.ops))) ∙ heard_ops a.ops [] ∙ append-nil a.ops
    by (inr e) = ticked_ops a.ops acts e.0

-- ---- whole turns

-- the operations of the turns stand in what was held and taken, and the Quiets in a row stand at the end
pub record Taken (old : Stage) (turns : List Turn) (new : Stage) : Type 0 where
  pub fronts : Fronts (old.held ++ bytes_of (answers_in turns)) (ops_in turns) new.held
  pub idle : op_at new.held ≡ Partial
  pub taken : new.taken ≡ old.taken + length (bytes_of (answers_in turns))
  pub before : List Answer
  pub quiets : replicate old.quiets answers.Quiet ++ answers_in turns ≡ before ++ replicate new.quiets answers.Quiet

taken_none : (stage : Stage) → op_at stage.held ≡ Partial → Taken stage [] stage
taken_none stage idle = record {
  fronts = append-nil stage.held;
  idle = idle;
  taken = omega arith;
  before = [];
  quiets = append-nil (replicate stage.quiets answers.Quiet);
}

ops-append : (first more : List Spoken) → ops_of (acts_of (first ++ more)) ≡ ops_of (acts_of first) ++ ops_of (acts_of more)
ops-append first more = ap ops_of (map-append (λ (s : Spoken). s.act) first more) ∙ acts-append (acts_of first) (acts_of more)

taken_more : (old mid new : Stage) (turn : Turn) (more : List Turn) (said : Bytes) (answer : Answer) → turn.answer ≡ answer → Goes old turn answer mid said
    → op_at old.held ≡ Partial → (op_at mid.held ≡ Partial → Taken mid more new) → Taken old (turn ∷ more) new
taken_more old mid new turn more said (answers.Piece piece) e g idle next =
    let k = next g.idle in
    let bytes = bytes_of (answers_in more) in
    let same : piece_of turn.answer ≡ piece = ap piece_of e in
    let are : ops_of (acts_of turn.spoken) ≡ g.ops = ticked_ops g.ops (acts_of turn.spoken) g.acts in
    let first : Fronts (old.held ++ piece) (ops_of (acts_of turn.spoken)) mid.held = subst (λ (ops : List Op). Fronts (old.held ++ piece) ops mid.held) (sym are) g.split in
    let split = fronts_on (old.held ++ piece) bytes (ops_of (acts_of turn.spoken)) (ops_in more) mid.held new.held first k.fronts in
    let parted : (old.held ++ piece) ++ bytes ≡ old.held ++ (piece_of turn.answer ++ bytes) =
    append_assoc old.held piece bytes ∙ ap (λ (b : Bytes). old.held ++ (b ++ bytes)) (sym same)
    in record {
      fronts = subst (λ (ops : List Op). Fronts (old.held ++ (piece_of turn.answer ++ bytes)) ops new.held) (sym (ops-append turn.spoken (flat_map turn_spoken more)))
          (subst (λ (b : Bytes). Fronts b (ops_of (acts_of turn.spoken) ++ ops_in more) new.held) parted split);
      idle = k.idle;
      taken = omega (arith, k.taken, g.taken, ap (λ (b : Bytes). length b) same, length-append (piece_of turn.answer) bytes);
      before = replicate old.quiets answers.Quiet ++ turn.answer ∷ k.before;
      quiets = ap (λ (xs : List Answer). replicate old.quiets answers.Quiet ++ turn.answer ∷ xs)
          (subst (λ (n : ℕ). replicate n answers.Quiet ++ answers_in more ≡ k.before ++ replicate new.quiets answers.Quiet) g.quiets k.quiets)
          ∙ sym (append_assoc (replicate old.quiets answers.Quiet) (turn.answer ∷ k.before) (replicate new.quiets answers.Quiet));
    }
taken_more old mid new turn more said answers.Quiet e g idle next =
    let held : mid.held ≡ old.held = ap (λ (s : Stage). s.held) g.after in
    let k = next (subst (λ (b : Bytes). op_at b ≡ Partial) (sym held) idle) in
    let bytes = bytes_of (answers_in more) in
    let same : piece_of turn.answer ≡ [] = ap piece_of e in
    let split : Fronts (old.held ++ bytes) (ops_in more) new.held = subst (λ (b : Bytes). Fronts (b ++ bytes) (ops_in more) new.held) held k.fronts in
    let grown : mid.quiets ≡ old.quiets + 1 = ap (λ (s : Stage). s.quiets) g.after in
    let pushed : replicate mid.quiets answers.Quiet ++ answers_in more ≡ replicate old.quiets answers.Quiet ++ answers.Quiet ∷ answers_in more =
    ap (λ (n : ℕ). replicate n answers.Quiet ++ answers_in more) grown
    ∙ ap (λ (xs : List Answer). xs ++ answers_in more) (sym (replicate_more old.quiets answers.Quiet))
    ∙ append_assoc (replicate old.quiets answers.Quiet) (answers.Quiet ∷ []) (answers_in more)
    in record {
      fronts = subst (λ (ops : List Op). Fronts (old.held ++ (piece_of turn.answer ++ bytes)) ops new.held)
          (sym (ops-append turn.spoken (flat_map turn_spoken more) ∙ ap (λ (ops : List Op). ops ++ ops_in more) (ap ops_of g.acts)))
          (subst (λ (b : Bytes). Fronts (old.held ++ (b ++ bytes)) (ops_in more) new.held) (sym same) split);
      idle = k.idle;
      taken = omega (arith, k.taken, ap (λ (s : Stage). s.taken) g.after, ap (λ (b : Bytes). length b) same, length-append (piece_of turn.answer) bytes);
      before = k.before;
      quiets = ap (λ (answer : Answer). replicate old.quiets answers.Quiet ++ answer ∷ answers_in more) e ∙ sym pushed ∙ k.quiets;
    }
taken_more old mid new turn more said answers.Ended e g idle next = absurd g
taken_more old mid new turn more said answers.Failed e g idle next = absurd g

pub taken : (limits : Limits) (old new : Stage) (turns : List Turn) (said : Bytes) → AreTurns limits old turns new said → op_at old.held ≡ Partial → Taken old turns new
taken limits old new [] said h idle = subst (λ (s : Stage). Taken old [] s) h.0 (taken_none old idle)
taken limits old new (turn ∷ more) said h idle =
    taken_more old h.0 new turn more h.1 turn.answer refl h.3.goes idle (λ k. taken limits h.0 new more h.2 h.4 k)
