-- What the laws say of each part of a run that begins with a sound state holds in each talk of a desk.
use Rattle.std.proofs.Common.{ℕ, Bool, List, [], ◌∷◌, length, sym, subst}
use Rattle.js_base.specs.declared.out.Out.{Out}
use Rattle.js_model.specs.declared.stream.State.{State}
use Rattle.js_model.specs.declared.event.Event.{Event}
use Rattle.js_model.specs.declared.reply.Reply.{Reply}
use Rattle.js_model.specs.declared.entry.PlaceEntry.{PlaceEntry}
use Rattle.js_model.specs.declared.entry.PlaceEntry.TheVariants.{Step}
use Rattle.js_model.specs.Runs.{RunFrom, IsStep, messages_of, total_of}
use Rattle.model_laws.specs.Sound.{IsSound}
use Rattle.model_laws.specs.Laws.{LawSound}
use Rattle.js_api.specs.Machines.{LawRuns, steps_at}
use Rattle.talk_laws.specs.Parts.{Part, count_before, IsStepOf, IsStepBefore, IsStepAfter}
use Rattle.talk_laws.specs.Talks.{InEachTalk}
use Rattle.talk_laws.proofs.Cutting.{halves, cut_at}

pub in_each_talk : (Holds : Part → Type 0) → LawRuns → ((p : Part) → IsSound p.first → Holds p) → InEachTalk Holds
in_each_talk Holds runs each old new entries led place before there sound =
    let at = (runs old new entries led).places place before there in
    let run = at.run sound.counted in
    record {
      after = at.after;
      is_there = at.is_there;
      each = record {
        cut = λ earlier part later split. cut_at before.state (steps_at place entries) earlier part later at.after.state run split;
        holds = λ p of. each p (subst IsSound (sym of.first_is) sound.sound);
      };
    }

-- ---- soundness

pub sound_before : LawSound → (p : Part) → IsSound p.first → IsSound p.old
sound_before law p sound = law (length (messages_of p.first)) p.first p.old p.earlier sound p.before

pub sound_after : LawSound → (p : Part) → IsSound p.first → IsSound p.new
sound_after law p sound = law (count_before p) p.old p.new p.entries (sound_before law p sound) p.during

-- ---- the steps

one_step : (count : ℕ) (old : State) (seat : ℕ) (e : Event) (now : ℕ) (reply : Reply) (outs : List Out) (unsaid : Bool) (new : State)
    → RunFrom count old (Step seat e now reply outs unsaid ∷ []) new → IsStep count old e now reply outs new
one_step count old seat e now reply outs unsaid new (mid, step, same) = subst (λ (s : State). IsStep count old e now reply outs s) same step

pub step_of : (p : Part) (e : Event) (now : ℕ) (reply : Reply) (outs : List Out) → IsStepOf p e now reply outs → IsStep (count_before p) p.old e now reply outs p.new
step_of p e now reply outs is =
    one_step (count_before p) p.old is.seat e now reply outs is.unsaid p.new (subst (λ (l : List PlaceEntry). RunFrom (count_before p) p.old l p.new) is.only p.during)

-- a step, from a sound state
pub record SoundStep (e : Event) (now : ℕ) (reply : Reply) (outs : List Out) (new : State) : Type 0 where
  pub count : ℕ
  pub old : State
  pub sound : IsSound old
  pub step : IsStep count old e now reply outs new

pub step_before : LawSound → (p : Part) → IsSound p.first → (e : Event) (now : ℕ) (reply : Reply) (outs : List Out) → IsStepBefore p e now reply outs → SoundStep e now reply outs p.old
step_before law p sound e now reply outs is =
    let count : ℕ = length (messages_of p.first) in
    let run = subst (λ (l : List PlaceEntry). RunFrom count p.first l p.old) is.last p.before in
    let h = halves count p.first is.more (Step is.seat e now reply outs is.unsaid ∷ []) p.old run in
    let then : ℕ = total_of count p.first is.more h.mid h.before in
    record {
      count = then;
      old = h.mid;
      sound = law count p.first h.mid is.more sound h.before;
      step = one_step then h.mid is.seat e now reply outs is.unsaid p.old h.after;
    }

-- a step to some state
pub record StepFrom (old : State) (e : Event) (now : ℕ) (reply : Reply) (outs : List Out) : Type 0 where
  pub count : ℕ
  pub new : State
  pub step : IsStep count old e now reply outs new

pub step_after : (p : Part) (e : Event) (now : ℕ) (reply : Reply) (outs : List Out) → IsStepAfter p e now reply outs → StepFrom p.new e now reply outs
step_after p e now reply outs is =
    let count : ℕ = total_of (count_before p) p.old p.entries p.new p.during in
    let run = subst (λ (l : List PlaceEntry). RunFrom count p.new l p.last) is.first p.after in
    record { count = count; new = run.0; step = run.1 }
