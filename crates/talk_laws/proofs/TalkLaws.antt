-- The laws of the machine hold in each talk of a desk.
use Rattle.std.proofs.Common.{ℕ, zero, suc, List, [], length, subst, arith}
use Rattle.std.proofs.lemmas.Option.{same_Some}
use Rattle.js_model.specs.declared.stream.State.{State}
use Rattle.js_model.specs.declared.entry.PlaceEntry.{PlaceEntry}
use Rattle.js_model.specs.declared.reply.Reply.TheVariants.{Published}
use Rattle.js_model.specs.PlaceStates.{PlaceIn, vacant_place}
use Rattle.js_model.specs.Runs.{RunFrom, IsStep, messages_of, total_of}
use Rattle.model_laws.specs.Sound.{IsSound}
use Rattle.model_laws.specs.Bounds.{IsBounded, IsWritable}
use Rattle.model_laws.specs.Laws.{LawSound, LawBounded, LawWritable, LawTick, LawAcked, LawEnds, LawStays, LawDuplicate, LawKept, LawOrder, LawStart, LawMade, LawRedelivery, LawLimits}
use Rattle.js_api.specs.Machines.{LawRuns}
use Rattle.talk_laws.specs.Parts.{Part, count_before}
use Rattle.talk_laws.specs.Talks.{IsSoundPlace}
use Rattle.talk_laws.specs.TalkLaws.{LawOpening, LawTalkSound, LawTalkBounded, LawTalkWritable, LawTalkTick, LawTalkAcked, LawTalkEnds, LawTalkStays, LawTalkDuplicate, LawTalkKept, LawTalkOrder, LawTalkStart, LawTalkMade, LawTalkRedelivery, LawTalkLimits}
use Rattle.talk_laws.proofs.EachPart.{in_each_talk, sound_before, sound_after, step_of, step_before, step_after}

-- ---- the opening

abbrev IsOpen : PlaceIn → Type 0
IsOpen place = IsSoundPlace place × IsBounded place.state × IsWritable place.state

vacant_open : IsOpen vacant_place
vacant_open = (record { sound = record { stored = tt; matched = tt }; counted = omega arith }, omega arith, tt)

pub law_opening : LawOpening
law_opening zero place before there = let no : ⊥ = cc in absurd no
law_opening (suc count) zero before there = subst IsOpen (same_Some vacant_place before there) vacant_open
law_opening (suc count) (suc place) before there = law_opening count place before there

-- ---- the laws

-- how many messages stood at first or were stored, after the part
abbrev pub count_after : Part → ℕ
count_after p = total_of (count_before p) p.old p.entries p.new p.during

pub law_talk_sound : LawRuns → LawSound → LawTalkSound
law_talk_sound runs sound = in_each_talk _ runs (λ p first. (sound_before sound p first, sound_after sound p first))

pub law_talk_bounded : LawRuns → LawSound → LawBounded → LawTalkBounded
law_talk_bounded runs sound bounded = in_each_talk _ runs (λ p first within.
    let old = bounded (length (messages_of p.first)) p.first p.old p.earlier first within p.before in
    (old, bounded (count_before p) p.old p.new p.entries (sound_before sound p first) old p.during))

pub law_talk_writable : LawRuns → LawWritable → LawTalkWritable
law_talk_writable runs writable = in_each_talk _ runs (λ p first can_be.
    let old = writable (length (messages_of p.first)) p.first p.old p.earlier can_be p.before in
    (old, writable (count_before p) p.old p.new p.entries old p.during))

pub law_talk_tick : LawRuns → LawSound → LawTick → LawTalkTick
law_talk_tick runs sound tick = in_each_talk _ runs (λ p first one other now reply again outs is is_tick then then_tick.
    let a = step_before sound p first one now reply [] is in
    tick a.count (count_before p) now a.old p.old p.new one other reply again outs a.step is_tick (step_of p other now again outs then) then_tick)

pub law_talk_acked : LawRuns → LawSound → LawAcked → LawTalkAcked
law_talk_acked runs sound acked = in_each_talk _ runs (λ p first name n e now reply outs is ended.
    acked name n (count_before p) (count_after p) p.old p.new p.last e now reply outs p.later
    (sound_before sound p first) (step_of p e now reply outs is) ended p.after)

pub law_talk_ends : LawRuns → LawSound → LawEnds → LawTalkEnds
law_talk_ends runs sound ends = in_each_talk _ runs (λ p first name n e now reply outs is stood to_end.
    ends name n (count_before p) p.old p.new e now reply outs (sound_before sound p first) (step_of p e now reply outs is) stood to_end)

pub law_talk_stays : LawRuns → LawSound → LawStays → LawTalkStays
law_talk_stays runs sound stays = in_each_talk _ runs (λ p first name n e now reply outs is stood to_stay stored.
    stays name n (count_before p) p.old p.new e now reply outs (sound_before sound p first) (step_of p e now reply outs is) stood to_stay stored)

pub law_talk_duplicate : LawRuns → LawSound → LawDuplicate → LawTalkDuplicate
law_talk_duplicate runs sound duplicate = in_each_talk _ runs (λ p first n one other now repeated reply outs others is kept then repeats.
    let a = step_before sound p first one now (Published n) outs is in
    let b = step_after p other repeated reply others then in
    duplicate n a.count (count_before p) b.count a.old p.old p.new b.new one other now repeated reply outs others p.entries
    a.sound a.step p.during kept b.step repeats)

pub law_talk_kept : LawRuns → LawKept → LawTalkKept
law_talk_kept runs kept = in_each_talk _ runs (λ p first entry m only was gone.
    kept (length (messages_of p.first)) (count_before p) p.first p.old p.new p.earlier entry m first p.before
    (subst (λ (l : List PlaceEntry). RunFrom (count_before p) p.old l p.new) only p.during) was gone)

pub law_talk_order : LawRuns → LawSound → LawOrder → LawTalkOrder
law_talk_order runs sound order = in_each_talk _ runs (λ p first name c found.
    order name (count_before p) p.old p.new p.entries c (sound_before sound p first) found p.during)

pub law_talk_start : LawRuns → LawSound → LawStart → LawTalkStart
law_talk_start runs sound start = in_each_talk _ runs (λ p first name config s e now reply outs live is makes.
    start name config (count_before p) (count_after p) s p.new p.last e now reply outs p.later
    (subst IsSound live (sound_before sound p first)) (subst (λ (a : State). IsStep (count_before p) a e now reply outs p.new) live (step_of p e now reply outs is)) makes p.after)

pub law_talk_made : LawRuns → LawSound → LawMade → LawTalkMade
law_talk_made runs sound made = in_each_talk _ runs (λ p first name c absent found.
    made name (count_before p) p.old p.new p.entries c (sound_before sound p first) absent found p.during)

pub law_talk_redelivery : LawRuns → LawSound → LawRedelivery → LawTalkRedelivery
law_talk_redelivery runs sound redelivery = in_each_talk _ runs (λ p first name n c found.
    redelivery name n (count_before p) p.old p.new p.entries c (sound_before sound p first) found p.during)

pub law_talk_limits : LawRuns → LawSound → LawLimits → LawTalkLimits
law_talk_limits runs sound limits = in_each_talk _ runs (λ p first.
    limits (count_before p) p.old p.new p.entries (sound_before sound p first) p.during)
