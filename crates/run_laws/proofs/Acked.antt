-- What was acknowledged for good, and what was confirmed, stays so in a whole run.
use Rattle.std.proofs.Common.{◌≡◌, Option, Some, subst}
use Rattle.js_model.specs.PlaceStates.{PlaceIn}
use Rattle.js_api.specs.Machines.{steps_at}
use Rattle.js_api.specs.Worlds.{opening}
use Rattle.talk_laws.specs.Parts.{Part, IsPartOf}
use Rattle.talk_laws.specs.Talks.{InEachTalk}
use Rattle.talk_laws.specs.Confirming.{StaysConfirmed, LawTalkConfirmed}
use Rattle.talk_laws.specs.TalkLaws.{LawTalkAcked, LawTalkEnds}
use Rattle.server.specs.Attending.{run_entries}
use Rattle.run_laws.specs.Laws.{StaysAcked, InEachRun, LawRunAcked, LawRunConfirmed}
use Rattle.run_laws.proofs.Runs.{run_led}

some_is : (a b : PlaceIn) (found : Option PlaceIn) → found ≡ Some a → found ≡ Some b → a ≡ b
some_is a b found h k = cc

-- what ends is never sent, in each talk
stays_acked : LawTalkEnds → LawTalkAcked → InEachTalk StaysAcked
stays_acked ends acked old new entries led place before there sound =
    let e = ends old new entries led place before there sound in
    let a = acked old new entries led place before there sound in
    let same : a.after ≡ e.after = some_is a.after e.after _ a.is_there e.is_there in
    record {
      after = a.after;
      is_there = a.is_there;
      each = record {
        cut = a.each.cut;
        holds = λ p of name n event now reply outs is stood to_end.
            a.each.holds p of name n event now reply outs is
            (e.each.holds p (subst (λ (x : PlaceIn). IsPartOf before.state (steps_at place entries) x.state p) same of) name n event now reply outs is stood to_end);
      };
    }

in_each_run : (Holds : Part → Type 0) → InEachTalk Holds → InEachRun Holds
in_each_run Holds talk opened stream after status old new attends place before there sound =
    talk (opening opened) after (run_entries opened stream after status old new attends) (run_led opened stream after status old new attends) place before there sound

pub law_run_acked : LawTalkEnds → LawTalkAcked → LawRunAcked
law_run_acked ends acked = in_each_run StaysAcked (stays_acked ends acked)

pub law_run_confirmed : LawTalkConfirmed → LawRunConfirmed
law_run_confirmed confirmed = in_each_run StaysConfirmed confirmed
