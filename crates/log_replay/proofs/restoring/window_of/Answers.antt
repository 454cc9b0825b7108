use Rattle.std.proofs.Common.{◌≡◌, ◌+◌, ◌<◌, ◌^◌, ◌∷◌, [], ◌++◌, List, None, take, drop, length, sym, ap, subst, ◌∙◌, arith}
use Rattle.std.proofs.lemmas.List.{take_all}
use Rattle.js_model.specs.declared.stream.Id.{Id}
use Rattle.model_laws.specs.Sound.{AreDifferent}
use Rattle.dedup_window.specs.Window.{Window, id_of, IsLatest}
use Rattle.effects.specs.Restorable.{Rises}
use Rattle.log_replay.proofs.Restored.{absent_before, few_before, front_more, latest_before, list_at}
use Rattle.log_replay.proofs.restoring.window_of.Goals as goal

pub add-requires : goal.add-requires
add-requires c =
    let ids = c.args.ids.now in
    let i = c.loop-known.known-index in
    let x = c.known-item.result in
    let so_far : c.loop-known.made.ids ≡ take i ids = ap (λ (w : Window). w.ids) c.loop-known.invariant in
    let is : ids ≡ take i ids ++ x ∷ drop (i + 1) ids = list_at ids i x c.loop-known-test.true c.known-item.is in
    let few : length (take i ids) < 2 ^ 20 = few_before (2 ^ 20) (take i ids) x (drop (i + 1) ids) ids (sym is) c.requires.few in
    record {
      absent = subst (λ (l : List Id). id_of l x.id ≡ None) (sym so_far) (absent_before (take i ids) x (drop (i + 1) ids) (subst AreDifferent is c.requires.apart));
      latest = subst (λ (l : List Id). IsLatest x.at l) (sym so_far) (latest_before 0 c.requires.rise.0 (take i ids) x (drop (i + 1) ids) (subst (λ (l : List Id). Rises (λ i. i.at) 0 c.requires.rise.0 l) is c.requires.rise.1));
      room = let long = ap length so_far in omega (arith, few, long);
    }

pub loop-known-preserved : goal.loop-known-preserved
loop-known-preserved c =
    let ids = c.args.ids.now in
    let i = c.loop-known.known-index in
    let x = c.known-item.result in
    c.in_ok-add.ensures.added ∙ ap (λ (w : Window). record w { ids = w.ids ++ x ∷ [] }) c.loop-known.invariant
    ∙ ap (λ (l : List Id). record { window = c.args.window; ids = l }) (front_more ids i x c.loop-known-test.true c.known-item.is)

pub returns : goal.returns
returns c = record {
  value = c.loop-known.invariant ∙ ap (λ (l : List Id). record { window = c.args.window; ids = l }) (take_all c.loop-known.known-index c.args.ids.now c.loop-known-test.false);
}
