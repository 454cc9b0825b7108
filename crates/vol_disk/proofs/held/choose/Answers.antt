use Rattle.std.proofs.Common.{rules, ℕ, List, ◌≡◌, ◌∷◌, ◌++◌, [], map, ap, sym, subst, refl, ◌∙◌}
use Rattle.std.specs.Map.Iter.{deref_pair}
use Rattle.std.proofs.lemmas.List.{map-append}
use Rattle.std.proofs.lemmas.Map.Iter.{iter_end}
use Rattle.vol_disk.specs.Held.{ArePicked}
use Rattle.vol_disk.proofs.Replays.{picked_more, picked_by}
use Rattle.vol_disk.proofs.held.choose.Goals as goal

pub loop-number-preserved : goal.loop-number-preserved
loop-number-preserved c =
    let pick = c.args.pick in
    let number = c.in-Some.number.now in
    let file = c.in-Some.file.now in
    let start = c.loop-number.start in
    let bytes = c.in_ok-bytes.bytes.items in
    let picked = picked_by pick c.pick_of_file-pick.result file bytes c.pick_of_file-pick.ensures.fixed c.in_ok-bytes.ensures.picked in
    let more = picked_more pick (map deref_pair c.loop-number.yielded) start (number, file) (number, bytes) c.loop-number.invariant refl picked in
    let kept = c.in_ok-push.ensures.ok ∙ ap (λ (b : List ℕ). start ++ (number, b) ∷ []) c.from_vec.ensures in
    subst (λ fs. ArePicked pick fs c.push.new.self) (sym (map-append deref_pair c.loop-number.yielded ((c.in-Some.number, c.in-Some.file) ∷ [])))
    (subst (ArePicked pick (map deref_pair c.loop-number.yielded ++ (number, file) ∷ [])) (sym kept) more)

pub returns : goal.returns
returns c =
    let all : map deref_pair c.loop-number.yielded ≡ c.args.files.now.entries = search (rules, iter_end) in
    record { picked = subst (λ fs. ArePicked c.args.pick fs c.loop-number.start) all c.loop-number.invariant }
