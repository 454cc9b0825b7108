use Rattle.std.proofs.Common.{◌≡◌, ◌++◌}
use Rattle.std.specs.VecDeque.Iter.{deque_iter_rest}
use Rattle.dedup_window.proofs.window.DedupWindow.to_list.Given as goal

-- what is listed and what is still to be are all
abbrev pub invariant-loop-id : goal.invariant-loop-id
invariant-loop-id l = l.listed ++ deque_iter_rest l.id-iterator ≡ l.self.ids
