-- The entries of a table, this server's own: in a search tree, with how many there are, how many were delivered again, and when the next one becomes due.
use Rattle.std.specs.Prelude.{◌≡◌, ℕ, ◌<◌, ◌^◌, nat_lt, Bool, length}
use Rattle.std.specs.List.{count_by, AllByRecursion}
use Rattle.js_model.specs.declared.consumer.Pending.{Pending}
use Rattle.pending_table.specs.declared.outlook.Outlook.{Outlook}
use Rattle.pending_table.specs.declared.tree.Tree.{Tree}
use Rattle.pending_table.specs.Quiet.{IsForeseen}
use Rattle.pending_table.specs.Trees.{entries, IsBounded, IsAscending}

-- delivered more than once
abbrev pub is_again : Pending → Bool
is_again p = nat_lt 1 p.count

pub record IsTable (tree : Tree) (len again : ℕ) (outlook : Outlook) : Type 0 where
  pub ascending : IsAscending (entries tree)
  pub bounded : IsBounded tree
  pub len_is : len ≡ length (entries tree)
  pub again_is : again ≡ count_by is_again (entries tree)
  pub foreseen : AllByRecursion (IsForeseen outlook) (entries tree)
  pub few : length (entries tree) < 2 ^ 32
