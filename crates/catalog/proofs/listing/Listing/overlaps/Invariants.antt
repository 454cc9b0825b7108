use Rattle.std.proofs.Common.{◌≡◌, drop}
use Rattle.std.specs.List.{list_any}
use Rattle.catalog.specs.Entries.{meets_other}
use Rattle.catalog.proofs.listing.Listing.overlaps.Given as goal

-- those that are left decide
abbrev pub invariant-loop-subject : goal.invariant-loop-subject
invariant-loop-subject l = list_any (meets_other l.own l.self.index) (drop l.subject-index l.subjects) ≡ list_any (meets_other l.own l.self.index) l.subjects
