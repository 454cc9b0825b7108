use Rattle.workers.proofs.serving.serve_all.Given as goal

abbrev pub ghosts-serve_over-B-Beginning : goal.ghosts-serve_over-B-Beginning
ghosts-serve_over-B-Beginning g a = record {
  begun = record { answered = g.R.Door.answered a.door; gave = g.R.Door.gave a.door; back = g.R.Door.back a.door; faults = g.R.Door.faults a.door };
  limits = a.place.now.limits.now;
  accepts = a.accepts;
}

abbrev pub ghosts-serve_over-B-Ledger : goal.ghosts-serve_over-B-Ledger
ghosts-serve_over-B-Ledger g a = record { name = a.blank.name; parts = a.blank.parts }
