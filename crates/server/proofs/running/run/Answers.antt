use Rattle.std.proofs.Common.{◌∙◌, Err, Some, ap, refl, subst}
use Rattle.server.specs.Words.{texts, command_of, HasFewWorkers}
use Rattle.server.specs.Outside.{Prints}
use Rattle.server.specs.WrongWords.{wrong_in, wrong_line, wrong_of, Tells}
use Rattle.server.specs.declared.words.Command.{Command}
use Rattle.server.specs.declared.words.WordsFault.{WordsFault}
use Rattle.server.proofs.Commanded.{ends_kept, ends_starved, pipe_words, serve_words}
use Rattle.server.proofs.Worded.{named_subject}
use Rattle.server.proofs.running.run.Goals as goal

pub pipe-status-requires-clause-subject : goal.pipe-status-requires-clause-subject
pipe-status-requires-clause-subject g c = named_subject (texts c.args.words.now) _ _ (c.in-Ok-Pipe.ensures.command ∙ ap Some c.in-Ok-Pipe.field-0-is) refl

pub serve_hub-requires-clause-workers : goal.serve_hub-requires-clause-workers
serve_hub-requires-clause-workers g c = λ lifetimes live. subst HasFewWorkers c.in-Ok-Serve.field-0-is c.in-Ok-Serve.ensures.workers

pub returns-in-Ok-Pipe-clause-words : goal.returns-in-Ok-Pipe-clause-words
returns-in-Ok-Pipe-clause-words g c =
    pipe_words _ _ _ _ (command_of (texts c.args.words.now)) _ _ _ _ _ _ _ c.in-Ok-Pipe.ensures.command c.pipe-status.ensures.ends

pub returns-in-Ok-Pipe-clause-ends : goal.returns-in-Ok-Pipe-clause-ends
returns-in-Ok-Pipe-clause-ends g c =
    ends_kept _ _ _ _ _ _ _ _ _ (command_of (texts c.args.words.now)) _ (c.in-Ok-Pipe.ensures.command ∙ ap Some c.in-Ok-Pipe.field-0-is) _ _ _ _ _ (c.pipe-status.ensures.ends, refl)

pub returns-in-Ok-Serve-clause-words : goal.returns-in-Ok-Serve-clause-words
returns-in-Ok-Serve-clause-words g c =
    serve_words _ _ _ (command_of (texts c.args.words.now)) _ _ _ _ _ _ _ _ _ c.in-Ok-Serve.ensures.command c.serve_hub.ensures.ends

pub returns-in-Ok-Serve-clause-ends : goal.returns-in-Ok-Serve-clause-ends
returns-in-Ok-Serve-clause-ends g c =
    ends_kept _ _ _ _ _ _ _ _ _ (command_of (texts c.args.words.now)) _ (c.in-Ok-Serve.ensures.command ∙ ap Some c.in-Ok-Serve.field-0-is) _ _ _ _ _ c.serve_hub.ensures.ends

pub returns-in-Err-NoMemory-clause-ends : goal.returns-in-Err-NoMemory-clause-ends
returns-in-Err-NoMemory-clause-ends g c = ends_starved _ _ _ _ _ _ _ _ (command_of (texts c.args.words.now)) _ _

pub returns-in-Err-Wrong-clause-refused : goal.returns-in-Err-Wrong-clause-refused
returns-in-Err-Wrong-clause-refused g c = λ none.
    let told = subst (λ (fault : WordsFault). Tells {T = Command} (Err fault) (wrong_of (texts c.args.words.now))) c.in-Err-Wrong.field-0-is c.in-Err-Wrong.ensures.wrong in
    let printed : Prints (wrong_line (wrong_in c.in-Err-Wrong.wrong)) (record { written = g.O.Sink.written c.args.out.now; faults = g.O.Sink.faults c.args.out.now })
    (record { written = g.O.Sink.written c.print_wrong.new.out; faults = g.O.Sink.faults c.print_wrong.new.out }) = rw (← c.in-Err-Wrong.wrong-is) c.print_wrong.ensures.printed in
    (wrong_in c.in-Err-Wrong.wrong, told, refl, refl, refl, refl, printed)
