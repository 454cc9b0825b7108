use Rattle.std.proofs.Common.{sym}
use Rattle.server.specs.Settings.{settings_of}
use Rattle.server.specs.Words.{texts}
use Rattle.server.specs.WrongWords.{wrong_in}
use Rattle.server.proofs.Mistaken.{no_command}
use Rattle.server.proofs.words.asked_by.Goals as goal

pub returns-in-Some-wrong_setting-clause-command : goal.returns-in-Some-wrong_setting-clause-command
returns-in-Some-wrong_setting-clause-command c =
    no_command c.args.word.now (settings_of (texts c.args.settings.now)) c.in-Some.verb (wrong_in c.in-Some-wrong_setting.wrong) (sym c.in-Some.ensures.value) (sym c.in-Some-wrong_setting.ensures.value)
