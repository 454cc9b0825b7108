use Rattle.std.proofs.Common.{IsUtf8, sym, subst}
use Rattle.std.specs.List.{All}
use Rattle.api_replies.specs.Printed.{InfoIsText, ConsumerIsText, IsText}
use Rattle.api_replies.proofs.printing.reply_object.Goals as goal

pub names_object-requires : goal.names_object-requires
names_object-requires c = record { utf8 = subst (All IsUtf8) (sym c.as_slice.ensures) (subst IsText c.in-StreamNames.is c.requires.texts) }

pub infos_object-requires : goal.infos_object-requires
infos_object-requires c = record { utf8 = subst (All InfoIsText) (sym c.as_slice-in-StreamList.ensures) (subst IsText c.in-StreamList.is c.requires.texts) }

pub names_object-requires-in-ConsumerNames : goal.names_object-requires-in-ConsumerNames
names_object-requires-in-ConsumerNames c =
    record { utf8 = subst (All IsUtf8) (sym c.as_slice-in-ConsumerNames.ensures) (subst IsText c.in-ConsumerNames.is c.requires.texts) }

pub consumers_object-requires : goal.consumers_object-requires
consumers_object-requires c = record { utf8 = subst (All ConsumerIsText) (sym c.as_slice-in-ConsumerList.ensures) (subst IsText c.in-ConsumerList.is c.requires.texts) }
