use Rattle.std.proofs.Common.{◌≡◌, false, sym, ◌∙◌, subst, codes, ap₂}
use Rattle.serde_json.specs.Data.{Members, put}
use Rattle.serde_json.specs.Written.{members_have_float}
use Rattle.js_json.specs.Building.{shown}
use Rattle.api_replies.specs.Replies.{kind, reply_name, reply_members}
use Rattle.api_replies.proofs.Whole.{reply_whole}
use Rattle.api_replies.proofs.printing.reply_text.Goals as goal

pub into_text-requires : goal.into_text-requires
into_text-requires c = record { whole = rw (c.in_ok-put_kind.ensures.ok, c.in_ok-made.ensures.members, c.reply_name.ensures.name) (reply_whole (reply_name c.args.reply.now) c.args.reply.now) }
