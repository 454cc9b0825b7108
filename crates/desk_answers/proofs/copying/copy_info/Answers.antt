use Rattle.std.proofs.Common.{ap}
use Rattle.js_model.specs.declared.stream_config.StreamConfig.{StreamConfig}
use Rattle.js_model.specs.declared.reply.StreamInfo.{StreamInfo}
use Rattle.desk_answers.proofs.copying.copy_info.Goals as goal

-- the information with this configuration
abbrev with_config : StreamInfo → StreamConfig → StreamInfo
with_config info config = record {
  config = config;
  made = info.made;
  messages = info.messages;
  bytes = info.bytes;
  first_seq = info.first_seq;
  first_at = info.first_at;
  last_seq = info.last_seq;
  last_at = info.last_at;
  consumers = info.consumers;
}

pub returns : goal.returns
returns c = record { copy = ap (with_config c.args.info.now) c.in_ok-copy_stream_config.ensures.copy }
