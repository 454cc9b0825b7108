use Rattle.std.proofs.Common.{sym, ap, ◌∙◌}
use Rattle.std.specs.Prelude.{find, nat_le, option_map}
use Rattle.js_model.specs.declared.stream.Message.{Message}
use Rattle.stream_view.specs.Heads.{head_of}
use Rattle.stored_stream.proofs.Latest.{find_seen}
use Rattle.stored_stream.proofs.later.LaterStreamView.at_or_after.Goals as goal

pub returns : goal.returns
returns c =
    let i = c.self.inside in
    record {
      value = rw (← c.self.view_is)
          (c.at_or_after.ensures.value
          ∙ ap (λ k. option_map head_of (find (λ (m : Message). nat_le k m.seq) i.stored.now.messages)) c.max.ensures
          ∙ ap (option_map head_of) (sym (find_seen i.stored.now i.now i.first c.args.seq c.self.invariant)));
    }
