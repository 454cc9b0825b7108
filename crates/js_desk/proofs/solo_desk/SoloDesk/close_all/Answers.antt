use Rattle.std.proofs.Common.{ap, ◌∙◌}
use Rattle.js_desk.proofs.solo_desk.SoloDesk.close_all.Goals as goal

pub returns : goal.returns
returns g c = record {
  closes = record {
    row = c.into_places.result.items;
    stand = c.into_places.ensures.places ∙ ap (λ s. s.scene.world.places) c.self.view_is;
    before = c.into_places.ensures.vols ∙ ap (λ s. s.vols) c.self.view_is;
    closes = c.close_places-failed.ensures.closed;
  };
}
