-- What the ground of the desk of one of many makes, the desk makes.
use Rattle.std.proofs.Common.{◌≡◌, ℕ, true, List, sym, ap, ◌∙◌}
use Rattle.js_api.specs.Entries.{DeskEntry}
use Rattle.js_api.specs.Leading.{Makes}
use Rattle.desk_ground.specs.declared.caller.Caller.{Caller}
use Rattle.desk_ground.specs.Grounds.{Outside, Setting}
use Rattle.hub_router.specs.Calls.{is_own}
use Rattle.shared_desk.specs.Desks.{HubDeskMade, IsConsistent, desk_of}
use Rattle.shared_desk.specs.Grounds.{HubMade, Standing, setting_of}

pub desk_made : (P : List DeskEntry → Type 0) (old new : Standing) (before after : Caller) → Makes HubMade P old new → Makes HubDeskMade P (desk_of old before) (desk_of new after)
desk_made P old new before after h = record { entries = h.entries; are = h.are; led = h.led }

-- a call that opens and closes no session, and ends outside of a turn, leaves the desk consistent
pub kept_consistent : (old new : Standing) (before after : Caller) → IsConsistent old before → setting_of new ≡ setting_of old → new.phase ≡ Outside → after.session ≡ before.session
    → after.is_open ≡ before.is_open → IsConsistent new after
kept_consistent old new before after k same outside session state = record {
  outside = outside;
  opened = λ yes. ap (λ (s : Setting). s.opened after.session) same ∙ (ap (λ (n : ℕ). is_own old.scene.fronts.router n) session ∙ k.opened (sym state ∙ yes));
}
