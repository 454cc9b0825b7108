-- Laws of a desk that was just opened, in which a stream was made.
use Rattle.std.proofs.Common.{◌≡◌, ℕ, List, [], Option, Some, None, Result, Ok, refl, sym, subst}
use Rattle.js_base.specs.Bytes.{Bytes}
use Rattle.js_base.specs.declared.out.ApiError.{ApiError}
use Rattle.link_edge.specs.Moments.{ReadsMoment}
use Rattle.stream_config.specs.Defaults.{default_config}
use Rattle.js_api.specs.declared.fault.DeskFault.{DeskFault}
use Rattle.js_api.specs.Entries.{DeskEntry}
use Rattle.js_api.specs.Leading.{Leads, Makes}
use Rattle.js_api.specs.Making.{MakesStream}
use Rattle.js_api.specs.Worlds.{Scene, SoloStep, opening}
use Rattle.js_desk.specs.Solo.{Solo}
use Rattle.server.specs.declared.words.NamedStream.{NamedStream}
use Rattle.server.specs.Attending.{IsPrepared}

module _ {V : Type 0} (Made : Solo V → List DeskEntry → Solo V → Type 0) where
  -- its entries led on from the opening
  pub made_so : (leads : (a b : Solo V) (entries : List DeskEntry) → Made a entries b → Leads SoloStep a.scene entries b.scene)
      → (found : Option NamedStream) (stream : NamedStream) (subject : Bytes) (moment : ℕ) (result : Result (Option ApiError) DeskFault) (c0 c1 : Option (List ℕ)) (old after : Solo V)
      → found ≡ Some stream → old.scene ≡ opening old.scene.world.places → subject ≡ stream.subject → ReadsMoment c0 moment c1
      → Makes Made (MakesStream stream.name (default_config stream.name subject) moment result) old after
      → IsPrepared Made old after found result c0 c1
  made_so leads found stream subject moment result c0 c1 old after is o s r m = subst (λ (f : Option NamedStream). IsPrepared Made old after f result c0 c1) (sym is) (record {
    prepares = record {
      moment = moment;
      entries = m.entries;
      read = (r.first, r.rest);
      makes = subst (λ (b : Bytes). MakesStream stream.name (default_config stream.name b) moment result m.entries) s m.are;
      led = subst (λ (a : Scene). Leads SoloStep a m.entries after.scene) o (leads old after m.entries m.led);
    };
    made = m.led;
  })

  -- none was to be made
  pub unmade : (none : (desk : Solo V) → Made desk [] desk) (found : Option NamedStream) (c : Option (List ℕ)) (desk : Solo V) → found ≡ None → desk.scene ≡ opening desk.scene.world.places
      → IsPrepared Made desk desk found (Ok None) c c
  unmade none found c desk is o = subst (λ (f : Option NamedStream). IsPrepared Made desk desk f (Ok None) c c) (sym is) (record { prepares = (refl, o, refl); made = none desk })
