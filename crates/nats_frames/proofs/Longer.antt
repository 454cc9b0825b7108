-- The parts of a line are at the same places in longer bytes.
use Rattle.std.proofs.Common.{ℕ, ◌≡◌, ◌-◌, ◌≤◌, ◌++◌, take, drop, refl, sym, ◌∙◌, ap, ap₂, subst, arith, Option, Some, None, IfSome, option_map, length-append, append_assoc}
use Rattle.std.proofs.lemmas.List.{take-append-drop, take-append-le, drop-append-le, take-take, length-drop}
use Rattle.js_base.specs.Bytes.{Bytes}
use Rattle.nats_frames.specs.declared.field.Span.{Span}
use Rattle.nats_frames.specs.declared.line.Line.{Line as Lent}
use Rattle.nats_frames.specs.declared.line.Line.TheVariants.{Connect, Pub, HPub, Sub, Unsub, Ping, Pong}
use Rattle.nats_frames.specs.Fields.{part, IsWithin}
use Rattle.nats_frames.specs.Grammar.{ConnectLine, PubLine, HPubLine, SubLine, UnsubLine}
use Rattle.nats_frames.specs.Shapes.{seen, Stands}

pub part_longer : (words more : Bytes) (at : Span) → IsWithin words at → IsWithin (words ++ more) at × (part (words ++ more) at ≡ part words at)
part_longer words more at h =
    let size = at.end - at.start in (
      (h.0, omega (arith, h.1, length-append words more)),
      ap (take size) (drop-append-le at.start words more (omega (arith, h.0, h.1)))
          ∙ take-append-le size (drop at.start words) more (omega (arith, h.0, h.1, length-drop at.start words)),
    )

some_longer : (words more : Bytes) (at : Option Span) → IfSome at (IsWithin words) →
    IfSome at (IsWithin (words ++ more)) × (option_map (part (words ++ more)) at ≡ option_map (part words) at)
some_longer words more None h = (tt, refl)
some_longer words more (Some at) h = let p = part_longer words more at h in (p.0, ap Some p.1)

-- what a line says is what it says in longer bytes
pub seen_longer : (words more : Bytes) (line : Lent) → Stands words line → Stands (words ++ more) line × (seen (words ++ more) line ≡ seen words line)
seen_longer words more (Connect text) h = let t = part_longer words more text h in (t.0, ap ConnectLine t.1)
seen_longer words more (Pub subject reply size) h =
    let s = part_longer words more subject h.0 in
    let r = some_longer words more reply h.1 in
    ((s.0, r.0), ap₂ (λ (a : Bytes) (b : Option Bytes). PubLine a b size) s.1 r.1)
seen_longer words more (HPub subject reply header size) h =
    let s = part_longer words more subject h.0 in
    let r = some_longer words more reply h.1 in
    ((s.0, r.0, h.2), ap₂ (λ (a : Bytes) (b : Option Bytes). HPubLine a b header size) s.1 r.1)
seen_longer words more (Sub subject queue sid) h =
    let s = part_longer words more subject h.0 in
    let q = some_longer words more queue h.1 in
    let i = part_longer words more sid h.2 in
    ((s.0, q.0, i.0), ap₂ (λ (a : Bytes) (b : Option Bytes). SubLine a b (part (words ++ more) sid)) s.1 q.1 ∙ ap (SubLine (part words subject) (option_map (part words) queue)) i.1)
seen_longer words more (Unsub sid max) h = let i = part_longer words more sid h in (i.0, ap (λ (a : Bytes). UnsubLine a max) i.1)
seen_longer words more Ping h = (tt, refl)
seen_longer words more Pong h = (tt, refl)

-- a line is in bytes as it is in its text
pub record StandsSo (bytes words : Bytes) (line : Lent) : Type 0 where
  pub stands : Stands bytes line
  pub same : seen bytes line ≡ seen words line

-- in the bytes of an operation whose line begins with this text
pub stands_within : (bytes words cr : Bytes) (end len : ℕ) (line : Lent) → take end bytes ≡ words ++ cr → end ≤ len → Stands words line → StandsSo (take len bytes) words line
stands_within bytes words cr end len line apart le h =
    let all = take len bytes in
    let is : words ++ (cr ++ drop end all) ≡ all =
    sym (append_assoc words cr (drop end all)) ∙ ap (λ t. t ++ drop end all) (sym apart ∙ sym (take-take end len bytes le)) ∙ take-append-drop end all in
    let longer = seen_longer words (cr ++ drop end all) line h in
    record { stands = subst (λ (b : Bytes). Stands b line) is longer.0; same = ap (λ b. seen b line) (sym is) ∙ longer.1 }
