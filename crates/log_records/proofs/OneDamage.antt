-- The first wrong record of a batch is one.
use Rattle.std.proofs.Common.{◌≡◌, inl, inr, ℕ, ◌+◌, ◌<◌, List, [], ◌∷◌, Option, Some, None, Ok, Err, length, refl, sym, ap, ◌∙◌, subst, arith}
use Rattle.js_base.specs.Bytes.{Bytes}
use Rattle.op_records.specs.declared.record.Record.{Record}
use Rattle.op_records.specs.Reading.{Stand, record_at}
use Rattle.op_records.specs.declared.fault.RecordFault.{RecordFault}
use Rattle.op_records.specs.declared.fault.RecordFault.TheVariants.{Cut, BadKind, BadField, NoMemory as OutOfMemory}
use Rattle.op_records.proofs.Steps.{value_is, place_is}
use Rattle.log_records.specs.Logged.{Logged, fold_record, fold_records}
use Rattle.log_records.specs.Misfits.{misfit_of}
use Rattle.log_records.specs.Damage.{IsAt, IsFolded, IsLast, HasBadRecord}
use Rattle.log_records.proofs.Logging.{no_records}
use Rattle.log_records.proofs.NoDamage.{no_record}

-- what is wrong at a place: no record, one that does not fit, or the last one
data Wrong (bytes : Bytes) (here : ℕ) (mid : Logged) (at : ℕ) : Type 0 where
  misread : here < length bytes → (fault : RecordFault) → record_at bytes here ≡ Err fault → IsAt fault at → Wrong bytes here mid at
  misfitting : (found : Record) (behind : ℕ) → record_at bytes here ≡ Ok (found, behind) → fold_record mid found ≡ None → at ≡ here + misfit_of mid found → Wrong bytes here mid at
  ending : (found : Record) (new : Logged) → record_at bytes here ≡ Ok (found, length bytes) → fold_record mid found ≡ Some new → at ≡ here → Wrong bytes here mid at

record Stops (old : Logged) (bytes : Bytes) (at : ℕ) : Type 0 where
  here : ℕ
  mid : Logged
  so_far : IsFolded old bytes here mid
  wrong : Wrong bytes here mid at

stops : (old : Logged) (bytes : Bytes) (at : ℕ) → HasBadRecord old bytes at → Stops old bytes at
stops old bytes at (inl m) = record { here = m.here; mid = m.mid; so_far = m.so_far; wrong = misread m.more m.fault m.wrong m.place }
stops old bytes at (inr (inl m)) = record { here = m.here; mid = m.mid; so_far = m.so_far; wrong = misfitting m.next m.behind m.reads m.unfit m.place }
stops old bytes at (inr (inr u)) = record { here = at; mid = u.last.mid; so_far = u.last.so_far; wrong = ending u.last.next u.new u.last.reads u.last.fits refl }

-- nothing is wrong behind the end
not_at_end : (bytes : Bytes) (here : ℕ) (mid : Logged) (at : ℕ) → here ≡ length bytes → Wrong bytes here mid at → ⊥
not_at_end bytes here mid at e (misread more fault wrong place) = absurd (omega (arith, more, e))
not_at_end bytes here mid at e (misfitting found behind reads unfit place) = no_record bytes here found behind e reads
not_at_end bytes here mid at e (ending found new reads fits place) = no_record bytes here found (length bytes) e reads

-- no record that fits stands where one is wrong, but a last one
not_before : (bytes : Bytes) (here : ℕ) (mid : Logged) (at : ℕ) → Wrong bytes here mid at → (f : Record) (rest : List Record) (there : ℕ) (end : Logged) (other : ℕ)
    → Stand bytes here (f ∷ rest) there → fold_records (f ∷ rest) (Some mid) ≡ Some end → Wrong bytes there end other → ⊥
not_before bytes here mid at (misread more fault wrong place) f rest there end other (behind, reads, stand) folded next = absurd (cc)
not_before bytes here mid at (misfitting found behind reads unfit place) f rest there end other (b, others, stand) folded next =
    let first = value_is f b found behind (sym others ∙ reads) in
    let none : fold_records rest (fold_record mid f) ≡ None = ap (λ (e : Record). fold_records rest (fold_record mid e)) first ∙ ap (fold_records rest) unfit ∙ no_records rest in
    absurd (cc)
not_before bytes here mid at (ending found new reads fits place) f [] there end other (b, others, stand) folded next =
    let behind = place_is f b found (length bytes) (sym others ∙ reads) in
    not_at_end bytes there end other (sym stand ∙ behind) next
not_before bytes here mid at (ending found new reads fits place) f (g ∷ rest) there end other (b, others, (c, more, stand)) folded next =
    let behind = place_is f b found (length bytes) (sym others ∙ reads) in
    no_record bytes b g c behind more

pub same_place : (fault : RecordFault) (at other : ℕ) → IsAt fault at → IsAt fault other → at ≡ other
same_place (Cut place) at other h k = h ∙ sym k
same_place (BadKind place) at other h k = h ∙ sym k
same_place (BadField place) at other h k = h ∙ sym k
same_place OutOfMemory at other h k = absurd h

same_wrong : (bytes : Bytes) (here : ℕ) (mid : Logged) (at other : ℕ) → Wrong bytes here mid at → Wrong bytes here mid other → at ≡ other
same_wrong bytes here mid at other (misread more fault wrong place) (misread less fail bad there) =
    let same : Err fault ≡ Err fail = sym wrong ∙ bad in
    let one : fault ≡ fail = cc in
    same_place fail at other (subst (λ (f : RecordFault). IsAt f at) one place) there
same_wrong bytes here mid at other (misread more fault wrong place) (misfitting found behind reads unfit there) = absurd (cc)
same_wrong bytes here mid at other (misread more fault wrong place) (ending found new reads fits there) = absurd (cc)
same_wrong bytes here mid at other (misfitting found behind reads unfit place) (misread less fail bad there) = absurd (cc)
same_wrong bytes here mid at other (misfitting found behind reads unfit place) (misfitting e b others none there) =
    let one = value_is found behind e b (sym reads ∙ others) in
    place ∙ ap (λ (f : Record). here + misfit_of mid f) one ∙ sym there
same_wrong bytes here mid at other (misfitting found behind reads unfit place) (ending e new others fits there) =
    let same = value_is found behind e (length bytes) (sym reads ∙ others) in absurd (cc)
same_wrong bytes here mid at other (ending found new reads fits place) (misread less fail bad there) = absurd (cc)
same_wrong bytes here mid at other (ending found new reads fits place) (misfitting e b others none there) =
    let same = value_is found (length bytes) e b (sym reads ∙ others) in absurd (cc)
same_wrong bytes here mid at other (ending found new reads fits place) (ending e newer others fit there) = place ∙ sym there

-- two readings of the same bytes stop at one place
same_stop : (bytes : Bytes) (from here there : ℕ) (old mid end : Logged) (es fs : List Record) (at other : ℕ)
    → Stand bytes from es here → Stand bytes from fs there → fold_records es (Some old) ≡ Some mid → fold_records fs (Some old) ≡ Some end
    → Wrong bytes here mid at → Wrong bytes there end other → at ≡ other
same_stop bytes from here there old mid end [] [] at other h k folded goes w v =
    let one : old ≡ mid = cc in
    let two : old ≡ end = cc in
    same_wrong bytes from old at other
    (subst (λ (d : Logged). Wrong bytes from d at) (sym one) (subst (λ (n : ℕ). Wrong bytes n mid at) (sym h) w))
    (subst (λ (d : Logged). Wrong bytes from d other) (sym two) (subst (λ (n : ℕ). Wrong bytes n end other) (sym k) v))
same_stop bytes from here there old mid end [] (f ∷ fs) at other h k folded goes w v =
    let one : old ≡ mid = cc in
    absurd (not_before bytes from old at (subst (λ (d : Logged). Wrong bytes from d at) (sym one) (subst (λ (n : ℕ). Wrong bytes n mid at) (sym h) w)) f fs there end other k goes v)
same_stop bytes from here there old mid end (e ∷ es) [] at other h k folded goes w v =
    let two : old ≡ end = cc in
    absurd (not_before bytes from old other (subst (λ (d : Logged). Wrong bytes from d other) (sym two) (subst (λ (n : ℕ). Wrong bytes n end other) (sym k) v)) e es here mid at h folded w)
same_stop bytes from here there old mid end (e ∷ es) (f ∷ fs) at other (b, reads, h) (c, others, k) folded goes w v =
    let first = value_is e b f c (sym reads ∙ others) in
    let place = place_is e b f c (sym reads ∙ others) in
    go (fold_record old f) (ap (λ (x : Record). fold_records es (fold_record old x)) (sym first) ∙ folded) goes
    (λ d p r. same_stop bytes c here there d mid end es fs at other (subst (λ (n : ℕ). Stand bytes n es here) place h) k p r w v)
  where
    go : (d : Option Logged) → fold_records es d ≡ Some mid → fold_records fs d ≡ Some end
        → ((next : Logged) → fold_records es (Some next) ≡ Some mid → fold_records fs (Some next) ≡ Some end → at ≡ other) → at ≡ other
    go None p r on = let none = no_records es in absurd (cc)
    go (Some d) p r on = on d p r

pub one_bad_record : (old : Logged) (bytes : Bytes) (at other : ℕ) → HasBadRecord old bytes at → HasBadRecord old bytes other → at ≡ other
one_bad_record old bytes at other h k =
    let s = stops old bytes at h in
    let t = stops old bytes other k in
    same_stop bytes 0 s.here t.here old s.mid t.mid s.so_far.records t.so_far.records at other s.so_far.stand t.so_far.stand s.so_far.folded t.so_far.folded s.wrong t.wrong

-- the last record that fits is one
pub one_last : (old : Logged) (bytes : Bytes) (here there : ℕ) (new newer : Logged) → IsLast old bytes here new → IsLast old bytes there newer → here ≡ there
one_last old bytes here there new newer h k =
    same_stop bytes 0 here there old h.mid k.mid h.so_far.records k.so_far.records here there h.so_far.stand k.so_far.stand h.so_far.folded k.so_far.folded
    (ending h.next new h.reads h.fits refl) (ending k.next newer k.reads k.fits refl)
