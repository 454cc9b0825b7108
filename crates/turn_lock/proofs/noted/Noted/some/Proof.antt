-- A note is the thing of which the caller says that it is there.
use Rattle.atomic_table.proofs.Names.{[], ◌∷◌, refl, a_type, dcons, dnil, named, Val, vptr, vstruct, vnil, inst_fn, SProp, emp, ‵, raw, ◌⊛◌, ◌$◌, ◌∵◌, !, qed, by, keep, split, fjoin, use0, no_more, and_then, returns, enter, alloc_all, pass_all, free_all, look_at, get, sets, agg, tables, yes, RattleType, owns, types_at, plain, nothing, param, bounded, alive, Stays, stay_dropped, walk_of, Goes-dropped, fact, fact_i, RefOf, shr_vals, shr_Tells, makes_shadow}
use Rattle.atomic_table.proofs.Walks.{proved, leaves}
use Rattle.atomic_table.proofs.Fields.{token_val}
use denote.Steps.{heard}
use types.Kit.{move}
use contract.BorrowLft.{◌⊑◌}
use contract.Lifetimes.{Within, lft_at}
use Rattle.std.proofs.Common.{ℕ}
use denote.Struct.Struct.{Struct}
use denote.Struct.Owning.{shape}
use Rattle.turn_lock.specs.contracts.noted.Noted as noted
use Rattle.turn_lock.specs.contracts.noted.Noted.some.{ended, clauses}
use Rattle.turn_lock.specs.contracts.noted.Noted.some.Key.{name as #self}
use Rattle.turn_lock.proofs.noted.Noted.some.Statement.{statement}
use Rattle.turn_lock.proofs.noted.Noted.some.Code as code

pub some_spec : {M : Type 1} → statement M
some_spec 𝓤 𝓛 𝓜 𝓡 wired U T N _ _ _ g d _ =
    let H = 𝓛.H in let 𝓣 = tables 𝓤 H 𝓜 𝓡 𝓡.env in let W : RattleType = param 0 U in let R : RattleType = param 1 T in
    let En = ended U T N g d in let c = clauses U T N g d 𝓛 𝓜.mem 𝓡.returns in
    let inst = bounded (a_type ∷ a_type ∷ a_type ∷ []) (U, (T, (N, tt))) (dcons d dnil) in let fn = inst_fn inst code.function in let closed = code.unfolded 𝓤 H 𝓜 𝓡 wired (U, (T, (N, tt))) d in
    let Nr : RattleType = noted.the_row W in let Pin : RattleType = Struct (shape (noted.the_type W)) in
    let hs : Stays En.signature.params En.kept = (stay_dropped (RefOf (0 ∷ []) tt (plain (λ _. R)) (λ _. tt)) yes, tt) in
    proved 𝓛 En hs c 𝓜 𝓡 (Goes-dropped 𝓛 4 (RefOf (0 ∷ []) tt (plain (λ _. R)) (λ _. tt)) yes (λ κs x f. refl), tt) (#self inst) fn closed
    (λ κs. (shr_vals, tt)) (λ κs. (shr_Tells (named 0) κs.0 R, tt)) (λ κs qs bounds a gh are.
    let at : Val = vptr a.0.ref_ptr.0 a.0.ref_ptr.1 in
    let There : Type 0 = (u : W.Denot) × g.fits a.0.now u in let y : (walk_of 𝓛 En hs c).Ghost = ((κs, qs, bounds, a, (at ∷ [], tt)), gh) in let Post : Val → SProp 𝓤 = (walk_of 𝓛 En hs c).post y in
    let outlives : (r : RattleType) (n : ℕ) → Within 4 n → SProp 𝓤 = λ r n ok. fact 𝓤 (lft_at 4 n ok κs ⊑ r.lives) in
    qed 𝓛 ((raw (alive 𝓛 En.signature κs qs) ⊛ ‵ (owns (types_at En.signature.params κs) a y.0.4)) ∷ (raw (outlives U 1 tt) ⊛ (raw (outlives T 2 tt) ⊛ (raw (outlives N 3 tt) ⊛ raw (fact 𝓤 There)))) ∷ []) ∵
    move ! (1 ∷ []) $ split ! $ move ! (1 ∷ []) $ split ! $ move ! (1 ∷ []) $ split ! $ move ! (1 ∷ []) $ heard ! _ (λ there. move ! (3 ∷ []) $
    let r : Nr.Denot = record { marker = record {}; value = there.0 } in let Told : Type 0 = g.fits a.0.now r.value in
    split ! $ keep ! (0 ∷ []) $ nothing ! $
    use0 𝓛 (‵ (Pin.own_val (tt, tt) (token_val ∷ []))) (makes_shadow 𝓛 (Pin.own_val (tt, tt) (token_val ∷ [])) (λ vss. (tt, ((λ uss. (tt, tt)), tt))) ((vstruct vnil ∷ [], tt), (refl, ((tt, (refl, tt)), tt)))) $ fjoin ! $
    enter ! 𝓣.C 𝓣.Λ fn (at ∷ []) Post $ alloc_all ! (λ l. pass_all ! refl ((tt, tt), tt) $
    sets ! (agg ! (no_more !)) refl (tt, tt) $ sets ! (agg ! (and_then ! (get ! refl) (no_more !))) refl (tt, (tt, tt)) $
    use0 𝓛 (raw (fact 𝓤 Told)) (fact_i 𝓤 Told (emp 𝓤) there.1) $ nothing ! $ nothing ! $ fjoin ! $
    returns ! (look_at ! 0 refl) $ free_all ! refl $ keep ! (3 ∷ 0 ∷ 2 ∷ 1 ∷ []) $ by ! (leaves 𝓛 En hs c y token_val r (tt, tt) (tt, tt)))))
