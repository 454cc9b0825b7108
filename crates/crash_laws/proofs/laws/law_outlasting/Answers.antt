use Rattle.crash_laws.proofs.Following.{outlasts_more, outlasts_nothing}
use Rattle.crash_laws.proofs.laws.law_outlasting.Goals as goal

pub returns : goal.returns
returns g c =
    let P = g.P.Place in
    record {
      nothing = λ stopped state vol. outlasts_nothing P.holds P.left P.clock (P.base stopped vol) g.met.P.Place.earlier state vol;
      law = λ stopped still ever first more a b c u v w h k. outlasts_more P.holds P.left P.clock (P.base stopped u) (P.base still v) (P.base ever w) first more a b c u v w h k;
    }
