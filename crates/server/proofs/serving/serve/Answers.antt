use Rattle.server.proofs.Ending.{served_over}
use Rattle.server.proofs.serving.serve.Goals as goal

pub returns-clause-served : goal.returns-clause-served
returns-clause-served g c =
    let k = c.serve_link-ended.ensures in
    served_over _ (λ a b entries made. made.0) _ _ _ _ _ _ _ _ _ _ _ _ _ _ _ _ _ _ k.serves c.requires.fresh k.cause c.done.ensures.back c.status_of.ensures.status
