use Rattle.js_model.specs.Limits.{infos_a_page}
use Rattle.desk_answers.proofs.Ordered.{page_texts}
use Rattle.desk_answers.proofs.paging.list_reply.Goals as goal

pub returns-clause-texts : goal.returns-clause-texts
returns-clause-texts c = rw (c.in_ok-streams.ensures.value, c.page.ensures.value, c.as_slice.ensures.value) (page_texts infos_a_page c.args.offset c.in_ok-list.list.items c.in_ok-list.ensures.sound.each)
