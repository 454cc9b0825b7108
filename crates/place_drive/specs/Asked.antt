-- What a place is asked, as readers give it.
use Rattle.std.specs.Prelude.{IsTrue}
use Rattle.js_base.specs.Subjects.{is_subject_text}
use Rattle.js_model.specs.declared.event.What.{What}
use Rattle.js_model.specs.Proper.{if_given, is_proper_what, reply_of}
use Rattle.place_engine.specs.Places.{IsTold}

-- its parts are ones that readers give, and what it tells is UTF-8
pub record IsAsked (what : What) : Type 0 where
  pub reply : IsTrue (if_given is_subject_text (reply_of what))
  pub proper : IsTrue (is_proper_what what)
  pub told : IsTold what
