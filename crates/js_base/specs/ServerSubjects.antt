-- The server's own subjects, by the JetStream API reference: those below `$JS.`.
use Rattle.std.specs.Prelude.{Bool, codes, nat_eq}
use Rattle.std.specs.List.{starts_with}
use Rattle.js_base.specs.Bytes.{Bytes}

-- the pattern that matches each of them
abbrev pub own_subjects : Bytes
own_subjects = codes "$JS.>"

-- the subjects that it matches
abbrev pub is_own : Bytes → Bool
is_own subject = starts_with nat_eq subject (codes "$JS.")

-- the subjects of the JetStream API's calls
abbrev pub is_api : Bytes → Bool
is_api subject = starts_with nat_eq subject (codes "$JS.API.")

-- the subjects to which consumers' messages are acknowledged
abbrev pub is_acknowledgement : Bytes → Bool
is_acknowledgement subject = starts_with nat_eq subject (codes "$JS.ACK.")
