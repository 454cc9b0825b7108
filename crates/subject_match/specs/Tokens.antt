-- What is left of a text after its first tokens.
use Rattle.std.specs.Prelude.{ℕ, ◌+◌, List, [], Option, Some, None, length}
use Rattle.js_base.specs.Bytes.{Bytes}
use Rattle.js_base.specs.Subjects.{tokens}

-- the tokens after a dot, and none if there is no dot
abbrev pub tokens_left : Option Bytes → List Bytes
tokens_left None = []
tokens_left (Some text) = tokens text

-- the bytes of it, with the dot
abbrev pub size_left : Option Bytes → ℕ
size_left None = 0
size_left (Some text) = length text + 1
