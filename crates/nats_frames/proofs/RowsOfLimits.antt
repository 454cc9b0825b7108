-- Worked rows: the limits.
use Rattle.std.specs.Prelude.{ℕ, ◌≡◌, [], ◌∷◌, ◌++◌, Some, None, codes, refl, length, replicate}
use Rattle.js_base.specs.Bytes.{Bytes}
use Rattle.nats_frames.specs.declared.op.Op.TheVariants.{Sub, Unsub}
use Rattle.nats_frames.specs.declared.fault.Fault.TheVariants.{UnknownOp, LineTooLong, BadArgs, PayloadTooBig}
use Rattle.nats_frames.specs.Reading.{Whole, Partial, Broken, op_at, words_at, args_at}

-- ---- lines

-- a line of so many bytes, with its CR LF
pub line : ℕ → Bytes
line zeros = codes "UNSUB 1 " ++ replicate zeros 48 ++ codes "5\r\n"

pub length_longest : length (line 4087) ≡ 4098
unfolding line
length_longest = refl

longest_line : op_at (line 4087) ≡ Whole (Unsub (codes "1") (Some 5)) []
unfolding line op_at words_at args_at
longest_line = refl

longer_line : op_at (line 4088) ≡ Broken LineTooLong
unfolding line op_at words_at args_at
longer_line = refl

no_line_yet : op_at (replicate 4097 32) ≡ Partial
unfolding op_at words_at args_at
no_line_yet = refl

no_line : op_at (replicate 4098 32) ≡ Broken LineTooLong
unfolding op_at words_at args_at
no_line = refl

-- a line that is too long is so before its name is looked at, and as soon as its 4,098th byte is there
long_before_name : op_at (codes "NOPE " ++ replicate 4093 32) ≡ Broken LineTooLong
unfolding op_at words_at args_at
long_before_name = refl

last_lf : op_at (replicate 4097 32 ++ 10 ∷ []) ≡ Broken UnknownOp
unfolding op_at words_at args_at
last_lf = refl

-- ---- names

longest_names : op_at (codes "SUB a " ++ replicate 1024 113 ++ 32 ∷ replicate 256 115 ++ 10 ∷ []) ≡ Whole (Sub (codes "a") (Some (replicate 1024 113)) (replicate 256 115)) []
unfolding op_at words_at args_at
longest_names = refl

longer_queue : op_at (codes "SUB a " ++ replicate 1025 113 ++ 32 ∷ replicate 256 115 ++ 10 ∷ []) ≡ Broken BadArgs
unfolding op_at words_at args_at
longer_queue = refl

longer_sid : op_at (codes "SUB a " ++ replicate 1024 113 ++ 32 ∷ replicate 257 115 ++ 10 ∷ []) ≡ Broken BadArgs
unfolding op_at words_at args_at
longer_sid = refl

longest_lone_sid : op_at (codes "SUB a " ++ replicate 256 115 ++ 10 ∷ []) ≡ Whole (Sub (codes "a") None (replicate 256 115)) []
unfolding op_at words_at args_at
longest_lone_sid = refl

longer_lone_sid : op_at (codes "SUB a " ++ replicate 257 115 ++ 10 ∷ []) ≡ Broken BadArgs
unfolding op_at words_at args_at
longer_lone_sid = refl

longest_unsub : op_at (codes "UNSUB " ++ replicate 256 115 ++ 10 ∷ []) ≡ Whole (Unsub (replicate 256 115) None) []
unfolding op_at words_at args_at
longest_unsub = refl

longer_unsub : op_at (codes "UNSUB " ++ replicate 257 115 ++ 10 ∷ []) ≡ Broken BadArgs
unfolding op_at words_at args_at
longer_unsub = refl

-- ---- numbers

greatest_payload : op_at (codes "PUB a 1048576\r\n") ≡ Partial
unfolding op_at words_at args_at
greatest_payload = refl

greater_payload : op_at (codes "PUB a 1048577\r\n") ≡ Broken (PayloadTooBig 1048577)
unfolding op_at words_at args_at
greater_payload = refl

greatest_in_all : op_at (codes "HPUB a 1048576 1048576\r\n") ≡ Partial
unfolding op_at words_at args_at
greatest_in_all = refl

greater_in_all : op_at (codes "HPUB a 0 1048577\r\n") ≡ Broken (PayloadTooBig 1048577)
unfolding op_at words_at args_at
greater_in_all = refl

greatest_size : op_at (codes "PUB a 4611686018427387903\r\n") ≡ Broken (PayloadTooBig 4611686018427387903)
unfolding op_at words_at args_at
greatest_size = refl

greater_size : op_at (codes "PUB a 4611686018427387904\r\n") ≡ Broken BadArgs
unfolding op_at words_at args_at
greater_size = refl

greatest_max : op_at (codes "UNSUB a 4611686018427387903\r\n") ≡ Whole (Unsub (codes "a") (Some 4611686018427387903)) []
unfolding op_at words_at args_at
greatest_max = refl

greater_max : op_at (codes "UNSUB a 4611686018427387904\r\n") ≡ Broken BadArgs
unfolding op_at words_at args_at
greater_max = refl
