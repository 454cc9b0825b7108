-- That messages which stand one behind the other end within the bytes.
use Rattle.std.proofs.Common.{◌≤◌, ℕ, List, [], ◌∷◌, length, arith}
use Rattle.js_base.specs.Bytes.{Bytes}
use Rattle.js_model.specs.declared.stream.Message.{Message}
use Rattle.op_records.specs.Blocks.{Follow}
use Rattle.op_records.specs.Laws.{IsBatch}
use Rattle.op_records.proofs.BlocksLaws.{law_message}

pub follow_within : (bytes : Bytes) (ms : List Message) (here end : ℕ) → IsBatch bytes → here ≤ length bytes → Follow bytes here ms end → end ≤ length bytes
follow_within bytes [] here end few within f = omega (arith, f, within)
follow_within bytes (x ∷ xs) here end few within f = follow_within bytes xs f.0 end few ((law_message bytes here x f.0 few).0 f.1).lies.within f.2
