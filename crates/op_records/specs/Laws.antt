-- The laws of records: what a batch can have is read as records exactly if these may stand in a log and are spelled so.
use Rattle.std.specs.Prelude.{◌≡◌, ◌<◌, ◌^◌, ◌↔◌, length, IsTrue, List, All}
use Rattle.std.specs.List.{flat_map, list_all}
use Rattle.js_base.specs.Bytes.{Bytes}
use Rattle.op_records.specs.Allowed.{may_stand}
use Rattle.op_records.specs.Reading.{AreRecords}
use Rattle.op_records.specs.Spelling.{spelled_record}
use Rattle.op_records.specs.declared.record.Record.{Record}

-- what a batch can have: bytes, fewer than 2^32 of them
pub record IsBatch (bytes : Bytes) : Type 0 where
  pub are_bytes : All (λ byte. byte < 256) bytes
  pub short : length bytes < 2 ^ 32

-- each of them may stand in a log, and the bytes spell them one behind the other
pub record Spells (bytes : Bytes) (records : List Record) : Type 0 where
  pub allowed : IsTrue (list_all may_stand records)
  pub bytes_are : bytes ≡ flat_map spelled_record records

abbrev pub LawRecords : Type 0
LawRecords = (bytes : Bytes) (records : List Record) → IsBatch bytes → AreRecords bytes records ↔ Spells bytes records
