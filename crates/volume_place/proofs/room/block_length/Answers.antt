use Rattle.std.proofs.Common.{◌≡◌, ◌+◌, Bool, true, ◌&&◌, ◌||◌, length, refl, sym, ◌∙◌, arith}
use Rattle.std.specs.Prelude.{nat_le}
use Rattle.std.proofs.lemmas.Bool.{and_from, and_parts}
use Rattle.js_base.specs.Bytes.{is_empty}
use Rattle.js_base.specs.Headers.{is_block}
use Rattle.js_base.specs.Subjects.{is_subject_text}
use Rattle.js_model.specs.Configs.{is_number}
use Rattle.js_model.specs.Proper.{if_given}
use Rattle.js_model.specs.declared.event.Publish.{Publish}
use Rattle.op_records.proofs.BlockSizes.{Sizes, sizes, spelled_len}
use Rattle.block_writing.specs.Planning.{message_by}
use Rattle.js_model.specs.Proper.{is_proper_publish}
use Rattle.volume_place.proofs.room.block_length.Goals as goal

-- a proper publish is as long as a block may have it
sizes_of : (p : Publish) → is_proper_publish p ≡ true → Sizes (message_by 0 0 p.subject p.headers p.payload)
sizes_of p proper = sizes (message_by 0 0 p.subject p.headers p.payload)
    (and_from (numbers && subject && header) content (and_from (numbers && subject) header (and_from numbers subject refl two.0) two.1) three.1)
  where
    numbers : Bool
    numbers = is_number 0 && is_number 0

    subject : Bool
    subject = is_subject_text p.subject

    header : Bool
    header = is_empty p.headers || is_block p.headers

    content : Bool
    content = nat_le (length p.headers + length p.payload) 1048576

    three : ((subject && header) ≡ true) × (content ≡ true)
    three =
        let all = and_parts (subject && header && content && if_given is_number p.wants.last) (if_given is_number p.wants.subject_last) proper in
        let four = and_parts (subject && header && content) (if_given is_number p.wants.last) all.0 in
        and_parts (subject && header) content four.0

    two : (subject ≡ true) × (header ≡ true)
    two = and_parts subject header three.0

pub message_len-requires : goal.message_len-requires
message_len-requires c =
    let s = sizes_of c.args.publish.now c.requires.proper in
    record { short = omega (arith, s.subject, s.content) }

pub returns : goal.returns
returns c =
    let p = c.args.publish.now in
    record { value = c.message_len.ensures.value ∙ sym (spelled_len (message_by 0 0 p.subject p.headers p.payload)) }
