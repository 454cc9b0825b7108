use Rattle.std.proofs.Common.{◌≡◌, length, vec_len, arith}
use Rattle.serde_json.specs.View.{view}
use Rattle.js_json.proofs.Items.{list_says}
use Rattle.js_json.proofs.kinds.is_something.Goals as goal

pub returns-in-Some-as_array : goal.returns-in-Some-as_array
returns-in-Some-as_array c =
    let len : vec_len c.in-Some-as_array.items.now ≡ length c.in-Some-as_array.items.now.items = omega arith in
    record {
      value = rw (c.is_empty-in-Some-as_array.ensures, len) (list_says (view c.args.value.now) c.in-Some-as_array.items.now.items c.in-Some-as_array.ensures);
    }
