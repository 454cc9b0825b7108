-- The fields of an object as contracts see them.
use Rattle.serde_json.specs.Data.{Members}
use Rattle.serde_json.specs.View.{members_view}
use Rattle.js_json.specs.declared.fields.Fields.{Fields}

abbrev pub members : Fields → Members
members fields = members_view fields.by_name.entries
