-- Which consumers give something up at a moment, by JetStream's max_deliver.
use Rattle.std.specs.Prelude.{ℕ, List, map, filter}
use Rattle.std.specs.List.{list_any}
use Rattle.js_base.specs.Bytes.{Bytes}
use Rattle.js_model.specs.declared.consumer.Consumer.{Consumer}
use Rattle.js_model.specs.Advance.{is_spent}

-- the names, in their order, of those of which a delivery was made as often as it may be, and is due
abbrev pub giving_up : ℕ → List Consumer → List Bytes
giving_up moment consumers = map (λ c. c.name) (filter (λ c. list_any (is_spent moment c) c.pending) consumers)
