-- A worked row of starts that pick out: a stream of n messages, each on a subject of its own.
use Rattle.std.proofs.Common.{◌≡◌, ℕ, zero, suc, ◌+◌, ◌<◌, ◌≤◌, ◌^◌, Bool, false, cond, List, [], ◌∷◌, ◌++◌, map, length, drop, refl, sym, ap, subst, arith}
use Rattle.std.specs.Prelude.{codes, decimal, filter, fold, count_by}
use Rattle.std.proofs.lemmas.Bool.{lt-ltb, le-ltb, false_from_ne_true}
use Rattle.std.proofs.lemmas.Fmt.{decimal_injective}
use Rattle.js_base.specs.Bytes.{same}
use Rattle.js_model.specs.declared.consumer_config.DeliverPolicy.TheVariants.{LastPerSubject}
use Rattle.js_model.specs.declared.consumer_config.ConsumerConfig.{ConsumerConfig}
use Rattle.js_model.specs.declared.stream.Message.{Message}
use Rattle.js_model.specs.declared.stream.State.{State}
use Rattle.js_model.specs.declared.stream.State.TheVariants.{Live}
use Rattle.js_model.specs.declared.reply.Reply.TheVariants.{Refused}
use Rattle.js_model.specs.Refusals.{refusal}
use Rattle.js_model.specs.Streams.{seqs, passes_filter}
use Rattle.js_model.specs.Advance.{advance, advance_outs}
use Rattle.js_model.specs.Retention.{kept}
use Rattle.js_model.specs.Trim.{trim, newest}
use Rattle.js_model.specs.Verdict.{verdict}
use Rattle.js_model.specs.Events.{answered}
use Rattle.js_model.proofs.Named.{same_is}
use Rattle.js_model.proofs.Samples.{t0, orders, worker, make_consumer, after, reply_to, consumers_in}

-- the message of a sequence, on a subject that ends with it
abbrev numbered : ℕ → Message
numbered n = record { seq = n; at = t0; subject = codes "orders." ++ decimal n; headers = []; payload = [] }

-- so many messages, the first of which has this sequence
abbrev many : ℕ → ℕ → List Message
many from zero = []
many from (suc n) = numbered from ∷ many (suc from) n

abbrev holding : List Message → ℕ → State
holding messages last = Live (record { incarnation = 1; made = t0; config = orders; messages = messages; last = last; moment = t0; ids = []; consumers = [] })

abbrev picker : ConsumerConfig
picker = record worker { deliver_policy = LastPerSubject }

-- ---- how many are picked out

apart : (m n : ℕ) → n < m → m < 2 ^ 64 → same (numbered m).subject (numbered n).subject ≡ false
apart m n less small = false_from_ne_true (same (numbered m).subject (numbered n).subject) (λ h. clash (decimal_injective m n small (omega (arith, less, small)) (ap (drop 7) (same_is (numbered m).subject (numbered n).subject h))))
  where
    clash : m ≡ n → ⊥
    clash e = omega (arith, e, less)

alone : (k from n : ℕ) → k < from → from + n < 2 ^ 64 → count_by (λ x. same x.subject (numbered k).subject) (many from n) ≡ 0
alone k from zero less small = refl
alone k from (suc n) less small =
    subst (λ (b : Bool). fold (λ sum x. sum + cond (same x.subject (numbered k).subject) 1 0) (0 + cond b 1 0) (many (suc from) n) ≡ 0)
    (sym (apart from k less (omega (arith, small))))
    (alone k (suc from) n (omega (arith, less)) (omega (arith, small)))

newest_many : (from n : ℕ) → from + n < 2 ^ 64 → newest 1 (many from n) ≡ many from n
newest_many from zero small = refl
newest_many from (suc n) small = rw (alone from (suc from) n (omega arith) (omega (arith, small))) (ap (λ list. numbered from ∷ list) (newest_many (suc from) n (omega (arith, small))))

all_pass : (messages : List Message) → filter (λ m. passes_filter [] m.subject) messages ≡ messages
all_pass [] = refl
all_pass (m ∷ ms) = ap (λ list. m ∷ list) (all_pass ms)

length_many : (from n : ℕ) → length (seqs (many from n)) ≡ n
length_many from zero = refl
length_many from (suc n) = ap suc (length_many (suc from) n)

picked : (n : ℕ) → n < 2 ^ 63 → length (seqs (newest 1 (filter (λ m. passes_filter [] m.subject) (many 1 n)))) ≡ n
picked n small = rw (all_pass (many 1 n), newest_many 1 n (omega (arith, small))) (length_many 1 n)

-- ---- the rows

-- a consumer that would pick out more than 65,536 is refused
too_many : (n : ℕ) → 65536 < n → n < 2 ^ 62 → reply_to (holding (many 1 n) n) (make_consumer picker) t0 ≡ Refused (refusal 400 20015 (codes "too many subjects"))
unfolding answered advance advance_outs kept trim verdict
too_many n more small = rw (reply_to, picked n (omega (arith, small)), lt-ltb 65536 n more) refl

-- one that picks out at most so many is made
at_most : (n : ℕ) → n ≤ 65536 → map (λ c. c.name) (consumers_in (after (holding (many 1 n) n) (make_consumer picker, t0))) ≡ codes "W" ∷ []
unfolding answered advance advance_outs kept trim verdict
at_most n less = rw (picked n (omega (arith, less)), le-ltb 65536 n less) refl
