-- The fields of a printed configuration, put in one after the other.
use Rattle.std.proofs.Common.{◌≡◌, ℕ, zero, suc, Bool, true, false, List, [], ◌∷◌, ◌++◌, Option, Some, None, Ordering, Less, Equal, Greater, nat_cmp, take, codes, refl, ap, ◌∙◌}
use Rattle.std.specs.Ordering.{match_ordering}
use Rattle.std.specs.Cmp.Lexicographic.{slice_cmp}
use Rattle.serde_json.specs.Data.{Data, Members, no_members, member, string, put}
use Rattle.js_base.specs.Bytes.{Bytes}
use Rattle.js_json.specs.Building.{count, limit, text_unless_empty, count_unless_0}
use Rattle.js_model.specs.declared.consumer_config.DeliverPolicy.{DeliverPolicy}
use Rattle.js_model.specs.declared.consumer_config.DeliverPolicy.TheVariants as delivers
use Rattle.js_model.specs.declared.consumer_config.ConsumerConfig.{ConsumerConfig}
use Rattle.consumer_config.proofs.Fields.{suc_not_0}
use Rattle.consumer_config.specs.Printing.{ack_policy_text, deliver_policy_text, text_shown, number_shown, sequence_shown, time_shown, with_start, entries, object_with, printed}

-- whether the key is behind all of these
abbrev is_last : Bytes → List (Bytes × Option Data) → Bool
is_last key [] = true
is_last key ((k, _) ∷ more) = match_ordering (slice_cmp nat_cmp key k) false false (is_last key more)

abbrev with_entry : Bytes → Option Data → List (Bytes × Option Data) → List (Bytes × Option Data)
with_entry key value es = es ++ (key, value) ∷ []

-- a field that is put in behind all others
put_last : (key : Bytes) (value : Data) (es : List (Bytes × Option Data)) → is_last key es ≡ true → put key value (object_with es) ≡ object_with (with_entry key (Some value) es)
put_last key value [] h = refl
put_last key value ((k, None) ∷ more) h = by (slice_cmp nat_cmp key k) (put_last key value more) h
  where
    by : (o : Ordering) → (is_last key more ≡ true → put key value (object_with more) ≡ object_with (with_entry key (Some value) more)) → match_ordering o false false (is_last key more) ≡ true
        → put key value (object_with more) ≡ object_with (with_entry key (Some value) more)
    by Less rec h = absurd (cc)
    by Equal rec h = absurd (cc)
    by Greater rec h = rec h
put_last key value ((k, Some d) ∷ more) h = by (slice_cmp nat_cmp key k) (put_last key value more) h
  where
    by : (o : Ordering) → (is_last key more ≡ true → put key value (object_with more) ≡ object_with (with_entry key (Some value) more)) → match_ordering o false false (is_last key more) ≡ true
        → match_ordering o (member key value (member k d (object_with more))) (member k value (object_with more)) (member k d (put key value (object_with more))) ≡ member k d (object_with (with_entry key (Some value) more))
    by Less rec h = absurd (cc)
    by Equal rec h = absurd (cc)
    by Greater rec h = ap (member k d) (rec h)

-- one that is not shown
none_last : (key : Bytes) (es : List (Bytes × Option Data)) → object_with es ≡ object_with (with_entry key None es)
none_last key [] = refl
none_last key ((k, None) ∷ more) = none_last key more
none_last key ((k, Some d) ∷ more) = ap (member k d) (none_last key more)

text_last : (key text : Bytes) (es : List (Bytes × Option Data)) → is_last key es ≡ true → text_unless_empty key text (object_with es) ≡ object_with (with_entry key (text_shown text) es)
text_last key [] es h = none_last key es
text_last key (byte ∷ more) es h = put_last key (string (byte ∷ more)) es h

number_last : (key : Bytes) (n : ℕ) (es : List (Bytes × Option Data)) → is_last key es ≡ true → count_unless_0 key n (object_with es) ≡ object_with (with_entry key (number_shown n) es)
number_last key zero es h = none_last key es
number_last key (suc n) es h = rw (suc_not_0 n) (put_last key (count (suc n)) es h)

abbrev with_starts : DeliverPolicy → List (Bytes × Option Data) → List (Bytes × Option Data)
with_starts policy es = with_entry (codes "opt_start_time") (time_shown policy) (with_entry (codes "opt_start_seq") (sequence_shown policy) es)

neither : (es : List (Bytes × Option Data)) → object_with es ≡ object_with (with_entry (codes "opt_start_time") None (with_entry (codes "opt_start_seq") None es))
neither es = none_last (codes "opt_start_seq") es ∙ none_last (codes "opt_start_time") (with_entry (codes "opt_start_seq") None es)

-- a key behind others is behind them and one that stands before it
start_last : (policy : DeliverPolicy) (es : List (Bytes × Option Data)) → is_last (codes "opt_start_seq") es ≡ true → is_last (codes "opt_start_time") (with_entry (codes "opt_start_seq") None es) ≡ true
    → with_start policy (object_with es) ≡ object_with (with_starts policy es)
start_last delivers.All es seq time = neither es
start_last delivers.Last es seq time = neither es
start_last delivers.New es seq time = neither es
start_last (delivers.ByStartSequence n) es seq time =
    put_last (codes "opt_start_seq") (count n) es seq ∙ none_last (codes "opt_start_time") (with_entry (codes "opt_start_seq") (Some (count n)) es)
start_last (delivers.ByStartTime at) es seq time =
    ap (put (codes "opt_start_time") _) (none_last (codes "opt_start_seq") es) ∙ put_last (codes "opt_start_time") _ (with_entry (codes "opt_start_seq") None es) time
start_last delivers.LastPerSubject es seq time = neither es

-- put in one behind the other they are the object that is printed
abbrev filled : ConsumerConfig → Members
filled c =
    put (codes "replay_policy") (string (codes "instant"))
    (with_start c.deliver_policy
    (put (codes "name") (string c.name)
    (put (codes "max_waiting") (count c.max_waiting)
    (put (codes "max_deliver") (limit c.max_deliver)
    (put (codes "max_ack_pending") (limit c.max_ack_pending)
    (count_unless_0 (codes "idle_heartbeat") c.idle_heartbeat
    (text_unless_empty (codes "filter_subject") c.filter_subject
    (put (codes "durable_name") (string c.name)
    (text_unless_empty (codes "description") c.description
    (text_unless_empty (codes "deliver_subject") c.deliver_subject
    (put (codes "deliver_policy") (string (deliver_policy_text c.deliver_policy))
    (text_unless_empty (codes "deliver_group") c.deliver_group
    (put (codes "ack_wait") (count c.ack_wait)
    (put (codes "ack_policy") (string (ack_policy_text c.ack_policy)) no_members))))))))))))))

-- ---- one step after the other

put_step : (key : Bytes) (value : Data) (es : List (Bytes × Option Data)) (made : Members) → is_last key es ≡ true → made ≡ object_with es → put key value made ≡ object_with (with_entry key (Some value) es)
put_step key value es made h e = ap (put key value) e ∙ put_last key value es h

text_step : (key text : Bytes) (es : List (Bytes × Option Data)) (made : Members) → is_last key es ≡ true → made ≡ object_with es → text_unless_empty key text made ≡ object_with (with_entry key (text_shown text) es)
text_step key text es made h e = ap (text_unless_empty key text) e ∙ text_last key text es h

number_step : (key : Bytes) (n : ℕ) (es : List (Bytes × Option Data)) (made : Members) → is_last key es ≡ true → made ≡ object_with es → count_unless_0 key n made ≡ object_with (with_entry key (number_shown n) es)
number_step key n es made h e = ap (count_unless_0 key n) e ∙ number_last key n es h

pub put_in_order : (c : ConsumerConfig) → filled c ≡ printed c
unfolding printed
put_in_order c =
    put_step (codes "replay_policy") (string (codes "instant")) (take 15 (entries c)) _ refl
    (ap (with_start c.deliver_policy)
    (put_step (codes "name") (string c.name) (take 12 (entries c)) _ refl
    (put_step (codes "max_waiting") (count c.max_waiting) (take 11 (entries c)) _ refl
    (put_step (codes "max_deliver") (limit c.max_deliver) (take 10 (entries c)) _ refl
    (put_step (codes "max_ack_pending") (limit c.max_ack_pending) (take 9 (entries c)) _ refl
    (number_step (codes "idle_heartbeat") c.idle_heartbeat (take 8 (entries c)) _ refl
    (text_step (codes "filter_subject") c.filter_subject (take 7 (entries c)) _ refl
    (put_step (codes "durable_name") (string c.name) (take 6 (entries c)) _ refl
    (text_step (codes "description") c.description (take 5 (entries c)) _ refl
    (text_step (codes "deliver_subject") c.deliver_subject (take 4 (entries c)) _ refl
    (put_step (codes "deliver_policy") (string (deliver_policy_text c.deliver_policy)) (take 3 (entries c)) _ refl
    (text_step (codes "deliver_group") c.deliver_group (take 2 (entries c)) _ refl refl))))))))))) ∙ start_last c.deliver_policy (take 13 (entries c)) refl refl)
