-- What is shown of a consumer has no fraction.
use Rattle.std.proofs.Common.{◌≡◌, ℕ, ◌==◌, Bool, true, false, List, [], ◌∷◌, Option, Some, None, refl, if◌then◌else◌}
use Rattle.serde_json.specs.Data.{Data, no_members}
use Rattle.serde_json.specs.Written.{has_float, items_have_float, members_have_float}
use Rattle.js_base.specs.Bytes.{Bytes}
use Rattle.js_model.specs.declared.consumer_config.DeliverPolicy.{DeliverPolicy}
use Rattle.js_model.specs.declared.consumer_config.DeliverPolicy.TheVariants.{All as FromAll, Last as FromLast, New as FromNew, ByStartSequence, ByStartTime, LastPerSubject}
use Rattle.js_model.specs.declared.consumer_config.ConsumerConfig.{ConsumerConfig}
use Rattle.js_model.specs.declared.reply.ConsumerInfo.{ConsumerInfo}
use Rattle.js_json.specs.Building.{count}
use Rattle.js_json.proofs.Fractions.{either, all_whole, limit_whole}
use Rattle.consumer_config.specs.Printing.{text_shown, number_shown, sequence_shown, time_shown, entries, object_with, printed}
use Rattle.api_replies.specs.Consumers.{consumer_of, consumer_members, consumers}

-- a value that is shown has no fraction
abbrev IsWhole : Option Data → Type 0
IsWhole None = Unit {0}
IsWhole (Some value) = has_float value ≡ false

abbrev AreWhole : List (Bytes × Option Data) → Type 0
AreWhole [] = Unit {0}
AreWhole ((key, value) ∷ more) = IsWhole value × AreWhole more

shown_whole : (es : List (Bytes × Option Data)) → AreWhole es → members_have_float (object_with es) ≡ false
shown_whole [] are = refl
shown_whole ((key, None) ∷ more) are = shown_whole more are.1
shown_whole ((key, Some value) ∷ more) are = either _ _ are.0 (shown_whole more are.1)

text_whole : (text : Bytes) → IsWhole (text_shown text)
text_whole [] = tt
text_whole (byte ∷ more) = refl

number_whole : (n : ℕ) → IsWhole (number_shown n)
number_whole n = by (n == 0)
  where
    by : (zero : Bool) → IsWhole (if zero then None else Some (count n))
    by true = tt
    by false = refl

sequence_whole : (policy : DeliverPolicy) → IsWhole (sequence_shown policy)
sequence_whole FromAll = tt
sequence_whole FromLast = tt
sequence_whole FromNew = tt
sequence_whole (ByStartSequence seq) = refl
sequence_whole (ByStartTime at) = tt
sequence_whole LastPerSubject = tt

time_whole : (policy : DeliverPolicy) → IsWhole (time_shown policy)
time_whole FromAll = tt
time_whole FromLast = tt
time_whole FromNew = tt
time_whole (ByStartSequence seq) = tt
time_whole (ByStartTime at) = refl
time_whole LastPerSubject = tt

config_whole : (c : ConsumerConfig) → members_have_float (printed c) ≡ false
unfolding printed
config_whole c =
    shown_whole (entries c) (
      refl,
      (
        refl,
        (
          text_whole c.deliver_group,
          (
            refl,
            (
              text_whole c.deliver_subject,
              (
                text_whole c.description,
                (
                  refl,
                  (
                    text_whole c.filter_subject,
                    (
                      number_whole c.idle_heartbeat,
                      (
                        limit_whole c.max_ack_pending,
                        (
                          limit_whole c.max_deliver,
                          (
                            refl,
                            (
                              refl,
                              (sequence_whole c.deliver_policy, (time_whole c.deliver_policy, (refl, tt))),
                            ),
                          ),
                        ),
                      ),
                    ),
                  ),
                ),
              ),
            ),
          ),
        ),
      ),
    )

pub consumer_whole : (info : ConsumerInfo) → members_have_float (consumer_members info) ≡ false
unfolding consumer_members
consumer_whole info =
    all_whole (consumer_of info) no_members (config_whole info.config, (refl, (refl, (refl, (refl, (refl, (refl, (refl, (refl, (refl, tt)))))))))) refl

pub consumers_whole : (list : List ConsumerInfo) → items_have_float (consumers list) ≡ false
consumers_whole [] = refl
consumers_whole (info ∷ more) = either _ _ (consumer_whole info) (consumers_whole more)
