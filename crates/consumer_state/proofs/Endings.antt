-- An acknowledgement in two steps leaves what it leaves at once.
use Rattle.std.proofs.Common.{◌≡◌, ℕ, ◌<◌, ◌≤◌, Bool, true, false, ◌&&◌, ◌||◌, not, cond, List, length, refl, sym, ap, ◌∙◌, subst, arith}
use Rattle.std.specs.Prelude.{Option, Some, None, filter, ◌==◌}
use Rattle.std.proofs.lemmas.Bool.{eqb-true}
use Rattle.js_base.specs.Bytes.{Bytes, has}
use Rattle.js_model.specs.declared.ack.Ask.{Ask}
use Rattle.js_model.specs.declared.ack.AckKind.{AckKind}
use Rattle.js_model.specs.declared.ack.AckKind.TheVariants.{Ack as Acknowledge, Nak, Wpi, Next, Term}
use Rattle.js_model.specs.declared.consumer.Consumer.{Consumer}
use Rattle.js_model.specs.declared.consumer.Pending.{Pending}
use Rattle.js_model.specs.Acknowledge.{ends, is_no_delivery, without}
use Rattle.js_model.specs.Events.{after_ack}
use Rattle.js_model.specs.Pulls.{pull_refusal, pulled, pulled_unless}
use Rattle.js_model.specs.Streams.{pending_seqs}
use Rattle.consumer_state.specs.Ending.{ack_ends, before_ending, begun, delayed, entries, is_delivered, kind_ends, EndsOne}
use Rattle.consumer_state.proofs.Filters.{any_map, fewer, filter_again, keeps_all, no_more}

-- nothing is taken out
pub without_none : (c : Consumer) → without (λ m. false) c ≡ c
without_none c = ap (λ ps. record c { pending = ps; given_up = filter (λ n. true) c.given_up }) (keeps_all c.pending) ∙ ap (λ ns. record c { given_up = ns }) (keeps_all c.given_up)

-- a pull and the endings do not meet
pull_apart : (E : ℕ → Bool) (now : ℕ) (reply : Option Bytes) (ask : Ask) (c : Consumer) → without E (pulled now reply (Some ask) c) ≡ pulled now reply (Some ask) (without E c)
pull_apart E now None ask c = refl
pull_apart E now (Some reply) ask c = go (pull_refusal c (Some ask))
  where
    go : (o : Option Bytes) → without E (pulled_unless o now reply (Some ask) c) ≡ pulled_unless o now reply (Some ask) (without E c)
    go None = refl
    go (Some block) = refl

begun_ends : (now : ℕ) (reply : Option Bytes) (n : ℕ) (kind : AckKind) (c : Consumer) → without (kind_ends c.config.ack_policy n kind) (begun now reply n kind c) ≡ after_ack now reply n kind c
begun_ends now reply n Acknowledge c = refl
begun_ends now reply n (Nak delay) c = without_none (delayed now n (Nak delay) c)
begun_ends now reply n Wpi c = without_none (delayed now n Wpi c)
begun_ends now reply n (Next ask) c = pull_apart (ends c.config.ack_policy n) now reply ask c
begun_ends now reply n Term c = refl

pub acknowledged_is : (now : ℕ) (reply : Option Bytes) (n : ℕ) (kind : AckKind) (c : Consumer) → is_no_delivery c n ≡ false
    → without (ack_ends c n kind) (before_ending now reply n kind c) ≡ after_ack now reply n kind c
acknowledged_is now reply n kind c e =
    ap (λ b. without (λ m. not b && kind_ends c.config.ack_policy n kind m) (cond b c (begun now reply n kind c))) e ∙ begun_ends now reply n kind c

same_parts : (now : ℕ) (reply : Option Bytes) (ask : Ask) (c : Consumer) (n m : ℕ) (kind : AckKind) → ack_ends (pulled now reply (Some ask) c) n kind m ≡ ack_ends c n kind m
same_parts now None ask c n m kind = refl
same_parts now (Some reply) ask c n m kind = go (pull_refusal c (Some ask))
  where
    go : (o : Option Bytes) → ack_ends (pulled_unless o now reply (Some ask) c) n kind m ≡ ack_ends c n kind m
    go None = refl
    go (Some block) = refl

begun_same : (now : ℕ) (reply : Option Bytes) (n : ℕ) (kind : AckKind) (c : Consumer) (m : ℕ) → ack_ends (begun now reply n kind c) n kind m ≡ ack_ends c n kind m
begun_same now reply n Acknowledge c m = refl
begun_same now reply n (Nak delay) c m = refl
begun_same now reply n Wpi c m = refl
begun_same now reply n (Next ask) c m = same_parts now reply ask c n m (Next ask)
begun_same now reply n Term c m = refl

pub before_ending_same : (now : ℕ) (reply : Option Bytes) (n : ℕ) (kind : AckKind) (c : Consumer) (m : ℕ) → ack_ends (before_ending now reply n kind c) n kind m ≡ ack_ends c n kind m
before_ending_same now reply n kind c m = go (is_no_delivery c n)
  where
    go : (b : Bool) → ack_ends (cond b c (begun now reply n kind c)) n kind m ≡ ack_ends c n kind m
    go true = refl
    go false = begun_same now reply n kind c m

pub ends_one_same : (n : ℕ) (kind : AckKind) (old new : Consumer) (m : ℕ) → EndsOne (ack_ends old n kind) old m new → without (ack_ends new n kind) new ≡ without (ack_ends old n kind) old
ends_one_same n kind old new m w =
    let E : ℕ → Bool = ack_ends old n kind in
    let covers : (k : ℕ) → (k == m) ≡ true → E k ≡ true = λ k e. subst (λ (z : ℕ). E z ≡ true) (sym (eqb-true k m e)) w.is in
    ap (λ (c : Consumer). without (ack_ends c n kind) c) w.left
    ∙ ap (λ (ps : List Pending). record old { pending = ps; given_up = filter (λ k. not (E k)) (filter (λ k. not (k == m)) old.given_up) }) (filter_again (λ (p : Pending). E p.seq) (λ p. p.seq == m) (λ p. covers p.seq) old.pending)
    ∙ ap (λ (ns : List ℕ). record old { pending = filter (λ p. not (E p.seq)) old.pending; given_up = ns }) (filter_again E (λ k. k == m) covers old.given_up)

-- one entry less, or more
pub fewer_entries : (c : Consumer) (m : ℕ) → is_delivered c m ≡ true → entries (without (λ k. k == m) c) < entries c
fewer_entries c m e = go (has (pending_seqs c) m) refl e
  where
    go : (b : Bool) → has (pending_seqs c) m ≡ b → (b || has c.given_up m) ≡ true → entries (without (λ k. k == m) c) < entries c
    go true k f =
        let p : length (filter (λ (p : Pending). not (p.seq == m)) c.pending) < length c.pending = fewer (λ (p : Pending). p.seq == m) c.pending (sym (any_map (λ k. k == m) (λ (p : Pending). p.seq) c.pending) ∙ k) in
        let q : length (filter (λ k. not (k == m)) c.given_up) ≤ length c.given_up = no_more (λ k. not (k == m)) c.given_up in
        omega arith
    go false k f =
        let p : length (filter (λ (p : Pending). not (p.seq == m)) c.pending) ≤ length c.pending = no_more (λ (p : Pending). not (p.seq == m)) c.pending in
        let q : length (filter (λ k. not (k == m)) c.given_up) < length c.given_up = fewer (λ k. k == m) c.given_up f in
        omega arith
