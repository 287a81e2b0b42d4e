-- Two outcomes that a promise of the provider allows are equal: the answer, the domain's struct, and the room. Assumes nothing.
use mathlib.Core.Path.{◌≡◌, sym, ap, ◌∙◌}
use mathlib.Core.List.{List, []}
use Prim.Native.Nat.{ℕ}
use Rattle.cols_spec.specs.Places.{used}
use Rattle.domain.specs.declared.answer.Answer.{Answer}
use Rattle.domain.specs.declared.numbers.Reply.{Reply}
use Rattle.domain.specs.Numbers.{reply_number}
use Rattle.domain.specs.Tables.{Channels, Domain as Tables, fresh, put_links}
use Rattle.domain.specs.Effects.{Settled, settled, answered}
use Rattle.domain.specs.Events.{opens, loses, hears}
use Rattle.domain.specs.Outcomes.{after, limited, begun, audience}
use Rattle.domain.proofs.OneNumber.{same_reply}
use Rattle.domain_tables.specs.Held.{domain_in}
use Rattle.domain_tables.specs.declared.Domain.{Domain}
use Rattle.domain_tables.proofs.OneStruct.{Whole, one_struct}
use Rattle.serve_read.specs.Understood.{understood}
use Rattle.provider.proofs.Replies.{one_outcome}

-- ---- the public functions
module _ (s t : Domain) (x : Whole s) (y : Whole t) where
  -- of an answer with tables and a room
  event_outcome : (r q : Answer) (o b : List ℕ) (z : Settled Tables) → answered r (domain_in s) o ≡ z → answered q (domain_in t) b ≡ z → (r ≡ q) × (s ≡ t) × (o ≡ b)
  event_outcome r q o b z e f = let w = one_outcome r q z e f in (w.0, one_struct s t x y w.1, w.2)

  module _ (before : Tables) (p : ℕ) (out : List ℕ) (r q : Answer) (o b : List ℕ) where
    -- of `message`
    pub message_outcome : (os : List ℕ) → answered r (domain_in s) o ≡ after before (hears p (understood os)) out
        → answered q (domain_in t) b ≡ after before (hears p (understood os)) out → (r ≡ q) × (s ≡ t) × (o ≡ b)
    message_outcome os e f = event_outcome r q o b (after before (hears p (understood os)) out) e f

    -- of `lose`
    pub lose_outcome : answered r (domain_in s) o ≡ after before (loses p) out
        → answered q (domain_in t) b ≡ after before (loses p) out → (r ≡ q) × (s ≡ t) × (o ≡ b)
    lose_outcome e f = event_outcome r q o b (after before (loses p) out) e f

  -- of `start`
  pub start_outcome : (channels users tokens : ℕ) (before : Tables) (r q : Reply)
      → ◌≡◌ {A = ℕ × Tables} (reply_number r, domain_in s) (begun channels users tokens before)
      → ◌≡◌ {A = ℕ × Tables} (reply_number q, domain_in t) (begun channels users tokens before)
      → (r ≡ q) × (s ≡ t)
  start_outcome channels users tokens before r q e f =
      let z = e ∙ sym f in
      (same_reply r q (ap (λ (w : ℕ × Tables). w.0) z), one_struct s t x y (ap (λ (w : ℕ × Tables). w.1) z))

-- of `open`
pub open_outcome : (before p : ℕ) (r q : Reply) (a b : ℕ)
    → ((d : Tables) (out : List ℕ) → settled (reply_number r) 0 (put_links d a) out ≡ after (put_links d before) (opens p) out)
    → ((d : Tables) (out : List ℕ) → settled (reply_number q) 0 (put_links d b) out ≡ after (put_links d before) (opens p) out)
    → (r ≡ q) × (a ≡ b)
open_outcome before p r q a b e f =
    let z = e (fresh (limited 0 0 0)) [] ∙ sym (f (fresh (limited 0 0 0)) []) in
    (same_reply r q (ap (λ (w : Settled Tables). w.reply) z), ap (λ (w : Settled Tables). w.tables.links) z)

-- of `audience`
pub audience_outcome : (cs : Channels) (c r q : ℕ) → r ≡ audience cs c → q ≡ audience cs c → r ≡ q
audience_outcome cs c r q e f = e ∙ sym f

-- of `in_use`
pub in_use_outcome : (ids : List ℕ) (r q : ℕ) → r ≡ used ids → q ≡ used ids → r ≡ q
in_use_outcome ids r q e f = e ∙ sym f
