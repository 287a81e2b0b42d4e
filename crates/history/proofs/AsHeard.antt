-- What is understood of octets is a refusal, or what is heard; so the events that are served come with their fields in range, and where the reply
-- is 0 they are what is read. Assumes nothing.
use Rattle.std.specs.Prelude.{if◌then◌else◌}
use mathlib.Core.Path.{◌≡◌, refl, ap}
use mathlib.Core.Bool.{Bool, true, false, not, ◌||◌, So}
use mathlib.Core.List.{List}
use Prim.Native.Nat.{ℕ, ◌<◌}
use native.Mathlib.Omega.{arith}
use lib.Dec.{ltb}
use lib.ListN.{length}
use Rattle.cols_spec.specs.Sets.{has}
use Rattle.codec_table.specs.Messages.{may_go_up, is_served}
use Rattle.codec_table.specs.Codec.{Outcome, ok, refuse, sized}
use Rattle.codec_table.specs.Named.{Message, heard}
use Rattle.codec_table.proofs.NamedLaws.{heard_formed}
use Rattle.out_records.specs.Records.{records}
use Rattle.domain.specs.Tables.{Domain}
use Rattle.domain.specs.Events.{Reading, reads, refuses, hears, stays, sends, complaint, answers, step_with, step}
use Rattle.domain.specs.Claims.{formed}
use Rattle.domain.proofs.invariant.Sound.{is_between}
use Rattle.serve_read.specs.Understood.{number_in, read_as, understood}
use Rattle.provider.proofs.Replies.{Fair, understood_fair}
use Rattle.history.specs.Recorded.{Call, opening, losing, message, read_call}
use Rattle.history.specs.Served.{event, Bytewise}
use Rattle.history.proofs.Sendable.{Legible, ComesLegible}

-- whatever is said of refusals and of what is heard
pub understood_by : (os : List ℕ) (P : (Reading → Type 0)) → ((n : ℕ) → P (refuses n os)) → ((m : Message) → heard os ≡ ok m → P (reads m)) → P (understood os)
unfolding understood read_as
understood_by os P f g =
    away (not (sized os)) 4 _ (away (ltb 42 (number_in os)) 5 _ (away (not (may_go_up (number_in os))) 6 _ (away (not (is_served (number_in os))) 7 _ (go (heard os) refl))))
  where
    away : (b : Bool) (n : ℕ) (x : Reading) → P x → P (if b then refuses n os else x)
    away true n x h = f n
    away false n x h = h

    go : (x : Outcome Message) → heard os ≡ x → P (read_as os x)
    go (ok m) e = g m e
    go (refuse n) e = f n

-- octets below 256 give an event that can be read
pub event_legible : (c : Call) → Bytewise c → ComesLegible (event c)
unfolding event
event_legible (opening p) y = tt
event_legible (losing p) y = tt
event_legible (message p os) y = understood_by os Legible (λ n. y) (heard_formed os y)

-- and one that the machine takes
pub event_formed : (c : Call) → Bytewise c → So (formed (event c))
unfolding event formed
event_formed (opening p) y = refl
event_formed (losing p) y = refl
event_formed (message p os) y =
    understood_by os (λ m. Fair m → So (formed (hears p m))) (λ n f. is_between 4 8 n f.0 f.1) (λ m e f. heard_formed os y m e) (understood_fair os)

-- a refusal is not answered 0
refused_reply : (d : Domain) (p n : ℕ) (os : List ℕ) (room : ℕ) → 0 < n → (step d (hears p (refuses n os)) room).reply ≡ 0 → ⊥
unfolding step step_with answers sends
refused_reply d p n os room h = go (ltb 15 p || not (has d.links p)) (ltb room (length (records (complaint n p os))))
  where
    go : (a b : Bool) → (if a then stays d 2 else if b then stays d 9 else record { reply = n; domain = d; sent = complaint n p os }).reply ≡ 0 → ⊥
    go true b e = omega arith
    go false true e = omega arith
    go false false e = omega arith

-- an event answered 0 is what history reads
pub same_event : (d : Domain) (c : Call) (room : ℕ) → (step d (event c) room).reply ≡ 0 → read_call c ≡ event c
unfolding event read_call read_as
same_event d (opening p) room z = refl
same_event d (losing p) room z = refl
same_event d (message p os) room z =
    understood_by os (λ m. Fair m → (step d (hears p m) room).reply ≡ 0 → hears p (read_as os (heard os)) ≡ hears p m)
    (λ n f e. absurd (refused_reply d p n os room (omega (arith, f.0)) e))
    (λ m e f z. ap (λ (x : Outcome Message). hears p (read_as os x)) e) (understood_fair os) z
