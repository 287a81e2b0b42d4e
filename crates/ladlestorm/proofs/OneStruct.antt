-- Two structs that hold the same domain are one struct, where each column has its places. So two outcomes that a promise of the bridge allows are
-- equal: the reply, the octets sent, the struct and the room. Assumes nothing.
use mathlib.Core.Path.{◌≡◌, sym, ap, ◌∙◌}
use mathlib.Core.List.{List}
use Prim.Native.Nat.{ℕ}
use Rattle.domain.specs.Tables.{Domain as Tables}
use Rattle.domain.specs.Effects.{Settled, settled}
use Rattle.domain_tables.specs.declared.Domain.{Domain}
use Rattle.domain_tables.proofs.OneStruct as structs
use Rattle.ladlestorm.specs.Held.{domain_in}

-- each column has a value for each place of its table
abbrev pub Whole : Domain → Type 0
Whole d = structs.Whole d

pub one_struct : (d e : Domain) → Whole d → Whole e → domain_in d ≡ domain_in e → d ≡ e
one_struct d e w v q = structs.one_struct d e w v q

-- an event, and a start
pub one_event : (x : Settled Tables) (n n' k k' : ℕ) (d e : Domain) (out out' : List ℕ) → Whole d → Whole e → settled n k (domain_in d) out ≡ x → settled n' k' (domain_in e) out' ≡ x
    → (n ≡ n') × (k ≡ k') × (d ≡ e) × (out ≡ out')
one_event x n n' k k' d e out out' w v a b =
    let p : settled n k (domain_in d) out ≡ settled n' k' (domain_in e) out' = a ∙ sym b in
    (ap {B = ℕ} (λ (s : Settled Tables). s.reply) p, ap {B = ℕ} (λ (s : Settled Tables). s.sent) p, one_struct d e w v (ap {B = Tables} (λ (s : Settled Tables). s.tables) p), ap {B = List ℕ} (λ (s : Settled Tables). s.room) p)

pub one_start : (x : ℕ × Tables) (n n' : ℕ) (d e : Domain) → Whole d → Whole e → ◌≡◌ {A = ℕ × Tables} (n, domain_in d) x → ◌≡◌ {A = ℕ × Tables} (n', domain_in e) x → (n ≡ n') × (d ≡ e)
one_start x n n' d e w v a b =
    let p : ◌≡◌ {A = ℕ × Tables} (n, domain_in d) (n', domain_in e) = a ∙ sym b in
    (ap {B = ℕ} (λ (s : ℕ × Tables). s.0) p, one_struct d e w v (ap {B = Tables} (λ (s : ℕ × Tables). s.1) p))
