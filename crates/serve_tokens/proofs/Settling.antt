-- What an inquiry's answer settles. Assumes nothing.
use mathlib.Core.Path.{◌≡◌, sym, ap, ◌∙◌}
use mathlib.Core.List.{List, [], ◌∷◌}
use Prim.Native.Nat.{ℕ, ◌≤◌}
use lib.ListN.{length}
use Rattle.codec_table.specs.Named.{Message}
use Rattle.out_records.specs.Records.{to, tell, wire, record_of}
use Rattle.out_records.specs.Out.{guarded, told}
use Rattle.cols_spec.specs.Places.{At}
use Rattle.domain.specs.Tables.{Users, Tokens, attached}
use Rattle.domain.specs.Effects.{Effect, done, from, Settled, settled, settle}
use Rattle.serve_reply.specs.Whole.{whole}
use Rattle.serve_reply.proofs.Sending.{confirmed, many_sent, whole_sends, did_nothing}
use Rattle.serve_reply.proofs.Initiators.{from_at}

-- the octets of a message went to p, or to each connection of a mask, and the tables stay
module _ (ts : Tokens) (x : Message) (out : List ℕ) {m o : List ℕ} {n k : ℕ} (e : m ≡ wire x) (l : length m ≤ 1024) where
  pub one_told : (p : ℕ) → settled {A = Unit {0}} n k tt o ≡ whole (guarded 0 m (record_of m p)) out → settled n k ts o ≡ settle ts (done ts (to p x ∷ [])) out
  one_told p h = did_nothing (to p x ∷ []) out (confirmed x p out e l h) ts

  pub all_told : (mask : ℕ) → settled {A = Unit {0}} n k tt o ≡ whole (guarded 0 m (told mask m)) out → settled n k ts o ≡ settle ts (done ts (tell mask x)) out
  all_told mask h = did_nothing (tell mask x) out (h ∙ whole_sends _ _ _ (many_sent m x e l mask)) ts

-- any request
pub asks_done : (us : Users) (p u : ℕ) (act : (ℕ → Effect Tokens)) (i : ℕ) → attached us p u ≡ At i → (ts : Tokens) (out : List ℕ) {s : Settled Tokens} → s ≡ settle ts (act i) out
    → s ≡ settle ts (from us p u act) out
asks_done us p u act i here ts out r = r ∙ ap (λ (x : Effect Tokens). settle ts x out) (sym (from_at us p u act i here))
