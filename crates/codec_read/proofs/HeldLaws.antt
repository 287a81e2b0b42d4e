-- Cells behind the last value are 0, and what `decode` answers by its fields. Assumes nothing.
use mathlib.Core.Path.{◌≡◌, refl, sym, ap, ◌∙◌, subst}
use mathlib.Core.Bool.{Bool, true, false, cond, not}
use mathlib.Core.List.{List, [], ◌++◌}
use Prim.Native.Nat.{ℕ, suc, ◌+◌, ◌-◌, ◌<◌, ◌≤◌}
use native.Mathlib.Omega.{arith}
use lib.ListN.{length, take, drop, set, replicate, take-append-drop}
use lib.Seq.{drop-drop, drop-set-lt, length-take-le}
use lib.Dec.{eqb}
use borrow.Author.Tests.{eqb-true}
use Rattle.codec_table.specs.Limits.{list_limit}
use Rattle.codec_table.specs.Columns.{tail_at}
use Rattle.codec_table.proofs.CodecLaws.{wrong}
use Rattle.codec_table.specs.Codec.{Msg, Outcome, ok, refuse}
use Rattle.std.specs.Prelude.{Result, Ok, Err}
use Rattle.codec_octets.specs.declared.refusal.Refusal.{Refusal}
use Rattle.codec_octets.specs.Refusals.{refusal_number}
use Rattle.codec_read.specs.Held.{padded, is_string, held, decoded, head_of, kept, Reads}
use Rattle.codec_read.specs.declared.Decoded.{Decoded}
use Rattle.codec_read.specs.declared.Head.{Head}

module _ (k i : ℕ) (vs : List ℕ) (e : drop i vs ≡ replicate (k - i) 0) where
  pub clear_more : (v : ℕ) → i < k → drop (i + 1) (set vs i v) ≡ replicate (k - (i + 1)) 0
  clear_more v h =
      let c : k - i ≡ suc (k - (i + 1)) = omega arith in
      drop-set-lt (i + 1) vs i v (omega arith) ∙ sym (drop-drop 1 i vs) ∙ ap (λ l. drop 1 l) e ∙ rw c

  pub padded_all : i ≤ length vs → vs ≡ padded k (take i vs)
  padded_all h = sym (take-append-drop i vs) ∙ ap (λ l. take i vs ++ l) e ∙ rw (length-take-le i vs h)

module _ (s : List ℕ) {before after : List ℕ} where
  pub refused_is : (r : Refusal) (o : Outcome Msg) → o ≡ refuse (refusal_number r) → Reads s o before after (Err r)
  unfolding decoded
  refused_is r o e = record { head = ap (λ x. head_of (decoded s x)) (sym e); list = λ m f. absurd (wrong (sym e ∙ f)) }

  pub reads_as : {r : Result Head Refusal} (o p : Outcome Msg) → Reads s o before after r → o ≡ p → Reads s p before after r
  reads_as {r} o p h e = subst (λ x. Reads s x before after r) e h

-- what `decode` makes of them, which lends a list that is all 0
module _ (m : Msg) (none : tail_at m.number ≡ 0 → m.items ≡ []) where
  kept_clear : kept m (replicate list_limit 0) ≡ padded list_limit (cond (is_string m.number) [] m.items)
  unfolding kept
  kept_clear = go (eqb (tail_at m.number) 0) (eqb (tail_at m.number) 3) refl
    where
      go : (a b : Bool) → eqb (tail_at m.number) 0 ≡ a → cond (cond a false (not b)) (padded list_limit m.items) (replicate list_limit 0) ≡ padded list_limit (cond b [] m.items)
      go true true e = refl
      go false true e = refl
      go true false e = rw (none (eqb-true (tail_at m.number) 0 e))
      go false false e = refl

pub decoded_is : (s ids : List ℕ) (h : Head) (o : Outcome Msg) → Reads s o (replicate list_limit 0) ids (Ok h) → ((m : Msg) → o ≡ ok m → tail_at m.number ≡ 0 → m.items ≡ [])
    → ◌≡◌ {A = Outcome Decoded} (ok (record { head = h; ids = ids })) (decoded s o)
unfolding decoded held
decoded_is s ids h (ok m) r none =
    let e : h ≡ (held s m).head = cc r.head in
    rw (e, r.list m refl, kept_clear m (none m refl))
decoded_is s ids h (refuse n) r none = absurd (cc r.head)

pub not_decoded : (s ids before : List ℕ) (r : Refusal) (o : Outcome Msg) → Reads s o before ids (Err r) → ◌≡◌ {A = Outcome Decoded} (refuse (refusal_number r)) (decoded s o)
unfolding decoded
not_decoded s ids before r (ok m) h = absurd (cc h.head)
not_decoded s ids before r (refuse n) h = cc h.head
