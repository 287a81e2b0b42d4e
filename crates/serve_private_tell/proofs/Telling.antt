-- What is told of a list, and that it says what the tables are. Assumes nothing.
use Rattle.std.specs.Prelude.{if◌then◌else◌}
use mathlib.Core.Path.{◌≡◌, refl, sym, ap, ◌∙◌}
use mathlib.Core.Bool.{Bool, true, false}
use mathlib.Core.List.{List, [], ◌∷◌, ◌++◌}
use Prim.Native.Nat.{ℕ, zero, suc, ◌≤◌}
use native.Mathlib.Omega.{arith}
use lib.Dec.{eqb, ltb}
use lib.ListN.{length, take, drop}
use Rattle.cols_spec.specs.Sets.{null}
use Rattle.out_records.specs.Records.{Sent, records}
use Rattle.domain.specs.Tables.{Users}
use Rattle.domain.specs.Effects.{ignored, done, Settled, settled, delivers, settle}
use Rattle.domain.specs.Channels.{places, own}
use Rattle.serve_private_tell.specs.declared.Pick.{Pick}
use Rattle.serve_private_tell.specs.declared.Say.{Say}
use Rattle.serve_private_tell.specs.Sieve.{sieved, Takes, says, tells}

-- none, or some, of the first n
none_taken : (t : List ℕ) (n : ℕ) → n ≡ 0 → null (take n t) ≡ true
unfolding null
none_taken t n e = rw e refl

some_taken : (t : List ℕ) (n : ℕ) → (n ≡ 0 → ⊥) → n ≤ length t → null (take n t) ≡ false
unfolding null
some_taken t zero z h = absurd (z refl)
some_taken [] (suc n) z h = absurd (omega arith)
some_taken (x ∷ t) (suc n) z h = refl

-- what was taken is what is picked
module _ {us : Users} {k : Pick} {ids : List ℕ} (kept : List ℕ) {spots shares firsts : List ℕ} (n : ℕ) {mask : ℕ} (t : Takes us k ids (take n kept) spots shares firsts mask) where
  pub mask_of : mask ≡ places us (sieved us k ids)
  mask_of = t.mask_is ∙ ap (places us) t.taken_are

  pub none_sieved : n ≡ 0 → null (sieved us k ids) ≡ true
  none_sieved e = ap null (sym t.taken_are) ∙ none_taken kept n e

  pub some_sieved : (n ≡ 0 → ⊥) → n ≤ length kept → null (sieved us k ids) ≡ false
  some_sieved z h = ap null (sym t.taken_are) ∙ some_taken kept n z h

-- nobody is told, or those listed are
module _ (us : Users) (say : Say) (list out : List ℕ) where
  pub tells_nobody : null list ≡ true → settled {A = Unit {0}} 1 0 tt out ≡ settle tt (tells us say list tt) out
  unfolding settle
  tells_nobody e = rw e refl

  pub tells_some : null list ≡ false → {n k : ℕ} {o : List ℕ} → settled {A = Unit {0}} n k tt o ≡ delivers 0 tt tt (own us list (says say)) out → settled {A = Unit {0}} n k tt o ≡ settle tt (tells us say list tt) out
  unfolding settle
  tells_some e p = rw e p

  -- what was answered says what the tables are: after it where it was done, else before it
  module _ {A : Type 0} {n k : ℕ} {o : List ℕ} (e : settled {A = Unit {0}} n k tt o ≡ settle tt (tells us say list tt) out) (before after : A) where
    abbrev answer : Settled (Unit {0}) → Settled A
    answer x = settled x.reply x.sent (if eqb x.reply 0 then after else before) x.room

    told : answer (settled n k tt o) ≡ settle before (tells us say list after) out
    unfolding settle delivers
    told = ap answer e ∙ carry (null list) (own us list (says say))
      where
        carry : (b : Bool) (rs : List Sent) → answer (settle tt (if b then ignored else done tt rs) out) ≡ settle before (if b then ignored else done after rs) out
        carry true rs = refl
        carry false rs = go (ltb (length out) (length (records rs)))
          where
            go : (f : Bool) → answer (if f then settled 9 0 tt out else settled 0 (length (records rs)) tt (records rs ++ drop (length (records rs)) out))
                ≡ (if f then settled 9 0 before out else settled 0 (length (records rs)) after (records rs ++ drop (length (records rs)) out))
            go true = refl
            go false = refl

    pub told_else : eqb n 0 ≡ false → settled n k before o ≡ settle before (tells us say list after) out
    told_else h = rw h at told

    pub told_done : eqb n 0 ≡ true → settled n k after o ≡ settle before (tells us say list after) out
    told_done h = rw h at told
