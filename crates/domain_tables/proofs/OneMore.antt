-- A list of ids with one more at its end: those kept of it, each once. Assumes nothing.
use Rattle.std.specs.Prelude.{if◌then◌else◌}
use mathlib.Core.Path.{◌≡◌, refl, sym, ap, ◌∙◌}
use mathlib.Core.Bool.{Bool, true, false, not, ◌&&◌, ◌||◌}
use mathlib.Core.List.{List, [], ◌∷◌, ◌++◌}
use Prim.Native.Nat.{ℕ}
use lib.Dec.{eqb}
use Rattle.cols_spec.specs.Sets.{keep, any, member, firsts, once}
use Rattle.cols_spec.proofs.Turns.{keep_append}
use Rattle.cols_spec.proofs.Members.{member_keep, member_once}

swap : (a b c : Bool) → ((a || b) || c) ≡ (b || (a || c))
swap true true c = refl
swap true false c = refl
swap false b c = refl

firsts_last : (xs before : List ℕ) (x : ℕ) → firsts before (xs ++ x ∷ []) ≡ firsts before xs ++ (if member x before || member x xs then [] else x ∷ [])
unfolding firsts member any
firsts_last [] before x = go (member x before)
  where
    go : (b : Bool) → (if b then [] else x ∷ []) ≡ (if b || false then [] else x ∷ [])
    go true = refl
    go false = refl
firsts_last (y ∷ xs) before x =
    rest (member y before) _ _ _ (firsts_last xs (y ∷ before) x ∙ ap (λ (b : Bool). firsts (y ∷ before) xs ++ (if b then [] else x ∷ [])) (swap (eqb x y) (member x before) (member x xs)))
  where
    rest : (b : Bool) (l r s : List ℕ) → l ≡ r ++ s → (if b then l else y ∷ l) ≡ (if b then r else y ∷ r) ++ s
    rest true l r s e = e
    rest false l r s e = ap (λ (l : List ℕ). y ∷ l) e

-- it is kept where it passes and is none of those kept already
pub kept_last : (f : ℕ → Bool) (xs : List ℕ) (x : ℕ) → keep f (once (xs ++ x ∷ [])) ≡ keep f (once xs) ++ (if f x && not (member x (keep f (once xs))) then x ∷ [] else [])
unfolding once member any keep
kept_last f xs x =
    ap (keep f) (firsts_last xs [] x) ∙ keep_append f (once xs) (if member x xs then [] else x ∷ [])
    ∙ ap (λ (l : List ℕ). keep f (once xs) ++ l) (passes (member x xs) (f x) refl)
    ∙ ap (λ (b : Bool). keep f (once xs) ++ (if f x && not b then x ∷ [] else [])) (sym (member_keep f x (once xs) ∙ ap (λ (b : Bool). f x && b) (member_once x xs)))
  where
    passes : (b c : Bool) → f x ≡ c → keep f (if b then [] else x ∷ []) ≡ (if f x && not (f x && b) then x ∷ [] else [])
    passes true true e = rw e refl
    passes true false e = rw e refl
    passes false true e = rw e refl
    passes false false e = rw e refl
