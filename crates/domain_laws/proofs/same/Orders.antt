-- Ids in order: an id in use is among them; tables that have the same ids have them in the same order, and so what each id brings. Assumes nothing.
use mathlib.Core.Path.{◌≡◌, refl, sym, ap, ◌∙◌, fun_ext}
use mathlib.Core.Bool.{true, true≢false}
use mathlib.Core.List.{List, [], ◌∷◌}
use Prim.Native.Nat.{ℕ, ◌<◌}
use Rattle.cols_spec.specs.Sets.{each, member}
use Rattle.cols_spec.specs.Places.{At, find, found, in_order}
use Rattle.cols_spec.proofs.Rows.{find_holds}
use Rattle.cols_spec.proofs.Members.{member_at, member_where}
use Rattle.cols_spec.proofs.Answers.{stands_found, found_somewhere}
use Rattle.cols_spec.proofs.Order.{in_order_has}
use Rattle.cols_spec.proofs.Kept.{each_same}

pub in_list_found : (ids : List ℕ) (x : ℕ) → 0 < x → member x ids ≡ true → found (find ids x) ≡ true
in_list_found ids x h m = let w = member_where ids x m in stands_found ids x w.0 h w.1

found_in_list : (ids : List ℕ) (x : ℕ) → found (find ids x) ≡ true → member x ids ≡ true
found_in_list ids x f = let w = found_somewhere (find ids x) f in let r = find_holds ids x w.0 w.1 in rw r.0 at (member_at ids w.0 r.1)

pub found_in_order : (ids : List ℕ) (x i : ℕ) → find ids x ≡ At i → member x (in_order ids) ≡ true
unfolding found
found_in_order ids x i e = in_order_has ids x (found_in_list ids x (ap found e)) (find_holds ids x i e).2

pub each_in_order : {B : Type 0} (ids ids' : List ℕ) → ((x : ℕ) → found (find ids x) ≡ found (find ids' x)) → (f g : ℕ → List B) → ((x : ℕ) → f x ≡ g x)
    → each f (in_order ids) ≡ each g (in_order ids')
each_in_order ids ids' same f g e =
    each_same f ids ids' (λ x h m. found_in_list ids x (same x ∙ in_list_found ids' x h m))
    (λ x h m n. absurd (true≢false (sym (found_in_list ids' x (sym (same x) ∙ in_list_found ids x h m)) ∙ n)))
    ∙ ap (λ (h : (ℕ → List _)). each h (in_order ids')) (fun_ext e)

each_one : (xs : List ℕ) → each (λ x. x ∷ []) xs ≡ xs
unfolding each
each_one [] = refl
each_one (x ∷ xs) = ap (λ (l : List ℕ). x ∷ l) (each_one xs)

pub in_order_same : (ids ids' : List ℕ) → ((x : ℕ) → found (find ids x) ≡ found (find ids' x)) → in_order ids ≡ in_order ids'
in_order_same ids ids' same = sym (each_one (in_order ids)) ∙ each_in_order ids ids' same (λ x. x ∷ []) (λ x. x ∷ []) (λ x. refl) ∙ each_one (in_order ids')
