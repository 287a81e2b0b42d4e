-- Lists of users: those picked, each once, in their order; what is known of them grows with each. Assumes nothing.
use Rattle.std.specs.Prelude.{if◌then◌else◌}
use mathlib.Core.Path.{◌≡◌, refl, sym, ap, ◌∙◌}
use mathlib.Core.Bool.{Bool, true, false, not, ◌&&◌}
use mathlib.Core.List.{List, [], ◌∷◌, ◌++◌, append-nil}
use Prim.Native.Nat.{ℕ, ◌+◌, ◌≤◌, ◌<◌}
use native.Mathlib.Nat.{add-zero}
use native.Mathlib.Numerals.{add-one}
use native.Mathlib.Omega.{arith}
use borrow.Author.Tests.{eqb-true, eqb-false, ne_eqb}
use lib.Dec.{eqb}
use lib.ListN.{length, get_or, set, take, replicate, length-append, get_or-replicate, get_or-append}
use lib.Seq.{length-take-le, take-suc, take-suc-set, take_all, take-append-le, get_or-append_seam, get_or-set_same, get_or-set_other}
use Rattle.cols_spec.specs.Sets.{keep, member, firsts as firsts_of, once, has, with, connections, seats}
use Rattle.cols_spec.specs.Places.{Place, At, Nowhere, find, found, number}
use Rattle.cols_spec.proofs.Order.{keep_le}
use Rattle.cols_spec.proofs.Turns.{keep_append}
use Rattle.domain.specs.Tables.{Users, link, attached}
use Rattle.domain.proofs.Listed.{places_has}
use Rattle.domain_tables.proofs.Marking.{places_none, places_more}
use Rattle.domain_tables.proofs.OneMore.{kept_last}
use Rattle.serve_private_tell.specs.declared.Pick.{Pick}
use Rattle.serve_private_tell.specs.declared.Pick.TheVariants.{Attached, Admitted}
use Rattle.serve_private_tell.specs.Sieve.{counted, picked, sieved, home, Located, owned_by, Housed, leads, Takes}

-- ---- one id
module _ (us : Users) (v : ℕ) where
  abbrev by : ℕ → Place → Bool
  by adm w = elim w [ At i ↦ has adm i | Nowhere ↦ false ]

  picked_at : (k : Pick) (i : ℕ) → find us.ids v ≡ At i → picked us k v ≡ counted k i
  unfolding picked counted found
  picked_at Attached i e = ap found e
  picked_at (Admitted adm) i e = ap (by adm) e

  picked_nowhere : (k : Pick) → find us.ids v ≡ Nowhere → picked us k v ≡ false
  unfolding picked found
  picked_nowhere Attached e = ap found e
  picked_nowhere (Admitted adm) e = ap (by adm) e

  abbrev at : Place → ℕ
  at w = elim w [ At i ↦ link us i | Nowhere ↦ connections ]

  home_at : (i : ℕ) → find us.ids v ≡ At i → home us v ≡ link us i
  unfolding home
  home_at i e = ap at e

  abbrev on : ℕ → Place → Place
  on q w = elim w [ At i ↦ if eqb (link us i) q then At i else Nowhere | Nowhere ↦ Nowhere ]

  pub home_is : (q : ℕ) → q < 16 → eqb (home us v) q ≡ found (attached us q v)
  unfolding home attached found
  home_is q h = go (find us.ids v)
    where
      tested : (b : Bool) (i : ℕ) → b ≡ found (if b then At i else Nowhere)
      tested true i = refl
      tested false i = refl

      go : (w : Place) → eqb (at w) q ≡ found (on q w)
      go (At i) = tested (eqb (link us i) q) i
      go Nowhere = ne_eqb connections q (λ e. omega arith)

-- ---- one more at the end
keep_last : (f : ℕ → Bool) (xs : List ℕ) (x : ℕ) → keep f (xs ++ x ∷ []) ≡ keep f xs ++ (if f x then x ∷ [] else [])
unfolding keep
keep_last f xs x = keep_append f xs (x ∷ [])

sieved_last : (us : Users) (k : Pick) (xs : List ℕ) (x : ℕ) → sieved us k (xs ++ x ∷ []) ≡ sieved us k xs ++ (if picked us k x && not (member x (sieved us k xs)) then x ∷ [] else [])
unfolding sieved
sieved_last us k xs x = kept_last (picked us k) xs x

pub one_more : (l : List ℕ) (i : ℕ) → i < length l → take (i + 1) l ≡ take i l ++ get_or l i 0 ∷ []
one_more l i h = rw (add-one i) (take-suc l i 0 h)

pub one_stored : (l : List ℕ) (n x : ℕ) → n < length l → take (n + 1) (set l n x) ≡ take n l ++ x ∷ []
one_stored l n x h = rw (add-one n) (take-suc-set l n x h)

pub none_of : (l : List ℕ) → length l ≡ 0 → l ≡ []
none_of [] e = refl
none_of (x ∷ l) e = absurd (omega arith)

-- ---- what is known of a list's users, with one more at its end
module _ {us : Users} {ids spots shares firsts : List ℕ} (h : Housed us ids spots shares firsts) (x v n : ℕ) (is : v ≡ home us x) (end : n ≡ length ids) where
  own_more : (q : ℕ) → q < 16 → (b : Bool) → eqb v q ≡ b → owned_by us q (ids ++ x ∷ []) ≡ owned_by us q ids ++ (if b then x ∷ [] else [])
  own_more q l b e =
      keep_last (λ u. found (attached us q u)) ids x
      ∙ ap (λ (b : Bool). owned_by us q ids ++ (if b then x ∷ [] else [])) (sym (home_is us x q l) ∙ ap (λ (p : ℕ). eqb p q) (sym is) ∙ e)

  located_more : n < length spots → Located us (ids ++ x ∷ []) (set spots n v)
  located_more l i k = go (eqb i n) refl
    where
      go : (b : Bool) → eqb i n ≡ b → get_or (set spots n v) i 0 ≡ home us (get_or (ids ++ x ∷ []) i 0)
      go true q = rw (eqb-true i n q) (get_or-set_same spots n v 0 l ∙ is ∙ ap (home us) (sym (rw end (get_or-append_seam ids x [] 0))))
      go false q =
          let low : i < length ids = omega (arith, k, eqb-false i n q, length-append ids (x ∷ [])) in
          get_or-set_other spots n i v 0 (eqb-false i n q) ∙ h.located i low ∙ ap (home us) (sym (get_or-append ids (x ∷ []) 0 i low))

  shared_more : length shares ≡ 16 → (q : ℕ) → q < 16 → get_or (set shares v (get_or shares v 0 + 1)) q 0 ≡ length (owned_by us q (ids ++ x ∷ []))
  shared_more l q k = go (eqb v q) refl
    where
      go : (b : Bool) → eqb v q ≡ b → get_or (set shares v (get_or shares v 0 + 1)) q 0 ≡ length (owned_by us q (ids ++ x ∷ []))
      go true e =
          rw (eqb-true v q e) (get_or-set_same shares q (get_or shares q 0 + 1) 0 (omega arith))
          ∙ ap (λ (m : ℕ). m + 1) (h.shared q k)
          ∙ sym (ap length (own_more q k true e) ∙ length-append (owned_by us q ids) (x ∷ []))
      go false e =
          get_or-set_other shares v q _ 0 (λ r. eqb-false v q e (sym r)) ∙ h.shared q k
          ∙ sym (ap length (own_more q k false e) ∙ length-append (owned_by us q ids) [] ∙ add-zero (length (owned_by us q ids)))

  -- how many stand before a connection's first user
  abbrev Led : (q f : ℕ) → Type 0
  Led q f = (f ≤ length (ids ++ x ∷ [])) × (owned_by us q (take f (ids ++ x ∷ [])) ≡ [])

  still : (q f : ℕ) → f ≤ length ids → owned_by us q (take f ids) ≡ [] → Led q f
  still q f l e = (omega (arith, length-append ids (x ∷ [])), ap (owned_by us q) (take-append-le f ids (x ∷ []) l) ∙ e)

  led_more : length firsts ≡ 16 → (q : ℕ) → q < 16 → Led q (get_or (set firsts v (leads (get_or shares v 0) (get_or firsts v 0) n)) q 0)
  unfolding leads
  led_more l q k = go (eqb v q) refl
    where
      old : Led q (get_or firsts q 0)
      old = still q (get_or firsts q 0) (h.led q k).0 (h.led q k).1

      new : (b : Bool) → eqb (get_or shares q 0) 0 ≡ b → Led q (if b then n else get_or firsts q 0)
      new true e = still q n (omega arith) (ap (owned_by us q) (take_all n ids (omega arith)) ∙ none_of (owned_by us q ids) (sym (h.shared q k) ∙ eqb-true (get_or shares q 0) 0 e))
      new false e = old

      go : (b : Bool) → eqb v q ≡ b → Led q (get_or (set firsts v (leads (get_or shares v 0) (get_or firsts v 0) n)) q 0)
      go true e = rw (eqb-true v q e, get_or-set_same firsts q (leads (get_or shares q 0) (get_or firsts q 0) n) 0 (omega arith)) (new (eqb (get_or shares q 0) 0) refl)
      go false e = rw (get_or-set_other firsts v q (leads (get_or shares v 0) (get_or firsts v 0) n) 0 (λ r. eqb-false v q e (sym r))) old

  housed_more : n < length spots → length shares ≡ 16 → length firsts ≡ 16
      → Housed us (ids ++ x ∷ []) (set spots n v) (set shares v (get_or shares v 0 + 1)) (set firsts v (leads (get_or shares v 0) (get_or firsts v 0) n))
  housed_more a b c = record { located = located_more a; shared = shared_more b; led = led_more c }

-- ---- a pass over a list: nothing yet, and one id more, which is taken or not
pub takes_none : (us : Users) (k : Pick) (spots shares firsts : List ℕ) → shares ≡ replicate 16 0 → firsts ≡ replicate 16 0 → Takes us k [] [] spots shares firsts 0
unfolding sieved once firsts_of keep
takes_none us k spots shares firsts a b = record {
  taken_are = refl;
  mask_is = places_none us;
  housed = record {
    located = λ i h. absurd (omega arith);
    shared = λ q h. rw a (get_or-replicate {A = ℕ} 16 q 0 0 h);
    led = λ q h. rw (b, get_or-replicate {A = ℕ} 16 q 0 0 h) (omega arith, refl);
  };
}

module _ {us : Users} {k : Pick} {xs taken spots shares firsts : List ℕ} {mask : ℕ} (t : Takes us k xs taken spots shares firsts mask) (x : ℕ) where
  passes : (picked us k x && not (member x (sieved us k xs))) ≡ false → Takes us k (xs ++ x ∷ []) taken spots shares firsts mask
  passes e = record { taken_are = t.taken_are ∙ sym (sieved_last us k xs x ∙ rw e (append-nil (sieved us k xs))); mask_is = t.mask_is; housed = t.housed }

  pub pass_nowhere : find us.ids x ≡ Nowhere → Takes us k (xs ++ x ∷ []) taken spots shares firsts mask
  pass_nowhere e = passes (rw (picked_nowhere us x k e))

  module _ (i : ℕ) (here : find us.ids x ≡ At i) (low : i < 64) where
    pub pass_uncounted : counted k i ≡ false → Takes us k (xs ++ x ∷ []) taken spots shares firsts mask
    pass_uncounted e = passes (rw (picked_at us x k i here ∙ e))

    module _ (c : counted k i ≡ true) where
      yes : picked us k x ≡ true
      yes = picked_at us x k i here ∙ c

      -- a place has one id
      seen : has mask i ≡ member x (sieved us k xs)
      seen = ap (λ (m : ℕ). has m i) t.mask_is ∙ places_has us x i here low taken ∙ ap (member x) t.taken_are

      pub pass_seen : has mask i ≡ true → Takes us k (xs ++ x ∷ []) taken spots shares firsts mask
      pass_seen e = passes (rw (yes, sym seen ∙ e))

      pub take_new : has mask i ≡ false → (v n : ℕ) → v ≡ link us i → n ≡ length taken → n < length spots → length shares ≡ 16 → length firsts ≡ 16
          → Takes us k (xs ++ x ∷ []) (taken ++ x ∷ []) (set spots n v) (set shares v (get_or shares v 0 + 1)) (set firsts v (leads (get_or shares v 0) (get_or firsts v 0) n)) (with seats mask i)
      unfolding number
      take_new e v n is end a b d = record {
        taken_are = ap (λ (l : List ℕ). l ++ x ∷ []) t.taken_are ∙ sym (sieved_last us k xs x ∙ rw (yes, sym seen ∙ e));
        mask_is = places_more us taken x mask i t.mask_is (sym (ap (number 64) here));
        housed = housed_more t.housed x v n (is ∙ sym (home_at us x i here)) end a b d;
      }

-- the same where those taken are the first n of a list, and the new one is stored behind them
pub store_new : {us : Users} {k : Pick} {xs : List ℕ} (list : List ℕ) (n : ℕ) {spots shares firsts : List ℕ} {mask : ℕ} → Takes us k xs (take n list) spots shares firsts mask
    → (x j : ℕ) → find us.ids x ≡ At j → j < 64 → counted k j ≡ true → has mask j ≡ false → n < length list → n < length spots → length shares ≡ 16 → length firsts ≡ 16 → (v : ℕ) → v ≡ link us j
    → (shares' firsts' : List ℕ) (mask' : ℕ) → shares' ≡ set shares v (get_or shares v 0 + 1) → firsts' ≡ set firsts v (leads (get_or shares v 0) (get_or firsts v 0) n) → mask' ≡ with seats mask j
    → Takes us k (xs ++ x ∷ []) (take (n + 1) (set list n x)) (set spots n v) shares' firsts' mask'
store_new list n t x j here seat c e a b d f v is shares' firsts' mask' p q r =
    rw (one_stored list n x a, p, q, r) (take_new t x j here seat c e v n is (sym (length-take-le n list (omega arith))) b d f)

-- the id passed is the next of a list
pub next_passed : {us : Users} {k : Pick} (list : List ℕ) (i x : ℕ) {taken spots shares firsts : List ℕ} {mask : ℕ} → i < length list → x ≡ get_or list i 0
    → Takes us k (take i list ++ x ∷ []) taken spots shares firsts mask → Takes us k (take (i + 1) list) taken spots shares firsts mask
next_passed list i x low e t = rw (one_more list i low, sym e) t

-- how many users of the list a connection has is no more than they are
pub share_le : {us : Users} {ids spots shares firsts : List ℕ} → Housed us ids spots shares firsts → (q : ℕ) → q < 16 → get_or shares q 0 ≤ length ids
share_le {us} {ids} h q l = omega (arith, h.shared q l, keep_le (λ u. found (attached us q u)) ids)
