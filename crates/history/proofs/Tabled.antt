-- What a request sends that names users by their places is read back: sound tables have ids in their ranges. Assumes nothing.
use Rattle.std.specs.Prelude.{if◌then◌else◌}
use mathlib.Core.Path.{◌≡◌, refl}
use mathlib.Core.Bool.{Bool, true, false≢true}
use mathlib.Core.List.{List}
use Prim.Native.Nat.{ℕ, ◌≤◌}
use native.Mathlib.Omega.{arith}
use lib.Dec.{eqb}
use lib.ListN.{length}
use Rattle.cols_spec.specs.Sets.{keep, null, below, once, connections}
use Rattle.cols_spec.specs.Places.{Place, At, Nowhere, find, found}
use Rattle.cols_spec.proofs.Order.{keep_le}
use Rattle.cols_spec.proofs.Rows.{find_holds}
use Rattle.codec_table.specs.Named.{Message, CAin, CEin}
use Rattle.codec_table.proofs.NamedLaws.{User, Token, Users}
use Rattle.out_messages.specs.declared.Confirm.TheVariants.{Give}
use Rattle.domain.specs.declared.token.Holding.{Holding}
use Rattle.domain.specs.declared.token.Holding.TheVariants.{Free, Grabbed, Inhibited, Giving, Given}
use Rattle.domain.specs.Tables.{Domain, name, link, attached, state}
use Rattle.domain.specs.Tokens.{offered_to}
use Rattle.domain.specs.Channels.{own, attached_of, admitted_of, admit, expel}
use Rattle.domain.specs.Passing.{informed, answer}
use Rattle.domain.specs.Leaving.{those_on}
use Rattle.domain.proofs.invariant.Sound.{Seated, Held, Sound}
use Rattle.domain.proofs.invariant.Held.{state_held}
use Rattle.provider.proofs.Room.{once_le}
use Rattle.history.proofs.ReadBack.{Readable, Readables}
use Rattle.history.proofs.Readables.{confirm_readable, CAin_readable, CEin_readable}
use Rattle.history.proofs.Readables.{all_each, all_either, kept_users}
use Rattle.history.proofs.Told.{Told, told_either, told_from, status_le, manages_told}

module _ (d : Domain) (s : Sound d) where
  -- who sits at a place has an id in its range
  pub seated_user : (i : ℕ) → Seated d.users i → User (name d.users i)
  unfolding name
  seated_user i h = let r = s.users_are.rows i h in record { least = r.low; most = r.high }

  -- and so has who is found
  found_user : (u i : ℕ) → find d.users.ids u ≡ At i → User u
  unfolding name
  found_user u i e = let r = find_holds d.users.ids u i e in rw r.0 at (seated_user i (rw r.0 r.2))

  -- and who is attached on a connection
  attached_user : (q u : ℕ) → found (attached d.users q u) ≡ true → User u
  unfolding attached found
  attached_user q u h = go (find d.users.ids u) refl h
    where
      go : (w : Place) → find d.users.ids u ≡ w
          → found (elim w as (λ (_ : Place). Place) [ At i ↦ if eqb (link d.users i) q then At i else Nowhere | Nowhere ↦ Nowhere ]) ≡ true → User u
      go (At i) e t = found_user u i e
      go Nowhere e t = absurd (false≢true t)

  -- of listed ids those attached on a connection are a list of users
  pub those_users : (q : ℕ) (ids : List ℕ) → length ids ≤ 64 → Users (those_on d.users q ids)
  unfolding those_on
  those_users q ids h =
      record { few = omega (arith, keep_le (λ u. found (attached d.users q u)) ids); each = kept_users (λ u. found (attached d.users q u)) (attached_user q) ids }

  -- a message to each connection with such ids
  own_told : (ids : List ℕ) (say : (List ℕ → Message)) → length ids ≤ 64 → ((vs : List ℕ) → Users vs → Readable (say vs)) → Readables (own d.users ids say)
  unfolding own those_on
  own_told ids say h r = all_each _ (λ q. all_either (null (those_on d.users q ids)) _ _ tt (r (those_on d.users q ids) (those_users q ids h), tt)) (below connections)

  module _ (p u c : ℕ) (ids : List ℕ) (few : length ids ≤ 64) (chan : User c) where
    -- of listed ids no more are left
    kept_few : (f : (ℕ → Bool)) → length (keep f (once ids)) ≤ 64
    kept_few f = omega (arith, keep_le f (once ids), once_le ids)

    -- CArq: CAin
    pub admit_told : User u → Told (admit d.users d.channels p u c ids)
    unfolding admit attached_of
    admit_told user = manages_told d.users d.channels p u c _ λ j m adm.
        told_either (null (attached_of d.users ids)) _ _ tt
        (own_told (attached_of d.users ids) (CAin u c) (kept_few _) (λ vs l. CAin_readable vs l u c user chan))

    -- CErq: CEin
    pub expel_told : Told (expel d.users d.channels p u c ids)
    unfolding expel admitted_of
    expel_told = manages_told d.users d.channels p u c _ λ j m adm.
        told_either (null (admitted_of d.users adm ids)) _ _ tt
        (own_told (admitted_of d.users adm ids) (CEin c) (kept_few _) (λ vs l. CEin_readable vs l c chan))

  -- the giver of an offer that is answered sits at a place
  informed_told : (n k : ℕ) → n ≤ 15 → Token k → (h x : Holding) → Held d.users h → Readables (informed d.users n k h x)
  unfolding informed
  informed_told n k l t Free x e = tt
  informed_told n k l t (Grabbed g) x e = tt
  informed_told n k l t (Inhibited is) x e = tt
  informed_told n k l t (Giving g r) x e = (confirm_readable (seated_user g e.0) t Give n _ l (status_le x g), tt)
  informed_told n k l t (Given r) x e = tt

  -- TVrs: TVcf
  pub answer_told : (p n r k : ℕ) → n ≤ 15 → Token k → Told (answer d.users d.tokens p n r k)
  unfolding answer
  answer_told p n r k h t = told_from d.users p r _ λ i.
      told_either (offered_to (state d.tokens k) i) _ _ (informed_told n k h t (state d.tokens k) _ (state_held d s k)) tt
