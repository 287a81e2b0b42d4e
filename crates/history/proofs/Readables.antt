-- Which messages are read back, each by the ranges of its fields; and lists of records of such. Assumes nothing.
use Rattle.std.specs.Prelude.{if◌then◌else◌}
use mathlib.Core.Path.{◌≡◌, refl}
use mathlib.Core.Bool.{Bool, true, false}
use mathlib.Core.List.{List, [], ◌∷◌, ◌++◌, map}
use mathlib.Core.Option.{Option, none, some}
use Prim.Native.Nat.{ℕ, zero, suc, ◌≤◌, zero-le}
use native.Mathlib.Omega.{arith}
use lib.ListN.{length, take, length-take}
use Rattle.cols_spec.specs.Sets.{keep, each, listed, connections}
use Rattle.codec_octets.specs.Octets.{Bytes, an_octet, an_id}
use Rattle.codec_table.specs.Limits.{message_limit}
use Rattle.codec_table.specs.Named.{Message, RJum, AUcf, DUin, CJcf, CCcf, CDin, CAin, CEin, TGcf, TIcf, TVcf, TRcf, TVin, TPin, TTcf}
use Rattle.codec_table.proofs.NamedLaws.{Between, Each, User, Channel, Token, Users, Present, Ranges, in_ranges, size_of, size_of_ids, short_length}
use Rattle.out_records.specs.Records.{Sent, to, tell}
use Rattle.out_messages.specs.declared.Confirm.{Confirm}
use Rattle.out_messages.specs.declared.Confirm.TheVariants.{Grab, Inhibit, Give, Release}
use Rattle.out_messages.specs.Confirms.{confirm}
use Rattle.history.proofs.ReadBack.{Readable, Readables}

-- fields in their ranges, and not too long
readable : (m : Message) → Ranges m → size_of m ≤ message_limit → Readable m
readable m r h = record { ranged = in_ranges m r; few = h }

-- a number from 0 up
pub at_most_lem : {high v : ℕ} → v ≤ high → Between 0 high v
at_most_lem h = record { least = zero-le; most = h }

-- ---- messages of fixed size
module _ {u k : ℕ} (user : User u) (token : Token k) where
  -- TGcf, TIcf, TVcf, TRcf
  pub confirm_readable : (c : Confirm) (n s : ℕ) → n ≤ 15 → s ≤ 7 → Readable (confirm c n u k s)
  unfolding size_of
  confirm_readable Grab n s h l = readable (TGcf n u k s) (at_most_lem h, user, token, at_most_lem l) (omega arith)
  confirm_readable Inhibit n s h l = readable (TIcf n u k s) (at_most_lem h, user, token, at_most_lem l) (omega arith)
  confirm_readable Give n s h l = readable (TVcf n u k s) (at_most_lem h, user, token, at_most_lem l) (omega arith)
  confirm_readable Release n s h l = readable (TRcf n u k s) (at_most_lem h, user, token, at_most_lem l) (omega arith)

  -- TVin
  pub TVin_readable : (r : ℕ) → User r → Readable (TVin u k r)
  unfolding size_of
  TVin_readable r h = readable (TVin u k r) (user, token, h) (omega arith)

  -- TPin
  pub TPin_readable : Readable (TPin u k)
  unfolding size_of
  TPin_readable = readable (TPin u k) (user, token) (omega arith)

  -- TTcf
  pub TTcf_readable : (s : ℕ) → s ≤ 7 → Readable (TTcf u k s)
  unfolding size_of
  TTcf_readable s h = readable (TTcf u k s) (user, token, at_most_lem h) (omega arith)

-- CDin
pub CDin_readable : (c : ℕ) → User c → Readable (CDin c)
unfolding size_of
CDin_readable c h = readable (CDin c) h (omega arith)

module _ (n : ℕ) (h : n ≤ 15) where
  -- AUcf
  pub AUcf_readable : (v : Option ℕ) → Present User v → Readable (AUcf n v)
  unfolding size_of
  AUcf_readable none p = readable (AUcf n none) (at_most_lem h, p) (omega arith)
  AUcf_readable (some v) p = readable (AUcf n (some v)) (at_most_lem h, p) (omega arith)

  -- CJcf
  pub CJcf_readable : (u c : ℕ) → User u → Channel c → (v : Option ℕ) → Present Channel v → Readable (CJcf n u c v)
  unfolding size_of
  CJcf_readable u c a b none p = readable (CJcf n u c none) (at_most_lem h, a, b, p) (omega arith)
  CJcf_readable u c a b (some v) p = readable (CJcf n u c (some v)) (at_most_lem h, a, b, p) (omega arith)

  -- CCcf
  pub CCcf_readable : (u : ℕ) → User u → (v : Option ℕ) → Present User v → Readable (CCcf n u v)
  unfolding size_of
  CCcf_readable u a none p = readable (CCcf n u none) (at_most_lem h, a, p) (omega arith)
  CCcf_readable u a (some v) p = readable (CCcf n u (some v)) (at_most_lem h, a, p) (omega arith)

-- ---- messages with a list
module _ (us : List ℕ) (l : Users us) where
  -- the octets of a list
  users_size : size_of_ids us ≤ 129
  users_size = omega (arith, l.few, short_length (length us) (omega (arith, l.few)))

  -- DUin
  pub DUin_readable : (n : ℕ) → n ≤ 4 → Readable (DUin n us)
  unfolding size_of
  DUin_readable n h = readable (DUin n us) (at_most_lem h, l) (omega (arith, users_size))

  -- CAin
  pub CAin_readable : (u c : ℕ) → User u → User c → Readable (CAin u c us)
  unfolding size_of
  CAin_readable u c a b = readable (CAin u c us) (a, b, l) (omega (arith, users_size))

  -- CEin
  pub CEin_readable : (c : ℕ) → User c → Readable (CEin c us)
  unfolding size_of
  CEin_readable c b = readable (CEin c us) (b, l) (omega (arith, users_size))

-- the first octets of a message are octets
first_octets : (n : ℕ) (os : List ℕ) → Bytes os → Each an_octet (take n os)
first_octets zero os y = tt
first_octets (suc n) [] y = tt
first_octets (suc n) (o ∷ os) y = (at_most_lem (omega (arith, y.0)), first_octets n os y.1)

-- RJum
pub RJum_readable : (n : ℕ) (os : List ℕ) → n ≤ 13 → Bytes os → Readable (RJum n (take 16 os))
unfolding size_of
RJum_readable n os h y =
    let few : length (take 16 os) ≤ 16 = simp length-take (omega arith) in
    readable (RJum n (take 16 os)) (at_most_lem h, record { few = omega arith; each = first_octets 16 os y }) (omega (arith, few, short_length (length (take 16 os)) (omega arith)))

-- ---- lists of records

-- one behind the other
pub all_append : (rs ts : List Sent) → Readables rs → Readables ts → Readables (rs ++ ts)
all_append [] ts a b = b
all_append (to q m ∷ rs) ts a b = (a.0, all_append rs ts a.1 b)

-- one message to each connection of a mask
pub all_told : (mask : ℕ) (m : Message) → Readable m → Readables (tell mask m)
unfolding tell
all_told mask m h = go (listed connections mask)
  where
    go : (qs : List ℕ) → Readables (map (λ q. to q m) qs)
    go [] = tt
    go (q ∷ qs) = (h, go qs)

-- records for each of a list
pub all_each : (f : (ℕ → List Sent)) → ((x : ℕ) → Readables (f x)) → (xs : List ℕ) → Readables (each f xs)
unfolding each
all_each f h [] = tt
all_each f h (x ∷ xs) = all_append (f x) (each f xs) (h x) (all_each f h xs)

-- one of two lists
pub all_either : (b : Bool) (rs ts : List Sent) → Readables rs → Readables ts → Readables (if b then rs else ts)
all_either true rs ts h k = h
all_either false rs ts h k = k

-- those kept are users
pub kept_users : (f : (ℕ → Bool)) → ((u : ℕ) → f u ≡ true → User u) → (xs : List ℕ) → Each (an_id 1001) (keep f xs)
unfolding keep
kept_users f h [] = tt
kept_users f h (x ∷ xs) = go (f x) refl (kept_users f h xs)
  where
    go : (b : Bool) → f x ≡ b → Each (an_id 1001) (keep f xs) → Each (an_id 1001) (if b then x ∷ keep f xs else keep f xs)
    go true e r = (h x e, r)
    go false e r = r
