-- Lists of records of which each passes a test: one message to several connections, each connection's own ids, what leaving sends, and what is sent with a
-- refusal. Assumes nothing.
use Rattle.std.specs.Prelude.{if◌then◌else◌}
use mathlib.Core.Path.{◌≡◌, refl}
use mathlib.Core.Bool.{Bool, true, false, not, ◌&&◌}
use mathlib.Core.List.{List, [], ◌∷◌, ◌++◌, map}
use Prim.Native.Nat.{ℕ}
use lib.Dec.{eqb}
use lib.ListN.{take}
use Rattle.cols_spec.specs.Sets.{all, null, each, keep, below, has, with, meet, listed, connections, seats}
use Rattle.cols_spec.specs.Places.{found, in_order}
use Rattle.codec_table.specs.Named.{Message, RJum, DUin, CDin, TVcf, no_such_user}
use Rattle.out_records.specs.Records.{Sent, to, tell}
use Rattle.domain.specs.declared.channel.Kind.{Kind}
use Rattle.domain.specs.declared.channel.Kind.TheVariants.{Static, User, Private, Assigned}
use Rattle.domain.specs.declared.token.Holding.{Holding}
use Rattle.domain.specs.declared.token.Holding.TheVariants.{Free, Grabbed, Inhibited, Giving, Given}
use Rattle.domain.specs.Tables.{Users, Domain, name, link, attached, hosts}
use Rattle.domain.specs.Channels.{own}
use Rattle.domain.specs.Leaving.{ended, returned, farewell}
use Rattle.domain.specs.Events.{complaint}

-- of any list
module _ {A : Type 0} (f : A → Bool) where
  pub all_append : (xs ys : List A) → all f xs ≡ true → all f ys ≡ true → all f (xs ++ ys) ≡ true
  unfolding all
  all_append [] ys a b = b
  all_append (x ∷ xs) ys a b = go (f x) a (all_append xs ys)
    where
      go : (c : Bool) → (c && all f xs) ≡ true → (all f xs ≡ true → all f ys ≡ true → all f (xs ++ ys) ≡ true) → (c && all f (xs ++ ys)) ≡ true
      go true q rec = rec q b
      go false q rec = q

  pub all_each : {B : Type 0} (g : B → List A) → ((b : B) → all f (g b) ≡ true) → (xs : List B) → all f (each g xs) ≡ true
  unfolding all each
  all_each g law [] = refl
  all_each g law (x ∷ xs) = all_append (g x) (each g xs) (law x) (all_each g law xs)

  pub none_all : all f [] ≡ true
  unfolding all
  none_all = refl

  pub one_all : (x : A) → f x ≡ true → all f (x ∷ []) ≡ true
  unfolding all
  one_all x q = rw q

  pub all_either : (b : Bool) (xs ys : List A) → all f xs ≡ true → all f ys ≡ true → all f (if b then xs else ys) ≡ true
  all_either true xs ys p q = p
  all_either false xs ys p q = q

module _ (test : Sent → Bool) where
  -- one message to several connections, and each connection's own ids
  pub tell_all : (m : ℕ) (s : Message) → ((p : ℕ) → test (to p s) ≡ true) → all test (tell m s) ≡ true
  unfolding tell all
  tell_all m s law = go (listed connections m)
    where
      go : (xs : List ℕ) → all test (map (λ p. to p s) xs) ≡ true
      go [] = refl
      go (x ∷ xs) = rw (law x) (go xs)

  pub own_all : (us : Users) (ids : List ℕ) (say : List ℕ → Message) → ((p : ℕ) (xs : List ℕ) → test (to p (say xs)) ≡ true) → all test (own us ids say) ≡ true
  unfolding own
  own_all us ids say law = all_each test _ (λ p. go p (keep (λ u. found (attached us p u)) ids) (null (keep (λ u. found (attached us p u)) ids))) (below connections)
    where
      go : (p : ℕ) (xs : List ℕ) (b : Bool) → all test (if b then [] else to p (say xs) ∷ []) ≡ true
      go p xs true = none_all test
      go p xs false = one_all test (to p (say xs)) (law p xs)

  -- an RJum, or nothing
  pub complaint_all : ((p n : ℕ) (octets : List ℕ) → test (to p (RJum n octets)) ≡ true) → (n p : ℕ) (octets : List ℕ) → all test (complaint n p octets) ≡ true
  unfolding complaint
  complaint_all law n p octets =
      all_either test (eqb n 5) _ _ (one_all test _ (law p 4 (take 16 octets))) (all_either test (eqb n 6) _ _ (one_all test _ (law p 2 (take 16 octets))) (none_all test))

  -- DUin, CDin and TVcf of those who leave
  module _ (on_leaving : (p n : ℕ) (ids : List ℕ) → test (to p (DUin n ids)) ≡ true) (on_end : (p c : ℕ) → test (to p (CDin c)) ≡ true)
      (on_Return : (p u k s : ℕ) → test (to p (TVcf no_such_user u k s)) ≡ true) where
    -- a channel that ends with its manager
    ended_all : (us : Users) (gone live c : ℕ) (k : Kind) → all test (ended us gone live c k) ≡ true
    unfolding ended
    ended_all us gone live c Static = none_all test
    ended_all us gone live c User = none_all test
    ended_all us gone live c (Private g adm) = all_either test (has gone g) _ _ (tell_all (meet connections (hosts us (with seats adm g)) live) (CDin c) (λ p. on_end p c)) (none_all test)
    ended_all us gone live c Assigned = none_all test

    -- a token that goes back to its giver
    returned_all : (us : Users) (gone k : ℕ) (h : Holding) → all test (returned us gone k h) ≡ true
    unfolding returned
    returned_all us gone k Free = none_all test
    returned_all us gone k (Grabbed g) = none_all test
    returned_all us gone k (Inhibited is) = none_all test
    returned_all us gone k (Giving g r) = all_either test (has gone r && not (has gone g)) _ _ (one_all test _ (on_Return (link us g) (name us g) k _)) (none_all test)
    returned_all us gone k (Given r) = none_all test

    -- all of them
    pub farewell_all : (d : Domain) (gone live reason : ℕ) (ids : List ℕ) → all test (farewell d gone live reason ids) ≡ true
    unfolding farewell
    farewell_all d gone live reason ids =
        all_append test _ _
        (all_append test _ _ (all_either test (null ids) _ _ (none_all test) (tell_all live (DUin reason ids) (λ p. on_leaving p reason ids)))
        (all_each test _ (λ c. ended_all d.users gone live c _) (in_order d.channels.ids)))
        (all_each test _ (λ k. returned_all d.users gone k _) (in_order d.tokens.ids))
