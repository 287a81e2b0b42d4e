-- The new id of good tables is the first free one, and the same of tables that say the same. In every run from good tables at least 64,407 grants lie between two of
-- one id. Assumes nothing.
use mathlib.Core.Path.{◌≡◌, refl, sym, ap, subst, fun_ext}
use mathlib.Core.Bool.{Bool, true, false, not, ◌&&◌, So}
use mathlib.Core.List.{List, [], ◌∷◌, ◌++◌}
use Prim.Native.Nat.{ℕ, suc, ◌≤◌}
use native.Mathlib.Omega.{arith}
use lib.ListN.{length}
use Rattle.cols_spec.specs.Sets.{all}
use Rattle.cols_spec.proofs.Bools.{and_parts, and_both}
use Rattle.domain.specs.Tables.{Domain, between}
use Rattle.domain.specs.Events.{Outcome, step_with}
use Rattle.domain.specs.Good.{Good}
use Rattle.domain.specs.Claims.{Turn, formed}
use Rattle.domain_ids.specs.Rolling.{next_id, Reaches, stops, passes, search_from, how_many, OnlyNew, Since, just_now, freed, another, uses, upcoming, UpcomingRight, SameStepRolling, FreshFirst, handed_by, Deals, none_out, one_out, Handing, latest, hands, hands_all, Spaced, SpacedRun}
use Rattle.domain.proofs.Opened.{opened}
use Rattle.domain.proofs.invariant.Sound.{limits_le, is_between}
use Rattle.domain.proofs.invariant.Tests.{apart_distinct}
use Rattle.domain.proofs.invariant.GoodIsSound.{good_sound}
use Rattle.domain.proofs.invariant.Invariant.{step_good}
use Rattle.domain.proofs.holders.Counting.{count_ids, count_same}
use Rattle.domain_laws.proofs.same.Requests.{in_use_found, ids_under}
use Rattle.domain_laws.proofs.same.Kinds.{row_high, channels_found}
use Rattle.domain_laws.proofs.same.Steps.{steps_with}
use Rattle.domain_ids.proofs.Circle.{how_many_is, next_id_between, apart_ids, search_free}
use Rattle.domain_ids.proofs.Dealing.{deals}

-- at most 128 ids are in use
few : (d : Domain) → Good d → how_many (uses d) ≤ 128
few d g =
    let s = good_sound d g in
    let c = how_many_is (uses d) in
    let e = count_ids 65536 d.channels.ids (apart_distinct d.channels.ids s.channels_are.apart) (ids_under d.channels.ids 65536 (omega arith) (λ i h. omega (arith, row_high (s.channels_are.rows i h)))) in
    let q = count_same (λ k. uses d k) _ (λ k. sym (in_use_found d.channels.ids k)) 65536 in
    omega (arith, c, e, q, s.channels_are.counted, (limits_le d.limits s.limits_ok).0)

-- the search finds a free id
pub upcoming_free : UpcomingRight
unfolding upcoming
upcoming_free d last g = let b = next_id_between last in search_free (uses d) (next_id last) b.0 b.1 (few d g)

pub fresh_starts : FreshFirst
unfolding opened upcoming search_from next_id
fresh_starts l = refl

-- where a search ends is free
reached_free : {f : ℕ → Bool} {x y : ℕ} → Reaches f x y → f y ≡ false
reached_free (stops e) = e
reached_free (passes e r) = reached_free r

-- the new id is free
upcoming_new : (d : Domain) (last : ℕ) → Good d → So (between 1001 65535 (upcoming d last) && not (uses d (upcoming d last)))
upcoming_new d last g = let r = upcoming_free d last g in and_both (is_between 1001 65535 (upcoming d last) r.1 r.2) (ap not (reached_free r.0))

-- tables that say the same have the same ids in use, and so the same new id
pub steps_rolling : SameStepRolling
unfolding upcoming
steps_rolling d e last v room g h x f = rw (← same) (steps_with d e (upcoming d last) v room g h x f (upcoming_new d last g))
  where
    same : upcoming d last ≡ upcoming e last
    same = ap (λ (in_use : (ℕ → Bool)). search_from 128 in_use (next_id last)) (fun_ext (channels_found d e (good_sound d g) (good_sound e h) x))

-- ---- one event

-- the parts of a list
head_is : {x y : ℕ} {xs ys : List ℕ} → (x ∷ xs) ≡ (y ∷ ys) → x ≡ y
head_is e = cc

tail_is : {x y : ℕ} {xs ys : List ℕ} → (x ∷ xs) ≡ (y ∷ ys) → xs ≡ ys
tail_is e = cc

-- x was handed out before n others
record Before (s : Handing) (x n : ℕ) : Type 0 where
  start : ℕ → Bool
  low : 1001 ≤ x
  high : x ≤ 65535
  itself : start x ≡ true
  most : how_many start ≤ 128
  since : Since start x (uses s.domain) s.last n

-- what holds after every event: the tables are good, each id handed out was so before the later ones, and grants are far apart
record Kept (s : Handing) : Type 0 where
  good : Good s.domain
  before : (vs ws : List ℕ) (x : ℕ) → s.handed ≡ vs ++ (x ∷ ws) → Before s x (length vs)
  spaced : Spaced s.handed

module _ (s : Handing) (k : Kept s) (t : Turn) (f : So (formed t.0)) where
  abbrev d : Domain
  d = s.domain

  abbrev new : ℕ
  new = upcoming d s.last

  abbrev o : Outcome
  o = step_with new d t.0 t.1

  abbrev e : Domain
  e = o.domain

  found_new : Reaches (uses d) (next_id s.last) new × (1001 ≤ new) × (new ≤ 65535)
  found_new = upcoming_free d s.last k.good

  abbrev then : List ℕ → Handing
  then out = record { domain = e; last = latest out s.last; handed = out ++ s.handed }

  free_new : So (between 1001 65535 new && not (uses d new))
  free_new = upcoming_new d s.last k.good

  good_then : Good e
  good_then = step_good d new t.0 t.1 k.good f free_new

  -- the new id is handed out
  later : uses e new ≡ true → OnlyNew (uses d) (uses e) new → (vs ws : List ℕ) (x : ℕ) → (new ∷ s.handed) ≡ vs ++ (x ∷ ws) → Before (then (new ∷ [])) x (length vs)
  unfolding latest
  later q only [] ws x h =
      subst (λ (y : ℕ). Before (then (new ∷ [])) y 0) (head_is h)
      (record { start = uses e; low = found_new.1; high = found_new.2; itself = q; most = few e good_then; since = just_now })
  later q only (v ∷ vs) ws x h =
      let b = k.before vs ws x (tail_is h) in
      record { start = b.start; low = b.low; high = b.high; itself = b.itself; most = b.most; since = another b.since found_new.0 only }

  far : Spaced (new ∷ s.handed)
  far [] vs ws x h =
      let b = k.before vs ws x (tail_is h) in
      apart_ids b.start x b.low b.high b.itself b.most (uses d) s.last (length vs) b.since (subst (Reaches (uses d) (next_id s.last)) (head_is h) found_new.0)
  far (u ∷ us) vs ws x h = k.spaced us vs ws x (tail_is h)

  keep : (out : List ℕ) → Deals new (uses d) (uses e) out → Kept (then out)
  unfolding latest
  keep out (one_out q i only) = rw q (record { good = good_then; before = later i only; spaced = far })
  keep out (none_out q kept) = rw q (record {
    good = good_then;
    before = λ vs ws x h. let b = k.before vs ws x h in
        record { start = b.start; low = b.low; high = b.high; itself = b.itself; most = b.most; since = freed b.since kept };
    spaced = k.spaced;
  })

  hands_keep : Kept (hands s t)
  unfolding hands
  hands_keep = keep (handed_by o.sent) (deals d new t.0 t.1 k.good free_new)

-- ---- every run

all_keep : (ts : List Turn) → So (all (λ t. formed t.0) ts) → (s : Handing) → Kept s → Kept (hands_all s ts)
unfolding hands_all all
all_keep [] f s k = k
all_keep (t ∷ ts) f s k = let q = and_parts (formed t.0) (all (λ u. formed u.0) ts) f in all_keep ts q.1 (hands s t) (hands_keep s k t q.0)

-- no list of none has one in it
never : (x : ℕ) (vs ws : List ℕ) → ◌≡◌ {A = List ℕ} [] (vs ++ (x ∷ ws)) → ⊥
never x [] ws q = let z : 0 ≡ suc (length ws) = ap length q in omega arith
never x (v ∷ vs) ws q = let z : 0 ≡ suc (length (vs ++ (x ∷ ws))) = ap length q in omega arith

pub spaced : SpacedRun
spaced d last ts g f = (all_keep ts f _ (record { good = g; before = λ vs ws x q. absurd (never x vs ws q); spaced = λ us vs ws x q. absurd (never x us _ q) })).spaced
