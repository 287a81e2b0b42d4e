-- T-08: users of one connection leave equal tables, whether they leave in one message or in two. Assumes nothing.
use Rattle.std.specs.Prelude.{if◌then◌else◌}
use mathlib.Core.Path.{◌≡◌, refl, sym, ap, ap₂, ◌∙◌, subst}
use mathlib.Core.Bool.{Bool, true, false, not, ◌&&◌, ◌||◌, true≢false, false≢true, or-false}
use mathlib.Core.List.{List, [], ◌∷◌}
use Prim.Native.Nat.{ℕ, ◌<◌}
use native.Mathlib.Omega.{arith}
use lib.Dec.{eqb, ltb}
use lib.ListN.{length, get_or}
use borrow.Author.Tests.{eq-eqb}
use Rattle.cols_spec.specs.Sets.{any, null, once, has, member}
use Rattle.cols_spec.specs.Places.{At, Nowhere, find, found}
use Rattle.cols_spec.proofs.Bools.{and_parts}
use Rattle.cols_spec.proofs.Digits.{mask_ext}
use Rattle.cols_spec.proofs.Marks.{Marks, in_those}
use Rattle.cols_spec.proofs.Rows.{find_there, find_holds}
use Rattle.cols_spec.proofs.Members.{member_keep, member_once}
use Rattle.out_records.specs.Records.{Sent, records}
use Rattle.domain.specs.Tables.{Users, Domain, link, attached}
use Rattle.domain.specs.Effects.{ignored}
use Rattle.domain.specs.Channels.{places}
use Rattle.domain.specs.Leaving.{farewell, leave, those_on, detach}
use Rattle.domain.specs.Events.{act, stays, sends, ends, answers, step_with, step}
use Rattle.domain_laws.specs.LeavingInTwo.{Report, reported, HasRoom, NamesBoth, OneOrTwo}
use Rattle.domain.proofs.Listed.{places_has}
use Rattle.domain.proofs.invariant.Sound.{Seated, Sound}
use Rattle.domain.proofs.invariant.Joins.{places_seated}
use Rattle.domain.proofs.invariant.GoodIsSound.{good_sound}
use Rattle.domain.proofs.holders.Known.{link_left}
use Rattle.domain_laws.proofs.same.Twins.{bool_ext}
use Rattle.domain_laws.proofs.same.Leaving.{left_crowd, find_stays}
use Rattle.domain_laws.proofs.intwo.Tables.{gone_from, gone_twice}

-- who leaves: listed and on p
abbrev out : Domain → ℕ → List ℕ → List ℕ
out d p ids = those_on d.users p (once ids)

abbrev gone : Domain → ℕ → List ℕ → ℕ
gone d p ids = places d.users (out d p ids)

module _ (us : Users) (p : ℕ) (ids : List ℕ) where
  -- a user is on the list of those who leave
  out_has : (u : ℕ) → member u (those_on us p (once ids)) ≡ (found (attached us p u) && member u ids)
  unfolding those_on
  out_has u = member_keep (λ v. found (attached us p v)) u (once ids) ∙ ap (λ (b : Bool). found (attached us p u) && b) (member_once u ids)

  -- the user u at place i
  gone_has : length us.ids ≡ 64 → (u i : ℕ) → find us.ids u ≡ At i → has (places us (those_on us p (once ids))) i ≡ (eqb (link us i) p && member u ids)
  unfolding attached found
  gone_has n u i here =
      places_has us u i here (omega (arith, (find_holds us.ids u i here).1, n)) (those_on us p (once ids)) ∙ out_has u ∙ rw (here, attached) (on (eqb (link us i) p))
    where
      on : (b : Bool) → (found (if b then At i else Nowhere) && member u ids) ≡ (b && member u ids)
      on true = refl
      on false = refl

null_none : (xs : List ℕ) → null xs ≡ true → (u : ℕ) → member u xs ≡ false
unfolding null member any
null_none [] e u = refl
null_none (x ∷ xs) e u = absurd (false≢true e)

null_some : (xs : List ℕ) → null xs ≡ false → (u : ℕ) × (member u xs ≡ true)
unfolding null member any
null_some [] e = absurd (true≢false e)
null_some (x ∷ xs) e = (x, rw (eq-eqb x x refl))

-- ---- one report

module _ (d : Domain) (p : ℕ) where
  -- the tables after a report whose answer has room
  shut_stays : (q : Report) → (ltb 15 p || not (has d.links p)) ≡ true → (reported d p q).domain ≡ d
  unfolding reported step step_with
  shut_stays q e = rw e

  open_leaves : (q : Report) → (ltb 15 p || not (has d.links p)) ≡ false → HasRoom d p q → (reported d p q).domain ≡ (if null (out d p q.ids) then d else gone_from d (gone d p q.ids))
  unfolding reported step step_with answers act detach leave ends sends
  open_leaves q e = rw e (by (null (out d p q.ids)))
    where
      rs : List Sent
      rs = farewell d (gone d p q.ids) d.links q.reason (out d p q.ids)

      sent : (b : Bool) → ((if b then stays d 9 else record { reply = 0; domain = gone_from d (gone d p q.ids); sent = rs }).reply ≡ 9 → ⊥)
          → (if b then stays d 9 else record { reply = 0; domain = gone_from d (gone d p q.ids); sent = rs }).domain ≡ gone_from d (gone d p q.ids)
      sent true f = absurd (f refl)
      sent false f = refl

      by : (b : Bool) → ((ends d q.room (if b then ignored else leave d d.links q.reason (out d p q.ids))).reply ≡ 9 → ⊥)
          → (ends d q.room (if b then ignored else leave d d.links q.reason (out d p q.ids))).domain ≡ (if b then d else gone_from d (gone d p q.ids))
      by true f = refl
      by false f = sent (ltb q.room (length (records rs))) f

-- ---- lists of the same users

null_same : (xs ys : List ℕ) → ((u : ℕ) → member u xs ≡ member u ys) → null xs ≡ null ys
null_same xs ys same = bool_ext (null xs) (null ys) (half xs ys same) (half ys xs (λ u. sym (same u)))
  where
    half : (xs ys : List ℕ) → ((u : ℕ) → member u xs ≡ member u ys) → null xs ≡ true → null ys ≡ true
    half xs ys f e = go (null ys) refl
      where
        go : (b : Bool) → null ys ≡ b → null ys ≡ true
        go true q = q
        go false q = let r = null_some ys q in absurd (false≢true (sym (null_none xs e r.0) ∙ f r.0 ∙ r.1))

-- two sets of seated users
masks_same : (us : Users) (m n : ℕ) → Marks 64 m (Seated us) → Marks 64 n (Seated us) → ((i : ℕ) → Seated us i → has m i ≡ has n i) → m ≡ n
masks_same us m n x y f = mask_ext 64 m n x.fits y.fits (λ k l. bool_ext (has m k) (has n k) (λ h. sym (f k (x.are k h)) ∙ h) (λ h. f k (y.are k h) ∙ h))

has_empty : (us : Users) (xs : List ℕ) → null xs ≡ true → (k : ℕ) → has (places us xs) k ≡ true → ⊥
unfolding places any null
has_empty us [] e k h = false≢true (in_those 64 _ k h).1
has_empty us (x ∷ xs) e k h = false≢true e

module _ (d : Domain) (s : Sound d) (p : ℕ) (a b w : List ℕ) (both : NamesBoth w a b) where
  abbrev us : Users
  us = d.users

  here : (i : ℕ) → Seated us i → find us.ids (get_or us.ids i 0) ≡ At i
  here i h = find_there us.ids s.users_are.apart i h

  -- of those listed in both
  fewer : (l x y : Bool) → (l && x) ≡ false → (l && (x || y)) ≡ (l && y)
  fewer false x y e = refl
  fewer true true y e = absurd (true≢false e)
  fewer true false y e = refl

  -- nobody of the first list is on p
  first_nobody : null (out d p a) ≡ true → (u : ℕ) → member u (out d p w) ≡ member u (out d p b)
  first_nobody e u =
      out_has us p w u ∙ ap (λ (z : Bool). found (attached us p u) && z) (both u)
      ∙ fewer (found (attached us p u)) (member u a) (member u b) (sym (out_has us p a u) ∙ null_none (out d p a) e u) ∙ sym (out_has us p b u)

  first_same : null (out d p a) ≡ true → gone d p w ≡ gone d p b
  first_same e = masks_same us _ _ (places_seated us (out d p w)) (places_seated us (out d p b)) (λ i h.
      let l : i < 64 = omega (arith, (find_holds us.ids _ i (here i h)).1, s.users_are.ids_size) in
      places_has us _ i (here i h) l (out d p w) ∙ first_nobody e _ ∙ sym (places_has us _ i (here i h) l (out d p b)))

  -- somebody of it is
  first_some : null (out d p a) ≡ false → null (out d p w) ≡ false
  first_some e = go (null (out d p w)) refl
    where
      go : (z : Bool) → null (out d p w) ≡ z → null (out d p w) ≡ false
      go true q =
          let r = null_some (out d p a) e in
          let t = and_parts (found (attached us p r.0)) (member r.0 a) (sym (out_has us p a r.0) ∙ r.1) in
          absurd (false≢true (sym (null_none (out d p w) q r.0) ∙ out_has us p w r.0 ∙ rw (t.0, both r.0, t.1)))
      go false q = q

  abbrev then_d : Domain
  then_d = gone_from d (gone d p a)

  sum : (i : ℕ) → Seated us i → has (gone d p w) i ≡ (has (gone d p a) i || has (gone then_d p b) i)
  sum i h = gone_has us p w s.users_are.ids_size u i (here i h) ∙ ap (λ (z : Bool). on && z) (both u) ∙ go (has (gone d p a) i) refl
    where
      u : ℕ
      u = get_or us.ids i 0

      on : Bool
      on = eqb (link us i) p

      first : has (gone d p a) i ≡ (on && member u a)
      first = gone_has us p a s.users_are.ids_size u i (here i h)

      go : (z : Bool) → has (gone d p a) i ≡ z → (on && (member u a || member u b)) ≡ (z || has (gone then_d p b) i)
      go true q = let r = and_parts on (member u a) (sym first ∙ q) in rw (r.0, r.1)
      go false q =
          fewer on (member u a) (member u b) (sym first ∙ q)
          ∙ sym (gone_has then_d.users p b (left_crowd d s (gone d p a)).ids_size u i (find_stays d s (gone d p a) u i (here i h) q)
          ∙ ap (λ (z : ℕ). eqb z p && member u b) (link_left d s (gone d p a) u i (here i h) q))

  -- nobody else of the second list
  second_nobody : null (out then_d p b) ≡ true → gone d p a ≡ gone d p w
  second_nobody e = masks_same us _ _ (places_seated us (out d p a)) (places_seated us (out d p w)) (λ i h. sym (sum i h ∙ go i (has (gone then_d p b) i) refl))
    where
      go : (i : ℕ) (z : Bool) → has (gone then_d p b) i ≡ z → (has (gone d p a) i || z) ≡ has (gone d p a) i
      go i true q = absurd (has_empty then_d.users (out then_d p b) e i q)
      go i false q = or-false (has (gone d p a) i)

-- ---- one report, or two
module _ (d : Domain) (s : Sound d) (p : ℕ) (whole a b : Report) (both : NamesBoth whole.ids a.ids b.ids)
    (fw : HasRoom d p whole) (fa : HasRoom d p a) (fab : HasRoom (reported d p a).domain p b) where
  one_by_one : (reported (reported d p a).domain p b).domain ≡ (reported d p whole).domain
  one_by_one = go (ltb 15 p || not (has d.links p)) refl
    where
      -- the second report, on the tables that the first leaves
      then_b : (e : Domain) → (reported d p a).domain ≡ e → HasRoom e p b
      then_b e f = subst (λ (x : Domain). HasRoom x p b) f fab

      After : Domain → Domain
      After e = (reported e p b).domain

      go : (z : Bool) → (ltb 15 p || not (has d.links p)) ≡ z → (reported (reported d p a).domain p b).domain ≡ (reported d p whole).domain
      go true e = ap After (shut_stays d p a e) ∙ shut_stays d p b e ∙ sym (shut_stays d p whole e)
      go false e = by (null (out d p a.ids)) refl
        where
          d' : Domain
          d' = gone_from d (gone d p a.ids)

          by : (z : Bool) → null (out d p a.ids) ≡ z → (reported (reported d p a).domain p b).domain ≡ (reported d p whole).domain
          by true q =
              ap After first ∙ open_leaves d p b e (then_b d first)
              ∙ ap₂ (λ (n : Bool) (m : ℕ). if n then d else gone_from d m) (sym (null_same _ _ (first_nobody d s p a.ids b.ids whole.ids both q))) (sym (first_same d s p a.ids b.ids whole.ids both q))
              ∙ sym (open_leaves d p whole e fw)
            where
              first : (reported d p a).domain ≡ d
              first = open_leaves d p a e fa ∙ rw q
          by false q =
              ap After first ∙ open_leaves d' p b e (then_b d' first) ∙ last (null (out d' p b.ids)) refl
              ∙ sym (open_leaves d p whole e fw ∙ rw (first_some d s p a.ids b.ids whole.ids both q))
            where
              first : (reported d p a).domain ≡ d'
              first = open_leaves d p a e fa ∙ rw q

              last : (z : Bool) → null (out d' p b.ids) ≡ z → (if z then d' else gone_from d' (gone d' p b.ids)) ≡ gone_from d (gone d p whole.ids)
              last true r = ap (gone_from d) (second_nobody d s p a.ids b.ids whole.ids both r)
              last false r = gone_twice d s (gone d p a.ids) (gone d' p b.ids) (gone d p whole.ids) (sum d s p a.ids b.ids whole.ids both)

pub in_two : OneOrTwo
in_two d p whole a b g both fw fa fab = one_by_one d (good_sound d g) p whole a b both fw fa fab
