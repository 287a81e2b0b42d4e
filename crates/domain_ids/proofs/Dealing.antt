-- What an event does with the new id: it hands out nothing and brings no id into use, or it hands out this id and brings no other into use. Assumes nothing.
use Rattle.std.specs.Prelude.{if◌then◌else◌}
use mathlib.Core.Path.{◌≡◌, refl, sym, ap, ◌∙◌}
use mathlib.Core.Bool.{Bool, true, false, not, ◌||◌, false≢true, or-true}
use mathlib.Core.List.{List, [], ◌∷◌, ◌++◌}
use mathlib.Core.Option.{Option, some}
use Prim.Native.Nat.{ℕ, zero, suc, ◌≤◌, ◌<◌}
use native.Mathlib.Omega.{arith}
use lib.Dec.{eqb, ltb}
use lib.ListN.{length, get_or, set, length-set}
use lib.Seq.{get_or-set_same, get_or-set_other}
use borrow.Author.Tests.{eq-eqb, ne_eqb, eqb-true, eqb-false, ltb-false, not-true}
use Rattle.cols_spec.specs.Sets.{all, any, null, each, has}
use Rattle.cols_spec.specs.Places.{Place, At, Nowhere, find, found, spare, store}
use Rattle.cols_spec.proofs.Bools.{and_parts, or_elim}
use Rattle.cols_spec.proofs.Rows.{find_holds, not_there}
use Rattle.cols_spec.proofs.Answers.{stands_found, found_somewhere, found_nowhere}
use Rattle.cols_spec.proofs.Table.{new_place}
use Rattle.cols_spec.proofs.Found.{find_added, find_still}
use Rattle.codec_table.specs.Named.{Message, EDrq, DPum, RJum, AUrq, AUcf, DUrq, DUin, CJrq, CJcf, CLrq, CCrq, CCcf, CDrq, CDin, CArq, CAin, CErq, CEin}
use Rattle.codec_table.specs.Named.{TGrq, TGcf, TIrq, TIcf, TVrq, TVin, TVrs, TVcf, TPrq, TPin, TRrq, TRcf, TTrq, TTcf, successful}
use Rattle.out_records.specs.Records.{Sent, to, records}
use Rattle.domain.specs.declared.channel.Kind.{Kind}
use Rattle.domain.specs.declared.channel.Kind.TheVariants.{Static, User, Private, Assigned}
use Rattle.domain.specs.declared.channel.Channel.{Channel}
use Rattle.domain.specs.Cells.{kind}
use Rattle.domain.specs.Tables.{Channels, Tokens, Domain, channel, add_channel, set_channel, end_channel, sweep_channels, put_channels, put_tokens, put_both, between}
use Rattle.domain.specs.Effects.{Effect, ignored, done, within}
use Rattle.domain.specs.Channels.{attach, may, join_at, join_new, join, joined, left, leave_channels, convene, owned, manages, disband, attached_of, admitted_of, admit, expel}
use Rattle.domain.specs.Leaving.{fate, leave, those_on, detach, close}
use Rattle.domain.specs.Events.{users_full, channels_full, tokens_full, act, Event, opens, loses, hears, Reading, reads, refuses, Outcome, stays, sends, ends, complaint, answers, step_with}
use Rattle.domain.specs.Hearers.{joins, notice}
use Rattle.domain_ids.specs.Rolling.{NoNew, uses, hands_out, handed_by, Deals, none_out, one_out, DealsRight}
use Rattle.domain.proofs.Sending.{tell_all, own_all, farewell_all, complaint_all}
use Rattle.domain.proofs.Answering.{Sends, take_all, share_all, drop_all, offer_all, please_all, test_all, answer_all}
use Rattle.domain.proofs.invariant.Sound.{Sound, limits_le, between_is}
use Rattle.domain.proofs.invariant.GoodIsSound.{good_sound}
use Rattle.domain.proofs.invariant.From.{from_by}
use Rattle.domain_laws.proofs.same.Joins.{channels_few}

-- ---- records that hand out nothing

abbrev pub idle : Sent → Bool
idle (to p m) = null (hands_out (notice m))

null_is : (xs : List ℕ) → null xs ≡ true → xs ≡ []
unfolding null
null_is [] h = refl
null_is (x ∷ xs) h = absurd (false≢true h)

pub all_idle : (rs : List Sent) → all idle rs ≡ true → handed_by rs ≡ []
unfolding handed_by each all
all_idle [] h = refl
all_idle (to p m ∷ rs) h = let q = and_parts (null (hands_out (notice m))) (all idle rs) h in rw (null_is (hands_out (notice m)) q.0) (all_idle rs q.1)

-- a join of a channel that was asked for by its id
asked_not : (asked c : ℕ) → eqb asked 0 ≡ false → hands_out (joins asked c) ++ [] ≡ []
unfolding hands_out
asked_not asked c e = ap (λ (b : Bool). (if b then c ∷ [] else []) ++ []) e

-- ---- ids in use

-- an id stored at a place
store_found : (ids : List ℕ) (w : Place) (c z : ℕ) → found (find (store ids w c) z) ≡ true → (found (find ids z) || eqb z c) ≡ true
unfolding store
store_found ids Nowhere c z h = rw h
store_found ids (At j) c z h =
    let r = found_somewhere (find (set ids j c) z) h in
    let q = find_holds (set ids j c) z r.0 r.1 in
    go r.0 q.0 q.1 q.2 (eqb r.0 j) refl
  where
    go : (i : ℕ) → get_or (set ids j c) i 0 ≡ z → i < length (set ids j c) → 0 < z → (b : Bool) → eqb i j ≡ b → (found (find ids z) || eqb z c) ≡ true
    go i e l p true f = rw (eq-eqb z c (sym e ∙ ap (λ (n : ℕ). get_or (set ids j c) n 0) (eqb-true i j f) ∙ get_or-set_same ids j c 0 (omega (arith, l, length-set ids j c, eqb-true i j f)))) (or-true (found (find ids z)))
    go i e l p false f = rw (stands_found ids z i p (sym (get_or-set_other ids j i c 0 (eqb-false i j f)) ∙ e))

-- a choice, each case with what it knows
pub choose : {A : Type 0} (F : (A → Type 0)) (b : Bool) {x y : A} → (b ≡ true → F x) → (b ≡ false → F y) → F (if b then x else y)
choose F true p q = p refl
choose F false p q = q refl

module _ (d : Domain) (s : Sound d) (new : ℕ) (lo : 1001 ≤ new) (away : (j : ℕ) → get_or d.channels.ids j 0 ≡ new → ⊥) where
  -- channels of which none from 1001 on is in use that was not
  abbrev Kept : Channels → Type 0
  Kept cs = NoNew (uses d) (λ z. found (find cs.ids z))

  kept_same : Kept d.channels
  kept_same z l h = h

  kept_set : (j : ℕ) (ch : Channel) → Kept (set_channel d.channels j ch)
  unfolding set_channel
  kept_set j ch z l h = h

  -- an id below 1001 is stored
  kept_low : (w : Place) (c z : ℕ) → c ≤ 1000 → 1001 ≤ z → found (find (store d.channels.ids w c) z) ≡ true → uses d z ≡ true
  kept_low w c z m l h = or_elim (uses d z) (eqb z c) (store_found d.channels.ids w c z h) (λ q. q) (λ q. absurd (omega (arith, l, m, eqb-true z c q)))

  kept_static : (c : ℕ) (ch : Channel) → c ≤ 1000 → Kept (add_channel d.channels c ch)
  unfolding add_channel
  kept_static c ch m z l h = kept_low _ c z m l h

  kept_end : (j : ℕ) → Kept (end_channel d.channels j)
  unfolding end_channel store
  kept_end j z l h = kept_low (At j) 0 z (omega arith) l h

  kept_swept : (f : (ℕ → Channel → Option Channel)) → Kept (sweep_channels f d.channels)
  unfolding sweep_channels found
  kept_swept f z l h = go (uses d z) refl
    where
      go : (b : Bool) → uses d z ≡ b → b ≡ true
      go true q = refl
      go false q = absurd (false≢true (sym (ap found (find_still s.channels_are (λ j c x. f c x) z (found_nowhere (find d.channels.ids z) q))) ∙ h))

  -- ---- requests about channels

  abbrev Dealt : List Sent → Channels → Type 0
  Dealt rs cs = Deals new (uses d) (λ z. found (find cs.ids z)) (handed_by rs)

  abbrev Dealing : Effect Channels → Type 0
  Dealing ignored = Unit {0}
  Dealing (done cs rs) = Dealt rs cs

  -- a channel of the new id
  added : (p : ℕ) (m : Message) (ch : Channel) → hands_out (notice m) ≡ new ∷ [] → channels_full d ≡ false → Dealt (to p m ∷ []) (add_channel d.channels new ch)
  unfolding add_channel found handed_by each
  added p m ch e f =
      let few = channels_few d f in
      let fits = (limits_le d.limits s.limits_ok).0 in
      let w = new_place s.channels_are (λ i x c. Unit {0}) few fits new ch (omega arith) in
      let here : find (store d.channels.ids (spare d.channels.ids) new) new ≡ At w.0
      = find_added s.channels_are few fits new ch (omega arith) away new ∙ ap (λ (b : Bool). if b then spare d.channels.ids else find d.channels.ids new) (eq-eqb new new refl) ∙ w.1 in
      one_out (rw e) (ap found here) (λ z l h. store_found d.channels.ids _ new z h)

  join_new_deals : (p u c : ℕ) → Dealing (join_new new (channels_full d) d.channels p u c)
  unfolding join_new handed_by each notice hands_out
  join_new_deals p u c =
      choose Dealing (ltb 1000 c) (λ a. none_out refl kept_same) (λ a. choose Dealing (channels_full d) (λ b. none_out refl kept_same) (λ b.
      choose Dealing (eqb c 0) (λ z. added p (CJcf successful u c (some new)) _ (ap (λ (b : Bool). if b then new ∷ [] else []) z) b) (λ z. none_out (asked_not c c z) (kept_static c _ (ltb-false 1000 c a)))))

  join_at_deals : (p u c j n : ℕ) → find d.channels.ids c ≡ At j → Dealing (join_at d.channels p u c j n)
  unfolding join_at handed_by each notice hands_out
  join_at_deals p u c j zero e = none_out (asked_not c c (ne_eqb c 0 (λ z. omega (arith, z, (find_holds d.channels.ids c j e).2)))) (kept_set j _)
  join_at_deals p u c j (suc n) e = none_out refl kept_same

  join_deals : (p u c : ℕ) → Dealing (join new (channels_full d) d.users d.channels p u c)
  unfolding join
  join_deals p u c = from_by Dealing tt d.users p u _ (λ i e l. go i (find d.channels.ids c) refl)
    where
      go : (i : ℕ) (w : Place) → find d.channels.ids c ≡ w → Dealing (elim w as (λ (_ : Place). Effect Channels) [
        | At j ↦ join_at d.channels p u c j (may (kind (channel d.channels j)) c u i)
        | Nowhere ↦ join_new new (channels_full d) d.channels p u c
      ])
      go i (At j) e = join_at_deals p u c j (may (kind (channel d.channels j)) c u i) e
      go i Nowhere e = join_new_deals p u c

  leave_channels_deals : (p : ℕ) (ids : List ℕ) → Dealing (leave_channels d.channels p ids)
  unfolding leave_channels handed_by each
  leave_channels_deals p ids = choose Dealing (any (joined d.channels p) ids) (λ a. none_out refl (kept_swept (left p ids))) (λ a. tt)

  convene_deals : (p u : ℕ) → Dealing (convene new (channels_full d) d.users d.channels p u)
  unfolding convene handed_by each notice hands_out
  convene_deals p u = from_by Dealing tt d.users p u _ (λ i e l. choose Dealing (channels_full d) (λ a. none_out refl kept_same) (λ a. added p (CCcf successful u (some new)) _ refl a))

  manages_deals : (p u c : ℕ) (f : ℕ → ℕ → ℕ → Effect Channels) → ((j m adm : ℕ) → Dealing (f j m adm)) → Dealing (manages d.users d.channels p u c f)
  unfolding manages owned
  manages_deals p u c f law = from_by Dealing tt d.users p u _ (λ i e l. go i (find d.channels.ids c))
    where
      its : (i j : ℕ) (k : Kind) → Dealing (owned k i (f j))
      its i j Static = tt
      its i j User = tt
      its i j (Private m adm) = choose Dealing (eqb m i) (λ a. law j m adm) (λ a. tt)
      its i j Assigned = tt

      go : (i : ℕ) (w : Place) → Dealing (elim w as (λ (_ : Place). Effect Channels) [ At j ↦ owned (kind (channel d.channels j)) i (f j) | Nowhere ↦ ignored ])
      go i (At j) = its i j (kind (channel d.channels j))
      go i Nowhere = tt

  disband_deals : (p u c : ℕ) → Dealing (disband d.users d.channels p u c)
  unfolding disband notice hands_out null
  disband_deals p u c = manages_deals p u c _ (λ j m adm. none_out (all_idle _ (tell_all idle _ (CDin c) (λ q. refl))) (kept_end j))

  admit_deals : (p u c : ℕ) (ids : List ℕ) → Dealing (admit d.users d.channels p u c ids)
  unfolding admit notice hands_out null
  admit_deals p u c ids = manages_deals p u c _ (λ j m adm.
      choose Dealing (null (attached_of d.users ids)) (λ a. tt) (λ a. none_out (all_idle _ (own_all idle d.users _ (CAin u c) (λ q xs. refl))) (kept_set j _)))

  expel_deals : (p u c : ℕ) (ids : List ℕ) → Dealing (expel d.users d.channels p u c ids)
  unfolding expel notice hands_out null
  expel_deals p u c ids = manages_deals p u c _ (λ j m adm.
      choose Dealing (null (admitted_of d.users adm ids)) (λ a. tt) (λ a. none_out (all_idle _ (own_all idle d.users _ (CEin c) (λ q xs. refl))) (kept_set j _)))

  -- ---- events

  abbrev DealingAll : Effect Domain → Type 0
  DealingAll ignored = Unit {0}
  DealingAll (done e rs) = Dealt rs e.channels

  abbrev Ending : Outcome → Type 0
  Ending o = Dealt o.sent o.domain.channels

  of_channels : (x : Effect Channels) → Dealing x → DealingAll (within (put_channels d) x)
  unfolding within
  of_channels ignored g = tt
  of_channels (done cs rs) g = g

  of_tokens : (x : Effect Tokens) → Sends idle x → DealingAll (within (put_tokens d) x)
  unfolding within
  of_tokens ignored h = tt
  of_tokens (done ts rs) h = none_out (all_idle rs h) kept_same

  attach_deals : (uf cf : Bool) → channels_full d ≡ cf → (p : ℕ) → DealingAll (within (put_both d) (attach new uf cf d.users d.channels p))
  unfolding attach within handed_by each notice hands_out
  attach_deals true cf e p = none_out refl kept_same
  attach_deals false true e p = none_out refl kept_same
  attach_deals false false e p = added p (AUcf successful (some new)) _ refl e

  leave_deals : (live reason : ℕ) (ids : List ℕ) → DealingAll (leave d live reason ids)
  unfolding leave notice hands_out null
  leave_deals live reason ids = none_out (all_idle _ (farewell_all idle (λ p n us. refl) (λ p c. refl) (λ p u k t. refl) d _ live reason ids)) (kept_swept (fate d.users _ live))

  detach_deals : (p reason : ℕ) (ids : List ℕ) → DealingAll (detach d p reason ids)
  unfolding detach
  detach_deals p reason ids = choose DealingAll (null (those_on d.users p _)) (λ a. tt) (λ a. leave_deals _ _ _)

  close_deals : (p : ℕ) → DealingAll (close d p)
  unfolding close
  close_deals p = leave_deals _ _ _

  act_deals : (p : ℕ) (m : Message) → DealingAll (act new d p m)
  unfolding act handed_by each notice hands_out null
  act_deals p (EDrq h i) = none_out refl kept_same
  act_deals p (DPum n) = close_deals p
  act_deals p (RJum n octets) = close_deals p
  act_deals p AUrq = attach_deals (users_full d) (channels_full d) refl p
  act_deals p (DUrq n ids) = detach_deals p n ids
  act_deals p (CJrq u c) = of_channels _ (join_deals p u c)
  act_deals p (CLrq cs) = of_channels _ (leave_channels_deals p cs)
  act_deals p (CCrq u) = of_channels _ (convene_deals p u)
  act_deals p (CDrq u c) = of_channels _ (disband_deals p u c)
  act_deals p (CArq u c ids) = of_channels _ (admit_deals p u c ids)
  act_deals p (CErq u c ids) = of_channels _ (expel_deals p u c ids)
  act_deals p (TGrq u k) = of_tokens _ (take_all idle d.users d.tokens p u k (λ n t. refl) (tokens_full d))
  act_deals p (TIrq u k) = of_tokens _ (share_all idle d.users d.tokens p u k (λ n t. refl) (tokens_full d))
  act_deals p (TVrq u k r) = of_tokens _ (offer_all idle d.users d.tokens p u k (λ n t. refl) r (λ q. refl))
  act_deals p (TVrs n r k) = of_tokens _ (answer_all idle d.users d.tokens p n r k (λ q u t. refl))
  act_deals p (TPrq u k) = of_tokens _ (please_all idle d.users d.tokens p u k (λ q. refl))
  act_deals p (TRrq u k) = of_tokens _ (drop_all idle d.users d.tokens p u k (λ n t. refl))
  act_deals p (TTrq u k) = of_tokens _ (test_all idle d.users d.tokens p u k (λ t. refl))
  act_deals p (AUcf n u) = tt
  act_deals p (DUin n ids) = tt
  act_deals p (CJcf n u c e) = tt
  act_deals p (CCcf n u c) = tt
  act_deals p (CDin c) = tt
  act_deals p (CAin u c ids) = tt
  act_deals p (CEin c ids) = tt
  act_deals p (TGcf n u k t) = tt
  act_deals p (TIcf n u k t) = tt
  act_deals p (TVcf n u k t) = tt
  act_deals p (TRcf n u k t) = tt
  act_deals p (TVin g k r) = tt
  act_deals p (TPin u k) = tt
  act_deals p (TTcf u k t) = tt

  stays_deals : (n : ℕ) → Ending (stays d n)
  unfolding handed_by each
  stays_deals n = none_out refl kept_same

  sends_deals : (room n : ℕ) (e : Domain) (rs : List Sent) → Dealt rs e.channels → Ending (sends d room n e rs)
  unfolding sends
  sends_deals room n e rs g = choose Ending (ltb room (length (records rs))) (λ a. stays_deals 9) (λ a. g)

  ends_deals : (room : ℕ) (x : Effect Domain) → DealingAll x → Ending (ends d room x)
  unfolding ends
  ends_deals room ignored g = stays_deals 1
  ends_deals room (done e rs) g = sends_deals room 0 e rs g

  answers_deals : (p : ℕ) (m : Reading) (room : ℕ) → Ending (answers new d p m room)
  unfolding answers notice hands_out null
  answers_deals p (reads m) room = ends_deals room (act new d p m) (act_deals p m)
  answers_deals p (refuses n octets) room = sends_deals room n d (complaint n p octets) (none_out (all_idle _ (complaint_all idle (λ q k os. refl) n p octets)) kept_same)

  step_deals : (v : Event) (room : ℕ) → Ending (step_with new d v room)
  unfolding step_with handed_by each
  step_deals (opens p) room = choose Ending (ltb 15 p) (λ a. stays_deals 2) (λ a. choose Ending (has d.links p) (λ b. stays_deals 3) (λ b. none_out refl kept_same))
  step_deals (loses p) room = choose Ending (ltb 15 p || not (has d.links p)) (λ a. stays_deals 2) (λ a. ends_deals room (close d p) (close_deals p))
  step_deals (hears p m) room = choose Ending (ltb 15 p || not (has d.links p)) (λ a. stays_deals 2) (λ a. answers_deals p m room)

pub deals : DealsRight
deals d new v room g free =
    let q = and_parts (between 1001 65535 new) (not (uses d new)) free in
    let b = between_is 1001 65535 new q.0 in
    step_deals d (good_sound d g) new b.0 (not_there d.channels.ids new (not-true _ q.1) (omega (arith, b.0))) v room
