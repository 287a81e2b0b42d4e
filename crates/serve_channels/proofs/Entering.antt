-- AUrq and CJrq by cases: what each way through the code has shown is what the request does. Assumes nothing.
use mathlib.Core.Path.{◌≡◌, refl, sym, ap, ◌∙◌}
use mathlib.Core.Bool.{Bool, true, false, not}
use mathlib.Core.List.{List, [], ◌∷◌}
use mathlib.Core.Option.{none, some}
use Prim.Native.Nat.{ℕ, zero, suc, ◌≤◌, ◌<◌}
use native.Mathlib.Omega.{arith}
use borrow.Author.Tests.{lt-ltb, le-ltb, eq-eqb, ne_eqb}
use denote.Enum.Bare.{sameb}
use lib.Dec.{eqb}
use lib.ListN.{get_or}
use Rattle.cols_spec.specs.Sets.{with, only, connections}
use Rattle.cols_spec.specs.Places.{Place, At, Nowhere, find}
use Rattle.codec_table.specs.Named.{AUrq, AUcf, CJrq, CJcf, successful, no_such_channel, too_many_channels, too_many_users}
use Rattle.out_records.specs.Records.{to}
use Rattle.domain.specs.declared.channel.Kind.{Kind}
use Rattle.domain.specs.declared.channel.Kind.TheVariants.{Static, User, Assigned}
use Rattle.domain.specs.declared.channel.Channel.{Channel}
use Rattle.domain.specs.declared.numbers.Result.{Result}
use Rattle.domain.specs.declared.numbers.Result.TheVariants.{Successful, NoSuchChannel, NoSuchUser, NotAdmitted, OtherUserId, TokenNotAvailable, TokenNotPossessed, TooManyChannels, TooManyTokens, TooManyUsers}
use Rattle.domain.specs.contracts.numbers.Result.{the_type}
use Rattle.domain.specs.Numbers.{result_number}
use Rattle.domain.specs.Cells.{no_channel, kind, channel_of, with_marks}
use Rattle.domain.specs.Tables.{Users, Channels, Domain, attached, add_user, channel, add_channel, set_channel, put_channels, put_both, at_limit, grant}
use Rattle.domain.specs.Effects.{Effect, done, Settled, settled, settle}
use Rattle.domain.specs.Channels.{attach, may, join_at, join_new, join}
use Rattle.domain.specs.Events.{act, users_full, channels_full}
use Rattle.domain.proofs.Requesting.{on_channels, on_both}
use Rattle.serve_reply.proofs.Sending.{Told, did_nothing, did_refuse, did}
use Rattle.serve_reply.proofs.Initiators.{from_at, from_nobody}

-- ---- AUrq
module _ (d : Domain) (p : ℕ) (out : List ℕ) where
  pub attach_asked : {n l : ℕ} {o : List ℕ} {us : Users} {cs : Channels}
      → settled {A = Users × Channels} n l (us, cs) o ≡ settle (d.users, d.channels) (attach (grant d.channels) (at_limit d.limits.users d.users.ids) (at_limit d.limits.channels d.channels.ids) d.users d.channels p) out
      → settled n l (put_both d (us, cs)) o ≡ settle d (act (grant d.channels) d p AUrq) out
  unfolding act users_full channels_full
  attach_asked e = on_both d.limits d.links d.users d.channels d.tokens _ p AUrq out _ e refl

module _ (new : ℕ) (us : Users) (cs : Channels) (p n l : ℕ) (out o : List ℕ) where
  pub attach_crowded : (b : Bool) → Told p (AUcf too_many_users none) n l out o → settled n l (us, cs) o ≡ settle (us, cs) (attach new true b us cs p) out
  unfolding attach
  attach_crowded b e = did_nothing _ _ e (us, cs)

  pub attach_full : Told p (AUcf too_many_channels none) n l out o → settled n l (us, cs) o ≡ settle (us, cs) (attach new false true us cs p) out
  unfolding attach
  attach_full e = did_nothing _ _ e (us, cs)

  module _ (e : Told p (AUcf successful (some new)) n l out o) where
    pub attach_refused : eqb n 9 ≡ true → settled n l (us, cs) o ≡ settle (us, cs) (attach new false false us cs p) out
    unfolding attach
    attach_refused h = did_refuse _ _ e (us, cs) (add_user us new p, add_channel cs new (channel_of User 0)) h

    pub attach_done : eqb n 9 ≡ false → (us' : Users) (cs' : Channels) (ch : Channel) → us' ≡ add_user us new p → cs' ≡ add_channel cs new ch → ch ≡ channel_of User 0
        → settled n l (us', cs') o ≡ settle (us, cs) (attach new false false us cs p) out
    unfolding attach
    attach_done h us' cs' ch x y z =
        did _ _ e (us, cs) (us', cs') (add_user us new p, add_channel cs new (channel_of User 0)) (λ i. (x i, (y ∙ ap (add_channel cs new) z) i)) h

-- ---- CJrq for the channel at place j

-- a result is success or a number from 1 up
pub fails : (r : Result) → true ≡ not (sameb the_type r Successful) → 0 < result_number r
fails Successful h = cc
fails NoSuchChannel h = omega arith
fails NoSuchUser h = omega arith
fails NotAdmitted h = omega arith
fails OtherUserId h = omega arith
fails TokenNotAvailable h = omega arith
fails TokenNotPossessed h = omega arith
fails TooManyChannels h = omega arith
fails TooManyTokens h = omega arith
fails TooManyUsers h = omega arith

pub succeeds : (r : Result) → false ≡ not (sameb the_type r Successful) → result_number r ≡ 0
succeeds Successful h = refl
succeeds NoSuchChannel h = cc
succeeds NoSuchUser h = cc
succeeds NotAdmitted h = cc
succeeds OtherUserId h = cc
succeeds TokenNotAvailable h = cc
succeeds TokenNotPossessed h = cc
succeeds TooManyChannels h = cc
succeeds TooManyTokens h = cc
succeeds TooManyUsers h = cc

join_no : (cs : Channels) (p u c j n : ℕ) → 0 < n → join_at cs p u c j n ≡ done cs (to p (CJcf n u c none) ∷ [])
unfolding join_at
join_no cs p u c j zero h = absurd (omega arith)
join_no cs p u c j (suc n) h = refl

module _ (cs : Channels) (p u c i j : ℕ) (ch : Channel) (k : Kind) (r : ℕ) (x : ch ≡ get_or cs.cells j no_channel) (y : k ≡ kind ch) (z : r ≡ may k c u i)
    (n l : ℕ) (out o : List ℕ) where
  asked : join_at cs p u c j r ≡ join_at cs p u c j (may (kind (channel cs j)) c u i)
  unfolding channel
  asked = ap (join_at cs p u c j) (z ∙ ap (λ (q : Kind). may q c u i) (y ∙ ap kind x))

  pub join_denied : 0 < r → Told p (CJcf r u c none) n l out o
      → settled n l cs o ≡ settle cs (join_at cs p u c j (may (kind (channel cs j)) c u i)) out
  join_denied h e = did_nothing _ _ e cs ∙ ap (λ (q : Effect Channels). settle cs q out) (sym (join_no cs p u c j r h) ∙ asked)

  module _ (q : r ≡ 0) (e : Told p (CJcf successful u c (some c)) n l out o) where
    joins : done (set_channel cs j (with_marks ch (with connections ch.marks p))) (to p (CJcf successful u c (some c)) ∷ [])
        ≡ join_at cs p u c j (may (kind (channel cs j)) c u i)
    unfolding join_at channel
    joins = rw x refl ∙ rw q at asked

    pub join_refused : eqb n 9 ≡ true → settled n l cs o ≡ settle cs (join_at cs p u c j (may (kind (channel cs j)) c u i)) out
    join_refused h =
        did_refuse _ _ e cs (set_channel cs j (with_marks ch (with connections ch.marks p))) h ∙ ap (λ (q : Effect Channels). settle cs q out) joins

    pub join_done : eqb n 9 ≡ false → (m : ℕ) (cs' : Channels) → m ≡ with connections ch.marks p
        → cs' ≡ set_channel cs j (record { role = ch.role; chair = ch.chair; guests = ch.guests; marks = m })
        → settled n l cs' o ≡ settle cs (join_at cs p u c j (may (kind (channel cs j)) c u i)) out
    unfolding with_marks
    join_done h m cs' v w =
        did _ _ e cs cs' (set_channel cs j (with_marks ch (with connections ch.marks p))) (w ∙ ap (λ (a : ℕ). set_channel cs j (with_marks ch a)) v) h
        ∙ ap (λ (q : Effect Channels). settle cs q out) joins

-- ---- CJrq for a channel not in use
module _ (new : ℕ) (full : Bool) (cs : Channels) (p u c : ℕ) where
  module _ (n l : ℕ) (out o : List ℕ) where
    pub new_unknown : 1000 < c → Told p (CJcf no_such_channel u c none) n l out o → settled n l cs o ≡ settle cs (join_new new full cs p u c) out
    unfolding join_new
    new_unknown h e = rw (lt-ltb 1000 c h) (did_nothing _ _ e cs)

    pub new_full : c ≤ 1000 → full ≡ true → Told p (CJcf too_many_channels u c none) n l out o → settled n l cs o ≡ settle cs (join_new new full cs p u c) out
    unfolding join_new
    new_full h f e = rw (le-ltb 1000 c h, f) (did_nothing _ _ e cs)

  module _ (h : c ≤ 1000) (f : full ≡ false) (out : List ℕ) (s : Settled Channels) (k : Kind) (id : ℕ)
      (e : s ≡ settle cs (done (add_channel cs id (channel_of k (only connections p))) (to p (CJcf successful u c (some id)) ∷ [])) out) where
    pub new_assigned : c ≡ 0 → k ≡ Assigned → id ≡ new → s ≡ settle cs (join_new new full cs p u c) out
    unfolding join_new
    new_assigned z x y = rw (le-ltb 1000 c h, f, eq-eqb c 0 z, ← x, ← y) e

    pub new_static : (c ≡ 0 → ⊥) → k ≡ Static → id ≡ c → s ≡ settle cs (join_new new full cs p u c) out
    unfolding join_new
    new_static z x y = rw (le-ltb 1000 c h, f, ne_eqb c 0 z, ← x) (rw y at e)

-- ---- CJrq
module _ (d : Domain) (p u c : ℕ) (out : List ℕ) where
  pub join_asked : {n l : ℕ} {o : List ℕ} {cs : Channels}
      → settled n l cs o ≡ settle d.channels (join (grant d.channels) (at_limit d.limits.channels d.channels.ids) d.users d.channels p u c) out
      → settled n l (put_channels d cs) o ≡ settle d (act (grant d.channels) d p (CJrq u c)) out
  unfolding act channels_full
  join_asked e = on_channels d.limits d.links d.users d.channels d.tokens _ p (CJrq u c) out _ e refl

module _ (new : ℕ) (full : Bool) (us : Users) (cs : Channels) (p u c : ℕ) (out : List ℕ) where
  pub join_nobody : attached us p u ≡ Nowhere → settled 1 0 cs out ≡ settle cs (join new full us cs p u c) out
  unfolding join settle
  join_nobody e = rw (from_nobody us p u _ e) refl

  module _ (i : ℕ) (e : attached us p u ≡ At i) (s : Settled Channels) where
    abbrev after : Place → Effect Channels
    after w = elim w [ At j ↦ join_at cs p u c j (may (kind (channel cs j)) c u i) | Nowhere ↦ join_new new full cs p u c ]

    goes : (w : Place) → find cs.ids c ≡ w → settle cs (join new full us cs p u c) out ≡ settle cs (after w) out
    unfolding join
    goes w q = ap (λ (x : Effect Channels). settle cs x out) (from_at us p u _ i e ∙ ap after q)

    pub join_found : (j : ℕ) → find cs.ids c ≡ At j → s ≡ settle cs (join_at cs p u c j (may (kind (channel cs j)) c u i)) out
        → s ≡ settle cs (join new full us cs p u c) out
    join_found j q h = h ∙ sym (goes (At j) q)

    pub join_unfound : find cs.ids c ≡ Nowhere → s ≡ settle cs (join_new new full cs p u c) out → s ≡ settle cs (join new full us cs p u c) out
    join_unfound q h = h ∙ sym (goes Nowhere q)
