-- Those who leave, settled: refused with 9 and nothing touched, or done; and who leaves by a DUrq, or with a connection that closes.
use mathlib.Core.Path.{◌≡◌, refl, sym, ◌∙◌}
use mathlib.Core.Bool.{true, false}
use mathlib.Core.List.{List}
use Prim.Native.Nat.{ℕ, ◌≤◌, ◌<◌}
use native.Mathlib.Nat.{zero-add}
use lib.ListN.{length, take}
use Rattle.cols_spec.specs.Sets.{null, member, without, once, connections}
use Rattle.cols_spec.specs.Places.{Place, At, Nowhere, find, found, in_order}
use Rattle.cols_spec.proofs.Bools.{and_parts}
use Rattle.cols_spec.proofs.Members.{member_keep}
use Rattle.out_records.specs.Records.{Sent, records}
use Rattle.out_records.specs.Out.{Puts}
use Rattle.domain.specs.Tables.{Users, Channels, Tokens, Domain, attached, remove_users, sweep_channels, sweep_tokens}
use Rattle.domain.specs.Tokens.{lose}
use Rattle.domain.specs.Effects.{Settled, settled, delivers, settle}
use Rattle.domain.specs.Leaving.{fate, farewell, leave, those_on, detach, close}
use Rattle.domain.proofs.Effects.{delivers_full, delivers_done}
use Rattle.serve_leave.specs.declared.Leavers.{Leavers}
use Rattle.serve_leave.specs.Lists.{Leaves}
use Rattle.serve_leave.proofs.LeaverLaws.{chosen}
use Rattle.serve_leave_tables.specs.Fates.{fate_by}
use Rattle.serve_leave_tables.proofs.ListedFates.{listed_fates}

-- those on p are users
on_users : (us : Users) (p : ℕ) (xs : List ℕ) (u : ℕ) → member u (those_on us p xs) ≡ true → found (find us.ids u) ≡ true
unfolding those_on attached found
on_users us p xs u e = go (find us.ids u) (and_parts _ _ (sym (member_keep (λ v. found (attached us p v)) u xs) ∙ e)).0
  where
    go : (w : Place) → found (chosen us p w) ≡ true → found w ≡ true
    go (At i) h = refl
    go Nowhere h = h

-- ---- those of `xs` leave who are on p: they are listed, and their places are known
module _ (d : Domain) (live reason : ℕ) (out : List ℕ) (p : ℕ) (xs list : List ℕ) (who : Leavers) (h : Leaves d.users (those_on d.users p xs) list who) where
  abbrev tables : (us : Users) (cs : Channels) (ts : Tokens) → Domain
  tables us cs ts = record { limits = d.limits; links = live; users = us; channels = cs; tokens = ts }

  abbrev after : Domain
  after = tables (remove_users d.users who.seats) (sweep_channels (fate d.users who.seats live) d.channels) (sweep_tokens (lose who.seats) d.tokens)

  abbrev told : List Sent
  told = farewell d who.seats live reason (take who.count list)

  leaves : delivers 0 d after told out ≡ settle d (leave d live reason (those_on d.users p xs)) out
  unfolding leave settle
  leaves = rw (h.held, h.seated) refl

  same_fates : length d.users.ids ≡ 64 → sweep_channels (fate_by d.users (take who.count list) who.seats live) d.channels ≡ sweep_channels (fate d.users who.seats live) d.channels
  same_fates size = rw (h.held, h.seated) (listed_fates d.users size (those_on d.users p xs) (on_users d.users p xs) live d.channels)

  module _ (k : ℕ) where
    pub leave_full : k ≡ length (records told) → length out < k → settled 9 0 d out ≡ settle d (leave d live reason (those_on d.users p xs)) out
    leave_full size few = delivers_full 0 d after told out k (size ∙ sym (zero-add _)) few ∙ leaves

    pub leave_done : length d.users.ids ≡ 64 → k ≤ length out → (us : Users) (cs : Channels) (ts : Tokens) (o : List ℕ) → us ≡ remove_users d.users who.seats
        → cs ≡ sweep_channels (fate_by d.users (take who.count list) who.seats live) d.channels → ts ≡ sweep_tokens (lose who.seats) d.tokens → Puts out 0 (records told) o k
        → settled 0 k (tables us cs ts) o ≡ settle d (leave d live reason (those_on d.users p xs)) out
    leave_done size fits us cs ts o u v w put = rw (u, v ∙ same_fates size, w) (delivers_done 0 d after told out k put.next fits out o k refl put ∙ leaves)

-- ---- p closes, or DUrq
module _ (d : Domain) (p : ℕ) (ids out : List ℕ) where
  -- what is answered where those leave who are listed
  abbrev Leaving : (answer : Settled Domain) (list : List ℕ) (t : Leavers × ℕ × ℕ) → Type 0
  Leaving answer list t = (q : ℕ) (us : List ℕ) → Leaves d.users (those_on d.users q us) list t.0 → answer ≡ settle d (leave d t.1 t.2 (those_on d.users q us)) out

  module _ {answer : Settled Domain} {list after : List ℕ} {t : Leavers × ℕ × ℕ} {who : Leavers} {live reason : ℕ} (done : Leaving answer list t) (e : list ≡ after) (f : t ≡ (who, live, reason)) where
    pub closing : Leaves d.users (those_on d.users p (in_order d.users.ids)) after who → live ≡ without connections d.links p → reason ≡ 0 → answer ≡ settle d (close d p) out
    unfolding close
    closing h a b = rw (f, a, b) at (done p (in_order d.users.ids) (rw (e, f) h))

  abbrev listed : List ℕ
  listed = those_on d.users p (once ids)

  pub detach_nobody : (reason : ℕ) → null listed ≡ true → settled 1 0 d out ≡ settle d (detach d p reason ids) out
  unfolding detach settle
  detach_nobody reason z = rw z refl

  module _ {answer : Settled Domain} {list after : List ℕ} {t : Leavers × ℕ × ℕ} {who : Leavers} (reason : ℕ) (done : Leaving answer list t) (e : list ≡ after) (f : t ≡ (who, d.links, reason)) where
    pub detach_some : Leaves d.users listed after who → null listed ≡ false → answer ≡ settle d (detach d p reason ids) out
    unfolding detach
    detach_some h z = rw z (rw f at (done p (once ids) (rw (e, f) h)))
