-- Changes of the channels' table that leave the tables sound: one channel set, ended or made, and all at once. Assumes nothing.
use Rattle.std.specs.Prelude.{if◌then◌else◌}
use mathlib.Core.Path.{◌≡◌, refl, sym, ap, ◌∙◌, subst, subst⁻¹}
use mathlib.Core.Bool.{Bool, true, false, ◌&&◌, false≢true}
use mathlib.Core.List.{[]}
use mathlib.Core.Option.{Option, none, some}
use Prim.Native.Nat.{ℕ, ◌<◌}
use native.Mathlib.Omega.{arith}
use lib.Dec.{eqb}
use lib.ListN.{length, get_or}
use borrow.Author.Tests.{ne_eqb, eqb-true, eqb-false, leb-false}
use Rattle.cols_spec.specs.Sets.{has, any}
use Rattle.cols_spec.specs.Places.{used, turns_to}
use Rattle.cols_spec.proofs.Bools.{and_parts, none≢some, some_is}
use Rattle.cols_spec.proofs.Below.{any_upto}
use Rattle.cols_spec.proofs.Marks.{Marks, in_those}
use Rattle.cols_spec.proofs.Rows.{in_list, at_set, get_d_any}
use Rattle.cols_spec.proofs.Table.{Table, table_by, table_set, table_clear, table_add, add_keeps, table_sweep, sweep_used}
use Rattle.domain.specs.declared.channel.Kind.{Kind}
use Rattle.domain.specs.declared.channel.Kind.TheVariants.{Static, User, Private, Assigned}
use Rattle.domain.specs.declared.channel.Channel.{Channel}
use Rattle.domain.specs.Cells.{no_channel, kind, channel_of, with_marks, with_guests}
use Rattle.domain.specs.Tables.{Users, Channels, Domain, put_channels, add_channel, set_channel, end_channel, sweep_channels, lapses, narrowed, hosts, link, at_limit}
use Rattle.domain.specs.Events.{channels_full}
use Rattle.domain.proofs.invariant.Sound.{Host, Owned, Sort, ChannelRow, Sound, limits_le}
use Rattle.domain.proofs.invariant.Seats.{kind_of, marks_of, with_guests_of}

-- who is on a connection of `hosts`
pub in_hosts : (us : Users) (who q : ℕ) → length us.at ≡ 64 → has (hosts us who) q ≡ true → Host us who q
unfolding hosts link any
in_hosts us who q l h =
    any_upto (λ i. has who i && eqb (link us i) q) 64 [] (in_those 16 _ q h).1
    (λ i b e. let r = and_parts (has who i) (eqb (link us i) q) e in
    record { place = i; in_mask = r.0; there = get_d_any us.at i 0 16 (rw l b) ∙ eqb-true (link us i) q r.1 })
    (λ e. absurd (false≢true e))

-- all connections of the mask are open
abbrev pub Open : ℕ → ℕ → Type 0
Open live m = Marks 16 m (λ q. has live q ≡ true)

-- the row of a channel as it is stored
pub row_of : (live : ℕ) (us : Users) (j c : ℕ) (k : Kind) (m : ℕ) → Open live m → Sort us c k m → ChannelRow live us j c (channel_of k m)
row_of live us j c k m a x = record {
  plain = sym (ap (λ (x : Kind). channel_of x (channel_of k m).marks) (kind_of k m) ∙ ap (channel_of k) (marks_of k m));
  joins = rw (marks_of k m) a;
  sort = rw (kind_of k m, marks_of k m) x;
}

-- a private channel as it is stored, with other users admitted and other connections joined
pub guests_changed : (ch : Channel) (g us m : ℕ) → ch ≡ channel_of (Private g us) m → (vs n : ℕ) → with_guests ch vs n ≡ channel_of (Private g vs) n
guests_changed ch g us m e vs n = ap (λ (y : Channel). with_guests y vs n) e ∙ with_guests_of g us m vs n

module _ (d : Domain) (s : Sound d) where
  -- the id and the cell at a place, and the rule of the table's rows
  abbrev cid : ℕ → ℕ
  cid j = get_or d.channels.ids j 0

  abbrev cell : ℕ → Channel
  cell j = get_or d.channels.cells j no_channel

  abbrev Row : ℕ → ℕ → Channel → Type 0
  Row = ChannelRow d.links d.users

  -- the tables with other channels, where users keep theirs
  pub with_channels : (cs : Channels) → ((u : ℕ) → 0 < u → Owned d.channels u → Owned cs u)
      → Table 128 d.limits.channels no_channel Row cs.ids cs.cells → Sound (put_channels d cs)
  with_channels cs f t = record {
    limits_ok = s.limits_ok;
    links_fit = s.links_fit;
    users_are = table_by s.users_are _ (λ i h r. record { low = r.low; high = r.high; linked = r.linked; owned = f _ h r.owned });
    channels_are = t;
    tokens_are = s.tokens_are;
  }

  -- a channel changed: a user's stays a user's
  pub set_sound : (j : ℕ) → 0 < cid j → (ch : Channel) (k : Kind) (m : ℕ) → ch ≡ channel_of k m → Open d.links m → Sort d.users (cid j) k m
      → (kind (cell j) ≡ User → k ≡ User) → Sound (put_channels d (set_channel d.channels j ch))
  unfolding set_channel
  set_sound j h ch k m p a x u = with_channels (set_channel d.channels j ch)
      (λ y yz o. record { spot = o.spot; id_is = o.id_is; kind_is = ap kind (at_set d.channels.cells j o.spot ch no_channel room) ∙ go o.spot (eqb o.spot j) refl o.kind_is })
      (table_set s.channels_are Row j h (λ i n l y. y) ch (subst⁻¹ (Row j (cid j)) p (row_of d.links d.users j (cid j) k m a x)))
    where
      room : j < length d.channels.cells
      room = rw (s.channels_are.ids_size ∙ sym s.channels_are.cells_size) at (in_list d.channels.ids j h)

      go : (i : ℕ) (b : Bool) → eqb i j ≡ b → kind (cell i) ≡ User → kind (if b then ch else cell i) ≡ User
      go i true e f = ap kind p ∙ kind_of k m ∙ u (rw (eqb-true i j e) at f)
      go i false e f = f

  -- a channel that is no user's ends
  pub end_sound : (j : ℕ) → 0 < cid j → (kind (cell j) ≡ User → ⊥) → Sound (put_channels d (end_channel d.channels j))
  unfolding end_channel
  end_sound j h u = with_channels (end_channel d.channels j) (λ x xz o. still o (ne_eqb o.spot j (λ e. u (rw e at o.kind_is))))
      (table_clear s.channels_are Row j h (λ i n l y. y))
    where
      room : j < length d.channels.ids
      room = in_list d.channels.ids j h

      room' : j < length d.channels.cells
      room' = rw (s.channels_are.ids_size ∙ sym s.channels_are.cells_size) at room

      still : {x : ℕ} (o : Owned d.channels x) → eqb o.spot j ≡ false → Owned (end_channel d.channels j) x
      still o e = record {
        spot = o.spot;
        id_is = at_set d.channels.ids j o.spot 0 0 room ∙ rw e o.id_is;
        kind_is = ap kind (at_set d.channels.cells j o.spot no_channel no_channel room') ∙ rw e o.kind_is;
      }

  -- a new channel
  module _ (c : ℕ) (cz : 0 < c) (away : (j : ℕ) → cid j ≡ c → ⊥) (few : channels_full d ≡ false) (ch : Channel) where
    -- the limit is not reached
    pub room_left : used d.channels.ids < d.limits.channels
    unfolding channels_full at_limit
    room_left = leb-false _ _ few

    -- users keep their channels
    pub add_owned : (u : ℕ) → 0 < u → Owned d.channels u → Owned (add_channel d.channels c ch) u
    unfolding add_channel
    add_owned u uz o =
        let r = add_keeps s.channels_are Row room_left (limits_le d.limits s.limits_ok).0 c ch cz o.spot (rw o.id_is uz) in
        record { spot = o.spot; id_is = r.0 ∙ o.id_is; kind_is = ap kind r.1 ∙ o.kind_is }

    -- by any rule that the new channel meets and the others keep
    pub add_table : (Q : ℕ → ℕ → Channel → Type 0) → ((j : ℕ) → Q j c ch) → ((j : ℕ) → 0 < cid j → Row j (cid j) (cell j) → Q j (cid j) (cell j))
        → Table 128 d.limits.channels no_channel Q (add_channel d.channels c ch).ids (add_channel d.channels c ch).cells
    unfolding add_channel
    add_table Q q f = table_add s.channels_are Q room_left (limits_le d.limits s.limits_ok).0 c ch cz away q f

  -- a channel made as it is stored
  pub made_sound : (c : ℕ) → 0 < c → ((j : ℕ) → cid j ≡ c → ⊥) → channels_full d ≡ false → (k : Kind) (m : ℕ) → Open d.links m → Sort d.users c k m
      → Sound (put_channels d (add_channel d.channels c (channel_of k m)))
  made_sound c cz away few k m a x = with_channels (add_channel d.channels c (channel_of k m)) (add_owned c cz away few (channel_of k m))
      (add_table c cz away few (channel_of k m) Row (λ j. row_of d.links d.users j c k m a x) (λ j l y. y))

-- all channels at once, by a rule for those that stay
module _ (cs : Channels) {lim : ℕ} {P : ℕ → ℕ → Channel → Type 0} (t : Table 128 lim no_channel P cs.ids cs.cells) (Q : ℕ → ℕ → Channel → Type 0)
    (fate : ℕ → Channel → Option Channel) where
  -- a user's channel that stays is a user's
  pub sweep_owned : (u : ℕ) → 0 < u → (o : Owned cs u) → (ch : Channel) → fate u (get_or cs.cells o.spot no_channel) ≡ some ch → kind ch ≡ User → Owned (sweep_channels fate cs) u
  unfolding sweep_channels turns_to
  sweep_owned u uz o ch e k =
      let r = sweep_used t Q (λ j c x. fate c x) o.spot (rw o.id_is uz) (some ch) (rw o.id_is e) in
      record { spot = o.spot; id_is = r.0 ∙ o.id_is; kind_is = ap kind r.1 ∙ k }

  -- by any rule that those which stay meet
  pub sweep_table : ((j : ℕ) → 0 < get_or cs.ids j 0 → P j (get_or cs.ids j 0) (get_or cs.cells j no_channel)
      → (ch : Channel) → fate (get_or cs.ids j 0) (get_or cs.cells j no_channel) ≡ some ch → Q j (get_or cs.ids j 0) ch)
      → Table 128 lim no_channel Q (sweep_channels fate cs).ids (sweep_channels fate cs).cells
  unfolding sweep_channels
  sweep_table f = table_sweep t Q (λ j c x. fate c x) f

-- ---- fewer marks

-- a user's channel stays a user's channel
pub marked_user : (ch : Channel) (m : ℕ) → kind ch ≡ User → (narrowed ch m ≡ some (with_marks ch m)) × (kind (with_marks ch m) ≡ User)
unfolding narrowed lapses kind with_marks
marked_user ch m e = (rw e refl, e)

-- of a channel as it is stored
marked_of : (k : Kind) (m n : ℕ) → narrowed (channel_of k m) n ≡ (if lapses k && eqb n 0 then none else some (channel_of k n))
unfolding narrowed lapses kind channel_of with_marks
marked_of Static m n = refl
marked_of User m n = refl
marked_of (Private g adm) m n = refl
marked_of Assigned m n = refl

module _ (live : ℕ) (us : Users) (j c : ℕ) (m n : ℕ) (open_n : Open live n) (less : (q : ℕ) → has n q ≡ true → has m q ≡ true) where
  -- what all marks have, fewer have
  fewer : {N : ℕ → Type 0} → Marks 16 m N → Marks 16 n N
  fewer x = record { fits = open_n.fits; are = λ q h. x.are q (less q h) }

  -- the rules of its kind hold, where it does not end
  fewer_sort : (k : Kind) → Sort us c k m → (lapses k && eqb n 0) ≡ false → Sort us c k n
  unfolding lapses
  fewer_sort Static x e = let z : n ≡ 0 → ⊥ = eqb-false n 0 e in (x.0, x.1, omega arith)
  fewer_sort User x e = (x.0, x.1, record { who = x.2.who; named = x.2.named; marks = fewer x.2.marks })
  fewer_sort (Private g adm) x e = (x.0, x.1, record { manager = x.2.manager; admitted = x.2.admitted; marks = fewer x.2.marks })
  fewer_sort Assigned x e = let z : n ≡ 0 → ⊥ = eqb-false n 0 e in (x.0, x.1, omega arith)

  -- a channel with fewer marks, all of open connections, where it does not end
  pub marked_row : (k : Kind) (ch : Channel) → ch ≡ channel_of k m → Sort us c k m → (after : Channel) → narrowed ch n ≡ some after → ChannelRow live us j c after
  marked_row k ch p x after e = go (lapses k && eqb n 0) refl (sym (marked_of k m n) ∙ subst (λ (y : Channel). narrowed y n ≡ some after) p e)
    where
      go : (b : Bool) → (lapses k && eqb n 0) ≡ b → (if b then none else some (channel_of k n)) ≡ some after → ChannelRow live us j c after
      go true q f = absurd (none≢some f)
      go false q f = subst⁻¹ (ChannelRow live us j c) (some_is f) (row_of live us j c k n open_n (fewer_sort k x q))
