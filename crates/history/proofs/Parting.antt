-- What leaving sends is read back: DUin, CDin and TVcf from sound tables. Assumes nothing.
use Rattle.std.specs.Prelude.{if◌then◌else◌}
use mathlib.Core.Path.{◌≡◌, refl}
use mathlib.Core.Bool.{not, ◌&&◌}
use mathlib.Core.List.{List, [], ◌++◌}
use Prim.Native.Nat.{ℕ, ◌≤◌}
use native.Mathlib.Omega.{arith}
use lib.ListN.{length, get_or}
use Rattle.cols_spec.specs.Sets.{null, each, once, has, with, meet, connections, seats}
use Rattle.cols_spec.specs.Places.{Place, At, Nowhere, find, in_order, load}
use Rattle.cols_spec.proofs.Order.{in_order_length}
use Rattle.cols_spec.proofs.Rows.{find_holds}
use Rattle.codec_table.specs.Named.{DUin, CDin}
use Rattle.codec_table.proofs.NamedLaws.{User, Token, Users}
use Rattle.out_records.specs.Records.{Sent, tell}
use Rattle.out_messages.specs.declared.Confirm.TheVariants.{Give}
use Rattle.domain.specs.declared.channel.Kind.{Kind}
use Rattle.domain.specs.declared.channel.Kind.TheVariants.{Static, User as UserId, Private, Assigned}
use Rattle.domain.specs.declared.token.Holding.{Holding}
use Rattle.domain.specs.declared.token.Holding.TheVariants.{Free, Grabbed, Inhibited, Giving, Given}
use Rattle.domain.specs.Cells.{no_channel, no_token, kind, hold}
use Rattle.domain.specs.Tables.{Users as Names, Domain, hosts, state}
use Rattle.domain.specs.Channels.{places}
use Rattle.domain.specs.Leaving.{ended, returned, farewell, leave, those_on, detach, close}
use Rattle.domain.proofs.invariant.Sound.{Sort, Held, Sound}
use Rattle.provider.proofs.Room.{once_le}
use Rattle.history.proofs.ReadBack.{Readables}
use Rattle.history.proofs.Readables.{confirm_readable, CDin_readable, DUin_readable}
use Rattle.history.proofs.Readables.{all_append, all_told, all_each, all_either}
use Rattle.history.proofs.Told.{Told, told_either, status_le}
use Rattle.history.proofs.Tabled.{seated_user, those_users}

-- a private channel has an id in its range
abbrev Named : ℕ → Kind → Type 0
Named c Static = Unit {0}
Named c UserId = Unit {0}
Named c (Private g adm) = User c
Named c Assigned = Unit {0}

-- by the rule of its row
sort_named : (us : Names) (c : ℕ) (k : Kind) (m : ℕ) → Sort us c k m → Named c k
sort_named us c Static m h = tt
sort_named us c UserId m h = tt
sort_named us c (Private g adm) m h = record { least = h.0; most = h.1 }
sort_named us c Assigned m h = tt

module _ (d : Domain) (s : Sound d) where
  -- CDin where a private channel ends
  ended_told : (gone live c : ℕ) (k : Kind) → Named c k → Readables (ended d.users gone live c k)
  unfolding ended
  ended_told gone live c Static h = tt
  ended_told gone live c UserId h = tt
  ended_told gone live c (Private g adm) h = all_either (has gone g) _ _ (all_told (meet connections (hosts d.users (with seats adm g)) live) (CDin c) (CDin_readable c h)) tt
  ended_told gone live c Assigned h = tt

  -- the channel of an id
  channel_named : (c : ℕ) → Named c (kind (load d.channels.cells (find d.channels.ids c) no_channel))
  unfolding load kind
  channel_named c = go (find d.channels.ids c) refl
    where
      go : (w : Place) → find d.channels.ids c ≡ w → Named c (kind (load d.channels.cells w no_channel))
      go (At j) e =
          let r = find_holds d.channels.ids c j e in
          let ch = get_or d.channels.cells j no_channel in
          sort_named d.users c (kind ch) ch.marks (rw r.0 at (s.channels_are.rows j (rw r.0 r.2)).sort)
      go Nowhere e = tt

  -- TVcf where an offer comes back
  returned_told : (gone k : ℕ) → Token k → (h : Holding) → Held d.users h → Readables (returned d.users gone k h)
  unfolding returned
  returned_told gone k t Free e = tt
  returned_told gone k t (Grabbed g) e = tt
  returned_told gone k t (Inhibited is) e = tt
  returned_told gone k t (Giving g r) e =
      all_either (has gone r && not (has gone g)) _ _ (confirm_readable (seated_user d s g e.0) t Give _ _ (omega arith) (status_le _ g), tt) tt
  returned_told gone k t (Given r) e = tt

  -- of the token of an id
  token_returned : (gone k : ℕ) → Readables (returned d.users gone k (state d.tokens k))
  unfolding state load hold returned
  token_returned gone k = go (find d.tokens.ids k) refl
    where
      go : (w : Place) → find d.tokens.ids k ≡ w → Readables (returned d.users gone k (hold (load d.tokens.cells w no_token)))
      go (At i) e =
          let r = find_holds d.tokens.ids k i e in
          let row = s.tokens_are.rows i (rw r.0 r.2) in
          returned_told gone k (record { least = r.2; most = omega (arith, r.0, row.small) }) (hold (get_or d.tokens.cells i no_token)) row.held
      go Nowhere e = tt

  -- DUin, CDin and TVcf together
  farewell_told : (gone live reason : ℕ) (ids : List ℕ) → reason ≤ 4 → Users ids → Readables (farewell d gone live reason ids)
  unfolding farewell
  farewell_told gone live reason ids h l =
      all_append (left ++ each over (in_order d.channels.ids)) (each back (in_order d.tokens.ids))
      (all_append left (each over (in_order d.channels.ids))
      (all_either (null ids) [] (tell live (DUin reason ids)) tt (all_told live (DUin reason ids) (DUin_readable ids l reason h)))
      (all_each over (λ c. ended_told gone live c (kind (load d.channels.cells (find d.channels.ids c) no_channel)) (channel_named c)) (in_order d.channels.ids)))
      (all_each back (token_returned gone) (in_order d.tokens.ids))
    where
      left : List Sent
      left = if null ids then [] else tell live (DUin reason ids)

      over : ℕ → List Sent
      over c = ended d.users gone live c (kind (load d.channels.cells (find d.channels.ids c) no_channel))

      back : ℕ → List Sent
      back k = returned d.users gone k (state d.tokens k)

  -- users leave together
  leave_told : (live reason : ℕ) (ids : List ℕ) → reason ≤ 4 → Users ids → Told (leave d live reason ids)
  unfolding leave
  leave_told live reason ids h l = farewell_told (places d.users ids) live reason ids h l

  -- DUrq
  pub detach_told : (p reason : ℕ) (ids : List ℕ) → reason ≤ 4 → length ids ≤ 64 → Told (detach d p reason ids)
  unfolding detach
  detach_told p reason ids h l =
      told_either (null (those_on d.users p (once ids))) _ _ tt
      (leave_told d.links reason (those_on d.users p (once ids)) h (those_users d s p (once ids) (omega (arith, once_le ids))))

  -- DPum, RJum, loss
  pub close_told : (p : ℕ) → Told (close d p)
  unfolding close
  close_told p =
      leave_told _ 0 (those_on d.users p (in_order d.users.ids)) (omega arith)
      (those_users d s p (in_order d.users.ids) (omega (arith, in_order_length d.users.ids, s.users_are.ids_size)))
