-- The tables of the image of good tables are good. Assumes nothing.
use Rattle.std.specs.Prelude.{if◌then◌else◌}
use mathlib.Core.Path.{◌≡◌, refl, sym, ap, ◌∙◌, subst, subst⁻¹}
use mathlib.Core.Bool.{Bool, true, false, true≢false}
use mathlib.Core.List.{map}
use mathlib.Core.Option.{Option, none, some}
use Prim.Native.Nat.{ℕ, ◌<◌}
use native.Mathlib.Omega.{arith}
use lib.Dec.{eqb}
use lib.ListN.{get_or}
use borrow.Author.Tests.{ne_eqb, eqb-false, not-true}
use Rattle.cols_spec.specs.Sets.{member}
use Rattle.cols_spec.specs.Places.{Place, At, Nowhere, find, in_order}
use Rattle.cols_spec.proofs.Bools.{some_is, none≢some}
use Rattle.cols_spec.proofs.Marks.{marks_map, in_with}
use Rattle.cols_spec.proofs.Rows.{find_holds, find_there, get_d_any, Apart}
use Rattle.cols_spec.proofs.Answers.{found_somewhere}
use Rattle.cols_spec.proofs.Table.{Table}
use Rattle.domain.specs.declared.channel.Kind.{Kind}
use Rattle.domain.specs.declared.channel.Kind.TheVariants.{Static, User, Private, Assigned}
use Rattle.domain.specs.declared.token.Holding.{Holding}
use Rattle.domain.specs.Cells.{no_channel, no_token, kind, channel_of}
use Rattle.domain.specs.Tables.{Users, Channels, Tokens, Domain, link, channel, state, is_free, seen}
use Rattle.domain_laws.specs.Same.{Role, role_of, channel_at, standing, token_at}
use Rattle.domain_laws.specs.View.{View, view}
use Rattle.domain_laws.specs.Built.{users_built, kind_built, channel_built, channels_built, holding_built, token_built, tokens_built, built, Restores}
use Rattle.domain.proofs.invariant.Sound.{Seated, Owned, UserRow, Sort, ChannelRow, Held, TokenRow, Sound}
use Rattle.domain.proofs.invariant.Seats.{kind_of}
use Rattle.domain.proofs.invariant.Rooms.{row_of}
use Rattle.domain.proofs.invariant.Held.{token_row, state_held}
use Rattle.domain.proofs.invariant.GoodIsSound.{good_sound, sound_good}
use Rattle.domain_laws.proofs.same.Twins.{Twins, Pair, partner, pair_link, found_left, match_none, match_with, match_eqb}
use Rattle.domain_laws.proofs.same.Holdings.{Twin, both_free, both_grabbed, both_inhibited, both_giving, both_given, twin_free}
use Rattle.domain_laws.proofs.same.Kinds.{said_of}
use Rattle.domain_laws.proofs.same.Passing.{token_found}
use Rattle.domain_laws.proofs.same.Views.{pick_row, channels_picked}
use Rattle.domain_laws.proofs.restored.Listing.{mapped, padded_at, names_of, built_apart, built_table}
use Rattle.domain_laws.proofs.restored.Again.{some_there, in_order_found, channels_none, tokens_none, user_names, twins_again, pair_again, match_again, channel_again, hold_again, same_again}

module _ (d : Domain) (s : Sound d) where
  abbrev us : Users
  us = d.users

  abbrev v : View
  v = view d

  abbrev us' : Users
  us' = users_built v.users

  abbrev cs' : Channels
  cs' = channels_built us' v.channels

  abbrev ts' : Tokens
  ts' = tokens_built us' v.tokens

  abbrev t : Twins us' us
  t = twins_again d s

  -- the connection of one user in both
  at_same : {i j : ℕ} → Pair us' us i j → get_or us'.at i 0 ≡ get_or us.at j 0
  unfolding link
  at_same {i} {j} p =
      get_d_any us'.at i 0 16 (omega (arith, (find_holds us'.ids p.id i p.left).1, t.left.ids_size, t.left.at_size))
      ∙ pair_link us' us t p
      ∙ get_d_any us.at j 16 0 (omega (arith, (find_holds us.ids p.id j p.right).1, t.right.ids_size, t.right.at_size))

  -- ---- channels

  sort_again : (c : ℕ) (k : Kind) (m : ℕ) → Sort us c k m → Sort us' c (kind_built us' (role_of us k)) m
  unfolding kind_built role_of
  sort_again c Static m x = x
  sort_again c User m x =
      let h : Seated us x.2.who = rw x.2.named (omega (arith, x.0)) in
      let p = pair_again d s x.2.who h in
      (x.0, x.1, record { who = _; named = (find_holds us'.ids p.id _ p.left).0 ∙ sym (find_holds us.ids p.id _ p.right).0 ∙ x.2.named; marks = marks_map 16 x.2.marks (λ q e. at_same p ∙ e) })
  sort_again c (Private g adm) m x = (
    x.0,
    x.1,
    record {
      manager = found_left us' us t (pair_again d s g x.2.manager);
      admitted = (match_again d s adm x.2.admitted).left;
      marks = marks_map 16 x.2.marks (λ q o.
          let h : Seated us o.place = in_with 64 adm o.place g o.in_mask (x.2.admitted.are o.place) (λ e. rw e x.2.manager) in
          let p = pair_again d s o.place h in
          record {
            place = _;
            in_mask = (match_with us' us t _ _ (match_again d s adm x.2.admitted) (pair_again d s g x.2.manager)).same _ o.place p ∙ o.in_mask;
            there = at_same p ∙ o.there;
          });
    },
  )
  sort_again c Assigned m x = x

  pub channel_names : map (λ r. r.0) v.channels ≡ in_order d.channels.ids
  unfolding view channel_at
  channel_names = names_of (channel_at us d.channels) (in_order d.channels.ids) (λ x m e. some_there (find d.channels.ids x) _ (in_order_found d.channels.ids x m) e)

  channels_apart : Apart cs'.ids
  unfolding channels_built
  channels_apart = built_apart (channel_built us') 128 no_channel v.channels d.channels.ids channel_names s.channels_are.ids_size

  -- a channel in use is that of the same id in the other
  record Beside (j : ℕ) : Type 0 where
    spot : ℕ
    used_there : 0 < get_or d.channels.ids spot 0
    id_there : get_or d.channels.ids spot 0 ≡ get_or cs'.ids j 0
    cell_here : get_or cs'.cells j no_channel ≡ channel_of (kind_built us' (role_of us (kind (get_or d.channels.cells spot no_channel)))) (get_or d.channels.cells spot no_channel).marks

  beside : (j : ℕ) → 0 < get_or cs'.ids j 0 → Beside j
  unfolding channels_built channel_at channel
  beside j h = go (find d.channels.ids c) refl (padded_at (channel_built us') 128 no_channel v.channels (channels_none d) c j (find_there cs'.ids channels_apart j h) ∙ ap (mapped (channel_built us')) (channels_picked d c))
    where
      c : ℕ
      c = get_or cs'.ids j 0

      view_of : Place → Option (Role × ℕ)
      view_of w = seen w none (λ k. some (said_of us (channel d.channels k)))

      go : (w : Place) → find d.channels.ids c ≡ w → some (get_or cs'.cells j no_channel) ≡ mapped (channel_built us') (view_of (find d.channels.ids c)) → Beside j
      go (At k) e q =
          let r = find_holds d.channels.ids c k e in
          record { spot = k; used_there = rw r.0 r.2; id_there = r.0; cell_here = sym (some_is (q ∙ ap (λ (w : Place). mapped (channel_built us') (view_of w)) e)) }
      go Nowhere e q = absurd (none≢some (sym (q ∙ ap (λ (w : Place). mapped (channel_built us') (view_of w)) e)))

  channels_again : Table 128 d.limits.channels no_channel (ChannelRow d.links us') cs'.ids cs'.cells
  unfolding channels_built
  channels_again = built_table (channel_built us') 128 no_channel v.channels d.channels.ids channel_names s.channels_are.ids_size d.limits.channels (ChannelRow d.links us') s.channels_are.counted row
    where
      row : (j : ℕ) → 0 < get_or cs'.ids j 0 → ChannelRow d.links us' j (get_or cs'.ids j 0) (get_or cs'.cells j no_channel)
      row j h =
          let b = beside j h in
          let r = s.channels_are.rows b.spot b.used_there in
          subst⁻¹ (ChannelRow d.links us' j (get_or cs'.ids j 0)) b.cell_here (row_of d.links us' j (get_or cs'.ids j 0) _ _ r.joins
          (sort_again (get_or cs'.ids j 0) (kind (get_or d.channels.cells b.spot no_channel)) _ (subst (λ (c : ℕ). Sort us c (kind (get_or d.channels.cells b.spot no_channel)) (get_or d.channels.cells b.spot no_channel).marks) b.id_there r.sort)))

  -- ---- users

  -- a user's own channel
  own_kind : {k : Kind} → k ≡ User → kind_built us' (role_of us k) ≡ User
  unfolding kind_built role_of
  own_kind e = ap (λ (k : Kind). kind_built us' (role_of us k)) e

  owned_again : (u : ℕ) → 0 < u → Owned d.channels u → Owned cs' u
  unfolding channel_at channel
  owned_again u uz o = go (find cs'.ids u) refl
    where
      here : find d.channels.ids u ≡ At o.spot
      here = rw o.id_is at (find_there d.channels.ids s.channels_are.apart o.spot (rw o.id_is uz))

      is : channel_at us d.channels u ≡ some (said_of us (get_or d.channels.cells o.spot no_channel))
      is = ap (λ (w : Place). seen w none (λ j. some (said_of us (channel d.channels j)))) here

      go : (w : Place) → find cs'.ids u ≡ w → Owned cs' u
      go (At j) e =
          let r = find_holds cs'.ids u j e in
          let h : 0 < get_or cs'.ids j 0 = rw r.0 r.2 in
          let b = beside j h in
          let same : b.spot ≡ o.spot = s.channels_are.apart b.spot o.spot b.used_there (b.id_there ∙ r.0 ∙ sym o.id_is) in
          record { spot = j; id_is = r.0; kind_is = ap kind b.cell_here ∙ kind_of _ _ ∙ own_kind (rw (sym same) at o.kind_is) }
      go Nowhere e = absurd (none≢some (sym (ap (λ (w : Place). seen w none (λ j. some (said_of us' (channel cs' j)))) e) ∙ channel_again d s u ∙ is))

  users_again : Table 64 d.limits.users 0 (UserRow d.links cs') us'.ids us'.at
  unfolding users_built
  users_again = built_table (λ (p : ℕ). p) 64 0 v.users us.ids (user_names d s) s.users_are.ids_size d.limits.users (UserRow d.links cs') s.users_are.counted
      (λ i h. row i h (partner us' us t i h).0 (partner us' us t i h).1)
    where
      row : (i : ℕ) → 0 < get_or us'.ids i 0 → (j : ℕ) → Pair us' us i j → UserRow d.links cs' i (get_or us'.ids i 0) (get_or us'.at i 0)
      row i h j p =
          let e : get_or us'.ids i 0 ≡ get_or us.ids j 0 = (find_holds us'.ids p.id i p.left).0 ∙ sym (find_holds us.ids p.id j p.right).0 in
          let r = s.users_are.rows j (rw e at h) in
          rw (e, at_same p) (record { low = r.low; high = r.high; linked = r.linked; owned = owned_again (get_or us.ids j 0) (rw e at h) r.owned })

  -- ---- tokens

  pub token_names : map (λ r. r.0) v.tokens ≡ in_order d.tokens.ids
  unfolding view
  token_names = names_of (λ k. some (token_at us d.tokens k)) (in_order d.tokens.ids) (λ x m e. none≢some (sym e))

  tokens_apart : Apart ts'.ids
  unfolding tokens_built
  tokens_apart = built_apart (token_built us') 64 no_token v.tokens d.tokens.ids token_names s.tokens_are.ids_size

  twin_held : {h k : Holding} → Twin us' us h k → Held us k → Held us' h
  twin_held both_free x = tt
  twin_held (both_grabbed p) x = found_left us' us t p
  twin_held (both_inhibited {m} {n} y) x = (pos (eqb m 0) refl, y.left)
    where
      pos : (b : Bool) → eqb m 0 ≡ b → 0 < m
      pos true e = absurd (true≢false (sym e ∙ match_eqb us' us t y (match_none us' us) ∙ ne_eqb n 0 (λ z. omega (arith, x.0, z))))
      pos false e = omega (arith, eqb-false m 0 e)
  twin_held (both_giving p q) x = (found_left us' us t p, found_left us' us t q)
  twin_held (both_given p) x = found_left us' us t p

  token_again_row : (i : ℕ) → 0 < get_or ts'.ids i 0 → TokenRow us' i (get_or ts'.ids i 0) (get_or ts'.cells i no_token)
  unfolding tokens_built view token_at
  token_again_row i h = go (member k (in_order d.tokens.ids)) refl
      (padded_at (token_built us') 64 no_token v.tokens (tokens_none d) k i (find_there ts'.ids tokens_apart i h) ∙ ap (mapped (token_built us')) (pick_row k (λ k. some (token_at us d.tokens k)) (in_order d.tokens.ids)))
    where
      k : ℕ
      k = get_or ts'.ids i 0

      st : Holding
      st = state d.tokens k

      go : (b : Bool) → member k (in_order d.tokens.ids) ≡ b → some (get_or ts'.cells i no_token) ≡ mapped (token_built us') (if b then some (standing us st) else none) → TokenRow us' i k (get_or ts'.cells i no_token)
      go false m q = absurd (none≢some (sym q))
      go true m q =
          let f = in_order_found d.tokens.ids k m in
          let w = found_somewhere (find d.tokens.ids k) f in
          let r = find_holds d.tokens.ids k w.0 w.1 in
          let a = hold_again d s st (state_held d s k) in
          subst⁻¹ (TokenRow us' i k) (sym (some_is q))
          (token_row us' t.left.ids_size i k (holding_built us' (standing us st)) (rw r.0 at (s.tokens_are.rows w.0 (rw r.0 r.2)).small)
          (twin_free us' us t a ∙ not-true (is_free st) (sym (token_found d s k) ∙ f)) (twin_held a (state_held d s k)))

  tokens_again : Table 64 d.limits.tokens no_token (TokenRow us') ts'.ids ts'.cells
  unfolding tokens_built
  tokens_again = built_table (token_built us') 64 no_token v.tokens d.tokens.ids token_names s.tokens_are.ids_size d.limits.tokens (TokenRow us') s.tokens_are.counted token_again_row

  sound_again : Sound (built (view d))
  unfolding built view
  sound_again = record { limits_ok = s.limits_ok; links_fit = s.links_fit; users_are = users_again; channels_are = channels_again; tokens_are = tokens_again }

pub restored : Restores
restored d g = record { good = sound_good _ (sound_again d (good_sound d g)); same = same_again d (good_sound d g) }
