-- Nothing is told of a channel that does not end, or of a token that is not being given.
use Rattle.std.specs.Prelude.{if◌then◌else◌}
use mathlib.Core.Path.{◌≡◌, refl, sym, ap, ◌∙◌}
use mathlib.Core.Bool.{Bool, true, false, ◌&&◌}
use mathlib.Core.List.{List, [], ◌∷◌}
use Prim.Native.Nat.{ℕ, zero, suc, ◌%◌, ◌<◌}
use lib.Dec.{eqb, ltb}
use lib.ListN.{length, get_or, get_or-eq_default}
use borrow.Author.Tests.{ne_eqb, ltb-true, ltb-false}
use Rattle.cols_spec.specs.Sets.{each, has}
use Rattle.cols_spec.specs.Places.{At, find, load, in_order, picked}
use Rattle.cols_spec.proofs.Kept.{picked_length, each_picked, each_none}
use Rattle.out_records.specs.Records.{Sent, records}
use Rattle.domain.specs.declared.channel.Channel.{Channel}
use Rattle.domain.specs.declared.channel.Kind.TheVariants.{Static, User, Private, Assigned}
use Rattle.domain.specs.declared.token.Holding.TheVariants.{Free, Grabbed, Inhibited, Given}
use Rattle.domain.specs.declared.token.Token.{Token}
use Rattle.domain.specs.Cells.{no_channel, no_token, kind, hold}
use Rattle.domain.specs.Tables.{Users, channel_cells, channels_of, token_cells, tokens_of, state}
use Rattle.domain.specs.Leaving.{ended, returned}
use Rattle.serve_leave_records.specs.Parts.{ends_by, ends_there, end_at, return_at}
use Rattle.serve_leave_records.proofs.Rounds.{coming, coming_all}

-- no cell is 3, also behind the end
pub none_is : (xs : List ℕ) → ((j : ℕ) → j < length xs → get_or xs j 0 ≡ 3 → ⊥) → (j : ℕ) → eqb (get_or xs j 0) 3 ≡ false
none_is xs h j = go (ltb j (length xs)) refl
  where
    go : (b : Bool) → ltb j (length xs) ≡ b → eqb (get_or xs j 0) 3 ≡ false
    go true e = ne_eqb (get_or xs j 0) 3 (h j (ltb-true j (length xs) e))
    go false e = rw (get_or-eq_default xs 0 (ltb-false j (length xs) e)) refl

-- of ids that bring nothing unless their places pass, those that pass are all that count
coming_picked : (f : ℕ → List Sent) (test : ℕ → Bool) (ids : List ℕ) → ((x j : ℕ) → find ids x ≡ At j → test j ≡ false → f x ≡ [])
    → coming f (length ids) 0 (picked test 0 ids) ≡ records (each f (in_order ids))
coming_picked f test ids silent =
    ap (λ (n : ℕ). coming f n 0 (picked test 0 ids)) (sym (picked_length test 0 ids))
    ∙ coming_all f (picked test 0 ids) ∙ ap records (sym (each_picked f test ids silent))

-- ---- channels
quiet_cell : (gone : ℕ) (rs cs gs ms : List ℕ) (j : ℕ) → ends_by gone (get_or rs j 0) (get_or cs j 0) ≡ false
    → ends_by gone (get_or (channel_cells rs cs gs ms) j no_channel).role (get_or (channel_cells rs cs gs ms) j no_channel).chair ≡ false
unfolding channel_cells
quiet_cell gone [] cs gs ms j h = refl
quiet_cell gone (r ∷ rs) [] gs ms j h = refl
quiet_cell gone (r ∷ rs) (c ∷ cs) [] ms j h = refl
quiet_cell gone (r ∷ rs) (c ∷ cs) (g ∷ gs) [] j h = refl
quiet_cell gone (r ∷ rs) (c ∷ cs) (g ∷ gs) (m ∷ ms) zero h = h
quiet_cell gone (r ∷ rs) (c ∷ cs) (g ∷ gs) (m ∷ ms) (suc j) h = quiet_cell gone rs cs gs ms j h

quiet_kind : (us : Users) (gone live c : ℕ) (ch : Channel) → ends_by gone ch.role ch.chair ≡ false → ended us gone live c (kind ch) ≡ []
unfolding kind ended
quiet_kind us gone live c ch h = go (eqb ch.role 2) (eqb ch.role 3) (eqb ch.role 4) h
  where
    go : (a b d : Bool) → (b && has gone ch.chair) ≡ false
        → ended us gone live c (if a then User else if b then Private ch.chair ch.guests else if d then Assigned else Static) ≡ []
    go true b d e = refl
    go false true d e = rw e refl
    go false false true e = refl
    go false false false e = refl

module _ (us : Users) (ids roles chairs guests marks : List ℕ) (gone live : ℕ) where
  abbrev end_of : ℕ → List Sent
  end_of = end_at us (channels_of ids roles chairs guests marks) gone live

  quiet_end : (c j : ℕ) → find ids c ≡ At j → ends_there gone roles chairs j ≡ false → end_of c ≡ []
  unfolding load
  quiet_end c j e h = rw e (quiet_kind us gone live c (get_or (channel_cells roles chairs guests marks) j no_channel) (quiet_cell gone roles chairs guests marks j h))

  -- only those count that end: they are gone over, or all are
  pub ends_coming : (all : Bool) → coming end_of (length ids) 0 (if all then ids else picked (ends_there gone roles chairs) 0 ids) ≡ records (each end_of (in_order ids))
  ends_coming true = coming_all end_of ids
  ends_coming false = coming_picked end_of (ends_there gone roles chairs) ids quiet_end

  pub ends_none : ((j : ℕ) → j < length roles → get_or roles j 0 ≡ 3 → ⊥) → each end_of (in_order ids) ≡ []
  ends_none h = each_none end_of (ends_there gone roles chairs) ids quiet_end (λ j. rw (none_is roles h j) refl)

-- ---- tokens
still_cell : (ms vs : List ℕ) (j : ℕ) → eqb (get_or ms j 0) 3 ≡ false → eqb (get_or (token_cells ms vs) j no_token).mode 3 ≡ false
unfolding token_cells
still_cell [] vs j h = refl
still_cell (m ∷ ms) [] j h = refl
still_cell (m ∷ ms) (v ∷ vs) zero h = h
still_cell (m ∷ ms) (v ∷ vs) (suc j) h = still_cell ms vs j h

still_token : (us : Users) (gone k : ℕ) (t : Token) → eqb t.mode 3 ≡ false → returned us gone k (hold t) ≡ []
unfolding hold returned
still_token us gone k t h = rw h (go (eqb t.mode 1) (eqb t.mode 2) (eqb t.mode 4))
  where
    go : (a b e : Bool) → returned us gone k (if a then Grabbed (t.value % 64) else if b then Inhibited t.value else if e then Given (t.value % 64) else Free) ≡ []
    go true b e = refl
    go false true e = refl
    go false false true = refl
    go false false false = refl

abbrev pub given_there : List ℕ → ℕ → Bool
given_there modes j = eqb (get_or modes j 0) 3

module _ (us : Users) (keys modes values : List ℕ) (gone : ℕ) where
  abbrev return_of : ℕ → List Sent
  return_of = return_at us (tokens_of keys modes values) gone

  still_return : (k j : ℕ) → find keys k ≡ At j → given_there modes j ≡ false → return_of k ≡ []
  unfolding state load
  still_return k j e h = rw e (still_token us gone k (get_or (token_cells modes values) j no_token) (still_cell modes values j h))

  -- only those count that are being given
  pub returns_coming : coming return_of (length keys) 0 (picked (given_there modes) 0 keys) ≡ records (each return_of (in_order keys))
  returns_coming = coming_picked return_of (given_there modes) keys still_return

  pub returns_none : ((j : ℕ) → j < length modes → get_or modes j 0 ≡ 3 → ⊥) → each return_of (in_order keys) ≡ []
  returns_none h = each_none return_of (given_there modes) keys still_return (none_is modes h)
