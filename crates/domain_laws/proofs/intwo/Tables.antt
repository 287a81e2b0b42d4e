-- Users that leave one after the other leave the tables that they leave together. Assumes nothing.
use Rattle.std.specs.Prelude.{if◌then◌else◌}
use mathlib.Core.Path.{◌≡◌, refl, sym, ap, ap₂, ◌∙◌, fun_ext}
use mathlib.Core.Bool.{Bool, true, false, not, ◌&&◌, ◌||◌, false≢true}
use mathlib.Core.List.{[]}
use mathlib.Core.Option.{Option, none, some}
use Prim.Native.Nat.{ℕ, ◌<◌}
use native.Mathlib.Omega.{arith}
use lib.Dec.{eqb}
use lib.ListN.{length, get_or}
use borrow.Author.Tests.{ne_eqb, eqb-true}
use Rattle.cols_spec.specs.Sets.{any, has, those, with, minus, meet, seats, connections, upto}
use Rattle.cols_spec.specs.Places.{At, find}
use Rattle.cols_spec.proofs.Bools.{and_parts, and_both, or_parts}
use Rattle.cols_spec.proofs.Below.{any_same, any_upto, any_hit}
use Rattle.cols_spec.proofs.Digits.{has_those, those_lt, mask_ext}
use Rattle.cols_spec.proofs.Marks.{Marks, has_none, in_with, in_minus, with_mono}
use Rattle.cols_spec.proofs.Rows.{find_there}
use Rattle.domain.specs.declared.channel.Kind.{Kind}
use Rattle.domain.specs.declared.channel.Kind.TheVariants.{Static, User, Private, Assigned}
use Rattle.domain.specs.declared.channel.Channel.{Channel}
use Rattle.domain.specs.declared.token.Holding.{Holding}
use Rattle.domain.specs.declared.token.Holding.TheVariants.{Free, Grabbed, Inhibited, Giving, Given}
use Rattle.domain.specs.declared.token.Token.{Token}
use Rattle.domain.specs.Cells.{no_channel, no_token, kind, channel_of, with_marks, with_guests, hold, token_of}
use Rattle.domain.specs.Tables.{Users, Domain, link, stays_on, remove_users, hosts, sweep_channels, lapses, narrowed, is_free, sweep_tokens}
use Rattle.domain.specs.Tokens.{lose, lose_offer, inhibited}
use Rattle.domain.specs.Channels.{private_marks}
use Rattle.domain.specs.Leaving.{fate_of, fate}
use Rattle.domain.proofs.invariant.Sound.{Seated, Sort, Held, Sound, free_is}
use Rattle.domain.proofs.invariant.Seats.{kind_of, hold_of, held_low}
use Rattle.domain.proofs.invariant.Held.{lose_held}
use Rattle.domain.proofs.invariant.Rooms.{guests_changed}
use Rattle.domain.proofs.holders.Known.{link_left}
use Rattle.domain_laws.proofs.same.Leaving.{find_stays, fate_there}
use Rattle.domain_laws.proofs.intwo.Sweeps.{and_then, twice_ids, twice_cells}

-- the tables when those at the places `gone` have left, and no connection closes
abbrev pub gone_from : Domain → ℕ → Domain
gone_from d gone = record {
  limits = d.limits;
  links = d.links;
  users = remove_users d.users gone;
  channels = sweep_channels (fate d.users gone d.links) d.channels;
  tokens = sweep_tokens (lose gone) d.tokens;
}

minus_none : (n : ℕ) → minus seats 0 n ≡ 0
unfolding minus
minus_none n = mask_ext 64 _ 0 (those_lt 64 _) (omega arith) (λ k l. has_those 64 _ k l ∙ rw (has_none k))

-- a set that may be empty
lose_inhibited : (b m : ℕ) → lose b (inhibited m) ≡ inhibited (minus seats m b)
unfolding inhibited lose
lose_inhibited b m = go (eqb m 0) refl
  where
    go : (z : Bool) → eqb m 0 ≡ z → lose b (if z then Free else Inhibited m) ≡ inhibited (minus seats m b)
    go true e = sym (ap inhibited (ap (λ (y : ℕ). minus seats y b) (eqb-true m 0 e) ∙ minus_none b))
    go false e = refl

has_minus : (m n k : ℕ) → k < 64 → has (minus seats m n) k ≡ (has m k && not (has n k))
unfolding minus
has_minus m n k l = has_those 64 _ k l

-- connections asked again, of which the later ask for no others
meet_again : (m live h k : ℕ) → ((q : ℕ) → q < 16 → has k q ≡ true → has h q ≡ true) → meet connections (meet connections (meet connections (meet connections m live) h) live) k ≡ meet connections (meet connections m live) k
unfolding meet
meet_again m live h k f = mask_ext 16 _ _ (those_lt 16 _) (those_lt 16 _) (λ q l.
    has_those 16 _ q l
    ∙ ap (λ (z : Bool). z && has k q) (has_those 16 _ q l ∙ ap (λ (z : Bool). z && has live q) (has_those 16 _ q l ∙ ap (λ (z : Bool). z && has h q) (has_those 16 _ q l)))
    ∙ go (has m q) (has live q) (has h q) (has k q) (f q l)
    ∙ sym (has_those 16 _ q l ∙ ap (λ (z : Bool). z && has k q) (has_those 16 _ q l)))
  where
    go : (m l h k : Bool) → (k ≡ true → h ≡ true) → ((((m && l) && h) && l) && k) ≡ ((m && l) && k)
    go false l h k f = refl
    go true false h k f = refl
    go true true true k f = refl
    go true true false true f = absurd (false≢true (f refl))
    go true true false false f = refl

-- those of a and then those of b, or those of g
module _ (us : Users) (a b g : ℕ) (sum : (i : ℕ) → Seated us i → has g i ≡ (has a i || has b i)) where
  minus_twice : (m : ℕ) → Marks 64 m (Seated us) → minus seats (minus seats m a) b ≡ minus seats m g
  unfolding minus
  minus_twice m x = mask_ext 64 _ _ (those_lt 64 _) (those_lt 64 _) (λ k l.
      has_those 64 _ k l ∙ ap (λ (z : Bool). z && not (has b k)) (has_those 64 _ k l) ∙ go k (has m k) refl ∙ sym (has_those 64 _ k l))
    where
      both : (p q : Bool) → (not p && not q) ≡ not (p || q)
      both true q = refl
      both false q = refl

      go : (k : ℕ) (z : Bool) → has m k ≡ z → ((z && not (has a k)) && not (has b k)) ≡ (z && not (has g k))
      go k true e = both (has a k) (has b k) ∙ ap not (sym (sum k (x.are k e)))
      go k false e = refl

  lose_twice : (h : Holding) → Held us h → lose b (lose a h) ≡ lose g h
  unfolding lose lose_offer
  lose_twice Free x = refl
  lose_twice (Grabbed i) x = rw (sum i x) (go (has a i))
    where
      go : (p : Bool) → lose b (if p then Free else Grabbed i) ≡ (if p || has b i then Free else Grabbed i)
      go true = refl
      go false = refl
  lose_twice (Inhibited m) x = lose_inhibited b (minus seats m a) ∙ ap inhibited (minus_twice m x.1)
  lose_twice (Giving i j) x = rw (sum i x.0, sum j x.1) (go (has a i) (has a j))
    where
      go : (p q : Bool) → lose b (lose_offer p q i j) ≡ lose_offer (p || has b i) (q || has b j) i j
      go true true = refl
      go true false = refl
      go false true = refl
      go false false = refl
  lose_twice (Given j) x = rw (sum j x) (go (has a j))
    where
      go : (p : Bool) → lose b (if p then Free else Given j) ≡ (if p || has b j then Free else Given j)
      go true = refl
      go false = refl

module _ (d : Domain) (s : Sound d) (a b g : ℕ) (sum : (i : ℕ) → Seated d.users i → has g i ≡ (has a i || has b i)) where
  abbrev us : Users
  us = d.users

  abbrev us' : Users
  us' = remove_users us a

  users_sized : length us.ids ≡ length us.at
  users_sized = s.users_are.ids_size ∙ sym s.users_are.cells_size

  tokens_sized : length d.tokens.ids ≡ length d.tokens.cells
  tokens_sized = s.tokens_are.ids_size ∙ sym s.tokens_are.cells_size

  channels_sized : length d.channels.ids ≡ length d.channels.cells
  channels_sized = s.channels_are.ids_size ∙ sym s.channels_are.cells_size

  -- users
  users_twice : remove_users (remove_users us a) b ≡ remove_users us g
  unfolding remove_users stays_on
  users_twice = λ i. record { ids = twice_ids 0 us.ids us.at users_sized (stays_on a) (stays_on b) (stays_on g) law i; at = twice_cells 0 us.ids us.at users_sized (stays_on a) (stays_on b) (stays_on g) law i }
    where
      law : (i : ℕ) → 0 < get_or us.ids i 0 → and_then (stays_on a i (get_or us.ids i 0) (get_or us.at i 0)) (stays_on b i (get_or us.ids i 0)) ≡ stays_on g i (get_or us.ids i 0) (get_or us.at i 0)
      law i h = rw (sum i h) (go (has a i))
        where
          go : (p : Bool) → and_then (if p then none else some (get_or us.at i 0)) (λ q. if has b i then none else some q) ≡ (if p || has b i then none else some (get_or us.at i 0))
          go true = refl
          go false = refl

  -- tokens
  tokens_twice : sweep_tokens (lose b) (sweep_tokens (lose a) d.tokens) ≡ sweep_tokens (lose g) d.tokens
  unfolding sweep_tokens is_free lose
  tokens_twice = λ i. record { ids = twice_ids no_token d.tokens.ids d.tokens.cells tokens_sized (by a) (by b) (by g) law i; cells = twice_cells no_token d.tokens.ids d.tokens.cells tokens_sized (by a) (by b) (by g) law i }
    where
      by : ℕ → ℕ → ℕ → Token → Option Token
      by m i k t = if is_free (lose m (hold t)) then none else some (token_of (lose m (hold t)))

      kept : (t : Token) → Held us (hold t) → (p : Bool) → is_free (lose a (hold t)) ≡ p
          → and_then (if p then none else some (token_of (lose a (hold t)))) (λ z. if is_free (lose b (hold z)) then none else some (token_of (lose b (hold z))))
          ≡ (if is_free (lose g (hold t)) then none else some (token_of (lose g (hold t))))
      kept t x true e = rw (sym (lose_twice us a b g sum (hold t) x) ∙ ap (lose b) (free_is (lose a (hold t)) e))
      kept t x false e = rw (hold_of (lose a (hold t)) (held_low us s.users_are.ids_size (lose a (hold t)) (lose_held us us a (λ i h q. h) (hold t) x)), lose_twice us a b g sum (hold t) x)

      law : (i : ℕ) → 0 < get_or d.tokens.ids i 0
          → and_then (by a i (get_or d.tokens.ids i 0) (get_or d.tokens.cells i no_token)) (by b i (get_or d.tokens.ids i 0)) ≡ by g i (get_or d.tokens.ids i 0) (get_or d.tokens.cells i no_token)
      law i h = kept (get_or d.tokens.cells i no_token) (s.tokens_are.rows i h).held _ refl

  -- ---- channels

  -- who stays is where it was, on the same connection
  link_stays : (i : ℕ) → Seated us i → has a i ≡ false → link us' i ≡ link us i
  link_stays i h q = link_left d s a (get_or us.ids i 0) i (find_there us.ids s.users_are.apart i h) q

  -- the connections of users who stay
  hosts_stay : (w : ℕ) → ((i : ℕ) → has w i ≡ true → Seated us i × (has a i ≡ false)) → hosts us' w ≡ hosts us w
  unfolding hosts
  hosts_stay w f = ap (those connections) (fun_ext (λ q. any_same (λ i. has w i && eqb (link us' i) q) (λ i. has w i && eqb (link us i) q) (λ i. go i q (has w i) refl) (upto 64 [])))
    where
      go : (i q : ℕ) (z : Bool) → has w i ≡ z → (z && eqb (link us' i) q) ≡ (z && eqb (link us i) q)
      go i q true e = ap (λ (p : ℕ). eqb p q) (link_stays i (f i e).0 (f i e).1)
      go i q false e = refl

  hosts_more : (v w q : ℕ) → q < 16 → ((i : ℕ) → i < 64 → has v i ≡ true → has w i ≡ true) → has (hosts us v) q ≡ true → has (hosts us w) q ≡ true
  unfolding hosts any
  hosts_more v w q l f h = has_those 16 _ q l
      ∙ any_upto (λ i. has v i && eqb (link us i) q) 64 [] (sym (has_those 16 _ q l) ∙ h)
      (λ i b e. let r = and_parts (has v i) (eqb (link us i) q) e in any_hit (λ i. has w i && eqb (link us i) q) 64 [] i b (and_both (f i b r.0) r.1))
      (λ e. absurd (false≢true e))

  -- a channel with the marks of the connections that remain, which are all of them
  all_open : (ch : Channel) → Marks 16 ch.marks (λ q. has d.links q ≡ true) → meet connections ch.marks d.links ≡ ch.marks
  unfolding meet
  all_open ch x = mask_ext 16 _ _ (those_lt 16 _) x.fits (λ q l. has_those 16 _ q l ∙ go q (has ch.marks q) refl)
    where
      go : (q : ℕ) (z : Bool) → has ch.marks q ≡ z → (z && has d.links q) ≡ z
      go q true e = x.are q e
      go q false e = refl

  stays_marked : (ch : Channel) → Marks 16 ch.marks (λ q. has d.links q ≡ true) → (lapses (kind ch) && eqb ch.marks 0) ≡ false → narrowed ch (meet connections ch.marks d.links) ≡ some ch
  unfolding narrowed with_marks
  stays_marked ch x e = rw (all_open ch x, e)

  -- what becomes of a channel, twice
  module _ (c : ℕ) (ch : Channel) (open_m : Marks 16 ch.marks (λ q. has d.links q ≡ true)) where
    -- one that is neither a user's nor private
    plain_fate : (lapses (kind ch) && eqb ch.marks 0) ≡ false → ((ws : Users) (n : ℕ) → fate ws n d.links c ch ≡ narrowed ch (meet connections ch.marks d.links))
        → and_then (fate us a d.links c ch) (fate us' b d.links c) ≡ fate us g d.links c ch
    plain_fate e law = ap (λ (o : Option Channel). and_then o (fate us' b d.links c)) (stay us a) ∙ stay us' b ∙ sym (stay us g)
      where
        stay : (ws : Users) (n : ℕ) → fate ws n d.links c ch ≡ some ch
        stay ws n = law ws n ∙ stays_marked ch open_m e

    same_fate : (k : Kind) → kind ch ≡ k → ch ≡ channel_of k ch.marks → Sort us c k ch.marks
        → and_then (fate us a d.links c ch) (fate us' b d.links c) ≡ fate us g d.links c ch
    unfolding fate fate_of lapses private_marks with_guests
    same_fate Static e p x = plain_fate (rw (e, ne_eqb ch.marks 0 (λ z. omega (arith, x.2, z)))) (λ ws n. ap (fate_of ws n d.links c ch) e)
    same_fate User e p x = ap (λ (o : Option Channel). and_then o (fate us' b d.links c)) (own us a at_who) ∙ go (has a i) refl ∙ sym (own us g at_who ∙ rw (sum i here))
      where
        i : ℕ
        i = x.2.who

        here : Seated us i
        here = rw x.2.named (omega (arith, x.0))

        at_who : find us.ids c ≡ At i
        at_who = rw x.2.named at (find_there us.ids s.users_are.apart i here)

        own : (ws : Users) (n : ℕ) → find ws.ids c ≡ At i → fate ws n d.links c ch ≡ (if has n i then none else some ch)
        own ws n f = ap (fate_of ws n d.links c ch) e ∙ fate_there ws n d.links c ch i f ∙ rw (stays_marked ch open_m (rw e))

        go : (z : Bool) → has a i ≡ z → and_then (if z then none else some ch) (fate us' b d.links c) ≡ (if z || has b i then none else some ch)
        go true q = refl
        go false q = own us' b (find_stays d s a c i at_who q)
    same_fate (Private m adm) e p x = ap (λ (o : Option Channel). and_then o (fate us' b d.links c)) (by us a ch adm e) ∙ go (has a m) refl ∙ sym (by us g ch adm e ∙ rw (sum m x.2.manager))
      where
        by : (ws : Users) (n : ℕ) (z : Channel) (is : ℕ) → kind z ≡ Private m is
            → fate ws n d.links c z ≡ (if has n m then none else some (private_marks ws z m (minus seats is n) (meet connections z.marks d.links)))
        by ws n z is f = ap (fate_of ws n d.links c z) f

        -- after the first have left
        one : Channel
        one = private_marks us ch m (minus seats adm a) (meet connections ch.marks d.links)

        one_kind : kind one ≡ Private m (minus seats adm a)
        one_kind = ap kind (guests_changed ch m adm ch.marks p (minus seats adm a) _) ∙ kind_of (Private m (minus seats adm a)) _

        -- after all have left
        all_gone : Channel
        all_gone = private_marks us ch m (minus seats adm g) (meet connections ch.marks d.links)

        less : minus seats (minus seats adm a) b ≡ minus seats adm g
        less = minus_twice us a b g sum adm x.2.admitted

        not_first : has g m ≡ false → (i : ℕ) → has (with seats (minus seats adm g) m) i ≡ true → Seated us i × (has a i ≡ false)
        not_first z i h = in_with 64 (minus seats adm g) i m h
            (λ k. let r = in_minus 64 adm i g k in
            let o : Seated us i = x.2.admitted.are i r.0 in (o, (or_parts (has a i) (has b i) (sym (sum i o) ∙ r.1)).0))
            (λ k. let o : Seated us i = rw k x.2.manager in (o, (or_parts (has a i) (has b i) (sym (sum i o) ∙ rw k z)).0))

        marks_same : has g m ≡ false → meet connections (meet connections one.marks d.links) (hosts us' (with seats (minus seats (minus seats adm a) b) m)) ≡ all_gone.marks
        marks_same z =
            ap (λ (y : ℕ). meet connections (meet connections one.marks d.links) (hosts us' (with seats y m))) less
            ∙ ap (meet connections (meet connections one.marks d.links)) (hosts_stay (with seats (minus seats adm g) m) (not_first z))
            ∙ meet_again ch.marks d.links _ _ (λ q l. hosts_more (with seats (minus seats adm g) m) (with seats (minus seats adm a) m) q l (λ i b h. with_mono 64 (minus seats adm g) (minus seats adm a) m i (fewer i) h))
          where
            fewer : (i : ℕ) → i < 64 → has (minus seats adm g) i ≡ true → has (minus seats adm a) i ≡ true
            fewer i l h =
                let r = in_minus 64 adm i g h in
                has_minus adm a i l ∙ rw (r.0, (or_parts (has a i) (has b i) (sym (sum i (x.2.admitted.are i r.0)) ∙ r.1)).0)

        rest : (z : Bool) → has b m ≡ z → has a m ≡ false
            → (if z then none else some (private_marks us' one m (minus seats (minus seats adm a) b) (meet connections one.marks d.links))) ≡ (if z then none else some all_gone)
        rest true q f = refl
        rest false q f = ap some (ap₂ (with_guests ch) less (marks_same (sum m x.2.manager ∙ rw (f, q))))

        go : (z : Bool) → has a m ≡ z → and_then (if z then none else some one) (fate us' b d.links c) ≡ (if z || has b m then none else some all_gone)
        go true q = refl
        go false q = by us' b one (minus seats adm a) one_kind ∙ rest (has b m) refl q
    same_fate Assigned e p x = plain_fate (rw (e, ne_eqb ch.marks 0 (λ z. omega (arith, x.2, z)))) (λ ws n. ap (fate_of ws n d.links c ch) e)

  channels_twice : sweep_channels (fate us' b d.links) (sweep_channels (fate us a d.links) d.channels) ≡ sweep_channels (fate us g d.links) d.channels
  unfolding sweep_channels
  channels_twice = λ i. record {
    ids = twice_ids no_channel d.channels.ids d.channels.cells channels_sized (by us a) (by us' b) (by us g) law i;
    cells = twice_cells no_channel d.channels.ids d.channels.cells channels_sized (by us a) (by us' b) (by us g) law i;
  }
    where
      by : Users → ℕ → ℕ → ℕ → Channel → Option Channel
      by ws n j c ch = fate ws n d.links c ch

      law : (j : ℕ) → 0 < get_or d.channels.ids j 0
          → and_then (by us a j (get_or d.channels.ids j 0) (get_or d.channels.cells j no_channel)) (by us' b j (get_or d.channels.ids j 0)) ≡ by us g j (get_or d.channels.ids j 0) (get_or d.channels.cells j no_channel)
      law j h = let r = s.channels_are.rows j h in same_fate (get_or d.channels.ids j 0) (get_or d.channels.cells j no_channel) r.joins (kind (get_or d.channels.cells j no_channel)) refl r.plain r.sort

  -- the tables
  pub gone_twice : gone_from (gone_from d a) b ≡ gone_from d g
  gone_twice = λ i. record { limits = d.limits; links = d.links; users = users_twice i; channels = channels_twice i; tokens = tokens_twice i }
