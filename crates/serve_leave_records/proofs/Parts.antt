-- The parts of a farewell: what the code puts, and how many octets they take.
use Rattle.std.specs.Prelude.{if◌then◌else◌}
use mathlib.Core.Path.{◌≡◌, refl, ap, ◌∙◌}
use mathlib.Core.Bool.{Bool, true, false, not, ◌&&◌}
use mathlib.Core.List.{List, [], ◌∷◌, ◌++◌}
use Prim.Native.Nat.{ℕ, ◌+◌, ◌*◌, ◌≤◌, ◌<◌}
use native.Mathlib.Omega.{arith}
use lib.ListN.{length, take, length-append}
use Rattle.cols_spec.specs.Sets.{null, each, has, with, meet, connections, seats}
use Rattle.cols_spec.specs.Places.{in_order}
use Rattle.cols_spec.proofs.Order.{in_order_length}
use Rattle.codec_table.specs.Named.{DUin, CDin, TVcf, no_such_user}
use Rattle.out_records.specs.Records.{Sent, to, tell, wire, records, record_of}
use Rattle.out_records.specs.Out.{Puts, guarded, listing, told}
use Rattle.out_records.proofs.Laying.{held, held_inside, held_count, held_length, ids_length}
use Rattle.out_records.proofs.Telling.{records_none, records_append, put_told, put_sent, put_more, put_nobody, sent_length, told_length}
use Rattle.out_messages.specs.declared.Confirm.TheVariants.{Give}
use Rattle.out_records.proofs.Wire.{wire_DUin, wire_CDin, listing_in}
use Rattle.out_messages.proofs.Confirming.{wire_confirm}
use Rattle.domain.specs.declared.channel.Kind.{Kind}
use Rattle.domain.specs.declared.channel.Kind.TheVariants.{Static, User, Private, Assigned}
use Rattle.domain.specs.declared.token.Holding.{Holding}
use Rattle.domain.specs.declared.token.Holding.TheVariants.{Free, Grabbed, Inhibited, Giving, Given}
use Rattle.domain.specs.Tables.{Users, Channels, Tokens, Domain, name, link, hosts, state}
use Rattle.domain.specs.Tokens.{status, lose}
use Rattle.domain.specs.Leaving.{ended, returned, farewell}
use Rattle.serve_leave_records.specs.Parts.{parting, kind_at, end_at, return_at}
use Rattle.serve_leave_records.proofs.Rounds.{each_length}

-- ---- DUin
module _ (reason : ℕ) (ids : List ℕ) (r : reason < 256) (h : length ids ≤ 64) where
  DUin_length : length (wire (DUin reason ids)) ≡ 3 + 2 * length ids
  DUin_length = ap length (wire_DUin ids (omega arith) reason r) ∙ omega (arith, ids_length 1001 ids)

  -- the message in a list of one's own
  module _ {s t : List ℕ} {n : ℕ} (size : length s ≡ 131) (p : Puts s 0 (listing ids (wire (DUin reason ids))) t n) where
    fits : length (wire (DUin reason ids)) ≤ length s
    fits = omega (arith, DUin_length)

    in_place : Puts s 0 (wire (DUin reason ids)) t n
    in_place = rw (listing_in ids (wire (DUin reason ids)) h) at p

    pub message_inside : n ≤ length t
    message_inside = held_inside in_place fits

    pub message_count : n ≡ length (take n t)
    message_count = held_count in_place fits

    pub parting_some : {out o : List ℕ} {k : ℕ} (live : ℕ) → (length ids ≡ 0 → ⊥) → Puts out 0 (guarded 0 (take n t) (told live (take n t))) o k
        → Puts out 0 (records (parting live reason ids)) o k
    unfolding null
    parting_some live z q = go ids z (put_told (DUin reason ids) (take n t) (held in_place fits) (omega arith) (omega (arith, held_length in_place fits, held_count in_place fits, DUin_length)) live q)
      where
        go : {out o : List ℕ} {k : ℕ} (l : List ℕ) → (length l ≡ 0 → ⊥) → Puts out 0 (records (tell live (DUin reason l))) o k → Puts out 0 (records (parting live reason l)) o k
        go [] y w = absurd (y refl)
        go (x ∷ l) y w = w

  pub parting_length : (live : ℕ) → length (records (parting live reason ids)) ≤ 2160
  unfolding null
  parting_length live = go (null ids)
    where
      go : (b : Bool) → length (records (if b then [] else tell live (DUin reason ids))) ≤ 2160
      go true = omega (arith, ap length records_none)
      go false = omega (arith, told_length live (DUin reason ids), DUin_length)

pub parting_none : (live reason : ℕ) (ids out : List ℕ) → length ids ≡ 0 → Puts out 0 (records (parting live reason ids)) out 0
unfolding null
parting_none live reason [] out e = put_nobody out 0
parting_none live reason (x ∷ l) out e = absurd (omega arith)

-- ---- CDin
CDin_length : (c : ℕ) → length (wire (CDin c)) ≡ 3
CDin_length c = ap length (wire_CDin c)

module _ (us : Users) (gone live c g guests : ℕ) where
  pub ended_some : {out o m : List ℕ} {at k : ℕ} → has gone g ≡ true → m ≡ wire (CDin c) → at ≤ 65535 → (mask : ℕ) → mask ≡ meet connections (hosts us (with seats guests g)) live
      → Puts out at (guarded at m (told mask m)) o k → Puts out at (records (ended us gone live c (Private g guests))) o k
  unfolding ended
  ended_some {out} {o} {m} h e l mask z p = rw (h, ← z) (put_told (CDin c) m e l (omega (arith, ap length e, CDin_length c)) mask p)

  pub ended_none : (out : List ℕ) (at : ℕ) → has gone g ≡ false → Puts out at (records (ended us gone live c (Private g guests))) out at
  unfolding ended
  ended_none out at h = rw h (put_nobody out at)

-- of a channel that is not private
pub ended_other : (us : Users) (gone live c : ℕ) (k : Kind) → ((g guests : ℕ) → k ≡ Private g guests → ⊥) → (out : List ℕ) (at : ℕ) → Puts out at (records (ended us gone live c k)) out at
unfolding ended
ended_other us gone live c Static n out at = put_nobody out at
ended_other us gone live c User n out at = put_nobody out at
ended_other us gone live c Assigned n out at = put_nobody out at
ended_other us gone live c (Private g adm) n out at = absurd (n g adm refl)

pub ended_length : (us : Users) (gone live c : ℕ) (k : Kind) → length (records (ended us gone live c k)) ≤ 112
unfolding ended
ended_length us gone live c Static = omega (arith, ap length records_none)
ended_length us gone live c User = omega (arith, ap length records_none)
ended_length us gone live c Assigned = omega (arith, ap length records_none)
ended_length us gone live c (Private g adm) = go (has gone g)
  where
    go : (b : Bool) → length (records (if b then tell (meet connections (hosts us (with seats adm g)) live) (CDin c) else [])) ≤ 112
    go true = omega (arith, told_length (meet connections (hosts us (with seats adm g)) live) (CDin c), CDin_length c)
    go false = omega (arith, ap length records_none)

pub ends_length : (us : Users) (cs : Channels) (gone live : ℕ) (ids : List ℕ) → length ids ≤ 128 → length (records (each (end_at us cs gone live) (in_order ids))) ≤ 14336
ends_length us cs gone live ids h =
    omega (arith, each_length (end_at us cs gone live) 112 (λ c. ended_length us gone live c (kind_at cs c)) (in_order ids), in_order_length ids)

-- ---- TVcf
TVcf_length : (u k s : ℕ) → length (wire (TVcf no_such_user u k s)) ≡ 7
TVcf_length u k s = ap length (wire_confirm Give no_such_user u k s (omega arith))

module _ (us : Users) (gone k g r : ℕ) where
  abbrev refusal : List Sent
  refusal = to (link us g) (TVcf no_such_user (name us g) k (status (lose gone (Giving g r)) g)) ∷ []

  pub returned_some : {out o : List ℕ} {at n : ℕ} → has gone r ≡ true → has gone g ≡ false → Puts out at (records refusal) o n
      → Puts out at (records (returned us gone k (Giving g r))) o n
  unfolding returned
  returned_some a b p = rw (a, b) p

  pub returned_both : (out : List ℕ) (at : ℕ) → has gone r ≡ true → has gone g ≡ true → Puts out at (records (returned us gone k (Giving g r))) out at
  unfolding returned
  returned_both out at a b = rw (a, b) (put_nobody out at)

  pub returned_none : (out : List ℕ) (at : ℕ) → has gone r ≡ false → Puts out at (records (returned us gone k (Giving g r))) out at
  unfolding returned
  returned_none out at a = rw a (put_nobody out at)

  refusal_length : length (records refusal) ≤ 11
  refusal_length =
      omega (arith, sent_length (link us g) (TVcf no_such_user (name us g) k (status (lose gone (Giving g r)) g)), TVcf_length (name us g) k (status (lose gone (Giving g r)) g))

  pub refusal_put : {out o m : List ℕ} {at n : ℕ} (q result u s : ℕ) (h : Holding) → h ≡ lose gone (Giving g r) → result ≡ no_such_user → u ≡ name us g → s ≡ status h g
      → q ≡ link us g → m ≡ wire (TVcf result u k s) → at ≤ 65535 → Puts out at (guarded at m (record_of m q)) o n → Puts out at (records refusal) o n
  refusal_put {out} {o} {m} q result u s h a b c d e f l p =
      let z : m ≡ wire (TVcf no_such_user (name us g) k (status (lose gone (Giving g r)) g)) = f ∙ rw (b, c, d, a) refl in
      rw (← e) (put_sent _ m z l (omega (arith, ap length z, TVcf_length (name us g) k (status (lose gone (Giving g r)) g))) q p)

-- of a token that is not being given
pub returned_other : (us : Users) (gone k : ℕ) (h : Holding) → ((g r : ℕ) → h ≡ Giving g r → ⊥) → (out : List ℕ) (at : ℕ) → Puts out at (records (returned us gone k h)) out at
unfolding returned
returned_other us gone k Free n out at = put_nobody out at
returned_other us gone k (Grabbed g) n out at = put_nobody out at
returned_other us gone k (Inhibited is) n out at = put_nobody out at
returned_other us gone k (Given r) n out at = put_nobody out at
returned_other us gone k (Giving g r) n out at = absurd (n g r refl)

pub returned_length : (us : Users) (gone k : ℕ) (h : Holding) → length (records (returned us gone k h)) ≤ 11
unfolding returned
returned_length us gone k Free = omega (arith, ap length records_none)
returned_length us gone k (Grabbed g) = omega (arith, ap length records_none)
returned_length us gone k (Inhibited is) = omega (arith, ap length records_none)
returned_length us gone k (Given r) = omega (arith, ap length records_none)
returned_length us gone k (Giving g r) = go (has gone r && not (has gone g))
  where
    go : (b : Bool) → length (records (if b then refusal us gone k g r else [])) ≤ 11
    go true = refusal_length us gone k g r
    go false = omega (arith, ap length records_none)

pub returns_length : (us : Users) (ts : Tokens) (gone : ℕ) → length ts.ids ≤ 64 → length (records (each (return_at us ts gone) (in_order ts.ids))) ≤ 704
returns_length us ts gone h =
    omega (arith, each_length (return_at us ts gone) 11 (λ k. returned_length us gone k (state ts k)) (in_order ts.ids), in_order_length ts.ids)

-- ---- the whole
module _ (d : Domain) (gone live reason : ℕ) (ids : List ℕ) where
  abbrev ends : List Sent
  ends = each (end_at d.users d.channels gone live) (in_order d.channels.ids)

  abbrev returns : List Sent
  returns = each (return_at d.users d.tokens gone) (in_order d.tokens.ids)

  pub farewell_put : {out t u v : List ℕ} {a b n : ℕ} → Puts out 0 (records (parting live reason ids)) t a → Puts t a (records ends) u b → Puts u b (records returns) v n
      → Puts out 0 (records (farewell d gone live reason ids)) v n
  unfolding farewell
  farewell_put p q r = put_more (parting live reason ids ++ ends) returns (put_more (parting live reason ids) ends p q) r

  -- a room of 17,200 octets is enough
  pub farewell_length : reason < 256 → length ids ≤ 64 → length d.channels.ids ≤ 128 → length d.tokens.ids ≤ 64 → length (records (farewell d gone live reason ids)) ≤ 17200
  unfolding farewell
  farewell_length r h c t =
      omega (
        arith,
        ap length (records_append (parting live reason ids ++ ends) returns),
        length-append (records (parting live reason ids ++ ends)) (records returns),
        ap length (records_append (parting live reason ids) ends),
        length-append (records (parting live reason ids)) (records ends),
        parting_length reason ids r h live,
        ends_length d.users d.channels gone live d.channels.ids c,
        returns_length d.users d.tokens gone t,
      )
