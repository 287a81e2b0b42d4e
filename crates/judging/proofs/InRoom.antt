-- The judge over the octets of the room is the judge over the list of records. Assumes nothing.
use Rattle.std.specs.Prelude.{if◌then◌else◌}
use mathlib.Core.Path.{◌≡◌, refl, sym, ap, ◌∙◌}
use mathlib.Core.Bool.{Bool, true, false, ◌&&◌}
use mathlib.Core.List.{List, [], ◌∷◌, ◌++◌, map}
use mathlib.Core.Option.{Option, none, some}
use Prim.Native.Nat.{ℕ, zero, suc, ◌+◌, ◌-◌, ◌≤◌, ◌<◌}
use native.Mathlib.Omega.{arith}
use borrow.Author.Tests.{le-leb, leb-true}
use lib.Dec.{leb}
use lib.ListN.{length, get_or, take, drop, set, length-append, length-set, length-drop, length-take, take-append-drop, get_or-append}
use lib.Seq.{length-take-le, take-append-le, drop-append-le, drop_at, get_or-take, get_or-set_same, get_or-set_other, drop-set-lt}
use Rattle.cols_spec.specs.Sets.{null}
use Rattle.cols_spec.proofs.Bools.{and_parts, none≢some}
use Rattle.out_records.specs.Records.{Sent, to, wire, record_of, octets, records}
use Rattle.domain.specs.Tables.{Domain}
use Rattle.domain.specs.Events.{Outcome}
use Rattle.history.specs.Recorded.{size, inside}
use Rattle.history.proofs.ReadBack.{framed_size, framed_inside, framed_behind, records_more}
use Rattle.judging.specs.Traces.{Packet, on, Frame, came, went}
use Rattle.judging.specs.Conforming.{shown, due}
use Rattle.judging.specs.Judge.{Verdict, fault, same_packet, strike, struck, judge_from}
use Rattle.judging.specs.Room.{starts, stands, packet, some_packets, packets, laid, strike_in, judge_in}
use Rattle.judging.proofs.Judged.{judged_step}

-- ---- the records of an answer, just written

module _ (w : List ℕ) (q : ℕ) (rest : List ℕ) where
  -- a record that was just written starts there, and stands
  framed_starts : starts (record_of w q ++ rest) ≡ true
  unfolding starts record_of
  framed_starts =
      rw (framed_size w q rest, le-leb 2 (length w + 2) (omega arith), le-leb (2 + (length w + 2)) (length (record_of w q ++ rest)) (omega (arith, length-append w rest))) refl

  framed_packets : (n : ℕ) → some_packets (suc n) (record_of w q ++ rest) ≡ on q w ∷ some_packets n rest
  unfolding some_packets stands packet record_of
  framed_packets n = rw (framed_starts, framed_inside w q rest, framed_behind w q rest) refl

none_there : (n : ℕ) → some_packets n [] ≡ []
unfolding some_packets starts size
none_there zero = refl
none_there (suc n) = refl

-- so all of them stand
all_there : (rs : List Sent) (n : ℕ) → length rs ≤ n → some_packets n (records rs) ≡ map shown rs
unfolding records octets shown
all_there [] n h = none_there n
all_there (to q m ∷ rs) zero h = absurd (omega arith)
all_there (to q m ∷ rs) (suc n) h = framed_packets (wire m) q (records rs) n ∙ ap (λ (ps : List Packet). on q (wire m) ∷ ps) (all_there rs n (omega arith))

-- what is demanded stands in the room
pub due_there : (o : Outcome) → packets (records o.sent) ≡ due o
unfolding packets due
due_there o = all_there o.sent (length (records o.sent)) (records_more o.sent)

-- ---- what stands in the room depends on the octets of each record alone

-- a head as long as its record says
module _ (h rest : List ℕ) (whole : length h ≡ 2 + size h) (least : 2 ≤ size h) where
  -- its octets are those of the whole
  head_at : (i : ℕ) → i < 4 → get_or (h ++ rest) i 0 ≡ get_or h i 0
  head_at i l = get_or-append h rest 0 i (omega arith)

  head_size : size (h ++ rest) ≡ size h
  unfolding size
  head_size = rw (head_at 0 (omega arith), head_at 1 (omega arith)) refl

  head_starts : starts (h ++ rest) ≡ true
  unfolding starts
  head_starts = rw (head_size, le-leb 2 (size h) least, le-leb (2 + size h) (length (h ++ rest)) (omega (arith, length-append h rest))) refl

  head_stands : stands (h ++ rest) ≡ stands h
  unfolding stands
  head_stands = rw (head_at 2 (omega arith)) refl

  head_packet : packet (h ++ rest) ≡ packet h
  unfolding packet inside
  head_packet =
      rw (head_at 3 (omega arith), head_size, drop-append-le 4 h rest (omega arith), take-append-le (size h - 2) (drop 4 h) rest (omega (arith, length-drop 4 h))) refl

  head_behind : drop (2 + size (h ++ rest)) (h ++ rest) ≡ rest
  head_behind = drop_at h rest (2 + size (h ++ rest)) (omega (arith, head_size))

  head_packets : (n : ℕ) → some_packets (suc n) (h ++ rest) ≡ (if stands h then packet h ∷ some_packets n rest else some_packets n rest)
  unfolding some_packets
  head_packets n = rw (head_starts, head_stands, head_packet, head_behind) refl

-- ---- one record struck out

-- octets that start with a record: it is a head as long as it says
module _ (os : List ℕ) (s : starts os ≡ true) where
  -- it is there as a whole
  starts_fit : (2 ≤ size os) × (2 + size os ≤ length os)
  unfolding starts
  starts_fit =
      let r = and_parts (leb 2 (size os)) (leb (2 + size os) (length os)) s in
      (leb-true 2 (size os) r.0, leb-true (2 + size os) (length os) r.1)

  -- the octets of that record
  abbrev first : List ℕ
  first = take (2 + size os) os

  first_size : size first ≡ size os
  unfolding size
  first_size = rw (get_or-take (2 + size os) os 0 0 (omega arith), get_or-take (2 + size os) os 1 0 (omega arith)) refl

  first_long : length first ≡ 2 + size first
  first_long = omega (arith, length-take-le (2 + size os) os starts_fit.1, first_size)

  first_least : 2 ≤ size first
  first_least = omega (arith, first_size, starts_fit.0)

  first_all : first ++ drop (2 + size os) os ≡ os
  first_all = take-append-drop (2 + size os) os

  first_stands : stands first ≡ stands os
  first_stands = sym (head_stands first (drop (2 + size os) os) first_long first_least) ∙ ap stands first_all

  first_packet : packet first ≡ packet os
  first_packet = sym (head_packet first (drop (2 + size os) os) first_long first_least) ∙ ap packet first_all

  -- with other records behind it
  other_behind : (n : ℕ) (rest : List ℕ) → some_packets (suc n) (first ++ rest) ≡ (if stands os then packet os ∷ some_packets n rest else some_packets n rest)
  other_behind n rest = rw (head_packets first rest first_long first_least n, first_stands, first_packet) refl

  -- struck out it stands no more
  struck_size : size (set os 2 0) ≡ size os
  unfolding size
  struck_size = rw (get_or-set_other os 2 0 0 0 (omega arith), get_or-set_other os 2 1 0 0 (omega arith)) refl

  struck_starts : starts (set os 2 0) ≡ true
  unfolding starts
  struck_starts = rw (struck_size, length-set os 2 0, le-leb 2 (size os) starts_fit.0, le-leb (2 + size os) (length os) starts_fit.1) refl

  struck_gone : (n : ℕ) → some_packets (suc n) (set os 2 0) ≡ some_packets n (drop (2 + size os) os)
  unfolding some_packets stands
  struck_gone n =
      rw (struck_starts, get_or-set_same os 2 0 0 (omega (arith, starts_fit.0, starts_fit.1)), struck_size, drop-set-lt (2 + size os) os 2 0 (omega (arith, starts_fit.0))) refl

-- the records that stand, of octets where there are some
abbrev standing_in : ℕ → Option (List ℕ) → Option (List Packet)
standing_in n none = none
standing_in n (some os) = some (some_packets n os)

-- to strike out a record in the octets is to strike it out of those that stand
strike_in_strikes : (n : ℕ) (r : Packet) (os : List ℕ) → strike r (some_packets n os) ≡ standing_in n (strike_in n r os)
unfolding some_packets strike_in strike
strike_in_strikes zero r os = refl
strike_in_strikes (suc n) r os = go (starts os) refl (strike_in n r (drop (2 + size os) os)) (strike_in_strikes n r (drop (2 + size os) os))
  where
    rest : List Packet
    rest = some_packets n (drop (2 + size os) os)

    on_one : starts os ≡ true → (b c : Bool) → stands os ≡ b → same_packet r (packet os) ≡ c → (x : Option (List ℕ)) → strike r rest ≡ standing_in n x
        → strike r (if b then packet os ∷ rest else rest) ≡ standing_in (suc n) (if b && c then some (set os 2 0) else laid (take (2 + size os) os) x)
    on_one s false c hb hc none e = e
    on_one s false c hb hc (some more) e = e ∙ ap some (sym (other_behind os s n more ∙ rw hb refl))
    on_one s true true hb hc x e = rw hc (ap some (sym (struck_gone os s n)))
    on_one s true false hb hc none e = rw (hc, e) refl
    on_one s true false hb hc (some more) e = rw (hc, e) (ap some (sym (other_behind os s n more ∙ rw hb refl)))

    go : (b : Bool) → starts os ≡ b → (x : Option (List ℕ)) → strike r rest ≡ standing_in n x
        → strike r (if b then (if stands os then packet os ∷ rest else rest) else [])
        ≡ standing_in (suc n) (if b then (if stands os && same_packet r (packet os) then some (set os 2 0) else laid (take (2 + size os) os) x) else none)
    go true s x e = on_one s (stands os) (same_packet r (packet os)) refl refl x e
    go false s x e = refl

-- the room stays as long as it is
strike_in_length : (n : ℕ) (r : Packet) (os more : List ℕ) → strike_in n r os ≡ some more → length more ≡ length os
unfolding strike_in
strike_in_length zero r os more e = absurd (none≢some e)
strike_in_length (suc n) r os more e = go (starts os) (stands os && same_packet r (packet os)) (strike_in n r (drop (2 + size os) os)) (strike_in_length n r (drop (2 + size os) os)) e
  where
    go : (b c : Bool) (x : Option (List ℕ)) → ((ms : List ℕ) → x ≡ some ms → length ms ≡ length (drop (2 + size os) os))
        → (if b then (if c then some (set os 2 0) else laid (take (2 + size os) os) x) else none) ≡ some more → length more ≡ length os
    go false c x f e = absurd (none≢some e)
    go true true x f e = let q : more ≡ set os 2 0 = cc in ap length q ∙ length-set os 2 0
    go true false none f e = absurd (none≢some e)
    go true false (some ms) f e =
        let q : more ≡ take (2 + size os) os ++ ms = cc in
        omega (arith, ap length q, length-append (take (2 + size os) os) ms, f ms refl, length-take (2 + size os) os, length-drop (2 + size os) os)

-- ---- the judge
pub in_room : (fs : List Frame) (d : Domain) (room : List ℕ) (at n : ℕ) → judge_in d room at n fs ≡ judge_from d (packets room) at n fs
unfolding judge_in judge_from packets
in_room [] d room at n = refl
in_room (came c ∷ fs) d room at n =
    let o : Outcome = judged_step d c fs in
    ap (λ (v : Verdict). if null (packets room) then v else fault at) (in_room fs o.domain (records o.sent) n (suc n) ∙ ap (λ (ps : List Packet). judge_from o.domain ps n (suc n) fs) (due_there o))
in_room (went r ∷ fs) d room at n = go (strike_in (length room) r room) refl (strike_in_strikes (length room) r room) (λ next. in_room fs d next at (suc n))
  where
    go : (x : Option (List ℕ)) → strike_in (length room) r room ≡ x → strike r (some_packets (length room) room) ≡ standing_in (length room) x
        → ((next : List ℕ) → judge_in d next at (suc n) fs ≡ judge_from d (some_packets (length next) next) at (suc n) fs)
        → struck x n (λ next. judge_in d next at (suc n) fs) ≡ struck (strike r (some_packets (length room) room)) n (λ ss. judge_from d ss at (suc n) fs)
    go none h e f = rw e refl
    go (some next) h e f = rw e (f next ∙ ap (λ (k : ℕ). judge_from d (some_packets k next) at (suc n) fs) (strike_in_length (length room) r room next h))

-- ---- one record after another, as a loop over the room goes

-- more turns than octets change nothing
shorter : (os : List ℕ) → starts os ≡ true → suc (length (drop (2 + size os) os)) ≤ length os
shorter os s = omega (arith, (starts_fit os s).0, (starts_fit os s).1, length-drop (2 + size os) os)

starts_none : starts [] ≡ false
unfolding starts size
starts_none = refl

strike_in_none : (n : ℕ) (r : Packet) → strike_in n r [] ≡ none
unfolding strike_in starts size
strike_in_none zero r = refl
strike_in_none (suc n) r = refl

strike_in_turns : (n m : ℕ) (r : Packet) (os : List ℕ) → length os ≤ n → length os ≤ m → strike_in n r os ≡ strike_in m r os
unfolding strike_in
strike_in_turns zero zero r os h k = refl
strike_in_turns zero (suc m) r [] h k = sym (strike_in_none (suc m) r)
strike_in_turns zero (suc m) r (x ∷ os) h k = absurd (omega arith)
strike_in_turns (suc n) zero r [] h k = strike_in_none (suc n) r
strike_in_turns (suc n) zero r (x ∷ os) h k = absurd (omega arith)
strike_in_turns (suc n) (suc m) r os h k = go (starts os) refl (strike_in_turns n m r (drop (2 + size os) os))
  where
    both : ℕ → Option (List ℕ)
    both i = if stands os && same_packet r (packet os) then some (set os 2 0) else laid (take (2 + size os) os) (strike_in i r (drop (2 + size os) os))

    go : (b : Bool) → starts os ≡ b
        → (length (drop (2 + size os) os) ≤ n → length (drop (2 + size os) os) ≤ m → strike_in n r (drop (2 + size os) os) ≡ strike_in m r (drop (2 + size os) os))
        → (if b then both n else none) ≡ (if b then both m else none)
    go false e f = refl
    go true e f = let s = shorter os e in ap (λ (x : Option (List ℕ)). if stands os && same_packet r (packet os) then some (set os 2 0) else laid (take (2 + size os) os) x) (f (omega arith) (omega arith))

-- striking out goes one record at a time
pub strike_in_next : (r : Packet) (os : List ℕ)
    → strike_in (length os) r os
    ≡ (if starts os then (if stands os && same_packet r (packet os) then some (set os 2 0) else laid (take (2 + size os) os) (strike_in (length (drop (2 + size os) os)) r (drop (2 + size os) os))) else none)
unfolding strike_in
strike_in_next r [] = rw starts_none refl
strike_in_next r (x ∷ os) = go (starts (x ∷ os)) refl
  where
    some_of : ℕ → Option (List ℕ)
    some_of i = if stands (x ∷ os) && same_packet r (packet (x ∷ os)) then some (set (x ∷ os) 2 0) else laid (take (2 + size (x ∷ os)) (x ∷ os)) (strike_in i r (drop (2 + size (x ∷ os)) (x ∷ os)))

    go : (b : Bool) → starts (x ∷ os) ≡ b → (if b then some_of (length os) else none) ≡ (if b then some_of (length (drop (2 + size (x ∷ os)) (x ∷ os))) else none)
    go false e = refl
    go true e =
        let s = shorter (x ∷ os) e in
        ap (λ (m : Option (List ℕ)). if stands (x ∷ os) && same_packet r (packet (x ∷ os)) then some (set (x ∷ os) 2 0) else laid (take (2 + size (x ∷ os)) (x ∷ os)) m)
        (strike_in_turns (length os) (length (drop (2 + size (x ∷ os)) (x ∷ os))) r (drop (2 + size (x ∷ os)) (x ∷ os)) (omega arith) (omega arith))

-- the same of the records that stand
some_turns : (n m : ℕ) (os : List ℕ) → length os ≤ n → length os ≤ m → some_packets n os ≡ some_packets m os
unfolding some_packets
some_turns zero zero os h k = refl
some_turns zero (suc m) [] h k = sym (none_there (suc m))
some_turns zero (suc m) (x ∷ os) h k = absurd (omega arith)
some_turns (suc n) zero [] h k = none_there (suc n)
some_turns (suc n) zero (x ∷ os) h k = absurd (omega arith)
some_turns (suc n) (suc m) os h k = go (starts os) refl (some_turns n m (drop (2 + size os) os))
  where
    both : ℕ → List Packet
    both i = if stands os then packet os ∷ some_packets i (drop (2 + size os) os) else some_packets i (drop (2 + size os) os)

    go : (b : Bool) → starts os ≡ b
        → (length (drop (2 + size os) os) ≤ n → length (drop (2 + size os) os) ≤ m → some_packets n (drop (2 + size os) os) ≡ some_packets m (drop (2 + size os) os))
        → (if b then both n else []) ≡ (if b then both m else [])
    go false e f = refl
    go true e f = let s = shorter os e in ap (λ (ps : List Packet). if stands os then packet os ∷ ps else ps) (f (omega arith) (omega arith))

-- one record at a time
pub packets_next : (os : List ℕ)
    → packets os ≡ (if starts os then (if stands os then packet os ∷ packets (drop (2 + size os) os) else packets (drop (2 + size os) os)) else [])
unfolding packets some_packets
packets_next [] = rw starts_none refl
packets_next (x ∷ os) = go (starts (x ∷ os)) refl
  where
    some_of : ℕ → List Packet
    some_of i = if stands (x ∷ os) then packet (x ∷ os) ∷ some_packets i (drop (2 + size (x ∷ os)) (x ∷ os)) else some_packets i (drop (2 + size (x ∷ os)) (x ∷ os))

    go : (b : Bool) → starts (x ∷ os) ≡ b → (if b then some_of (length os) else []) ≡ (if b then some_of (length (drop (2 + size (x ∷ os)) (x ∷ os))) else [])
    go false e = refl
    go true e =
        let s = shorter (x ∷ os) e in
        ap (λ (ps : List Packet). if stands (x ∷ os) then packet (x ∷ os) ∷ ps else ps)
        (some_turns (length os) (length (drop (2 + size (x ∷ os)) (x ∷ os))) (drop (2 + size (x ∷ os)) (x ∷ os)) (omega arith) (omega arith))
