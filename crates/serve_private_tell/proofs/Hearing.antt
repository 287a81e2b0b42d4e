-- What each connection hears of listed users: its own, in their order. Assumes nothing.
use Rattle.std.specs.Prelude.{if◌then◌else◌}
use mathlib.Core.Path.{◌≡◌, refl, sym, ap, ◌∙◌}
use mathlib.Core.Bool.{Bool, true, false}
use mathlib.Core.List.{List, [], ◌∷◌, ◌++◌}
use Prim.Native.Nat.{ℕ, zero, suc, ◌+◌, ◌-◌, ◌*◌, ◌≤◌, ◌<◌}
use native.Mathlib.Nat.{min-le_left}
use native.Mathlib.Numerals.{add-one}
use native.Mathlib.Omega.{arith}
use lib.Dec.{eqb}
use lib.ListN.{length, take, drop, get_or, length-take, length-append, take-append-drop, drop_of_length-le}
use lib.Seq.{drop-cons}
use Rattle.cols_spec.specs.Sets.{keep, null, each}
use Rattle.cols_spec.specs.Places.{found}
use Rattle.cols_spec.proofs.Order.{keep_le}
use Rattle.cols_spec.proofs.Turns.{keep_append}
use Rattle.codec_table.specs.Named.{Message}
use Rattle.out_records.specs.Records.{Sent, to, wire, two, record_of, records}
use Rattle.out_records.specs.Out.{Puts, guarded, each_two}
use Rattle.out_records.proofs.Laying.{Onward, put_none, put_then, guarded_in, ids_length}
use Rattle.out_records.proofs.Telling.{run, below_run, records_append, records_none, records_one, put_nobody, sent_length}
use Rattle.out_records.proofs.Wire.{wire_CAin, wire_CEin}
use Rattle.domain.specs.Tables.{Users, attached}
use Rattle.domain.specs.Channels.{own}
use Rattle.serve_private_tell.specs.declared.Say.{Say}
use Rattle.serve_private_tell.specs.declared.Say.TheVariants.{Admits, Expels}
use Rattle.serve_private_tell.specs.Sieve.{Located, owned_by, says, Begins, own_to}
use Rattle.serve_private_tell.proofs.Sieving.{home_is, none_of}

pub take_within : (r : ℕ) (xs : List ℕ) (n : ℕ) → r ≤ n → length (take r xs) ≤ n
take_within r xs n h = omega (arith, length-take r xs, min-le_left r (length xs))

-- ---- a message with a list of at most 64 ids
says_length : (s : Say) (ids : List ℕ) → length ids ≤ 64 → length (wire (says s ids)) ≤ 134
unfolding says
says_length (Admits u c) ids h = omega (arith, ap length (wire_CAin ids (omega arith) u c), ids_length 1001 ids)
says_length (Expels u c) ids h = omega (arith, ap length (wire_CEin ids (omega arith) c), ids_length 1001 ids)

-- its record: what stands before the users, and they
module _ {s : List ℕ} {at : ℕ} (os : List ℕ) {t : List ℕ} {n : ℕ} (few : length os ≤ 10) (room : at ≤ 65535) (p : Puts s at (guarded at os os) t n) where
  begun : Puts s at os t n
  begun = rw (guarded_in at os os room (omega arith)) at p

  pub begins : (say : Say) (f : List ℕ → Message) → ((ids : List ℕ) → says say ids ≡ f ids) → (q k : ℕ)
      → ((ids : List ℕ) → length ids ≡ k → length ids ≤ 64 → record_of (wire (f ids)) q ≡ os ++ each_two 1001 ids) → Begins s at say q k t n
  begins say f same q k whole ids e h u m r = rw (same ids, whole ids e (omega arith)) (put_then begun r)

  pub begins_most : n ≤ at + 10
  begins_most = omega (arith, begun.next)

-- ---- one connection
module _ (us : Users) (ids : List ℕ) (say : List ℕ → Message) (q : ℕ) where
  abbrev heard : List ℕ → List Sent
  heard l = if null l then [] else to q (say l) ∷ []

  owns : (l : List ℕ) → l ≡ owned_by us q ids → own_to us ids say q ≡ heard l
  unfolding own_to
  owns l e = ap heard (sym e)

  pub own_silent : length (owned_by us q ids) ≡ 0 → (s : List ℕ) (at : ℕ) → Puts s at (records (own_to us ids say q)) s at
  unfolding null
  own_silent e s at = rw (owns [] (sym (none_of (owned_by us q ids) e))) (put_nobody s at)

  pub own_heard : (length (owned_by us q ids) ≡ 0 → ⊥) → records (own_to us ids say q) ≡ record_of (wire (say (owned_by us q ids))) q
  unfolding null
  own_heard z = ap records (owns (owned_by us q ids) refl ∙ some (owned_by us q ids) z) ∙ records_one q (say (owned_by us q ids))
    where
      some : (l : List ℕ) → (length l ≡ 0 → ⊥) → heard l ≡ to q (say l) ∷ []
      some [] z = absurd (z refl)
      some (x ∷ l) z = refl

  own_most : length ids ≤ 64 → ((l : List ℕ) → length l ≤ 64 → length (wire (say l)) ≤ 134) → length (records (own_to us ids say q)) ≤ 138
  unfolding own_to null
  own_most h f = go (keep (λ v. found (attached us q v)) ids) (keep_le (λ v. found (attached us q v)) ids)
    where
      go : (l : List ℕ) → length l ≤ length ids → length (records (heard l)) ≤ 138
      go [] k = omega (arith, ap length records_none)
      go (x ∷ l) k = omega (arith, sent_length q (say (x ∷ l)), f (x ∷ l) (omega arith))

says_most : (us : Users) (ids : List ℕ) (s : Say) (q : ℕ) → length ids ≤ 64 → length (records (own_to us ids (says s) q)) ≤ 138
says_most us ids s q h = own_most us ids (says s) q h (says_length s)

-- ---- one user, where it counts
module _ (b : Bool) (u : ℕ) {s : List ℕ} {at : ℕ} where
  pub put_user : b ≡ true → at ≤ 65535 → {t : List ℕ} {n : ℕ} → Puts s at (guarded at (u ∷ []) (each_two 1001 (u ∷ []))) t n
      → Puts s at (each_two 1001 (if b then u ∷ [] else [])) t n × (n ≤ at + 2)
  put_user e h {t} {n} p =
      let q : Puts s at (each_two 1001 (u ∷ [])) t n = rw (guarded_in at (u ∷ []) (each_two 1001 (u ∷ [])) h (omega arith)) at p in
      (rw e q, omega (arith, q.next, ids_length 1001 (u ∷ [])))

  pub put_no_user : b ≡ false → Puts s at (each_two 1001 (if b then u ∷ [] else [])) s at
  unfolding each_two
  put_no_user e = rw e (put_none s at)

-- ---- its users, from place i of the list on
abbrev pub owing : (us : Users) (q : ℕ) (list : List ℕ) (i : ℕ) → List ℕ
owing us q list i = each_two 1001 (owned_by us q (drop i list))

two_more : (xs ys : List ℕ) → each_two 1001 (xs ++ ys) ≡ each_two 1001 xs ++ each_two 1001 ys
unfolding each_two
two_more [] ys = refl
two_more (x ∷ xs) ys = ap (λ (l : List ℕ). two (x - 1001) ++ l) (two_more xs ys)

module _ (us : Users) (q : ℕ) (l : q < 16) (list spots : List ℕ) (located : Located us list spots) where
  -- none stands before the first
  pub owing_first : (f : ℕ) → owned_by us q (take f list) ≡ [] → owing us q list f ≡ each_two 1001 (owned_by us q list)
  owing_first f e =
      ap (λ (r : List ℕ). each_two 1001 (r ++ owned_by us q (drop f list))) (sym e)
      ∙ ap (each_two 1001) (sym (keep_append (λ v. found (attached us q v)) (take f list) (drop f list)) ∙ ap (owned_by us q) (take-append-drop f list))

  pub owing_next : (i : ℕ) → i < length list → (b : Bool) → b ≡ eqb (get_or spots i 0) q
      → owing us q list i ≡ each_two 1001 (if b then get_or list i 0 ∷ [] else []) ++ owing us q list (i + 1)
  unfolding keep
  owing_next i h b e =
      ap (λ (r : List ℕ). each_two 1001 (owned_by us q r)) {x = drop i list} {y = get_or list i 0 ∷ drop (i + 1) list} (rw (add-one i) (drop-cons list i 0 h))
      ∙ ap (each_two 1001) (keep_append (λ v. found (attached us q v)) (get_or list i 0 ∷ []) (drop (i + 1) list))
      ∙ two_more (owned_by us q (get_or list i 0 ∷ [])) (owned_by us q (drop (i + 1) list))
      ∙ ap (λ (a : Bool). each_two 1001 (if a then get_or list i 0 ∷ [] else []) ++ owing us q list (i + 1))
      (sym (e ∙ ap (λ (p : ℕ). eqb p q) (located i h) ∙ home_is us (get_or list i 0) q l))

pub owing_end : (us : Users) (q : ℕ) (list : List ℕ) (i : ℕ) → length list ≤ i → owing us q list i ≡ []
unfolding keep each_two
owing_end us q list i h = rw (drop_of_length-le list h)

-- all of them are laid where so many octets are
pub owing_none : {s₀ : List ℕ} {from : ℕ} (ids : List ℕ) {s : List ℕ} {at : ℕ} {rest : List ℕ} (count : ℕ) → Onward s₀ from (each_two 1001 ids) s at rest → length ids ≡ count → at ≡ from + count * 2 → rest ≡ []
owing_none {s₀} {from} ids {s} {at} {rest} count o e f = none_of rest (omega (arith, o.next, ids_length 1001 ids))

-- ---- every connection: what is still to come from connection q on
abbrev pub owning : (us : Users) (ids : List ℕ) (say : (List ℕ → Message)) (q : ℕ) → List ℕ
owning us ids say q = records (each (own_to us ids say) (run q (16 - q)))

module _ (us : Users) (ids : List ℕ) (say : List ℕ → Message) where
  pub owning_all : owning us ids say 0 ≡ records (own us ids say)
  unfolding own own_to
  owning_all = ap (λ (l : List ℕ). records (each (own_to us ids say) l)) (sym (below_run 16))

  pub owning_next : (q : ℕ) → q < 16 → owning us ids say q ≡ records (own_to us ids say q) ++ owning us ids say (q + 1)
  unfolding each run
  owning_next q h =
      let e : 16 - q ≡ suc (16 - (q + 1)) = omega arith in
      rw (e, add-one q) (records_append (own_to us ids say q) (each (own_to us ids say) (run (suc q) (16 - suc q))))

  pub owning_end : (q : ℕ) → 16 ≤ q → owning us ids say q ≡ []
  unfolding each run
  owning_end q h =
      let e : 16 - q ≡ 0 = omega arith in
      rw e records_none

-- all of it is no longer than this
module _ (us : Users) (ids : List ℕ) (s : Say) (h : length ids ≤ 64) where
  run_most : (n q : ℕ) → length (records (each (own_to us ids (says s)) (run q n))) ≤ n * 138
  unfolding each run
  run_most zero q = omega (arith, ap length records_none)
  run_most (suc n) q =
      let e = ap length (records_append (own_to us ids (says s) q) (each (own_to us ids (says s)) (run (suc q) n))) in
      omega (arith, e, length-append (records (own_to us ids (says s) q)) (records (each (own_to us ids (says s)) (run (suc q) n))), says_most us ids s q h, run_most n (suc q))

  pub own_within : length (records (own us ids (says s))) ≤ 2208
  own_within = omega (arith, ap length (owning_all us ids (says s)), run_most 16 0)
