-- What is written the short way is what the table of messages gives. Assumes nothing.
use mathlib.Core.Path.{◌≡◌, refl, ap, ◌∙◌}
use mathlib.Core.Bool.{Bool, true, false, cond}
use mathlib.Core.List.{List, [], ◌∷◌, ◌++◌}
use Prim.Native.Nat.{ℕ, suc, ◌%◌, ◌≤◌, ◌<◌}
use native.Mathlib.Omega.{arith}
use lib.ListN.{length, get_or, drop, set, drop_of_length-le}
use lib.Seq.{drop-cons}
use lib.Dec.{eqb}
use Rattle.std.specs.Prelude.{Ok}
use borrow.Author.Tests.{le-leb}
use Rattle.codec_octets.specs.Octets.{nothing}
use Rattle.codec_table.specs.Messages.{plain, entry, row, result, user, token, status}
use Rattle.codec_table.specs.Columns.{tail_at}
use Rattle.codec_table.specs.Codec.{octets_of_msg, ok, encode}
use Rattle.codec_table.specs.Named.{fields, msg}
use Rattle.out_records.specs.Records.{wire}
use Rattle.out_messages.specs.Confirms.{confirm, number}
use Rattle.out_messages.specs.declared.Confirm.{Confirm}
use Rattle.out_messages.specs.declared.Confirm.TheVariants.{Grab, Inhibit, Give, Release}
use Rattle.out_messages.proofs.Confirming.{wire_confirm, number_most}
use Rattle.codec_size.specs.Sizes.{given, items_for}
use Rattle.codec_write.specs.Writing.{Encodes}
use Rattle.codec_write_fast.specs.Tersely.{InRange, Short, short_octets}

-- a list cell by cell
cell : (l : List ℕ) (i : ℕ) {rest : List ℕ} → i < length l → drop (suc i) l ≡ rest → drop i l ≡ get_or l i 0 ∷ rest
cell l i h e = drop-cons l i 0 h ∙ ap (λ (x : List ℕ). get_or l i 0 ∷ x) e

four_cells : (l : List ℕ) → length l ≡ 4 → l ≡ get_or l 0 0 ∷ get_or l 1 0 ∷ get_or l 2 0 ∷ get_or l 3 0 ∷ []
four_cells l h =
    cell l 0 (omega arith) (cell l 1 (omega arith) (cell l 2 (omega arith) (cell l 3 (omega arith) (drop_of_length-le l {i = 4} (omega arith)))))

no_cells : (l : List ℕ) → length l ≡ 0 → l ≡ []
no_cells l h = drop_of_length-le l {i = 0} (omega arith)

-- seven octets stored one by one
pub seven_stored : (l : List ℕ) → 7 ≤ length l → (a b c d e f g : ℕ)
    → set (set (set (set (set (set (set l 0 a) 1 b) 2 c) 3 d) 4 e) 5 f) 6 g ≡ (a ∷ b ∷ c ∷ d ∷ e ∷ f ∷ g ∷ []) ++ drop 7 l
seven_stored l h a b c d e f g =
    ap (λ (x : List ℕ). set (set (set (set (set (set (set x 0 a) 1 b) 2 c) 3 d) 4 e) 5 f) 6 g)
    (cell l 0 (omega arith) (cell l 1 (omega arith) (cell l 2 (omega arith) (cell l 3 (omega arith) (cell l 4 (omega arith) (cell l 5 (omega arith) (cell l 6 (omega arith) refl)))))))

-- a confirm by the table: its row, and its octets
confirm_row : (kind : Confirm) → row (number kind) ≡ plain (result ∷ user ∷ token ∷ status ∷ []) nothing
unfolding row entry
confirm_row Grab = refl
confirm_row Inhibit = refl
confirm_row Give = refl
confirm_row Release = refl

confirm_wire : (kind : Confirm) (r u k s : ℕ) → octets_of_msg (msg (number kind) (r ∷ u ∷ k ∷ s ∷ []) []) ≡ wire (confirm kind r u k s)
unfolding wire fields
confirm_wire Grab r u k s = refl
confirm_wire Inhibit r u k s = refl
confirm_wire Give r u k s = refl
confirm_wire Release r u k s = refl

module _ (kind : Confirm) (r u k s : ℕ) (range : InRange r u k s) where
  confirm_octets : octets_of_msg (msg (number kind) (r ∷ u ∷ k ∷ s ∷ []) []) ≡ short_octets (number kind) r u k s
  confirm_octets =
      let low : s % 8 ≡ s = omega (arith, range.status_most) in
      confirm_wire kind r u k s ∙ wire_confirm kind r u k s (omega (arith, range.result_most)) ∙ rw low refl

  confirm_encodes : encode (msg (number kind) (r ∷ u ∷ k ∷ s ∷ []) []) ≡ ok (short_octets (number kind) r u k s)
  unfolding encode
  confirm_encodes =
      rw (confirm_row kind, le-leb r 15 range.result_most, le-leb 1001 u range.user_least, le-leb u 65535 range.user_most, le-leb 1 k range.token_least, le-leb k 65535 range.token_most, le-leb s 7 range.status_most, confirm_octets)
      refl

-- nothing behind the fields, of whatever kind it would be
no_items : (kind : ℕ) → items_for kind [] [] ≡ []
no_items kind = go (eqb kind 3)
  where
    go : (b : Bool) → cond {A = List ℕ} b [] [] ≡ []
    go true = refl
    go false = refl

-- what goes the short way: its octets, before what stood behind them
module _ {n : ℕ} {values ids octets : List ℕ} {size : ℕ} (short : Short n values ids octets size) where
  pub number_small : n ≤ 40
  number_small = rw short.confirms.is (number_most short.confirms.kind)

  is_given : given n values ids octets ≡ msg (number short.confirms.kind) (get_or values 0 0 ∷ get_or values 1 0 ∷ get_or values 2 0 ∷ get_or values 3 0 ∷ []) []
  unfolding given
  is_given =
      rw (no_cells ids short.no_ids, no_cells octets short.no_octets, no_items (tail_at n), short.confirms.is)
      (ap (λ (vs : List ℕ). msg (number short.confirms.kind) vs []) (four_cells values short.four))

  pub short_encodes : (room room' : List ℕ) → 7 ≤ length room
      → room' ≡ short_octets n (get_or values 0 0) (get_or values 1 0) (get_or values 2 0) (get_or values 3 0) ++ drop 7 room
      → Encodes (given n values ids octets) room (Ok 7) room'
  short_encodes room room' h e =
      rw (is_given, confirm_encodes short.confirms.kind _ _ _ _ short.in_range, le-leb 7 (length room) h, e, short.confirms.is) refl
