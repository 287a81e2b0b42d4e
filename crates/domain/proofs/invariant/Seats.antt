-- What is stored of a channel or a token is what is read again: its kind, or its state where the users' places are below 64. Assumes nothing.
use mathlib.Core.Path.{◌≡◌, refl, ap}
use Prim.Native.Nat.{ℕ, ◌<◌, ◌+◌, ◌*◌, ◌/◌, ◌%◌}
use native.Mathlib.Omega.{arith}
use lib.ListN.{length}
use Rattle.cols_spec.proofs.Rows.{in_list}
use Rattle.domain.specs.declared.channel.Kind.{Kind}
use Rattle.domain.specs.declared.channel.Kind.TheVariants.{Static, User, Private, Assigned}
use Rattle.domain.specs.declared.token.Holding.{Holding}
use Rattle.domain.specs.declared.token.Holding.TheVariants.{Free, Grabbed, Inhibited, Giving, Given}
use Rattle.domain.specs.Cells.{kind, channel_of, with_marks, with_guests, hold, token_of}
use Rattle.domain.specs.Tables.{Users}
use Rattle.domain.proofs.invariant.Sound.{Seated, Held}

-- ---- channels

pub kind_of : (k : Kind) (m : ℕ) → kind (channel_of k m) ≡ k
unfolding kind channel_of
kind_of Static m = refl
kind_of User m = refl
kind_of (Private g us) m = refl
kind_of Assigned m = refl

pub marks_of : (k : Kind) (m : ℕ) → (channel_of k m).marks ≡ m
unfolding channel_of
marks_of Static m = refl
marks_of User m = refl
marks_of (Private g us) m = refl
marks_of Assigned m = refl

-- other connections joined, other users admitted: of a channel as it is stored
pub with_marks_of : (k : Kind) (m n : ℕ) → with_marks (channel_of k m) n ≡ channel_of k n
unfolding with_marks channel_of
with_marks_of Static m n = refl
with_marks_of User m n = refl
with_marks_of (Private g us) m n = refl
with_marks_of Assigned m n = refl

pub with_guests_of : (g us m vs n : ℕ) → with_guests (channel_of (Private g us) m) vs n ≡ channel_of (Private g vs) n
unfolding with_guests channel_of
with_guests_of g us m vs n = refl

-- ---- tokens

-- the users' places are below 64
abbrev pub Low : Holding → Type 0
Low Free = Unit {0}
Low (Grabbed g) = g < 64
Low (Inhibited us) = Unit {0}
Low (Giving g r) = (g < 64) × (r < 64)
Low (Given r) = r < 64

pub hold_of : (h : Holding) → Low h → hold (token_of h) ≡ h
unfolding hold token_of
hold_of Free l = refl
hold_of (Grabbed g) l = ap Grabbed (omega arith)
hold_of (Inhibited us) l = refl
hold_of (Giving g r) l =
    let a : (g * 64 + r) / 64 % 64 ≡ g = omega arith in
    let b : (g * 64 + r) % 64 ≡ r = omega arith in
    rw (a, b) refl
hold_of (Given r) l = ap Given (omega arith)

pub seated_low : (us : Users) → length us.ids ≡ 64 → (i : ℕ) → Seated us i → i < 64
seated_low us n i s = let l : i < length us.ids = in_list us.ids i s in omega arith

pub held_low : (us : Users) → length us.ids ≡ 64 → (h : Holding) → Held us h → Low h
held_low us n Free x = tt
held_low us n (Grabbed g) x = seated_low us n g x
held_low us n (Inhibited is) x = tt
held_low us n (Giving g r) x = (seated_low us n g x.0, seated_low us n r x.1)
held_low us n (Given r) x = seated_low us n r x
