-- A table's cells out of its columns: read at a place, stored at a place, and how many there are.
use mathlib.Core.Path.{◌≡◌, refl, ap}
use mathlib.Core.List.{List, [], ◌∷◌}
use Prim.Native.Nat.{ℕ, zero, suc, ◌≤◌, ◌<◌, zero-le, suc-le-suc}
use native.Mathlib.Omega.{arith}
use lib.ListN.{length, get_or, set, get_or-eq_default}
use lib.Seq.{set_out}
use Rattle.domain.specs.declared.channel.Channel.{Channel}
use Rattle.domain.specs.declared.token.Token.{Token}
use Rattle.domain.specs.Cells.{no_channel, no_token}
use Rattle.domain.specs.Tables.{channel_cells, token_cells}

-- ---- tokens

-- the token of these numbers
abbrev pub token : (mode value : ℕ) → Token
token mode value = record { mode = mode; value = value }

pub token_at : (ms vs : List ℕ) (i : ℕ) → i < length ms → i < length vs → get_or (token_cells ms vs) i no_token ≡ token (get_or ms i 0) (get_or vs i 0)
unfolding token_cells
token_at [] vs i a b = absurd (omega arith)
token_at (m ∷ ms) [] i a b = absurd (omega arith)
token_at (m ∷ ms) (v ∷ vs) zero a b = refl
token_at (m ∷ ms) (v ∷ vs) (suc i) a b = token_at ms vs i (omega arith) (omega arith)

pub token_set : (ms vs : List ℕ) (i m v : ℕ) → token_cells (set ms i m) (set vs i v) ≡ set (token_cells ms vs) i (token m v)
unfolding token_cells
token_set [] vs i m v = refl
token_set (x ∷ ms) [] zero m v = refl
token_set (x ∷ ms) [] (suc i) m v = refl
token_set (x ∷ ms) (y ∷ vs) zero m v = refl
token_set (x ∷ ms) (y ∷ vs) (suc i) m v = ap (λ (l : List Token). token x y ∷ l) (token_set ms vs i m v)

-- ---- channels

-- the channel of these numbers
abbrev pub channel : (role chair guests marks : ℕ) → Channel
channel role chair guests marks = record { role = role; chair = chair; guests = guests; marks = marks }

pub channel_at : (rs cs gs ms : List ℕ) (i : ℕ) → i < length rs → i < length cs → i < length gs → i < length ms
    → get_or (channel_cells rs cs gs ms) i no_channel ≡ channel (get_or rs i 0) (get_or cs i 0) (get_or gs i 0) (get_or ms i 0)
unfolding channel_cells
channel_at [] cs gs ms i a b c d = absurd (omega arith)
channel_at (r ∷ rs) [] gs ms i a b c d = absurd (omega arith)
channel_at (r ∷ rs) (x ∷ cs) [] ms i a b c d = absurd (omega arith)
channel_at (r ∷ rs) (x ∷ cs) (g ∷ gs) [] i a b c d = absurd (omega arith)
channel_at (r ∷ rs) (x ∷ cs) (g ∷ gs) (m ∷ ms) zero a b c d = refl
channel_at (r ∷ rs) (x ∷ cs) (g ∷ gs) (m ∷ ms) (suc i) a b c d = channel_at rs cs gs ms i (omega arith) (omega arith) (omega arith) (omega arith)

pub channel_set : (rs cs gs ms : List ℕ) (i r c g m : ℕ)
    → channel_cells (set rs i r) (set cs i c) (set gs i g) (set ms i m) ≡ set (channel_cells rs cs gs ms) i (channel r c g m)
unfolding channel_cells
channel_set [] cs gs ms i r c g m = refl
channel_set (x ∷ rs) [] gs ms zero r c g m = refl
channel_set (x ∷ rs) [] gs ms (suc i) r c g m = refl
channel_set (x ∷ rs) (y ∷ cs) [] ms zero r c g m = refl
channel_set (x ∷ rs) (y ∷ cs) [] ms (suc i) r c g m = refl
channel_set (x ∷ rs) (y ∷ cs) (z ∷ gs) [] zero r c g m = refl
channel_set (x ∷ rs) (y ∷ cs) (z ∷ gs) [] (suc i) r c g m = refl
channel_set (x ∷ rs) (y ∷ cs) (z ∷ gs) (w ∷ ms) zero r c g m = refl
channel_set (x ∷ rs) (y ∷ cs) (z ∷ gs) (w ∷ ms) (suc i) r c g m = ap (λ (l : List Channel). channel x y z w ∷ l) (channel_set rs cs gs ms i r c g m)

-- no more places than roles
pub channel_count : (rs cs gs ms : List ℕ) → length (channel_cells rs cs gs ms) ≤ length rs
unfolding channel_cells
channel_count [] cs gs ms = zero-le
channel_count (r ∷ rs) [] gs ms = zero-le
channel_count (r ∷ rs) (x ∷ cs) [] ms = zero-le
channel_count (r ∷ rs) (x ∷ cs) (g ∷ gs) [] = zero-le
channel_count (r ∷ rs) (x ∷ cs) (g ∷ gs) (m ∷ ms) = suc-le-suc (channel_count rs cs gs ms)

pub channel_none : (rs cs gs ms : List ℕ) (i : ℕ) → length rs ≤ i → get_or (channel_cells rs cs gs ms) i no_channel ≡ no_channel
channel_none rs cs gs ms i h = get_or-eq_default (channel_cells rs cs gs ms) no_channel (omega (arith, channel_count rs cs gs ms))

pub channel_out : (rs cs gs ms : List ℕ) (i : ℕ) (ch : Channel) → length rs ≤ i → set (channel_cells rs cs gs ms) i ch ≡ channel_cells rs cs gs ms
channel_out rs cs gs ms i ch h = set_out (channel_cells rs cs gs ms) i ch (omega (arith, channel_count rs cs gs ms))
