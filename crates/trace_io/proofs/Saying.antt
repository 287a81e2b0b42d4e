-- Texts put one behind the other. Assumes nothing.
use Prim.Native.Nat.{ℕ, ◌+◌, ◌/◌, ◌%◌, ◌≤◌, ◌<◌}
use mathlib.Core.Path.{◌≡◌, refl, sym, ap, ◌∙◌}
use mathlib.Core.Bool.{Bool, true, false}
use mathlib.Core.List.{List, [], ◌∷◌, ◌++◌}
use native.Mathlib.Numerals.{add-one}
use native.Mathlib.Omega.{arith}
use borrow.Author.Rules.{rules}
use lib.ListN.{length, drop, get_or, drop_of_length-le}
use lib.Seq.{drop-cons}
use Rattle.trace_io.specs.Hexadecimal.{digit_of, octet_text}
use Rattle.trace_io.specs.Lines.{collected, said, each}
use Rattle.trace_io.specs.Waiting.{SaysTo}
use Rattle.trace_io.specs.declared.lines.Lines.{Lines}

pub said_append : (s : List ℕ × ℕ) (ts us : List (List ℕ)) → said s (ts ++ us) ≡ said (said s ts) us
unfolding said
said_append s [] us = refl
said_append s (t ∷ ts) us = said_append (collected s.0 s.1 t) ts us

-- nothing is said
pub says_none : {n : ℕ} {a : Lines n} → SaysTo a [] a
unfolding said
says_none = record { says = record { same = refl }; stays = refl }

-- one text is said
pub says_one : {n : ℕ} {a b : Lines n} (t : List ℕ) → (b.room, b.filled) ≡ collected a.room a.filled t → b.to ≡ a.to → SaysTo a (t ∷ []) b
unfolding said
says_one t e s = record { says = record { same = e }; stays = s }

-- texts are said behind others
pub says_then : {n : ℕ} {a b c : Lines n} {ts us : List (List ℕ)} → SaysTo a ts b → SaysTo b us c → SaysTo a (ts ++ us) c
says_then {a} {ts = ts} {us = us} e h =
    record {
      says = record { same = h.says.same ∙ ap (λ z. said z us) e.says.same ∙ sym (said_append (a.room, a.filled) ts us) };
      stays = h.stays ∙ e.stays;
    }

-- the same texts, told otherwise
pub says_as : {n : ℕ} {a b : Lines n} {ts us : List (List ℕ)} → SaysTo a ts b → ts ≡ us → SaysTo a us b
says_as {a} h e = record { says = record { same = h.says.same ∙ ap (λ t. said (a.room, a.filled) t) e }; stays = h.stays }

-- a loop over a list: what is still to be said from here is all from the start
pub record Onward {n : ℕ} (a : Lines n) (all : List (List ℕ)) (b : Lines n) (rest : List (List ℕ)) : Type 0 where
  pub same : said (b.room, b.filled) rest ≡ said (a.room, a.filled) all
  pub stays : b.to ≡ a.to

pub onward_start : {n : ℕ} {a : Lines n} {all : List (List ℕ)} → Onward a all a all
onward_start = record { same = refl; stays = refl }

pub onward_step : {n : ℕ} {a b c : Lines n} {all us : List (List ℕ)} (ts rest : List (List ℕ)) → Onward a all b rest → rest ≡ ts ++ us → SaysTo b ts c → Onward a all c us
onward_step {b = b} {us = us} ts rest w e h =
    record {
      same = ap (λ z. said z us) h.says.same ∙ sym (said_append (b.room, b.filled) ts us) ∙ ap (λ t. said (b.room, b.filled) t) (sym e) ∙ w.same;
      stays = h.stays ∙ w.stays;
    }

pub onward_end : {n : ℕ} {a b : Lines n} {all : List (List ℕ)} (rest : List (List ℕ)) → Onward a all b rest → rest ≡ [] → SaysTo a all b
unfolding said
onward_end {b = b} rest w e = record { says = record { same = ap (λ t. said (b.room, b.filled) t) (sym e) ∙ w.same }; stays = w.stays }

-- the texts of each element: those of one, and of the others
module _ (f : ℕ → ℕ → List (List ℕ)) (xs : List ℕ) where
  pub each_next : (i : ℕ) → i < length xs → each f i (drop i xs) ≡ f i (get_or xs i 0) ++ each f (i + 1) (drop (i + 1) xs)
  unfolding each
  each_next i h = rw (add-one, drop-cons xs i 0 h) refl

  pub each_end : (i : ℕ) → length xs ≤ i → each f i (drop i xs) ≡ []
  unfolding each
  each_end i h = rw (drop_of_length-le xs {i = i} h) refl

-- the text of an octet from its digits
pub octet_apart : (apart : Bool) (a b octet : ℕ) → apart ≡ true → a ≡ digit_of (octet / 16) → b ≡ digit_of (octet % 16) → (32 ∷ a ∷ b ∷ []) ∷ [] ≡ octet_text apart octet ∷ []
unfolding octet_text
octet_apart apart a b octet e h g = rw (e, h, g) refl

pub octet_close : (apart : Bool) (a b octet : ℕ) → apart ≡ false → a ≡ digit_of (octet / 16) → b ≡ digit_of (octet % 16) → (a ∷ b ∷ []) ∷ [] ≡ octet_text apart octet ∷ []
unfolding octet_text
octet_close apart a b octet e h g = rw (e, h, g) refl

-- a loop that says each element of a list: once `i` of them are said
pub record SaysOn (f : ℕ → ℕ → List (List ℕ)) (xs : List ℕ) {n : ℕ} (old : Lines n) (i : ℕ) (new : Lines n) : Type 0 where
  pub more : i ≤ length xs
  pub onward : Onward old (each f 0 xs) new (each f i (drop i xs))

pub on_start : {f : ℕ → ℕ → List (List ℕ)} {xs : List ℕ} {n : ℕ} {old : Lines n} → SaysOn f xs old 0 old
on_start = record { more = search rules; onward = onward_start }

pub on_step : {f : ℕ → ℕ → List (List ℕ)} {xs : List ℕ} {n : ℕ} {old mid new : Lines n} {i : ℕ} → SaysOn f xs old i mid → i < length xs → SaysTo mid (f i (get_or xs i 0)) new → SaysOn f xs old (i + 1) new
on_step {f = f} {xs = xs} {i = i} t h s =
    record {
      more = omega arith;
      onward = onward_step (f i (get_or xs i 0)) (each f i (drop i xs)) t.onward (each_next f xs i h) s;
    }

pub on_end : {f : ℕ → ℕ → List (List ℕ)} {xs : List ℕ} {n : ℕ} {old new : Lines n} {i : ℕ} → SaysOn f xs old i new → length xs ≤ i → SaysTo old (each f 0 xs) new
on_end {f = f} {xs = xs} {i = i} t h = onward_end (each f i (drop i xs)) t.onward (each_end f xs i h)
