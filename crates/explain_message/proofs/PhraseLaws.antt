-- The texts of a message, by the cases that the code tells apart. Assumes nothing.
use Prim.Native.Nat.{ℕ, ◌-◌, ◌/◌, ◌≤◌, ◌<◌}
use mathlib.Core.Path.{◌≡◌, refl, sym, ap, ◌∙◌}
use mathlib.Core.Bool.{true}
use mathlib.Core.List.{List, [], ◌∷◌}
use native.Mathlib.Omega.{arith}
use borrow.Author.Tests.{eq-eqb, ne_eqb, lt-ltb, le-ltb}
use lib.ListN.{length, take, drop, get_or, length-drop}
use lib.Seq.{take-length}
use Rattle.std.specs.Prelude.{Ok, Err}
use Rattle.codec_octets.specs.declared.refusal.Refusal.{Refusal}
use Rattle.codec_table.specs.Answers.{outcome_of}
use Rattle.codec_table.specs.Codec.{Msg, Outcome}
use Rattle.codec_read.specs.Held.{decoded}
use Rattle.codec_read.specs.declared.Decoded.{Decoded}
use Rattle.codec_read.specs.declared.Items.{Items}
use Rattle.trace_io.specs.Lines.{decimal, each}
use Rattle.trace_io.specs.Hexadecimal.{octet_texts}
use Rattle.explain_words.specs.Letters.{ascii}
use Rattle.explain_words.specs.Words.{word, placed, part_words, message_words}
use Rattle.explain_message.specs.Messages.{value_text, ids_texts, list_texts, octets_texts, items_texts, tail_texts, unread_texts, read_texts, message_texts}

-- the value of a field, by its kind
pub value_at : (k kind v : ℕ) → kind ≡ k → value_text k v ∷ [] ≡ value_text kind v ∷ []
value_at k kind v e = ap (λ x. value_text x v ∷ []) (sym e)

pub value_other : (kind v : ℕ) → (kind ≡ 0 → ⊥) → (kind ≡ 1 → ⊥) → (kind ≡ 2 → ⊥) → (kind ≡ 3 → ⊥) → decimal v ∷ [] ≡ value_text kind v ∷ []
unfolding value_text
value_other kind v a b c d = rw (ne_eqb kind 0 a, ne_eqb kind 1 b, ne_eqb kind 2 c, ne_eqb kind 3 d) refl

-- none, or some
pub list_none : (ids : List ℕ) → length ids ≡ 0 → ascii " none" ∷ [] ≡ list_texts ids
unfolding list_texts
list_none ids e = rw (eq-eqb (length ids) 0 e) refl

pub list_some : (ids : List ℕ) → (length ids ≡ 0 → ⊥) → each ids_texts 0 ids ≡ list_texts ids
unfolding list_texts
list_some ids e = rw (ne_eqb (length ids) 0 e) refl

pub octets_none : (os : List ℕ) → length os ≡ 0 → ascii " none" ∷ [] ≡ octets_texts os
unfolding octets_texts
octets_none os e = rw (eq-eqb (length os) 0 e) refl

pub octets_some : (os : List ℕ) → (length os ≡ 0 → ⊥) → each (octet_texts true) 0 os ≡ octets_texts os
unfolding octets_texts
octets_some os e = rw (ne_eqb (length os) 0 e) refl

-- what follows the fields, by its kind
pub tail_none : (kind : ℕ) (items : Items) (ids os : List ℕ) → kind ≡ 0 → [] ≡ tail_texts kind items ids os
unfolding tail_texts
tail_none kind items ids os e = rw (eq-eqb kind 0 e) refl

pub tail_some : (kind : ℕ) (items : Items) (ids os : List ℕ) → (kind ≡ 0 → ⊥)
    → ascii " " ∷ word (placed part_words 3 (kind - 1)) ∷ items_texts items ids os ≡ tail_texts kind items ids os
unfolding tail_texts
tail_some kind items ids os n = rw (ne_eqb kind 0 n) refl

-- octets that are not read
pub unread_none : (os : List ℕ) → length os ≡ 0 → ascii "no octets" ∷ [] ≡ unread_texts os
unfolding unread_texts
unread_none os e = rw (eq-eqb (length os) 0 e) refl

module _ (os : List ℕ) (o : ℕ) (n : length os ≡ 0 → ⊥) (e : o ≡ get_or os 0 0) where
  pub unread_named : o / 4 < 43 → word (placed message_words 43 (o / 4)) ∷ [] ≡ unread_texts os
  unfolding unread_texts
  unread_named h = rw (ne_eqb (length os) 0 n, ← e, lt-ltb (o / 4) 43 h) refl

  pub unread_number : 43 ≤ o / 4 → ascii "number " ∷ decimal (o / 4) ∷ [] ≡ unread_texts os
  unfolding unread_texts
  unread_number h = rw (ne_eqb (length os) 0 n, ← e, le-ltb (o / 4) 43 h) refl

-- a part up to the end
pub all_behind : (os : List ℕ) (k : ℕ) → take (length os - k) (drop k os) ≡ drop k os
all_behind os k = ap (λ n. take n (drop k os)) (sym (length-drop k os)) ∙ take-length (drop k os)

-- a message that is read, and one that is not
pub message_unread : (os : List ℕ) (r : Refusal) (o : Outcome Msg) → outcome_of {T = Decoded} (Err r) ≡ decoded os o → unread_texts os ≡ message_texts os (decoded os o)
unfolding message_texts
message_unread os r o e = rw (← e) refl

pub message_read : (os : List ℕ) (d : Decoded) (o : Outcome Msg) → outcome_of (Ok d) ≡ decoded os o → read_texts os d ≡ message_texts os (decoded os o)
unfolding message_texts
message_read os d o e = rw (← e) refl
