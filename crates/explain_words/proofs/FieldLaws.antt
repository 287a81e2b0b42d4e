-- The word for a field. Assumes nothing.
use Prim.Native.Nat.{ℕ, ◌≤◌, ◌<◌}
use mathlib.Core.Path.{◌≡◌, refl, sym, ap, ◌∙◌}
use borrow.Author.Tests.{lt-ltb, le-ltb}
use Rattle.explain_words.specs.FieldNames.{names_at, digit_at, word_of, field_word}

pub field_none : (n i : ℕ) → 3 < i → 125 ≡ field_word n i
unfolding field_word
field_none n i h = rw (lt-ltb 3 i h) refl

-- field i, told by the place j that it has
pub field_at : (n i j names d r : ℕ) → i ≤ 3 → i ≡ j → names ≡ names_at n → d ≡ digit_at names j → r ≡ word_of d → r ≡ field_word n i
unfolding field_word
field_at n i j names d r h k e g w = w ∙ ap word_of (g ∙ ap (λ x. digit_at names x) (sym k) ∙ ap (λ x. digit_at x i) e) ∙ sym (rw (le-ltb 3 i h) refl)
