-- Who holds or is offered a token, in words, as a list of texts.
use Rattle.std.specs.Prelude.{ℕ, suc, Bool, not, ◌||◌, List, [], ◌∷◌, ◌++◌, eqb, get_or, if◌then◌else◌}
use Rattle.cols_spec.specs.Sets.{has}
use Rattle.cols_spec.specs.Places.{used, in_order}
use Rattle.domain.specs.declared.token.Holding.{Holding}
use Rattle.domain.specs.declared.token.Holding.TheVariants.{Free, Grabbed, Inhibited, Giving, Given}
use Rattle.domain.specs.Cells.{no_token}
use Rattle.domain.specs.Tables.{Tokens, state}
use Rattle.trace_io.specs.Lines.{decimal}
use Rattle.explain_words.specs.Letters.{ascii}
use Rattle.explain_message.specs.Messages.{id_texts}

-- the texts of each element of a list
unfoldable pub over : (ℕ → List (List ℕ)) → List ℕ → List (List ℕ)
over f [] = []
over f (x ∷ xs) = f x ++ over f xs

-- the ids of a column at the places that are picked, counted from i; 0 at the others
unfoldable pub picked_from : (ℕ → Bool) → ℕ → List ℕ → List ℕ
picked_from p i [] = []
picked_from p i (x ∷ xs) = (if p i then x else 0) ∷ picked_from p (suc i) xs

-- "free; grabbed g; inhibited by a non-empty set; giving g to r; given r", the users by their ids
unfoldable pub holding_texts : List ℕ → Holding → List (List ℕ)
holding_texts names Free = ascii "free" ∷ []
holding_texts names (Grabbed g) = ascii "grabbed by" ∷ id_texts (get_or names g 0)
holding_texts names (Inhibited us) = ascii "inhibited by" ∷ over id_texts (in_order (picked_from (has us) 0 names))
holding_texts names (Giving g r) = (ascii "giving from" ∷ id_texts (get_or names g 0)) ++ (ascii " to" ∷ id_texts (get_or names r 0))
holding_texts names (Given r) = ascii "given to" ∷ id_texts (get_or names r 0)

-- a token's line, and those of some tokens
unfoldable pub token_texts : List ℕ → ℕ → Holding → List (List ℕ)
token_texts names k h = (ascii "  token " ∷ decimal k ∷ ascii ": " ∷ holding_texts names h) ++ (ascii "\n" ∷ [])

unfoldable pub state_texts : List ℕ → Tokens → ℕ → List (List ℕ)
state_texts names ts k = token_texts names k (state ts k)

-- two places' numbers differ: the id, the mode or the value
unfoldable pub differ : (k m v l n w : ℕ) → Bool
differ k m v l n w = (not (eqb k l) || not (eqb m n)) || not (eqb v w)

-- the numbers at place i are others than before
unfoldable pub changed_at : (before after : Tokens) → ℕ → Bool
changed_at before after i =
    differ (get_or before.ids i 0) (get_or before.cells i no_token).mode (get_or before.cells i no_token).value
    (get_or after.ids i 0) (get_or after.cells i no_token).mode (get_or after.cells i no_token).value

-- the ids at the places that changed: those that stood there before, then those that stand there now
unfoldable pub changed_ids : (before after : Tokens) → List ℕ
changed_ids before after = picked_from (changed_at before after) 0 before.ids ++ picked_from (changed_at before after) 0 after.ids

-- a line for each of these tokens, as it is now, ascending
unfoldable pub change_texts : List ℕ → (before after : Tokens) → List (List ℕ)
change_texts names before after = over (state_texts names after) (in_order (changed_ids before after))

-- the table: how many tokens are in use, and a line for each, ascending
unfoldable pub table_texts : List ℕ → Tokens → List (List ℕ)
table_texts names ts =
    ascii "tokens in use: " ∷ decimal (used ts.ids) ∷ ascii "\n" ∷ over (state_texts names ts) (in_order ts.ids)
