-- What is decided of a token is what the request asks for. Assumes nothing.
use Rattle.std.specs.Prelude.{Result, Ok, Err, Some, None, if◌then◌else◌}
use mathlib.Core.Path.{◌≡◌, refl, sym, ap, ◌∙◌}
use mathlib.Core.Bool.{Bool, true, false}
use mathlib.Core.List.{List, [], ◌∷◌}
use Prim.Native.Nat.{ℕ}
use lib.Dec.{eqb}
use types.Run.{OneOf, miss}
use denote.Enum.Declared.{tag_of}
use Rattle.cols_spec.specs.Places.{Place, At, Nowhere, find}
use Rattle.codec_table.specs.Named.{Message, TVin, TVcf, successful, no_such_user, token_not_possessed}
use Rattle.out_records.specs.Records.{to, wire}
use Rattle.out_messages.specs.Confirms.{confirm}
use Rattle.out_messages.specs.declared.Confirm.{Confirm}
use Rattle.domain.specs.declared.numbers.Result.{Result as Why}
use Rattle.domain.specs.declared.token.Holding.{Holding}
use Rattle.domain.specs.declared.token.Holding.TheVariants.{Free, Grabbed, Inhibited, Giving, Given}
use Rattle.domain.specs.declared.token.Token.{Token}
use Rattle.domain.specs.contracts.token.Holding.{the_type}
use Rattle.domain.specs.Cells.{token_of}
use Rattle.domain.specs.Numbers.{result_number}
use Rattle.domain.specs.Tokens.{turned_of, status, grabbed_by, offered_to, responded}
use Rattle.domain.specs.Tables.{Users, Tokens, link, attached, state, set_token}
use Rattle.domain.specs.Effects.{Effect, done, ignored}
use Rattle.domain.specs.Passing.{turn, take_token, share_token, drop_token, offer, answer, informed}
use Rattle.domain_tables.proofs.TokenLaws.{set_found}
use Rattle.serve_token_rules.specs.declared.Ask.{Ask}
use Rattle.serve_token_rules.specs.declared.Ask.TheVariants.{Grab, Inhibit, Release, Offer, Answer}
use Rattle.serve_token_rules.specs.declared.Fate.TheVariants.{Ignored, Stays, Turns}
use Rattle.serve_token_rules.specs.declared.Deed.{Deed}
use Rattle.serve_token_rules.specs.Deeds.{asked, Telling, fated, Doing, Does}
use Rattle.serve_reply.proofs.Initiators.{from_at, from_nobody}

-- ---- a deed, and the effect that it is
module _ (ts : Tokens) (k : ℕ) where
  module _ {q : ℕ} {m : List ℕ} (x : Message) (o : m ≡ wire x) {e : Effect Tokens} where
    pub stays : e ≡ done ts (to q x ∷ []) → Does ts k (record { fate = Stays; told = Some (record { q = q; m = m }) }) e
    unfolding Does Doing Telling fated
    stays r = record { message = x; octets = o; effect = r }

    pub turns : (h : Holding) {t : Token} → t ≡ token_of h → e ≡ done (set_token ts k h) (to q x ∷ []) → Does ts k (record { fate = Turns t; told = Some (record { q = q; m = m }) }) e
    unfolding Does Doing Telling fated
    turns h c r = record { message = x; octets = o; effect = rw (c, set_found ts k h) r }

  module _ {e : Effect Tokens} where
    pub quiet_ignored : e ≡ ignored → Does ts k (record { fate = Ignored; told = None }) e
    unfolding Does Doing
    quiet_ignored r = r

    pub quiet_turns : (h : Holding) {t : Token} → t ≡ token_of h → e ≡ done (set_token ts k h) [] → Does ts k (record { fate = Turns t; told = None }) e
    unfolding Does Doing Telling fated
    quiet_turns h c r = rw (c, set_found ts k h) r

  module _ (d : Deed) {e : Effect Tokens} where
    pub does_as : {w : Effect Tokens} → Does ts k d w → w ≡ e → Does ts k d e
    does_as p r = rw r at p

-- ---- what a request makes of its token
module _ (ts : Tokens) (p u i k : ℕ) (kind : Confirm) (t : Result Holding Why) {m : List ℕ} where
  pub turned_fails : (h : Holding) (why : Why) (n : ℕ) → h ≡ state ts k → t ≡ Err why → n ≡ result_number why → m ≡ wire (confirm kind n u k (status h i))
      → Does ts k (record { fate = Stays; told = Some (record { q = p; m = m }) }) (turn ts p u i k (confirm kind) (turned_of t))
  unfolding turn
  turned_fails h why n is e r o = stays ts k (confirm kind n u k (status h i)) o (rw (e, is, r) refl)

  pub turned_turns : (h : Holding) {c : Token} → t ≡ Ok h → c ≡ token_of h → m ≡ wire (confirm kind 0 u k (status h i))
      → Does ts k (record { fate = Turns c; told = Some (record { q = p; m = m }) }) (turn ts p u i k (confirm kind) (turned_of t))
  unfolding turn
  turned_turns h e is o = turns ts k (confirm kind 0 u k (status h i)) o h is (rw e refl)

pub asked_nowhere : (ask : Ask) (full : Bool) (us : Users) (ts : Tokens) (p u k : ℕ) → attached us p u ≡ Nowhere → asked ask full us ts p u k ≡ ignored
unfolding take_token share_token drop_token offer answer
asked_nowhere Grab full us ts p u k e = from_nobody us p u _ e
asked_nowhere Inhibit full us ts p u k e = from_nobody us p u _ e
asked_nowhere Release full us ts p u k e = from_nobody us p u _ e
asked_nowhere (Offer r) full us ts p u k e = from_nobody us p u _ e
asked_nowhere (Answer n) full us ts p u k e = from_nobody us p u _ e

-- ---- TVrq
module _ (us : Users) (ts : Tokens) (p u i k r : ℕ) where
  to_place : Place → Effect Tokens
  to_place w = elim w [
    | At j ↦ done (set_token ts k (Giving i j)) (to (link us j) (TVin u k r) ∷ [])
    | Nowhere ↦ done ts (to p (TVcf no_such_user u k (status (state ts k) i)) ∷ [])
  ]

  offer_by : Bool → Effect Tokens
  offer_by b = if b then to_place (find us.ids r) else done ts (to p (TVcf token_not_possessed u k (status (state ts k) i)) ∷ [])

  module _ (here : attached us p u ≡ At i) {h : Holding} (is : h ≡ state ts k) where
    offer_is : (b : Bool) → grabbed_by h i ≡ b → offer us ts p u k r ≡ offer_by b
    unfolding offer offer_by to_place
    offer_is b g = from_at us p u _ i here ∙ ap offer_by (ap (λ (x : Holding). grabbed_by x i) (sym is) ∙ g)

    pub offer_refused : grabbed_by h i ≡ false → offer us ts p u k r ≡ done ts (to p (TVcf token_not_possessed u k (status (state ts k) i)) ∷ [])
    unfolding offer_by
    offer_refused g = offer_is false g

    module _ (g : grabbed_by h i ≡ true) where
      pub offer_given : (j : ℕ) → find us.ids r ≡ At j → offer us ts p u k r ≡ done (set_token ts k (Giving i j)) (to (link us j) (TVin u k r) ∷ [])
      unfolding offer_by to_place
      offer_given j e = offer_is true g ∙ ap to_place e

      pub offer_unknown : find us.ids r ≡ Nowhere → offer us ts p u k r ≡ done ts (to p (TVcf no_such_user u k (status (state ts k) i)) ∷ [])
      unfolding offer_by to_place
      offer_unknown e = offer_is true g ∙ ap to_place e

-- ---- TVrs
module _ (us : Users) (ts : Tokens) (p n u k i : ℕ) (here : attached us p u ≡ At i) {h : Holding} (is : h ≡ state ts k) where
  pub answer_heard : offered_to h i ≡ true → (next : Holding) → next ≡ responded (eqb n successful) h i → done (set_token ts k next) (informed us n k h next) ≡ answer us ts p n u k
  unfolding answer
  answer_heard o next e = sym (from_at us p u _ i here ∙ rw (← is, o, e) refl)

  pub answer_unheard : offered_to h i ≡ false → answer us ts p n u k ≡ ignored
  unfolding answer
  answer_unheard o = from_at us p u _ i here ∙ rw (← is, o) refl

-- nobody is told where nobody was giving
pub silent : (us : Users) (n k : ℕ) (h after : Holding) → OneOf (0 ∷ 1 ∷ 2 ∷ 4 ∷ []) (tag_of the_type h) → informed us n k h after ≡ []
unfolding informed
silent us n k Free after e = refl
silent us n k (Grabbed g) after e = refl
silent us n k (Inhibited is) after e = refl
silent us n k (Giving g r) after e = absurd (miss (0 ∷ 1 ∷ 2 ∷ 4 ∷ []) 3 tt e)
silent us n k (Given r) after e = refl
