-- What a request that is confirmed to its asker makes of a token is what it asks for. Assumes nothing.
use Rattle.std.specs.Prelude.{if◌then◌else◌}
use mathlib.Core.Path.{◌≡◌, refl, sym, ap, ◌∙◌}
use mathlib.Core.Bool.{Bool, true, false}
use mathlib.Core.List.{[], ◌∷◌}
use Prim.Native.Nat.{ℕ}
use types.Run.{OneOf, miss}
use denote.Enum.Declared.{tag_of}
use Rattle.cols_spec.specs.Places.{At, Nowhere, find}
use Rattle.codec_table.specs.Named.{Message, TGcf, TIcf, TRcf, TVcf, no_such_user, token_not_possessed}
use Rattle.out_messages.specs.Confirms.{confirm}
use Rattle.out_messages.specs.declared.Confirm.{Confirm}
use Rattle.out_messages.specs.declared.Confirm.TheVariants.{Give}
use Rattle.domain.specs.declared.token.Holding.{Holding}
use Rattle.domain.specs.declared.token.Holding.TheVariants.{Free, Grabbed, Inhibited, Giving, Given}
use Rattle.domain.specs.Tokens.{Turned, fails, grab, inhibit, release, grabbed_by}
use Rattle.domain.specs.Tables.{Users, Tokens, attached, is_free, state}
use Rattle.domain.specs.Effects.{Effect, from}
use Rattle.domain.specs.Passing.{turn, take_token, share_token, drop_token, offer}
use Rattle.serve_token_rules.specs.declared.Ask.{Ask}
use Rattle.serve_token_rules.specs.declared.Ask.TheVariants.{Grab, Inhibit, Release, Offer, Answer}
use Rattle.serve_token_rules.specs.Deeds.{asked}
use Rattle.serve_token_rules.specs.Attempts.{refusal, attempted, kind_of}
use Rattle.serve_token_rules.specs.contracts.Ask.{the_type}
use Rattle.serve_reply.proofs.Initiators.{from_at}
use Rattle.serve_token_rules.proofs.Deciding.{offer_unknown, offer_refused}

-- whether the limit is reached matters for a free token alone
pub grab_same : (h : Holding) (u : ℕ) (a b : Bool) → (is_free h ≡ true → a ≡ b) → grab a h u ≡ grab b h u
unfolding is_free grab
grab_same Free u a b e = ap (λ (f : Bool). grab f Free u) (e refl)
grab_same (Grabbed g) u a b e = refl
grab_same (Inhibited is) u a b e = refl
grab_same (Giving g r) u a b e = refl
grab_same (Given r) u a b e = refl

pub inhibit_same : (h : Holding) (u : ℕ) (a b : Bool) → (is_free h ≡ true → a ≡ b) → inhibit a h u ≡ inhibit b h u
unfolding is_free inhibit
inhibit_same Free u a b e = ap (λ (f : Bool). inhibit f Free u) (e refl)
inhibit_same (Grabbed g) u a b e = refl
inhibit_same (Inhibited is) u a b e = refl
inhibit_same (Giving g r) u a b e = refl
inhibit_same (Given r) u a b e = refl

-- what is left to the code's last arm is refused
pub refused : (ask : Ask) (full : Bool) (h : Holding) (i n : ℕ) → OneOf (3 ∷ 4 ∷ []) (tag_of the_type ask) → n ≡ refusal h i
    → (Give ≡ kind_of ask) × (fails n ≡ attempted ask full h i)
unfolding kind_of attempted
refused Grab full h i n o e = absurd (miss (3 ∷ 4 ∷ []) 0 tt o)
refused Inhibit full h i n o e = absurd (miss (3 ∷ 4 ∷ []) 1 tt o)
refused Release full h i n o e = absurd (miss (3 ∷ 4 ∷ []) 2 tt o)
refused (Offer r) full h i n o e = (refl, ap fails e)
refused (Answer a) full h i n o e = (refl, ap fails e)

-- the recipient of an offer that the asker may make, sought and found, and not passed on
pub passed_on : (b : Bool) (us : Users) (r j : ℕ) → At j ≡ (if b then find us.ids r else Nowhere) → (b ≡ true) × (find us.ids r ≡ At j)
passed_on true us r j e = (refl, sym e)
passed_on false us r j e = absurd (cc)

pub kept_back : (b : Bool) (us : Users) (r : ℕ) → Nowhere ≡ (if b then find us.ids r else Nowhere) → b ≡ true → find us.ids r ≡ Nowhere
kept_back b us r e h = sym (rw h at e)

-- what is made of it for the user at place i is what the request makes of it
module _ (full : Bool) (us : Users) (ts : Tokens) (p u i k : ℕ) (here : attached us p u ≡ At i) (h : Holding) (is : h ≡ state ts k) where
  turn_from : (confirms : (ℕ → ℕ → ℕ → ℕ → Message)) (act : (Holding → ℕ → Turned))
      → turn ts p u i k confirms (act h i) ≡ from us p u λ j. turn ts p u j k confirms (act (state ts k) j)
  turn_from confirms act =
      ap (λ (x : Holding). turn ts p u i k confirms (act x i)) is ∙ sym (from_at us p u (λ j. turn ts p u j k confirms (act (state ts k) j)) i here)

  -- an offer that is not passed on
  offer_back : (r : ℕ) → (grabbed_by h i ≡ true → find us.ids r ≡ Nowhere) → turn ts p u i k TVcf (fails (refusal h i)) ≡ offer us ts p u k r
  unfolding turn
  offer_back r nobody = go (grabbed_by h i) refl
    where
      go : (b : Bool) → grabbed_by h i ≡ b → turn ts p u i k TVcf (fails (if b then no_such_user else token_not_possessed)) ≡ offer us ts p u k r
      go true g = sym (offer_unknown us ts p u i k r here is g (nobody g))
      go false g = sym (offer_refused us ts p u i k r here is g)

  abbrev attempt_of : Ask → Effect Tokens
  attempt_of ask = turn ts p u i k (confirm (kind_of ask)) (attempted ask full h i)

  -- a request that is neither an answer nor an offer
  attempt_own : (ask : Ask) → OneOf (0 ∷ 1 ∷ 2 ∷ 3 ∷ []) (tag_of the_type ask) → OneOf (0 ∷ 1 ∷ 2 ∷ 4 ∷ []) (tag_of the_type ask) → attempt_of ask ≡ asked ask full us ts p u k
  unfolding kind_of attempted take_token share_token drop_token
  attempt_own Grab a o = turn_from TGcf (grab full)
  attempt_own Inhibit a o = turn_from TIcf (inhibit full)
  attempt_own Release a o = turn_from TRcf release
  attempt_own (Offer r) a o = absurd (miss (0 ∷ 1 ∷ 2 ∷ 4 ∷ []) 3 tt o)
  attempt_own (Answer n) a o = absurd (miss (0 ∷ 1 ∷ 2 ∷ 3 ∷ []) 4 tt a)

  -- the confirm is that of the request: of one that is neither an answer nor an offer, and of an offer whose recipient is not found
  module _ (ask : Ask) {kind : Confirm} {t : Turned} (is_kind : kind ≡ kind_of ask) (is_turned : t ≡ attempted ask full h i) where
    confirmed : turn ts p u i k (confirm kind) t ≡ attempt_of ask
    confirmed = rw (is_kind, is_turned) refl

    pub confirms_own : (same : Ask) → ask ≡ same → OneOf (0 ∷ 1 ∷ 2 ∷ 3 ∷ []) (tag_of the_type same) → OneOf (0 ∷ 1 ∷ 2 ∷ 4 ∷ []) (tag_of the_type same)
        → turn ts p u i k (confirm kind) t ≡ asked same full us ts p u k
    confirms_own same e a o = confirmed ∙ ap attempt_of e ∙ attempt_own same a o

    pub confirms_offer : (same : Ask) (r : ℕ) → ask ≡ Offer r → same ≡ Offer r → (grabbed_by h i ≡ true → find us.ids r ≡ Nowhere)
        → turn ts p u i k (confirm kind) t ≡ asked same full us ts p u k
    unfolding kind_of attempted
    confirms_offer same r e f nobody = confirmed ∙ ap attempt_of e ∙ offer_back r nobody ∙ ap (λ (x : Ask). asked x full us ts p u k) (sym f)
