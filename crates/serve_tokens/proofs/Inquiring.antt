-- A request about a token, as a request on the domain; that it is ignored where nobody asks. Assumes nothing.
use Rattle.std.specs.Prelude.{if◌then◌else◌}
use mathlib.Core.Path.{◌≡◌, sym, ap, ◌∙◌}
use mathlib.Core.Bool.{Bool, true, false}
use mathlib.Core.List.{List}
use Prim.Native.Nat.{ℕ, ◌%◌}
use lib.Dec.{eqb, ltb}
use Rattle.cols_spec.specs.Places.{Nowhere}
use Rattle.codec_table.specs.Named.{Message, TGrq, TIrq, TVrq, TVrs, TRrq, TPrq, TTrq}
use Rattle.domain.specs.Tables.{Tokens, Domain, put_tokens, attached}
use Rattle.domain.specs.Effects.{Effect, ignored, within, settled, settle}
use Rattle.domain.specs.Passing.{please, test}
use Rattle.domain.specs.Events.{act, tokens_full}
use Rattle.domain.proofs.Requesting.{within_settled}
use Rattle.serve_read.specs.Requests.{pass_request, token_request}
use Rattle.serve_token_rules.specs.declared.Ask.{Ask}
use Rattle.serve_token_rules.specs.declared.Ask.TheVariants.{Grab, Inhibit, Release, Offer, Answer}
use Rattle.serve_token_rules.specs.Deeds.{asked}
use Rattle.serve_reply.proofs.Initiators.{from_nobody}
use Rattle.serve_token_rules.proofs.Deciding.{asked_nowhere}

-- what is asked for is a request on the tokens of the domain
pub asked_of : (d : Domain) (new p : ℕ) (m : Message) (out : List ℕ) {n k : ℕ} {o : List ℕ} {t : Tokens} (x : Effect Tokens) → settled n k t o ≡ settle d.tokens x out
    → act new d p m ≡ within (put_tokens d) x → settled n k (put_tokens d t) o ≡ settle d (act new d p m) out
asked_of d new p m out x e f = within_settled (put_tokens d) d.tokens x out e ∙ ap (λ (y : Effect Domain). settle d y out) (sym f)

module _ (new : ℕ) (d : Domain) (p n u k more : ℕ) where
  -- nobody is attached there who could ask
  pub ignored_to : attached d.users p u ≡ Nowhere → act new d p (token_request n u k more) ≡ within (put_tokens d) ignored
  unfolding token_request pass_request act tokens_full test please
  ignored_to h = go (ltb 40 n) (eqb n 37) (eqb n 29) (eqb n 31) (eqb n 33) (eqb n 35)
    where
      none : (ask : Ask) → within (put_tokens d) (asked ask (tokens_full d) d.users d.tokens p u k) ≡ within (put_tokens d) ignored
      none ask = ap (within (put_tokens d)) (asked_nowhere ask (tokens_full d) d.users d.tokens p u k h)

      go : (x y r s t v : Bool)
          → act new d p (if x then TTrq u k else if y then TPrq u k else if r then TGrq u k else if s then TIrq u k else if t then TVrq u k more else if v then TVrs (more % 16) u k else TRrq u k)
          ≡ within (put_tokens d) ignored
      go true y r s t v = ap (within (put_tokens d)) (from_nobody d.users p u _ h)
      go false true r s t v = ap (within (put_tokens d)) (from_nobody d.users p u _ h)
      go false false true s t v = none Grab
      go false false false true t v = none Inhibit
      go false false false false true v = none (Offer more)
      go false false false false false true = none (Answer (more % 16))
      go false false false false false false = none Release
