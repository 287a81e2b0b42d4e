-- A request on part of the tables, as a request on the domain. Assumes nothing.
use Rattle.std.specs.Prelude.{if◌then◌else◌}
use mathlib.Core.Path.{◌≡◌, refl, sym, ap, ◌∙◌}
use mathlib.Core.Bool.{Bool, true, false}
use mathlib.Core.List.{List, ◌++◌}
use Prim.Native.Nat.{ℕ}
use lib.Dec.{ltb}
use lib.ListN.{length, drop}
use Rattle.codec_table.specs.Named.{Message}
use Rattle.out_records.specs.Records.{records}
use Rattle.domain.specs.declared.Limits.{Limits}
use Rattle.domain.specs.Tables.{Users, Channels, Tokens, Domain, put_channels, put_tokens, put_both}
use Rattle.domain.specs.Effects.{Effect, ignored, done, within, Settled, settled, delivers, settle}
use Rattle.domain.specs.Events.{act}

-- the domain of its tables
abbrev pub assembled : (l : Limits) (m : ℕ) (us : Users) (cs : Channels) (ts : Tokens) → Domain
assembled l m us cs ts = record { limits = l; links = m; users = us; channels = cs; tokens = ts }

-- the same answer, of tables that hold others too
module _ {A B : Type 0} (put : A → B) where
  also : Settled A → Settled B
  also s = settled s.reply s.sent (put s.tables) s.room

  also_settled : (a : A) (x : Effect A) (out : List ℕ) → also (settle a x out) ≡ settle (put a) (within put x) out
  unfolding also settle within delivers
  also_settled a ignored out = refl
  also_settled a (done b rs) out = go (ltb (length out) (length (records rs)))
    where
      go : (f : Bool) → also (if f then settled 9 0 a out else settled 0 (length (records rs)) b (records rs ++ drop (length (records rs)) out))
          ≡ (if f then settled 9 0 (put a) out else settled 0 (length (records rs)) (put b) (records rs ++ drop (length (records rs)) out))
      go true = refl
      go false = refl

  pub within_settled : {n k : ℕ} {b : A} {o : List ℕ} (a : A) (x : Effect A) (out : List ℕ) → settled n k b o ≡ settle a x out
      → settled n k (put b) o ≡ settle (put a) (within put x) out
  unfolding also
  within_settled a x out e = ap also e ∙ also_settled a x out

-- where the request is of one table
module _ (l : Limits) (m : ℕ) (us : Users) (cs : Channels) (ts : Tokens) (new p : ℕ) (q : Message) (out : List ℕ) where
  of_domain : (x : Effect Domain) → act new (assembled l m us cs ts) p q ≡ x → settle (assembled l m us cs ts) x out ≡ settle (assembled l m us cs ts) (act new (assembled l m us cs ts) p q) out
  of_domain x f = ap (λ (y : Effect Domain). settle (assembled l m us cs ts) y out) (sym f)

  pub on_tokens : {n k : ℕ} {o : List ℕ} {t : Tokens} (x : Effect Tokens) → settled n k t o ≡ settle ts x out → act new (assembled l m us cs ts) p q ≡ within (put_tokens (assembled l m us cs ts)) x
      → settled n k (assembled l m us cs t) o ≡ settle (assembled l m us cs ts) (act new (assembled l m us cs ts) p q) out
  on_tokens x e f = within_settled (put_tokens (assembled l m us cs ts)) ts x out e ∙ of_domain _ f

  pub on_channels : {n k : ℕ} {o : List ℕ} {c : Channels} (x : Effect Channels) → settled n k c o ≡ settle cs x out → act new (assembled l m us cs ts) p q ≡ within (put_channels (assembled l m us cs ts)) x
      → settled n k (assembled l m us c ts) o ≡ settle (assembled l m us cs ts) (act new (assembled l m us cs ts) p q) out
  on_channels x e f = within_settled (put_channels (assembled l m us cs ts)) cs x out e ∙ of_domain _ f

  pub on_both : {n k : ℕ} {o : List ℕ} {u : Users} {c : Channels} (x : Effect (Users × Channels)) → settled {A = Users × Channels} n k (u, c) o ≡ settle (us, cs) x out
      → act new (assembled l m us cs ts) p q ≡ within (put_both (assembled l m us cs ts)) x
      → settled n k (assembled l m u c ts) o ≡ settle (assembled l m us cs ts) (act new (assembled l m us cs ts) p q) out
  on_both x e f = within_settled {A = Users × Channels} (put_both (assembled l m us cs ts)) (us, cs) x out e ∙ of_domain _ f
