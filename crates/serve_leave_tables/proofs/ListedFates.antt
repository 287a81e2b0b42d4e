-- Where every listed id is a user's, the channels become by the ids listed what they become by those users' places.
use Rattle.std.specs.Prelude.{if◌then◌else◌}
use mathlib.Core.Path.{◌≡◌, refl, sym, ap, ◌∙◌, fun_ext}
use mathlib.Core.Bool.{Bool, true, false, false≢true}
use mathlib.Core.List.{List}
use mathlib.Core.Option.{Option, none}
use Prim.Native.Nat.{ℕ}
use native.Mathlib.Omega.{arith}
use lib.ListN.{length}
use Rattle.cols_spec.specs.Sets.{member, has, meet, connections}
use Rattle.cols_spec.specs.Places.{Place, At, Nowhere, find, found}
use Rattle.cols_spec.proofs.Rows.{find_holds}
use Rattle.domain.specs.declared.channel.Channel.{Channel}
use Rattle.domain.specs.declared.channel.Kind.{Kind}
use Rattle.domain.specs.declared.channel.Kind.TheVariants.{Static, User, Private, Assigned}
use Rattle.domain.specs.Cells.{kind}
use Rattle.domain.specs.Tables.{Users, Channels, narrowed, sweep_channels}
use Rattle.domain.specs.Channels.{places}
use Rattle.domain.specs.Leaving.{fate, fate_of as fate_at}
use Rattle.domain.proofs.Listed.{places_has}
use Rattle.serve_leave_tables.specs.Fates.{fate_listed, fate_by}

module _ (us : Users) (sized : length us.ids ≡ 64) (list : List ℕ) (users : (u : ℕ) → member u list ≡ true → found (find us.ids u) ≡ true) (live : ℕ) where
  -- an id that is found nowhere is not listed
  unlisted : (c : ℕ) → find us.ids c ≡ Nowhere → member c list ≡ false
  unfolding found
  unlisted c e = go (member c list) refl
    where
      go : (b : Bool) → member c list ≡ b → b ≡ false
      go true q = absurd (false≢true (sym (ap found e) ∙ users c q))
      go false q = refl

  same_user : (c : ℕ) (ch : Channel) → fate_listed us list (places us list) live c ch User ≡ fate_at us (places us list) live c ch User
  unfolding fate_listed fate_at
  same_user c ch = go (find us.ids c) refl
    where
      go : (w : Place) → find us.ids c ≡ w → (if member c list then none else narrowed ch (meet connections ch.marks live))
          ≡ elim w as (λ (_ : Place). Option Channel) [ At i ↦ if has (places us list) i then none else narrowed ch (meet connections ch.marks live) | Nowhere ↦ narrowed ch (meet connections ch.marks live) ]
      go (At i) e = rw (places_has us c i e (omega (arith, find_holds us.ids c i e)) list) refl
      go Nowhere e = rw (unlisted c e) refl

  same_fate : (c : ℕ) (ch : Channel) → fate_by us list (places us list) live c ch ≡ fate us (places us list) live c ch
  unfolding fate_by fate fate_listed fate_at
  same_fate c ch = go (kind ch)
    where
      go : (k : Kind) → fate_listed us list (places us list) live c ch k ≡ fate_at us (places us list) live c ch k
      go Static = refl
      go User = same_user c ch
      go (Private g adm) = refl
      go Assigned = refl

  pub listed_fates : (cs : Channels) → sweep_channels (fate_by us list (places us list) live) cs ≡ sweep_channels (fate us (places us list) live) cs
  listed_fates cs = ap (λ (f : ℕ → Channel → Option Channel). sweep_channels f cs) (fun_ext λ c. fun_ext λ ch. same_fate c ch)
