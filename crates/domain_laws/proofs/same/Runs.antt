-- Tables that say the same: an equivalence; the same history of every run, the same octets, the same audiences. Assumes nothing.
use mathlib.Core.Path.{◌≡◌, refl, sym, ap, ◌∙◌}
use mathlib.Core.Bool.{So}
use mathlib.Core.List.{List, [], ◌∷◌, ◌++◌}
use Prim.Native.Nat.{ℕ}
use lib.ListN.{length, drop}
use Rattle.cols_spec.specs.Sets.{all, listed, connections}
use Rattle.cols_spec.specs.Places.{find, load}
use Rattle.cols_spec.proofs.Bools.{and_parts}
use Rattle.out_records.specs.Records.{Sent, records}
use Rattle.domain.specs.Cells.{no_channel}
use Rattle.domain.specs.Tables.{Domain, channel}
use Rattle.domain.specs.Outcomes.{audience, after, step_settled as turned_room}
use Rattle.domain.specs.Good.{Good}
use Rattle.domain.specs.History.{History, ◌▹◌}
use Rattle.domain.specs.Claims.{formed, Turn, run, now, past, next_run, goes}
use Rattle.domain_laws.specs.Same.{Same, SameEquivalence, SameRun, SameAfter, SameAudience}
use Rattle.domain.proofs.invariant.GoodIsSound.{good_sound}
use Rattle.domain.proofs.invariant.Invariant.{good_next}
use Rattle.domain_laws.proofs.same.Kinds.{ChannelWhere, there, nowhere, channels_where}
use Rattle.domain_laws.proofs.same.Steps.{steps}

pub equivalence : SameEquivalence
equivalence = (
  λ d. record { limits = refl; links = refl; users = λ u. refl; channels = λ c. refl; tokens = λ k. refl },
  λ d e x. record { limits = sym x.limits; links = sym x.links; users = λ u. sym (x.users u); channels = λ c. sym (x.channels c); tokens = λ k. sym (x.tokens k) },
  λ d e f x y. record {
    limits = x.limits ∙ y.limits;
    links = x.links ∙ y.links;
    users = λ u. x.users u ∙ y.users u;
    channels = λ c. x.channels c ∙ y.channels c;
    tokens = λ k. x.tokens k ∙ y.tokens k;
  },
)

-- from equal histories
runs_from : (ts : List Turn) → So (all (λ t. formed t.0) ts) → (d e : Domain) → Good d → Good e → Same d e → (h k : History) → h ≡ k
    → (past (goes (run d h) ts) ≡ past (goes (run e k) ts)) × Same (now (goes (run d h) ts)) (now (goes (run e k) ts))
unfolding goes all past now next_run
runs_from [] f d e g i x h k q = (q, x)
runs_from (t ∷ ts) f d e g i x h k q =
    let p = and_parts (formed t.0) (all (λ u. formed u.0) ts) f in
    let a = steps d e t.0 t.1 g i x p.0 in
    runs_from ts p.1 _ _ (good_next d g t.0 t.1 p.0) (good_next e i t.0 t.1 p.0) a.tables _ _
    (λ j. record { event = t.0; reply = a.reply j; sent = a.sent j } ▹ q j)

pub runs : SameRun
runs d e h ts g i x f = runs_from ts f d e g i x h h refl

pub audiences : SameAudience
unfolding audience load channel
audiences d e c g i x = go (channels_where d e (good_sound d g) (good_sound e i) x c)
  where
    heard : ℕ → ℕ
    heard m = length (listed connections m)

    go : ChannelWhere d.users e.users d.channels e.channels c
        → length (listed connections (load d.channels.cells (find d.channels.ids c) no_channel).marks) ≡ length (listed connections (load e.channels.cells (find e.channels.ids c) no_channel).marks)
    go (there f k m) = rw (f, k) (ap heard m.marks)
    go (nowhere f k) = rw (f, k)

pub afters : SameAfter
unfolding after turned_room
afters d e v out g i x f =
    let a = steps d e v (length out) g i x f in
    record {
      reply = a.reply;
      sent = ap (λ (rs : List Sent). length (records rs)) a.sent;
      room = ap (λ (rs : List Sent). records rs ++ drop (length (records rs)) out) a.sent;
      tables = a.tables;
    }
