-- Records sent whole or not at all, and the tables beside them. Assumes nothing.
use Rattle.std.specs.Prelude.{if◌then◌else◌}
use mathlib.Core.Path.{◌≡◌, refl, sym, ap, ◌∙◌}
use mathlib.Core.Bool.{Bool, true, false}
use mathlib.Core.List.{List, [], ◌∷◌, ◌++◌}
use Prim.Native.Nat.{ℕ, ◌≤◌, ◌<◌}
use native.Mathlib.Omega.{arith}
use borrow.Author.Tests.{lt-ltb, le-ltb}
use lib.Dec.{eqb, ltb}
use lib.ListN.{length, drop}
use Rattle.codec_table.specs.Named.{Message}
use Rattle.out_records.specs.Records.{Sent, to, tell, wire, record_of, records}
use Rattle.out_records.specs.Out.{Puts, guarded, told}
use Rattle.out_records.proofs.Laying.{put_fits, guarded_in}
use Rattle.out_records.proofs.Telling.{records_one, told_is}
use Rattle.serve_reply.specs.Whole.{whole}
use Rattle.domain.specs.Effects.{Settled, done, settled, delivers, settle}

-- a message went to p, or there was no room for it: reply n, with l octets
abbrev pub Told : (p : ℕ) (m : Message) (n l : ℕ) (out o : List ℕ) → Type 0
Told p m n l out o = settled {A = Unit {0}} n l tt o ≡ delivers 0 tt tt (to p m ∷ []) out

-- the octets of a message that is sent to one, and to many
module _ (m : List ℕ) (s : Message) (e : m ≡ wire s) (l : length m ≤ 1024) where
  pub one_sent : (p : ℕ) → guarded 0 m (record_of m p) ≡ records (to p s ∷ [])
  one_sent p = guarded_in 0 m (record_of m p) (omega arith) l ∙ ap (λ (x : List ℕ). record_of x p) e ∙ sym (records_one p s)

  pub many_sent : (mask : ℕ) → guarded 0 m (told mask m) ≡ records (tell mask s)
  many_sent mask = guarded_in 0 m (told mask m) (omega arith) l ∙ ap (told mask) e ∙ told_is mask s

-- a run of octets of a known size
module _ (os out : List ℕ) (n : ℕ) (size : n ≡ length os) where
  pub whole_full : length out < n → settled 9 0 tt out ≡ whole os out
  unfolding whole
  whole_full h = rw (lt-ltb (length out) (length os) (omega (arith, size))) refl

  pub whole_done : n ≤ length out → (o : List ℕ) (m : ℕ) → Puts out 0 os o m → settled 0 n tt o ≡ whole os out
  unfolding whole
  whole_done h o m p =
      let z : length os ≤ length out = omega (arith, size) in
      rw (le-ltb (length out) (length os) z, put_fits p z, size) refl

pub whole_sends : (rs : List Sent) (os out : List ℕ) → os ≡ records rs → whole os out ≡ delivers 0 tt tt rs out
unfolding whole delivers
whole_sends rs os out e = rw e refl

-- the octets of a message went to p, so the message did
pub confirmed : (s : Message) (p : ℕ) (out : List ℕ) {m : List ℕ} {n k : ℕ} {o : List ℕ} → m ≡ wire s → length m ≤ 1024
    → settled {A = Unit {0}} n k tt o ≡ whole (guarded 0 m (record_of m p)) out → Told p s n k out o
confirmed s p out {m} e l h = h ∙ whole_sends _ _ _ (one_sent m s e l p)

-- what was sent says what the tables are: as before where there was no room, else as after
module _ {A : Type 0} (a b : A) (n k : ℕ) (rs : List Sent) (out o : List ℕ) (e : settled {A = Unit {0}} n k tt o ≡ delivers 0 tt tt rs out) where
  pub sent : settled n k (if eqb n 9 then a else b) o ≡ delivers 0 a b rs out
  unfolding delivers
  sent = go (ltb (length out) (length (records rs))) e
    where
      same : (m l : ℕ) (t : List ℕ) → settled {A = Unit {0}} n k tt o ≡ settled m l tt t → settled n k (if eqb n 9 then a else b) o ≡ settled m l (if eqb m 9 then a else b) t
      same m l t q = rw (ap (λ (x : Settled (Unit {0})). x.reply) q, ap (λ (x : Settled (Unit {0})). x.sent) q, ap (λ (x : Settled (Unit {0})). x.room) q) refl

      go : (f : Bool)
          → settled {A = Unit {0}} n k tt o ≡ (if f then settled 9 0 tt out else settled 0 (length (records rs)) tt (records rs ++ drop (length (records rs)) out))
          → settled n k (if eqb n 9 then a else b) o ≡ (if f then settled 9 0 a out else settled 0 (length (records rs)) b (records rs ++ drop (length (records rs)) out))
      go true q = same 9 0 out q
      go false q = same 0 (length (records rs)) (records rs ++ drop (length (records rs)) out) q

  pub sent_refused : eqb n 9 ≡ true → settled n k a o ≡ delivers 0 a b rs out
  sent_refused h = rw h at sent

  pub sent_done : eqb n 9 ≡ false → settled n k b o ≡ delivers 0 a b rs out
  sent_done h = rw h at sent

-- where the tables do not change
pub sent_same : {A : Type 0} (a : A) (n k : ℕ) (rs : List Sent) (out o : List ℕ) → settled {A = Unit {0}} n k tt o ≡ delivers 0 tt tt rs out
    → settled n k a o ≡ delivers 0 a a rs out
sent_same a n k rs out o e = go (eqb n 9) refl
  where
    go : (f : Bool) → eqb n 9 ≡ f → settled n k a o ≡ delivers 0 a a rs out
    go true h = sent_refused a a n k rs out o e h
    go false h = sent_done a a n k rs out o e h

-- the same of an effect: its records went out, or there was no room for them
module _ {A : Type 0} {n k : ℕ} (rs : List Sent) (out : List ℕ) {o : List ℕ} (e : settled {A = Unit {0}} n k tt o ≡ delivers 0 tt tt rs out) where
  pub did_nothing : (a : A) → settled n k a o ≡ settle a (done a rs) out
  unfolding settle
  did_nothing a = sent_same a n k rs out o e

  pub did_either : (before after : A) → settled n k (if eqb n 9 then before else after) o ≡ settle before (done after rs) out
  unfolding settle
  did_either before after = sent before after n k rs out o e

  pub did_refuse : (before after : A) → eqb n 9 ≡ true → settled n k before o ≡ settle before (done after rs) out
  unfolding settle
  did_refuse before after h = sent_refused before after n k rs out o e h

  pub did : (before left after : A) → left ≡ after → eqb n 9 ≡ false → settled n k left o ≡ settle before (done after rs) out
  unfolding settle
  did before left after q h = rw q (sent_done before after n k rs out o e h)
