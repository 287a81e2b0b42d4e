-- Reading takes exactly the Images of good tables; equal Images are those of tables that say the same; and what the replies are. Assumes nothing.
use Rattle.std.specs.Prelude.{if◌then◌else◌}
use mathlib.Core.Path.{◌≡◌, refl, sym, ap, ap₂, ◌∙◌}
use mathlib.Core.Bool.{Bool, true, false, ◌&&◌, So, true≢false, and-false}
use mathlib.Core.List.{List, [], ◌∷◌, ◌++◌, append-nil}
use mathlib.Core.Option.{Option, none, some}
use Prim.Native.Nat.{ℕ, ◌<◌, ◌≤◌, ◌^◌}
use native.Mathlib.Omega.{arith}
use lib.Dec.{eqb, leb, ltb}
use lib.ListN.{length, get_or, drop}
use lib.Seq.{take-append_seam, drop-append_seam}
use borrow.Author.Tests.{eq-eqb, eqb-true, ltb-true, lt-ltb}
use Rattle.codec_octets.specs.Octets.{Read, got, no, octet, octets_of, number, Bytes}
use Rattle.codec_octets.proofs.OctetLaws.{bytes_behind, followed, needed}
use Rattle.cols_spec.proofs.Bools.{some_is, none≢some}
use Rattle.domain.specs.Tables.{Domain, in_range}
use Rattle.domain.specs.Effects.{settled}
use Rattle.domain.specs.Good.{Good}
use Rattle.domain_laws.specs.Same.{Role, static, user_id, assigned, private_of, Standing, nobody, grabbed, inhibited, giving, given}
use Rattle.domain_laws.specs.View.{View, view}
use Rattle.domain_laws.specs.Built.{built, takes}
use Rattle.domain.proofs.invariant.Sound.{Sound}
use Rattle.domain.proofs.invariant.GoodIsSound.{good_sound}
use Rattle.domain_laws.proofs.same.Views.{views}
use Rattle.domain_begun.specs.Begun.{begun_by}
use Rattle.domain_laws.proofs.restored.Restored.{restored as restored_again}
use Rattle.domain_laws.proofs.restored.Taken.{taken}
use Rattle.imaging.specs.Image.{limit_octets, contents, body, image, written}
use Rattle.imaging.specs.Reading.{read_contents, read_body, nothing_over, behind_length, read_image, limits_out}
use Rattle.imaging.specs.Claims.{Image, ReadExactly, Images, EqualImages, Reads, out, bad, made_or, restored, OneReading, Replies, RepliesExactly, Restarts, said_by, start_of, Writes, WriteExactly}
use Rattle.imaging.specs.Claims
use Rattle.imaging.proofs.Parts.{all_of, number_code, octet_code}
use Rattle.imaging.proofs.Rows.{FitsRole, FitsStanding, FitsView, contents_code}
use Rattle.imaging.proofs.Fitting.{RoleOf, StandingOf, crowd, users_fit, channels_fit, tokens_fit}
use Rattle.imaging.proofs.Sizes.{body_length, image_length}
use Rattle.imaging.proofs.Octets.{image_bytes}

-- ---- the lists of good tables fit

role_fit : (n : ℕ) (k : Role) → RoleOf n k → FitsRole k
role_fit n static h = tt
role_fit n user_id h = tt
role_fit n (private_of g is) h = (h.0, h.1.short)
role_fit n assigned h = tt

standing_fit : (n : ℕ) (t : Standing) → StandingOf n t → FitsStanding t
standing_fit n nobody h = h
standing_fit n (grabbed g) h = h
standing_fit n (inhibited is) h = h.short
standing_fit n (giving g r) h = h
standing_fit n (given r) h = h

view_fits : (d : Domain) → Sound d → FitsView (view d)
unfolding view
view_fits d s = record {
  links = s.links_fit;
  users = all_of (λ r h. h.0) (view d).users (users_fit d s);
  channels = all_of (λ r h. (h.0, role_fit (crowd d s) r.1.0 h.1, h.2)) (view d).channels (channels_fit d s);
  tokens = all_of (λ r h. (h.0, standing_fit (crowd d s) r.1 h.1)) (view d).tokens (tokens_fit d s);
}

-- ---- lists that are taken, as those of good tables

-- what holds of the image of all good tables holds of all lists that are taken
taken_by : (P : (View → Type 0)) → ((d : Domain) → Good d → P (view d)) → (v : View) → So (takes v) → P v
taken_by P f v t = let r = taken.0 v t in rw r.1 at (f (built v) r.0)

-- ---- what is written is read back

body_back : (v : View) → FitsView v → read_body (body v) ≡ got v []
unfolding read_body body
body_back v h = rw (← (append-nil (contents v))) (contents_code.back v h [])

body_only : (v : View) (xs os : List ℕ) → Bytes xs → read_body xs ≡ got v os → xs ≡ body v ++ os
unfolding read_body body
body_only v xs os b e =
    followed (octet xs) _ e λ n ys r s.
    needed _ 12 read_contents ys s λ t u.
    let x = octet_code.only n xs ys b r in
    x ∙ ap₂ (λ (m : ℕ) (l : List ℕ). m ∷ l) (eqb-true n 1 t) (contents_code.only v ys os (bytes_behind (n ∷ []) ys (rw x at b)) u)

read_back : (v : View) → So (takes v) → read_image (image v) ≡ some v
unfolding read_image image behind_length nothing_over
read_back v t =
    let l : length (body v) ≤ 17688 = taken_by (λ v. length (body v) ≤ 17688) (λ d g. body_length d (good_sound d g)) v t in
    let h : length (body v) < 256 ^ 4 = omega arith in
    let f : FitsView v = taken_by FitsView (λ d g. view_fits d (good_sound d g)) v t in
    ap behind_length ((number_code 4).back (length (body v)) h (body v)) ∙ rw (eq-eqb (length (body v)) (length (body v)) refl, body_back v f, t)

-- and nothing else is read
read_only : (os : List ℕ) (v : View) → Bytes os → read_image os ≡ some v → Image os v
unfolding read_image image behind_length nothing_over
read_only os v b e = go (number 4 os) refl e
  where
    last : (w : View) (n : ℕ) (xs : List ℕ) → number 4 os ≡ got n xs → n ≡ length xs → read_body xs ≡ got w [] → (t : Bool) → takes w ≡ t → (if t then some w else none) ≡ some v → Image os v
    last w n xs q l r true t e =
        let x = (number_code 4).only n os xs b q in
        let y : xs ≡ body w = body_only w xs [] (bytes_behind (octets_of 4 n) xs (rw x at b)) r ∙ append-nil (body w) in
        let z : v ≡ w = some_is e in
        rw z (record { rules = t; octets = x ∙ ap₂ (λ (m : ℕ) (l : List ℕ). octets_of 4 m ++ l) (l ∙ ap length y) y })
    last w n xs q l r false t e = absurd (none≢some e)

    inner : (n : ℕ) (xs : List ℕ) → number 4 os ≡ got n xs → n ≡ length xs → (r : Read View) → read_body xs ≡ r → nothing_over r ≡ some v → Image os v
    inner n xs q l (got w []) r e = last w n xs q l r (takes w) refl e
    inner n xs q l (got w (o ∷ rest)) r e = absurd (none≢some e)
    inner n xs q l (no m) r e = absurd (none≢some e)

    sized : (n : ℕ) (xs : List ℕ) → number 4 os ≡ got n xs → (c : Bool) → eqb n (length xs) ≡ c → (if c then nothing_over (read_body xs) else none) ≡ some v → Image os v
    sized n xs q true l e = inner n xs q (eqb-true n (length xs) l) (read_body xs) refl e
    sized n xs q false l e = absurd (none≢some e)

    go : (r : Read ℕ) → number 4 os ≡ r → behind_length r ≡ some v → Image os v
    go (got n xs) q e = sized n xs q (eqb n (length xs)) refl e
    go (no m) q e = absurd (none≢some e)

pub read_image_exactly : ReadExactly
read_image_exactly = (λ os v i. rw i.octets (read_back v i.rules), read_only)

-- ---- Images of good tables

pub all_images : Images
all_images d g = record {
  is_image = record { rules = taken.1 d g; octets = refl };
  bytes = image_bytes d (good_sound d g);
  size = image_length d (good_sound d g);
}

pub images_equal : EqualImages
images_equal d e g h = (
  λ s. ap image ((views d e g h).0 s),
  λ q. (views d e g h).1 (some_is (sym (read_back (view e) (taken.1 e h)) ∙ ap read_image (sym q) ∙ read_back (view d) (taken.1 d g))),
)

-- ---- the replies

of_good : (os : List ℕ) (d : Domain) → Good d → os ≡ image (view d) → Image os (view d)
of_good os d g e = record { rules = taken.1 d g; octets = e }

-- an image's limits are in range
view_in : (d : Domain) → Good d → in_range (view d).limits ≡ true
unfolding view
view_in d g = g.limits_ok

image_in : (os : List ℕ) (v : View) → Image os v → limits_out os ≡ false
unfolding limits_out image body contents limit_octets
image_in os v i = rw (i.octets, taken_by (λ v. in_range v.limits ≡ true) view_in v i.rules) (and-false (leb 8 (length (image v)) && eqb (get_or (image v) 4 0) 1))

-- what is computed is right
reads : (os : List ℕ) (before : Domain) → Bytes os → Reads os before (restored os before)
unfolding restored made_or
reads os before b = go (limits_out os) refl
  where
    read_so : limits_out os ≡ false → (o : Option View) → read_image os ≡ o → Reads os before (made_or o before)
    read_so l none e = bad l (λ v i. none≢some (sym e ∙ read_image_exactly.0 os v i))
    read_so l (some v) e = Claims.taken v (read_only os v b e)

    go : (c : Bool) → limits_out os ≡ c → Reads os before (if c then (10, before) else made_or (read_image os) before)
    go true l = out l
    go false l = read_so l (read_image os) refl

-- and nothing else is
one_read : (os : List ℕ) (before : Domain) → Bytes os → (r : ℕ × Domain) → Reads os before r → r ≡ restored os before
unfolding restored made_or
one_read os before b r (Claims.taken v i) = rw (image_in os v i, read_image_exactly.0 os v i)
one_read os before b r (out l) = rw l
one_read os before b r (bad l n) = rw l (go (read_image os) refl)
  where
    go : (o : Option View) → read_image os ≡ o → (12, before) ≡ made_or o before
    go none e = refl
    go (some v) e = absurd (n v (read_only os v b e))

pub reads_one : OneReading
reads_one os before b = (reads os before b, one_read os before b)

-- whatever reading gives, the reply is as said
replied : (os : List ℕ) (before : Domain) (r : ℕ × Domain) → Reads os before r → Replies os r.0
replied os before r (Claims.taken v i) =
    let t = taken.0 v i.rules in
    let e : os ≡ image (view (built v)) = i.octets ∙ ap image (sym t.1) in
    record {
      zero = (λ q. (built v, t.0, e), λ d g e. refl);
      ten = (λ q. absurd (omega arith), λ l. absurd (true≢false (sym l ∙ image_in os v i)));
      twelve = (λ q. absurd (omega arith), λ l f. absurd (f (built v) t.0 e));
    }
replied os before r (out l) = record {
  zero = (λ q. absurd (omega arith), λ d g e. absurd (true≢false (sym l ∙ image_in os (view d) (of_good os d g e))));
  ten = (λ q. l, λ l. refl);
  twelve = (λ q. absurd (omega arith), λ m f. absurd (true≢false (sym l ∙ m)));
}
replied os before r (bad l n) = record {
  zero = (λ q. absurd (omega arith), λ d g e. absurd (n (view d) (of_good os d g e)));
  ten = (λ q. absurd (omega arith), λ m. absurd (true≢false (sym m ∙ l)));
  twelve = (λ q. (l, λ d g e. n (view d) (of_good os d g e)), λ m f. refl);
}

pub reply_exactly : RepliesExactly
reply_exactly os before b = replied os before (restored os before) (reads os before b)

pub restart : Restarts
unfolding restored made_or
restart d before g =
    let i = (all_images d g).is_image in
    (rw (image_in (image (view d)) (view d) i, read_image_exactly.0 (image (view d)) (view d) i), restored_again d g)

-- a domain that was read: the image that it was read from, and what history begins with
pub reads_zero : (os : List ℕ) (before d : Domain) → Bytes os → ◌≡◌ {A = ℕ × Domain} (0, d) (restored os before) → (v : View) × Image os v × (d ≡ built v) × (start_of os ≡ begun_by v)
unfolding restored made_or start_of said_by
reads_zero os before d b e = go (limits_out os) e
  where
    inner : (o : Option View) → read_image os ≡ o → ◌≡◌ {A = ℕ × Domain} (0, d) (made_or o before) → (v : View) × Image os v × (d ≡ built v) × (said_by (read_image os) ≡ begun_by v)
    inner none r q = let z : ◌≡◌ {A = ℕ} 0 12 = ap (λ (x : ℕ × Domain). x.0) q in absurd (omega arith)
    inner (some v) r q = (v, read_only os v b r, ap (λ (x : ℕ × Domain). x.1) q, ap said_by r)

    go : (c : Bool) → ◌≡◌ {A = ℕ × Domain} (0, d) (if c then (10, before) else made_or (read_image os) before) → (v : View) × Image os v × (d ≡ built v) × (said_by (read_image os) ≡ begun_by v)
    go true q = let z : ◌≡◌ {A = ℕ} 0 10 = ap (λ (x : ℕ × Domain). x.0) q in absurd (omega arith)
    go false q = inner (read_image os) refl q

-- ---- writing

-- an image with room for it, or not
pub write : WriteExactly
unfolding written
write d room = go (ltb (length room) (length os)) refl
  where
    os : List ℕ
    os = image (view d)

    go : (c : Bool) → ltb (length room) (length os) ≡ c → Writes d room (if c then settled 9 0 d room else settled 0 (length os) d (os ++ drop (length os) room))
    go true e = record {
      nine = (λ q. ltb-true (length room) (length os) e, λ l. refl);
      untouched = λ q. (refl, refl);
      zero = λ n. absurd (n refl);
      front = λ q. absurd (omega arith);
      behind = λ q. absurd (omega arith);
      tables = refl;
    }
    go false e = record {
      nine = (λ q. absurd (omega arith), λ l. absurd (true≢false (sym (lt-ltb (length room) (length os) l) ∙ e)));
      untouched = λ q. absurd (omega arith);
      zero = λ n. refl;
      front = λ q. take-append_seam os (drop (length os) room);
      behind = λ q. drop-append_seam os (drop (length os) room);
      tables = refl;
    }
