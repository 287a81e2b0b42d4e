-- The rows of an image, and its contents, are written and read back, and nothing else is read. Assumes nothing.
use mathlib.Core.Path.{◌≡◌, refl, ap, ◌∙◌}
use mathlib.Core.List.{List, ◌++◌}
use Prim.Native.Nat.{ℕ, zero, suc, ◌<◌, ◌^◌}
use lib.Dec.{leb}
use Rattle.codec_octets.specs.Octets.{got, give, octet, number, Bytes}
use Rattle.codec_octets.proofs.OctetLaws.{refused, followed, needed, go_on}
use Rattle.cols_spec.specs.Sets.{all, listed, those, member}
use Rattle.domain.specs.declared.Limits.{Limits}
use Rattle.domain.specs.Outcomes.{limited}
use Rattle.domain_laws.specs.Same.{Role, static, user_id, assigned, private_of, Standing, nobody, grabbed, inhibited, giving, given}
use Rattle.domain_laws.specs.View.{View}
use Rattle.imaging.specs.Image.{two, user_row, kind_number, club, channel_row, state_number, parties, token_row, limit_octets, link_rows, contents}
use Rattle.imaging.specs.Reading.{read_rows, read_user, read_club, read_channel, read_parties, read_token, read_limits, upward, read_links, read_contents}
use Rattle.cols_spec.proofs.Bools.{and_parts}
use Rattle.imaging.proofs.Links.{listed_upward, listed_low, mask_back, list_back}
use Rattle.imaging.proofs.Parts.{Code, Rest, rest_last, unknown, rest_part, whole, one_back, one_only, two_back, two_only, number_code, octet_code, All, any_of, rows_code}

-- two octets hold it
abbrev pub FitsTwo : ℕ → Type 0
FitsTwo n = n < 65536

two_code : Code FitsTwo two (number 2)
two_code = number_code 2

-- ---- users

user_code : Code (λ (r : ℕ × ℕ). FitsTwo r.0) user_row read_user
unfolding user_row read_user
user_code = whole (rest_part _ (λ r. r.0) _ two_code (λ r h. h) (rest_last _ (λ r. r.1) (λ p a. (p.1, a)) (λ p. tt) (unknown octet_code) (λ r h. tt) (λ v. (refl, refl)) (λ p a e. (refl, refl))))

-- ---- channels

-- the ids of a private channel fit two octets
abbrev pub FitsRole : Role → Type 0
FitsRole static = Unit {0}
FitsRole user_id = Unit {0}
FitsRole (private_of g is) = FitsTwo g × All FitsTwo is
FitsRole assigned = Unit {0}

-- a reader that takes no octet gives its value and the octets as they were
gave : {A : Type 0} {a b : A} {xs os : List ℕ} → got a xs ≡ got b os → (a ≡ b) × (xs ≡ os)
gave e = (cc, cc)

-- what follows a channel's kind and marks, where the kind is known
club_rest : Rest kind_number FitsRole club read_club
unfolding kind_number club read_club
club_rest = record { back = back; only = only }
  where
    back : (r : Role) → FitsRole r → (os : List ℕ) → read_club (kind_number r) (club r ++ os) ≡ got r os
    back static h os = refl
    back user_id h os = refl
    back (private_of g is) h os = two_back two_code (rows_code two_code) private_of g is h.0 h.1 os
    back assigned h os = refl

    only : (k : ℕ) (r : Role) (xs os : List ℕ) → Bytes xs → read_club k xs ≡ got r os → (kind_number r ≡ k) × (xs ≡ club r ++ os)
    only zero r xs os b e = let z = gave e in rw (← z.0) (refl, z.1)
    only (suc zero) r xs os b e = let z = gave e in rw (← z.0) (refl, z.1)
    only (suc (suc zero)) r xs os b e = let z = two_only two_code (rows_code two_code) private_of r xs os b e in rw (← z.2) (refl, z.3)
    only (suc (suc (suc zero))) r xs os b e = let z = gave e in rw (← z.0) (refl, z.1)
    only (suc (suc (suc (suc n)))) r xs os b e = absurd (refused e)

channel_code : Code (λ (r : ℕ × (Role × ℕ)). FitsTwo r.0 × FitsRole r.1.0 × FitsTwo r.1.1) channel_row read_channel
unfolding channel_row read_channel
channel_code =
    whole (rest_part _ (λ r. r.0) _ two_code (λ r h. h.0) (rest_part _ (λ r. kind_number r.1.0) _ octet_code (λ r h. tt) (rest_part _ (λ r. r.1.1) _ two_code (λ r h. h.2)
    (rest_last _ (λ r. r.1.0) (λ p a. (p.0.0.1, (a, p.1))) (λ p. p.0.1) club_rest (λ r h. h.1) (λ v. (refl, refl))
    (λ p a e. (ap (λ (k : ℕ). (((tt, p.0.0.1), k), p.1)) e, refl))))))

-- ---- tokens

-- the ids of a token's users fit two octets; a token that nobody has is not written
abbrev pub FitsStanding : Standing → Type 0
FitsStanding nobody = ⊥
FitsStanding (grabbed g) = FitsTwo g
FitsStanding (inhibited is) = All FitsTwo is
FitsStanding (giving g r) = FitsTwo g × FitsTwo r
FitsStanding (given r) = FitsTwo r

-- what follows a token's state, where the state is known
parties_rest : Rest state_number FitsStanding parties read_parties
unfolding state_number parties read_parties
parties_rest = record { back = back; only = only }
  where
    back : (s : Standing) → FitsStanding s → (os : List ℕ) → read_parties (state_number s) (parties s ++ os) ≡ got s os
    back nobody h os = absurd h
    back (grabbed g) h os = one_back two_code grabbed g h os
    back (inhibited is) h os = one_back (rows_code two_code) inhibited is h os
    back (giving g r) h os = two_back two_code two_code giving g r h.0 h.1 os
    back (given r) h os = one_back two_code given r h os

    only : (k : ℕ) (s : Standing) (xs os : List ℕ) → Bytes xs → read_parties k xs ≡ got s os → (state_number s ≡ k) × (xs ≡ parties s ++ os)
    only zero s xs os b e = absurd (refused e)
    only (suc zero) s xs os b e = let z = one_only two_code grabbed s xs os b e in rw (← z.1) (refl, z.2)
    only (suc (suc zero)) s xs os b e = let z = one_only (rows_code two_code) inhibited s xs os b e in rw (← z.1) (refl, z.2)
    only (suc (suc (suc zero))) s xs os b e = let z = two_only two_code two_code giving s xs os b e in rw (← z.2) (refl, z.3)
    only (suc (suc (suc (suc zero)))) s xs os b e = let z = one_only two_code given s xs os b e in rw (← z.1) (refl, z.2)
    only (suc (suc (suc (suc (suc n))))) s xs os b e = absurd (refused e)

token_code : Code (λ (r : ℕ × Standing). FitsTwo r.0 × FitsStanding r.1) token_row read_token
unfolding token_row read_token
token_code =
    whole (rest_part _ (λ r. r.0) _ two_code (λ r h. h.0) (rest_part _ (λ r. state_number r.1) _ octet_code (λ r h. tt)
    (rest_last _ (λ r. r.1) (λ p a. (p.0.1, a)) (λ p. p.1) parties_rest (λ r h. h.1) (λ v. (refl, refl)) (λ p a e. (ap (λ (k : ℕ). ((tt, p.0.1), k)) e, refl)))))

-- ---- limits

limits_code : Code (λ (l : Limits). Unit {0}) limit_octets read_limits
unfolding limit_octets read_limits
limits_code =
    whole (rest_part _ (λ l. l.channels) _ octet_code (λ l h. tt) (rest_part _ (λ l. l.users) _ octet_code (λ l h. tt)
    (rest_last _ (λ l. l.tokens) (λ p a. limited p.0.1 p.1 a) (λ p. tt) (unknown octet_code) (λ l h. tt) (λ v. (refl, refl)) (λ p a e. (refl, refl)))))

-- ---- open connections

links_code : Code (λ (m : ℕ). m < 2 ^ 16) link_rows read_links
unfolding link_rows read_links
links_code = record {
  back = λ m h os. go_on _ ((rows_code octet_code).back (listed 16 m) (any_of (λ q. tt) (listed 16 m)) os)
      ∙ rw (listed_upward m, listed_low m) (ap (λ (n : ℕ). got n os) (mask_back m h));
  only = λ m xs os b e. followed (read_rows octet xs) _ e λ qs ys r s.
      needed _ 12 (give (those 16 λ q. member q qs)) ys s λ t u.
      let a = and_parts (upward qs) (all (λ q. leb q 15) qs) t in
      let z : those 16 (λ q. member q qs) ≡ m = cc in
      let w : ys ≡ os = cc in
      rw (← w, ← z, list_back qs a.0 a.1) ((rows_code octet_code).only qs xs ys b r);
}

-- ---- the contents

-- lists whose numbers fit their octets
pub record FitsView (v : View) : Type 0 where
  pub links : v.links < 2 ^ 16
  pub users : All (λ (r : ℕ × ℕ). FitsTwo r.0) v.users
  pub channels : All (λ (r : ℕ × (Role × ℕ)). FitsTwo r.0 × FitsRole r.1.0 × FitsTwo r.1.1) v.channels
  pub tokens : All (λ (r : ℕ × Standing). FitsTwo r.0 × FitsStanding r.1) v.tokens

pub contents_code : Code FitsView contents read_contents
unfolding contents read_contents
contents_code =
    whole (rest_part _ (λ v. v.limits) _ limits_code (λ v h. tt) (rest_part _ (λ v. v.links) _ links_code (λ v h. h.links) (rest_part _ (λ v. v.users) _ (rows_code user_code) (λ v h. h.users)
    (rest_part _ (λ v. v.channels) _ (rows_code channel_code) (λ v h. h.channels)
    (rest_last _ (λ v. v.tokens) (λ p a. record { limits = p.0.0.0.1; links = p.0.0.1; users = p.0.1; channels = p.1; tokens = a }) (λ p. tt)
    (unknown (rows_code token_code)) (λ v h. h.tokens) (λ v. (refl, refl)) (λ p a e. (refl, refl)))))))
