-- Two structs that hold the same domain are one struct, where each column has its places. Assumes nothing.
use mathlib.Core.Path.{◌≡◌, refl, sym, ap, ◌∙◌}
use mathlib.Core.List.{List, [], ◌∷◌, map}
use Prim.Native.Nat.{ℕ}
use native.Mathlib.Omega.{arith}
use lib.ListN.{length}
use Rattle.domain.specs.declared.channel.Channel.{Channel}
use Rattle.domain.specs.declared.token.Token.{Token}
use Rattle.domain.specs.Tables.{Domain as Tables, channel_cells, token_cells}
use Rattle.domain_tables.specs.Held.{domain_in}
use Rattle.domain_tables.specs.declared.Domain.{Domain}

-- the columns of the channels' and of the tokens' cells
abbrev Four : Type 0
Four = List ℕ × (List ℕ × (List ℕ × List ℕ))

abbrev channel_columns : List Channel → Four
channel_columns cs = (map (λ (c : Channel). c.role) cs, (map (λ (c : Channel). c.chair) cs, (map (λ (c : Channel). c.guests) cs, map (λ (c : Channel). c.marks) cs)))

abbrev token_columns : List Token → List ℕ × List ℕ
token_columns ts = (map (λ (t : Token). t.mode) ts, map (λ (t : Token). t.value) ts)

channels_back : (rs cs gs ms : List ℕ) → length cs ≡ length rs → length gs ≡ length rs → length ms ≡ length rs → channel_columns (channel_cells rs cs gs ms) ≡ (rs, (cs, (gs, ms)))
unfolding channel_cells
channels_back [] [] [] [] a b c = refl
channels_back [] [] [] (m ∷ ms) a b c = absurd (omega arith)
channels_back [] [] (g ∷ gs) ms a b c = absurd (omega arith)
channels_back [] (x ∷ cs) gs ms a b c = absurd (omega arith)
channels_back (r ∷ rs) [] gs ms a b c = absurd (omega arith)
channels_back (r ∷ rs) (x ∷ cs) [] ms a b c = absurd (omega arith)
channels_back (r ∷ rs) (x ∷ cs) (g ∷ gs) [] a b c = absurd (omega arith)
channels_back (r ∷ rs) (x ∷ cs) (g ∷ gs) (m ∷ ms) a b c = ap {B = Four} (λ (t : Four). (r ∷ t.0, (x ∷ t.1.0, (g ∷ t.1.1.0, m ∷ t.1.1.1)))) (channels_back rs cs gs ms (omega arith) (omega arith) (omega arith))

tokens_back : (ms vs : List ℕ) → length vs ≡ length ms → token_columns (token_cells ms vs) ≡ (ms, vs)
unfolding token_cells
tokens_back [] [] a = refl
tokens_back [] (v ∷ vs) a = absurd (omega arith)
tokens_back (m ∷ ms) [] a = absurd (omega arith)
tokens_back (m ∷ ms) (v ∷ vs) a = ap {B = List ℕ × List ℕ} (λ (t : List ℕ × List ℕ). (m ∷ t.0, v ∷ t.1)) (tokens_back ms vs (omega arith))

-- each column has a value for each place of its table
pub record Whole (d : Domain) : Type 0 where
  pub managers : length d.channels.managers ≡ length d.channels.kinds
  pub admitted : length d.members.admitted ≡ length d.channels.kinds
  pub joined : length d.members.joined ≡ length d.channels.kinds
  pub token_values : length d.tokens.values ≡ length d.tokens.states

pub one_struct : (d e : Domain) → Whole d → Whole e → domain_in d ≡ domain_in e → d ≡ e
one_struct d e w v q =
    let cs : ◌≡◌ {A = Four} (d.channels.kinds, (d.channels.managers, (d.members.admitted, d.members.joined))) (e.channels.kinds, (e.channels.managers, (e.members.admitted, e.members.joined))) =
    sym (channels_back d.channels.kinds d.channels.managers d.members.admitted d.members.joined w.managers w.admitted w.joined) ∙ ap {B = Four} (λ (t : Tables). channel_columns t.channels.cells) q ∙ channels_back e.channels.kinds e.channels.managers e.members.admitted e.members.joined v.managers v.admitted v.joined in
    let ts : ◌≡◌ {A = List ℕ × List ℕ} (d.tokens.states, d.tokens.values) (e.tokens.states, e.tokens.values) =
    sym (tokens_back d.tokens.states d.tokens.values w.token_values) ∙ ap {B = List ℕ × List ℕ} (λ (t : Tables). token_columns t.tokens.cells) q ∙ tokens_back e.tokens.states e.tokens.values v.token_values in
    λ i. record {
      limits = (q i).limits;
      links = (q i).links;
      users = record { ids = (q i).users.ids; links = (q i).users.at };
      channels = record { ids = (q i).channels.ids; kinds = (cs i).0; managers = (cs i).1.0 };
      members = record { admitted = (cs i).1.1.0; joined = (cs i).1.1.1 };
      tokens = record { ids = (q i).tokens.ids; states = (ts i).0; values = (ts i).1 };
    }
