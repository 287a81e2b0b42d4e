use borrow.Enum.Refused.{opened}
use Rattle.domain_tables.specs.Held.{tokens_in}
use Rattle.serve_token_rules.specs.Deeds.{fated}
use Rattle.serve_tokens.proofs.Doing.{unfated}
use Rattle.serve_tokens.proofs.keep.Goals as goal

pub returns-in-Turns : goal.returns-in-Turns
unfolding fated
returns-in-Turns c = λ e. rw (c.in-Turns.is, ← e) c.put_at.ensures

pub returns-in_default : goal.returns-in_default
returns-in_default c = λ e. unfated (tokens_in c.args.tokens.now) c.args.k c.args.fate (opened c.in_default.in_default-own.keys2)
