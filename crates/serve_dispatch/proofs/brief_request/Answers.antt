use mathlib.Core.Path.{refl}
use native.Mathlib.Omega.{arith}
use borrow.Author.Rules.{rules}
use Rattle.codec_table.specs.Named.{AUrq}
use Rattle.domain.proofs.Lending.{request, put_back}
use Rattle.serve_read.specs.Requests.{brief_request}
use Rattle.serve_dispatch.proofs.brief_request.Goals as goal

-- an AUrq, on any limit of users equal to the domain's
pub returns-in-10 : goal.returns-in-10
unfolding brief_request
returns-in-10 c = rw c.in-10.is (put_back (request c.args.p AUrq c.args.out.now) _ _ (search rules) refl refl (omega arith) (λ h. omega (arith, h)))
