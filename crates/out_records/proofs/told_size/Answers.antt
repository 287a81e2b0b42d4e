use mathlib.Core.Path.{ap, ◌∙◌}
use Prim.Native.Nat.{ℕ, ◌*◌}
use native.Mathlib.Nat.{mul-le-mul_left}
use native.Mathlib.Omega.{arith}
use Rattle.out_records.proofs.Telling.{size_most, size_told}
use Rattle.out_records.proofs.told_size.Goals as goal

pub overflow_mul-result : goal.overflow_mul-result
overflow_mul-result c =
    let most = size_most c.args.m.now c.record_size.result c.record_size.ensures in
    let product = mul-le-mul_left c.count_links-count.result most in
    record { fits = omega arith }

pub returns : goal.returns
returns c =
    ap (λ (k : ℕ). k * c.record_size.result) c.count_links-count.ensures
    ∙ size_told c.args.m.now c.record_size.result c.record_size.ensures c.args.mask
