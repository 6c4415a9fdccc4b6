-- The law of the reciprocal: a product with it, divided by 65,536, is the quotient of a number that the divisor divides.
use Rattle.std.proofs.Common.{◌≡◌, ℕ, ◌+◌, ◌-◌, ◌*◌, ◌/◌, ◌<◌, ◌≤◌, ap, ◌∙◌, mod-lt, mul_assoc, mul_comm, mul-le-mul_left, div-add-mod', mul-add, arith}

-- s times its reciprocal is 65,536 and e more, with e at most s; so c slices' sectors times it are c times 65,536 and c times e more,
-- which is at most the sectors and below 65,536
pub by_reciprocal : (s c : ℕ) → 2 ≤ s → c * s < 65536 → c * s * (65536 / s + 1) / 65536 ≡ c
by_reciprocal s c low few =
    let R = 65536 / s + 1 in
    let e = s * R - 65536 in
    let whole : s * R ≡ 65536 + e = omega (arith, div-add-mod' 65536 s, mod-lt 65536 {m = s} (omega arith), mul-add s (65536 / s) 1, mul_comm s (65536 / s)) in
    let small : e ≤ s = omega (arith, div-add-mod' 65536 s, mul-add s (65536 / s) 1, mul_comm s (65536 / s)) in
    let product : c * s * R ≡ c * 65536 + c * e = mul_assoc c s R ∙ ap (λ (n : ℕ). c * n) whole ∙ mul-add c 65536 e in
    omega (arith, product, mul-le-mul_left c small)
