use Prim.Native.Nat.{◌+◌, ◌*◌}
use Rattle.disc.specs.Map.{map_bit}
use Rattle.map.proofs.ChoiceLaws.{NoneBelow}
use Rattle.map.proofs.lowest_free.Given as goal

abbrev pub invariant-loop-w : goal.invariant-loop-w
invariant-loop-w l = NoneBelow (map_bit l.image) (16 * l.w + 1)

abbrev pub invariant-loop-b : goal.invariant-loop-b
invariant-loop-b l = NoneBelow (map_bit l.image) (16 * l.w + l.b + 1)
