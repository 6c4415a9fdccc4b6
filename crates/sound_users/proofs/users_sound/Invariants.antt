use Prim.Native.Nat.{ℕ, ◌<◌}
use Rattle.types.specs.State.{area_at, IsOpen}
use Rattle.sound_users.specs.Rules.{LegalArea}
use Rattle.sound_users.proofs.users_sound.Given as goal

abbrev pub invariant-loop-j : goal.invariant-loop-j
invariant-loop-j l = (k : ℕ) → k < l.j → IsOpen l.fn.state k → LegalArea l.fn.state (area_at l.fn.state k) k
