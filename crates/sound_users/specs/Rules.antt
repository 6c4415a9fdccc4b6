-- The rules about users in the parts in which they are decided: one entry, two entries, one open descriptor.
use Rattle.std.specs.Prelude.{◌≡◌, Bool, true, false, ℕ, ◌≤◌, Some}
use Rattle.types.specs.declared.Role.{Role}
use Rattle.types.specs.declared.Role.TheVariants.{Sharing, ExclusiveWriter, ExclusiveUser}
use Rattle.types.specs.declared.User.{User}
use Rattle.types.specs.declared.Area.{Area}
use Rattle.types.specs.declared.State.{State}
use Rattle.sound.specs.State.{area_name, LegalUsers}
use Rattle.state.specs.Areas.{area_named}

-- "Users .. not 0": an entry with identification 0 is vacant and has no rule.
abbrev pub Taken : User → Type 0
Taken user = user.id ≡ 0 → ⊥

-- "Open counts 1 to 65,535, positions 0 to the live length."
pub record LegalUser (live : ℕ) (user : User) : Type 0 where
  pub opens_low : Taken user → 1 ≤ user.opens
  pub opens_high : Taken user → user.opens ≤ 65535
  pub inside : Taken user → user.position.0 ≤ live

-- "An exclusive user is the only user, and at most one is exclusive writer": may two users have these roles?
abbrev pub roles_agree : Role → Role → Bool
roles_agree Sharing Sharing = true
roles_agree Sharing ExclusiveWriter = true
roles_agree Sharing ExclusiveUser = false
roles_agree ExclusiveWriter Sharing = true
roles_agree ExclusiveWriter ExclusiveWriter = false
roles_agree ExclusiveWriter ExclusiveUser = false
roles_agree ExclusiveUser role = false

-- Two entries of one area: "users distinct", and roles that agree.
pub record LegalPair (a b : User) : Type 0 where
  pub distinct : Taken a → Taken b → a.id ≡ b.id → ⊥
  pub roles : Taken a → Taken b → roles_agree a.role b.role ≡ true

-- Open descriptor j: "area names are distinct", so it is the first of its name; and its users.
pub record LegalArea (state : State) (area : Area) (j : ℕ) : Type 0 where
  pub first : area_named (area_name area) state ≡ Some j
  pub users : LegalUsers area
