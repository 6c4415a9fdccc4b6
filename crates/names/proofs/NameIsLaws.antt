-- Laws of `NameIs`: at most one name is a number's, and its words are the number's words.
use mathlib.Core.Path.{◌≡◌, sym, ◌∙◌}
use Prim.Native.Nat.{ℕ}
use Rattle.types.specs.declared.Name.{Name}
use Rattle.disc.proofs.NameLaws.{pack_injective}
use Rattle.names.specs.NameIs.{NameIs}

pub name_is_unique : {a b : Name} {n : ℕ} → NameIs a n → NameIs b n → (a.0 ≡ b.0) × (a.1 ≡ b.1) × (a.2 ≡ b.2)
name_is_unique {a} {b} j k =
    pack_injective a.0 a.1 a.2 b.0 b.1 b.2 j.second j.third k.second k.third (j.packed ∙ sym k.packed)
