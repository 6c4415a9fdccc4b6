-- `grow::grow` meets its contract. Assumes nothing.
use mathlib.Core.Path.{refl, ap}
use Prim.Native.Nat.{ℕ, ◌*◌}
use native.Mathlib.Omega.{arith}
use Rattle.grow.proofs.GrowLaws.{layers_small, blocks_small, reserved_small, slices_small, never_nothing, place_inside, can_count, grown_from, grown_numbers}
use Rattle.grow.proofs.grow.Goals as goal

pub returns-in_default : goal.returns-in_default
returns-in_default c =
    absurd (never_nothing c.requires.can c.sys_name.ensures.packed c.find_name.ensures c.in_default.is)

pub overflow_add-layers : goal.overflow_add-layers
overflow_add-layers c =
    omega (arith, layers_small c.requires.can)

pub overflow_cast-reserved : goal.overflow_cast-reserved
overflow_cast-reserved c =
    omega (arith, c.slices_for.ensures, slices_small c.requires.can)

pub overflow_mul-reserved : goal.overflow_mul-reserved
overflow_mul-reserved c =
    omega (arith, ap (λ (n : ℕ). c.args.unit.slice * n) c.slices_for.ensures, reserved_small c.requires.can)

pub overflow_mul-unit : goal.overflow_mul-unit
overflow_mul-unit c =
    omega (arith, blocks_small c.requires.can)

pub enter_sys-requires : goal.enter_sys-requires
enter_sys-requires c =
    place_inside c.requires.can c.sys_name.ensures.packed c.find_name.ensures c.in-Some.is
    c.add_layer.ensures

pub count_free-requires : goal.count_free-requires
count_free-requires c =
    can_count c.requires.can c.sys_name.ensures.packed c.find_name.ensures c.in-Some.is c.add_layer.ensures c.enter_sys.ensures refl
    (ap (λ (n : ℕ). c.args.unit.slice * n) c.slices_for.ensures)

-- SYS is entered
pub returns : goal.returns
returns c =
    record {
      all = λ p can. (
        grown_from can c.sys_name.ensures.packed c.find_name.ensures c.in-Some.is c.add_layer.ensures c.enter_sys.ensures refl
            (ap (λ (n : ℕ). c.args.unit.slice * n) c.slices_for.ensures) c.count_free.ensures,
        grown_numbers can _ c.with_layers.ensures,
      );
    }
