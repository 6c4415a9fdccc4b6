-- The slices that the messages take, and the units and files that they make with them.
use Rattle.std.specs.Prelude.{List, [], ◌++◌, ℕ, suc}
use Rattle.disc.specs.Numbers.{need}
use Rattle.disc.specs.OneStretch.{taken_for_file}
use Rattle.disc.specs.Catalog.{Catalog}
use Rattle.plain.specs.Unit.{Plain, File, M, held, with_tables, sys_of}
use Rattle.plain.specs.Taking.{taking, zero_sectors}
use Rattle.plain.specs.Transput.{slices_to_take}

-- The slices that a catalog takes for one layer more.
abbrev pub layer_of : Plain → Catalog → List ℕ
layer_of p c = (taking p c (suc c.layers) [] 0).catalog_new

-- Those that SYS takes, and the unit then.
abbrev pub layer_slices : Plain → List ℕ
layer_slices p = layer_of p (sys_of p)

abbrev pub grown_unit : Plain → Plain
grown_unit p = with_tables p (suc p.layers) (p.sys ++ layer_slices p) p.files p.areas

-- A file of `size` zero sectors with these slices, all booked.
abbrev pub file_with : Plain → ℕ → ℕ → List ℕ → List ℕ → List ℕ → File
file_with p size attributes optional tail slices = record {
  attributes = attributes;
  optional = optional;
  tail = tail;
  booked = size;
  booked_slices = need p.s size;
  slices = slices;
  sectors = zero_sectors size;
}

-- The new file of Create and Set, with the slices that it takes in the unit p.
abbrev pub new_file_of : Plain → ℕ → ℕ → List ℕ → List ℕ → File
new_file_of p size attributes optional tail = file_with p size attributes optional tail (taken_for_file (M p) (held p) [] (need p.s size))

-- The slices that Output at the live length of file f takes: one, or none.
abbrev pub append_slices : Plain → File → List ℕ
append_slices p f = taken_for_file (M p) (held p) f.slices (slices_to_take p.s f)
