-- The unit that Format makes: "SYS (L = 1, 'SYS' entered before 'MAP')", and nothing else.
use Rattle.std.specs.Prelude.{List, [], ℕ}
use Rattle.disc.specs.Numbers.{ceil_div}
use Rattle.disc.specs.Stretches.{span}
use Rattle.plain.specs.Unit.{Plain}

-- "SYS has .. H times L / s slices, rounded up, slice 1 first", for L = 1: slices 1, 2 and so on.
abbrev pub sys_slices : ℕ → ℕ → List ℕ
sys_slices H s = span 1 (ceil_div H s)

-- The unit after Format: one layer, no file, no area.
abbrev pub fresh_unit : ℕ → ℕ → ℕ → ℕ → ℕ → Plain
fresh_unit unit H s F N =
    record { unit = unit; H = H; s = s; F = F; N = N; layers = 1; sys = sys_slices H s; files = []; areas = [] }
