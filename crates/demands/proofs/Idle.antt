-- A sector that the unit does not use is none of those that a message writes.
use mathlib.Core.Path.{◌≡◌, ap, ◌∙◌}
use mathlib.Core.Logic.{◌≢◌}
use mathlib.Core.Option.{some}
use Prim.Native.Nat.{ℕ, ◌+◌, ◌-◌, ◌*◌, ◌/◌, ◌≤◌, ◌<◌}
use native.Mathlib.Omega.{arith}
use Rattle.disc.specs.Stretches.{sector_in, sys_from, file_from}
use Rattle.disc.specs.Kit.{sys_index_sector, kit_sector, map_sector}
use Rattle.disc.specs.Entries.{place_count}
use Rattle.disc.specs.Catalog.{place_sector}
use Rattle.plain.specs.Table.{table_find}
use Rattle.plain.specs.Unit.{Plain, File, sys_of}
use Rattle.demands.specs.Slack.{system, catalog, index, block, Idle}
use Rattle.demands.proofs.MessageFrames.{Off, OffIndex}

module _ {p : Plain} {q : ℕ} (idle : Idle p q) where
  pub idle_system : (x : ℕ) → sys_index_sector ≤ x → x ≤ map_sector → q ≢ x
  idle_system x a b e = idle (system (omega arith) (omega arith))

  pub idle-map : q ≢ map_sector
  idle-map = idle_system map_sector (omega arith) (omega arith)

  pub idle_kit : q ≢ kit_sector
  idle_kit = idle_system kit_sector (omega arith) (omega arith)

  -- SYS's blocks as joined sectors
  pub idle_sys : (b : ℕ) → b < p.H * p.layers → q ≢ sector_in p.F p.s p.sys b
  idle_sys b h e = let z : b ≡ b + sys_from = omega arith in idle (catalog b h (e ∙ ap (sector_in p.F p.s p.sys) z))

  pub idle_place : (t : ℕ) → t < place_count p.H p.layers → q ≢ place_sector p.F p.s (sys_of p) t
  idle_place t h e = idle (catalog (t / 16) (omega arith) e)

  module _ (n : ℕ) (f : File) (found : table_find n p.files ≡ some f) where
    pub idle_off : Off p f q
    idle_off = record {
      map = idle-map;
      kit = idle_kit;
      place = idle_place;
      joined = λ x lo hi d. let z : x ≡ x - 1 + file_from = omega arith in idle (block n f found (x - 1) (omega arith) (d ∙ ap (sector_in p.F p.s f.slices) z));
    }

    pub idle_index : OffIndex p f q
    idle_index h e = idle (index n f found h e)
