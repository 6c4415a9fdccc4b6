-- `sound_names::names_sound` meets its contract. Assumes nothing.
use Rattle.std.proofs.Common.{◌≡◌, refl, ap, arith}
use Rattle.disc.specs.Kit.{sys_index_sector}
use Rattle.catalog.specs.declared.Catalog.{Catalog}
use Rattle.sound_entries.proofs.SysLaws.{sys_small}
use Rattle.sound_names.proofs.SoundLaws.{not_sound, judged_entered}
use Rattle.sound_names.proofs.names_sound.Goals as goal

pub overflow_mul-expected : goal.overflow_mul-expected
overflow_mul-expected c = let sys = c.requires in record { fits = omega (arith, sys.room, sys_small sys.sys, sys.sys.unit.limits.sectors) }

pub returns-then-places_sound : goal.returns-then-places_sound
returns-then-places_sound c =
    -- SYS's index block is in sector 6
    let own_index : c.args.sys.index.0 ≡ sys_index_sector = ap (λ (x : Catalog). x.index.0) c.requires.is in
    judged_entered c.args.image.now c.args.g c.args.sys.layers _ own_index refl c.sys_sectors.ensures c.places_sound.ensures c.if-places_sound.true c.system_entered.ensures

pub returns-else-places_sound : goal.returns-else-places_sound
returns-else-places_sound c =
    let own_index : c.args.sys.index.0 ≡ sys_index_sector = ap (λ (x : Catalog). x.index.0) c.requires.is in
    rw c.if-places_sound.false (not_sound c.args.image.now c.args.g c.args.sys.layers _ own_index refl c.sys_sectors.ensures c.places_sound.ensures c.if-places_sound.false)
