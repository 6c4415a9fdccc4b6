-- `sound_entries::sys_sectors` meets its contract. Assumes nothing.
use Rattle.std.proofs.Common.{◌≡◌, ◌*◌, length, ap, ◌∙◌, arith}
use Rattle.index.specs.Block.{sector_total}
use Rattle.index.proofs.ReadLaws.{read_sectors}
use Rattle.sound_entries.specs.Sys.{sys_slices}
use Rattle.sound_entries.proofs.SysLaws.{sys_few_lem, sys_small}
use Rattle.sound_entries.proofs.sys_sectors.Goals as goal

pub overflow_cast-result : goal.overflow_cast-result
overflow_cast-result c =
    let total : let a = c.args in c.sector_total_at.result ≡ a.g.slice * length (sys_slices a.image.now a.g) = let a = c.args in
    c.sector_total_at.ensures ∙ ap (sector_total a.image.now) c.requires.1
    ∙ read_sectors a.image.now a.g.first.0 a.g.slice 6 (sys_slices a.image.now a.g) (sys_few_lem c.requires.0) c.requires.0.index.pairs in
    let pre = c.requires in
    let sys = pre.0 in
    omega (arith, total, sys_small sys, sys.unit.limits.sectors)

pub returns : goal.returns
returns c =
    let total : let a = c.args in c.sector_total_at.result ≡ a.g.slice * length (sys_slices a.image.now a.g) = let a = c.args in
    c.sector_total_at.ensures ∙ ap (sector_total a.image.now) c.requires.1
    ∙ read_sectors a.image.now a.g.first.0 a.g.slice 6 (sys_slices a.image.now a.g) (sys_few_lem c.requires.0) c.requires.0.index.pairs in
    total
