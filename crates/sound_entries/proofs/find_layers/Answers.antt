-- `sound_entries::find_layers` meets its contract. Assumes nothing.
use Rattle.std.proofs.Common.{◌≡◌, ℕ, ◌+◌, ◌-◌, ◌*◌, ◌/◌, refl, ap, ◌∙◌, div-mul-le_self, arith}
use Rattle.catalog.specs.declared.Catalog.{Catalog}
use Rattle.catalog.specs.Catalog.{sys_value}
use Rattle.sound_entries.specs.Names.{full_sys}
use Rattle.sound_entries.proofs.LayerLaws.{layers_none, layers_part, layers_other, layers_found}
use Rattle.sound_entries.proofs.find_layers.Goals as goal

pub find-requires : goal.find-requires
find-requires c =
    omega (arith, ap (λ (x : Catalog). x.keys) c.sys-full.ensures, c.requires.unit.limits.keys_low)

pub returns-in_default : goal.returns-in_default
returns-in_default c =
    -- the catalog that is searched
    let full : let a = c.args in c.sys-full.result ≡ full_sys a.image.now a.g = let a = c.args in
    let keys = a.g.keys in
    c.sys-full.ensures ∙ ap (λ (n : ℕ). sys_value keys (n / keys)) c.sys_sectors-reserved.ensures in
    layers_none c.requires full c.sys_name.ensures.packed c.find.ensures c.in_default.is

pub overflow_mul-layers : goal.overflow_mul-layers
overflow_mul-layers c =
    omega (arith, div-mul-le_self c.entry_word-size.result c.args.g.keys)

pub returns-then-layers-keys : goal.returns-then-layers-keys
returns-then-layers-keys c =
    let full : let a = c.args in c.sys-full.result ≡ full_sys a.image.now a.g = let a = c.args in
    let keys = a.g.keys in
    c.sys-full.ensures ∙ ap (λ (n : ℕ). sys_value keys (n / keys)) c.sys_sectors-reserved.ensures in
    layers_part c.requires full c.sys_name.ensures.packed c.find.ensures c.in-Some.is
    c.entry_word-size.ensures refl (λ e. omega arith)

pub overflow_mul-ceil_div : goal.overflow_mul-ceil_div
overflow_mul-ceil_div c =
    let a = c.args in
    let s = a.g.slice in
    omega (arith, ap (λ (x : ℕ). x * s) c.ceil_div.ensures, div-mul-le_self (c.entry_word-size.result + (s - 1)) s)

pub returns-then-ceil_div-g : goal.returns-then-ceil_div-g
returns-then-ceil_div-g c =
    let full : let a = c.args in c.sys-full.result ≡ full_sys a.image.now a.g = let a = c.args in
    let keys = a.g.keys in
    c.sys-full.ensures ∙ ap (λ (n : ℕ). sys_value keys (n / keys)) c.sys_sectors-reserved.ensures in
    layers_other c.requires full c.sys_name.ensures.packed c.find.ensures c.in-Some.is
    c.entry_word-size.ensures refl c.sys_sectors-reserved.ensures c.ceil_div.ensures c.if-ceil_div-g.true

pub returns : goal.returns
returns c =
    let full : let a = c.args in c.sys-full.result ≡ full_sys a.image.now a.g = let a = c.args in
    let keys = a.g.keys in
    c.sys-full.ensures ∙ ap (λ (n : ℕ). sys_value keys (n / keys)) c.sys_sectors-reserved.ensures in
    layers_found c.requires full c.sys_name.ensures.packed c.find.ensures c.in-Some.is
    c.entry_word-size.ensures refl c.sys_sectors-reserved.ensures c.ceil_div.ensures c.if-layers-keys.false c.if-ceil_div-g.false
