-- `catalog::first_place` meets its contract: what is sought is the first place from a layer on. Assumes nothing.
use mathlib.Core.Path.{refl, sym, ◌∙◌}
use Rattle.catalog.specs.Catalog.{key_sector}
use Rattle.catalog.proofs.WalkLaws.{slot_told, none_told, place_here, place_next, place_none}
use Rattle.catalog.proofs.first_place.Goals as goal

pub returns-in-Some : goal.returns-in-Some
returns-in-Some g c = λ t post.
    let a = c.args in
    let q = c.key_sector-sector.result.0 in
    let told = slot_told _ c.in-Some.slot (sym (post _ _ c.slot_in.ensures) ∙ c.in-Some.is) in
    place_here t (key_sector a.image.now a.c a.key) a.c.layers c.loop-layer.layer q c.in-Some.slot
    (c.loop-layer.invariant t post) c.loop-layer-test.true c.key_sector-sector.ensures told.0 told.1

pub loop-layer-preserved : goal.loop-layer-preserved
loop-layer-preserved g c = λ t post.
    let a = c.args in
    place_next t (key_sector a.image.now a.c a.key) a.c.layers c.loop-layer.layer c.key_sector-sector.result.0 _
    (c.loop-layer.invariant t post) c.loop-layer-test.true c.key_sector-sector.ensures refl
    (none_told _ (sym (post _ _ c.slot_in.ensures) ∙ c.in_default.is))

pub returns : goal.returns
returns g c = λ t post.
    let a = c.args in
    place_none t (key_sector a.image.now a.c a.key) a.c.layers c.loop-layer.layer (c.loop-layer.invariant t post) c.loop-layer-test.false
