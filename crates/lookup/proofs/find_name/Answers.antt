-- `lookup::find_name` meets its contract. Assumes nothing.
use mathlib.Core.Path.{◌≡◌, refl, sym, ap, ◌∙◌}
use mathlib.Core.Logic.{◌≢◌}
use Rattle.catalog.specs.Catalog.{place_named}
use Rattle.catalog.specs.declared.Catalog.{Catalog}
use Rattle.catalog.proofs.ValueLaws.{is_value}
use Rattle.plain.specs.Unit.{Plain}
use Rattle.lookup.specs.Unit.{NumbersOf}
use Rattle.disc.specs.Names.{packed}
use Rattle.lookup.proofs.FindLaws.{some_key, unit_sys, name_found, zero_found}
use Rattle.lookup.proofs.find_name.Goals as goal

pub returns-then-packed-eq0 : goal.returns-then-packed-eq0
returns-then-packed-eq0 c = record { all = λ p on num. zero_found on _ (sym c.packed.ensures ∙ c.if-packed-eq0.true) refl }

pub find-requires : goal.find-requires
find-requires c = let pre = c.requires in some_key pre

pub returns : goal.returns
returns c =
    let a = c.args in
    let n = packed a.name in
    let nz : n ≢ 0 = λ z. c.if-packed-eq0.false (c.packed.ensures ∙ z) in
    let at : (p : Plain) → NumbersOf a.unit p → c.find.result ≡ place_named a.image.now (unit_sys p) n =
    λ p num. c.find.ensures.place ∙ ap (λ (v : Catalog). place_named a.image.now v n) (is_value num.catalog) in
    record { all = λ p on num. name_found on n nz (at p num) }
