-- `lookup::find_unused` meets its contract. Assumes nothing.
use mathlib.Core.Path.{◌≡◌, ap, ◌∙◌}
use native.Mathlib.Omega.{arith}
use Rattle.catalog.specs.Catalog.{place_unused}
use Rattle.catalog.specs.declared.Catalog.{Catalog}
use Rattle.catalog.proofs.ValueLaws.{is_value}
use Rattle.plain.specs.Unit.{Plain}
use Rattle.lookup.specs.Unit.{NumbersOf}
use Rattle.lookup.proofs.FindLaws.{unit_sys}
use Rattle.lookup.proofs.UnusedLaws.{unused_found}
use Rattle.lookup.proofs.find_unused.Goals as goal

pub returns : goal.returns
returns c =
    let a = c.args in
    let e = c.first_unused.ensures.place in
    let at : (p : Plain) → NumbersOf a.unit p → c.first_unused.result ≡ place_unused a.image.now (unit_sys p) a.key =
    λ p num. e ∙ ap (λ (v : Catalog). place_unused a.image.now v a.key) (is_value num.catalog) in
    record {
      first = e;
      found = record { all = λ p on num. unused_found on a.key (omega (arith, c.requires.1, num.catalog.keys)) (at p num) };
    }
