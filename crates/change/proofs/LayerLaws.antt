-- SYS's layers after a Change, and whether the new name is entered, by what the searches found.
use Rattle.std.specs.Prelude.{Option, Some, None}
use Rattle.std.specs.Option as option
use mathlib.Core.Path.{◌≡◌, refl, sym, ap, ◌∙◌}
use mathlib.Core.Bool.{Bool, true, false, true≢false, not, ◌&&◌, cond}
use mathlib.Core.List.{List}
use mathlib.Core.Logic.{◌≢◌}
use mathlib.Core.Option.{some}
use Prim.Native.Nat.{ℕ, suc, ◌+◌, ◌*◌, ◌≤◌, ◌<◌, compare, Ordering}
use native.Mathlib.Omega.{arith}
use native.Mathlib.Nat.{mul_comm, mul-le-mul_right}
use lib.ListN.{length}
use borrow.Author.Tests.{le-leb, lt-leb}
use Rattle.disc.specs.Names.{key_of, packed}
use Rattle.disc.specs.Slices.{one_if_same}
use Rattle.disc.proofs.Compare.{Tri, less, same, more, tri, tri_same}
use Rattle.catalog.specs.declared.Place.{Place}
use Rattle.catalog.specs.declared.Unit.{Unit}
use Rattle.plain.specs.Table.{Row, table_find, table_remove, is_some}
use Rattle.plain.specs.Unit.{Plain, File, entry, sys_of}
use Rattle.plain.specs.Taking.{has_key, places_taken, layers_for}
use Rattle.plain.proofs.TableLaws.{weight_at, total_remove}
use Rattle.refine.proofs.Ground.{ground, sys_ground, part_sectors}
use Rattle.lookup.specs.Unit.{NumbersOf, UnitOn}
use Rattle.lookup.specs.Find.{FindsName, FindsUnused}
use Rattle.change.specs.declared.rewrite.Wanted.{Wanted}
use Rattle.lookup.proofs.UnitLaws.{on_catalog}
use Rattle.change.specs.Asked.{LayersFor, TakenBy}

-- a number is the same as itself, and another one is not
one_other : (a b : ℕ) → a ≢ b → one_if_same (compare a b) ≡ 0
one_other a b d = go (compare a b) (tri a b)
  where
    go : (o : Ordering) → Tri a b o → one_if_same o ≡ 0
    go o (less h) = refl
    go o (same e) = absurd (d e)
    go o (more h) = refl

one_same : (a b : ℕ) → a ≡ b → one_if_same (compare a b) ≡ 1
one_same a b e = rw (e, tri_same b) refl

module _ (p : Plain) (n m : ℕ) (f : File) (found : table_find n p.files ≡ some f) where
  abbrev k : ℕ
  k = key_of p.H m

  -- the places that the key's names take without the file
  others : places_taken p.H k (sys_of p) (table_remove n p.files) + has_key p.H k n ≡ places_taken p.H k (sys_of p) p.files
  others =
      let w : Row File → ℕ = λ r. has_key p.H k r.key in
      omega (arith, total_remove w n p.files, ap (weight_at w n) found)

  pub layers_own : key_of p.H n ≡ key_of p.H m → places_taken p.H (key_of p.H m) (sys_of p) p.files ≤ 16 * p.layers → p.layers ≡ layers_for p.H (sys_of p) m (table_remove n p.files)
  layers_own e room =
      let h : places_taken p.H k (sys_of p) (table_remove n p.files) < 16 * p.layers = omega (arith, others, one_same (key_of p.H n) k e) in
      rw (lt-leb (16 * p.layers) (places_taken p.H k (sys_of p) (table_remove n p.files)) h) refl

  module _ (d : key_of p.H n ≢ key_of p.H m) where
    same_places : places_taken p.H k (sys_of p) (table_remove n p.files) ≡ places_taken p.H k (sys_of p) p.files
    same_places = omega (arith, others, one_other (key_of p.H n) k d)

    pub layers_room : places_taken p.H (key_of p.H m) (sys_of p) p.files < 16 * p.layers → p.layers ≡ layers_for p.H (sys_of p) m (table_remove n p.files)
    layers_room h = rw (same_places, lt-leb (16 * p.layers) (places_taken p.H k (sys_of p) p.files) h) refl

    pub layers_full : 16 * p.layers ≤ places_taken p.H (key_of p.H m) (sys_of p) p.files → suc p.layers ≡ layers_for p.H (sys_of p) m (table_remove n p.files)
    layers_full h = rw (same_places, le-leb (16 * p.layers) (places_taken p.H k (sys_of p) p.files) h) refl

-- ---- by what the search found

pub none_is : (r : Option Place) {b : Bool} → option.is_some r ≡ not b → b ≡ true → r ≡ None
none_is (Some place) h t = absurd (true≢false (h ∙ ap not t))
none_is None h t = refl

pub some_is : (r : Option Place) {b : Bool} → option.is_some r ≡ not b → b ≡ false → (place : Place) × (r ≡ Some place)
some_is (Some place) h f = (place, refl)
some_is None h f = absurd (true≢false (sym (h ∙ ap not f)))

pub some_layers : {image : List ℕ} {o : Unit} → UnitOn image o → (1 ≤ o.catalog.keys) × (o.catalog.layers + 1 < 65536)
some_layers h =
    let p = h.unit in
    let gr = ground p h.on.good in (
      omega (arith, h.numbers.catalog.keys, gr.limits.keys_low),
      omega (
        arith,
        h.numbers.catalog.layers,
        gr.sys_cover,
        part_sectors p gr p.sys (sys_ground gr).part,
        mul_comm p.s (length p.sys),
        mul-le-mul_right p.layers gr.limits.keys_low,
      ),
    )

module _ (image : List ℕ) (o : Unit) (n : ℕ) (w : Wanted) where
  abbrev m : ℕ
  m = packed w.name

  pub layers_kept : w.moves ≡ false → LayersFor image o n w o.catalog.layers
  layers_kept e = record { all = λ p f on num found. num.catalog.layers ∙ sym (ap (λ (b : Bool). cond b (layers_for p.H (sys_of p) m (table_remove n p.files)) p.layers) e) }

  module _ (e : w.moves ≡ true) {k : ℕ} (key : k ≡ key_of o.catalog.keys (packed w.name)) where
    moving : (p : Plain) {r : ℕ} → r ≡ layers_for p.H (sys_of p) m (table_remove n p.files) → r ≡ cond w.moves (layers_for p.H (sys_of p) m (table_remove n p.files)) p.layers
    moving p q = q ∙ sym (ap (λ (b : Bool). cond b (layers_for p.H (sys_of p) m (table_remove n p.files)) p.layers) e)

    key_is : (p : Plain) → NumbersOf o p → k ≡ key_of p.H m
    key_is p num = key ∙ ap (λ (h : ℕ). key_of h m) num.catalog.keys

    module _ {own : ℕ} (old : own ≡ key_of o.catalog.keys n) where
      own_is : (p : Plain) → NumbersOf o p → own ≡ key_of p.H n
      own_is p num = old ∙ ap (λ (h : ℕ). key_of h n) num.catalog.keys

      pub layers_same : own ≡ k → LayersFor image o n w o.catalog.layers
      layers_same q = record {
        all = λ p f on num found. moving p
            (num.catalog.layers ∙ layers_own p n m f found (sym (own_is p num) ∙ q ∙ key_is p num) (on.good.catalog.chains (key_of p.H m)));
      }

      module _ (d : own ≢ k) where
        differ : (p : Plain) → NumbersOf o p → key_of p.H n ≢ key_of p.H m
        differ p num q = d (own_is p num ∙ q ∙ sym (key_is p num))

        module _ {r : Option Place} (finds : FindsUnused image o k r) where
          pub layers_found : {place : Place} → r ≡ Some place → LayersFor image o n w o.catalog.layers
          layers_found {place} at = record {
            all = λ p f on num found.
                let u = (finds.all p (on_catalog on) num).at place at in
                let room : places_taken p.H (key_of p.H m) (sys_of p) p.files < 16 * p.layers = rw (key_is p num) at u.room in
                moving p (num.catalog.layers ∙ layers_room p n m f found (differ p num) room);
          }

          pub layers_more : r ≡ None → LayersFor image o n w (o.catalog.layers + 1)
          layers_more at = record {
            all = λ p f on num found.
                let full : 16 * p.layers ≤ places_taken p.H (key_of p.H m) (sys_of p) p.files = rw (key_is p num) at ((finds.all p (on_catalog on) num).nothing at) in
                let z : o.catalog.layers + 1 ≡ suc p.layers = omega (arith, num.catalog.layers) in
                moving p (z ∙ layers_full p n m f found (differ p num) full);
          }

  -- ---- whether the new name is entered

  module _ (e : w.moves ≡ true) {r : Option Place} (finds : FindsName image o (packed w.name) r) where
    pub taken_at : {place : Place} → r ≡ Some place → TakenBy image o w true
    taken_at {place} at = record {
      all = λ p on num. sym (ap (λ (b : Bool). b && is_some (entry p m)) e ∙ ap is_some ((finds.all p (on_catalog on) num).at place at).entered);
    }

    pub taken_by : {b : Bool} → b ≡ option.is_some r → TakenBy image o w b
    taken_by {b} = go r refl
      where
        go : (x : Option Place) → r ≡ x → b ≡ option.is_some x → TakenBy image o w b
        go (Some place) at q = rw q (taken_at at)
        go None at q = rw q (record {
          all = λ p on num. sym (ap (λ (b : Bool). b && is_some (entry p m)) e ∙ ap is_some ((finds.all p (on_catalog on) num).nothing at));
        })
