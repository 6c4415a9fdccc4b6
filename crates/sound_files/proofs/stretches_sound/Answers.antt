-- `sound_files::stretches_sound` meets its contract: the places of the blocks before block b are legal and their slices marked, and the
-- blocks are those of the pairs before pair j. Assumes nothing.
use Rattle.std.proofs.Common.{◌≡◌, refl, sym, ap, subst, List, ℕ, ◌+◌, ◌*◌, ◌-◌, ◌≤◌, ◌<◌, min, arith}
use Rattle.disc.specs.Words.{word}
use Rattle.disc.specs.Pairs.{pair_length, pair_start}
use Rattle.disc.proofs.WalkLaws.{sectors_before}
use Rattle.catalog.specs.declared.Catalog.{Catalog}
use Rattle.kit.specs.declared.Geometry.{Geometry}
use Rattle.sound_entries.specs.Sys.{places_in}
use Rattle.sound_entries.proofs.SysLaws.{Turn, turn, sys_small}
use Rattle.sound_files.specs.Live.{lives}
use Rattle.sound_files.specs.Walk.{places_from, SysKnown, SysMarked, OrdinaryPlace, OrdinaryPlaces}
use Rattle.sound_files.proofs.WalkLaws.{PlacesPassed, places_none, places_some, places_more, places_stop, places_all}
use Rattle.sound_files.proofs.SysLaws.{known_sys, some_sys, turn_places}
use Rattle.sound_files.proofs.stretches_sound.Goals as goal

-- SYS's blocks are few
few : {image : List ℕ} {g : Geometry} {marks : List ℕ} {size : ℕ} → SysKnown image g marks size → size < 65536
few known = omega (arith, known.room, sys_small (known_sys known), known.unit.limits.sectors)

-- the turn, known once its numbers are read
turn-of : {image : List ℕ} {g : Geometry} {marks : List ℕ} {sys : Catalog} {b l n start : ℕ} (j : ℕ) → SysMarked image g marks sys → j ≤ word image 6 0
    → (b < g.keys * sys.layers → b ≡ sectors_before image 6 j) → b < g.keys * sys.layers
    → l ≡ pair_length image sys.index.0 j → n ≡ min l (g.keys * sys.layers - b) → start ≡ pair_start image sys.index.0 j
    → Turn image g (g.keys * sys.layers) j b n start
turn-of j sys low at lt long least starts =
    turn (known_sys sys.known) (ap (λ (x : Catalog). x.index.0) sys.is) j sys.known.room low at lt long least starts

pub overflow_mul-size : goal.overflow_mul-size
overflow_mul-size c = record { fits = omega (arith, few c.requires.0.known) }

pub loop-b-init : goal.loop-b-init
loop-b-init c = (omega arith, omega arith, λ h. refl, places_none _ _ _ _ _)

pub run_sound-requires : goal.run_sound-requires
run_sound-requires c =
    let l = c.loop-b in
    let t = turn-of l.j c.requires.0 l.invariant.0 l.invariant.2 c.loop-b-test.true c.pair_length.ensures c.min-n.ensures c.pair_start.ensures in
    let known = c.requires.0.known in
    let ordinary : OrdinaryPlaces (places_from c.args.image.now (c.pair_start.result.0 * 256)) (16 * c.min-n.result) = λ i h.
    subst OrdinaryPlace (sym (turn_places t i h)) (c.requires.1 (16 * l.b + i) (omega (arith, t.high))) in
    (known.unit, places_some _ _ _ _ _ l.invariant.3 (some_sys known), omega (arith, t.fits), ordinary)

pub returns-then-not-run_sound : goal.returns-then-not-run_sound
returns-then-not-run_sound c =
    let l = c.loop-b in
    let a = c.args in
    let t = turn-of l.j c.requires.0 l.invariant.0 l.invariant.2 c.loop-b-test.true c.pair_length.ensures c.min-n.ensures c.pair_start.ensures in
    places_stop a.image.now a.g (lives a.files.now) (places_in a.image.now a.g) (16 * l.b) l.invariant.3 _ _ (turn_places t) c.run_sound.ensures
    (16 * (a.g.keys * a.sys.layers)) (omega (arith, t.high)) (c.if-not-run_sound.true)

pub overflow_add-b : goal.overflow_add-b
overflow_add-b c =
    let l = c.loop-b in
    let t = turn-of l.j c.requires.0 l.invariant.0 l.invariant.2 c.loop-b-test.true c.pair_length.ensures c.min-n.ensures c.pair_start.ensures in
    record { fits = omega (arith, t.high, few c.requires.0.known) }

pub overflow_add-j : goal.overflow_add-j
overflow_add-j c =
    let l = c.loop-b in
    let t = turn-of l.j c.requires.0 l.invariant.0 l.invariant.2 c.loop-b-test.true c.pair_length.ensures c.min-n.ensures c.pair_start.ensures in
    omega (arith, t.more, c.requires.0.known.index.few)

pub loop-b-smaller : goal.loop-b-smaller
loop-b-smaller c =
    let l = c.loop-b in
    let t = turn-of l.j c.requires.0 l.invariant.0 l.invariant.2 c.loop-b-test.true c.pair_length.ensures c.min-n.ensures c.pair_start.ensures in
    omega (arith, t.more)

pub loop-b-preserved : goal.loop-b-preserved
loop-b-preserved c =
    let l = c.loop-b in
    let a = c.args in
    let t = turn-of l.j c.requires.0 l.invariant.0 l.invariant.2 c.loop-b-test.true c.pair_length.ensures c.min-n.ensures c.pair_start.ensures in
    let n = c.min-n.result in
    let e : 16 * l.b + 16 * n ≡ 16 * (l.b + n) = omega arith in (
      omega (arith, t.more),
      t.high,
      t.next,
      subst (PlacesPassed a.image.now a.g (lives a.files.now) (places_in a.image.now a.g) _ _) e
          (places_more a.image.now a.g (lives a.files.now) (places_in a.image.now a.g) (16 * l.b) l.invariant.3 _ _ (turn_places t) c.run_sound.ensures
          (some_sys c.requires.0.known) (c.if-not-run_sound.false)),
    )

pub returns : goal.returns
returns c =
    let a = c.args in
    places_all a.image.now a.g (lives a.files.now) (places_in a.image.now a.g) (16 * c.loop-b.b) c.loop-b.invariant.3
    (16 * (a.g.keys * a.sys.layers)) (omega arith) (some_sys c.requires.0.known)
