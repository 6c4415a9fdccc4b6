-- `sound_files::run_sound` meets its contract: the places before place i are legal, and their slices marked. Assumes nothing.
use Rattle.std.proofs.Common.{ℕ, List, ◌+◌, ◌*◌, arith}
use Rattle.kit.specs.declared.Geometry.{Geometry}
use Rattle.marks.specs.Marked.{SomeMarked}
use Rattle.sound_files.specs.declared.files.OpenFiles.{OpenFiles}
use Rattle.sound_files.specs.Live.{lives}
use Rattle.sound_files.specs.Walk.{places_from, PlainPlaces}
use Rattle.sound_files.proofs.WalkLaws.{PlacesPassed, places_none, places_some, place_more, place_stop, places_all}
use Rattle.sound_files.proofs.PlainLaws.{live_cell, plain_more, places_on, ordinary_on}
use Rattle.sound_files.proofs.run_sound.Goals as goal

-- the places that were judged, and those judged the quick way after them
met : {image : List ℕ} (at : ℕ) {i count : ℕ} {files : OpenFiles} {g : Geometry} {before mid after : List ℕ} (n : ℕ)
    → PlacesPassed image g (lives files) (places_from image at) before mid i → SomeMarked g.slices before
    → PlainPlaces image g (places_from image (at + 16 * i)) count files mid after n
    → PlacesPassed image g (lives files) (places_from image at) before after (i + n)
met {image} at {i} {files = files} {g} n pass some plain =
    plain_more image g (places_from image at) files (lives files) i pass some (places_from image (at + 16 * i)) n (λ j h. places_on image at i j) (live_cell files) plain

pub loop-i-init : goal.loop-i-init
loop-i-init c = (omega arith, places_none _ _ _ _ _)

pub plain_run-i-requires : goal.plain_run-i-requires
plain_run-i-requires c =
    (c.requires.0, places_some _ _ _ _ c.loop-i.i c.loop-i.invariant.1 c.requires.1, omega arith, ordinary_on c.args.image.now c.args.at c.loop-i.i c.requires.3)

pub returns-then-i-count : goal.returns-then-i-count
returns-then-i-count c =
    places_all _ _ _ _ _ (met c.args.at c.plain_run-i.result c.loop-i.invariant.1 c.requires.1 c.plain_run-i.ensures) c.args.count c.if-i-count.true c.requires.1

pub place_sound-requires : goal.place_sound-requires
place_sound-requires c =
    (c.requires.0, places_some _ _ _ _ _ (met c.args.at c.plain_run-i.result c.loop-i.invariant.1 c.requires.1 c.plain_run-i.ensures) c.requires.1, omega (arith, c.plain_run-i.ensures.high, c.if-i-count.false))

pub returns-then-not-place_sound : goal.returns-then-not-place_sound
returns-then-not-place_sound c =
    place_stop _ _ _ _ _ (met c.args.at c.plain_run-i.result c.loop-i.invariant.1 c.requires.1 c.plain_run-i.ensures) c.place_sound.ensures c.args.count (omega (arith, c.plain_run-i.ensures.high, c.if-i-count.false)) c.if-not-place_sound.true

pub loop-i-preserved : goal.loop-i-preserved
loop-i-preserved c = (
  omega (arith, c.plain_run-i.ensures.high, c.if-i-count.false),
  place_more _ _ _ _ _ (met c.args.at c.plain_run-i.result c.loop-i.invariant.1 c.requires.1 c.plain_run-i.ensures) c.place_sound.ensures c.requires.1 c.if-not-place_sound.false,
)
