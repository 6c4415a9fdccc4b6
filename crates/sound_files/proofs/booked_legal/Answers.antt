-- `sound_files::booked_legal` meets its contract: the booked slices are the reserved sectors by the sectors of a slice. Assumes nothing.
use Rattle.std.proofs.Common.{◌≡◌, sym, ap, ◌∙◌, ◌/◌, ℕ, arith}
use Rattle.types.specs.declared.Sector.{Sector}
use Rattle.disc.proofs.DecideLaws.{fails}
use Rattle.sound.specs.Places.{index_if}
use Rattle.sound_files.proofs.FileLaws.{index_some, booked_own, booked_whole, booked_covered_lem, booked_decided}
use Rattle.sound_files.proofs.booked_legal.Goals as goal
use Rattle.sound_files.proofs.booked_legal.Goals.{then-own-s-via-then-own-s, then-own-s-via-else-own-s+then-slices-own, then-own-s-via-else-own-s+else-slices-own+then-live-entry, then-own-s-via-else-own-s+else-slices-own+else-live-entry+then-not-covered, then-own-eq0, else-own-eq0}

pub returns-then-own-s : goal.returns-then-own-s
returns-then-own-s c = fails (λ b. elim c.then-own-s.branch [
  | then-own-s-via-then-own-s w ↦ w.if-own-s.true (booked_whole c.requires b)
  | then-own-s-via-else-own-s+then-slices-own w ↦ omega (arith, booked_own c.requires b, b.slices_low, w.if-slices-own.true)
  | then-own-s-via-else-own-s+else-slices-own+then-live-entry w ↦ omega (arith, b.length_low, w.if-live-entry.true)
  | then-own-s-via-else-own-s+else-slices-own+else-live-entry+then-not-covered w ↦ w.covered.ensures.not w.if-not-covered.true (booked_covered_lem c.requires b)
])

pub returns : goal.returns
returns c =
    let a = c.args in
    let at : index_if (a.entry.reserved / a.s) a.live.index.0 ≡ c.if-own-eq0.index.0 = elim c.if-own-eq0.branch [
      | then-own-eq0 w ↦ ap (λ (n : ℕ). index_if n a.live.index.0) w.if-own-eq0.true ∙ sym (ap (λ (q : Sector). q.0) w.index-is)
      | else-own-eq0 w ↦ index_some (a.entry.reserved / a.s) a.live.index.0 w.if-own-eq0.false ∙ sym (ap (λ (q : Sector). q.0) w.index-is)
    ] in
    rw c.eq.ensures
    (booked_decided c.requires c.if-own-s.false (omega arith) (omega arith) (c.covered.ensures.yes c.if-not-covered.false) c.if-own-eq0.index.0 at)
