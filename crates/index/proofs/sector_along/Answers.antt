-- `index::sector_along` meets its contract: the walk goes on from pair j, behind `joined` by `rest` sectors. Assumes nothing.
use mathlib.Core.Path.{◌≡◌, sym, ap, ◌∙◌}
use Prim.Native.Nat.{ℕ, ◌+◌, ◌-◌, ◌%◌}
use native.Mathlib.Omega.{arith}
use Rattle.index.specs.Block.{pair_count, joint_sector}
use Rattle.index.proofs.WalkLaws.{sector_none, sector_here}
use Rattle.index.proofs.AlongLaws.{along_next}
use Rattle.index.proofs.sector_along.Goals as goal

pub loop-j-init : goal.loop-j-init
loop-j-init c =
    let back : c.args.before ≡ c.args.joined - (c.args.joined - c.args.before) = omega (arith, c.requires.0) in
    (omega arith, rw back at c.requires.1)

pub returns-then-rest-length : goal.returns-then-rest-length
returns-then-rest-length c =
    let a = c.args in
    let rest : ℕ = c.loop-j.rest in
    let along = c.loop-j.invariant.1 in
    record {
      sector =
          c.sector_after.ensures ∙ ap (λ (w : ℕ). (w + rest) % 65536) c.pair_start-start.ensures
          ∙ sym (sector_here a.words.now 0 (pair_count a.words.now 0) c.loop-j.j rest (omega (arith, c.pair_count-n.ensures)) (omega (arith, c.pair_length-length.ensures)))
          ∙ along.same rest ∙ ap (joint_sector a.words.now 0) (let e : a.joined - rest + rest ≡ a.joined = omega (arith, c.loop-j.invariant.0) in e);
      along = along;
      behind = omega arith;
    }

pub loop-j-preserved : goal.loop-j-preserved
loop-j-preserved c =
    let a = c.args in (
      omega (arith, c.loop-j.invariant.0),
      along_next a.words.now c.loop-j.j (a.joined - c.loop-j.rest) _ c.loop-j.invariant.1 (omega (arith, c.pair_count-n.ensures)) (omega (arith, c.pair_length-length.ensures, c.loop-j.invariant.0)),
    )

pub returns : goal.returns
returns c =
    let a = c.args in
    let n = c.pair_count-n.result in
    let rest : ℕ = c.loop-j.rest in
    let end : c.loop-j.j ≡ n = omega (arith, c.requires.1.within, c.pair_count-n.ensures) in
    let along = rw end at c.loop-j.invariant.1 in
    record {
      sector =
          sym (sector_none a.words.now 0 (pair_count a.words.now 0) n rest (omega (arith, c.pair_count-n.ensures)))
          ∙ along.same rest ∙ ap (joint_sector a.words.now 0) (let e : a.joined - rest + rest ≡ a.joined = omega (arith, c.loop-j.invariant.0) in e);
      along = along;
      behind = omega arith;
    }
