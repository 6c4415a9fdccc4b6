-- `names::legal_by` meets its contract: the tests are those of the characters' classes. Assumes nothing.
use Rattle.std.proofs.Common.{◌≡◌, ℕ, ◌/◌, ◌%◌, false, get_or, arith}
use Rattle.std.specs.Prelude.{leb}
use Rattle.std.proofs.lemmas.Bool.{le-leb, lt-leb}
use Rattle.names.proofs.ClassLaws.{by_classes}
use Rattle.names.proofs.legal_by.Goals as goal
use Rattle.names.proofs.legal_by.Goals.{then-initial-ge65, else-initial-ge65, then-first-le1, else-first-le1, then-second-le1, else-second-le1}
use Rattle.names.proofs.legal_by.Goals.{then-third-second, else-third-second, then-fourth-third, else-fourth-third}

pub returns-then-fifth-fourth : goal.returns-then-fifth-fourth
returns-then-fifth-fourth c =
    let n = c.args.name in
    let h = c.if-fifth-fourth.true in
    rw (by_classes n.0 n.1 n.2 c.requires (omega arith) (omega arith) (omega arith), le-leb _ _ h.0, le-leb _ _ h.1, le-leb _ _ h.2, le-leb _ _ h.3, le-leb _ _ h.4, le-leb _ _ h.5)

-- a test fails, and those before it do not
pub returns-else-fifth-fourth : goal.returns-else-fifth-fourth
returns-else-fifth-fourth c =
    let n = c.args.name in
    let class : ℕ → ℕ = λ k. get_or c.args.table.now k 0 in
    rw (by_classes n.0 n.1 n.2 c.requires (omega arith) (omega arith) (omega arith)) (elim c.if-fourth-third.branch [
      | then-fourth-third v ↦
          let h = v.if-fourth-third.true in
          let e : leb (class (n.2 / 256)) (class (n.1 % 256)) ≡ false = cc in
          rw (le-leb _ _ h.0, le-leb _ _ h.1, le-leb _ _ h.2, le-leb _ _ h.3, le-leb _ _ h.4, e) cc
      | else-fourth-third v ↦ elim c.if-third-second.branch [
        | then-third-second w ↦
            let h = w.if-third-second.true in
            let e : leb (class (n.1 % 256)) (class (n.1 / 256)) ≡ false = cc in
            rw (le-leb _ _ h.0, le-leb _ _ h.1, le-leb _ _ h.2, le-leb _ _ h.3, e) cc
        | else-third-second w ↦ elim c.if-second-le1.branch [
          | then-second-le1 x ↦
              let h = x.if-second-le1.true in
              let e : leb (class (n.1 / 256)) (class (n.0 % 256)) ≡ false = cc in
              rw (le-leb _ _ h.0, le-leb _ _ h.1, le-leb _ _ h.2, e) cc
          | else-second-le1 x ↦ elim c.if-first-le1.branch [
            | then-first-le1 y ↦
                let h = y.if-first-le1.true in
                let e : leb (class (n.0 % 256)) 1 ≡ false = cc in
                rw (le-leb _ _ h.0, le-leb _ _ h.1, e) cc
            | else-first-le1 y ↦ elim c.if-initial-ge65.branch [
              | then-initial-ge65 z ↦
                  let e : leb (class (n.0 / 256)) 1 ≡ false = cc in
                  rw (le-leb _ _ z.if-initial-ge65.true, e) cc
              | else-initial-ge65 z ↦ rw (lt-leb _ _ z.if-initial-ge65.false) cc
            ]
          ]
        ]
      ]
    ])
