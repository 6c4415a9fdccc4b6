-- `create::new_file` meets its contract. Assumes nothing.
use mathlib.Core.Path.{ap}
use mathlib.Core.Bool.{not}
use native.Mathlib.Omega.{arith}
use Rattle.disc.specs.Words.{Words}
use Rattle.create.proofs.MessageLaws.{refused_legal, refused_name, place_from_lem, grow_for}
use Rattle.create.proofs.new_file.Goals as goal

pub returns-then-not-is_legal : goal.returns-then-not-is_legal
returns-then-not-is_legal c =
    refused_legal _ _ _ _ _ c.is_legal.ensures c.args.words.now (ap not c.if-not-is_legal.true)

pub returns-in_default : goal.returns-in_default
returns-in_default c =
    refused_name _ _ _ _ _ c.is_legal.ensures (ap not c.if-not-is_legal.false) c.find_name.ensures c.args.words.now
    c.in_default.is

pub create_grown-requires : goal.create_grown-requires
create_grown-requires c =
    -- the lent words are words
    let lent : let a = c.args in Words a.words.now = record { each = λ k. omega (arith, c.type_inv.words k) } in
    record {
      unit = _;
      can = grow_for _ _ _ _ _ c.is_legal.ensures (ap not c.if-not-is_legal.false) c.find_name.ensures c.in-None.is c.requires.1 lent c.key-key.ensures
          c.find_unused.ensures.found c.in-None-find_unused.is c.requires.0.on c.requires.0.numbers;
    }

pub returns-in-None-find_unused : goal.returns-in-None-find_unused
returns-in-None-find_unused c =
    let lent : let a = c.args in Words a.words.now = record { each = λ k. omega (arith, c.type_inv.words k) } in
    record {
      all = λ p on num.
          c.create_grown.ensures.all p
          (grow_for _ _ _ _ _ c.is_legal.ensures (ap not c.if-not-is_legal.false) c.find_name.ensures c.in-None.is c.requires.1 lent c.key-key.ensures
          c.find_unused.ensures.found c.in-None-find_unused.is on num);
    }

pub create_in-requires : goal.create_in-requires
create_in-requires c =
    let lent : let a = c.args in Words a.words.now = record { each = λ k. omega (arith, c.type_inv.words k) } in
    record {
      unit = _;
      can = place_from_lem _ _ _ _ _ c.is_legal.ensures (ap not c.if-not-is_legal.false) c.find_name.ensures c.in-None.is c.requires.1 lent c.key-key.ensures
          c.find_unused.ensures.found c.in-Some.is c.requires.0.on c.requires.0.numbers;
    }

pub returns-in-Some : goal.returns-in-Some
returns-in-Some c =
    let lent : let a = c.args in Words a.words.now = record { each = λ k. omega (arith, c.type_inv.words k) } in
    record {
      all = λ p on num.
          c.create_in.ensures.all p
          (place_from_lem _ _ _ _ _ c.is_legal.ensures (ap not c.if-not-is_legal.false) c.find_name.ensures c.in-None.is c.requires.1 lent c.key-key.ensures
          c.find_unused.ensures.found c.in-Some.is on num);
    }
