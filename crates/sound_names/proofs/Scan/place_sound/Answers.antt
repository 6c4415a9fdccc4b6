-- `sound_names::Scan::place_sound` meets its contract. Assumes nothing.
use Rattle.std.proofs.Common.{◌≡◌, ℕ, ◌+◌, ◌*◌, ◌/◌, ◌%◌, ◌<◌, ◌≤◌, Bool, List, length, take, drop, sym, ap, ◌∙◌, arith}
use borrow.Author.Tests.{eqb-false, not-true}
use Rattle.types.specs.declared.Name.{Name}
use Rattle.disc.specs.Decide.{Decides}
use Rattle.disc.specs.Stretches.{sector_in}
use Rattle.kit.specs.declared.Geometry.{Geometry}
use Rattle.sound_entries.specs.declared.Expected.{Expected}
use Rattle.sound_entries.specs.Legal.{place_of, NameIn, PlaceLegal, Judging, own_entry}
use Rattle.sound_entries.specs.Sys.{sys_slices, places_in}
use Rattle.sound_entries.proofs.SysLaws.{sys_inside}
use Rattle.sound_entries.proofs.FindLaws.{in_keys}
use Rattle.sound_entries.proofs.PlaceLaws.{name_packed, zero_unused}
use Rattle.sound_entries.proofs.BlockLaws.{in_part, name_at_same, place_block_lem}
use Rattle.sound_names.proofs.AloneLaws.{scanned, not_legal, not_noted, passed_unused, passed_new, passed_first, not_alone, some_name, own_key, in_slices}
use Rattle.sound_names.proofs.Scan.place_sound.Goals as goal
use Rattle.sound_names.proofs.Scan.place_sound.Goals.{then-name-eq0, else-name-eq0}

-- place i of block b, which is sector q
module _ {image : List ℕ} {g : Geometry} {e : Expected} {q : ℕ} (b i : ℕ) (judging : Judging image g e e.size) (low : b < e.size)
    (at : q ≡ sector_in g.first.0 g.slice (sys_slices image g) b) (place : i < 16) where
  abbrev t : ℕ
  t = 16 * b + i

  -- the sector is in the image
  inside : q * 256 + 256 ≤ length image
  inside = let sys = judging.catalog.sys in omega (arith, at, sys_inside sys b (omega (arith, in_slices judging)), sys.unit.size)

  module _ (words : List ℕ) (part : words ≡ take 16 (drop (q * 256 + i * 16) image)) where
    judged : {r : Bool} {key : ℕ} → key ≡ b % g.keys → Decides r (PlaceLegal (place_of words) e.catalog.keys key (own_entry e) 0)
        → Decides r (PlaceLegal (places_in image g) g.keys (t / 16 % g.keys) (own_entry e) t)
    judged key d =
        place_block_lem image g.first.0 g.slice (sys_slices image g) words b i place (in_part image g.first.0 g.slice (sys_slices image g) b i q place at part) (in_keys judging.catalog) key d

    name_of : {name : Name} → NameIn (place_of words) 0 name → NameIn (places_in image g) t name
    name_of n = name_at_same (in_part image g.first.0 g.slice (sys_slices image g) b i q place at part) n

pub place_at-place-requires : goal.place_at-place-requires
place_at-place-requires c =
    let pre = c.requires in
    let room = inside c.args.b.0 c.args.i c.args.self.now.judging pre.0 pre.1 pre.3 in
    omega (arith, room)

pub returns-then-not-place_legal : goal.returns-then-not-place_legal
returns-then-not-place_legal c =
    let pre = c.requires in
    let a = c.args in
    not_legal (judged a.b.0 a.i a.self.now.judging pre.0 pre.1 pre.3 _ c.place_at-place.ensures pre.2 c.place_legal.ensures) c.if-not-place_legal.true

pub is_first-requires : goal.is_first-requires
is_first-requires c =
    let pre = c.requires in
    let a = c.args in
    let legal = (judged a.b.0 a.i a.self.now.judging pre.0 pre.1 pre.3 _ c.place_at-place.ensures pre.2 c.place_legal.ensures).yes c.if-not-place_legal.false in
    let name = name_of a.b.0 a.i a.self.now.judging pre.0 pre.1 pre.3 _ c.place_at-place.ensures c.place_name-name.ensures in
    let block : (16 * a.b.0 + a.i) / 16 ≡ a.b.0 = omega (arith, pre.3) in
    record {
      sector = pre.1;
      inside = omega (arith, pre.0, a.self.now.judging.whole);
      place = pre.3;
      key = ap (λ (x : ℕ). x % a.self.now.g.keys) (sym block) ∙ own_key name legal (elim c.if-name-eq0.branch [
        | then-name-eq0 w ↦ absurd (eqb-false _ _ (sym w.value-is ∙ c.if-not-note.false) w.if-name-eq0.true)
        | else-name-eq0 w ↦ w.if-name-eq0.false
      ]);
      named = sym (name_packed name);
    }

pub returns-then-not-note : goal.returns-then-not-note
returns-then-not-note c =
    let pre = c.requires in
    let a = c.args in
    let legal = (judged a.b.0 a.i a.self.now.judging pre.0 pre.1 pre.3 _ c.place_at-place.ensures pre.2 c.place_legal.ensures).yes c.if-not-place_legal.false in
    let name = name_of a.b.0 a.i a.self.now.judging pre.0 pre.1 pre.3 _ c.place_at-place.ensures c.place_name-name.ensures in
    rw c.if-not-note.true (elim c.if-name-eq0.branch [
      | then-name-eq0 w ↦ rw w.filter-is (scanned (passed_unused pre.4 legal (zero_unused name legal w.if-name-eq0.true)))
      | else-name-eq0 w ↦ rw w.filter-is (scanned (passed_new pre.4 legal (sym (name_packed name)) (not_noted (not-true _ (sym w.value-is ∙ c.if-not-note.true)) w.note.ensures)))
    ])

pub returns-else-not-note : goal.returns-else-not-note
returns-else-not-note c =
    let pre = c.requires in
    let a = c.args in
    let legal = (judged a.b.0 a.i a.self.now.judging pre.0 pre.1 pre.3 _ c.place_at-place.ensures pre.2 c.place_legal.ensures).yes c.if-not-place_legal.false in
    let name = name_of a.b.0 a.i a.self.now.judging pre.0 pre.1 pre.3 _ c.place_at-place.ensures c.place_name-name.ensures in
    let e = sym (name_packed name) in
    elim c.if-name-eq0.branch [
      | then-name-eq0 w ↦ absurd (eqb-false _ _ (sym w.value-is ∙ c.if-not-note.false) w.if-name-eq0.true)
      | else-name-eq0 w ↦ rw w.filter-is (record {
        yes = λ y. passed_first pre.4 legal e w.note.ensures (c.is_first.ensures.yes y);
        not = λ y l. not_alone e (some_name c.place_name-name.result w.if-name-eq0.false) (c.is_first.ensures.not y);
      })
    ]
