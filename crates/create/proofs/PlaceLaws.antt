-- A new file once its name is known to be new: questions 7 and 8 on the plain unit, and the file made in its place, in the unit or in the
-- unit in which SYS has grown first.
use Rattle.std.specs.Prelude.{Option, Some, None, Result}
use mathlib.Core.Path.{◌≡◌, refl, sym, ap, ◌∙◌, subst}
use Rattle.std.specs.Result.{IsErrAnd}
use Rattle.std.proofs.lemmas.Result.{err_from_is_err_and}
use mathlib.Core.Bool.{not}
use mathlib.Core.List.{List, []}
use Prim.Native.Nat.{ℕ, suc, ◌+◌, ◌≤◌, ◌<◌}
use native.Mathlib.Omega.{arith}
use native.Mathlib.Nat.{mul_comm, mul-le-mul_right, mod-lt}
use native.Mathlib.Numerals.{add-one}
use lib.Dec.{T}
use lib.ListN.{length}
use borrow.Author.Tests.{le-leb}
use Rattle.types.specs.declared.Refusal.{Refusal}
use Rattle.types.specs.Words.{refusal_word, result_word}
use Rattle.disc.specs.Numbers.{need}
use Rattle.disc.specs.Names.{key_of}
use Rattle.words.specs.Store.{zero_words}
use Rattle.index.proofs.BlockLaws.{whole_index_none}
use Rattle.catalog.specs.declared.Place.{Place}
use Rattle.catalog.specs.declared.Unit.{Unit}
use Rattle.plain.specs.Table.{Table, table_put, is_some}
use Rattle.plain.specs.Unit.{Plain, File, entry, sys_of}
use Rattle.plain.specs.Questions.{Outcome, replies, done}
use Rattle.plain.specs.Taking.{Taking, taking, layers_for, enough}
use Rattle.plain.specs.Catalog.{optional_in, tail_in, new_file}
use Rattle.plain.proofs.TakingLaws.{layers_stay, layers_grow}
use Rattle.plain.proofs.CreateUnit.{NewFile, unit_after, Yes, new_file_done, sys_room, sys_few_lem, unit_grown, new_grown, unit_stays, new_stays}
use Rattle.plain.proofs.QuestionLaws.{asks_yes}
use Rattle.refine.specs.OnDisc.{OnDisc}
use Rattle.refine.proofs.LeavesLaws.{refuses, writes}
use Rattle.refine.proofs.Ground.{Ground, ground, sys_ground, part_sectors}
use Rattle.preservation.specs.Units.{grown_unit, file_with, new_file_of}
use Rattle.lookup.specs.Unit.{NumbersOf, Searchable}
use Rattle.lookup.specs.Find.{UnusedFound, FindsUnused}
use Rattle.lookup.proofs.UnitLaws.{on_catalog}
use Rattle.grow.specs.Room.{AskedOf, RoomFor}
use Rattle.grow.specs.Grow.{CanGrowFrom, GrownFrom, Grows}
use Rattle.grow.proofs.BlockLaws.{sys_in}
use Rattle.grow.proofs.RoomLaws.{enough_yes, enough_no}
use Rattle.grow.proofs.GrowLaws.{grown_on}
use Rattle.create.specs.Create.{stays, grows, NewFileStep, AskedFrom, CanPlaceFrom, CanGrowForFrom, CanWriteFrom, FileWritten}
use Rattle.create.proofs.FileLaws.{three, six, legal}

-- what leaves with a refusal has its word
pub word_kept : {T : Type 0} (refusal : Refusal) (r : Result T Refusal) → IsErrAnd r (λ x. x ≡ refusal) → result_word r ≡ refusal_word refusal
word_kept refusal r h = let e = err_from_is_err_and r h in ap result_word e.1 ∙ ap refusal_word e.2

-- Questions 7 and 8, with SYS at l layers.
abbrev room_outcome : Plain → ℕ → ℕ → ℕ → ℕ → List ℕ → List ℕ → List ℕ → Outcome
room_outcome p l n size attributes optional tail lent =
    let t : Taking = taking p (sys_of p) l [] (need p.s size) in
    enough p (sys_of p) t t.file_new lent (table_put n (file_with p size attributes optional tail t.file_new) p.files)

module _ {image : List ℕ} {o : Unit} {n size attributes : ℕ} {words : List ℕ} {p : Plain} (asked : AskedFrom image o n size attributes words p) where
  abbrev optional : List ℕ
  optional = optional_in words

  abbrev tail : List ℕ
  tail = tail_in words

  vacant : T (not (is_some (entry p n)))
  vacant = rw asked.fresh tt

  -- a file without slices
  pub asked_of : {none : List ℕ} → none ≡ zero_words 256 → AskedOf image o none p (sys_of p) []
  asked_of e = record {
    catalog = sys_in asked.on asked.numbers;
    words = e ∙ sym (whole_index_none p.F p.s);
    few = omega arith;
    part = λ k. omega arith;
  }

  module _ {l : ℕ} (layers : layers_for p.H (sys_of p) n p.files ≡ l) where
    -- the questions before are answered yes
    rest_is : (lent : List ℕ) → new_file p n size attributes optional tail lent ≡ room_outcome p l n size attributes optional tail lent
    unfolding new_file
    rest_is lent =
        let ok = legal asked in
        asks_yes _ _ _ ok.name ∙ asks_yes _ _ _ ok.short ∙ asks_yes _ _ _ ok.allowed ∙ asks_yes _ _ _ ok.given ∙ asks_yes _ _ _ vacant
        ∙ ap (λ (k : ℕ). room_outcome p k n size attributes optional tail lent) layers

    done_at : Yes p l n size attributes → (lent : List ℕ) → new_file p n size attributes optional tail lent ≡ done (unit_after p l n size attributes optional tail) lent
    done_at y lent =
        new_file_done p n size attributes optional tail lent (subst (λ (k : ℕ). Yes p k n size attributes) (sym layers) y)
        ∙ ap (λ (k : ℕ). done (unit_after p k n size attributes optional tail) lent) layers

    module _ {none : List ℕ} {given k r : ℕ} (e : none ≡ zero_words 256) (is : given ≡ l) (count : k ≡ need o.slice size) (answer : RoomFor image o given none k r) where
      room_word_lem : (lent : List ℕ) → r ≡ (room_outcome p l n size attributes optional tail lent).answer.result
      room_word_lem lent =
          let c : k ≡ need p.s size = count ∙ ap (λ (s : ℕ). need s size) asked.numbers.slice in
          let own : RoomFor image o l none (need p.s size) r = rw (is, c) at answer in
          own.all p (sys_of p) [] (asked_of e) lent (table_put n (file_with p size attributes optional tail (taking p (sys_of p) l [] (need p.s size)).file_new) p.files)

      room_refused : (r ≡ 0 → ⊥) → NewFileStep p image n size attributes optional tail image r
      room_refused ne = record {
        step = λ lent.
            let t : Taking = taking p (sys_of p) l [] (need p.s size) in
            let files : Table File = table_put n (file_with p size attributes optional tail t.file_new) p.files in
            refuses ne
            (rest_is lent ∙ enough_no p (sys_of p) t t.file_new lent files (λ z. ne (room_word_lem lent ∙ z)) ∙ ap (λ (w : ℕ). replies p w lent) (sym (room_word_lem lent)))
            refl;
      }

      room_yes : r ≡ 0 → Yes p l n size attributes
      room_yes z =
          let t : Taking = taking p (sys_of p) l [] (need p.s size) in
          let files : Table File = table_put n (file_with p size attributes optional tail t.file_new) p.files in
          let en = enough_yes p (sys_of p) t t.file_new [] files (sym (room_word_lem []) ∙ z) in
          let ok = legal asked in
          record {
            name = ok.name;
            short = ok.short;
            allowed = ok.allowed;
            given = ok.given;
            vacant = vacant;
            room = rw (le-leb _ _ en.free) tt;
            sys_few = rw (le-leb _ _ en.catalog) tt;
            few = rw (le-leb _ _ en.file) tt;
          }

-- ---- the key has an unused place

module _ {image : List ℕ} {o : Unit} {place : Place} {n size attributes : ℕ} {words : List ℕ} {p : Plain}
    (can : CanPlaceFrom image o place n size attributes words p) where
  same_layers : layers_for p.H (sys_of p) n p.files ≡ p.layers
  same_layers = layers_stay p.H (sys_of p) n p.files can.at.room

  module _ {none : List ℕ} {k r : ℕ} (e : none ≡ zero_words 256) (count : k ≡ need o.slice size) (answer : RoomFor image o o.catalog.layers none k r) where
    pub place_refused : (r ≡ 0 → ⊥) → NewFileStep p image n size attributes (optional_in words) (tail_in words) image r
    place_refused = room_refused can.asked same_layers e can.asked.numbers.catalog.layers count answer

    module _ (z : r ≡ 0) where
      yes : Yes p p.layers n size attributes
      yes = room_yes can.asked same_layers e can.asked.numbers.catalog.layers count answer z

      pub place_write : CanWriteFrom image o place n size attributes words p
      place_write =
          let new = new_stays can.asked.on.good n size attributes (optional_in words) (tail_in words) yes (three can.asked) (six can.asked) in
          record { place_for = can; room = new.room; few = new.few }

      pub place_done : {after : List ℕ} → FileWritten image o place n size attributes words after → NewFileStep p image n size attributes (optional_in words) (tail_in words) after 0
      place_done w = record {
        step = λ lent.
            writes
            (done_at can.asked same_layers yes lent ∙ ap (λ (q : Plain). done q lent) (unit_stays can.asked.on.good n size attributes (optional_in words) (tail_in words)))
            (stays (w.all p place_write) refl);
      }

-- ---- it has none: SYS grows first

module _ {image : List ℕ} {o : Unit} {n size attributes : ℕ} {words : List ℕ} {p : Plain} (can : CanGrowForFrom image o n size attributes words p) where
  num : NumbersOf o p
  num = can.asked.numbers

  more_layers : layers_for p.H (sys_of p) n p.files ≡ suc p.layers
  more_layers = layers_grow p.H (sys_of p) n p.files can.full

  next : o.catalog.layers + 1 ≡ suc p.layers
  next = ap (λ (l : ℕ). l + 1) num.catalog.layers ∙ add-one p.layers

  pub layers_fit : o.catalog.layers + 1 < 65536
  layers_fit =
      let gr : Ground p = ground p can.asked.on.good in
      omega (
        arith,
        num.catalog.layers,
        mul-le-mul_right p.layers can.asked.on.good.limits.keys_low,
        gr.sys_cover,
        mul_comm p.s (length p.sys),
        part_sectors p gr p.sys (sys_ground gr).part,
      )

  pub some_key : 1 ≤ o.catalog.keys
  some_key = omega (arith, num.catalog.keys, can.asked.on.good.limits.keys_low)

  module _ {none : List ℕ} {k r : ℕ} (e : none ≡ zero_words 256) (count : k ≡ need o.slice size) (answer : RoomFor image o (o.catalog.layers + 1) none k r) where
    pub grow_refused : (r ≡ 0 → ⊥) → NewFileStep p image n size attributes (optional_in words) (tail_in words) image r
    grow_refused = room_refused can.asked more_layers e next count answer

    module _ (z : r ≡ 0) where
      yes_grown : Yes p (suc p.layers) n size attributes
      yes_grown = room_yes can.asked more_layers e next count answer z

      pub can_grow : CanGrowFrom image o p (sys_of p)
      can_grow = record {
        catalog = sys_in can.asked.on num;
        room = sys_room yes_grown;
        few = sys_few_lem yes_grown;
      }

      new : NewFile (grown_unit p) n (new_file_of (grown_unit p) size attributes (optional_in words) (tail_in words))
      new = new_grown p (suc p.layers) n size attributes (optional_in words) (tail_in words) can.asked.on.good yes_grown (three can.asked) (six can.asked)

      module _ {middle : List ℕ} {o' : Unit} (g : Grows image o middle o') where
        grown : GrownFrom image p middle × NumbersOf o' (grown_unit p)
        grown = g.all p can_grow

        on' : OnDisc middle (grown_unit p)
        on' = grown_on can_grow grown.0

        pub grown_search : {key : ℕ} → key ≡ key_of o.catalog.keys n → Searchable middle o' × (key < o'.catalog.keys)
        grown_search q =
            let small : key_of o.catalog.keys n < o.catalog.keys = mod-lt _ some_key in
            (record { unit = grown_unit p; on = on_catalog on'; numbers = grown.1 }, omega (arith, q, grown.1.catalog.keys, num.catalog.keys))

        module _ {key : ℕ} {found : Option Place} (q : key ≡ key_of o.catalog.keys n) (finds : FindsUnused middle o' key found) where
          unused : UnusedFound middle (grown_unit p) (sys_of (grown_unit p)) (grown_unit p).files (key_of p.H n) found
          unused =
              subst (λ (x : ℕ). UnusedFound middle (grown_unit p) (sys_of (grown_unit p)) (grown_unit p).files x found) (q ∙ ap (λ (h : ℕ). key_of h n) num.catalog.keys) (finds.all (grown_unit p) (on_catalog on') grown.1)

          -- the new layer has unused places
          pub never_full : found ≡ None → ⊥
          never_full h = omega (arith, unused.nothing h, can.asked.on.good.catalog.chains (key_of p.H n))

          module _ {place : Place} (h : found ≡ Some place) where
            pub grown_write : CanWriteFrom middle o' place n size attributes words (grown_unit p)
            grown_write = record {
              place_for = record {
                asked = record {
                  on = on';
                  numbers = grown.1;
                  legal = can.asked.legal;
                  fresh = new.fresh;
                  long = can.asked.long;
                  lent = can.asked.lent;
                };
                at = unused.at place h;
              };
              room = new.room;
              few = new.few;
            }

            pub grown_done : {after : List ℕ} → FileWritten middle o' place n size attributes words after → NewFileStep p image n size attributes (optional_in words) (tail_in words) after 0
            grown_done w = record {
              step = λ lent.
                  writes
                  (done_at can.asked more_layers yes_grown lent ∙ ap (λ (u : Plain). done u lent) (unit_grown p (suc p.layers) n size attributes (optional_in words) (tail_in words)))
                  (grows (record { full = can.full; grown = middle; grows = grown.0; created = w.all (grown_unit p) grown_write }) refl);
            }
