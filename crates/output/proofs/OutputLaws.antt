-- Output by what the code finds: each answer is the plain unit's, and image and state are those of its unit.
use mathlib.Core.Path.{◌≡◌, refl, sym, ap, ◌∙◌, subst}
use mathlib.Core.Bool.{true, false, cond}
use mathlib.Core.List.{List, [], ◌∷◌, ◌++◌}
use mathlib.Core.Logic.{◌≢◌}
use mathlib.Core.Option.{some}
use Prim.Native.Nat.{ℕ, suc, ◌+◌, ◌≤◌, ◌<◌}
use native.Mathlib.Omega.{arith}
use native.Mathlib.Numerals.{add-one}
use lib.Dec.{ltb, eqb}
use lib.ListN.{length, take, length-set, length-append}
use lib.Seq.{length-take-le}
use borrow.Author.Tests.{lt-ltb, le-ltb, ne_eqb}
use Rattle.types.specs.declared.Sector.{Sector}
use Rattle.types.specs.declared.Area.{Area}
use Rattle.types.specs.declared.State.{State}
use Rattle.types.specs.State.{area_at}
use Rattle.disc.specs.Numbers.{need}
use Rattle.disc.specs.Words.{Words}
use Rattle.disc.specs.Attributes.{extendable}
use Rattle.disc.specs.Entries.{index_sector}
use Rattle.disc.proofs.Compare.{same_or, below_or}
use Rattle.index.specs.Block.{whole_index, slice_total}
use Rattle.catalog.specs.declared.Unit.{Unit}
use Rattle.disc.specs.Names.{packed}
use Rattle.state.specs.Areas.{set_area, moved, with_live}
use Rattle.plain.specs.Table.{table_find}
use Rattle.plain.specs.Unit.{Plain, File, held}
use Rattle.plain.specs.Areas as plain
use Rattle.plain.specs.Transput.{one_if, slices_to_take, output, rewritten, with_file}
use Rattle.plain.proofs.TableLaws.{find_put}
use Rattle.plain.proofs.QuestionLaws.{true_yes, either_yes}
use Rattle.refine.specs.Represents.{SameAreas}
use Rattle.refine.specs.OnDisc.{OnDisc}
use Rattle.refine.specs.Writes.{replaced_image, appended_image, extended_image}
use Rattle.refine.proofs.LeavesLaws.{leaves, leaves_by}
use Rattle.refine.proofs.StateLaws.{named_name, same_index}
use Rattle.refine.proofs.Ground.{length_small, ground}
use Rattle.preservation.proofs.Whole.{on_disc, stand_for_lem}
use Rattle.preservation.proofs.AreaMessages.{area_found, sender_found, output_areas, replace_areas, area_set}
use Rattle.preservation.proofs.OutputStep.{words_there, extended_on, appended_stored, replaced_on, appended_on, appends_extends, appends_room, appends_few}
use Rattle.lookup.specs.Files.{BlockOf}
use Rattle.slices.specs.Take.{CanTake}
use Rattle.area_users.specs.declared.AreaReply.{AreaReply}
use Rattle.area_users.specs.AreaUsers.{area_reply, at_position}
use Rattle.refine.specs.Leaves.{Leaves, StandFor}
use Rattle.area_users.specs.Seat.{area_users, area_user}
use Rattle.area_users.proofs.UserLaws.{seat_size, seat_low}
use Rattle.blocks.specs.Blocks.{AttributesOf, BlockFrom, SomeBlock, BlockReplaced}
use Rattle.blocks.proofs.BlockLaws.{file_attributes}
use Rattle.preservation.specs.Units.{append_slices}
use Rattle.output.specs.Output.{room_word, RoomFor, CanExtendFrom, ExtendedBy, Placed, SomePlaced, output_word, output_image, output_state, prepared_image, output_reply, Prepares, OutputLeaves, Outputs}
use Rattle.output.proofs.FileLaws.{total_small, more_is, can-take}
use Rattle.output.proofs.AppendLaws.{appending, appends}

-- ---- the three ways of Output

module _ (p : Plain) (f : File) (k : ℕ) where
  pub image_refused : (image lent : List ℕ) (word : ℕ) → word ≢ 0 → image ≡ output_image p image f word k lent
  unfolding output_image
  image_refused image lent word d = rw (ne_eqb word 0 d) refl

  pub state_refused : (state : State) (j u word : ℕ) → word ≢ 0 → at_position state j u k ≡ output_state p f state j u word k
  unfolding output_state
  state_refused state j u word d = rw (ne_eqb word 0 d) refl

  word_end : length f.sectors ≤ k → output_word p f k ≡ cond (extendable f.attributes) (room_word p f) 0x0A00
  unfolding output_word
  word_end x = rw (le-ltb k (length f.sectors) x) refl

  module _ (image lent : List ℕ) (state : State) (j u : ℕ) where
    -- Where the word is `word`: the image before the block is stored and after it, and the reply.
    record Way (word : ℕ) (before after : List ℕ) (next : State) : Type 0 where
      before_is : prepared_image p image f k ≡ before
      after_is : output_image p image f (output_word p f k) k lent ≡ after
      reply_is : output_reply p f state j u k ≡ area_reply next word (cond (eqb word 0) 512 0) k

    way_refused : output_word p f k ≢ 0 → Way (output_word p f k) image image (at_position state j u k)
    unfolding prepared_image output_image output_state
    way_refused d = let e = ne_eqb (output_word p f k) 0 d in record { before_is = rw e refl; after_is = rw e refl; reply_is = rw e refl }

    refuses : {word : ℕ} {reply : AreaReply} → word ≢ 0 → word ≡ output_word p f k → reply ≡ area_reply (at_position state j u k) word 0 k
        → (reply ≡ output_reply p f state j u k) × (image ≡ prepared_image p image f k)
    refuses d is e =
        let no : output_word p f k ≢ 0 = λ z. d (is ∙ z) in
        let w = way_refused no in
        (e ∙ rw (is, w.reply_is, ne_eqb (output_word p f k) 0 no) refl, sym w.before_is)

    way_below : k < length f.sectors → Way 0 image (replaced_image p image f k (take 256 lent)) (at_position state j u (suc k))
    unfolding output_word prepared_image output_image output_state
    way_below x = let e = lt-ltb k (length f.sectors) x in record { before_is = rw e refl; after_is = rw e refl; reply_is = rw e refl }

    way_end : length f.sectors ≤ k → output_word p f k ≡ 0
        → let slices : List ℕ = f.slices ++ append_slices p f in
        Way 0 (extended_image p image f (append_slices p f)) (appended_image p image f (append_slices p f) (take 256 lent))
        (set_area state j (with_live (moved (area_at state j) u (record { 0 = suc k })) (record { 0 = index_sector p.F p.s (length slices) slices }) (suc (length f.sectors))))
    unfolding prepared_image output_image output_state
    way_end x z = let e = le-ltb k (length f.sectors) x in record { before_is = rw (z, e) refl; after_is = rw (z, e) refl; reply_is = rw (z, e) refl }

-- In the image and the state that are left before the block is stored, block k is a file's; with the lent words it gives Output's image.
record Ready (image : List ℕ) (p : Plain) (f : File) (k j : ℕ) (before : List ℕ) (reply : AreaReply) : Type 0 where
  block : SomeBlock before (area_at reply.state j).index.0 k
  stored : (lent : List ℕ) → 256 ≤ length lent → replaced_image block.p before block.f k (take 256 lent) ≡ output_image p image f (output_word p f k) k lent

-- ---- one unit

module _ {image : List ℕ} {state : State} {o : Unit} {p q : Plain} {n j sender u : ℕ} {f : File} {k : ℕ} (at : Placed image state o p q n j sender u f k) where
  placed_on : OnDisc image p
  placed_on = on_disc at.seat.good at.seat.represents

  same : SameAreas state p
  same = at.seat.represents.areas

  placed_live : table_find n p.areas ≡ some (area_users state j)
  placed_live = area_found same n j at.seat.named

  placed_user : table_find sender (area_users state j) ≡ some (area_user state j u)
  placed_user = sender_found same n j at.seat.named sender at.seat.nonzero u at.seat.entry

  placed_index : (area_at state j).index.0 ≡ index_sector p.F p.s (length f.slices) f.slices
  placed_index = same_index state p same n j f at.seat.named at.seat.file

  placed_size : (area_at state j).length ≡ length f.sectors
  placed_size = seat_size at.seat

  -- ---- the outcome

  module _ (lent : List ℕ) where
    abbrev move : ℕ → Plain
    move = plain.moved p n sender (area_users state j) (area_user state j u)

    -- answer and lent words are the outcome's, image and state those of its unit
    Left : AreaReply → List ℕ → Type 0
    Left r after = Leaves (output p q move n f k lent) r.answer lent (StandFor after r.state)

    refused : length f.sectors ≤ k → output_word p f k ≢ 0 → Left (area_reply (at_position state j u k) (output_word p f k) 0 k) image
    unfolding Left
    refused x d = leaves ((appending p q move n f k lent x).refused d) at.good at.represents

    module _ (long : 256 ≤ length lent) (words : Words lent) where
      replaced : k < length f.sectors → Left (area_reply (at_position state j u (suc k)) 0 512 k) (replaced_image p image f k (take 256 lent))
      unfolding Left output
      replaced x =
          leaves_by (either_yes _ _ _ (true_yes (lt-ltb k (length f.sectors) x)))
          (stand_for_lem (replaced_on placed_on n sender placed_live placed_user at.seat.file k lent long words x) (replace_areas same n j at.seat.named sender at.seat.nonzero u at.seat.entry f at.seat.file _ (length-set f.sectors k (take 256 lent)) (record { 0 = suc k })))

      appended : length f.sectors ≤ k → output_word p f k ≡ 0
          → let slices : List ℕ = f.slices ++ append_slices p f in
          Left (area_reply (set_area state j (with_live (moved (area_at state j) u (record { 0 = suc k })) (record { 0 = index_sector p.F p.s (length slices) slices }) (suc (length f.sectors)))) 0 512 k)
          (appended_image p image f (append_slices p f) (take 256 lent))
      unfolding Left
      appended x z =
          let a = (appending p q move n f k lent x).done z in
          let sectors : List (List ℕ) = f.sectors ++ (take 256 lent ∷ []) in
          let more : suc (length f.sectors) ≡ length sectors = omega (arith, length-append f.sectors (take 256 lent ∷ [])) in
          leaves_by a.0
          (stand_for_lem (appended_on placed_on n sender placed_live placed_user at.seat.file k lent long words at.low a.1) (output_areas same n j at.seat.named sender at.seat.nonzero u at.seat.entry f (f.slices ++ append_slices p f) sectors (record { 0 = suc k }) _ _ refl more))

      outcome : Left (output_reply p f state j u k) (output_image p image f (output_word p f k) k lent)
      outcome = below_or k (length f.sectors)
          (λ x. let w = way_below p f k image lent state j u x in rw (w.reply_is, w.after_is) (replaced x))
          (λ x. same_or (output_word p f k) 0
          (λ z. let w = way_end p f k image lent state j u x z in rw (w.reply_is, w.after_is) (appended x z))
          (λ d. let w = way_refused p f k image lent state j u d in rw (w.reply_is, w.after_is, ne_eqb (output_word p f k) 0 d) (refused x d)))

      pub output_leaves : OutputLeaves image state p q n j sender u f k lent (output_reply p f state j u k) (output_image p image f (output_word p f k) k lent)
      unfolding Left
      output_leaves = record { leaves = outcome; block = refl; written = refl; reached = refl }

  -- ---- the block that is replaced

  area_after : (new : Area) → area_at (set_area state j new) j ≡ new
  area_after new = area_set state j new (omega (arith, same.shaped.eight, seat_low at.seat))

  ready_below : k < length f.sectors → Ready image p f k j image (area_reply (at_position state j u (suc k)) 0 512 k)
  ready_below x = record {
    block = record { p = p; n = n; f = f; from = record { on = placed_on; file = at.seat.file; first = ap (λ (y : Area). y.index.0) (area_after _) ∙ placed_index; below = x } };
    stored = λ lent long. sym (way_below p f k image lent state j u x).after_is;
  }

  ready_end : length f.sectors ≤ k → output_word p f k ≡ 0 → (area : Area) → index_sector p.F p.s (length (f.slices ++ append_slices p f)) (f.slices ++ append_slices p f) ≡ area.index.0
      → Ready image p f k j (extended_image p image f (append_slices p f)) (area_reply (set_area state j area) 0 512 k)
  unfolding replaced_image
  ready_end x z area e =
      let a = appends p f k x z in
      let ext = appends_extends a in
      let room = appends_room a in
      let few = appends_few a in
      let there : List ℕ = words_there placed_on n at.seat.file placed_live ext room few in
      let more : File = rewritten f (f.slices ++ append_slices p f) (f.sectors ++ (there ∷ [])) in
      let end : length f.sectors ≡ k = omega (arith, at.low) in
      record {
        block = record {
          p = with_file n more p;
          n = n;
          f = more;
          from = record {
            on = extended_on placed_on n at.seat.file placed_live ext room few;
            file = find_put n more p.files;
            first = ap (λ (y : Area). y.index.0) (area_after area) ∙ sym e;
            below = omega (arith, length-append f.sectors (there ∷ []));
          };
        };
        stored = λ lent long.
            ap (λ (b : ℕ). replaced_image p (extended_image p image f (append_slices p f)) more b (take 256 lent)) (sym end)
            ∙ appended_stored placed_on n at.seat.file placed_live ext room few (take 256 lent) (length-take-le 256 lent long)
            ∙ sym (way_end p f k image lent state j u x z).after_is;
      }

  ready : output_word p f k ≡ 0 → Ready image p f k j (prepared_image p image f k) (output_reply p f state j u k)
  ready z = below_or k (length f.sectors)
      (λ x. let w = way_below p f k image [] state j u x in rw (w.before_is, w.reply_is) (ready_below x))
      (λ x. let w = way_end p f k image [] state j u x z in rw (w.before_is, w.reply_is) (ready_end x z _ refl))

-- ---- what the functions ask

module _ {image : List ℕ} {state : State} {o : Unit} {j u k : ℕ} (some : SomePlaced image state o j u k) where
  pub position_asks : k < 65535
  position_asks =
      let at = some.placed in
      omega (arith, at.low, length_small some.p (ground some.p (placed_on at).good) some.n some.f at.seat.file)

-- ---- every unit on the image, by what the code finds

module _ {image : List ℕ} {state : State} {o : Unit} {j u k : ℕ} {area : Area} (own : area ≡ area_at state j) where
  -- what was found is that of every file that is placed
  module _ {p q : Plain} {n sender : ℕ} {f : File} (at : Placed image state o p q n j sender u f k) where
    pub own_size : area.length ≡ length f.sectors
    own_size = ap (λ (x : Area). x.length) own ∙ placed_size at

    -- block k
    pub own_from : k < area.length → BlockFrom image area.index.0 k p n f
    own_from x = record { on = placed_on at; file = at.seat.file; first = ap (λ (y : Area). y.index.0) own ∙ placed_index at; below = omega (arith, own_size) }

    pub own_attributes : {a : ℕ} → AttributesOf image o (packed area.name) a → a ≡ f.attributes
    own_attributes {a} h =
        let e : packed area.name ≡ n = ap (λ (x : Area). packed x.name) own ∙ named_name state n j at.seat.named in
        file_attributes (subst (λ (m : ℕ). AttributesOf image o m a) e h) (placed_on at) at.numbers at.seat.file

    own_block_lem : {words : List ℕ} → BlockOf image area.index.0 words → words ≡ whole_index p.F p.s f.slices
    own_block_lem b = b.all p (placed_on at) n f at.seat.file (ap (λ (x : Area). x.index.0) own ∙ placed_index at)

    own_more : {words : List ℕ} {more : ℕ} → BlockOf image area.index.0 words → more ≡ one_if (ltb (slice_total o.slice words 0) (need o.slice (area.length + 1)))
        → more ≡ slices_to_take p.s f
    own_more b e = more_is (placed_on at) n at.seat.file (own_block_lem b) own_size (rw at.numbers.slice at e)

  -- what the functions ask
  module _ (some : SomePlaced image state o j u k) where
    pub more_asks : {words : List ℕ} → BlockOf image area.index.0 words → (2 ≤ o.slice) × (slice_total o.slice words 0 < 65536) × (area.length < 65535)
    more_asks {words} b =
        let at = some.placed in
        let on = placed_on at in
        let fits : slice_total o.slice words 0 < 65536 = rw at.numbers.slice (total_small on some.n at.seat.file (own_block_lem at b)) in
        (omega (arith, on.good.limits.slice_low, at.numbers.slice), fits, omega (arith, own_size at, length_small some.p (ground some.p on.good) some.n some.f at.seat.file))

    pub room_asks : {words : List ℕ} → BlockOf image area.index.0 words → CanTake image words o.first.0 o.slice o.slices 0
    room_asks b =
        let at = some.placed in
        record {
          held = held some.p;
          slices = some.f.slices;
          can = rw (at.numbers.first, at.numbers.slice, at.numbers.slices) (can-take (placed_on at) some.n at.seat.file (own_block_lem at b));
        }

    pub block_there : k < area.length → SomeBlock image area.index.0 k
    block_there x = record { p = some.p; n = some.n; f = some.f; from = own_from some.placed x }

  -- ---- the reply and the image before the block is stored

  pub prepares_below : {next : State} → k < area.length → next ≡ at_position state j u (k + 1) → Prepares image state o j u k (area_reply next 0 512 k) image
  prepares_below x e = record {
    all = λ p q n sender f at.
        let w = way_below p f k image [] state j u (omega (arith, own_size at)) in
        (rw (e, add-one) (sym w.reply_is), sym w.before_is);
  }

  module _ (end : area.length ≤ k) {a : ℕ} (attributes : AttributesOf image o (packed area.name) a) where
    at_end : {p q : Plain} {n sender : ℕ} {f : File} → Placed image state o p q n j sender u f k → length f.sectors ≤ k
    at_end at = omega (arith, own_size at)

    pub prepares_fixed : extendable a ≡ false → Prepares image state o j u k (area_reply (at_position state j u k) 0x0A00 0 k) image
    prepares_fixed not = record {
      all = λ p q n sender f at. refuses p f k image [] state j u (omega arith) (sym (word_end p f k (at_end at) ∙ rw (← own_attributes at attributes, not) refl)) refl;
    }

    module _ (extends : extendable a ≡ true) {words : List ℕ} {more : ℕ} (block : BlockOf image area.index.0 words)
        (m : more ≡ one_if (ltb (slice_total o.slice words 0) (need o.slice (area.length + 1)))) {word : ℕ} (room : RoomFor image o words more word) where
      own_word : {p q : Plain} {n sender : ℕ} {f : File} → Placed image state o p q n j sender u f k → word ≡ output_word p f k
      own_word {p} {q} {n} {sender} {f} at =
          room.all p (placed_on at) at.numbers n f at.seat.file (own_block_lem at block) (own_more at block m)
          ∙ sym (word_end p f k (at_end at) ∙ rw (← own_attributes at attributes, extends) refl)

      pub prepares_full : word ≢ 0 → Prepares image state o j u k (area_reply (at_position state j u k) word 0 k) image
      prepares_full d = record { all = λ p q n sender f at. refuses p f k image [] state j u d (own_word at) refl }

      module _ (yes : word ≡ 0) where
        pub can_extend : {p q : Plain} {n sender : ℕ} {f : File} → Placed image state o p q n j sender u f k → CanExtendFrom image o words more p n (area_users state j) f
        can_extend {p} {f = f} at = record {
          on = placed_on at;
          numbers = at.numbers;
          file = at.seat.file;
          live = placed_live at;
          words = own_block_lem at block;
          more = own_more at block m;
          yes = ap (output_word p f) (let end : length f.sectors ≡ k = omega (arith, at.low, at_end at) in end) ∙ sym (own_word at) ∙ yes;
        }

        pub prepares_extended : {index : Sector} {there next : Area} {state' : State} {after : List ℕ} → ExtendedBy image o words more after index.0
            → there ≡ moved area u (record { 0 = k + 1 }) → next ≡ with_live there index (area.length + 1) → state' ≡ set_area state j next
            → Prepares image state o j u k (area_reply state' 0 512 k) after
        prepares_extended {index} written m n s = record {
          all = λ p q name sender f at.
              let w = written.all p name (area_users state j) f (can_extend at) in
              let first : index ≡ record { 0 = _ } = ap (λ (y : ℕ). record { 0 = y }) w.1 in
              let size : area.length + 1 ≡ suc (length f.sectors) = omega (arith, own_size at) in
              let way = way_end p f k image [] state j u (at_end at) (sym (own_word at) ∙ yes) in
              (rw (s, n, m, size, first, add-one k, own) (sym way.reply_is), w.0 ∙ sym way.before_is);
        }

-- ---- the block stored

module _ {image : List ℕ} {state : State} {o : Unit} {j u k : ℕ} {reply : AreaReply} {before : List ℕ} (prepared : Prepares image state o j u k reply before) where
  reply_word : {p q : Plain} {n sender : ℕ} {f : File} → Placed image state o p q n j sender u f k → reply.answer.result ≡ output_word p f k
  reply_word {p} {q} {n} {sender} {f} at = ap (λ (r : AreaReply). r.answer.result) (prepared.all p q n sender f at).0

  pub outputs_refused : {lent : List ℕ} → 256 ≤ length lent → Words lent → reply.answer.result ≢ 0 → Outputs image state o j u k lent reply before
  outputs_refused {lent} long words d = record {
    all = λ p q n sender f at.
        let h = prepared.all p q n sender f at in
        let w = way_refused p f k image lent state j u (λ z. d (reply_word at ∙ z)) in
        rw (h.0, h.1 ∙ w.before_is ∙ sym w.after_is) (output_leaves at lent long words);
  }

  module _ (yes : reply.answer.result ≡ 0) {area : Area} (own : area ≡ area_at reply.state j) where
    placed_ready : {p q : Plain} {n sender : ℕ} {f : File} → Placed image state o p q n j sender u f k → Ready image p f k j before reply
    placed_ready {p} {q} {n} {sender} {f} at =
        let h = prepared.all p q n sender f at in
        rw (h.0, h.1) (ready at (sym (reply_word at) ∙ yes))

    pub block_ready : SomePlaced image state o j u k → SomeBlock before area.index.0 k
    block_ready h = rw own (placed_ready h.placed).block

    pub outputs_stored : {lent after : List ℕ} → 256 ≤ length lent → Words lent → BlockReplaced before area.index.0 k lent after → Outputs image state o j u k lent reply after
    outputs_stored {lent} long words h = record {
      all = λ p q n sender f at.
          let r = placed_ready at in
          let b = r.block in
          rw ((prepared.all p q n sender f at).0, (rw own at h).all b.p b.n b.f b.from ∙ r.stored lent long) (output_leaves at lent long words);
    }
