-- Records that stand for the entries of a table, each once: four words for each place in use, and what is made of them in name order.
use mathlib.Core.Path.{◌≡◌, refl, sym, ap, ◌∙◌}
use mathlib.Core.List.{List, [], ◌++◌, append-nil}
use mathlib.Core.Option.{Option, none, some}
use Prim.Native.Nat.{ℕ, zero, suc, ◌+◌, ◌-◌, ◌*◌, ◌/◌, ◌%◌, ◌≤◌, ◌<◌}
use native.Mathlib.Omega.{arith}
use lib.ListN.{length, get_or, drop, length-append, length-drop, get_or-append}
use lib.Seq.{ext_get_or, get_or-append-add, get_or-drop}
use Rattle.disc.specs.Entries.{name_at}
use Rattle.disc.proofs.Compare.{same_or, below_or}
use Rattle.words.specs.Store.{store}
use Rattle.words.proofs.StoreLaws.{length_store, store_in, store_above}
use Rattle.plain.specs.Table.{Row, Table, table_find, table_put}
use Rattle.plain.specs.Questions.{fill}
use Rattle.plain.proofs.TableLaws.{one, weight_at, find_put, find_put_other, length_put}
use Rattle.plain.proofs.Collect.{collect, collect_find}
use Rattle.refine.proofs.CatalogLaws.{name_in, name_of}
use Rattle.order.specs.Records.{record_at, record_of, characters_of, group_of}
use Rattle.order.specs.ByName.{Rearranged, Inside, CanOrder, ByName}
use Rattle.order.proofs.RecordLaws.{record_same}
use Rattle.order.proofs.RearrangeLaws.{rearranged_same}
use Rattle.order.proofs.Increasing.{Increases}
use Rattle.reports.specs.Listing.{in_turn}
use Rattle.reports.proofs.OrderLaws.{EachOnce, none_once, once_more, same_groups, group_word, ListingOf}

-- ---- records in lists of words

module _ (l m : List ℕ) (c : ℕ) (n : length l ≡ 4 * c) where
  kept_record : (i : ℕ) → i < c → record_at (l ++ m) i ≡ record_at l i
  kept_record i x = record_same (l ++ m) l i i (λ w y. get_or-append l m 0 (4 * i + w) (omega arith))

  last_record : record_at (l ++ m) c ≡ record_at m 0
  last_record = record_same (l ++ m) m c 0 (λ w y.
      let k : 4 * c + w ≡ length l + (4 * 0 + w) = omega arith in
      ap (λ (j : ℕ). get_or (l ++ m) j 0) k ∙ get_or-append-add l m (4 * 0 + w) 0)

stored_record : (lent l : List ℕ) (n i : ℕ) → length l ≡ 4 * n → 8 * n ≤ length lent → i < n → record_at (store lent (4 * n) l) (n + i) ≡ record_at l i
stored_record lent l n i e room x = record_same (store lent (4 * n) l) l (n + i) i (λ w y.
    let k : 4 * (n + i) + w ≡ 4 * n + (4 * i + w) = omega arith in
    ap (λ (j : ℕ). get_or (store lent (4 * n) l) j 0) k ∙ store_in lent (4 * n) l (4 * i + w) (omega arith) (omega arith))

-- ---- a table's entries, a record to each

-- word w of the group that record i of a sequence stands for
abbrev record_group : List ℕ → (ℕ → ℕ) → ℕ → ℕ → ℕ
record_group image r i w = get_or image (16 * group_of (r i) + w) 0

pub record RecordsOf (image : List ℕ) (T : Table (List ℕ)) (r : ℕ → ℕ) : Type 0 where
  pub once : EachOnce T (record_group image r)
  pub named : (i : ℕ) → i < length T → characters_of (r i) * 256 ≡ name_at (record_group image r) i
  pub inside : Inside image (length T) r

-- in another order
module _ {image : List ℕ} {T : Table (List ℕ)} {r s : ℕ → ℕ} (all : RecordsOf image T r) (m : Rearranged (length T) r s) where
  moved_name : (t : ℕ) → t < length T → name_at (record_group image s) t ≡ name_at (record_group image r) (m.from t)
  moved_name t x = ap (λ (z : ℕ). name_at (record_group image (λ i. z)) 0) (m.same t x)

  moved_once : EachOnce T (record_group image s)
  moved_once = record {
    each = λ t x.
        let g = all.once.each (m.from t) (m.from_inside t x) in
        record {
          words = g.words;
          entered = ap (λ (k : ℕ). table_find k T) (moved_name t x) ∙ g.entered;
          holds = λ w y. ap (λ (z : ℕ). record_group image (λ i. z) 0 w) (m.same t x) ∙ g.holds w y;
        };
    there = λ n e h.
        let u = all.once.there n e h in
        (m.into u.0, m.into_inside u.0 u.1, moved_name (m.into u.0) (m.into_inside u.0 u.1) ∙ ap (name_at (record_group image r)) (m.from_into u.0 u.1) ∙ u.2);
    alone = λ t u x y q.
        let e = all.once.alone (m.from t) (m.from u) (m.from_inside t x) (m.from_inside u y) (sym (moved_name t x) ∙ q ∙ moved_name u y) in
        sym (m.into_from t x) ∙ ap m.into e ∙ m.into_from u y;
  }

  records_moved : RecordsOf image T s
  records_moved = record {
    once = moved_once;
    named = λ t x. ap (λ (z : ℕ). characters_of z * 256) (m.same t x) ∙ all.named (m.from t) (m.from_inside t x) ∙ sym (moved_name t x);
    inside = λ t x. rw (m.same t x) (all.inside (m.from t) (m.from_inside t x));
  }

-- ---- the records noted, place after place

pub record NotesOf (image : List ℕ) (T : Table (List ℕ)) (l : List ℕ) : Type 0 where
  pub size : length l ≡ 4 * length T
  pub all : RecordsOf image T (record_at l)

-- the record of a row's entry
pub record RowNote (image : List ℕ) (r : Row (List ℕ)) (l : List ℕ) : Type 0 where
  pub size : length l ≡ 4
  pub group : ℕ
  pub few : group < 0x1000000
  pub made : record_at l 0 ≡ record_of r.key group
  pub sixth : r.key % 256 ≡ 0
  pub words : (w : ℕ) → w < 16 → get_or image (16 * group + w) 0 ≡ get_or r.val w 0
  pub name : name_in r.val ≡ r.key
  pub inside : 16 * group + 16 ≤ length image

module _ {image : List ℕ} {r : Row (List ℕ)} {l : List ℕ} (new : RowNote image r l) where
  note_group : group_of (record_at l 0) ≡ new.group
  note_group = rw new.made (omega (arith, new.few, new.sixth))

  note_characters : characters_of (record_at l 0) * 256 ≡ r.key
  note_characters = rw new.made (omega (arith, new.few, new.sixth))

  note_words : (w : ℕ) → w < 16 → record_group image (record_at l) 0 w ≡ get_or r.val w 0
  note_words w y = rw note_group (new.words w y)

  note_named : characters_of (record_at l 0) * 256 ≡ name_at (record_group image (record_at l)) 0
  note_named = note_characters ∙ sym (name_of (record_group image (record_at l)) 0 r.val note_words ∙ new.name)

  note_inside : 16 * group_of (record_at l 0) + 16 ≤ length image
  note_inside = rw note_group new.inside

none_noted : (image : List ℕ) → NotesOf image [] []
none_noted image = record {
  size = omega arith;
  all = record { once = none_once (record_group image (record_at [])); named = λ i x. absurd (omega arith); inside = λ i x. absurd (omega arith) };
}

-- a new row's record behind the others
module _ {image : List ℕ} {T : Table (List ℕ)} {l m : List ℕ} (old : NotesOf image T l) (r : Row (List ℕ)) (new : RowNote image r m) (gone : table_find r.key T ≡ none) where
  longer : length (table_put r.key r.val T) ≡ suc (length T)
  longer = omega (arith, length_put r.key r.val T, ap (weight_at one r.key) gone)

  last : record_at (l ++ m) (length T) ≡ record_at m 0
  last = last_record l m (length T) old.size

  kept : (i : ℕ) → i < length T → record_at (l ++ m) i ≡ record_at l i
  kept i x = kept_record l m (length T) old.size i x

  back_once : EachOnce (table_put r.key r.val T) (record_group image (record_at (l ++ m)))
  back_once = once_more {a = length T} {n = r.key} {e = r.val} old.all.once (record {
    inside = omega arith;
    longer = longer;
    gone = gone;
    new = find_put r.key r.val T;
    other = λ k d. find_put_other k r.key r.val T d;
    named = new.name;
    here = λ w y. ap (λ (z : ℕ). get_or image (16 * group_of z + w) 0) last ∙ note_words new w y;
    low = λ t w x y. ap (λ (z : ℕ). get_or image (16 * group_of z + w) 0) (kept t x);
    high = λ t w x z y. absurd (omega arith);
  })

  notes_back : NotesOf image (table_put r.key r.val T) (l ++ m)
  notes_back = record {
    size = omega (arith, length-append l m, old.size, new.size, longer);
    all = record {
      once = back_once;
      named = λ i x. same_or i (length T) (λ q. rw (q, last) (note_named new)) (λ d. let h : i < length T = omega (arith, longer) in rw (kept i h) (old.all.named i h));
      inside = λ i x. same_or i (length T) (λ q. rw (q, last) (note_inside new)) (λ d. let h : i < length T = omega (arith, longer) in rw (kept i h) (old.all.inside i h));
    };
  }

-- the words of a place: its row's record, none if it has no row
abbrev pub PlaceNote : List ℕ → Option (Row (List ℕ)) → List ℕ → Type 0
PlaceNote image none l = l ≡ []
PlaceNote image (some r) l = RowNote image r l

-- a table collected from an array, and the records of its rows in the array's order
module _ (c : ℕ → Option (Row (List ℕ))) (pos : (t : ℕ) (r : Row (List ℕ)) → c t ≡ some r → 0 < r.key)
    (N : ℕ) (apart : (t u : ℕ) (r s : Row (List ℕ)) → t < N → u < N → c t ≡ some r → c u ≡ some s → r.key ≡ s.key → t ≡ u)
    (image : List ℕ) (f : ℕ → List ℕ) (notes : (t : ℕ) → t < N → PlaceNote image (c t) (f t)) where
  fresh : (n : ℕ) → n < N → (r : Row (List ℕ)) → c n ≡ some r → (o : Option (List ℕ)) → table_find r.key (collect c n) ≡ o → o ≡ none
  fresh n x r e none h = refl
  fresh n x r e (some a) h =
      let y = collect_find c pos n r.key a h in
      absurd (let z : n ≡ y.0 = apart n y.0 r (record { key = r.key; val = a }) x (omega (arith, y.1)) e y.2 refl in omega (arith, y.1))

  pub collect_notes : (n : ℕ) → n ≤ N → NotesOf image (collect c n) (in_turn f n)
  unfolding in_turn
  collect_notes zero x = none_noted image
  collect_notes (suc n) x = go (c n) refl (notes n (omega arith)) (collect_notes n (omega arith))
    where
      go : (o : Option (Row (List ℕ))) → c n ≡ o → PlaceNote image o (f n) → NotesOf image (collect c n) (in_turn f n) → NotesOf image (collect c (suc n)) (in_turn f n ++ f n)
      go none e w ih = rw (e, w, append-nil) ih
      go (some r) e w ih = rw e (notes_back ih r w (fresh n (omega arith) r e (table_find r.key (collect c n)) refl))

-- ---- the groups in name order

module _ {image : List ℕ} {T : Table (List ℕ)} {l : List ℕ} (notes : NotesOf image T l) (lent : List ℕ) (room : 16 * length T ≤ length lent) where
  -- the records stored where they are ordered from
  abbrev noted : List ℕ
  noted = store lent (4 * length T) l

  behind : RecordsOf image T (λ i. record_at noted (length T + i))
  behind = records_moved notes.all (rearranged_same (length T) (record_at l) (λ i. record_at noted (length T + i)) (λ i x. stored_record lent l (length T) i notes.size (omega arith) x))

  pub can_order : length T < 4294967296 → CanOrder image (length T) noted
  can_order few = record {
    few = few;
    room = rw length_store room;
    inside = behind.inside;
    apart = λ i j x y e.
        let h : i < length T = omega arith in
        let same : i ≡ j = behind.once.alone i j h y (omega (arith, behind.named i h, behind.named j y)) in
        omega arith;
  }

  module _ {m after : List ℕ} (by : ByName image (length T) noted after) (listing : ListingOf T m) (up : Increases (length T) (name_at (group_word m))) where
    ordered : RecordsOf image T by.records
    ordered = records_moved behind by.same

    ordered_up : Increases (length T) (name_at (record_group image by.records))
    ordered_up i j x y = omega (arith, by.increasing i j x y, ordered.named i (omega arith), ordered.named j y)

    -- word k of the listing, and behind it
    listed : (k : ℕ) → k < 16 * length T → get_or after k 0 ≡ get_or (fill m lent) k 0
    listed k x =
        let e : k ≡ 16 * (k / 16) + k % 16 = omega arith in
        let t : k / 16 < length T = omega arith in
        let w : k % 16 < 16 = omega arith in
        ap (λ (j : ℕ). get_or after j 0) e ∙ by.groups (k / 16) (k % 16) t w ∙ same_groups ordered.once listing.once ordered_up up (k / 16) (k % 16) t w
        ∙ ap (λ (j : ℕ). get_or m j 0) (sym e) ∙ sym (get_or-append m (drop (length m) lent) 0 k (omega (arith, listing.size)))

    rest : (k : ℕ) → 16 * length T ≤ k → get_or after k 0 ≡ get_or (fill m lent) k 0
    rest k x =
        let e : k ≡ length m + (k - length m) = omega (arith, listing.size) in
        by.rest k x ∙ store_above lent (4 * length T) l k (omega (arith, notes.size)) ∙ ap (λ (j : ℕ). get_or lent j 0) e ∙ sym (get_or-drop (length m) lent (k - length m) 0)
        ∙ sym (ap (λ (j : ℕ). get_or (fill m lent) j 0) e ∙ get_or-append-add m (drop (length m) lent) (k - length m) 0)

    pub in_name_order : after ≡ fill m lent
    in_name_order = ext_get_or 0 after (fill m lent)
        (omega (arith, by.size, length_store lent (4 * length T) l, length-append m (drop (length m) lent), length-drop (length m) lent, listing.size))
        (λ k x. below_or k (16 * length T) (listed k) (rest k))
