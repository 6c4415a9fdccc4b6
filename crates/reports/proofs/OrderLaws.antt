-- Groups of 16 words that are the entries of one table, each once. An entry is known by the name in it, so two such lists of groups that both
-- increase by name are the same, and the words of a sorted table's rows, one after the other, are such a list.
use mathlib.Core.Path.{◌≡◌, refl, sym, ap, ◌∙◌}
use mathlib.Core.List.{List, [], ◌∷◌, ◌++◌}
use mathlib.Core.Logic.{◌≢◌}
use mathlib.Core.Option.{none, some}
use Prim.Native.Nat.{ℕ, zero, suc, ◌+◌, ◌-◌, ◌*◌, ◌≤◌, ◌<◌, compare, Ordering}
use native.Mathlib.Omega.{arith}
use lib.ListN.{length, get_or, length-append, get_or-append}
use lib.Seq.{get_or-append-add}
use Rattle.disc.specs.Entries.{name_at}
use Rattle.disc.proofs.Compare.{Tri, less, same, more, tri, tri_same, tri_more, same_or, below_or}
use Rattle.plain.specs.Table.{Row, Table, find_by, table_find, SortedFrom}
use Rattle.plain.specs.Reports.{joined}
use Rattle.plain.proofs.TableLaws.{some≢none, some_inj, find_below, find_above}
use Rattle.refine.proofs.CatalogLaws.{name_in, name_cong, name_of}
use Rattle.order.proofs.Increasing.{Increases, Among, same_numbers}

-- two groups with the same words have the same name
name_same : (G K : ℕ → ℕ → ℕ) (t u : ℕ) → ((w : ℕ) → w < 16 → K t w ≡ G u w) → name_at K t ≡ name_at G u
name_same G K t u h = name_cong (λ x w. G u w) (λ x w. K t w) 0 h

-- group t is the entry of the name that stands in it
pub record GroupOf (T : Table (List ℕ)) (G : ℕ → ℕ → ℕ) (t : ℕ) : Type 0 where
  pub words : List ℕ
  pub entered : table_find (name_at G t) T ≡ some words
  pub holds : (w : ℕ) → w < 16 → G t w ≡ get_or words w 0

-- the groups are the table's entries, each once
pub record EachOnce (T : Table (List ℕ)) (G : ℕ → ℕ → ℕ) : Type 0 where
  pub each : (t : ℕ) → t < length T → GroupOf T G t
  pub there : (n : ℕ) (e : List ℕ) → table_find n T ≡ some e → (t : ℕ) × (t < length T) × (name_at G t ≡ n)
  pub alone : (t u : ℕ) → t < length T → u < length T → name_at G t ≡ name_at G u → t ≡ u

-- no groups, of no entries
pub none_once : (G : ℕ → ℕ → ℕ) → EachOnce [] G
none_once G = record {
  each = λ t x. absurd (omega arith);
  there = λ n e h. absurd (some≢none (sym h));
  alone = λ t u x y q. absurd (omega arith);
}

-- ---- one entry more

-- the table with an entry more; group a is the new one, and those from there on have moved up by one
pub record OneMore (T U : Table (List ℕ)) (G K : ℕ → ℕ → ℕ) (a n : ℕ) (e : List ℕ) : Type 0 where
  pub inside : a ≤ length T
  pub longer : length U ≡ suc (length T)
  pub gone : table_find n T ≡ none
  pub new : table_find n U ≡ some e
  pub other : (k : ℕ) → k ≢ n → table_find k U ≡ table_find k T
  pub named : name_in e ≡ n
  pub here : (w : ℕ) → w < 16 → K a w ≡ get_or e w 0
  pub low : (t w : ℕ) → t < a → w < 16 → K t w ≡ G t w
  pub high : (t w : ℕ) → a ≤ t → t < length T → w < 16 → K (suc t) w ≡ G t w

module _ {T U : Table (List ℕ)} {G K : ℕ → ℕ → ℕ} {a n : ℕ} {e : List ℕ} (once : EachOnce T G) (put : OneMore T U G K a n e) where
  here_name : name_at K a ≡ n
  here_name = name_of K a e put.here ∙ put.named

  -- an old group, and its number before
  record Old (t : ℕ) : Type 0 where
    pub was : ℕ
    pub within : was < length T
    pub words : (w : ℕ) → w < 16 → K t w ≡ G was w
    pub below : t < a → was ≡ t
    pub above : a < t → suc was ≡ t

  old : (t : ℕ) → t < length U → t ≢ a → Old t
  old t x d = below_or t a
      (λ (l : t < a). record { was = t; within = omega (arith, put.longer); words = λ w y. put.low t w l y; below = λ z. refl; above = λ z. absurd (omega arith) })
      (λ (l : a ≤ t).
      let up : suc (t - 1) ≡ t = omega arith in
      record {
        was = t - 1;
        within = omega (arith, put.longer);
        words = λ w y. ap (λ (k : ℕ). K k w) (sym up) ∙ put.high (t - 1) w (omega arith) (omega (arith, put.longer)) y;
        below = λ z. absurd (omega arith);
        above = λ z. up;
      })

  old_name : (t : ℕ) (o : Old t) → name_at K t ≡ name_at G o.was
  old_name t o = name_same G K t o.was o.words

  old_group : (t : ℕ) (o : Old t) → GroupOf T G o.was
  old_group t o = once.each o.was o.within

  not_new : (t : ℕ) (o : Old t) → name_at K t ≢ n
  not_new t o q = some≢none (sym (old_group t o).entered ∙ ap (λ (k : ℕ). table_find k T) (sym (old_name t o) ∙ q) ∙ put.gone)

  one_was : (t u : ℕ) (o : Old t) (v : Old u) → t ≢ a → u ≢ a → o.was ≡ v.was → t ≡ u
  one_was t u o v i j z = below_or t a
      (λ (l : t < a). below_or u a
      (λ (m : u < a). omega (arith, o.below l, v.below m))
      (λ (m : a ≤ u). let b = v.above (omega arith) in omega (arith, o.below l)))
      (λ (l : a ≤ t).
      let b = o.above (omega arith) in
      below_or u a
      (λ (m : u < a). omega (arith, v.below m))
      (λ (m : a ≤ u). omega (arith, v.above (omega arith))))

  put_each : (t : ℕ) → t < length U → GroupOf U K t
  put_each t x = same_or t a
      (λ q. rw q (record { words = e; entered = ap (λ (k : ℕ). table_find k U) here_name ∙ put.new; holds = put.here }))
      (λ d.
      let o = old t x d in
      let g = old_group t o in
      record {
        words = g.words;
        entered = put.other (name_at K t) (not_new t o) ∙ ap (λ (k : ℕ). table_find k T) (old_name t o) ∙ g.entered;
        holds = λ w y. o.words w y ∙ g.holds w y;
      })

  put_there : (k : ℕ) (f : List ℕ) → table_find k U ≡ some f → (t : ℕ) × (t < length U) × (name_at K t ≡ k)
  put_there k f h = same_or k n
      (λ q. (a, omega (arith, put.longer, put.inside), here_name ∙ sym q))
      (λ d.
      let s = once.there k f (sym (put.other k d) ∙ h) in
      below_or s.0 a
      (λ (l : s.0 < a). (s.0, omega (arith, s.1, put.longer), name_same G K s.0 s.0 (λ w y. put.low s.0 w l y) ∙ s.2))
      (λ (l : a ≤ s.0). (suc s.0, omega (arith, s.1, put.longer), name_same G K (suc s.0) s.0 (λ w y. put.high s.0 w l s.1 y) ∙ s.2)))

  put_alone : (t u : ℕ) → t < length U → u < length U → name_at K t ≡ name_at K u → t ≡ u
  put_alone t u x y q = same_or t a
      (λ i. same_or u a (λ j. i ∙ sym j) (λ j. absurd (not_new u (old u y j) (sym q ∙ ap (name_at K) i ∙ here_name))))
      (λ i. same_or u a
      (λ j. absurd (not_new t (old t x i) (q ∙ ap (name_at K) j ∙ here_name)))
      (λ j.
      let o = old t x i in
      let v = old u y j in
      one_was t u o v i j (once.alone o.was v.was o.within v.within (sym (old_name t o) ∙ q ∙ old_name u v))))

  pub once_more : EachOnce U K
  once_more = record { each = put_each; there = put_there; alone = put_alone }

-- ---- two lists of groups

module _ {T : Table (List ℕ)} {G K : ℕ → ℕ → ℕ} (a : EachOnce T G) (b : EachOnce T K) where
  names_among : Among (length T) (name_at G) (name_at K)
  names_among t x = let g = a.each t x in b.there (name_at G t) g.words g.entered

  same_entry : (t w : ℕ) → t < length T → w < 16 → name_at G t ≡ name_at K t → G t w ≡ K t w
  same_entry t w x y e =
      let g = a.each t x in
      let h = b.each t x in
      let z : g.words ≡ h.words = some_inj (sym g.entered ∙ ap (λ (k : ℕ). table_find k T) e ∙ h.entered) in
      g.holds w y ∙ ap (λ (l : List ℕ). get_or l w 0) z ∙ sym (h.holds w y)

pub same_groups : {T : Table (List ℕ)} {G K : ℕ → ℕ → ℕ} → EachOnce T G → EachOnce T K → Increases (length T) (name_at G) → Increases (length T) (name_at K)
    → (t w : ℕ) → t < length T → w < 16 → G t w ≡ K t w
same_groups {T} {G} {K} a b gs ks t w x y = same_entry a b t w x y (same_numbers (length T) (name_at G) (name_at K) gs ks (names_among a b) (names_among b a) t x)

-- ---- the words of a table's rows, one after the other

-- word w of the group of 16 words with number t
abbrev pub group_word : List ℕ → ℕ → ℕ → ℕ
group_word l t w = get_or l (16 * t + w) 0

pub record ListingOf (T : Table (List ℕ)) (l : List ℕ) : Type 0 where
  pub size : length l ≡ 16 * length T
  pub once : EachOnce T (group_word l)

-- the words of the first group, and of the others
first_word : (e l : List ℕ) (w : ℕ) → length e ≡ 16 → w < 16 → group_word (e ++ l) 0 w ≡ get_or e w 0
first_word e l w n h =
    let k : 16 * 0 + w ≡ w = omega arith in
    ap (λ (j : ℕ). get_or (e ++ l) j 0) k ∙ get_or-append e l 0 w (omega arith)

front_word : (e l : List ℕ) (t w : ℕ) → length e ≡ 16 → group_word (e ++ l) (suc t) w ≡ group_word l t w
front_word e l t w h =
    let k : 16 * suc t + w ≡ length e + (16 * t + w) = omega arith in
    ap (λ (j : ℕ). get_or (e ++ l) j 0) k ∙ get_or-append-add e l (16 * t + w) 0

-- the first row, whose key is not among the others
listing_front : {T : Table (List ℕ)} {l : List ℕ} → ListingOf T l → (r : Row (List ℕ)) → SortedFrom r.key T → length r.val ≡ 16 → name_in r.val ≡ r.key
    → ListingOf (r ∷ T) (r.val ++ l)
listing_front {T} {l} all r sorted n named = record {
  size = omega (arith, length-append r.val l, all.size);
  once = once_more {a = 0} {e = r.val} all.once (record {
    inside = omega arith;
    longer = refl;
    gone = find_below r.key r.key T sorted (omega arith);
    new = rw (tri_same r.key) refl;
    other = others;
    named = named;
    here = λ w y. first_word r.val l w n y;
    low = λ t w x y. absurd (omega arith);
    high = λ t w x z y. front_word r.val l t w n;
  });
}
  where
    others : (k : ℕ) → k ≢ r.key → table_find k (r ∷ T) ≡ table_find k T
    others k d = go (compare k r.key) (tri k r.key)
      where
        go : (o : Ordering) → Tri k r.key o → find_by o r.val (table_find k T) ≡ table_find k T
        go o (less h) = sym (find_below k r.key T sorted (omega arith))
        go o (same h) = absurd (d h)
        go o (more h) = refl

-- a table of entries, each with the words of its name
abbrev pub Entries : Table (List ℕ) → Type 0
Entries T = (n : ℕ) (e : List ℕ) → table_find n T ≡ some e → (length e ≡ 16) × (name_in e ≡ n)

module _ (r : Row (List ℕ)) (T : Table (List ℕ)) where
  entries_first : Entries (r ∷ T) → (length r.val ≡ 16) × (name_in r.val ≡ r.key)
  entries_first ok = ok r.key r.val (rw (tri_same r.key) refl)

  entries_rest : SortedFrom r.key T → Entries (r ∷ T) → Entries T
  entries_rest sorted ok n e h = let up : r.key < n = find_above n r.key e T sorted h in ok n e (rw (tri_more up) h)

pub table_listing : (b : ℕ) (T : Table (List ℕ)) → SortedFrom b T → Entries T → ListingOf T (joined T)
table_listing b [] sorted ok = record { size = omega arith; once = none_once (group_word []) }
table_listing b (r ∷ T) sorted ok =
    let own = entries_first r T ok in
    listing_front (table_listing r.key T sorted.1 (entries_rest r T sorted.1 ok)) r sorted.1 own.0 own.1

-- their names increase

module _ (e l : List ℕ) (n : length e ≡ 16) where
  first_name : name_at (group_word (e ++ l)) 0 ≡ name_in e
  first_name = name_of (group_word (e ++ l)) 0 e (λ w y. first_word e l w n y)

  front_name : (t : ℕ) → name_at (group_word (e ++ l)) (suc t) ≡ name_at (group_word l) t
  front_name t = name_same (group_word l) (group_word (e ++ l)) (suc t) t (λ w y. front_word e l t w n)

names_above : (b : ℕ) (T : Table (List ℕ)) → SortedFrom b T → Entries T → (t : ℕ) → t < length T → b < name_at (group_word (joined T)) t
names_above b [] s ok t x = absurd (omega arith)
names_above b (r ∷ T) s ok zero x = let n = entries_first r T ok in rw (first_name r.val (joined T) n.0, n.1) s.0
names_above b (r ∷ T) s ok (suc t) x =
    let n = entries_first r T ok in
    rw (front_name r.val (joined T) n.0 t) (omega (arith, names_above r.key T s.1 (entries_rest r T s.1 ok) t (omega arith), s.0))

pub names_increase : (b : ℕ) (T : Table (List ℕ)) → SortedFrom b T → Entries T → Increases (length T) (name_at (group_word (joined T)))
names_increase b [] s ok i j x y = absurd (omega arith)
names_increase b (r ∷ T) s ok i zero x y = absurd (omega arith)
names_increase b (r ∷ T) s ok zero (suc j) x y =
    let n = entries_first r T ok in
    rw (first_name r.val (joined T) n.0, n.1, front_name r.val (joined T) n.0 j)
    (names_above r.key T s.1 (entries_rest r T s.1 ok) j (omega arith))
names_increase b (r ∷ T) s ok (suc i) (suc j) x y =
    let n = entries_first r T ok in
    rw (front_name r.val (joined T) n.0 i, front_name r.val (joined T) n.0 j)
    (names_increase r.key T s.1 (entries_rest r T s.1 ok) i j (omega arith) (omega arith))
