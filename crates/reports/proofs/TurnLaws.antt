-- Lists one after the other, and the records of slots and blocks: their lengths, one more of them counted or noted.
use mathlib.Core.Path.{◌≡◌, refl, sym, ap, ◌∙◌}
use mathlib.Core.List.{List, [], ◌++◌, append-nil, append_assoc}
use mathlib.Core.Logic.{◌≢◌}
use Prim.Native.Nat.{ℕ, zero, suc, ◌+◌, ◌*◌, ◌/◌, ◌%◌, ◌≤◌, ◌<◌}
use native.Mathlib.Nat.{add-suc, add-zero}
use native.Mathlib.Numerals.{add-one}
use native.Mathlib.Omega.{arith}
use lib.ListN.{length, get_or, length-append}
use borrow.Author.Tests.{eq-eqb, ne_eqb}
use Rattle.disc.proofs.Compare.{same_or}
use Rattle.words.specs.Store.{store}
use Rattle.words.proofs.StoreLaws.{store_none, store_append}
use Rattle.catalog.specs.declared.Catalog.{Catalog}
use Rattle.reports.specs.Listing.{in_turn, slot_start, slot_empty, entry_record, slot_record, slot_records, catalog_sector, block_records, CountOf, Noted}

-- ---- lists one after the other

-- one list among them
pub turn_room : (f : ℕ → List ℕ) (i n : ℕ) → i < n → length (in_turn f i) + length (f i) ≤ length (in_turn f n)
unfolding in_turn
turn_room f i zero h = absurd (omega arith)
turn_room f i (suc n) h = same_or i n
    (λ q. rw q (omega (arith, length-append (in_turn f n) (f n))))
    (λ d. omega (arith, length-append (in_turn f n) (f n), turn_room f i n (omega arith)))

turn_most : (f : ℕ → List ℕ) (k n : ℕ) → ((t : ℕ) → length (f t) ≤ k) → length (in_turn f n) ≤ n * k
unfolding in_turn
turn_most f k zero h = omega arith
turn_most f k (suc n) h = omega (arith, length-append (in_turn f n) (f n), turn_most f k n h, h n)

pub turn_ext : (f g : ℕ → List ℕ) (n : ℕ) → ((t : ℕ) → t < n → f t ≡ g t) → in_turn f n ≡ in_turn g n
unfolding in_turn
turn_ext f g zero e = refl
turn_ext f g (suc n) e = rw (turn_ext f g n (λ t h. e t (omega arith)), e n (omega arith)) refl

turn_split : (f : ℕ → List ℕ) (a b : ℕ) → in_turn f (a + b) ≡ in_turn f a ++ in_turn (λ j. f (a + j)) b
unfolding in_turn
turn_split f a zero = rw add-zero (sym (append-nil (in_turn f a)))
turn_split f a (suc b) = rw (add-suc a b, turn_split f a b, append_assoc) refl

-- sixteen to a group
pub turn_groups : (g : ℕ → ℕ → List ℕ) (n : ℕ) → in_turn (λ t. g (t / 16) (t % 16)) (16 * n) ≡ in_turn (λ b. in_turn (g b) 16) n
unfolding in_turn
turn_groups g zero = let e : 16 * 0 ≡ 0 = omega arith in ap (in_turn (λ t. g (t / 16) (t % 16))) e
turn_groups g (suc n) =
    let f : ℕ → List ℕ = λ t. g (t / 16) (t % 16) in
    let e : 16 * suc n ≡ 16 * n + 16 = omega arith in
    let last : in_turn (λ j. f (16 * n + j)) 16 ≡ in_turn (g n) 16 =
    turn_ext (λ j. f (16 * n + j)) (g n) 16 (λ j h.
    let a : (16 * n + j) / 16 ≡ n = omega arith in
    let b : (16 * n + j) % 16 ≡ j = omega arith in
    rw (a, b) refl) in
    ap (in_turn f) e ∙ turn_split f (16 * n) 16 ∙ rw (turn_groups g n, last) refl

-- ---- the record of a slot

module _ (image : List ℕ) (q i : ℕ) where
  abbrev pub first_word : ℕ
  first_word = get_or image (slot_start q i) 0

  pub slot_none : first_word ≡ 0 → slot_record image q i ≡ []
  unfolding slot_record slot_empty
  slot_none e = rw (eq-eqb first_word 0 e) refl

  pub slot_some : first_word ≢ 0 → slot_record image q i ≡ entry_record first_word (get_or image (slot_start q i + 1) 0) (get_or image (slot_start q i + 2) 0) (q * 16 + i)
  unfolding slot_record slot_empty
  slot_some d = rw (ne_eqb first_word 0 d) refl

  pub slot-length : first_word ≢ 0 → length (slot_record image q i) ≡ 4
  slot-length d = ap length (slot_some d)

  slot_most : length (slot_record image q i) ≤ 4
  slot_most = same_or first_word 0 (λ e. rw (slot_none e) (omega arith)) (λ d. omega (arith, slot-length d))

-- ---- records counted

pub slots_most : (image : List ℕ) (q n : ℕ) → length (slot_records image q n) ≤ n * 4
slots_most image q n = turn_most (slot_record image q) 4 n (slot_most image q)

pub blocks_most : (image : List ℕ) (c : Catalog) (n : ℕ) → length (block_records image c n) ≤ n * 64
blocks_most image c n = turn_most (λ b. slot_records image (catalog_sector image c b) 16) 64 n (λ b. omega (arith, slots_most image (catalog_sector image c b) 16))

pub count_none : (f : ℕ → List ℕ) → CountOf (in_turn f 0) 0
unfolding in_turn
count_none f = record { words = omega arith }

module _ (image : List ℕ) (q i : ℕ) {count : ℕ} (n : CountOf (slot_records image q i) count) where
  pub count_unused : first_word image q i ≡ 0 → CountOf (slot_records image q (i + 1)) count
  unfolding in_turn
  count_unused e = rw (add-one, slot_none image q i e, append-nil) n

  pub count_used : first_word image q i ≢ 0 → CountOf (slot_records image q (i + 1)) (count + 1)
  unfolding in_turn
  count_used d =
      let long : length (slot_record image q i) ≡ 4 = slot-length image q i d in
      rw (add-one i) (record { words = omega (arith, length-append (slot_records image q i) (slot_record image q i), n.words) })

pub count_block : (image : List ℕ) (c : Catalog) (b : ℕ) {q count more : ℕ} → CountOf (block_records image c b) count → q ≡ catalog_sector image c b
    → CountOf (slot_records image q 16) more → CountOf (block_records image c (b + 1)) (count + more)
unfolding in_turn
count_block image c b {q} {count} {more} n e m =
    rw (add-one b, ← e) (record { words = omega (arith, length-append (block_records image c b) (slot_records image q 16), n.words, m.words) })

-- ---- records noted

pub noted_none : (l : List ℕ) (at : ℕ) → Noted l at [] l at
noted_none l at = record { stored = sym (store_none l at); end = sym (add-zero at) }

noted_more : {l m r us vs : List ℕ} {at j k : ℕ} → Noted l at us m j → Noted m j vs r k → Noted l at (us ++ vs) r k
noted_more {l} {m} {r} {us} {vs} {at} a b = record {
  stored = b.stored ∙ rw (a.stored, a.end) (sym (store_append l at us vs));
  end = omega (arith, a.end, b.end, length-append us vs);
}

pub turn_start : (f : ℕ → List ℕ) (l : List ℕ) (at : ℕ) → Noted l at (in_turn f 0) l at
unfolding in_turn
turn_start f l at = noted_none l at

-- one turn
pub noted_turn : (f : ℕ → List ℕ) (i : ℕ) {l m r : List ℕ} {at j k : ℕ} → Noted l at (in_turn f i) m j → Noted m j (f i) r k → Noted l at (in_turn f (i + 1)) r k
unfolding in_turn
noted_turn f i a b = rw add-one (noted_more a b)

-- a used slot's record stored
pub slot_noted : (image : List ℕ) (q i : ℕ) → first_word image q i ≢ 0 → (l : List ℕ) (at : ℕ) {after : List ℕ}
    → after ≡ store l at (entry_record (first_word image q i) (get_or image (slot_start q i + 1) 0) (get_or image (slot_start q i + 2) 0) (q * 16 + i))
    → Noted l at (slot_record image q i) after (at + 4)
slot_noted image q i used l at e = record { stored = e ∙ ap (store l at) (sym (slot_some image q i used)); end = omega (arith, slot-length image q i used) }
