-- Laws of tables: what is found after a put or a removal, order, sums, and equality by what is found.
use mathlib.Core.Path.{◌≡◌, refl, sym, ap, ◌∙◌, subst}
use mathlib.Core.List.{[], ◌∷◌}
use mathlib.Core.Option.{Option, none, some}
use mathlib.Core.Logic.{◌≢◌}
use Prim.Native.Nat.{ℕ, ◌+◌, ◌≤◌, ◌<◌, compare}
use native.Mathlib.Omega.{arith}
use lib.ListN.{length}
use Rattle.disc.proofs.Compare.{compare_cases, tri_less, tri_more, tri_same, same_or, below_or}
use Rattle.plain.specs.Table.{Row, Table, find_by, table_find, put_by, table_put, remove_by, table_remove, SortedFrom, total, Every}

pub some≢none : {A : Type 0} {a : A} → some a ≡ none → ⊥
some≢none e = let z : ◌≡◌ {A = ℕ} 0 1 = cc in omega arith

pub some_inj : {A : Type 0} {a b : A} → some a ≡ some b → a ≡ b
some_inj e = cc

pub never_some : {A : Type 0} (o : Option A) → ((a : A) → o ≡ some a → ⊥) → o ≡ none
never_some none never = refl
never_some (some a) never = absurd (never a refl)

module _ {A : Type 0} where
  find_same : (n : ℕ) (a : A) (t : Table A) → table_find n (record { key = n; val = a } ∷ t) ≡ some a
  find_same n a t = rw (tri_same n) refl

  find_less : (n : ℕ) (r : Row A) (t : Table A) → n < r.key → table_find n (r ∷ t) ≡ none
  find_less n r t h = rw (tri_less h) refl

  find_more : (n : ℕ) (r : Row A) (t : Table A) → r.key < n → table_find n (r ∷ t) ≡ table_find n t
  find_more n r t h = rw (tri_more h) refl

  -- a key above all is not there
  pub find_below : (n b : ℕ) (t : Table A) → SortedFrom b t → n ≤ b → table_find n t ≡ none
  find_below n b [] ok h = refl
  find_below n b (r ∷ t) ok h = find_less n r t (omega arith)

  pub find_put : (n : ℕ) (a : A) (t : Table A) → table_find n (table_put n a t) ≡ some a
  find_put n a [] = find_same n a []
  find_put n a (r ∷ t) = compare_cases n r.key (λ o. table_find n (put_by o n a r t (table_put n a t)) ≡ some a)
      (λ h. find_same n a (r ∷ t))
      (λ e. find_same n a t)
      (λ h. find_more n r (table_put n a t) h ∙ find_put n a t)

  -- a row of another key is passed over
  find_past : (k n : ℕ) (a : A) (rest : Option A) → k ≢ n → (k < n → rest ≡ none) → find_by (compare k n) a rest ≡ rest
  find_past k n a rest d low = compare_cases k n (λ o. find_by o a rest ≡ rest) (λ h. sym (low h)) (λ e. absurd (d e)) (λ h. refl)

  pub find_put_other : (k n : ℕ) (a : A) (t : Table A) → k ≢ n → table_find k (table_put n a t) ≡ table_find k t
  find_put_other k n a [] d = find_past k n a none d (λ h. refl)
  find_put_other k n a (r ∷ t) d = compare_cases n r.key (λ o. table_find k (put_by o n a r t (table_put n a t)) ≡ table_find k (r ∷ t))
      (λ h. find_past k n a (table_find k (r ∷ t)) d (λ l. find_less k r t (omega arith)))
      (λ e. rw (← e) (compare_cases k n (λ o. find_by o a (table_find k t) ≡ find_by o r.val (table_find k t)) (λ h. refl) (λ h. absurd (d h)) (λ h. refl)))
      (λ h. ap (λ (x : Option A). find_by (compare k r.key) r.val x) (find_put_other k n a t d))

  pub find_remove : (n b : ℕ) (t : Table A) → SortedFrom b t → table_find n (table_remove n t) ≡ none
  find_remove n b [] ok = refl
  find_remove n b (r ∷ t) ok = compare_cases n r.key (λ o. table_find n (remove_by o r t (table_remove n t)) ≡ none)
      (λ h. find_less n r t h)
      (λ e. find_below n r.key t ok.1 (omega arith))
      (λ h. find_more n r (table_remove n t) h ∙ find_remove n r.key t ok.1)

  pub find_remove_other : (k n b : ℕ) (t : Table A) → SortedFrom b t → k ≢ n → table_find k (table_remove n t) ≡ table_find k t
  find_remove_other k n b [] ok d = refl
  find_remove_other k n b (r ∷ t) ok d = compare_cases n r.key (λ o. table_find k (remove_by o r t (table_remove n t)) ≡ table_find k (r ∷ t))
      (λ h. refl)
      (λ e. sym (find_past k r.key r.val (table_find k t) (λ q. d (q ∙ sym e)) (λ h. find_below k r.key t ok.1 (omega arith))))
      (λ h. ap (λ (x : Option A). find_by (compare k r.key) r.val x) (find_remove_other k n r.key t ok.1 d))

  sorted_lower : (b c : ℕ) (t : Table A) → c ≤ b → SortedFrom b t → SortedFrom c t
  sorted_lower b c [] h ok = tt
  sorted_lower b c (r ∷ t) h ok = (omega arith, ok.1)

  pub sorted_put : (b n : ℕ) (a : A) (t : Table A) → b < n → SortedFrom b t → SortedFrom b (table_put n a t)
  sorted_put b n a [] h ok = (h, tt)
  sorted_put b n a (r ∷ t) h ok = compare_cases n r.key (λ o. SortedFrom b (put_by o n a r t (table_put n a t)))
      (λ l. (h, (l, ok.1)))
      (λ e. (h, rw e ok.1))
      (λ l. (ok.0, sorted_put r.key n a t l ok.1))

  pub sorted_remove : (b n : ℕ) (t : Table A) → SortedFrom b t → SortedFrom b (table_remove n t)
  sorted_remove b n [] ok = tt
  sorted_remove b n (r ∷ t) ok = compare_cases n r.key (λ o. SortedFrom b (remove_by o r t (table_remove n t)))
      (λ l. ok)
      (λ e. sorted_lower r.key b t (omega arith) ok.1)
      (λ l. (ok.0, sorted_remove r.key n t ok.1))

  -- a table is known by what it finds
  pub find_ext : (b : ℕ) (t u : Table A) → SortedFrom b t → SortedFrom b u → ((n : ℕ) → table_find n t ≡ table_find n u) → t ≡ u
  find_ext b [] [] p q e = refl
  find_ext b [] (r ∷ u) p q e = absurd (some≢none (sym (e r.key ∙ find_same r.key r.val u)))
  find_ext b (r ∷ t) [] p q e = absurd (some≢none (sym (sym (e r.key) ∙ find_same r.key r.val t)))
  find_ext b (r ∷ t) (s ∷ u) p q e = compare_cases r.key s.key (λ _. ◌≡◌ {A = Table A} (r ∷ t) (s ∷ u))
      (λ h. absurd (some≢none (sym (find_same r.key r.val t) ∙ e r.key ∙ find_less r.key s u h)))
      (λ k.
      let v : some r.val ≡ some s.val = sym (find_same r.key r.val t) ∙ e r.key ∙ subst (λ (n : ℕ). table_find n (s ∷ u) ≡ some s.val) (sym k) (find_same s.key s.val u) in
      let w : r.val ≡ s.val = cc in
      let row : r ≡ s = λ i. record { key = k i; val = w i } in
      let l : t ≡ u = find_ext r.key t u p.1 (rw k q.1) (rest k) in
      cc)
      (λ h. absurd (some≢none (sym (find_same s.key s.val u) ∙ sym (e s.key) ∙ find_less s.key r t h)))
    where
      rest : r.key ≡ s.key → (n : ℕ) → table_find n t ≡ table_find n u
      rest k n = below_or r.key n
          (λ h. sym (find_more n r t h) ∙ e n ∙ find_more n s u (omega arith))
          (λ h. find_below n r.key t p.1 h ∙ sym (find_below n s.key u q.1 (omega arith)))

  -- what the row of a key adds to a total

  abbrev pub weight_at : (Row A → ℕ) → ℕ → Option A → ℕ
  weight_at w n none = 0
  weight_at w n (some a) = w (record { key = n; val = a })

  pub total_put : (w : Row A → ℕ) (n : ℕ) (a : A) (t : Table A) → total w (table_put n a t) + weight_at w n (table_find n t) ≡ total w t + w (record { key = n; val = a })
  total_put w n a [] = omega arith
  total_put w n a (r ∷ t) =
      compare_cases n r.key (λ o. total w (put_by o n a r t (table_put n a t)) + weight_at w n (find_by o r.val (table_find n t)) ≡ total w (r ∷ t) + w (record { key = n; val = a }))
      (λ h. omega arith)
      (λ e. rw e (omega arith))
      (λ h. omega (arith, total_put w n a t))

  pub total_remove : (w : Row A → ℕ) (n : ℕ) (t : Table A) → total w (table_remove n t) + weight_at w n (table_find n t) ≡ total w t
  total_remove w n [] = refl
  total_remove w n (r ∷ t) =
      compare_cases n r.key (λ o. total w (remove_by o r t (table_remove n t)) + weight_at w n (find_by o r.val (table_find n t)) ≡ total w (r ∷ t))
      (λ h. omega arith)
      (λ e. rw e (omega arith))
      (λ h. omega (arith, total_remove w n t))

  -- ---- what holds of every row

  pub every_put : (P : ℕ → A → Type 0) (n : ℕ) (a : A) (t : Table A) → Every P t → P n a → Every P (table_put n a t)
  every_put P n a t ok pa k b e = same_or k n at_n past
    where
      at_n : k ≡ n → P k b
      at_n q =
          let e₂ : table_find n (table_put n a t) ≡ some b = rw q at e in
          let z : a ≡ b = some_inj (sym (find_put n a t) ∙ e₂) in
          rw (q, ← z) pa

      past : k ≢ n → P k b
      past d = ok k b (sym (find_put_other k n a t d) ∙ e)

  pub remove_some : (k n b : ℕ) (t : Table A) (a : A) → SortedFrom b t → table_find k (table_remove n t) ≡ some a → (k ≢ n) × (table_find k t ≡ some a)
  remove_some k n b t a ok e =
      let d : k ≢ n = λ q. (let e₂ : table_find n (table_remove n t) ≡ some a = rw q at e in some≢none (sym e₂ ∙ find_remove n b t ok)) in
      (d, sym (find_remove_other k n b t ok d) ∙ e)

  pub none_put : (k n : ℕ) (a : A) (t : Table A) → table_find k (table_put n a t) ≡ none → (k ≢ n) × (table_find k t ≡ none)
  none_put k n a t e =
      let d : k ≢ n = λ q. (let e₂ : table_find n (table_put n a t) ≡ none = rw q at e in some≢none (sym (find_put n a t) ∙ e₂)) in
      (d, sym (find_put_other k n a t d) ∙ e)

  -- ---- lengths

  abbrev pub one : Row A → ℕ
  one r = 1

  pub total-length : (t : Table A) → total one t ≡ length t
  total-length [] = refl
  total-length (r ∷ t) = omega (arith, total-length t)

  pub length_put : (n : ℕ) (a : A) (t : Table A) → length (table_put n a t) + weight_at one n (table_find n t) ≡ length t + 1
  length_put n a t = omega (arith, total_put one n a t, total-length t, total-length (table_put n a t))

  pub length_put_new : (n : ℕ) (a : A) (t : Table A) → length (table_put n a t) ≤ length t + 1
  length_put_new n a t = omega (arith, length_put n a t)

  pub length_put_old : (n : ℕ) (a b : A) (t : Table A) → table_find n t ≡ some b → length (table_put n a t) ≡ length t
  length_put_old n a b t e = omega (arith, length_put n a t, ap (weight_at one n) e)

  pub length_remove : (n : ℕ) (t : Table A) → length (table_remove n t) ≤ length t
  length_remove n t = omega (arith, total_remove one n t, total-length t, total-length (table_remove n t))

  -- a key that is found is above the bound
  pub find_above : (n b : ℕ) (a : A) (t : Table A) → SortedFrom b t → table_find n t ≡ some a → b < n
  find_above n b a t ok e = below_or b n (λ h. h) (λ h. absurd (some≢none (sym e ∙ find_below n b t ok h)))

  -- ---- rows within a total

  pub total_one : (w : Row A → ℕ) (n : ℕ) (a : A) (t : Table A) → table_find n t ≡ some a → w (record { key = n; val = a }) ≤ total w t
  total_one w n a t e = omega (arith, total_remove w n t, ap (weight_at w n) e)

  pub total_two : (w : Row A → ℕ) (n m : ℕ) (a b : A) (t : Table A) → SortedFrom 0 t → table_find n t ≡ some a → table_find m t ≡ some b → m ≢ n
      → w (record { key = n; val = a }) + w (record { key = m; val = b }) ≤ total w t
  total_two w n m a b t ok e h d =
      omega (arith, total_remove w n t, total_remove w m (table_remove n t), ap (weight_at w n) e, ap (weight_at w m) (find_remove_other m n 0 t ok d ∙ h))
