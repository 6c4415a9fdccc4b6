-- One slice more at the end of a list: its last stretch grows, or there is one stretch more.
use mathlib.Core.Path.{◌≡◌, refl, sym, ap, ◌∙◌}
use mathlib.Core.List.{List, [], ◌∷◌, ◌++◌, append_assoc, append-nil}
use mathlib.Core.Logic.{◌≢◌}
use Prim.Native.Nat.{ℕ, zero, suc, ◌+◌, ◌≤◌, compare, Ordering}
use native.Mathlib.Numerals.{add-one}
use native.Mathlib.Omega.{arith}
use lib.ListN.{length, length-append}
use Rattle.disc.specs.Slices.{last_of}
use Rattle.disc.specs.Stretches.{Stretch, join_by, join, stretches, stretch_count, span, expand}
use Rattle.disc.proofs.Compare.{Tri, less, same, more, tri, tri_same, compare_cases}
use Rattle.disc.proofs.StretchLaws.{expand_stretches}
use Rattle.disc.proofs.Longest.{Longest, longest_head, longest_tail, longest_stretches}

-- a stretch with slice k behind it
abbrev behind_by : Ordering → ℕ → Stretch → List Stretch
behind_by Ordering.lt k r = r ∷ record { first = k; count = 1 } ∷ []
behind_by Ordering.eq k r = record { first = r.first; count = suc r.count } ∷ []
behind_by Ordering.gt k r = r ∷ record { first = k; count = 1 } ∷ []

-- stretches with slice k behind the last
abbrev behind : ℕ → List Stretch → List Stretch
behind k [] = record { first = k; count = 1 } ∷ []
behind k (r ∷ []) = behind_by (compare (r.first + r.count) k) k r
behind k (r ∷ t ∷ rs) = r ∷ behind k (t ∷ rs)

-- a slice in front and one behind, in either order
join_behind : (x k : ℕ) (rs : List Stretch) → join x (behind k rs) ≡ behind k (join x rs)
join_behind x k [] = rw add-one
    (compare_cases (suc x) k (λ o. join_by o x (record { first = k; count = 1 }) [] ≡ behind_by o k (record { first = x; count = 1 })) (λ h. refl) (λ h. refl) (λ h. refl))
join_behind x k (r ∷ []) = go (compare (suc x) r.first) (compare (r.first + r.count) k) (tri (suc x) r.first) refl refl
  where
    go : (o p : Ordering) → Tri (suc x) r.first o → compare (suc x) r.first ≡ o → compare (r.first + r.count) k ≡ p
        → join x (behind_by p k r) ≡ behind k (join_by o x r [])
    go o Ordering.lt (less h) e f = rw (e, f)
    go o Ordering.eq (less h) e f = rw (e, f)
    go o Ordering.gt (less h) e f = rw (e, f)
    go o Ordering.lt (same h) e f = let g : x + suc r.count ≡ r.first + r.count = omega arith in rw (e, g, f)
    go o Ordering.eq (same h) e f = let g : x + suc r.count ≡ r.first + r.count = omega arith in rw (e, g, f)
    go o Ordering.gt (same h) e f = let g : x + suc r.count ≡ r.first + r.count = omega arith in rw (e, g, f)
    go o Ordering.lt (more h) e f = rw (e, f)
    go o Ordering.eq (more h) e f = rw (e, f)
    go o Ordering.gt (more h) e f = rw (e, f)
join_behind x k (r ∷ t ∷ rs) =
    compare_cases (suc x) r.first (λ o. join_by o x r (behind k (t ∷ rs)) ≡ behind k (join_by o x r (t ∷ rs))) (λ h. refl) (λ h. refl) (λ h. refl)

stretches_behind : (l : List ℕ) (k : ℕ) → stretches (l ++ (k ∷ [])) ≡ behind k (stretches l)
stretches_behind [] k = refl
stretches_behind (x ∷ l) k = ap (join x) (stretches_behind l k) ∙ join_behind x k (stretches l)

behind_last : (rs : List Stretch) (r : Stretch) (k : ℕ) → behind k (rs ++ (r ∷ [])) ≡ rs ++ behind_by (compare (r.first + r.count) k) k r
behind_last [] r k = refl
behind_last (a ∷ []) r k = refl
behind_last (a ∷ b ∷ rs) r k = ap (λ (t : List Stretch). a ∷ t) (behind_last (b ∷ rs) r k)

-- a list is empty, or has a last element
pub record Ending (rs : List Stretch) : Type 0 where
  pub front : List Stretch
  pub final : Stretch
  pub whole : rs ≡ front ++ (final ∷ [])

pub ending : (r : Stretch) (rs : List Stretch) → Ending (r ∷ rs)
ending r [] = record { front = []; final = r; whole = refl }
ending r (t ∷ rs) =
    let e = ending t rs in
    record { front = r ∷ e.front; final = e.final; whole = ap (λ (x : List Stretch). r ∷ x) e.whole }

-- ---- the last stretch ends with the last slice

last_of_append : (l : List ℕ) (x : ℕ) (m : List ℕ) → last_of (l ++ (x ∷ m)) ≡ last_of (x ∷ m)
last_of_append [] x m = refl
last_of_append (a ∷ []) x m = refl
last_of_append (a ∷ b ∷ l) x m = last_of_append (b ∷ l) x m

last_of_span : (n x : ℕ) → last_of (span x (suc n)) ≡ x + n
last_of_span zero x = omega arith
last_of_span (suc n) x = omega (arith, last_of_span n (suc x))

pub expand_append : (rs ts : List Stretch) → expand (rs ++ ts) ≡ expand rs ++ expand ts
expand_append [] ts = refl
expand_append (r ∷ rs) ts = ap (λ (l : List ℕ). span r.first r.count ++ l) (expand_append rs ts) ∙ sym (append_assoc (span r.first r.count) (expand rs) (expand ts))

longest_final : (rs : List Stretch) (r : Stretch) → Longest (rs ++ (r ∷ [])) → 1 ≤ r.count
longest_final [] r k = longest_head k
longest_final (a ∷ rs) r k = longest_final rs r (longest_tail k)

module _ (l : List ℕ) (rs : List Stretch) (r : Stretch) (e : stretches l ≡ rs ++ (r ∷ [])) where
  final_some : 1 ≤ r.count
  final_some = longest_final rs r (rw e at (longest_stretches l))

  pub final_end : r.first + r.count ≡ suc (last_of l)
  final_end = go r.count refl
    where
      slices : l ≡ expand rs ++ (span r.first r.count ++ [])
      slices = sym (expand_stretches l) ∙ ap expand e ∙ expand_append rs (r ∷ [])

      go : (c : ℕ) → r.count ≡ c → r.first + r.count ≡ suc (last_of l)
      go zero z = absurd (omega (arith, final_some))
      go (suc c) z =
          let f : l ≡ expand rs ++ span r.first (suc c) = slices ∙ ap (λ (m : List ℕ). expand rs ++ m) (append-nil (span r.first r.count) ∙ ap (span r.first) z) in
          omega (arith, ap last_of f, last_of_append (expand rs) r.first (span (suc r.first) c), last_of_span c r.first)

  at_end : (k : ℕ) → stretches (l ++ (k ∷ [])) ≡ rs ++ behind_by (compare (r.first + r.count) k) k r
  at_end k = stretches_behind l k ∙ ap (behind k) e ∙ behind_last rs r k

  pub stretches_joined : (k : ℕ) → r.first + r.count ≡ k → stretches (l ++ (k ∷ [])) ≡ rs ++ (record { first = r.first; count = suc r.count } ∷ [])
  stretches_joined k h = at_end k ∙ ap (λ (o : Ordering). rs ++ behind_by o k r) (ap (λ (n : ℕ). compare n k) h ∙ tri_same k)

  pub stretches_apart : (k : ℕ) → r.first + r.count ≢ k → stretches (l ++ (k ∷ [])) ≡ stretches l ++ (record { first = k; count = 1 } ∷ [])
  stretches_apart k d =
      at_end k
      ∙ compare_cases (r.first + r.count) k (λ o. rs ++ behind_by o k r ≡ rs ++ (r ∷ record { first = k; count = 1 } ∷ [])) (λ h. refl) (λ h. absurd (d h)) (λ h. refl)
      ∙ sym (append_assoc rs (r ∷ []) (record { first = k; count = 1 } ∷ [])) ∙ ap (λ (t : List Stretch). t ++ (record { first = k; count = 1 } ∷ [])) (sym e)

-- the number of stretches, by whether the new slice comes right after the last
pub count_joined : (l : List ℕ) (k : ℕ) → 1 ≤ length l → suc (last_of l) ≡ k → stretch_count (l ++ (k ∷ [])) ≡ stretch_count l
count_joined l k some e = go (stretches l) refl
  where
    go : (rs : List Stretch) → stretches l ≡ rs → stretch_count (l ++ (k ∷ [])) ≡ stretch_count l
    go [] z = absurd (omega (arith, ap length (sym (expand_stretches l) ∙ ap expand z)))
    go (r ∷ rs) z =
        let x = ending r rs in
        let w = z ∙ x.whole in
        omega (arith, ap length (stretches_joined l x.front x.final w k (final_end l x.front x.final w ∙ e)), ap length w, length-append x.front (record { first = x.final.first; count = suc x.final.count } ∷ []), length-append x.front (x.final ∷ []))

pub count_apart : (l : List ℕ) (k : ℕ) → 1 ≤ length l → suc (last_of l) ≢ k → stretch_count (l ++ (k ∷ [])) ≡ suc (stretch_count l)
count_apart l k some d = go (stretches l) refl
  where
    go : (rs : List Stretch) → stretches l ≡ rs → stretch_count (l ++ (k ∷ [])) ≡ suc (stretch_count l)
    go [] z = absurd (omega (arith, ap length (sym (expand_stretches l) ∙ ap expand z)))
    go (r ∷ rs) z =
        let x = ending r rs in
        let w = z ∙ x.whole in
        omega (arith, ap length (stretches_apart l x.front x.final w k (λ h. d (sym (final_end l x.front x.final w) ∙ h))), length-append (stretches l) (record { first = k; count = 1 } ∷ []))
