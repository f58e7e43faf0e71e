-- The rows of the table and the calls that they have. Assumes nothing.
use mathlib.Core.List.{List, [], ◌∷◌}
use mathlib.Core.Logic.{inl, inr, ⊎_elim}
use mathlib.Core.Path.{◌≡◌, refl, sym, subst, ◌∙◌}
use native.Mathlib.Nat.{eq-or-lt_of_le}
use native.Mathlib.Omega.{arith}
use Prim.Native.Nat.{ℕ, ◌+◌, ◌*◌, ◌<◌, ◌≤◌}
use lib.ListN.{length, get_or, take, set, length-set, length-take}
use lib.Seq.{sets, get_or-take, get_or-set_same, get_or-set_other}
use Rattle.calculus.specs.Lists.{◌∈◌}
use Rattle.calls.specs.ReachLimit.{Call}
use Rattle.terms.specs.Limits.{greatest_arity}
use Rattle.terms_bytes.proofs.Stores.{get_d_before, get_d_stored}
use Rattle.steps_reach.specs.CallTable.{most_calls, table_bytes, RowIs, TableIs}

-- every call has few names
abbrev pub FewNames : List Call → Type 0
FewNames cs = (c : Call) → c ∈ cs → length c.1 ≤ greatest_arity

-- The bytes of the first rows stay.
module _ (t t' : List ℕ) where
  pub row_kept : (size row : ℕ) (c : Call) → row < size → length c.1 ≤ greatest_arity → ((i : ℕ) → i < 9 * size → get_or t' i 0 ≡ get_or t i 0)
      → RowIs t row c → RowIs t' row c
  row_kept size row c l few K R = record {
    definition = K (9 * row) (omega arith) ∙ R.definition;
    names = λ j h. K (9 * row + 1 + j) (omega arith) ∙ R.names j h;
  }

  pub table_kept : (cs : List Call) → FewNames cs → ((i : ℕ) → i < 9 * length cs → get_or t' i 0 ≡ get_or t i 0) → TableIs t cs → TableIs t' cs
  table_kept [] few K T = tt
  table_kept (c ∷ cs) few K T = (
    row_kept (length (c ∷ cs)) (length cs) c (omega arith) (few c (inl refl)) K T.0,
    table_kept cs (λ d m. few d (inr m)) (λ i l. K i (omega arith)) T.1,
  )

-- Each row has a call of the list, and each of them has a row.
pub row-call : (t : List ℕ) (cs : List Call) (i : ℕ) → i < length cs → TableIs t cs → (c : Call) × (c ∈ cs) × RowIs t i c
row-call t (c ∷ cs) i l T = ⊎_elim
    (λ (e : i ≡ length cs). (c, inl refl, subst (λ j. RowIs t j c) (sym e) T.0))
    (λ (h : i < length cs). let (d, m, R) = row-call t cs i h T.1 in (d, inr m, R))
    (eq-or-lt_of_le {n = i} {m = length cs} (omega arith))
row-call t [] i l T = absurd (omega arith)

pub call-row : (t : List ℕ) (cs : List Call) (c : Call) → c ∈ cs → TableIs t cs → (i : ℕ) × (i < length cs) × RowIs t i c
call-row t [] c x'' T = elim x'' [ ]
call-row t (d ∷ cs) c (inl e) T = (length cs, omega arith, subst (RowIs t (length cs)) (sym e) T.0)
call-row t (d ∷ cs) c (inr m) T = let (i, l, R) = call-row t cs c m T.1 in (i, omega arith, R)

-- A call put into a row.
module _ (t : List ℕ) (size k n : ℕ) (names : List ℕ) (room : size < most_calls) (whole : length t ≡ table_bytes) (few : n ≤ greatest_arity) (there : n ≤ length names) where
  abbrev pub put_into : List ℕ
  put_into = sets (set t (9 * size) k) (9 * size + 1) (take n names)

  taken : length (take n names) ≡ n
  taken = simp length-take (omega arith)

  pub put-below : (i : ℕ) → i < 9 * size → get_or put_into i 0 ≡ get_or t i 0
  put-below i l =
      get_d_before (set t (9 * size) k) i (9 * size + 1) (take n names) (omega arith) ∙ get_or-set_other t (9 * size) i k 0 (λ e. omega arith)

  pub put-row : (ys : List ℕ) → length ys ≡ n → ((j : ℕ) → j < n → get_or names j 0 ≡ get_or ys j 0) → RowIs put_into size (k, ys)
  put-row ys l h = record {
    definition = get_d_before (set t (9 * size) k) (9 * size) (9 * size + 1) (take n names) (omega arith) ∙ get_or-set_same t (9 * size) k 0 (omega arith);
    names = λ j m.
        get_d_stored (set t (9 * size) k) (9 * size + 1) (take n names) (omega (arith, taken, length-set t (9 * size) k)) j (omega (arith, taken))
        ∙ get_or-take n names j 0 (omega arith) ∙ h j (omega arith);
  }
