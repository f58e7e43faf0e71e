-- The bytes that are stored for one entry are those of the step in canonical form. Assumes nothing.
use mathlib.Core.List.{List, [], ◌∷◌, ◌++◌, append_assoc}
use mathlib.Core.Path.{◌≡◌, refl, sym, ◌∙◌, ap}
use native.Mathlib.Omega.{arith}
use native.Mathlib.Nat.{zero-add}
use Prim.Native.Nat.{ℕ, zero, suc, ◌+◌, ◌-◌, ◌≤◌}
use lib.ListN.{length, take, drop, replicate, length-append, length-replicate}
use lib.Seq.{sets, sets-eq, length-sets, length-take-le}
use Rattle.terms.specs.Limits.{name_count, longest_term}
use Rattle.terms_bytes.proofs.Stores.{sets-join}
use Rattle.steps_entries.specs.EntryBytes.{entry_bytes}
use Rattle.steps.specs.Limits.{step_bytes}
use Rattle.steps_entries.specs.declared.listed.ActionBytes.{ActionBytes}

-- A run of stores into an array of zeros.
drop-zeros : (k n : ℕ) → drop k (replicate n 0) ≡ replicate {A = ℕ} (n - k) 0
drop-zeros zero n = let e : n - 0 ≡ n = omega arith in rw e refl
drop-zeros (suc k) zero = let e : 0 - suc k ≡ 0 = omega arith in rw e refl
drop-zeros (suc k) (suc n) = let e : suc n - suc k ≡ n - k = omega arith in rw e (drop-zeros k n)

stored_in_zeros : (n : ℕ) (xs : List ℕ) → length xs ≤ n → sets (replicate n 0) 0 xs ≡ xs ++ replicate (n - length xs) 0
stored_in_zeros n xs h =
    sets-eq xs (replicate n 0) 0 (omega (arith, length-replicate {A = ℕ} n 0))
    ∙ ap (λ r. xs ++ r) (ap (λ k. drop k (replicate n 0)) (zero-add (length xs)) ∙ drop-zeros (length xs) n)

-- The stores of an entry, one behind the other.
entry_run : (classes four result : List ℕ) → length classes ≡ name_count → length four ≡ 4 → length result ≤ longest_term
    → sets (sets (sets (replicate step_bytes 0) 0 classes) name_count four) (name_count + 4) result
    ≡ classes ++ (four ++ (result ++ replicate (longest_term - length result) 0))
entry_run classes four result c h k =
    let zeros : List ℕ = replicate step_bytes 0 in
    let l : length (classes ++ (four ++ result)) ≡ name_count + (4 + length result) =
    omega (arith, length-append classes (four ++ result), length-append four result) in
    let d : step_bytes - length (classes ++ (four ++ result)) ≡ longest_term - length result = omega arith in
    sets-join (sets zeros 0 classes) name_count (name_count + 4) four result (omega arith)
    ∙ sets-join zeros 0 name_count classes (four ++ result) (omega arith)
    ∙ stored_in_zeros step_bytes (classes ++ (four ++ result)) (omega arith)
    ∙ ap (λ z. (classes ++ (four ++ result)) ++ replicate z 0) d
    ∙ append_assoc classes (four ++ result) (replicate (longest_term - length result) 0)
    ∙ ap (λ z. classes ++ z) (append_assoc four result (replicate (longest_term - length result) 0))

-- room for the result behind the classes and the action
pub entry_room : (class : List ℕ) (action : ActionBytes) (n : ℕ) → n ≤ longest_term → (e₁ : List ℕ)
    → e₁ ≡ sets (replicate step_bytes 0) 0 (take name_count class)
    → name_count + 4 + n ≤ length (sets e₁ name_count (action.kind ∷ action.channel ∷ action.object ∷ n ∷ []))
entry_room class action n short e₁ p =
    omega (
      arith,
      length-sets e₁ name_count (action.kind ∷ action.channel ∷ action.object ∷ n ∷ []),
      ap length p,
      length-sets (replicate step_bytes 0) 0 (take name_count class),
      length-replicate {A = ℕ} step_bytes 0,
    )

pub entry-stored : (class : List ℕ) (action : ActionBytes) (result : List ℕ) (n : ℕ) → name_count ≤ length class → n ≤ length result → n ≤ longest_term
    → (e₁ entry : List ℕ) → e₁ ≡ sets (replicate step_bytes 0) 0 (take name_count class)
    → entry ≡ sets (sets e₁ name_count (action.kind ∷ action.channel ∷ action.object ∷ n ∷ [])) (name_count + 4) (take n result)
    → entry ≡ entry_bytes class action (take n result)
unfolding entry_bytes
entry-stored class action result n many there short e₁ entry p q =
    let four : ℕ → List ℕ = λ m. action.kind ∷ action.channel ∷ action.object ∷ m ∷ [] in
    let l : length (take n result) ≡ n = length-take-le n result there in
    q
    ∙ ap (λ a. sets (sets a name_count (four n)) (name_count + 4) (take n result)) p
    ∙ entry_run (take name_count class) (four n) (take n result) (length-take-le name_count class many) refl (omega arith)
    ∙ ap (λ m. take name_count class ++ (four m ++ (take n result ++ replicate (longest_term - length (take n result)) 0))) (sym l)
