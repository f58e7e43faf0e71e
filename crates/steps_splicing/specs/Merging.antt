-- The names of a term merged where its bytes stand: what the functions that do so promise.
use Rattle.std.specs.Prelude.{◌≡◌, cond, List, ◌++◌, ℕ, ◌<◌, ltb, length, get_or}
use Rattle.calculus.specs.Term.{Term, ren}
use Rattle.terms.specs.Encoding.{encode, InScope}
use Rattle.terms.specs.Limits.{name_count}

-- A free name's byte is below 128, and a bound one's is not.
unfoldable pub merged_byte : List ℕ → ℕ → ℕ
merged_byte class b = cond (ltb b 128) (get_or class b 0) b

-- The term in the first n bytes is renamed by a table of the free names.
pub record MergedIs (bytes : List ℕ) (n : ℕ) (arities class bytes' : List ℕ) : Type 0 where
  pub is : (ρ : ℕ → ℕ) (A : Term) (rest : List ℕ)
      → ((k : ℕ) → k < name_count → (get_or class k 0 ≡ ρ k) × (ρ k < name_count))
      → InScope name_count arities 0 A
      → bytes ≡ encode 0 A ++ rest
      → n ≡ length (encode 0 A)
      → bytes' ≡ encode 0 (ren ρ A) ++ rest
