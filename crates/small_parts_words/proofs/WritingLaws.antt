-- Writing a word byte by byte.
use mathlib.Core.Path.{◌≡◌, refl}
use mathlib.Core.List.{List}
use Prim.Native.Nat.{ℕ, suc, ◌+◌, ◌-◌, ◌/◌, ◌%◌, ◌<◌, ◌≤◌}
use native.Mathlib.Omega.{arith}
use lib.ListN.{set}
use lib.Seq.{sets}
use borrow.Author.Tests.{lt-ltb, le-ltb}
use Rattle.small_parts_words.specs.Words.{byte_count, byte_of, word_of}

pub byte_low : (d : ℕ) → d < 10 → d ≡ byte_of d
unfolding byte_of
byte_low d h = rw (lt-ltb d 10 h) refl

pub byte_high : (d : ℕ) → 10 ≤ d → d + 118 ≡ byte_of d
unfolding byte_of
byte_high d h = rw (le-ltb d 10 h) refl

-- What is still to be written of a word of n bytes, i of which are written, k being the number of the rest.
abbrev pub to_write : List ℕ → ℕ → ℕ → ℕ → ℕ → List ℕ
to_write out put n i k = sets out (put + i) (word_of (n - i) k)

pub write-start : (out : List ℕ) (put n k : ℕ) → to_write out put n 0 k ≡ sets out put (word_of n k)
write-start out put n k = let e : put + 0 ≡ put = omega arith in let f : n - 0 ≡ n = omega arith in rw (e, f) refl

pub write_next : (out : List ℕ) (put n i k : ℕ) → i < n
    → to_write (set out (put + i) (byte_of (k % byte_count))) put n (i + 1) (k / byte_count) ≡ to_write out put n i k
unfolding word_of
write_next out put n i k h =
    let e : n - i ≡ suc (n - (i + 1)) = omega arith in
    let f : put + (i + 1) ≡ suc (put + i) = omega arith in
    rw (e, f) refl

pub write_end : (out : List ℕ) (put n i k : ℕ) → n ≤ i → to_write out put n i k ≡ out
unfolding word_of
write_end out put n i k h = let e : n - i ≡ 0 = omega arith in rw e refl
