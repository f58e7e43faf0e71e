-- Edition one is what document 01 says: its bytes are those of `encode`, and never longer than those of edition two.
use mathlib.Core.Path.{◌≡◌, refl, ap}
use mathlib.Core.List.{List, [], ◌∷◌, ◌++◌, map}
use Prim.Native.Nat.{ℕ, ◌+◌, ◌≤◌}
use native.Mathlib.Omega.{arith}
use lib.ListN.{length, length-append}
use Rattle.calculus.specs.Term.{Term, nil, tau, inp, out, bout, mat, sum, par, res, call}
use Rattle.terms.specs.Answer.{result}
use Rattle.terms.specs.Edition.{Edition, one, count_bytes, encode_in}
use Rattle.terms.specs.Encoding.{name_byte, encode, InScope}
use Rattle.terms.specs.Framing.{joined}
use Rattle.terms.specs.Question.{Question, body_fields_in, fields_in, write_in, body_fields, fields_of, write}
use Rattle.terms.specs.Reading.{numbered, read_term, read_whole}
use Rattle.terms.proofs.ReadEncoded.{read_encoded, read_whole_lem}
use Rattle.terms.proofs.ScopeLaws.{scope_to}

pub encode-first : (d : ℕ) (P : Term) → encode_in one d P ≡ encode d P
unfolding encode_in encode count_bytes
encode-first d nil = refl
encode-first d (tau P) = rw (encode-first d P)
encode-first d (inp a P) = rw (encode-first (1 + d) P)
encode-first d (out a b P) = rw (encode-first d P)
encode-first d (bout a P) = rw (encode-first (1 + d) P)
encode-first d (mat a b P) = rw (encode-first d P)
encode-first d (sum P Q) = rw (encode-first d P, encode-first d Q)
encode-first d (par P Q) = rw (encode-first d P, encode-first d Q)
encode-first d (res P) = rw (encode-first (1 + d) P)
encode-first d (call k ns) = refl

-- Edition one is never longer.
pub encode_shorter : (e : Edition) (d : ℕ) (P : Term) → length (encode d P) ≤ length (encode_in e d P)
unfolding encode_in encode
encode_shorter e d nil = omega arith
encode_shorter e d (tau P) = omega (arith, encode_shorter e d P)
encode_shorter e d (inp a P) = omega (arith, encode_shorter e (1 + d) P)
encode_shorter e d (out a b P) = omega (arith, encode_shorter e d P)
encode_shorter e d (bout a P) = omega (arith, encode_shorter e (1 + d) P)
encode_shorter e d (mat a b P) = omega (arith, encode_shorter e d P)
encode_shorter e d (sum P Q) =
    omega (arith, encode_shorter e d P, encode_shorter e d Q, length-append (encode d P) (encode d Q), length-append (encode_in e d P) (encode_in e d Q))
encode_shorter e d (par P Q) =
    omega (arith, encode_shorter e d P, encode_shorter e d Q, length-append (encode d P) (encode d Q), length-append (encode_in e d P) (encode_in e d Q))
encode_shorter e d (res P) = omega (arith, encode_shorter e (1 + d) P)
encode_shorter e d (call k ns) = omega (arith, length-append (count_bytes e (length ns)) (map (name_byte d) ns))

body-fields-first : (sizes : List ℕ) (Ps : List Term) → body_fields_in one sizes Ps ≡ body_fields sizes Ps
unfolding body_fields_in body_fields
body-fields-first (a ∷ sizes) (P ∷ Ps) = rw (encode-first a P, body-fields-first sizes Ps)
body-fields-first (a ∷ sizes) [] = refl
body-fields-first [] Ps = refl

pub fields-first : (q : Question) → fields_in one q ≡ fields_of q
unfolding fields_in fields_of
fields-first q = rw (body-fields-first q.arities q.bodies, encode-first 0 q.first, encode-first 0 q.second)

pub write-first : (q : Question) → write_in one q ≡ write q
unfolding write_in write
write-first q = ap (joined one) (fields-first q)

-- What `encode` writes, reading gives back.
module _ (free : ℕ) (few : free ≤ 128) (arities : List ℕ) where
  pub read_encoded_first : (d : ℕ) (P : Term) → InScope free arities d P → (n : ℕ) → length (encode d P) ≤ n → (bs : List ℕ) →
      read_term one (numbered arities) free n d (encode d P ++ bs) ≡ result (P, bs)
  read_encoded_first d P g n h bs =
      rw encode-first at (read_encoded free few one (numbered arities) d P (scope_to arities free d P g) n (rw encode-first h) bs)

  pub read_whole_first : (d : ℕ) (P : Term) → InScope free arities d P → read_whole one (numbered arities) free d (encode d P) ≡ result P
  read_whole_first d P g = rw encode-first at (read_whole_lem free few one (numbered arities) d P (scope_to arities free d P g))
