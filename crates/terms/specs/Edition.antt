-- The two editions of a question's bytes: document 02, request 2026-05. They differ in the version byte and in calls alone.
use Rattle.std.specs.Prelude.{List, [], ◌∷◌, ◌++◌, map, ℕ, ◌+◌, length}
use Rattle.calculus.specs.Term.{Term, nil, tau, inp, out, bout, mat, sum, par, res, call}
use Rattle.terms.specs.Encoding.{name_byte}

pub data Edition : Type 0 where
  one two : Edition

abbrev pub other : Edition → Edition
other one = two
other two = one

unfoldable pub version_byte : Edition → ℕ
version_byte one = 1
version_byte two = 2

-- What stands between a call's definition and its names: in edition two their number.
unfoldable pub count_bytes : Edition → ℕ → List ℕ
count_bytes one n = []
count_bytes two n = n ∷ []

-- The bytes of a term under d binders. In edition one they are those of `encode`, which all layers above a question's checks speak of
-- (proofs/EditionOne).
unfoldable pub encode_in : Edition → ℕ → Term → List ℕ
encode_in e d nil = 0 ∷ []
encode_in e d (tau P) = 1 ∷ encode_in e d P
encode_in e d (inp a P) = 2 ∷ name_byte d a ∷ encode_in e (1 + d) P
encode_in e d (out a b P) = 3 ∷ name_byte d a ∷ name_byte d b ∷ encode_in e d P
encode_in e d (bout a P) = 4 ∷ name_byte d a ∷ encode_in e (1 + d) P
encode_in e d (mat a b P) = 5 ∷ name_byte d a ∷ name_byte d b ∷ encode_in e d P
encode_in e d (sum P Q) = 6 ∷ (encode_in e d P ++ encode_in e d Q)
encode_in e d (par P Q) = 7 ∷ (encode_in e d P ++ encode_in e d Q)
encode_in e d (res P) = 8 ∷ encode_in e (1 + d) P
encode_in e d (call k ns) = 9 ∷ k ∷ (count_bytes e (length ns) ++ map (name_byte d) ns)
