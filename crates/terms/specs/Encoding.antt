-- The bytes of a term: document 01, "A question, byte by byte".
use Rattle.std.specs.Prelude.{◌≡◌, cond, List, [], ◌∷◌, ◌++◌, map, ℕ, ◌+◌, ◌-◌, ◌<◌, length, get_or, ltb}
use Rattle.calculus.specs.Term.{Term, nil, tau, inp, out, bout, mat, sum, par, res, call}

-- The byte of the name n under d binders: 80 + n for the n-th binder outward, or a free name's own number.
unfoldable pub name_byte : ℕ → ℕ → ℕ
name_byte d n = cond (ltb n d) (128 + n) (n - d)

-- The bytes of a term under d binders, by the table.
unfoldable pub encode : ℕ → Term → List ℕ
encode d nil = 0 ∷ []
encode d (tau P) = 1 ∷ encode d P
encode d (inp a P) = 2 ∷ name_byte d a ∷ encode (1 + d) P
encode d (out a b P) = 3 ∷ name_byte d a ∷ name_byte d b ∷ encode d P
encode d (bout a P) = 4 ∷ name_byte d a ∷ encode (1 + d) P
encode d (mat a b P) = 5 ∷ name_byte d a ∷ name_byte d b ∷ encode d P
encode d (sum P Q) = 6 ∷ (encode d P ++ encode d Q)
encode d (par P Q) = 7 ∷ (encode d P ++ encode d Q)
encode d (res P) = 8 ∷ encode (1 + d) P
encode d (call k ns) = 9 ∷ k ∷ map (name_byte d) ns

-- Each name is one of d binders or one of the free names, of which there are `free` (`name_count` in a part, 0 in a body).
unfoldable pub NamesInScope : ℕ → ℕ → List ℕ → Type 0
NamesInScope free d [] = Unit {0}
NamesInScope free d (n ∷ ns) = (n < d + free) × NamesInScope free d ns

-- What rules 8 and 9 ask of a term under d binders: names in scope, calls of definitions that are there, with as many names as the arity.
unfoldable pub InScope : ℕ → List ℕ → ℕ → Term → Type 0
InScope free arities d nil = Unit {0}
InScope free arities d (tau P) = InScope free arities d P
InScope free arities d (inp a P) = (a < d + free) × InScope free arities (1 + d) P
InScope free arities d (out a b P) = (a < d + free) × (b < d + free) × InScope free arities d P
InScope free arities d (bout a P) = (a < d + free) × InScope free arities (1 + d) P
InScope free arities d (mat a b P) = (a < d + free) × (b < d + free) × InScope free arities d P
InScope free arities d (sum P Q) = InScope free arities d P × InScope free arities d Q
InScope free arities d (par P Q) = InScope free arities d P × InScope free arities d Q
InScope free arities d (res P) = InScope free arities (1 + d) P
InScope free arities d (call k ns) = (k < length arities) × (length ns ≡ get_or arities k 0) × NamesInScope free d ns
