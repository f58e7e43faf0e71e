-- The fields of a question, as bytes: check 4 of document 01 cuts them out, and writing joins them again.
use Rattle.std.specs.Prelude.{cond, List, [], ◌∷◌, ◌++◌, ℕ, zero, suc, ◌+◌, ◌*◌, ◌/◌, ◌%◌, length, get_or, take, drop, ltb, leb, eqb}
use Rattle.terms.specs.Answer.{Answer, refused, result, ◌>>=◌, ◌>>◌, need}
use Rattle.terms.specs.Edition.{Edition, version_byte}

-- The first n bytes, and those behind them.
unfoldable pub cut : ℕ → List ℕ → Answer (List ℕ × List ℕ)
cut n bs = cond (leb n (length bs)) (result (take n bs, drop n bs)) (refused 4)

-- A body, part or apart list: its length as two bytes, the greater half first, then its bytes. A length has one way to be written: the lower half
-- is a byte (a number above 255 is none).
unfoldable pub field : List ℕ → Answer (List ℕ × List ℕ)
field bs = do
  (size, bs) ← cut 2 bs
  need 4 (ltb (get_or size 1 0) 256)
  cut (256 * get_or size 0 0 + get_or size 1 0) bs

unfoldable pub fields : ℕ → List ℕ → Answer (List (List ℕ) × List ℕ)
fields zero bs = result ([], bs)
fields (suc n) bs = do
  (f, bs) ← field bs
  (fs, bs) ← fields n bs
  result (f ∷ fs, bs)

pub record Fields : Type 0 where
  pub arities : List ℕ
  pub bodies : List (List ℕ)
  pub first : List ℕ
  pub second : List ℕ
  pub apart : List ℕ

-- The fields behind the version byte: all there, and nothing left over.
unfoldable pub framed : List ℕ → Answer Fields
framed bs = do
  (n, bs) ← cut 1 bs
  (arities, bs) ← cut (get_or n 0 0) bs
  (bodies, bs) ← fields (get_or n 0 0) bs
  (first, bs) ← field bs
  (second, bs) ← field bs
  (apart, bs) ← field bs
  need 4 (eqb (length bs) 0)
  result (record { arities = arities; bodies = bodies; first = first; second = second; apart = apart })

-- The bytes of a field.
unfoldable pub sized : List ℕ → List ℕ
sized bs = (length bs / 256) ∷ (length bs % 256) ∷ bs

unfoldable pub all_sized : List (List ℕ) → List ℕ
all_sized [] = []
all_sized (f ∷ fs) = sized f ++ all_sized fs

-- The bytes of a question, the version byte first.
unfoldable pub joined : Edition → Fields → List ℕ
joined e f =
    version_byte e
    ∷ length f.arities ∷ (f.arities ++ (all_sized f.bodies ++ (sized f.first ++ (sized f.second ++ sized f.apart))))

-- What stands before the apart list.
unfoldable pub before_apart : Edition → Fields → List ℕ
before_apart e f = version_byte e ∷ length f.arities ∷ (f.arities ++ (all_sized f.bodies ++ (sized f.first ++ sized f.second)))
