-- Reading a term from its bytes: checks 7, 8, 16 and 9 in one walk from left to right, where the first fault decides. The edition and the rule
-- for what may be called are parameters.
use Rattle.std.specs.Prelude.{cond, ◌&&◌, List, [], ◌∷◌, ℕ, zero, suc, ◌+◌, ◌-◌, length, get_or, ltb, leb, eqb}
use Rattle.calculus.specs.Term.{Term, nil, tau, inp, out, bout, mat, sum, par, res, call}
use Rattle.terms.specs.Answer.{Answer, refused, result, ◌>>=◌, ◌>>◌, need}
use Rattle.terms.specs.Edition.{Edition, one, two}

-- The next byte and those behind it. Wherever a byte is missing, the part ends inside its term: check 7.
unfoldable pub byte : List ℕ → Answer (ℕ × List ℕ)
byte [] = refused 7
byte (b ∷ bs) = result (b, bs)

-- Check 9: a name under d binders is a free name, of which there are `free` (`name_count` in a part, 0 in a body), or a binder within reach.
unfoldable pub read_name : ℕ → ℕ → List ℕ → Answer (ℕ × List ℕ)
read_name free d bs = do
  (b, bs) ← byte bs
  cond (ltb b free) (result (d + b, bs)) (cond (leb 128 b && ltb (b - 128) d) (result (b - 128, bs)) (refused 9))

unfoldable pub read_names : ℕ → ℕ → ℕ → List ℕ → Answer (List ℕ × List ℕ)
read_names free d zero bs = result ([], bs)
read_names free d (suc n) bs = do
  (a, bs) ← read_name free d bs
  (ns, bs) ← read_names free d n bs
  result (a ∷ ns, bs)

-- What the walk says of a call of definition k: the check that turns it back, or the number of its names.
abbrev pub Callees : Type 0
Callees = ℕ → Answer ℕ

-- Check 8: definitions by their number, each with its arity.
unfoldable pub numbered : List ℕ → Callees
numbered arities k = need 8 (ltb k (length arities)) >> result (get_or arities k 0)

-- Check 16, directly behind the definition's number: in edition two the number of names is written, and is the arity. Where it is missing, the
-- part ends inside its term (7).
unfoldable pub read_count : Edition → ℕ → List ℕ → Answer (List ℕ)
read_count one n bs = result bs
read_count two n bs = do
  (b, bs) ← byte bs
  need 16 (eqb b n)
  result bs

-- What the byte where a term begins stands for.
pub data Tag : Type 0 where
  inaction silent input output new_output match choice parallel restriction calling unknown : Tag

unfoldable pub tag_of : ℕ → Tag
tag_of b =
    get_or (inaction ∷ silent ∷ input ∷ output ∷ new_output ∷ match ∷ choice ∷ parallel ∷ restriction ∷ calling ∷ []) b unknown

-- The term under d binders with which the bytes begin, and the bytes behind it. The number that falls bounds the bytes left: a term takes at
-- least one, so where it is 0 there is no byte left.
module _ (e : Edition) (callees : Callees) (free : ℕ) where
  unfoldable pub read_term : ℕ → ℕ → List ℕ → Answer (Term × List ℕ)
  read_term zero d bs = refused 7
  read_term (suc n) d bs = do
    (t, bs) ← byte bs
    elim (tag_of t) [
      | inaction ↦ result (nil, bs)
      | silent ↦ do
        (P, bs) ← read_term n d bs
        result (tau P, bs)
      | input ↦ do
        (a, bs) ← read_name free d bs
        (P, bs) ← read_term n (1 + d) bs
        result (inp a P, bs)
      | output ↦ do
        (a, bs) ← read_name free d bs
        (b, bs) ← read_name free d bs
        (P, bs) ← read_term n d bs
        result (out a b P, bs)
      | new_output ↦ do
        (a, bs) ← read_name free d bs
        (P, bs) ← read_term n (1 + d) bs
        result (bout a P, bs)
      | match ↦ do
        (a, bs) ← read_name free d bs
        (b, bs) ← read_name free d bs
        (P, bs) ← read_term n d bs
        result (mat a b P, bs)
      | choice ↦ do
        (P, bs) ← read_term n d bs
        (Q, bs) ← read_term n d bs
        result (sum P Q, bs)
      | parallel ↦ do
        (P, bs) ← read_term n d bs
        (Q, bs) ← read_term n d bs
        result (par P Q, bs)
      | restriction ↦ do
        (P, bs) ← read_term n (1 + d) bs
        result (res P, bs)
      | calling ↦ do
        (k, bs) ← byte bs
        m ← callees k
        bs ← read_count e m bs
        (ns, bs) ← read_names free d m bs
        result (call k ns, bs)
      | unknown ↦ refused 7
    ]

  -- A whole body or part: no byte may follow its term.
  unfoldable pub read_whole : ℕ → List ℕ → Answer Term
  read_whole d bs = do
    (P, rest) ← read_term (length bs) d bs
    need 7 (eqb (length rest) 0)
    result P
