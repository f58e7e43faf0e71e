-- A question: checks 3 to 12 of document 01, with 16 of document 02, in their order, and its bytes in either edition.
use Rattle.std.specs.Prelude.{Bool, true, false, ◌&&◌, not, List, [], ◌∷◌, ℕ, length, ltb, leb, eqb, get_or}
use Rattle.calculus.specs.Cond.{Pairs}
use Rattle.calculus.specs.Term.{Term}
use Rattle.terms.specs.Limits.{name_count, longest_question, most_definitions, greatest_arity, longest_term, longest_apart_of}
use Rattle.terms.specs.Answer.{Answer, refused, result, ◌>>=◌, ◌>>◌, need}
use Rattle.terms.specs.Encoding.{encode}
use Rattle.terms.specs.Edition.{Edition, one, two, version_byte, encode_in}
use Rattle.terms.specs.Reading.{Callees, numbered, read_whole}
use Rattle.terms.specs.Grammar.{sequential, parallel_outermost, guarded}
use Rattle.terms.specs.Framing.{Fields, framed, joined}
use Rattle.calculus.specs.Term.{nil}

-- Document 01 calls its two terms the parts, and the pairs of names that are never equal the apart list.
pub record Question : Type 0 where
  pub arities : List ℕ
  pub bodies : List Term
  pub first : Term
  pub second : Term
  pub apart : Pairs

module _ {A : Type 0} where
  unfoldable pub every : (A → Bool) → List A → Bool
  every p [] = true
  every p (x ∷ xs) = p x && every p xs

-- Check 3, of a question that must be of this edition: the version byte; the bytes behind it.
unfoldable pub version : Edition → List ℕ → Answer (List ℕ)
version e [] = refused 3
version e (b ∷ bs) = need 3 (eqb b (version_byte e)) >> result bs

-- Check 6.
unfoldable pub fits : List ℕ → Bool
fits bs = leb 1 (length bs) && leb (length bs) longest_term

-- Checks 7 to 9 over the bodies: a body's parameters are its outermost binders, and no name is free in it.
unfoldable pub read_bodies : Edition → Callees → List ℕ → List (List ℕ) → Answer (List Term)
read_bodies e callees (a ∷ as') (b ∷ bs) = do
  P ← read_whole e callees 0 a b
  Ps ← read_bodies e callees as' bs
  result (P ∷ Ps)
read_bodies e callees (a ∷ as') [] = result []
read_bodies e callees [] bs = result []

-- What goes by the number of names takes it as a parameter.
module _ (names : ℕ) where
  -- Checks 7 to 9 over a part.
  unfoldable pub read_part_with : Edition → Callees → List ℕ → Answer Term
  read_part_with e callees bs = read_whole e callees names 0 bs

  -- Check 12.
  unfoldable pub different_names_with : ℕ → ℕ → Bool
  different_names_with a b = ltb a names && ltb b names && not (eqb a b)

  unfoldable pub read_pairs_with : List ℕ → Answer Pairs
  read_pairs_with [] = result []
  read_pairs_with (a ∷ []) = refused 12
  read_pairs_with (a ∷ b ∷ bs) = do
    need 12 (different_names_with a b)
    D ← read_pairs_with bs
    result ((a, b) ∷ D)

  unfoldable pub read_apart_with : List ℕ → Answer Pairs
  read_apart_with bs = need 12 (leb (length bs) (longest_apart_of names)) >> read_pairs_with bs

  -- Checks 7 to 12, over the fields that checks 4 to 6 have passed.
  unfoldable pub check_terms_with : Edition → Fields → Answer Question
  check_terms_with e f = do
    bodies ← read_bodies e (numbered f.arities) f.arities f.bodies
    first ← read_part_with e (numbered f.arities) f.first
    second ← read_part_with e (numbered f.arities) f.second
    need 10 (every sequential bodies && parallel_outermost first && parallel_outermost second)
    need 11 (every guarded bodies)
    apart ← read_apart_with f.apart
    result (record { arities = f.arities; bodies = bodies; first = first; second = second; apart = apart })

  -- Checks 5 to 12. Check 6 goes by the bytes of the file.
  unfoldable pub check_fields_with : Edition → Fields → Answer Question
  check_fields_with e f = do
    need 5 (leb (length f.arities) most_definitions && every (λ a. leb a greatest_arity) f.arities)
    need 6 (every fits f.bodies && fits f.first && fits f.second)
    check_terms_with e f

  -- Checks 3 to 12, in their order, of a question that must be of this edition.
  unfoldable pub check_with : Edition → List ℕ → Answer Question
  check_with e question = do
    rest ← version e question
    need 4 (leb (length question) longest_question)
    f ← framed rest
    check_fields_with e f

-- The same for the names that a part may have.
abbrev pub read_part : Edition → Callees → List ℕ → Answer Term
read_part = read_part_with name_count

abbrev pub different_names : ℕ → ℕ → Bool
different_names = different_names_with name_count

abbrev pub read_pairs : List ℕ → Answer Pairs
read_pairs = read_pairs_with name_count

abbrev pub read_apart : List ℕ → Answer Pairs
read_apart = read_apart_with name_count

abbrev pub check_terms : Edition → Fields → Answer Question
check_terms = check_terms_with name_count

abbrev pub check_fields : Edition → Fields → Answer Question
check_fields = check_fields_with name_count

abbrev pub check_in : Edition → List ℕ → Answer Question
check_in = check_with name_count

-- Those of edition one, whose bytes are what the lister and the judge walk.
unfoldable pub check_of : List ℕ → Answer Question
check_of question = check_in one question

-- The edition that a question's first byte says; of one that says none, check 3 is the first to fire in either.
unfoldable pub edition_of : List ℕ → Edition
edition_of question = elim (eqb (get_or question 0 0) 2) [ true ↦ two | false ↦ one ]

-- Checks 3 to 12 of a question in its own edition.
unfoldable pub question_with : ℕ → List ℕ → Answer Question
question_with names question = check_with names (edition_of question) question

abbrev pub question_of : List ℕ → Answer Question
question_of = question_with name_count

-- The bytes of a question in an edition.
unfoldable pub body_fields_in : Edition → List ℕ → List Term → List (List ℕ)
body_fields_in e (a ∷ as') (P ∷ Ps) = encode_in e a P ∷ body_fields_in e as' Ps
body_fields_in e (a ∷ as') [] = []
body_fields_in e [] Ps = []

unfoldable pub pair_bytes : Pairs → List ℕ
pair_bytes [] = []
pair_bytes (p ∷ D) = p.0 ∷ p.1 ∷ pair_bytes D

unfoldable pub fields_in : Edition → Question → Fields
fields_in e q =
    record {
      arities = q.arities;
      bodies = body_fields_in e q.arities q.bodies;
      first = encode_in e 0 q.first;
      second = encode_in e 0 q.second;
      apart = pair_bytes q.apart;
    }

unfoldable pub write_in : Edition → Question → List ℕ
write_in e q = joined e (fields_in e q)

-- No body or part is above 112 bytes in this edition.
unfoldable pub fits_in : Edition → Question → Bool
fits_in e q = every fits (body_fields_in e q.arities q.bodies) && fits (encode_in e 0 q.first) && fits (encode_in e 0 q.second)

-- In edition one, by `encode`.
unfoldable pub body_fields : List ℕ → List Term → List (List ℕ)
body_fields (a ∷ as') (P ∷ Ps) = encode a P ∷ body_fields as' Ps
body_fields (a ∷ as') [] = []
body_fields [] Ps = []

unfoldable pub fields_of : Question → Fields
fields_of q =
    record {
      arities = q.arities;
      bodies = body_fields q.arities q.bodies;
      first = encode 0 q.first;
      second = encode 0 q.second;
      apart = pair_bytes q.apart;
    }

unfoldable pub write : Question → List ℕ
write q = joined one (fields_of q)

-- the body of definition k (from 0)
unfoldable pub body_of : List Term → ℕ → Term
body_of bodies k = get_or bodies k nil
