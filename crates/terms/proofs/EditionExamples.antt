-- The definitions on examples: K of document 01 in both editions, the converters, and the order of check 16 in the walk.
use mathlib.Core.Path.{◌≡◌, refl}
use mathlib.Core.List.{List, [], ◌∷◌, ◌++◌, map}
use Prim.Native.Nat.{ℕ, zero, suc}
use Rattle.terms.specs.Answer.{Answer, refused, result, ◌>>=◌, ◌>>◌, need}
use Rattle.terms.specs.Edition.{one, two, version_byte, count_bytes, encode_in}
use Rattle.terms.specs.Encoding.{name_byte}
use Rattle.terms.specs.Framing.{cut, field, fields, framed, sized, all_sized, joined}
use Rattle.terms.specs.Grammar.{sequential, parallel_outermost, guarded}
use Rattle.terms.specs.Limits.{name_count}
use Rattle.terms.specs.Operations.{beside_question, fits_beside, placed_beside, written_within, beside_of, convert_of, length_written}
use Rattle.terms.specs.Question.{every, fits, version, different_names_with, read_pairs_with, read_apart_with, pair_bytes, read_bodies, read_part_with, check_terms_with, check_fields_with, check_with, edition_of, question_of, question_with, body_fields_in, fields_in, write_in, fits_in}
use Rattle.terms.specs.Reading.{byte, read_name, read_names, tag_of, numbered, read_count, read_term, read_whole}

-- K of arity 1, body 03 80 80 09 00 80; K⟨a⟩ and āa.K⟨a⟩
abbrev first : List ℕ
first = 1 ∷ 1 ∷ 1 ∷ 0 ∷ 6 ∷ 3 ∷ 128 ∷ 128 ∷ 9 ∷ 0 ∷ 128 ∷ 0 ∷ 3 ∷ 9 ∷ 0 ∷ 0 ∷ 0 ∷ 6 ∷ 3 ∷ 0 ∷ 0 ∷ 9 ∷ 0 ∷ 0 ∷ 0 ∷ 0 ∷ []

abbrev second : List ℕ
second =
    2 ∷ 1 ∷ 1 ∷ 0 ∷ 7 ∷ 3 ∷ 128 ∷ 128 ∷ 9 ∷ 0 ∷ 1 ∷ 128 ∷ 0 ∷ 4 ∷ 9 ∷ 0 ∷ 1 ∷ 0 ∷ 0 ∷ 7 ∷ 3 ∷ 0 ∷ 0 ∷ 9 ∷ 0 ∷ 1 ∷ 0 ∷ 0 ∷ 0 ∷ []

abbrev answer_of : List ℕ → Answer ℕ
answer_of question = question_of question >>= λ q. result 0

module _ {A : Type 0} where
  abbrev times : ℕ → List A → List A
  times zero xs = []
  times (suc n) xs = xs ++ times n xs

-- edition two, one definition of arity 1 with the body 00, this first part, the second part 00
abbrev asking : List ℕ → List ℕ
asking P = joined two (record { arities = 1 ∷ []; bodies = (0 ∷ []) ∷ []; first = P; second = 0 ∷ []; apart = [] })

abbrev asking_first : List ℕ → List ℕ
asking_first P = joined one (record { arities = 1 ∷ []; bodies = (0 ∷ []) ∷ []; first = P; second = 0 ∷ []; apart = [] })

abbrev rows : List (List ℕ × Answer ℕ)
rows =
    ([], refused 3) ∷
    (0 ∷ [], refused 3) ∷
    (3 ∷ 0 ∷ [], refused 3) ∷
    (2 ∷ [], refused 4) ∷
    (first, result 0) ∷
    (second, result 0) ∷
    -- 16: the number of names is not the arity
    (asking (9 ∷ 0 ∷ 0 ∷ []), refused 16) ∷
    (asking (9 ∷ 0 ∷ 2 ∷ 0 ∷ 0 ∷ []), refused 16) ∷
    (asking (9 ∷ 0 ∷ 1 ∷ 0 ∷ []), result 0) ∷
    -- it is missing, and so is a name: 7
    (asking (9 ∷ 0 ∷ []), refused 7) ∷
    (asking (9 ∷ 0 ∷ 1 ∷ []), refused 7) ∷
    -- directly after 8, before 9; the first fault of the walk decides
    (asking (9 ∷ 1 ∷ 5 ∷ []), refused 8) ∷
    (asking (9 ∷ 0 ∷ 0 ∷ name_count ∷ []), refused 16) ∷
    (asking (9 ∷ 0 ∷ 1 ∷ name_count ∷ []), refused 9) ∷
    (asking (6 ∷ 9 ∷ 0 ∷ 0 ∷ 10 ∷ []), refused 16) ∷
    (asking (6 ∷ 10 ∷ 9 ∷ 0 ∷ 0 ∷ []), refused 7) ∷
    (asking (9 ∷ 0 ∷ 1 ∷ 0 ∷ 0 ∷ []), refused 7) ∷
    -- check 6 goes by the file: 112 and 113 bytes of edition two
    (asking (times 108 (1 ∷ []) ++ (9 ∷ 0 ∷ 1 ∷ 0 ∷ [])), result 0) ∷
    (asking (times 109 (1 ∷ []) ++ (9 ∷ 0 ∷ 1 ∷ 0 ∷ [])), refused 6) ∷
    []

rows_hold : map (λ r. answer_of r.0) rows ≡ map (λ r. r.1) rows
unfolding question_with edition_of check_with check_fields_with check_terms_with version version_byte ◌>>=◌ ◌>>◌ need framed cut field fields every fits read_bodies
    read_part_with read_whole read_term read_name read_names byte tag_of numbered read_count sequential parallel_outermost guarded read_apart_with different_names_with
    read_pairs_with joined sized all_sized
rows_hold = refl

abbrev conversions : List (Answer (List ℕ) × Answer (List ℕ))
conversions =
    (convert_of two first 29, result second) ∷
    (convert_of one second 26, result first) ∷
    (convert_of two first 28, refused 15) ∷
    (convert_of two second 4096, refused 3) ∷
    (convert_of one first 4096, refused 3) ∷
    (convert_of one [] 4096, refused 3) ∷
    -- 17: 112 bytes of edition one with a call
    (convert_of two (asking_first (times 109 (1 ∷ []) ++ (9 ∷ 0 ∷ 0 ∷ []))) 0, refused 17) ∷
    (convert_of two (asking_first (times 108 (1 ∷ []) ++ (9 ∷ 0 ∷ 0 ∷ []))) 4096, result (asking (times 108 (1 ∷ []) ++ (9 ∷ 0 ∷ 1 ∷ 0 ∷ [])))) ∷
    []

conversions_hold : map (λ r. r.0) conversions ≡ map (λ r. r.1) conversions
unfolding convert_of written_within fits_in write_in fields_in body_fields_in encode_in count_bytes name_byte pair_bytes check_with check_fields_with check_terms_with
    version version_byte ◌>>=◌ ◌>>◌ need framed cut field fields every fits read_bodies read_part_with read_whole read_term read_name read_names byte tag_of
    numbered read_count sequential parallel_outermost guarded read_apart_with different_names_with read_pairs_with joined sized all_sized
conversions_hold = refl

-- Beside in edition two: check 6 counts the numbers of names too. A side of 100 bytes and a third part of 11 pass, of 12 do not.
abbrev side_of100 : List ℕ
side_of100 = asking (times 96 (1 ∷ []) ++ (9 ∷ 0 ∷ 1 ∷ 0 ∷ []))

besides : map (length_written) (
    beside_of side_of100 (times 7 (1 ∷ []) ++ (9 ∷ 0 ∷ 1 ∷ 0 ∷ [])) 4096 ∷ beside_of side_of100 (times 8 (1 ∷ []) ++ (9 ∷ 0 ∷ 1 ∷ 0 ∷ [])) 4096
    ∷ beside_of side_of100 (9 ∷ 0 ∷ 0 ∷ []) 4096 ∷ [])
    ≡ result 137 ∷ refused 6 ∷ refused 16 ∷ []
unfolding beside_of placed_beside beside_question fits_beside length_written written_within write_in fields_in body_fields_in encode_in count_bytes name_byte
    pair_bytes question_with edition_of check_with check_fields_with check_terms_with version version_byte ◌>>=◌ ◌>>◌ need framed cut field fields every fits read_bodies
    read_part_with read_whole read_term read_name read_names byte tag_of numbered read_count sequential parallel_outermost guarded read_apart_with different_names_with
    read_pairs_with joined sized all_sized
besides = refl
