-- The definitions on examples: the third exchange of document 01, each check with its limits, and two faults at once to show the order.
use mathlib.Core.Path.{◌≡◌, refl}
use mathlib.Core.List.{List, [], ◌∷◌, ◌++◌, map}
use Prim.Native.Nat.{ℕ, zero, suc, ◌+◌, ◌-◌, ◌/◌}
use Rattle.calculus.specs.Cond.{join}
use Rattle.calculus.specs.Term.{nil, tau, mat, sum}
use Rattle.terms.specs.Answer.{Answer, refused, result, ◌>>=◌, ◌>>◌, need}
use Rattle.terms.specs.Edition.{one, version_byte, count_bytes, encode_in}
use Rattle.terms.specs.Encoding.{name_byte}
use Rattle.terms.specs.Framing.{cut, field, fields, framed, sized, all_sized, joined}
use Rattle.terms.specs.Grammar.{sequential, parallel_outermost, guarded}
use Rattle.terms.specs.Limits.{name_count, longest_apart}
use Rattle.terms.specs.Operations.{check_answer, holds_apart, merged_question, merged, beside_question, fits_beside, placed_beside, written_within, merge_of, beside_of}
use Rattle.terms.specs.Question.{every, version, fits, read_bodies, read_part_with, different_names_with, read_pairs_with, read_apart_with, check_terms_with, check_fields_with, check_with, check_of, edition_of, question_with, body_fields_in, pair_bytes, fields_in, write_in}
use Rattle.terms.specs.Reading.{byte, read_name, read_names, tag_of, numbered, read_count, read_term, read_whole}

abbrev third_exchange : List ℕ
third_exchange = 1 ∷ 0 ∷ 0 ∷ 8 ∷ 6 ∷ 1 ∷ 0 ∷ 5 ∷ 0 ∷ 1 ∷ 1 ∷ 0 ∷ 0 ∷ 2 ∷ 1 ∷ 0 ∷ 0 ∷ 0 ∷ []

third_accepted : check_of third_exchange
    ≡ result (record { arities = []; bodies = []; first = sum (tau nil) (mat 0 1 (tau nil)); second = tau nil; apart = [] })
unfolding check_of check_with version_byte numbered read_count check_fields_with check_terms_with ◌>>=◌ ◌>>◌ need version framed cut field fields every fits
    read_bodies read_part_with read_whole read_term read_name byte tag_of sequential parallel_outermost read_apart_with different_names_with read_pairs_with
third_accepted = refl

module _ {A : Type 0} where
  abbrev times : ℕ → List A → List A
  times zero xs = []
  times (suc n) xs = xs ++ times n xs

-- questions without a definition, and with definitions
abbrev parts : List ℕ → List ℕ → List ℕ → List ℕ
parts P Q D = joined one (record { arities = []; bodies = []; first = P; second = Q; apart = D })

abbrev defining : List ℕ → List (List ℕ) → List ℕ → List ℕ → List ℕ
defining arities bodies P D = joined one (record { arities = arities; bodies = bodies; first = P; second = 0 ∷ []; apart = D })

abbrev rows : List (List ℕ × Answer ℕ)
rows =
    -- 3: nothing, another version; before 4
    ([], refused 3) ∷
    (3 ∷ 0 ∷ 0 ∷ [], refused 3) ∷
    (2 ∷ 0 ∷ 0 ∷ [], refused 4) ∷
    -- 4: ends at once, ends inside its first part, bytes left over; before 5
    (1 ∷ [], refused 4) ∷
    (1 ∷ 0 ∷ 255 ∷ 255 ∷ 0 ∷ [], refused 4) ∷
    (1 ∷ 17 ∷ [], refused 4) ∷
    (parts (0 ∷ []) (0 ∷ []) [] ++ (0 ∷ []), refused 4) ∷
    -- 5: arity 8 and 9, 16 and 17 definitions; before 6
    (defining (8 ∷ []) ((0 ∷ []) ∷ []) (0 ∷ []) [], result 0) ∷
    (defining (9 ∷ []) ([] ∷ []) (0 ∷ []) [], refused 5) ∷
    (defining (times 16 (0 ∷ [])) (times 16 ((0 ∷ []) ∷ [])) (0 ∷ []) [], result 0) ∷
    (defining (times 17 (0 ∷ [])) (times 17 ((0 ∷ []) ∷ [])) (0 ∷ []) [], refused 5) ∷
    -- 6: no byte, 112 and 113 bytes; before 7
    (parts (10 ∷ []) [] [], refused 6) ∷
    (parts (times 111 (1 ∷ []) ++ (0 ∷ [])) (0 ∷ []) [], result 0) ∷
    (parts (times 112 (1 ∷ []) ++ (0 ∷ [])) (0 ∷ []) [], refused 6) ∷
    -- 7: an unknown byte, the part ends inside its term, bytes behind it
    (parts (10 ∷ []) (0 ∷ []) [], refused 7) ∷
    (parts (2 ∷ 0 ∷ []) (0 ∷ []) [], refused 7) ∷
    (parts (9 ∷ []) (0 ∷ []) [], refused 7) ∷
    (parts (0 ∷ 0 ∷ []) (0 ∷ []) [], refused 7) ∷
    -- 7, 8, 9: the first fault of the walk decides, and the walk of an earlier part
    (parts (3 ∷ name_count ∷ []) (0 ∷ []) [], refused 9) ∷
    (parts (6 ∷ 9 ∷ 0 ∷ 10 ∷ []) (0 ∷ []) [], refused 8) ∷
    (parts (9 ∷ 0 ∷ []) (10 ∷ []) [], refused 8) ∷
    (parts (10 ∷ []) (9 ∷ 0 ∷ []) [], refused 7) ∷
    -- 9: the last name and the byte behind it, a binder within and out of reach, a free name in a body
    (parts (5 ∷ (name_count - 1) ∷ 0 ∷ 0 ∷ []) (0 ∷ []) [], result 0) ∷
    (parts (5 ∷ name_count ∷ 0 ∷ 0 ∷ []) (0 ∷ []) [], refused 9) ∷
    (parts (2 ∷ 0 ∷ 5 ∷ 128 ∷ 0 ∷ 0 ∷ []) (0 ∷ []) [], result 0) ∷
    (parts (2 ∷ 0 ∷ 5 ∷ 129 ∷ 0 ∷ 0 ∷ []) (0 ∷ []) [], refused 9) ∷
    (defining (1 ∷ []) ((5 ∷ 128 ∷ 0 ∷ 0 ∷ []) ∷ []) (0 ∷ []) [], refused 9) ∷
    (defining (2 ∷ []) ((5 ∷ 128 ∷ 129 ∷ 0 ∷ []) ∷ []) (0 ∷ []) [], result 0) ∷
    -- 10: in a body, beneath a choice, beneath a restriction; before 11 though that is of an earlier body
    (defining (0 ∷ []) ((7 ∷ 0 ∷ 0 ∷ []) ∷ []) (0 ∷ []) [], refused 10) ∷
    (parts (6 ∷ 7 ∷ 0 ∷ 0 ∷ 0 ∷ []) (0 ∷ []) [], refused 10) ∷
    (parts (7 ∷ 8 ∷ 7 ∷ 0 ∷ 0 ∷ 0 ∷ []) (0 ∷ []) [], result 0) ∷
    (defining (0 ∷ []) ((9 ∷ 0 ∷ []) ∷ []) (1 ∷ 7 ∷ 0 ∷ 0 ∷ []) [], refused 10) ∷
    -- 11: before 12
    (defining (0 ∷ []) ((8 ∷ 9 ∷ 0 ∷ []) ∷ []) (0 ∷ []) (0 ∷ []), refused 11) ∷
    (defining (0 ∷ []) ((1 ∷ 9 ∷ 0 ∷ []) ∷ []) (9 ∷ 0 ∷ []) [], result 0) ∷
    -- 12: odd length, the last name and the byte behind it, a name with itself, the longest list and a longer one
    (parts (0 ∷ []) (0 ∷ []) (0 ∷ []), refused 12) ∷
    (parts (0 ∷ []) (0 ∷ []) (0 ∷ (name_count - 1) ∷ []), result 0) ∷
    (parts (0 ∷ []) (0 ∷ []) (0 ∷ name_count ∷ []), refused 12) ∷
    (parts (0 ∷ []) (0 ∷ []) (3 ∷ 3 ∷ []), refused 12) ∷
    (parts (0 ∷ []) (0 ∷ []) (times (longest_apart / 2) (0 ∷ 1 ∷ [])), result 0) ∷
    (parts (0 ∷ []) (0 ∷ []) (times (longest_apart / 2 + 1) (0 ∷ 1 ∷ [])), refused 12) ∷
    []

checks : map (λ r. check_answer r.0) rows ≡ map (λ r. r.1) rows
unfolding check_answer question_with edition_of check_with version_byte numbered read_count check_fields_with check_terms_with ◌>>=◌ ◌>>◌ need version framed cut field
    fields every fits read_bodies read_part_with read_whole read_term read_name read_names byte tag_of sequential parallel_outermost guarded read_apart_with
    different_names_with read_pairs_with joined sized all_sized
checks = refl

-- two names merged, in either order and with a room that is exact; a room too short, names apart, a byte that is no name, a name with itself
merges : map (λ (r : ℕ × ℕ × ℕ). merge_of (parts (3 ∷ 3 ∷ 1 ∷ 2 ∷ 3 ∷ 5 ∷ 3 ∷ 128 ∷ 0 ∷ []) (1 ∷ 0 ∷ []) (2 ∷ 3 ∷ [])) r.0 r.1 r.2)
    ((3, 1, 100) ∷ (1, 3, 21) ∷ (1, 3, 20) ∷ (3, 2, 100) ∷ (2, 3, 0) ∷ (name_count, 3, 0) ∷ (3, 3, 100) ∷ [])
    ≡ result (parts (3 ∷ 1 ∷ 1 ∷ 2 ∷ 1 ∷ 5 ∷ 1 ∷ 128 ∷ 0 ∷ []) (1 ∷ 0 ∷ []) (2 ∷ 1 ∷ []))
    ∷ result (parts (3 ∷ 1 ∷ 1 ∷ 2 ∷ 1 ∷ 5 ∷ 1 ∷ 128 ∷ 0 ∷ []) (1 ∷ 0 ∷ []) (2 ∷ 1 ∷ []))
    ∷ refused 15
    ∷ refused 14
    ∷ refused 14
    ∷ refused 14
    ∷ result (parts (3 ∷ 3 ∷ 1 ∷ 2 ∷ 3 ∷ 5 ∷ 3 ∷ 128 ∷ 0 ∷ []) (1 ∷ 0 ∷ []) (2 ∷ 3 ∷ []))
    ∷ []
unfolding merge_of merged merged_question holds_apart written_within write_in fields_in body_fields_in pair_bytes encode_in count_bytes name_byte join
    question_with edition_of check_with version_byte numbered read_count check_fields_with check_terms_with ◌>>=◌ ◌>>◌ need version framed cut field fields every fits
    read_bodies read_part_with read_whole read_term read_name read_names byte tag_of sequential parallel_outermost guarded read_apart_with different_names_with read_pairs_with
    joined sized all_sized
merges = refl

-- a part beside both sides; 6, 7 and 10 of the third part, a room that is exact and one too short, and 6 where a side would have 113 bytes
besides : map (λ (r : List ℕ × ℕ). beside_of (parts (8 ∷ 0 ∷ []) (1 ∷ 0 ∷ []) []) r.0 r.1)
    ((7 ∷ 0 ∷ 0 ∷ [], 100) ∷ ([], 100) ∷ (10 ∷ [], 0) ∷ (1 ∷ 7 ∷ 0 ∷ 0 ∷ [], 0) ∷ (0 ∷ [], 16) ∷ (0 ∷ [], 15) ∷ (times 109 (10 ∷ []), 0) ∷ (times 110 (10 ∷ []), 0) ∷ [])
    ≡ result (parts (7 ∷ 8 ∷ 0 ∷ 7 ∷ 0 ∷ 0 ∷ []) (7 ∷ 1 ∷ 0 ∷ 7 ∷ 0 ∷ 0 ∷ []) [])
    ∷ refused 6
    ∷ refused 7
    ∷ refused 10
    ∷ result (parts (7 ∷ 8 ∷ 0 ∷ 0 ∷ []) (7 ∷ 1 ∷ 0 ∷ 0 ∷ []) [])
    ∷ refused 15
    ∷ refused 7
    ∷ refused 6
    ∷ []
unfolding beside_of placed_beside beside_question fits_beside written_within write_in fields_in body_fields_in pair_bytes encode_in count_bytes name_byte
    question_with edition_of check_with version_byte numbered read_count check_fields_with check_terms_with ◌>>=◌ ◌>>◌ need version framed cut field fields every fits
    read_bodies read_part_with read_whole read_term read_name read_names byte tag_of sequential parallel_outermost guarded read_apart_with different_names_with read_pairs_with
    joined sized all_sized
besides = refl
