-- Where the fields of a question stand in its bytes, whatever the bytes are: document 01, "A question, byte by byte". A field that runs past the
-- end of the question has no bytes, and what would follow it begins one past the end.
use Rattle.std.specs.Prelude.{cond, List, [], ℕ, zero, suc, ◌+◌, ◌*◌, length, get_or, take, drop, leb}

-- The number of definitions.
unfoldable pub definitions_of : List ℕ → ℕ
definitions_of question = get_or question 1 0

-- The arities, if they are all there.
unfoldable pub arities_of : List ℕ → List ℕ
arities_of question =
    cond (leb (2 + definitions_of question) (length question)) (take (definitions_of question) (drop 2 question)) []

-- The two-byte length that stands at `at`, the greater half first.
unfoldable pub size_at : List ℕ → ℕ → ℕ
size_at question at = 256 * get_or question at 0 + get_or question (at + 1) 0

-- Where the field that begins at `at` ends.
unfoldable pub after_field : List ℕ → ℕ → ℕ
after_field question at =
    cond (leb (at + (size_at question at + 2)) (length question)) (at + (size_at question at + 2)) (length question + 1)

-- The bytes of the field that begins at `at`, without its length.
unfoldable pub field_at : List ℕ → ℕ → List ℕ
field_at question at =
    cond (leb (at + (size_at question at + 2)) (length question)) (take (size_at question at) (drop (at + 2) question)) []

-- Where field k begins: the bodies come first, then the first part, the second part and the apart list.
unfoldable pub field_place : List ℕ → ℕ → ℕ
field_place question zero = 2 + definitions_of question
field_place question (suc k) = after_field question (field_place question k)
