-- The limits of document 01, each under its name. Whatever can be said over any number of names or bytes takes it as a parameter.
use Rattle.std.specs.Prelude.{ℕ, ◌*◌, ◌-◌}

-- The free names of a part are 00 to 0F.
abbrev pub name_count : ℕ
name_count = 16

-- Check 4.
abbrev pub longest_question : ℕ
longest_question = 4096

-- Check 5.
abbrev pub most_definitions : ℕ
most_definitions = 16

abbrev pub greatest_arity : ℕ
greatest_arity = 8

-- Check 6, for a body and for a part.
abbrev pub longest_term : ℕ
longest_term = 112

-- Check 12, in bytes: every pair of so many names once, 240 for 16 names.
abbrev pub longest_apart_of : ℕ → ℕ
longest_apart_of names = names * (names - 1)

abbrev pub longest_apart : ℕ
longest_apart = longest_apart_of name_count
