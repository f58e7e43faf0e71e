-- The limits of document 01 on the steps of a part, and the size of a listed step.
use Rattle.std.specs.Prelude.{ℕ, ◌+◌}
use Rattle.terms.specs.Limits.{name_count, longest_term}

-- more distinct steps than this are unsettled
abbrev pub most_steps : ℕ
most_steps = 256

-- the bytes of a listed step: a class for each name, the action's three, the result behind its length
abbrev pub step_bytes : ℕ
step_bytes = name_count + 4 + longest_term

-- Opening a call that reaches more than so many calls is unsettled (document 02, request 2026-01); with so many to open one within the other, of at most
-- eight names each, the search for them always ends.
abbrev pub most_reached : ℕ
most_reached = 64

abbrev pub deepest_calls : ℕ
deepest_calls = 577
