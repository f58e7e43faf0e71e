-- What the functions that write results and put them into a list ask of what they are lent.
use Rattle.std.specs.Prelude.{List, ◌≡◌, ℕ, ◌<◌, ◌≤◌, length, get_or}
use Rattle.calculus.specs.Term.{Term}
use Rattle.terms.specs.Answer.{result}
use Rattle.terms.specs.Encoding.{encode, InScope}
use Rattle.terms.specs.Limits.{name_count, longest_term}
use Rattle.terms.specs.Question.{Question, check_of}
use Rattle.terms_restrictions.specs.Restrictions.{Unrestricted}
use Rattle.steps_tallies.specs.Tally.{restricted_at, TallyIs, BodiesUnrestricted, BodiesTallied}
use Rattle.steps_splicing.specs.declared.locate.Located.{Located}

-- The bytes are those of P.
abbrev pub IsPart : (question part : List ℕ) → Question → Term → Type 0
IsPart question part q P = (check_of question ≡ result q) × InScope name_count q.arities 0 P × (part ≡ encode 0 P)

-- Neither the part nor a body has a restriction or an output of a new name.
abbrev pub PartUnrestricted : (question part : List ℕ) → Type 0
PartUnrestricted question part = BodiesUnrestricted question × ((q : Question) (P : Term) → IsPart question part q P → Unrestricted P)

-- In the tally of a part it is noted if it or a body has a restriction (document 02, request 2026-04).
pub record RestrictionNoted (question part tally : List ℕ) : Type 0 where
  pub plain : get_or tally restricted_at 0 ≡ 0 → PartUnrestricted question part

-- A part that is tallied, and so are the bodies.
abbrev pub Tallied : (question bodies part tally : List ℕ) → Type 0
Tallied question bodies part tally =
    (length part ≤ longest_term) × TallyIs question part 1 tally × BodiesTallied question bodies × RestrictionNoted question part tally

-- The term at `at` is one of the part, under so many restrictions.
abbrev pub Inside : (part : List ℕ) (at depth : ℕ) → Type 0
Inside part at depth = (depth ≤ at) × (at < length part)

-- A component as it is found: past the last byte where there is none.
abbrev pub FoundIn : (part : List ℕ) → Located → Type 0
FoundIn part l = (l.depth ≤ l.at) × (l.at ≤ length part)
