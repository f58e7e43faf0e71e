-- The form in which results are listed, and in which the parts of a situation stand: as they are, or tidied (document 02, request 2026-04).
use Rattle.calculus.specs.Term.{Term}
use Rattle.calculus.specs.Tidy.{tidy}

abbrev pub as_it_is : Term → Term
as_it_is P = P

-- The form of the service (document 02, request 2026-04); proofs/FormLaws says what every form has, and proofs go by that.
unfoldable pub result_form : Term → Term
result_form P = tidy P
