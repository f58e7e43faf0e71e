-- What checks 1 and 2 answer.
use Rattle.std.specs.Prelude.{Result, Ok, Err, ⊤}
use Rattle.terms.specs.Answer.{Answer, refused, result}
use Rattle.terms_bytes.specs.Refusals.{number_of}
use Rattle.terms_bytes.specs.declared.answer.Refusal.{Refusal}

unfoldable pub capacity_answer : Result ⊤ Refusal → Answer (Unit {0})
capacity_answer (Ok u) = result tt
capacity_answer (Err k) = refused (number_of k)
