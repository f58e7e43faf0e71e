use borrow.Author.Rules.{rules}
use Rattle.terms_bytes.specs.FieldPlaces.{definitions_of}
use Rattle.terms_bytes.proofs.frame.definitions.Goals as goal

pub returns : goal.returns
unfolding definitions_of
returns c = (c.get.ensures, search rules)
