use Rattle.verdict_notes.proofs.NoteLaws.{none_numbers}
use Rattle.verdict_notes.proofs.relied.relied_none.Goals as goal

pub returns : goal.returns
returns c = none_numbers _ c.requires
