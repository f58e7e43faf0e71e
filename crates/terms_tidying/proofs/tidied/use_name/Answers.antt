use borrow.Author.Rules.{rules}
use Rattle.terms_tidying.proofs.TidiedWalk.{keeps_none, keeps_one}
use Rattle.terms_tidying.proofs.tidied.use_name.Goals as goal

pub returns-then-b-lt128 : goal.returns-then-b-lt128
returns-then-b-lt128 c = keeps_none _ _ _

-- src/tidied.rt:25:9
pub returns-then-depth-inner : goal.returns-then-depth-inner
returns-then-depth-inner c = keeps_none _ _ _

-- src/tidied.rt:16:1
pub returns : goal.returns
returns c =
    let v = c.args in
    keeps_one v.depth v.b v.waits.now (search rules) (search rules)
