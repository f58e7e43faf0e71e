use Rattle.terms_scanning.proofs.ControlLaws.{combined_parallel, combined_restriction, combined-call, combined-prefix, combined_inaction, combined-other}
use Rattle.terms_scanning.proofs.scan.combine.Goals as goal

pub returns-in-7 : goal.returns-in-7
returns-in-7 c =
    let a = c.args in
    combined_parallel a.t a.p a.q c.in-7.is

pub returns-in-8 : goal.returns-in-8
returns-in-8 c =
    let a = c.args in
    combined_restriction a.t a.p a.q c.in-8.is

pub returns-in-9 : goal.returns-in-9
returns-in-9 c =
    let a = c.args in
    combined-call a.t a.p a.q c.in-9.is

pub returns-in-1-to-4 : goal.returns-in-1-to-4
returns-in-1-to-4 c =
    let a = c.args in
    combined-prefix a.t a.p a.q c.in-1-to-4.if-t-lt1-own.false c.in-1-to-4.if-t-lt5-own.true

pub returns-in_default : goal.returns-in_default
returns-in_default c =
    let a = c.args in
    combined_inaction a.t a.p a.q c.in_default.if-t-lt1-own.true

pub returns-in_default-2 : goal.returns-in_default-2
returns-in_default-2 c =
    let a = c.args in
    combined-other a.t a.p a.q c.in_default.if-t-lt5-own.false c.in_default.in_default-own.rest.0.0.1 c.in_default.in_default-own.rest.0.1 c.in_default.in_default-own.rest.1
