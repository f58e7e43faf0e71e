use Rattle.steps_communications.proofs.meet.Partner.unmatched.Goals as goal

pub returns : goal.returns
returns c =
    let v = c.args in
    λ i. record { kind = c.action_kind.ensures i; channel = v.self.channel; object = v.self.object; number = v.self.number }
