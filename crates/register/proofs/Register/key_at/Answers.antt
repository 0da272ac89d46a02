use Rattle.register.proofs.Register.key_at.Goals as goal

pub returns-clause-value : goal.returns-clause-value
returns-clause-value g c = c.key_at.ensures.value c.args.self.now.number
