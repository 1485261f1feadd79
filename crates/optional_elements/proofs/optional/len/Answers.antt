use Rattle.optional_elements.proofs.optional.len.Goals as goal

pub returns-in-Some : goal.returns-in-Some
returns-in-Some g c = rw c.in-Some.is (rw c.len.ensures.0)
