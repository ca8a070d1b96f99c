use Rattle.ht_api.proofs.faults.put_refusal.Goals as goal

pub returns-in-Ownerless-clause-puts : goal.returns-in-Ownerless-clause-puts
returns-in-Ownerless-clause-puts c = rw c.in-Ownerless.is c.put_fault-in-Ownerless.ensures.puts

pub returns-in-NotDelegatee-clause-puts : goal.returns-in-NotDelegatee-clause-puts
returns-in-NotDelegatee-clause-puts c = rw c.in-NotDelegatee.is c.put_named_fault-in-NotDelegatee.ensures.puts

pub returns-in-NoOwners-clause-puts : goal.returns-in-NoOwners-clause-puts
returns-in-NoOwners-clause-puts c = rw c.in-NoOwners.is c.put_fault-in-NoOwners.ensures.puts

pub returns-in-SubRefused-clause-puts : goal.returns-in-SubRefused-clause-puts
returns-in-SubRefused-clause-puts c = rw c.in-SubRefused.is c.put_named_fault-in-SubRefused.ensures.puts

pub returns-in-UntilPast-clause-puts : goal.returns-in-UntilPast-clause-puts
returns-in-UntilPast-clause-puts c = rw c.in-UntilPast.is c.put_fault-in-UntilPast.ensures.puts
