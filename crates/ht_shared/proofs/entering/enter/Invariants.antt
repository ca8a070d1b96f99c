use Rattle.ht_shared.proofs.entering.enter.Given as goal

abbrev pub ghosts-enter_as : goal.ghosts-enter_as
ghosts-enter_as g a = record { event = g.row.T-Event.coded.code a.event.now; reply = g.row.T-Reply.coded.code a.reply.now }
