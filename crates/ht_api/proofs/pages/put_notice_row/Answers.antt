use Rattle.ht_api.proofs.pages.put_notice_row.Goals as goal

pub returns : goal.returns
returns c = rw (c.from.ensures, c.from-2.ensures) at c.put_short.ensures
