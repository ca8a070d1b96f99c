use Rattle.ht_desk.proofs.Turned.{has_turned, settled_stays, stepped_stays, taken_after}
use Rattle.ht_desk.proofs.laws.a_desk_takes_each_deadline_once.Goals as goal

pub returns : goal.returns
returns c =
    let law = c.a_deadline_is_taken_once.ensures in
    record {
      turned = has_turned;
      stays = λ s e reply t p low mid task place taken. stepped_stays law.stays task place s e reply t p low.numbered mid.numbered taken;
      never_again = λ s at reply t p low mid w task place taken. law.never_again _ (p.mid).tables w.turned w.dues task place mid.numbered w.turn (settled_stays law.stays task place s p.mid p.settles low.numbered taken);
      taken = λ s at reply t p mid w task place among. taken_after law.taken (p.mid).tables _ reply t.tables w task place mid.numbered among;
    }
