use Rattle.std.proofs.Common.{◌∙◌, ap, sym, subst}
use Rattle.ht_shared.specs.Passes.{Joined}
use Rattle.ht_shared.proofs.Seen.{shown, joined_from}
use Rattle.ht_shared.proofs.shared.Shared.join.Goals as goal

pub returns : goal.returns
returns g c =
    let old = c.pass.inside.place in
    let other = c.other.inside.place in
    let new = c.merge.new.place in
    let same = ap (λ p. p.table) c.pass.view_is ∙ c.requires.pass.0 in
    let same' = ap (λ p. p.table) c.other.view_is ∙ c.requires.other.0 in
    record {
      joined = subst (λ q. Joined q c.args.other (shown new.table_id new.me.0)) c.pass.view_is (subst (λ q. Joined (shown old.table_id old.me.0) q (shown new.table_id new.me.0)) (ap (λ t. shown t other.me.0) (same ∙ sym same') ∙ c.other.view_is)
          (joined_from old.table_id new.table_id old.me.0 other.me.0 c.args.self.now.start c.args.self.now.start new.me c.merge.ensures.board (ap (λ p. p.start) c.pass.view_is ∙ c.requires.pass.1) (ap (λ p. p.start) c.other.view_is ∙ c.requires.other.1) c.merge.ensures.joined c.merge.ensures.before));
    }
