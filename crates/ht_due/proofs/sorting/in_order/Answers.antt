use Rattle.std.proofs.Common.{◌≡◌, ap, subst, sym, ◌∙◌}
use Rattle.std.specs.List.{dedup}
use Rattle.std.specs.Ordering.{is_eq}
use Rattle.std.proofs.lemmas.List.Filters.{dedup_is}
use Rattle.std.proofs.lemmas.List.Sorted.{list_any-IsPermutation}
use Rattle.ht_due.specs.declared.due.Due.{Due}
use Rattle.ht_due.specs.Dues.{Ascends, compare_dues, has}
use Rattle.ht_due.proofs.InOrder.{ordered}
use Rattle.ht_due.proofs.Sorted.{has_dedup, same, sorted_ascends}
use Rattle.ht_due.proofs.sorting.in_order.Goals as goal

pub returns-clause-value : goal.returns-clause-value
returns-clause-value c =
    let sorted = c.sort_unstable.new.self.items in
    let is : c.dedup.new.self.items ≡ dedup same sorted = dedup_is {X = Due} _ _ _ c.dedup.ensures.filtered in
    ordered c.dedup.new.self.items c.args.dues.now.items
    (subst Ascends (sym is) (sorted_ascends sorted c.sort_unstable.ensures.sorted))
    (λ q. ap (has q) is ∙ has_dedup q sorted ∙ sym (list_any-IsPermutation (λ x. is_eq (compare_dues q x)) c.args.dues.now.items sorted c.sort_unstable.ensures.permutation))
