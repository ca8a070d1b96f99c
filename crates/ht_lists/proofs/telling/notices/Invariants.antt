use Rattle.std.proofs.Common.{◌≡◌, ◌≤◌, ◌+◌, drop, length}
use Rattle.ht_lists.specs.Lists.{notice_page_of, told_from}
use Rattle.ht_lists.specs.Parts.{all_of}
use Rattle.ht_lists.proofs.telling.notices.Given as goal

abbrev pub invariant-loop-before : goal.invariant-loop-before
invariant-loop-before l = record {
  part : all_of l.part (told_from (l.before + 1) l.person (drop l.before l.tables.tables.notices)) ≡ (notice_page_of l.tables.tables l.person l.from l.count).rows;
  total : l.part.total + length (told_from (l.before + 1) l.person (drop l.before l.tables.tables.notices)) ≡ (notice_page_of l.tables.tables l.person l.from l.count).total;
  few : l.part.total ≤ l.before;
}
