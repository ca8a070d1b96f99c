-- How far the taking of a part of a list has come.
use Rattle.std.specs.Prelude.{◌≡◌, ◌+◌, List, ◌++◌, length}
use Rattle.ht_base.specs.declared.notice_page.NoticeRow.{NoticeRow}
use Rattle.ht_lists.specs.declared.telling.Part.{Part}
use Rattle.ht_lists.specs.Lists.{part_of}

-- what was taken, and what will be of these
abbrev pub all_of : Part → List NoticeRow → List NoticeRow
all_of p later = p.rows ++ part_of p.passed p.left later

-- From a list that is left some were looked at.
pub record Looks (earlier : List NoticeRow) (old : Part) (later : List NoticeRow) (new : Part) : Type 0 where
  pub all : all_of new later ≡ all_of old earlier
  pub total : new.total + length later ≡ old.total + length earlier
