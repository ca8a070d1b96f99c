-- For private clauses: how a writer puts tokens behind those that are there.
use Rattle.std.specs.Prelude.{◌≡◌, ℕ, ◌+◌, ◌<◌, ◌≤◌, List, [], ◌∷◌, ◌++◌, Result, OnOk, OnErr, codes}
use Rattle.json.specs.Token.{Token, begin_object, end_object, key}
use Rattle.json.specs.Tree.{json_tokens, items_tokens, room}
use Rattle.json.specs.Written.{Written}
use Rattle.serde_json.specs.Data.{Data}
use Rattle.serde_json.specs.Written.{outline, items_outline}
use Rattle.ht_base.specs.declared.notice_page.NoticeRow.{NoticeRow}
use Rattle.ht_base.specs.declared.page.PageRow.{PageRow}
use Rattle.ht_base.specs.declared.shown_comments.ShownComment.{ShownComment}
use Rattle.ht_base.specs.declared.task_id.TaskId.{TaskId}
use Rattle.ht_api.specs.Contents.{comment_items, notice_items, page_items, task_items, texts, whole}

abbrev pub tokens_of : Data → List Token
tokens_of d = json_tokens (outline d)

-- the tokens are put behind those that are there. Where that fails, there was no room for all of them
pub record Puts {E : Type 0} (result : Result (Unit {0}) E) (old new : Written) (ts : List Token) : Type 0 where
  pub ok : OnOk result (new.tokens ≡ old.tokens ++ ts)
  pub before : new.before ≡ old.before
  pub spare : OnOk result (old.spare ≤ new.spare + room ts)
  pub full : OnErr result (old.spare < room ts)

-- of the tokens `all` that are to be put, these are left
pub record Going (start now : Written) (all left : List Token) : Type 0 where
  pub tokens : now.tokens ++ left ≡ start.tokens ++ all
  pub before : now.before ≡ start.before
  pub spare : start.spare + room left ≤ now.spare + room all

abbrev pub texts_left : List (List ℕ) → List Token
texts_left ts = items_tokens (items_outline (texts ts))

abbrev pub tasks_left : List TaskId → List Token
tasks_left ts = items_tokens (items_outline (task_items ts))

abbrev pub comments_left : List ShownComment → List Token
comments_left cs = items_tokens (items_outline (comment_items cs))

abbrev pub page_left : List PageRow → List Token
page_left rs = items_tokens (items_outline (page_items rs))

abbrev pub notices_left : List NoticeRow → List Token
notices_left rs = items_tokens (items_outline (notice_items rs))

-- the tokens of members, and what comes behind them
abbrev pub rows_then : List (List ℕ × Data) → List Token → List Token
rows_then [] tail = tail
rows_then (r ∷ rs) tail = key r.0 ∷ (tokens_of r.1 ++ rows_then rs tail)

abbrev pub object_tokens : List (List ℕ × Data) → List Token
object_tokens rs = begin_object ∷ rows_then rs (end_object ∷ [])

-- the tokens before the rows of a list, and behind them
abbrev pub list_begun : List Token
list_begun = begin_object ∷ key (codes "rows") ∷ []

abbrev pub list_ended : ℕ → List Token
list_ended total = key (codes "total") ∷ (tokens_of (whole total) ++ end_object ∷ [])
