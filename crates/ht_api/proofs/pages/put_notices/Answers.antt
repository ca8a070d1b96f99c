use Rattle.std.proofs.Common.{◌<◌, rules}
use Rattle.json.specs.Tree.{room}
use Rattle.serde_json.specs.Data.{array}
use Rattle.ht_api.specs.Contents.{list_data, notice_items}
use Rattle.ht_api.specs.Writing.{list_begun, list_ended, tokens_of}
use Rattle.ht_api.proofs.Going.{begun, ended, then_full, then_put}
use Rattle.ht_api.proofs.pages.put_notices.Goals as goal

pub returns : goal.returns
returns c =
    let p = c.args.page.now in
    let start = c.args.writer.now in
    let all = tokens_of (list_data (notice_items p.rows) p.total) in
    let o = c.in_ok-open_list.ensures in
    let r = rw c.as_slice.ensures at c.in_ok-put_notice_rows.ensures in
    let opened = then_put start start c.open_list.new.writer all list_begun _ (begun start all) o.ok o.before o.spare in
    let put = then_put start c.open_list.new.writer c.put_notice_rows.new.writer all (tokens_of (array (notice_items p.rows))) (list_ended p.total) opened r.ok r.before r.spare in
    ended start c.put_notice_rows.new.writer c.close_list.new.writer all c.close_list.result (list_ended p.total) put c.close_list.ensures

pub returns-in_err-put_notice_rows : goal.returns-in_err-put_notice_rows
returns-in_err-put_notice_rows c =
    let p = c.args.page.now in
    let start = c.args.writer.now in
    let all = tokens_of (list_data (notice_items p.rows) p.total) in
    let o = c.in_ok-open_list.ensures in
    let opened = then_put start start c.open_list.new.writer all list_begun _ (begun start all) o.ok o.before o.spare in
    let full : start.spare < room all = then_full start c.open_list.new.writer c.put_notice_rows.new.writer all (tokens_of (array (notice_items p.rows))) (list_ended p.total) opened (rw c.as_slice.ensures at c.in_err-put_notice_rows.ensures).full in
    search rules
