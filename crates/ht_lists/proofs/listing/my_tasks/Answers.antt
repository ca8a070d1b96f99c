use Rattle.std.proofs.Common.{◌≡◌, ◌+◌, ◌∙◌, ap, filter, fold, length, map, sym}
use Rattle.std.specs.List.{filter_map}
use Rattle.ht_lists.specs.Best.{best_of, with_key}
use Rattle.ht_lists.specs.Keys.{compare_keys, key_of}
use Rattle.ht_lists.specs.Lists.{compare_rows, is_listed, page_row, part_of, tasks_of}
use Rattle.ht_lists.specs.Shown.{shown_at}
use Rattle.ht_lists.specs.Sorted.{sorted_by}
use Rattle.ht_lists.proofs.BestKeys.{best_is, part_of_first}
use Rattle.ht_lists.proofs.FirstFew.{length-sorted}
use Rattle.ht_lists.proofs.RowsFound.{length-map}
use Rattle.ht_lists.proofs.TasksShown.{page_is}
use Rattle.ht_lists.proofs.listing.my_tasks.Goals as goal

pub returns : goal.returns
returns c =
    let t = c.args.tables.now.tables in
    let from = c.args.from in
    let count = c.args.count in
    let listed = filter (is_listed t c.args.person c.args.role c.args.which) t.rows in
    let keys = map key_of listed in
    let tasks = tasks_of t c.args.person c.args.role c.args.which in
    let best : c.offer_listed.new.best ≡ best_of (from + count) keys =
    c.in_ok-offer_listed.ensures.offered ∙ ap (λ b. fold with_key b keys) c.new-best.ensures ∙ best_is (from + count) keys in
    let rows : c.in_ok-rows.rows ≡ map (page_row t) (part_of from count tasks) =
    c.in_ok-rows.ensures
    ∙ ap (filter_map (shown_at t)) (c.part.ensures ∙ ap (part_of from count) (c.deref.ensures.value ∙ c.into_keys-keys.ensures ∙ ap (λ b. b.keys) best) ∙ part_of_first from count (sorted_by compare_keys keys))
    ∙ page_is t c.args.person c.args.role c.args.which from count c.offer_listed.ensures.sound in
    let total : c.total-total.result ≡ length tasks =
    c.total-total.ensures ∙ ap (λ b. b.total) best ∙ length-map key_of listed ∙ sym (length-sorted compare_rows listed) in
    λ i. record { rows = rows i; total = total i }
