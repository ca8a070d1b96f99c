use Rattle.std.proofs.Common.{◌≡◌, get_or, refl, ℕ, ◌+◌, ◌-◌, ◌/◌, ◌<◌, ◌≤◌, List, length, Some, sym, ◌∙◌, arith}
use Rattle.std.specs.Prelude.{slice_get}
use Rattle.std.proofs.lemmas.Option.{slice_get_read}
use Rattle.ht_due.specs.declared.due.Due.{Due}
use Rattle.ht_due.proofs.Between.{search_behind, search_front, some_there}
use Rattle.ht_due.proofs.blocks.narrowed.Goals as goal

middle_low : (low high : ℕ) → low + 1 < high → low < low + (high - low) / 2
middle_low low high l = omega arith

middle_high : (low high : ℕ) → low + 1 < high → low + (high - low) / 2 < high
middle_high low high l = omega arith

at_middle : (bs : List (List Due)) (middle high : ℕ) (b : List Due) → middle < high → high ≤ length bs → b ≡ get_or bs middle b → slice_get bs middle ≡ Some b
at_middle bs middle high b l h e = slice_get_read bs (length bs) middle b refl (omega arith) e

pub begins_behind-requires : goal.begins_behind-requires
begins_behind-requires c =
    let bs = c.args.blocks.now in
    let low = c.args.low in
    let high = c.args.high in
    let b = c.index-blocks-middle.result in
    let middle : ℕ = low + (high - low) / 2 in
    let l : low < middle = middle_low low high c.requires.more in
    some_there bs middle b c.requires.blocks.few c.requires.blocks.apart (omega arith) (at_middle bs middle high b (middle_high low high c.requires.more) c.requires.between.within c.index-blocks-middle.is)

pub returns-then-begins_behind-clause-between : goal.returns-then-begins_behind-clause-between
returns-then-begins_behind-clause-between c =
    let bs = c.args.blocks.now in
    let low = c.args.low in
    let high = c.args.high in
    let b = c.index-blocks-middle.result in
    let middle : ℕ = low + (high - low) / 2 in
    let l : low < middle = middle_low low high c.requires.more in
    let h : middle < high = middle_high low high c.requires.more in
    let at = at_middle bs middle high b h c.requires.between.within c.index-blocks-middle.is in
    search_front c.args.due bs low middle high b c.requires.blocks c.requires.between l h at (some_there bs middle b c.requires.blocks.few c.requires.blocks.apart (omega arith) at) (λ x is. sym c.if-begins_behind.true ∙ c.begins_behind.ensures x is)

pub returns-else-begins_behind-clause-between : goal.returns-else-begins_behind-clause-between
returns-else-begins_behind-clause-between c =
    let bs = c.args.blocks.now in
    let low = c.args.low in
    let high = c.args.high in
    let b = c.index-blocks-middle.result in
    let middle : ℕ = low + (high - low) / 2 in
    let l : low < middle = middle_low low high c.requires.more in
    let h : middle < high = middle_high low high c.requires.more in
    let at = at_middle bs middle high b h c.requires.between.within c.index-blocks-middle.is in
    search_behind c.args.due bs low middle high b c.requires.blocks c.requires.between h at (some_there bs middle b c.requires.blocks.few c.requires.blocks.apart (omega arith) at) (λ x is. sym c.if-begins_behind.false ∙ c.begins_behind.ensures x is)
