use Rattle.std.proofs.Common.{◌≡◌, ◌∙◌, map, rules, Some, string_bytes, append-nil}
use Rattle.std.specs.List.Sorted.{IsStrictlySortedBy}
use Rattle.std.specs.Map.{keys_of}
use Rattle.std.specs.String.{string_cmp}
use Rattle.toml.specs.View.{view}
use Rattle.ht_toml.specs.Values.{row_of}
use Rattle.ht_toml.proofs.KeyOrder.{keys, keys_ascend, spelled, spelled_more}
use Rattle.ht_toml.proofs.ReadRows.{before_all, before_more}
use Rattle.ht_toml.proofs.rows.pairs.Goals as goal

pub loop-key-init : goal.loop-key-init
loop-key-init g c = record {
  read = before_all (row_of g.K.KeyShape.of_key g.V.Shape.of) c.args.table.now.entries ∙ search rules;
  spelled = search rules;
}

pub loop-key-preserved : goal.loop-key-preserved
loop-key-preserved g c =
    let i = c.loop-key.invariant in
    let is : row_of g.K.KeyShape.of_key g.V.Shape.of (string_bytes c.in-Some.key.now, view c.in-Some.value.now) ≡ Some (c.in-Some-read_key.key, c.in-Some-2.value) = search rules in
    let more = before_more (row_of g.K.KeyShape.of_key g.V.Shape.of) (string_bytes c.in-Some.key.now, view c.in-Some.value.now) (map (λ e. (string_bytes e.0, view e.1)) c.next.new.self) (c.in-Some-read_key.key, c.in-Some-2.value) c.loop-key.pairs.items is in
    let same : g.K.KeyShape.spelling c.in-Some-read_key.key ≡ string_bytes c.in-Some.key.now = search rules in
    let put = spelled_more g.K.KeyShape.spelling (keys c.next.new.self) c.in-Some-read_key.key c.in-Some-2.value c.loop-key.pairs.items same in
    record {
      read = search (more, i.read, rules);
      spelled = search (put, i.spelled, rules);
    }

pub returns-clause-ascend : goal.returns-clause-ascend
returns-clause-ascend g c =
    let i = c.loop-key.invariant in
    let all : spelled g.K.KeyShape.spelling c.loop-key.pairs.items ≡ keys c.args.table.now.entries = search (i.spelled, append-nil, rules) in
    let ordered : IsStrictlySortedBy string_cmp (keys_of c.args.table.now.entries) = search (c.into_iter-key-iterator.ensures.into_iter_gives, rules) in
    keys_ascend g.K.KeyShape.spelling c.args.table.now.entries c.loop-key.pairs.items ordered all
