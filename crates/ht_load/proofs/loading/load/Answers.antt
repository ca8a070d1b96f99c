use Rattle.std.proofs.Common.{◌≡◌, ℕ, length, refl, ap, subst, ◌∙◌, arith}
use Rattle.ht_tree.specs.Tables.{RoomyTables}
use Rattle.ht_load.proofs.Histories.{Goes, goes_more, goes_none}
use Rattle.ht_load.proofs.Loaded.{loaded}
use Rattle.ht_load.proofs.loading.load.Goals as goal

pub loop-k-init : goal.loop-k-init
loop-k-init g c = goes_none g.D.Disk _ _ _ _ refl refl c.requires.at

pub loop-k-preserved : goal.loop-k-preserved
loop-k-preserved g c = goes_more g.D.Disk _ _ _ _ _ _ _ _ _ _ _ _ c.loop-k.invariant c.make_one-answered.ensures.makes c.make_one-answered.ensures.draws c.make_one-answered.ensures.goes_on

pub returns-clause-loads : goal.returns-clause-loads
returns-clause-loads g c =
    let d = g.D.Disk in
    let steps = c.a_step_of_a_desk_is_made_of_the_machines.ensures in
    let all : c.loop-k.k ≡ c.args.count = omega (arith, c.loop-k-test.false, c.loop-k.auto.k-end) in
    let goes = subst (λ (k : ℕ). Goes d c.args.seed k c.loop-k.draws.x c.args.desk.now c.loop-k.desk c.args.disk.now c.loop-k.disk c.loop-k.answered) all c.loop-k.invariant in
    let tasks : c.rows.result ≡ length ((c.loop-k.desk.tables).tables).rows = c.rows.ensures.value ∙ ap (λ (t : RoomyTables). length (t.tables).rows) c.tables.ensures in
    loaded steps.settles steps.acts c.a_step_of_a_desk_fails_with_its_disk_alone.ensures.certain d _ _ _ _ _ _ _ _ _ goes (record { requests = refl; accepted = refl; refused = refl; tasks = tasks })
