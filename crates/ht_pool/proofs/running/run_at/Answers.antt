use Rattle.std.proofs.Common.{refl, sym, length, map}
use Rattle.std.proofs.lemmas.List.{length-map}
use Rattle.ht_pool.specs.Gathering.{seat_of, worker_of}
use Rattle.ht_pool.proofs.Staff.{still_of}
use Rattle.ht_pool.proofs.Whole.{all_joined_from, is_first_from, of_shared_from, ran_from, staffed_of}
use Rattle.ht_pool.proofs.running.run_at.Goals as goal

pub run_beside-pass-requires-clause-workers : goal.run_beside-pass-requires-clause-workers
run_beside-pass-requires-clause-workers g c κs within = staffed_of g.T.Stepper.relates c.args.shared c.args.first c.staff.new.first c.give-pass.new.first (map (λ s. seat_of (g.D.Door.door_state s.door) s.share) c.args.seats.items) (length c.args.seats.items) (sym (length-map c.args.seats.items (λ s. seat_of (g.D.Door.door_state s.door) s.share))) c.requires.first c.staff.ensures.given c.give-pass.ensures.given (map (λ w. worker_of w.pass (g.D.Door.door_state w.door) w.share w.ending) c.staff.new.workers.items) c.staff.ensures.staff

pub gather-requires-clause-others : goal.gather-requires-clause-others
gather-requires-clause-others g c κs within = still_of g.T.Stepper.relates c.args.shared (map (λ w. worker_of w.pass (g.D.Door.door_state w.door) w.share w.ending) c.staff.new.workers.items) (map (λ w. worker_of w.pass (g.D.Door.door_state w.door) w.share w.ending) c.run_beside-pass.result.1.items) c.run_beside-pass.ensures.workers (staffed_of g.T.Stepper.relates c.args.shared c.args.first c.staff.new.first c.give-pass.new.first (map (λ s. seat_of (g.D.Door.door_state s.door) s.share) c.args.seats.items) (length c.args.seats.items) (sym (length-map c.args.seats.items (λ s. seat_of (g.D.Door.door_state s.door) s.share))) c.requires.first c.staff.ensures.given c.give-pass.ensures.given (map (λ w. worker_of w.pass (g.D.Door.door_state w.door) w.share w.ending) c.staff.new.workers.items) c.staff.ensures.staff)

pub close-requires-clause-pass : goal.close-requires-clause-pass
close-requires-clause-pass g c = of_shared_from g.T.Stepper.relates c.args.shared c.args.first c.staff.new.first c.give-pass.new.first (map (λ s. seat_of (g.D.Door.door_state s.door) s.share) c.args.seats.items) (length c.args.seats.items) (sym (length-map c.args.seats.items (λ s. seat_of (g.D.Door.door_state s.door) s.share))) c.requires.first c.staff.ensures.given c.give-pass.ensures.given c.give-pass.result c.run_beside-pass.result.0 c.join.new.pass c.gather.new.first c.give-pass.ensures.pass c.run_beside-pass.ensures.pass (map (λ w. worker_of w.pass (g.D.Door.door_state w.door) w.share w.ending) c.staff.new.workers.items) (map (λ w. worker_of w.pass (g.D.Door.door_state w.door) w.share w.ending) c.run_beside-pass.result.1.items) c.staff.ensures.staff c.run_beside-pass.ensures.workers c.join.ensures.joined c.gather.ensures.passes

pub close-requires-clause-first : goal.close-requires-clause-first
close-requires-clause-first g c = is_first_from g.T.Stepper.relates c.args.shared c.args.first c.staff.new.first c.give-pass.new.first (map (λ s. seat_of (g.D.Door.door_state s.door) s.share) c.args.seats.items) (length c.args.seats.items) (sym (length-map c.args.seats.items (λ s. seat_of (g.D.Door.door_state s.door) s.share))) c.requires.first c.staff.ensures.given c.give-pass.ensures.given c.give-pass.result c.run_beside-pass.result.0 c.join.new.pass c.gather.new.first c.give-pass.ensures.pass c.run_beside-pass.ensures.pass (map (λ w. worker_of w.pass (g.D.Door.door_state w.door) w.share w.ending) c.staff.new.workers.items) (map (λ w. worker_of w.pass (g.D.Door.door_state w.door) w.share w.ending) c.run_beside-pass.result.1.items) c.staff.ensures.staff c.run_beside-pass.ensures.workers c.join.ensures.joined c.gather.ensures.passes

pub close-requires-clause-all : goal.close-requires-clause-all
close-requires-clause-all g c = all_joined_from g.T.Stepper.relates c.args.shared c.args.first c.staff.new.first c.give-pass.new.first (map (λ s. seat_of (g.D.Door.door_state s.door) s.share) c.args.seats.items) (length c.args.seats.items) (sym (length-map c.args.seats.items (λ s. seat_of (g.D.Door.door_state s.door) s.share))) c.requires.first c.staff.ensures.given c.give-pass.ensures.given c.give-pass.result c.run_beside-pass.result.0 c.join.new.pass c.gather.new.first c.give-pass.ensures.pass c.run_beside-pass.ensures.pass (map (λ w. worker_of w.pass (g.D.Door.door_state w.door) w.share w.ending) c.staff.new.workers.items) (map (λ w. worker_of w.pass (g.D.Door.door_state w.door) w.share w.ending) c.run_beside-pass.result.1.items) c.staff.ensures.staff c.run_beside-pass.ensures.workers c.join.ensures.joined c.gather.ensures.passes

pub returns-clause-ran : goal.returns-clause-ran
returns-clause-ran g c = ran_from g.T.Stepper.relates c.args.shared c.args.first c.staff.new.first c.give-pass.new.first (map (λ s. seat_of (g.D.Door.door_state s.door) s.share) c.args.seats.items) (length c.args.seats.items) (sym (length-map c.args.seats.items (λ s. seat_of (g.D.Door.door_state s.door) s.share))) c.requires.first c.staff.ensures.given c.give-pass.ensures.given c.give-pass.result c.run_beside-pass.result.0 c.join.new.pass c.gather.new.first c.give-pass.ensures.pass c.run_beside-pass.ensures.pass (map (λ w. worker_of w.pass (g.D.Door.door_state w.door) w.share w.ending) c.staff.new.workers.items) (map (λ w. worker_of w.pass (g.D.Door.door_state w.door) w.share w.ending) c.run_beside-pass.result.1.items) c.staff.ensures.staff c.run_beside-pass.ensures.workers c.join.ensures.joined c.gather.ensures.passes c.args.crew.now c.args.crew.now.bounded.0 c.close.result (g.D.Door.door_state c.args.door.now) (g.D.Door.door_state c.gather.new.door) c.requires.seats c.requires.count c.gather.result c.gather.ensures.doors c.gather.ensures.ending c.close.ensures.value c.close.ensures.legal c.close.ensures.entries c.close.ensures.found
